-- What holds of each file that breaks no rule, as opening a portal requires.
use Rattle.std.proofs.Common.{◌≡◌, ℕ, Bool, true, false, not, ◌&&◌, List, [], ◌∷◌, ◌++◌, Option}
use Rattle.std.proofs.Common.{Some, None, IfSome, IfOk}
use Rattle.std.proofs.Common.{arith, refl, sym, ap, ◌∙◌, length, nat_le, nat_lt, codes, option_map}
use Rattle.std.specs.Prelude.{if◌then◌else◌, option_and_then, IsTrue}
use Rattle.std.specs.List.{list_all}
use Rattle.std.specs.Str.{bytes_eq}
use Rattle.std.proofs.lemmas.Bool.{and_parts, and_from, lt-ltb, or_left, or_right}
use Rattle.std.proofs.lemmas.List.Folds.{list_all-append, list_any-append}
use Rattle.std.proofs.lemmas.Option.{MatchOption-at_some, none-some}
use Rattle.std.proofs.lemmas.Str.{chars-nil}
use Rattle.portal_base.specs.Name.{is_name_character}
use Rattle.org_roles.proofs.PeopleLemmas.{equal}
use Rattle.org_roles.specs.Distinct.{have_distinct_names, have_distinct_pairs, is_org_name_among}
use Rattle.org_roles.specs.declared.entry.Org.{Org}
use Rattle.org_roles.specs.declared.role.Role.{Role}
use Rattle.portal_file.specs.declared.entries.NamedRole.{NamedRole}
use Rattle.portal_file.specs.declared.entries.Orgs.{Orgs}
use Rattle.portal_file.specs.declared.entries.Users.{Users}
use Rattle.portal_file.specs.declared.file.PortalFile.{PortalFile}
use Rattle.portal_file.specs.declared.rule.FileRule.{FileRule}
use Rattle.portal_file.specs.declared.rule.FileRule.TheVariants as rule
use Rattle.portal_file.specs.File.{file_if, file_with_users, file_of_tables, membership_for, memberships_of}
use Rattle.portal_file.specs.Opening.{AreConsistent, are_named, are_in_orgs}
use Rattle.portal_file.specs.Rules.{broken_rule, role_named, is_file_name, have_file_names, have_org_file_names}
use Rattle.portal_file.specs.Rules.{have_digests, have_distinct_digests}
use Rattle.portal_file.specs.Tables.{read_items, joined_orgs, no_orgs, named_role, roles_of}
use Rattle.portal_file.specs.Tables.{roles_for, roles_in, one_org}
use Rattle.portal_file.specs.Tables.{org_in, org_of, orgs_of, orgs_for, orgs_in, users_in}
use Rattle.toml.specs.Data.{Data, Items, no_items, item, Members, no_members, member, as_str, as_table, as_array}
use Rattle.toml.specs.Data.{get_member}

-- ---- users and organizations that break no rule

passed : (kept : Bool) (broken : FileRule) (rest : Option FileRule) → (if not kept then Some broken else rest) ≡ None
    → (kept ≡ true) × (rest ≡ None)
passed true broken rest e = (refl, e)
passed false broken rest e = absurd (none-some broken (sym e))

orgs_texts : (users : Users) (orgs : Orgs) → broken_rule users orgs ≡ None → have_org_file_names orgs.orgs ≡ true
orgs_texts users orgs e =
    let (_, e1) = passed (have_file_names users.users) rule.UserName _ e in
    let (_, e2) = passed (have_distinct_names users.users) rule.RepeatedUser _ e1 in
    let (_, e3) = passed (have_digests users.tokens) rule.Token _ e2 in
    let (_, e4) = passed (have_distinct_digests users.tokens) rule.RepeatedToken _ e3 in
    (passed (have_org_file_names orgs.orgs) rule.OrganizationName _ e4).0

-- the file of users and organizations that break no rule
abbrev file_from : Users → Orgs → PortalFile
file_from users orgs = record {
  users = users.users;
  orgs = orgs.orgs;
  roles = memberships_of orgs.roles;
  tokens = users.tokens;
}

-- What follows for a file when its users and organizations break no rule holds of each file.
module _ (P : PortalFile → Type 0) (Q : Orgs → Type 0)
    (from : (users : Users) (orgs : Orgs) → broken_rule users orgs ≡ None → Q orgs → P (file_from users orgs)) where
  if_unbroken : (broken : Option FileRule) (users : Users) (orgs : Orgs) → broken_rule users orgs ≡ broken → Q orgs
      → IfOk (file_if broken users orgs) P
  if_unbroken None users orgs e q = from users orgs e q
  if_unbroken (Some broken) users orgs e q = tt

  if_told : (users : Option Users) (orgs : Option Orgs) → IfSome orgs Q → IfOk (file_with_users users orgs) P
  if_told (Some users) (Some orgs) q = if_unbroken (broken_rule users orgs) users orgs refl q
  if_told (Some users) None q = tt
  if_told None (Some orgs) q = tt
  if_told None None q = tt

  pub each_file : (tables : Members) → IfSome (orgs_in tables) Q → IfOk (file_of_tables (Some tables)) P
  each_file tables q = if_told (users_in tables) (orgs_in tables) q

-- ---- names

any_orgs : (orgs : Option Orgs) → IfSome orgs (λ _. true ≡ true)
any_orgs None = tt
any_orgs (Some orgs) = refl

all_weaker : {X : Type 0} (p q : X → Bool) → ((x : X) → p x ≡ true → q x ≡ true) → (xs : List X)
    → list_all p xs ≡ true → list_all q xs ≡ true
all_weaker p q keep [] e = refl
all_weaker p q keep (x ∷ xs) e =
    let (here, more) = and_parts (p x) (list_all p xs) e in
    and_from (q x) (list_all q xs) (keep x here) (all_weaker p q keep xs more)

-- a name of a file isn't empty
some_text : (text : List ℕ) → is_file_name text ≡ true → nat_lt 0 (length text) ≡ true
some_text [] e =
    ap (λ cs. (nat_le 2 (length cs) && nat_le (length cs) 100) && list_all is_name_character cs) (sym chars-nil) ∙ e
some_text (c ∷ cs) e = lt-ltb 0 (length (c ∷ cs)) (omega arith)

pub orgs_named : (tables : Members) → IfOk (file_of_tables (Some tables)) (λ file. IsTrue (are_named file.orgs))
orgs_named tables =
    each_file (λ file. IsTrue (are_named file.orgs)) (λ _. true ≡ true)
    (λ users orgs e _. all_weaker (λ org. is_file_name org.name) (λ org. nat_lt 0 (length org.name))
    (λ org. some_text org.name) orgs.orgs (orgs_texts users orgs e)) tables (any_orgs _)

-- ---- roles and their organizations

-- What holds of nothing, of what each item says and of two that are joined holds of what the items say.
module _ {A : Type 0} (join : A → A → A) (nothing : A) (read : Data → Option A) (P : A → Type 0) where
  one_more : ((a b : A) → P a → P b → P (join a b)) → (first more : Option A) → IfSome first P → IfSome more P
      → IfSome (option_and_then (λ a. option_map (join a) more) first) P
  one_more both None more p q = tt
  one_more both (Some a) None p q = tt
  one_more both (Some a) (Some b) p q = both a b p q

  pub items_keep : P nothing → ((a b : A) → P a → P b → P (join a b)) → ((d : Data) → IfSome (read d) P)
      → (items : Items) → IfSome (read_items join nothing read items) P
  items_keep none both each no_items = none
  items_keep none both each (item d ds) =
      one_more both (read d) (read_items join nothing read ds) (each d) (items_keep none both each ds)

-- each role is in an organization of the same list
abbrev is_in_orgs : List Org → NamedRole → Bool
is_in_orgs orgs r = is_org_name_among orgs r.org

abbrev HaveRolesInOrgs : Orgs → Type 0
HaveRolesInOrgs o = list_all (is_in_orgs o.orgs) o.roles ≡ true

-- What holds of each role in the organization holds of all the roles of a table.
module _ (org : List ℕ) (test : NamedRole → Bool)
    (each : (user role : List ℕ) → test (named_role org user role) ≡ true) where
  one_role : (user : List ℕ) (role : Option (List ℕ)) (more : Option (List NamedRole))
      → IfSome more (λ rs. list_all test rs ≡ true)
      → IfSome (option_and_then (λ role. option_map (λ others. named_role org user role ∷ others) more) role)
      (λ rs. list_all test rs ≡ true)
  one_role user None more q = tt
  one_role user (Some role) None q = tt
  one_role user (Some role) (Some rs) q = and_from _ _ (each user role) q

  table_roles : (table : Members) → IfSome (roles_of org table) (λ rs. list_all test rs ≡ true)
  table_roles no_members = refl
  table_roles (member user value rest) = one_role user (as_str value) (roles_of org rest) (table_roles rest)

  some_table : (table : Option Members)
      → IfSome (option_and_then (roles_of org) table) (λ rs. list_all test rs ≡ true)
  some_table None = tt
  some_table (Some table) = table_roles table

  pub all_roles : (value : Option Data) → IfSome (roles_for org value) (λ rs. list_all test rs ≡ true)
  all_roles None = refl
  all_roles (Some value) = some_table (as_table value)

own_roles : (org : Org) (table : Members)
    → IfSome (roles_in org.name table) (λ rs. list_all (is_in_orgs (org ∷ [])) rs ≡ true)
own_roles org table =
    all_roles org.name (is_in_orgs (org ∷ [])) (λ user role. or_left (bytes_eq org.name org.name) false
    (equal org.name))
    (get_member (codes "roles") table)

with_roles : (org : Org) (roles : Option (List NamedRole))
    → IfSome roles (λ rs. list_all (is_in_orgs (org ∷ [])) rs ≡ true)
    → IfSome (option_map (λ rs. record { orgs = org ∷ []; roles = rs }) roles) HaveRolesInOrgs
with_roles org None q = tt
with_roles org (Some rs) q = q

one_in_orgs : (table : Members) (org : Option Org) → IfSome (option_and_then
    (λ org. option_map (λ roles. record { orgs = org ∷ []; roles = roles })
    (roles_in org.name table)) org) HaveRolesInOrgs
one_in_orgs table None = tt
one_in_orgs table (Some org) = with_roles org (roles_in org.name table) (own_roles org table)

org_in_orgs : (table : Option Members) → IfSome (option_and_then one_org table) HaveRolesInOrgs
org_in_orgs None = tt
org_in_orgs (Some table) = one_in_orgs table (org_in table)

-- Things that are in organizations are in them where both are joined with others.
pub in_orgs-append : {X : Type 0} (org_of_item : X → List ℕ) (os ps : List Org) (xs ys : List X)
    → list_all (λ x. is_org_name_among os (org_of_item x)) xs ≡ true
    → list_all (λ y. is_org_name_among ps (org_of_item y)) ys ≡ true
    → list_all (λ x. is_org_name_among (os ++ ps) (org_of_item x)) (xs ++ ys) ≡ true
in_orgs-append org_of_item os ps xs ys p q =
    list_all-append (λ x. is_org_name_among (os ++ ps) (org_of_item x)) xs ys ∙ and_from _ _
    (all_weaker (λ x. is_org_name_among os (org_of_item x)) (λ x. is_org_name_among (os ++ ps) (org_of_item x))
    (λ x e. list_any-append (λ o. bytes_eq o.name (org_of_item x)) os ps ∙ or_left _ _ e) xs p)
    (all_weaker (λ y. is_org_name_among ps (org_of_item y)) (λ y. is_org_name_among (os ++ ps) (org_of_item y))
    (λ y e. list_any-append (λ o. bytes_eq o.name (org_of_item y)) os ps ∙ or_right _ _ e) ys q)

joined_in_orgs : (a b : Orgs) → HaveRolesInOrgs a → HaveRolesInOrgs b → HaveRolesInOrgs (joined_orgs a b)
joined_in_orgs a b = in_orgs-append (λ r. r.org) a.orgs b.orgs a.roles b.roles

list_in_orgs : (list : Option Items) → IfSome (option_and_then orgs_of list) HaveRolesInOrgs
list_in_orgs None = tt
list_in_orgs (Some items) =
    items_keep joined_orgs no_orgs org_of HaveRolesInOrgs refl joined_in_orgs (λ d. org_in_orgs (as_table d)) items

value_in_orgs : (value : Option Data) → IfSome (orgs_for value) HaveRolesInOrgs
value_in_orgs None = refl
value_in_orgs (Some value) = list_in_orgs (as_array value)

-- The memberships of roles are in the organizations of the roles.
memberships_keep : (test : List ℕ → Bool) (rs : List NamedRole) → list_all (λ r. test r.org) rs ≡ true
    → list_all (λ m. test m.org) (memberships_of rs) ≡ true
memberships_keep test [] e = refl
memberships_keep test (r ∷ rs) e =
    let (here, more) = and_parts (test r.org) (list_all (λ r. test r.org) rs) e in
    one (role_named r.role) here (memberships_keep test rs more)
  where
    one : (role : Option Role) → test r.org ≡ true → list_all (λ m. test m.org) (memberships_of rs) ≡ true
        → list_all (λ m. test m.org) (membership_for r role ++ memberships_of rs) ≡ true
    one None here more = more
    one (Some role) here more = and_from _ _ here more

pub roles_in_orgs : (tables : Members)
    → IfOk (file_of_tables (Some tables)) (λ file. IsTrue (are_in_orgs file.orgs file.roles))
roles_in_orgs tables =
    each_file (λ file. IsTrue (are_in_orgs file.orgs file.roles)) HaveRolesInOrgs
    (λ users orgs _ in_orgs. memberships_keep (λ name. is_org_name_among orgs.orgs name) orgs.roles in_orgs)
    tables (value_in_orgs (get_member (codes "organization") tables))

-- The list of one organization with its roles, of which no two have the same user.
pub roles_paired : (org : Org) (table : Members) (roles : List NamedRole) → roles_in org.name table ≡ Some roles
    → have_distinct_pairs (memberships_of roles) ≡ true
    → AreConsistent (record { orgs = org ∷ []; roles = roles })
roles_paired org table roles e pairs = (
  memberships_keep (λ name. is_org_name_among (org ∷ []) name) roles
      (MatchOption-at_some _ (λ rs. list_all (is_in_orgs (org ∷ [])) rs ≡ true) roles e (own_roles org table)),
  λ _. pairs,
)

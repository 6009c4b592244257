-- No pair of organization and user occurs twice among the roles of a file.
use Rattle.std.proofs.Common.{◌≡◌, ℕ, Bool, true, false, not, ◌&&◌, ◌||◌, List, [], ◌∷◌, ◌++◌}
use Rattle.std.proofs.Common.{Option, Some, None, IfSome}
use Rattle.std.proofs.Common.{refl, sym, ap, ◌∙◌, option_map, string_bytes, String, Global, Less, is_eq}
use Rattle.std.specs.Prelude.{option_and_then}
use Rattle.std.specs.List.{AllByRecursion, list_all}
use Rattle.std.specs.List.Sorted.{IsStrictlySortedBy}
use Rattle.std.specs.Map.{keys_of}
use Rattle.std.specs.Str.{bytes_eq}
use Rattle.std.specs.String.{string_cmp}
use Rattle.std.proofs.lemmas.Bool.{and_parts, and_from, and_left, and_right, false≢true}
use Rattle.std.proofs.lemmas.Bool.{not_from_false, or_from, or_parts}
use Rattle.std.proofs.lemmas.List.{append_assoc}
use Rattle.std.proofs.lemmas.List.Folds.{list_any-append}
use Rattle.std.proofs.lemmas.Map.Text.{is_eq-slice_cmp}
use Rattle.std.proofs.lemmas.Slice.Eq.{bytes_eq-Decides}
use Rattle.org_roles.proofs.PeopleLemmas.{unequal}
use Rattle.org_roles.specs.Distinct.{have_distinct_org_names, have_distinct_pairs, is_org_name_among, is_pair_among}
use Rattle.org_roles.specs.declared.entry.Membership.{Membership}
use Rattle.org_roles.specs.declared.entry.Org.{Org}
use Rattle.org_roles.specs.declared.role.Role.{Role}
use Rattle.portal_file.specs.declared.entries.NamedRole.{NamedRole}
use Rattle.portal_file.specs.declared.entries.Orgs.{Orgs}
use Rattle.portal_file.specs.File.{membership_for, memberships_of}
use Rattle.portal_file.specs.Opening.{AreConsistent}
use Rattle.portal_file.specs.Rules.{role_named}
use Rattle.portal_file.specs.Tables.{joined_orgs, named_role, roles_of}
use Rattle.portal_file.proofs.OpeningLemmas.{in_orgs-append}
use Rattle.toml.proofs.Views.{Entry}
use Rattle.toml.specs.Data.{as_str}
use Rattle.toml.specs.View.{view, members_view}

not_true : (b : Bool) → not b ≡ true → b ≡ false
not_true true e = sym e
not_true false e = refl

-- ---- the roles of one table

-- a key that comes before another isn't that one
unlike : (k l : String Global) → string_cmp k l ≡ Less → bytes_eq (string_bytes l) (string_bytes k) ≡ false
unlike k l less = unequal (string_bytes l) (string_bytes k) (λ same. false≢true (ap is_eq (sym less)
    ∙ is_eq-slice_cmp (string_bytes k) (string_bytes l)
    ∙ (bytes_eq-Decides (string_bytes k) (string_bytes l)).1 (sym same)))

-- What holds of the memberships of the remaining roles, and of these after one more, holds of the memberships of all.
module _ (org user : List ℕ) (P Q : List Membership → Type 0) where
  with_one : (rs : List NamedRole) (text : List ℕ) (role : Option Role) → P (memberships_of rs)
      → ((role : Role) → Q (record { org = org; user = user; role = role } ∷ memberships_of rs))
      → (P (memberships_of rs) → Q (memberships_of rs))
      → Q (membership_for (named_role org user text) role ++ memberships_of rs)
  with_one rs text None p some none = none p
  with_one rs text (Some role) p some none = some role

  pub one_role : ((ms : List Membership) → P ms → Q ms)
      → ((ms : List Membership) (role : Role) → P ms → Q (record { org = org; user = user; role = role } ∷ ms))
      → (text : Option (List ℕ)) (more : Option (List NamedRole)) → IfSome more (λ rs. P (memberships_of rs))
      → IfSome (option_and_then (λ text. option_map (λ others. named_role org user text ∷ others) more) text)
      (λ rs. Q (memberships_of rs))
  one_role none some None more p = tt
  one_role none some (Some text) None p = tt
  one_role none some (Some text) (Some rs) p =
      with_one rs text (role_named text) p (λ role. some (memberships_of rs) role p) (none (memberships_of rs))

-- a user whose key comes before all others has no role among these
absent : (org : List ℕ) (k : String Global) (es : List Entry)
    → AllByRecursion (λ l. string_cmp k l ≡ Less) (keys_of es)
    → IfSome (roles_of org (members_view es)) (λ rs. is_pair_among (memberships_of rs) org (string_bytes k) ≡ false)
absent org k [] h = refl
absent org k (e ∷ es) h =
    let P : List Membership → Type 0 = λ ms. is_pair_among ms org (string_bytes k) ≡ false in
    one_role org (string_bytes e.0) P P (λ ms p. p)
    (λ ms role p. or_from _ _ (and_right (bytes_eq org org) _ (unlike k e.0 h.0)) p)
    (as_str (view e.1)) (roles_of org (members_view es)) (absent org k es h.1)

both : {X : Type 0} (P Q : X → Type 0) (o : Option X) → IfSome o P → IfSome o Q → IfSome o (λ x. P x × Q x)
both P Q None p q = tt
both P Q (Some x) p q = (p, q)

pub roles_apart : (org : List ℕ) (es : List Entry) → IsStrictlySortedBy string_cmp (keys_of es)
    → IfSome (roles_of org (members_view es)) (λ rs. have_distinct_pairs (memberships_of rs) ≡ true)
unfolding IsStrictlySortedBy
roles_apart org [] h = refl
roles_apart org (e ∷ es) h =
    let user = string_bytes e.0 in
    one_role org user (λ ms. (is_pair_among ms org user ≡ false) × (have_distinct_pairs ms ≡ true))
    (λ ms. have_distinct_pairs ms ≡ true) (λ ms p. p.1) (λ ms role p. and_from _ _ (not_from_false _ p.0) p.1)
    (as_str (view e.1)) (roles_of org (members_view es))
    (both (λ rs. is_pair_among (memberships_of rs) org user ≡ false)
    (λ rs. have_distinct_pairs (memberships_of rs) ≡ true) _ (absent org e.0 es h.0) (roles_apart org es h.1))

-- ---- organizations that are joined

memberships-append : (xs ys : List NamedRole) → memberships_of (xs ++ ys) ≡ memberships_of xs ++ memberships_of ys
memberships-append [] ys = refl
memberships-append (x ∷ xs) ys =
    ap (λ ms. membership_for x (role_named x.role) ++ ms) (memberships-append xs ys)
    ∙ sym (append_assoc (membership_for x (role_named x.role)) (memberships_of xs) (memberships_of ys))

-- none of the organizations has a name of the others
abbrev AreApart : List Org → List Org → Type 0
AreApart os ps = list_all (λ o. not (is_org_name_among ps o.name)) os ≡ true

org_names-parts : (os ps : List Org) → have_distinct_org_names (os ++ ps) ≡ true
    → (have_distinct_org_names os ≡ true) × (have_distinct_org_names ps ≡ true) × AreApart os ps
org_names-parts [] ps e = (refl, e, refl)
org_names-parts (o ∷ os) ps e =
    let (here, more) = and_parts (not (is_org_name_among (os ++ ps) o.name)) (have_distinct_org_names (os ++ ps)) e in
    let (front, back) = or_parts (is_org_name_among os o.name) (is_org_name_among ps o.name)
    (sym (list_any-append (λ p. bytes_eq p.name o.name) os ps) ∙ not_true _ here) in
    let (fronts, backs, apart) = org_names-parts os ps more in
    (and_from _ _ (not_from_false _ front) fronts, backs, and_from _ _ (not_from_false _ back) apart)

-- a name among the organizations isn't among those that are apart from them
not_among : (os ps : List Org) (name : List ℕ) → AreApart os ps → is_org_name_among os name ≡ true
    → is_org_name_among ps name ≡ false
not_among [] ps name apart e = absurd (false≢true e)
not_among (o ∷ os) ps name apart e =
    let (here, more) = and_parts (not (is_org_name_among ps o.name)) (list_all _ os) apart in
    by (bytes_eq o.name name) refl here e (λ f. not_among os ps name more f)
  where
    by : (same : Bool) → bytes_eq o.name name ≡ same → not (is_org_name_among ps o.name) ≡ true
        → (same || is_org_name_among os name) ≡ true
        → (is_org_name_among os name ≡ true → is_org_name_among ps name ≡ false) → is_org_name_among ps name ≡ false
    by true same here f goes_on =
        ap (is_org_name_among ps) (sym ((bytes_eq-Decides o.name name).0 same)) ∙ not_true _ here
    by false same here f goes_on = goes_on f

-- no role in organizations of the list is one in an organization that isn't there
no_pair : (ps : List Org) (ns : List Membership) (org user : List ℕ) → is_org_name_among ps org ≡ false
    → list_all (λ n. is_org_name_among ps n.org) ns ≡ true → is_pair_among ns org user ≡ false
no_pair ps [] org user none e = refl
no_pair ps (n ∷ ns) org user none e =
    let (here, more) = and_parts (is_org_name_among ps n.org) (list_all _ ns) e in
    or_from _ _ (and_left _ _ (unequal n.org org
    (λ same. false≢true (sym none ∙ ap (is_org_name_among ps) (sym same) ∙ here))))
    (no_pair ps ns org user none more)

pairs-append : (os ps : List Org) (ms ns : List Membership) → AreApart os ps
    → list_all (λ m. is_org_name_among os m.org) ms ≡ true → list_all (λ n. is_org_name_among ps n.org) ns ≡ true
    → have_distinct_pairs ms ≡ true → have_distinct_pairs ns ≡ true → have_distinct_pairs (ms ++ ns) ≡ true
pairs-append os ps [] ns apart here there p q = q
pairs-append os ps (m ∷ ms) ns apart here there p q =
    let (in_orgs, others) = and_parts (is_org_name_among os m.org) (list_all _ ms) here in
    let (first, more) = and_parts (not (is_pair_among ms m.org m.user)) (have_distinct_pairs ms) p in
    and_from _ _ (not_from_false _ (list_any-append (λ n. bytes_eq n.org m.org && bytes_eq n.user m.user) ms ns
    ∙ or_from _ _ (not_true _ first) (no_pair ps ns m.org m.user (not_among os ps m.org apart in_orgs) there)))
    (pairs-append os ps ms ns apart others there more q)

pub joined_paired : (a b : Orgs) → AreConsistent a → AreConsistent b → AreConsistent (joined_orgs a b)
joined_paired a b p q =
    let same = memberships-append a.roles b.roles in (
      ap (list_all (λ m. is_org_name_among (a.orgs ++ b.orgs) m.org)) same
          ∙ in_orgs-append (λ m. m.org) a.orgs b.orgs (memberships_of a.roles) (memberships_of b.roles) p.0 q.0,
      λ names. let (fronts, backs, apart) = org_names-parts a.orgs b.orgs names in
          ap have_distinct_pairs same
          ∙ pairs-append a.orgs b.orgs (memberships_of a.roles) (memberships_of b.roles) apart p.0 q.0
          (p.1 fronts) (q.1 backs),
    )

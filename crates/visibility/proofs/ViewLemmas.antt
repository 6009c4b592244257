-- In a caller's view of the people, the caller has the same flag of a sysadmin, roles and rights, and sees the same
-- datasets.
use Rattle.std.proofs.Common.{◌≡◌, ℕ, Bool, true, false, ◌&&◌, ◌||◌, cond, List, [], ◌∷◌, map, Some}
use Rattle.std.proofs.Common.{refl, sym, ap, ◌∙◌, subst}
use Rattle.std.specs.Prelude.{filter, find, IsTrue}
use Rattle.std.specs.List.{list_any}
use Rattle.std.specs.Option.{option_map}
use Rattle.std.specs.Str.{bytes_eq}
use Rattle.std.proofs.lemmas.Slice.Eq.{bytes_eq-Decides}
use Rattle.std.proofs.lemmas.List.Elements.{filter_agree}
use Rattle.std.proofs.lemmas.Map.Views.{any-filter_same}
use Rattle.portal_base.specs.declared.caller.Caller.{Caller}
use Rattle.portal_base.specs.declared.caller.Caller.TheVariants.{Anonymous, Named}
use Rattle.org_roles.specs.Distinct.{is_name_among}
use Rattle.org_roles.specs.PeopleLists.{PeopleLists, is_sysadmin_in, is_user_in, role_in}
use Rattle.org_roles.specs.Rights.{rights_for}
use Rattle.org_roles.specs.declared.entry.Membership.{Membership}
use Rattle.org_roles.specs.declared.entry.User.{User}
use Rattle.packages.specs.declared.package.Package.{Package}
use Rattle.visibility.specs.Visibility.{caller_role, sees_in, may_edit_in}
use Rattle.visibility.specs.View.{is_called, user_seen, administers, is_role_seen, people_seen, datasets_seen}
use Rattle.visibility.specs.View.{is_editing_role, edits_somewhere}
use Rattle.visibility.proofs.VisibilityLemmas.{sees_in-own, may_edit_in-own}

-- ---- lists

-- The first kept item that passes a test is the first item that passes both the test and the filter.
pub find_filter : {X : Type 0} (p q : X → Bool) (xs : List X) → find p (filter q xs) ≡ find (λ x. p x && q x) xs
find_filter p q [] = refl
find_filter {X} p q (x ∷ xs) = by (p x) (q x) refl (find_filter p q xs)
  where
    by : (a b : Bool) → p x ≡ a → find p (filter q xs) ≡ find (λ y. p y && q y) xs
        → find p (cond b (x ∷ filter q xs) (filter q xs)) ≡ cond (a && b) (Some x) (find (λ y. p y && q y) xs)
    by true true is rest = ap (λ c. cond c (Some x) (find p (filter q xs))) is
    by true false is rest = rest
    by false true is rest = ap (λ c. cond c (Some x) (find p (filter q xs))) is ∙ rest
    by false false is rest = rest

-- tests that agree find the same item
pub find_agree : {X : Type 0} (p q : X → Bool) → ((x : X) → p x ≡ q x) → (xs : List X) → find p xs ≡ find q xs
find_agree p q same [] = refl
find_agree p q same (x ∷ xs) = rw (same x, find_agree p q same xs) refl

-- If a filter keeps every item that passes a test, the test finds the same item among the kept ones.
pub find-kept : {X : Type 0} (p q : X → Bool) → ((x : X) → (p x && q x) ≡ p x) → (xs : List X)
    → find p (filter q xs) ≡ find p xs
find-kept p q kept xs = find_filter p q xs ∙ find_agree (λ x. p x && q x) p kept xs

-- filtering twice is filtering once
and_false : (a : Bool) → (a && false) ≡ false
and_false true = refl
and_false false = refl

-- What passes a test among what passes another passes both.
pub filter_both : {X : Type 0} (p q r : X → Bool) → ((x : X) → r x ≡ (p x && q x)) → (xs : List X)
    → filter p (filter q xs) ≡ filter r xs
filter_both p q r both [] = refl
filter_both {X} p q r both (x ∷ xs) = by (p x) refl (q x) refl (filter_both p q r both xs)
  where
    by : (a : Bool) → p x ≡ a → (b : Bool) → q x ≡ b → filter p (filter q xs) ≡ filter r xs
        → filter p (filter q (x ∷ xs)) ≡ filter r (x ∷ xs)
    by a pa false qb rest =
        let no : r x ≡ false = both x ∙ ap (λ b. p x && b) qb ∙ and_false (p x) in
        rw (qb, no) rest
    by true pa true qb rest =
        let yes : r x ≡ true = both x ∙ ap (λ b. p x && b) qb ∙ ap (λ a. a && true) pa in
        rw (qb, yes, pa) (ap (λ ys. x ∷ ys) rest)
    by false pa true qb rest =
        let no : r x ≡ false = both x ∙ ap (λ a. a && q x) pa in
        rw (qb, no, pa) rest

pub filter_twice : {X : Type 0} (q : X → Bool) (xs : List X) → filter q (filter q xs) ≡ filter q xs
filter_twice q [] = refl
filter_twice {X} q (x ∷ xs) = by (q x) refl (filter_twice q xs)
  where
    by : (b : Bool) → q x ≡ b → filter q (filter q xs) ≡ filter q xs
        → filter q (cond b (x ∷ filter q xs) (filter q xs)) ≡ cond b (x ∷ filter q xs) (filter q xs)
    by true is rest = ap (λ c. cond c (x ∷ filter q (filter q xs)) (filter q (filter q xs))) is ∙ ap (λ l. x ∷ l) rest
    by false is rest = rest

-- and so is filtering again by a test that agrees
pub filter-again : {X : Type 0} (p q : X → Bool) → ((x : X) → p x ≡ q x) → (xs : List X)
    → filter p (filter q xs) ≡ filter q xs
filter-again p q same xs = filter_agree p q same (filter q xs) ∙ filter_twice q xs

-- ---- the caller's own name

-- if a user has the caller's name, the caller has the user's name
pub called_by_name : (name user : List ℕ) → (bytes_eq name user && bytes_eq user name) ≡ bytes_eq name user
called_by_name name user = by (bytes_eq name user) refl
  where
    by : (b : Bool) → bytes_eq name user ≡ b → (b && bytes_eq user name) ≡ b
    by true is = (bytes_eq-Decides user name).1 (sym ((bytes_eq-Decides name user).0 is))
    by false is = refl

-- the view keeps the caller's own flag
flag_kept : (user : List ℕ) (u : User)
    → (bytes_eq u.name user && (u.sysadmin && bytes_eq user u.name)) ≡ (bytes_eq u.name user && u.sysadmin)
flag_kept user u = exchange (bytes_eq u.name user) u.sysadmin (bytes_eq user u.name)
    ∙ ap (λ b. b && u.sysadmin) (called_by_name u.name user)
  where
    exchange : (a b c : Bool) → (a && (b && c)) ≡ ((a && c) && b)
    exchange false b c = refl
    exchange true true true = refl
    exchange true true false = refl
    exchange true false true = refl
    exchange true false false = refl

is_sysadmin-map : (user : List ℕ) (users : List User)
    → list_any (λ (u : User). bytes_eq u.name user && u.sysadmin) (map (user_seen (Named user)) users)
    ≡ list_any (λ (u : User). bytes_eq u.name user && u.sysadmin) users
is_sysadmin-map user [] = refl
is_sysadmin-map user (u ∷ us) = rw (flag_kept user u, is_sysadmin-map user us) refl

-- ---- the caller's own flag and roles are the same in its view of the people

pub is_sysadmin_in_seen : (caller : Caller) (people : PeopleLists)
    → is_sysadmin_in (people_seen caller people) caller ≡ is_sysadmin_in people caller
is_sysadmin_in_seen Anonymous people = refl
is_sysadmin_in_seen (Named user) people = is_sysadmin-map user people.users

-- the view keeps the caller's own role
pub role_kept : (people : PeopleLists) (user org : List ℕ) (m : Membership)
    → ((bytes_eq m.org org && bytes_eq m.user user) && is_role_seen people (Named user) m)
    ≡ (bytes_eq m.org org && bytes_eq m.user user)
role_kept people user org m = by (bytes_eq m.org org) (bytes_eq m.user user) (bytes_eq user m.user)
    (administers people (Named user) m.org) (called_by_name m.user user)
  where
    by : (o a b k : Bool) → (a && b) ≡ a → ((o && a) && (k || b)) ≡ (o && a)
    by false a b k own = refl
    by true false b k own = refl
    by true true true true own = refl
    by true true true false own = refl
    by true true false true own = refl
    by true true false false own = own

pub caller_role_seen : (caller : Caller) (people : PeopleLists) (org : List ℕ)
    → caller_role (people_seen caller people) caller org ≡ caller_role people caller org
caller_role_seen Anonymous people org = refl
caller_role_seen (Named user) people org =
    ap (option_map (λ (m : Membership). m.role))
    (find-kept (λ (m : Membership). bytes_eq m.org org && bytes_eq m.user user) (is_role_seen people (Named user))
    (role_kept people user org) people.roles)

pub administers_seen : (caller : Caller) (people : PeopleLists) (org : List ℕ)
    → administers (people_seen caller people) caller org ≡ administers people caller org
administers_seen caller people org = rw (is_sysadmin_in_seen caller people, caller_role_seen caller people org) refl

-- the caller sees all its own roles
pub edits_somewhere_seen : (caller : Caller) (people : PeopleLists)
    → edits_somewhere (people_seen caller people) caller ≡ edits_somewhere people caller
edits_somewhere_seen caller people =
    any-filter_same (is_editing_role caller) (is_role_seen people caller) true
    (λ m own. by (administers people caller m.org) (is_called caller m.user) (rights_for (Some m.role)).edit own)
    people.roles
  where
    by : (a k e : Bool) → (k && e) ≡ true → (a || k) ≡ true
    by true k e own = refl
    by false true e own = refl
    by false false e own = own

pub sees_in_seen : (caller : Caller) (people : PeopleLists) (dataset : Package)
    → sees_in (people_seen caller people) caller dataset ≡ sees_in people caller dataset
sees_in_seen caller people dataset =
    sees_in-own (people_seen caller people) people caller dataset (is_sysadmin_in_seen caller people)
    (caller_role_seen caller people dataset.owner_org)

-- ---- the view of a view

user_seen_twice : (caller : Caller) (u : User) → user_seen caller (user_seen caller u) ≡ user_seen caller u
user_seen_twice caller u = ap (λ b. record { name = u.name; sysadmin = b }) (twice u.sysadmin (is_called caller u.name))
  where
    twice : (a b : Bool) → ((a && b) && b) ≡ (a && b)
    twice false b = refl
    twice true true = refl
    twice true false = refl

users_seen_twice : (caller : Caller) (users : List User)
    → map (user_seen caller) (map (user_seen caller) users) ≡ map (user_seen caller) users
users_seen_twice caller [] = refl
users_seen_twice caller (u ∷ us) = rw (user_seen_twice caller u, users_seen_twice caller us) refl

pub is_role_seen_seen : (caller : Caller) (people : PeopleLists) (m : Membership)
    → is_role_seen (people_seen caller people) caller m ≡ is_role_seen people caller m
is_role_seen_seen caller people m = ap (λ b. b || is_called caller m.user) (administers_seen caller people m.org)

roles_seen_twice : (caller : Caller) (people : PeopleLists)
    → filter (is_role_seen (people_seen caller people) caller) (filter (is_role_seen people caller) people.roles)
    ≡ filter (is_role_seen people caller) people.roles
roles_seen_twice caller people =
    filter-again (is_role_seen (people_seen caller people) caller) (is_role_seen people caller)
    (is_role_seen_seen caller people) people.roles

pub people_seen_twice : (caller : Caller) (people : PeopleLists)
    → people_seen caller (people_seen caller people) ≡ people_seen caller people
people_seen_twice caller people = rw (users_seen_twice caller people.users, roles_seen_twice caller people) refl

-- the caller sees every dataset of its view
pub datasets_seen_twice : (caller : Caller) (people : PeopleLists) (datasets : List Package)
    → datasets_seen caller (people_seen caller people) (datasets_seen caller people datasets)
    ≡ datasets_seen caller people datasets
datasets_seen_twice caller people datasets =
    filter-again (sees_in (people_seen caller people) caller) (sees_in people caller) (sees_in_seen caller people)
    datasets

-- the right to edit is the same in the view
pub may_edit_in_seen : (caller : Caller) (people : PeopleLists) (dataset : Package)
    → may_edit_in (people_seen caller people) caller dataset ≡ may_edit_in people caller dataset
may_edit_in_seen caller people dataset =
    may_edit_in-own (people_seen caller people) people caller dataset (is_sysadmin_in_seen caller people)
    (caller_role_seen caller people dataset.owner_org)

-- ---- users

-- every user's name is seen
is_name-map : (caller : Caller) (name : List ℕ) (users : List User)
    → is_name_among (map (user_seen caller) users) name ≡ is_name_among users name
is_name-map caller name [] = refl
is_name-map caller name (u ∷ us) = ap (λ b. bytes_eq u.name name || b) (is_name-map caller name us)

pub is_user_in_seen : (caller : Caller) (people : PeopleLists) (name : List ℕ)
    → is_user_in (people_seen caller people) name ≡ is_user_in people name
is_user_in_seen caller people name = is_name-map caller name people.users

-- ---- roles in an organization that the caller administers

-- the caller sees all of them
role_administered : (people : PeopleLists) (caller : Caller) (org : List ℕ) → administers people caller org ≡ true
    → (m : Membership)
    → (bytes_eq m.org org && is_role_seen people caller m) ≡ bytes_eq m.org org
role_administered people caller org own m = by (bytes_eq m.org org) refl
  where
    by : (b : Bool) → bytes_eq m.org org ≡ b → (b && is_role_seen people caller m) ≡ b
    by false is = refl
    by true is =
        ap (λ b. b || is_called caller m.user)
        (ap (administers people caller) ((bytes_eq-Decides m.org org).0 is) ∙ own)

exchanged : (a b c : Bool) → (a && c) ≡ a → ((a && b) && c) ≡ (a && b)
exchanged false b c own = refl
exchanged true false c own = refl
exchanged true true c own = own

pub role_in_administered : (caller : Caller) (people : PeopleLists) (org user : List ℕ)
    → administers people caller org ≡ true
    → role_in (people_seen caller people) org user ≡ role_in people org user
role_in_administered caller people org user own =
    ap (option_map (λ (m : Membership). m.role))
    (find-kept (λ (m : Membership). bytes_eq m.org org && bytes_eq m.user user) (is_role_seen people caller)
    (λ m. exchanged (bytes_eq m.org org) (bytes_eq m.user user) (is_role_seen people caller m)
    (role_administered people caller org own m))
    people.roles)

pub role_in_seen : (caller : Caller) (people : PeopleLists) (org user : List ℕ)
    → IsTrue (administers (people_seen caller people) caller org)
    → role_in (people_seen caller people) org user ≡ role_in people org user
role_in_seen caller people org user own =
    role_in_administered caller people org user (sym (administers_seen caller people org) ∙ own)

-- If a filter keeps every item that passes a test, the test keeps the same items of the kept ones as of all.
pub filter-kept : {X : Type 0} (p q : X → Bool) → ((x : X) → (p x && q x) ≡ p x) → (xs : List X)
    → filter p (filter q xs) ≡ filter p xs
filter-kept p q kept [] = refl
filter-kept {X} p q kept (x ∷ xs) = by (p x) (q x) refl (kept x) (filter-kept p q kept xs)
  where
    by : (a b : Bool) → p x ≡ a → (p x && b) ≡ p x → filter p (filter q xs) ≡ filter p xs
        → filter p (cond b (x ∷ filter q xs) (filter q xs)) ≡ cond a (x ∷ filter p xs) (filter p xs)
    by a true is same rest = ap (λ c. cond c (x ∷ filter p (filter q xs)) (filter p (filter q xs))) is
        ∙ ap (λ l. cond a (x ∷ l) l) rest
    by true false is same rest = let not : (true && false) ≡ true = subst (λ c. (c && false) ≡ c) is same in absurd (cc)
    by false false is same rest = rest

pub members_seen : (caller : Caller) (people : PeopleLists) (org : List ℕ)
    → IsTrue (administers (people_seen caller people) caller org)
    → filter (λ m. bytes_eq m.org org) (people_seen caller people).roles ≡ filter (λ m. bytes_eq m.org org) people.roles
members_seen caller people org own =
    filter-kept (λ (m : Membership). bytes_eq m.org org) (is_role_seen people caller)
    (role_administered people caller org (sym (administers_seen caller people org) ∙ own)) people.roles

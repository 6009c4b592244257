-- Lists of items, each with a text as its key.
use Rattle.std.proofs.Common.{◌≡◌, ℕ, Bool, true, false, List, [], ◌∷◌, ◌++◌, ◌∙◌, refl, sym, ap, append_assoc}
use Rattle.std.specs.Prelude.{not, ◌&&◌, ◌||◌, Result, Ok, Err, IfOk}
use Rattle.std.specs.Str.{bytes_eq}
use Rattle.org_roles.specs.Distinct.{have_distinct_names, have_distinct_org_names}
use Rattle.org_roles.specs.declared.entry.User.{User}
use Rattle.org_roles.specs.declared.entry.Org.{Org}
use Rattle.portal_file.specs.Keyed.{are_distinct, is_key_among}
use Rattle.portal_file.specs.Rules.{have_distinct_digests}

pub names_distinct : (users : List User) → are_distinct (λ user. user.name) users ≡ have_distinct_names users
names_distinct [] = refl
names_distinct (user ∷ users) =
    ap (λ b. not (is_key_among (λ u. u.name) users user.name) && b) (names_distinct users)

pub org_names_distinct : (orgs : List Org) → are_distinct (λ org. org.name) orgs ≡ have_distinct_org_names orgs
org_names_distinct [] = refl
org_names_distinct (org ∷ orgs) =
    ap (λ b. not (is_key_among (λ o. o.name) orgs org.name) && b) (org_names_distinct orgs)

pub digests_distinct : (tokens : List (List ℕ × List ℕ))
    → are_distinct (λ token. token.1) tokens ≡ have_distinct_digests tokens
digests_distinct [] = refl
digests_distinct (token ∷ tokens) =
    ap (λ b. not (is_key_among (λ t. t.1) tokens token.1) && b) (digests_distinct tokens)

-- items with a repeated key, after others
pub repeated_after : {T : Type 0} (key : T → List ℕ) (front items : List T) → are_distinct key items ≡ false
    → are_distinct key (front ++ items) ≡ false
repeated_after key [] items e = e
repeated_after key (x ∷ front) items e =
    ap (λ b. not (is_key_among key (front ++ items) (key x)) && b) (repeated_after key front items e)
    ∙ never (not (is_key_among key (front ++ items) (key x)))
  where
    never : (b : Bool) → b && false ≡ false
    never true = refl
    never false = refl

-- an item whose key a later one has
pub repeated_here : {T : Type 0} (key : T → List ℕ) (item : T) (later : List T)
    → is_key_among key later (key item) ≡ true → are_distinct key (item ∷ later) ≡ false
repeated_here key item later e = ap (λ b. not b && are_distinct key later) e

-- an item whose key no later one has
pub distinct_here : {T : Type 0} (key : T → List ℕ) (item : T) (later : List T)
    → is_key_among key later (key item) ≡ false → are_distinct key later ≡ true
    → are_distinct key (item ∷ later) ≡ true
distinct_here key item later e rest = ap (λ b. not b && are_distinct key later) e ∙ rest

pub distinct_by : {E : Type 0} (r : Result Bool E) (one other : Bool) → IfOk r (λ distinct. distinct ≡ one)
    → one ≡ other → IfOk r (λ distinct. distinct ≡ other)
distinct_by (Ok distinct) one other is same = is ∙ same
distinct_by (Err e) one other is same = tt

-- the items with one more before the later ones
pub more_later : {T : Type 0} (items rest front later : List T) (last : T) → items ≡ rest ++ later
    → rest ≡ front ++ last ∷ [] → items ≡ front ++ last ∷ later
more_later items rest front later last splits ends =
    splits ∙ ap (λ v. v ++ later) ends ∙ append_assoc front (last ∷ []) later

-- a set with one more key has the keys of one more item
pub more_keys : {T : Type 0} (key : T → List ℕ) (last : T) (later : List T) (text q : List ℕ) (new old : Bool)
    → text ≡ key last → new ≡ bytes_eq text q || old → old ≡ is_key_among key later q
    → new ≡ is_key_among key (last ∷ later) q
more_keys key last later text q new old same added among =
    added ∙ ap (λ v. bytes_eq v q || old) same ∙ ap (λ b. bytes_eq (key last) q || b) among

not_true_is : (b : Bool) → not b ≡ true → b ≡ false
not_true_is true e = sym e
not_true_is false e = refl

not_false_is : (b : Bool) → not b ≡ false → b ≡ true
not_false_is true e = refl
not_false_is false e = sym e

-- a key that isn't new is that of a later item
pub key_is_later : {T : Type 0} (key : T → List ℕ) (last : T) (later : List T) (text : List ℕ) (new had : Bool)
    → text ≡ key last → new ≡ not had → new ≡ false → had ≡ is_key_among key later text
    → is_key_among key later (key last) ≡ true
key_is_later key last later text new had same is old among =
    ap (is_key_among key later) (sym same) ∙ sym among ∙ not_false_is had (sym is ∙ old)

pub key_is_new : {T : Type 0} (key : T → List ℕ) (last : T) (later : List T) (text : List ℕ) (new had : Bool)
    → text ≡ key last → new ≡ not had → new ≡ true → had ≡ is_key_among key later text
    → is_key_among key later (key last) ≡ false
key_is_new key last later text new had same is fresh among =
    ap (is_key_among key later) (sym same) ∙ sym among ∙ not_true_is had (sym is ∙ fresh)

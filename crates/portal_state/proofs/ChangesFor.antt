-- The effective changes for entries, one entry after another.
use Rattle.std.proofs.Common.{◌≡◌, ℕ, Bool, true, false, cond, not, List, [], ◌∷◌, ◌++◌, Option, Some, None, map, refl}
use Rattle.std.proofs.Common.{ap}
use Rattle.std.proofs.Common.{ap₂, ◌∙◌, if◌then◌else◌, inl, inr}
use Rattle.std.specs.Prelude.{is_some}
use Rattle.std.specs.List.{flat_map}
use Rattle.portal_base.proofs.Unique.{IsIn}
use Rattle.portal_keeper.specs.Rows.{body_at}
use Rattle.portal_keeper.specs.declared.change.Change.{Change}
use Rattle.portal_keeper.specs.declared.change.Change.TheVariants.{Put, Remove}
use Rattle.portal_keeper.specs.declared.row.KeptRow.{KeptRow}
use Rattle.portal_keeper.specs.declared.row.RowKind.{RowKind}
use Rattle.portal_state.specs.ChangedRows.{changes_between}
use Rattle.portal_state.specs.Entries.{Entry}
use Rattle.portal_state.specs.RowChanges.{change_at, change_to, effective_changes, entry_key, is_body, is_effective}

-- the effective changes for these entries, from the first rows to the second ones
abbrev pub changes_for : List KeptRow → List KeptRow → List Entry → List Change
changes_for before after entries =
    effective_changes before (map (λ entry. change_at after (entry_key entry)) entries)

-- They are those for the first entries, and then those for the others.
pub changes_for-++ : (before after : List KeptRow) (entries more : List Entry)
    → changes_for before after (entries ++ more) ≡ changes_for before after entries ++ changes_for before after more
changes_for-++ before after [] more = refl
changes_for-++ before after (entry ∷ entries) more =
    by (is_effective before change) (changes_for-++ before after entries more)
  where
    change : Change
    change = change_at after (entry_key entry)

    first : List Change
    first = changes_for before after entries

    rest : List Change
    rest = changes_for before after more

    by : (b : Bool) → changes_for before after (entries ++ more) ≡ first ++ rest
        → cond b (change ∷ changes_for before after (entries ++ more)) (changes_for before after (entries ++ more))
        ≡ cond b (change ∷ first) first ++ rest
    by true same = ap (λ (l : List Change). change ∷ l) same
    by false same = same

-- ---- one entry

effective-between : (kind : RowKind) (key : List ℕ) (before : List KeptRow) (was is : Option (List ℕ))
    → body_at before kind key ≡ was
    → cond (is_effective before (change_to kind key is)) (change_to kind key is ∷ []) []
    ≡ changes_between kind key was is
effective-between kind key before was None e =
    ap (λ (o : Option (List ℕ)). cond (is_some o) (Remove kind key ∷ []) []) e
effective-between kind key before was (Some body) e =
    ap (λ (o : Option (List ℕ)). cond (not (is_body body o)) (Put row ∷ []) []) e ∙ by (is_body body was)
  where
    row : KeptRow
    row = record { kind = kind; key = key; body = body }

    by : (b : Bool) → cond (not b) (Put row ∷ []) [] ≡ (if b then [] else Put row ∷ [])
    by true = refl
    by false = refl

-- The change for an entry leads from what the first rows have at its key to what the second ones have there.
pub changes_for-one : (before after : List KeptRow) (entry : Entry) (was is : Option (List ℕ))
    → body_at before (entry_key entry).0 (entry_key entry).1 ≡ was
    → body_at after (entry_key entry).0 (entry_key entry).1 ≡ is
    → changes_for before after (entry ∷ []) ≡ changes_between (entry_key entry).0 (entry_key entry).1 was is
changes_for-one before after entry was is old new =
    ap (λ (o : Option (List ℕ)). cond (is_effective before (change_to kind key o)) (change_to kind key o ∷ []) []) new
    ∙ effective-between kind key before was is old
  where
    kind : RowKind
    kind = (entry_key entry).0

    key : List ℕ
    key = (entry_key entry).1

-- ---- entries that are made of items

pub map-twice : {X Y Z : Type 0} (g : Y → Z) (f : X → Y) (xs : List X) → map g (map f xs) ≡ map (λ x. g (f x)) xs
map-twice g f [] = refl
map-twice {X} {Y} {Z} g f (x ∷ xs) = ap (λ (l : List Z). g (f x) ∷ l) (map-twice g f xs)

pub changes_for-cons : (before after : List KeptRow) (entry : Entry) (entries : List Entry) (first rest : List Change)
    → changes_for before after (entry ∷ []) ≡ first → changes_for before after entries ≡ rest
    → changes_for before after (entry ∷ entries) ≡ first ++ rest
changes_for-cons before after entry entries first rest one others =
    changes_for-++ before after (entry ∷ []) entries
    ∙ ap₂ (λ (l m : List Change). l ++ m) one others

-- of each item one entry, and of each entry a list of changes
pub changes_for-each : {X : Type 0} (before after : List KeptRow) (make : X → Entry) (made : X → List Change)
    (xs : List X) → ((x : X) → IsIn x xs → changes_for before after (make x ∷ []) ≡ made x)
    → changes_for before after (map make xs) ≡ flat_map made xs
changes_for-each before after make made [] each = refl
changes_for-each before after make made (x ∷ xs) each =
    changes_for-cons before after (make x) (map make xs) (made x) (flat_map made xs) (each x (inl refl))
    (changes_for-each before after make made xs (λ z m. each z (inr m)))

-- of each item one entry, and of each entry one change
pub changes_for-map : {X : Type 0} (before after : List KeptRow) (make : X → Entry) (made : X → Change) (xs : List X)
    → ((x : X) → IsIn x xs → changes_for before after (make x ∷ []) ≡ made x ∷ [])
    → changes_for before after (map make xs) ≡ map made xs
changes_for-map before after make made [] each = refl
changes_for-map before after make made (x ∷ xs) each =
    changes_for-cons before after (make x) (map make xs) (made x ∷ []) (map made xs) (each x (inl refl))
    (changes_for-map before after make made xs (λ z m. each z (inr m)))

-- of each item a list of entries, and of these a list of changes
pub changes_for-flat_map : {X : Type 0} (before after : List KeptRow) (make : X → List Entry) (made : X → List Change)
    (xs : List X) → ((x : X) → IsIn x xs → changes_for before after (make x) ≡ made x)
    → changes_for before after (flat_map make xs) ≡ flat_map made xs
changes_for-flat_map before after make made [] each = refl
changes_for-flat_map before after make made (x ∷ xs) each =
    changes_for-++ before after (make x) (flat_map make xs)
    ∙ ap₂ (λ (l m : List Change). l ++ m) (each x (inl refl))
    (changes_for-flat_map before after make made xs (λ z m. each z (inr m)))

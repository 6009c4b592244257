-- Lists that strictly ascend by a comparison: their items, and their changes by one item.
use Rattle.std.specs.Prelude.{◌≡◌, ◌&&◌, cond, Bool, true, not, List, [], ◌∷◌, Option, filter}
use Rattle.std.specs.declared.cmp.Ordering.{Ordering}
use Rattle.std.specs.declared.cmp.Ordering.TheVariants.{Less, Equal}
use Rattle.std.specs.Ordering.{is_lt, is_eq}
use Rattle.std.specs.Cmp.{IsTotalOrder}
use Rattle.std.specs.List.{find, list_any}
use Rattle.std.proofs.Common.{sym}
use Rattle.std.proofs.lemmas.Cmp.{alike_right}

-- x is below each item
abbrev pub IsBelowAll : {X : Type 0} → (X → X → Ordering) → X → List X → Type 0
IsBelowAll cmp x [] = Unit {0}
IsBelowAll cmp x (y ∷ ys) = (cmp x y ≡ Less) × IsBelowAll cmp x ys

-- each item is below all later ones, so no two are equal
abbrev pub IsAscending : {X : Type 0} → (X → X → Ordering) → List X → Type 0
IsAscending cmp [] = Unit {0}
IsAscending cmp (x ∷ xs) = IsBelowAll cmp x xs × IsAscending cmp xs

-- x after the leading items that are below it
abbrev pub inserted : {X : Type 0} → (X → X → Ordering) → X → List X → List X
inserted cmp x [] = x ∷ []
inserted cmp x (y ∷ ys) = cond (is_lt (cmp y x)) (y ∷ inserted cmp x ys) (x ∷ y ∷ ys)

-- the items, each inserted into those after it
abbrev pub ascending : {X : Type 0} → (X → X → Ordering) → List X → List X
ascending cmp [] = []
ascending cmp (x ∷ xs) = inserted cmp x (ascending cmp xs)

-- no two items are equal by the comparison
abbrev pub are_apart : {X : Type 0} → (X → X → Ordering) → List X → Bool
are_apart cmp [] = true
are_apart cmp (x ∷ xs) = not (list_any (λ y. is_eq (cmp y x)) xs) && are_apart cmp xs

-- ---- items by a key; `at` is the order of an item relative to the key

-- the first item with the key
abbrev pub found : {X : Type 0} → (X → Ordering) → List X → Option X
found at xs = find (λ x. is_eq (at x)) xs

-- without the first item with the key
abbrev pub removed : {X : Type 0} → (X → Ordering) → List X → List X
removed at [] = []
removed at (x ∷ xs) = cond (is_eq (at x)) xs (x ∷ removed at xs)

-- without all items with the key
abbrev pub dropped : {X : Type 0} → (X → Ordering) → List X → List X
dropped at xs = filter (λ x. not (is_eq (at x))) xs

-- x in place of the items that are equal to it, or inserted if there is none
abbrev pub upserted : {X : Type 0} → (X → X → Ordering) → X → List X → List X
upserted cmp x xs = inserted cmp x (dropped (λ y. cmp y x) xs)

-- The order of other items relative to an item with the key is their order relative to the key.
abbrev pub IsKey : {X : Type 0} → (X → X → Ordering) → (X → Ordering) → Type 0
IsKey {X} cmp at = (x y : X) → at x ≡ Equal → at y ≡ cmp y x

-- That holds of the values of a field, for the order by that field.
pub IsKey-field : {X K : Type 0} (field : X → K) {cmp : K → K → Ordering} → IsTotalOrder cmp → (key : K)
    → IsKey (λ x y. cmp (field x) (field y)) (λ x. cmp (field x) key)
IsKey-field field o key x y e = sym (alike_right o (field x) key (field y) e)

-- An item below one that is below the key is below the key too.
abbrev pub IsMonotone : {X : Type 0} → (X → X → Ordering) → (X → Ordering) → Type 0
IsMonotone {X} cmp at = (x y : X) → cmp x y ≡ Less → at y ≡ Less → at x ≡ Less

-- That holds of the values of a field, for the order by that field.
pub IsMonotone-field : {X K : Type 0} (field : X → K) {cmp : K → K → Ordering} → IsTotalOrder cmp → (key : K)
    → IsMonotone (λ x y. cmp (field x) (field y)) (λ x. cmp (field x) key)
IsMonotone-field field o key x y below less = o.trans (field x) (field y) key below less

-- Finite sets as lists: each item once, in ascending order by a comparison.
use Rattle.std.specs.Prelude.{List, [], ◌∷◌, ◌↔◌, Option, Some, None}
use Rattle.std.specs.declared.cmp.Ordering.{Ordering}
use Rattle.std.specs.Ordering.{match_ordering}
use Rattle.std.specs.List.{Contains}
use Rattle.portal_base.specs.Ordered.{ascending}

-- x inserted into an ascending list, in which it is at most once
abbrev pub set_insert : {X : Type 0} → (X → X → Ordering) → X → List X → List X
set_insert cmp x [] = x ∷ []
set_insert cmp x (y ∷ ys) = match_ordering (cmp x y) (x ∷ y ∷ ys) (y ∷ ys) (y ∷ set_insert cmp x ys)

-- the set of the items, as the ascending list of them
unfoldable pub ascending_set : {X : Type 0} → (X → X → Ordering) → List X → List X
ascending_set cmp [] = []
ascending_set cmp (x ∷ xs) = set_insert cmp x (ascending_set cmp xs)

-- the lesser of what is there
abbrev pub lesser_of : {X : Type 0} → (X → X → Ordering) → Option X → Option X → Option X
lesser_of cmp best None = best
lesser_of cmp None (Some x) = Some x
lesser_of cmp (Some y) (Some x) = Some (match_ordering (cmp x y) x y y)

-- the item that comes before all others, if there is one
unfoldable pub least : {X : Type 0} → (X → X → Ordering) → List X → Option X
least cmp [] = None
least cmp (x ∷ xs) = lesser_of cmp (least cmp xs) (Some x)

-- all the items in ascending order, those that are alike too
unfoldable pub in_order : {X : Type 0} → (X → X → Ordering) → List X → List X
in_order cmp xs = ascending cmp xs

-- the lists are of one set: each has the items of the other
abbrev pub HaveSameItems : {X : Type 0} → List X → List X → Type 0
HaveSameItems {X} xs ys = (x : X) → Contains xs x ↔ Contains ys x

-- Lists whose items are mapped: their order, and tests of their items.
use Rattle.std.proofs.Common.{◌≡◌, ◌∙◌, ◌+◌, Bool, true, false, ◌&&◌, ◌||◌, cond, not, List, [], ◌∷◌, ◌++◌, map, refl, sym}
use Rattle.std.proofs.Common.{ap, arith, inl, inr, Bor, Option, Some, None}
use Rattle.std.specs.Prelude.{option_map}
use Rattle.std.specs.Option.{option_copied}
use Rattle.std.proofs.lemmas.Bool.{and_parts}
use Rattle.std.proofs.lemmas.List.Sums.{sum_by-cons}
use Rattle.std.specs.List.{count_by, list_all, list_any}
use Rattle.std.specs.Ordering.{is_eq, is_lt}
use Rattle.std.specs.declared.cmp.Ordering.{Ordering}
use Rattle.portal_base.specs.Ordered.{IsAscending, IsBelowAll, are_apart, ascending, inserted}
use Rattle.portal_base.proofs.Filtered.{list_all-IsIn}
use Rattle.portal_base.proofs.Unique.{IsIn}

pub map-same : {X Y : Type 0} (f g : X → Y) → ((x : X) → f x ≡ g x) → (xs : List X) → map f xs ≡ map g xs
map-same f g same [] = refl
map-same f g same (x ∷ xs) = ap (λ y. y ∷ map f xs) (same x) ∙ ap (λ ys. g x ∷ ys) (map-same f g same xs)

pub list_any-map : {X Y : Type 0} (f : X → Y) (p : Y → Bool) (xs : List X)
    → list_any p (map f xs) ≡ list_any (λ x. p (f x)) xs
list_any-map f p [] = refl
list_any-map f p (x ∷ xs) = ap (λ b. p (f x) || b) (list_any-map f p xs)

pub list_all-map : {X Y : Type 0} (f : X → Y) (p : Y → Bool) (xs : List X)
    → list_all p (map f xs) ≡ list_all (λ x. p (f x)) xs
list_all-map f p [] = refl
list_all-map f p (x ∷ xs) = ap (λ b. p (f x) && b) (list_all-map f p xs)

pub list_all-same : {X : Type 0} (p q : X → Bool) → ((x : X) → p x ≡ q x) → (xs : List X) → list_all p xs ≡ list_all q xs
list_all-same p q same [] = refl
list_all-same p q same (x ∷ xs) = ap (λ b. b && list_all p xs) (same x) ∙ ap (λ b. q x && b) (list_all-same p q same xs)

swap_and : (a b c : Bool) → (a && (b && c)) ≡ (b && (a && c))
swap_and true true c = refl
swap_and true false c = refl
swap_and false true c = refl
swap_and false false c = refl

list_all-inserted : {X : Type 0} (cmp : X → X → Ordering) (p : X → Bool) (x : X) (xs : List X)
    → list_all p (inserted cmp x xs) ≡ (p x && list_all p xs)
list_all-inserted cmp p x [] = refl
list_all-inserted cmp p x (y ∷ ys) =
    let P : Bool → Type 0 =
    λ b. list_all p (cond b (y ∷ inserted cmp x ys) (x ∷ y ∷ ys)) ≡ (p x && (p y && list_all p ys)) in
    elim (is_lt (cmp y x)) as P [
      | true ↦ ap (λ b. p y && b) (list_all-inserted cmp p x ys) ∙ swap_and (p y) (p x) (list_all p ys)
      | false ↦ refl
    ]

-- All items of a list pass a test exactly if those of the ascending list do.
pub list_all-ascending : {X : Type 0} (cmp : X → X → Ordering) (p : X → Bool) (xs : List X)
    → list_all p (ascending cmp xs) ≡ list_all p xs
list_all-ascending cmp p [] = refl
list_all-ascending cmp p (x ∷ xs) =
    list_all-inserted cmp p x (ascending cmp xs) ∙ ap (λ b. p x && b) (list_all-ascending cmp p xs)

-- If an item fails the test, not all pass.
pub list_all-fails : {X : Type 0} (p : X → Bool) (xs : List X) (x : X) → IsIn x xs → p x ≡ false → list_all p xs ≡ false
list_all-fails p xs x there fails = by (list_all p xs) refl
  where
    by : (b : Bool) → list_all p xs ≡ b → b ≡ false
    by true all = let passes : p x ≡ true = list_all-IsIn p xs all x there in absurd (cc)
    by false all = refl

pub IsIn-map : {X Y : Type 0} (f : X → Y) (x : X) (xs : List X) → IsIn x xs → IsIn (f x) (map f xs)
IsIn-map f x [] there = there
IsIn-map f x (y ∷ ys) (inl e) = inl (ap f e)
IsIn-map f x (y ∷ ys) (inr there) = inr (IsIn-map f x ys there)

-- If all pass and one more passes, all pass.
pub list_all-more : {X : Type 0} (p : X → Bool) (xs : List X) (x : X) → list_all p xs ≡ true → p x ≡ true
    → list_all p (xs ++ x ∷ []) ≡ true
list_all-more p [] x all passes = ap (λ b. b && true) passes
list_all-more p (y ∷ ys) x all passes =
    let parts = and_parts (p y) (list_all p ys) all in
    ap (λ b. b && list_all p (ys ++ x ∷ [])) parts.0 ∙ list_all-more p ys x parts.1 passes

count_by-cons : {X : Type 0} (p : X → Bool) (x : X) (xs : List X)
    → count_by p (x ∷ xs) ≡ cond (p x) 1 0 + count_by p xs
count_by-cons p x xs = sum_by-cons (λ y. cond (p y) 1 0) x xs

count_by-inserted : {X : Type 0} (cmp : X → X → Ordering) (p : X → Bool) (x : X) (xs : List X)
    → count_by p (inserted cmp x xs) ≡ cond (p x) 1 0 + count_by p xs
count_by-inserted cmp p x [] = count_by-cons p x []
count_by-inserted cmp p x (y ∷ ys) =
    let P : Bool → Type 0 =
    λ b. count_by p (cond b (y ∷ inserted cmp x ys) (x ∷ y ∷ ys)) ≡ cond (p x) 1 0 + count_by p (y ∷ ys) in
    let rest = count_by-inserted cmp p x ys in
    let front = count_by-cons p y ys in
    let inside = count_by-cons p y (inserted cmp x ys) in
    elim (is_lt (cmp y x)) as P [ true ↦ omega arith | false ↦ count_by-cons p x (y ∷ ys) ]

-- As many items of the ascending list pass.
pub count_by-ascending : {X : Type 0} (cmp : X → X → Ordering) (p : X → Bool) (xs : List X)
    → count_by p (ascending cmp xs) ≡ count_by p xs
count_by-ascending cmp p [] = refl
count_by-ascending cmp p (x ∷ xs) =
    let rest = count_by-ascending cmp p xs in
    let here = count_by-cons p x xs in
    let inside = count_by-inserted cmp p x (ascending cmp xs) in
    omega arith

-- ---- items in the order of what they are mapped to

module _ {X Y : Type 0} (f : X → Y) (under : X → X → Ordering) (over : Y → Y → Ordering)
    (same : (x y : X) → over (f x) (f y) ≡ under x y) where
  pub inserted-map : (x : X) (xs : List X) → inserted over (f x) (map f xs) ≡ map f (inserted under x xs)
  inserted-map x [] = refl
  inserted-map x (y ∷ ys) =
      let P : Bool → Type 0 =
      λ b. cond b (f y ∷ inserted over (f x) (map f ys)) (f x ∷ f y ∷ map f ys)
      ≡ map f (cond b (y ∷ inserted under x ys) (x ∷ y ∷ ys)) in
      ap (λ r. cond (is_lt r) (f y ∷ inserted over (f x) (map f ys)) (f x ∷ f y ∷ map f ys)) (same y x)
      ∙ elim (is_lt (under y x)) as P [ true ↦ ap (λ l. f y ∷ l) (inserted-map x ys) | false ↦ refl ]

  pub ascending-map : (xs : List X) → ascending over (map f xs) ≡ map f (ascending under xs)
  ascending-map [] = refl
  ascending-map (x ∷ xs) = ap (inserted over (f x)) (ascending-map xs) ∙ inserted-map x (ascending under xs)

  any_equal : (x : X) (xs : List X)
      → list_any (λ y. is_eq (over y (f x))) (map f xs) ≡ list_any (λ y. is_eq (under y x)) xs
  any_equal x [] = refl
  any_equal x (y ∷ ys) =
      ap (λ r. is_eq r || list_any (λ z. is_eq (over z (f x))) (map f ys)) (same y x)
      ∙ ap (λ b. is_eq (under y x) || b) (any_equal x ys)

  pub are_apart-map : (xs : List X) → are_apart over (map f xs) ≡ are_apart under xs
  are_apart-map [] = refl
  are_apart-map (x ∷ xs) =
      ap (λ b. not b && are_apart over (map f xs)) (any_equal x xs)
      ∙ ap (λ b. not (list_any (λ y. is_eq (under y x)) xs) && b) (are_apart-map xs)

  IsBelowAll-map : (x : X) (xs : List X) → IsBelowAll under x xs → IsBelowAll over (f x) (map f xs)
  IsBelowAll-map x [] below = tt
  IsBelowAll-map x (y ∷ ys) below = (same x y ∙ below.0, IsBelowAll-map x ys below.1)

  pub IsAscending-map : (xs : List X) → IsAscending under xs → IsAscending over (map f xs)
  IsAscending-map [] up = tt
  IsAscending-map (x ∷ xs) up = (IsBelowAll-map x xs up.0, IsAscending-map xs up.1)

  map-IsBelowAll : (x : X) (xs : List X) → IsBelowAll over (f x) (map f xs) → IsBelowAll under x xs
  map-IsBelowAll x [] below = tt
  map-IsBelowAll x (y ∷ ys) below = (sym (same x y) ∙ below.0, map-IsBelowAll x ys below.1)

  pub map-IsAscending : (xs : List X) → IsAscending over (map f xs) → IsAscending under xs
  map-IsAscending [] up = tt
  map-IsAscending (x ∷ xs) up = (map-IsBelowAll x xs up.0, map-IsAscending xs up.1)

-- ---- what is behind a reference

pub option_map-copied : {X Y : Type 0} (f : X → Y) (o : Option (Bor X))
    → option_map (λ x. f x.now) o ≡ option_map f (option_copied o)
option_map-copied f None = refl
option_map-copied f (Some x) = refl

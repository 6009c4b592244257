-- Filtered ordered lists, and how they change with the list.
use Rattle.std.proofs.Common.{◌≡◌, Bool, true, false, not, cond, ◌||◌, ◌&&◌, List, [], ◌∷◌, Option, Some, None, refl}
use Rattle.std.proofs.Common.{ap, ◌∙◌, sym, inl, inr}
use Rattle.std.specs.Prelude.{filter, is_some}
use Rattle.std.specs.Cmp.{IsTotalOrder}
use Rattle.std.specs.List.{find, list_any, list_all}
use Rattle.std.specs.Option.{option_and_then}
use Rattle.std.specs.Ordering.{is_lt, is_eq}
use Rattle.std.specs.declared.cmp.Ordering.{Ordering}
use Rattle.std.specs.declared.cmp.Ordering.TheVariants.{Less, Equal, Greater}
use Rattle.portal_base.specs.Ordered.{IsAscending, IsBelowAll, inserted, found, IsKey}
use Rattle.portal_base.proofs.Removed.{is_eq_true, none_above}
use Rattle.portal_base.proofs.Unique.{IsIn}

-- ---- members

-- A kept item is a member of the list and passes the test.
pub IsIn-filter : {X : Type 0} (p : X → Bool) (z : X) (xs : List X) → IsIn z (filter p xs) → IsIn z xs × (p z ≡ true)
IsIn-filter p z [] m = absurd m
IsIn-filter {X} p z (x ∷ xs) m = by (p x) refl m (IsIn-filter p z xs)
  where
    by : (b : Bool) → p x ≡ b → IsIn z (cond b (x ∷ filter p xs) (filter p xs))
        → (IsIn z (filter p xs) → IsIn z xs × (p z ≡ true)) → IsIn z (x ∷ xs) × (p z ≡ true)
    by true is (inl e) rest = (inl e, ap p e ∙ is)
    by true is (inr n) rest = (inr (rest n).0, (rest n).1)
    by false is n rest = (inr (rest n).0, (rest n).1)

-- A member of the list that passes the test is kept.
pub filter-IsIn : {X : Type 0} (p : X → Bool) (z : X) (xs : List X) → IsIn z xs → p z ≡ true → IsIn z (filter p xs)
filter-IsIn p z [] m passes = absurd m
filter-IsIn {X} p z (x ∷ xs) m passes = by (p x) refl m (λ n. filter-IsIn p z xs n passes)
  where
    by : (b : Bool) → p x ≡ b → IsIn z (x ∷ xs) → (IsIn z xs → IsIn z (filter p xs))
        → IsIn z (cond b (x ∷ filter p xs) (filter p xs))
    by true is (inl e) rest = inl e
    by true is (inr n) rest = inr (rest n)
    by false is (inl e) rest = let not : p z ≡ false = ap p e ∙ is in absurd (cc)
    by false is (inr n) rest = rest n

-- If all items pass the test, all are kept.
pub filter-all : {X : Type 0} (p : X → Bool) (xs : List X) → ((x : X) → IsIn x xs → p x ≡ true) → filter p xs ≡ xs
filter-all p [] all = refl
filter-all {X} p (x ∷ xs) all =
    ap (λ b. cond b (x ∷ filter p xs) (filter p xs)) (all x (inl refl))
    ∙ ap (λ l. x ∷ l) (filter-all p xs (λ z m. all z (inr m)))

-- If all items pass the test, each member passes it.
pub list_all-IsIn : {X : Type 0} (p : X → Bool) (xs : List X) → list_all p xs ≡ true → (x : X) → IsIn x xs → p x ≡ true
list_all-IsIn p [] all x m = absurd m
list_all-IsIn {X} p (y ∷ ys) all x m = by (p y) refl all m (λ rest n. list_all-IsIn p ys rest x n)
  where
    by : (b : Bool) → p y ≡ b → (b && list_all p ys) ≡ true → IsIn x (y ∷ ys)
        → (list_all p ys ≡ true → IsIn x ys → p x ≡ true) → p x ≡ true
    by true is both (inl e) further = ap p e ∙ is
    by true is both (inr n) further = further both n
    by false is both n further = absurd (cc)

pub IsIn-list_all : {X : Type 0} (p : X → Bool) (xs : List X) → ((x : X) → IsIn x xs → p x ≡ true)
    → list_all p xs ≡ true
IsIn-list_all p [] each = refl
IsIn-list_all p (y ∷ ys) each =
    ap (λ b. b && list_all p ys) (each y (inl refl)) ∙ IsIn-list_all p ys (λ x m. each x (inr m))

-- Two filters commute.
pub filter-filter : {X : Type 0} (p q : X → Bool) (xs : List X) → filter p (filter q xs) ≡ filter q (filter p xs)
filter-filter p q [] = refl
filter-filter {X} p q (x ∷ xs) = by (p x) refl (q x) refl (filter-filter p q xs)
  where
    by : (a : Bool) → p x ≡ a → (b : Bool) → q x ≡ b → filter p (filter q xs) ≡ filter q (filter p xs)
        → filter p (cond b (x ∷ filter q xs) (filter q xs)) ≡ filter q (cond a (x ∷ filter p xs) (filter p xs))
    by true p_is true q_is rest =
        ap (λ a. cond a (x ∷ filter p (filter q xs)) (filter p (filter q xs))) p_is
        ∙ ap (λ l. x ∷ l) rest
        ∙ sym (ap (λ b. cond b (x ∷ filter q (filter p xs)) (filter q (filter p xs))) q_is)
    by true p_is false q_is rest =
        rest ∙ sym (ap (λ b. cond b (x ∷ filter q (filter p xs)) (filter q (filter p xs))) q_is)
    by false p_is true q_is rest =
        ap (λ a. cond a (x ∷ filter p (filter q xs)) (filter p (filter q xs))) p_is ∙ rest
    by false p_is false q_is rest = rest

-- No item passes both a test and its negation.
pub list_any-left_out : {X : Type 0} (test : X → Bool) (xs : List X)
    → list_any test (filter (λ x. not (test x)) xs) ≡ false
list_any-left_out test [] = refl
list_any-left_out {X} test (x ∷ xs) =
    by (filter (λ y. not (test y)) xs) (test x) refl (list_any-left_out test xs)
  where
    by : (rest : List X) (b : Bool) → test x ≡ b → list_any test rest ≡ false
        → list_any test (cond (not b) (x ∷ rest) rest) ≡ false
    by rest true is none = none
    by rest false is none = ap (λ b. b || list_any test rest) is ∙ none

-- ---- look-ups

-- If no item passes, none is found.
pub find-list_any : {X : Type 0} (test : X → Bool) (xs : List X) → list_any test xs ≡ false → find test xs ≡ None
find-list_any test [] h = refl
find-list_any {X} test (x ∷ xs) h =
    let P : Bool → Type 0 = λ b. (b || list_any test xs) ≡ false → cond b (Some x) (find test xs) ≡ None in
    (elim (test x) as P [ true ↦ λ e. absurd (cc) | false ↦ λ e. find-list_any test xs e ]) h

-- Two tests that agree find the same item.
pub find-same : {X : Type 0} (p q : X → Bool) → ((x : X) → p x ≡ q x) → (xs : List X) → find p xs ≡ find q xs
find-same p q e [] = refl
find-same p q e (x ∷ xs) =
    ap (λ b. cond b (Some x) (find p xs)) (e x) ∙ ap (λ o. cond (q x) (Some x) o) (find-same p q e xs)

-- An item is found exactly if one passes.
pub is_some-find_any : {X : Type 0} (test : X → Bool) (xs : List X) → is_some (find test xs) ≡ list_any test xs
is_some-find_any test [] = refl
is_some-find_any {X} test (x ∷ xs) =
    let P : Bool → Type 0 = λ b. is_some (cond b (Some x) (find test xs)) ≡ (b || list_any test xs) in
    elim (test x) as P [ true ↦ refl | false ↦ is_some-find_any test xs ]

-- If a test passes no item that the filter drops, it finds the same item in the filtered list.
pub find-filter : {X : Type 0} (test p : X → Bool) (xs : List X) → ((x : X) → p x ≡ false → test x ≡ false)
    → find test (filter p xs) ≡ find test xs
find-filter test p [] apart = refl
find-filter {X} test p (x ∷ xs) apart = by (p x) refl (find-filter test p xs apart)
  where
    by : (b : Bool) → p x ≡ b → find test (filter p xs) ≡ find test xs
        → find test (cond b (x ∷ filter p xs) (filter p xs)) ≡ find test (x ∷ xs)
    by true is rest = ap (λ o. cond (test x) (Some x) o) rest
    by false is rest = rest ∙ sym (ap (λ b. cond b (Some x) (find test xs)) (apart x is))

-- x, if it passes
abbrev pub kept_item : {X : Type 0} → (X → Bool) → X → Option X
kept_item p x = cond (p x) (Some x) None

-- The item found at a key of an ascending list is found in the filtered list if it is kept.
pub found-filter : {X : Type 0} (cmp : X → X → Ordering) (o : IsTotalOrder cmp) (at : X → Ordering)
    (key : IsKey cmp at) (p : X → Bool) (xs : List X) → IsAscending cmp xs
    → found at (filter p xs) ≡ option_and_then (kept_item p) (found at xs)
found-filter cmp o at key p [] up = refl
found-filter {X} cmp o at key p (x ∷ xs) up =
    by (is_eq (at x)) refl (p x) refl (found-filter cmp o at key p xs up.1)
  where
    none : is_eq (at x) ≡ true → found at xs ≡ None
    none here = none_above cmp o at key x xs (is_eq_true (at x) here) up.0

    by : (b : Bool) → is_eq (at x) ≡ b → (k : Bool) → p x ≡ k
        → found at (filter p xs) ≡ option_and_then (kept_item p) (found at xs)
        → found at (cond k (x ∷ filter p xs) (filter p xs))
        ≡ option_and_then (kept_item p) (cond b (Some x) (found at xs))
    by true here true keeps rest =
        ap (λ b. cond b (Some x) (found at (filter p xs))) here ∙ sym (ap (λ k. cond k (Some x) None) keeps)
    by true here false keeps rest =
        rest ∙ ap (option_and_then (kept_item p)) (none here) ∙ sym (ap (λ k. cond k (Some x) None) keeps)
    by false other true keeps rest = ap (λ b. cond b (Some x) (found at (filter p xs))) other ∙ rest
    by false other false keeps rest = rest

-- ---- order

pub IsBelowAll-filter : {X : Type 0} (cmp : X → X → Ordering) (p : X → Bool) (a : X) (xs : List X)
    → IsBelowAll cmp a xs → IsBelowAll cmp a (filter p xs)
IsBelowAll-filter cmp p a [] below = tt
IsBelowAll-filter {X} cmp p a (x ∷ xs) below =
    let P : Bool → Type 0 = λ b. IsBelowAll cmp a (cond b (x ∷ filter p xs) (filter p xs)) in
    elim (p x) as P [
      | true ↦ (below.0, IsBelowAll-filter cmp p a xs below.1)
      | false ↦ IsBelowAll-filter cmp p a xs below.1
    ]

pub IsAscending-filter : {X : Type 0} (cmp : X → X → Ordering) (p : X → Bool) (xs : List X) → IsAscending cmp xs
    → IsAscending cmp (filter p xs)
IsAscending-filter cmp p [] up = tt
IsAscending-filter {X} cmp p (x ∷ xs) up =
    let P : Bool → Type 0 = λ b. IsAscending cmp (cond b (x ∷ filter p xs) (filter p xs)) in
    elim (p x) as P [
      | true ↦ (IsBelowAll-filter cmp p x xs up.0, IsAscending-filter cmp p xs up.1)
      | false ↦ IsAscending-filter cmp p xs up.1
    ]

-- ---- insertions

not_below : {X : Type 0} (cmp : X → X → Ordering) (o : IsTotalOrder cmp) (x y z : X) → cmp y z ≡ Less
    → is_lt (cmp y x) ≡ false → is_lt (cmp z x) ≡ false
not_below cmp o x y z below first =
    let P : Ordering → Type 0 = λ r. cmp z x ≡ r → is_lt r ≡ false in
    (elim (cmp z x) as P [
      | Less ↦ λ e. sym (ap is_lt (o.trans y z x below e)) ∙ first
      | Equal ↦ λ e. refl
      | Greater ↦ λ e. refl
    ]) refl

-- An item that is not above the first one is inserted before all kept items.
inserted-front : {X : Type 0} (cmp : X → X → Ordering) (o : IsTotalOrder cmp) (q : X → Bool) (x y : X) (ys : List X)
    → IsBelowAll cmp y ys → is_lt (cmp y x) ≡ false → inserted cmp x (filter q ys) ≡ x ∷ filter q ys
inserted-front cmp o q x y [] below first = refl
inserted-front {X} cmp o q x y (z ∷ zs) below first =
    by (filter q zs) (q z) (not_below cmp o x y z below.0 first) (inserted-front cmp o q x y zs below.1 first)
  where
    by : (rest : List X) (b : Bool) → is_lt (cmp z x) ≡ false → inserted cmp x rest ≡ x ∷ rest
        → inserted cmp x (cond b (z ∷ rest) rest) ≡ x ∷ cond b (z ∷ rest) rest
    by rest true second front = ap (λ b. cond b (z ∷ inserted cmp x rest) (x ∷ z ∷ rest)) second
    by rest false second front = front

-- an item that is kept or dropped, before the same list
in_front : {X : Type 0} (y : X) (us vs : List X) (b : Bool) → y ∷ cond b us vs ≡ cond b (y ∷ us) (y ∷ vs)
in_front y us vs true = refl
in_front y us vs false = refl

-- A filtered insertion: the item is inserted into the filtered list if it passes.
pub filter-inserted : {X : Type 0} (cmp : X → X → Ordering) (o : IsTotalOrder cmp) (q : X → Bool) (x : X)
    (xs : List X) → IsAscending cmp xs
    → filter q (inserted cmp x xs) ≡ cond (q x) (inserted cmp x (filter q xs)) (filter q xs)
filter-inserted cmp o q x [] up = refl
filter-inserted {X} cmp o q x (y ∷ ys) up =
    by (is_lt (cmp y x)) refl (q y) refl (filter-inserted cmp o q x ys up.1) (inserted-front cmp o q x y ys up.0)
  where
    -- the insertion before the first item or after it
    turned : (b : Bool) → is_lt (cmp y x) ≡ b
        → cond b (y ∷ inserted cmp x (filter q ys)) (x ∷ y ∷ filter q ys) ≡ inserted cmp x (y ∷ filter q ys)
    turned b is = sym (ap (λ c. cond c (y ∷ inserted cmp x (filter q ys)) (x ∷ y ∷ filter q ys)) is)

    by : (b : Bool) → is_lt (cmp y x) ≡ b → (k : Bool) → q y ≡ k
        → filter q (inserted cmp x ys) ≡ cond (q x) (inserted cmp x (filter q ys)) (filter q ys)
        → (is_lt (cmp y x) ≡ false → inserted cmp x (filter q ys) ≡ x ∷ filter q ys)
        → filter q (cond b (y ∷ inserted cmp x ys) (x ∷ y ∷ ys))
        ≡ cond (q x) (inserted cmp x (cond k (y ∷ filter q ys) (filter q ys))) (cond k (y ∷ filter q ys) (filter q ys))
    by true is true keeps go front =
        ap (λ k. cond k (y ∷ filter q (inserted cmp x ys)) (filter q (inserted cmp x ys))) keeps
        ∙ ap (λ l. y ∷ l) go
        ∙ in_front y (inserted cmp x (filter q ys)) (filter q ys) (q x)
        ∙ ap (λ l. cond (q x) l (y ∷ filter q ys)) (turned true is)
    by true is false keeps go front =
        ap (λ k. cond k (y ∷ filter q (inserted cmp x ys)) (filter q (inserted cmp x ys))) keeps ∙ go
    by false is true keeps go front =
        ap (λ k. cond (q x) (x ∷ cond k (y ∷ filter q ys) (filter q ys)) (cond k (y ∷ filter q ys) (filter q ys)))
        keeps
        ∙ ap (λ l. cond (q x) l (y ∷ filter q ys)) (turned false is)
    by false is false keeps go front =
        ap (λ k. cond (q x) (x ∷ cond k (y ∷ filter q ys) (filter q ys)) (cond k (y ∷ filter q ys) (filter q ys)))
        keeps
        ∙ sym (ap (λ l. cond (q x) l (filter q ys)) (front is))

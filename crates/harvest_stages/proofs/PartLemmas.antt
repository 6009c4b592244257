-- Parts of lists: what a filter leaves of a permutation, and lists put one after the other.
use Rattle.std.proofs.Common.{◌≡◌, ◌∙◌, ◌+◌, ◌⊎◌, ℕ, Bool, true, false, ◌&&◌, ◌||◌, cond, not, List, [], ◌∷◌, ◌++◌, map, refl}
use Rattle.std.proofs.Common.{sym, ap, arith, inl, inr}
use Rattle.std.specs.List.{count_by, filter, flat_map, list_any, sum_by}
use Rattle.std.specs.List.Sorted.{IsPermutation}
use Rattle.std.specs.Ordering.{is_lt}
use Rattle.std.specs.declared.cmp.Ordering.{Ordering}
use Rattle.std.proofs.lemmas.List.Sums.{sum_by-cons}
use Rattle.std.proofs.lemmas.List.Sorted.{IsPermutation-cons, IsPermutation-middle, IsPermutation-refl}
use Rattle.std.proofs.lemmas.List.Sorted.{IsPermutation-trans, sum_by-IsPermutation}
use Rattle.portal_base.specs.Ordered.{ascending, inserted}
use Rattle.portal_base.proofs.Unique.{IsIn}

-- ---- items that a function leaves

-- A function that leaves each item leaves the list.
pub map-left : {X : Type 0} (f : X → X) (xs : List X) → ((x : X) → IsIn x xs → f x ≡ x) → map f xs ≡ xs
map-left f [] left = refl
map-left f (x ∷ xs) left =
    ap (λ y. y ∷ map f xs) (left x (inl refl)) ∙ ap (λ l. x ∷ l) (map-left f xs (λ y m. left y (inr m)))

-- If it leaves the list, it leaves each item.
pub left-IsIn : {X : Type 0} (f : X → X) (xs : List X) → map f xs ≡ xs → (x : X) → IsIn x xs → f x ≡ x
left-IsIn f [] left x m = absurd m
left-IsIn {X} f (y ∷ ys) left x (inl e) = let here : f y ≡ y = cc in ap f e ∙ here ∙ sym e
left-IsIn {X} f (y ∷ ys) left x (inr m) = let rest : map f ys ≡ ys = cc in left-IsIn f ys rest x m

-- As many items pass, if the function leaves whether an item passes.
pub count_by-map : {X : Type 0} (p : X → Bool) (f : X → X) → ((x : X) → p (f x) ≡ p x) → (xs : List X)
    → count_by p (map f xs) ≡ count_by p xs
count_by-map p f same [] = refl
count_by-map p f same (x ∷ xs) =
    sum_by-cons (λ y. cond (p y) 1 0) (f x) (map f xs)
    ∙ ap (λ b. cond b 1 0 + count_by p (map f xs)) (same x)
    ∙ ap (λ n. cond (p x) 1 0 + n) (count_by-map p f same xs)
    ∙ sym (sum_by-cons (λ y. cond (p y) 1 0) x xs)

-- ---- filters

pub filter-none : {X : Type 0} (p : X → Bool) (xs : List X) → ((x : X) → IsIn x xs → p x ≡ false) → filter p xs ≡ []
filter-none p [] none = refl
filter-none p (x ∷ xs) none =
    ap (λ b. cond b (x ∷ filter p xs) (filter p xs)) (none x (inl refl)) ∙ filter-none p xs (λ y m. none y (inr m))

-- Without the items that pass one test, all that pass the other are left, if no item passes both.
pub filter-others : {X : Type 0} (p q : X → Bool) → ((x : X) → q x ≡ true → p x ≡ false) → (xs : List X)
    → filter q (filter (λ x. not (p x)) xs) ≡ filter q xs
filter-others p q apart [] = refl
filter-others {X} p q apart (x ∷ xs) = by (p x) refl (q x) refl (filter-others p q apart xs)
  where
    by : (b : Bool) → p x ≡ b → (c : Bool) → q x ≡ c → filter q (filter (λ y. not (p y)) xs) ≡ filter q xs
        → filter q (cond (not b) (x ∷ filter (λ y. not (p y)) xs) (filter (λ y. not (p y)) xs))
        ≡ cond c (x ∷ filter q xs) (filter q xs)
    by true is true passes rest = let fails : p x ≡ false = apart x passes in absurd (cc)
    by true is false passes rest = rest
    by false is c passes rest =
        ap (λ l. cond (q x) (x ∷ l) l) rest ∙ ap (λ b. cond b (x ∷ filter q xs) (filter q xs)) passes

sum_by-filter : {X : Type 0} (f : X → ℕ) (p : X → Bool) (xs : List X)
    → sum_by f (filter p xs) ≡ sum_by (λ x. cond (p x) (f x) 0) xs
sum_by-filter f p [] = refl
sum_by-filter {X} f p (x ∷ xs) =
    let rest : sum_by f (filter p xs) ≡ sum_by (λ y. cond (p y) (f y) 0) xs = sum_by-filter f p xs in
    let P : Bool → Type 0 = λ b. sum_by f (cond b (x ∷ filter p xs) (filter p xs))
    ≡ cond b (f x) 0 + sum_by (λ y. cond (p y) (f y) 0) xs in
    (elim (p x) as P [ true ↦ sum_by-cons f x (filter p xs) ∙ ap (λ n. f x + n) rest | false ↦ omega arith ])
    ∙ sym (sum_by-cons (λ y. cond (p y) (f y) 0) x xs)

-- What a filter leaves of a permutation has the same sums.
pub sum_by-part : {X : Type 0} (f : X → ℕ) (p : X → Bool) (xs ys : List X) → IsPermutation xs ys
    → sum_by f (filter p xs) ≡ sum_by f (filter p ys)
sum_by-part f p xs ys same =
    sum_by-filter f p xs
    ∙ sym (sum_by-IsPermutation (λ x. cond (p x) (f x) 0) xs ys same)
    ∙ sym (sum_by-filter f p ys)

-- ---- the ascending list

IsPermutation-inserted : {X : Type 0} (cmp : X → X → Ordering) (x : X) (xs : List X)
    → IsPermutation (x ∷ xs) (inserted cmp x xs)
IsPermutation-inserted cmp x [] = IsPermutation-refl (x ∷ [])
IsPermutation-inserted {X} cmp x (y ∷ ys) =
    let P : Bool → Type 0 = λ b. IsPermutation (x ∷ y ∷ ys) (cond b (y ∷ inserted cmp x ys) (x ∷ y ∷ ys)) in
    elim (is_lt (cmp y x)) as P [
      | true ↦ IsPermutation-trans (x ∷ y ∷ ys) (y ∷ x ∷ ys) (y ∷ inserted cmp x ys) (IsPermutation-middle (x ∷ []) y ys)
          (IsPermutation-cons y (x ∷ ys) (inserted cmp x ys) (IsPermutation-inserted cmp x ys))
      | false ↦ IsPermutation-refl (x ∷ y ∷ ys)
    ]

-- The ascending list has the items.
pub IsPermutation-ascending : {X : Type 0} (cmp : X → X → Ordering) (xs : List X) → IsPermutation xs (ascending cmp xs)
IsPermutation-ascending cmp [] = IsPermutation-refl []
IsPermutation-ascending cmp (x ∷ xs) =
    IsPermutation-trans (x ∷ xs) (x ∷ ascending cmp xs) (inserted cmp x (ascending cmp xs))
    (IsPermutation-cons x xs (ascending cmp xs) (IsPermutation-ascending cmp xs))
    (IsPermutation-inserted cmp x (ascending cmp xs))

-- ---- lists put one after the other

append-IsIn : {Y : Type 0} (z : Y) (xs ys : List Y) → IsIn z (xs ++ ys) → IsIn z xs ⊎ IsIn z ys
append-IsIn z [] ys m = inr m
append-IsIn z (x ∷ xs) ys (inl e) = inl (inl e)
append-IsIn {Y} z (x ∷ xs) ys (inr m) = by (append-IsIn z xs ys m)
  where
    by : IsIn z xs ⊎ IsIn z ys → IsIn z (x ∷ xs) ⊎ IsIn z ys
    by (inl n) = inl (inr n)
    by (inr n) = inr n

-- A member of the whole is one of a part.
pub flat_map-IsIn : {X Y : Type 0} (f : X → List Y) (z : Y) (xs : List X) → IsIn z (flat_map f xs)
    → (x : X) × IsIn x xs × IsIn z (f x)
flat_map-IsIn f z [] m = absurd m
flat_map-IsIn {X} {Y} f z (x ∷ xs) m = by (append-IsIn z (f x) (flat_map f xs) m) (flat_map-IsIn f z xs)
  where
    by : IsIn z (f x) ⊎ IsIn z (flat_map f xs)
        → (IsIn z (flat_map f xs) → (y : X) × IsIn y xs × IsIn z (f y)) → (y : X) × IsIn y (x ∷ xs) × IsIn z (f y)
    by (inl n) further = (x, inl refl, n)
    by (inr n) further = let there = further n in (there.0, inr there.1, there.2)

pub flat_map-same : {X Y : Type 0} (f g : X → List Y) (xs : List X) → ((x : X) → IsIn x xs → f x ≡ g x)
    → flat_map f xs ≡ flat_map g xs
flat_map-same f g [] same = refl
flat_map-same f g (x ∷ xs) same =
    ap (λ l. l ++ flat_map f xs) (same x (inl refl))
    ∙ ap (λ l. g x ++ l) (flat_map-same f g xs (λ y m. same y (inr m)))

pub flat_map-map : {W X Y : Type 0} (f : X → List Y) (g : W → X) (ws : List W)
    → flat_map f (map g ws) ≡ flat_map (λ w. f (g w)) ws
flat_map-map f g [] = refl
flat_map-map f g (w ∷ ws) = ap (λ l. f (g w) ++ l) (flat_map-map f g ws)

-- If a member passes the test, one passes it.
pub any-IsIn : {X : Type 0} (p : X → Bool) (x : X) (xs : List X) → IsIn x xs → p x ≡ true → list_any p xs ≡ true
any-IsIn p x [] m passes = absurd m
any-IsIn {X} p x (y ∷ ys) m passes = by (p y) refl m (λ n. any-IsIn p x ys n passes)
  where
    by : (b : Bool) → p y ≡ b → IsIn x (y ∷ ys) → (IsIn x ys → list_any p ys ≡ true) → (b || list_any p ys) ≡ true
    by true is n further = refl
    by false is (inl e) further = let same : p x ≡ false = ap p e ∙ is in absurd (cc)
    by false is (inr n) further = further n

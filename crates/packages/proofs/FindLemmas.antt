-- Searches, counts and maps of lists, by membership.
use Rattle.std.proofs.Common.{◌≡◌, suc, Bool, true, false, ◌||◌, cond, List, [], ◌∷◌, Option, Some, None, length, map}
use Rattle.std.proofs.Common.{refl, sym, ap, ◌∙◌, inl, inr, true≢false, ◌+◌, not, arith}
use Rattle.std.proofs.Common.{IfSome, IfNone, IsTrue, Contains}
use Rattle.std.specs.Bool.{then_some}
use Rattle.std.specs.Option.{option_and_then}
use Rattle.std.specs.Prelude.{filter}
use Rattle.std.specs.declared.cmp.Ordering.{Ordering}
use Rattle.std.specs.List.{find, list_any}
use Rattle.std.specs.Ordering.{is_lt}
use Rattle.portal_base.specs.Ordered.{inserted, ascending}
use Rattle.portal_base.proofs.Filtered.{IsIn-filter, filter-IsIn}
use Rattle.portal_base.proofs.Unique.{IsIn, IsIn-Contains}

-- ---- a search

-- The item that is found is in the list, and passes.
pub IsIn-find : {X : Type 0} (test : X → Bool) (x : X) (xs : List X) → find test xs ≡ Some x
    → IsIn x xs × (test x ≡ true)
IsIn-find test x [] h = absurd (cc)
IsIn-find {X} test x (y ∷ ys) h = by (test y) refl h (IsIn-find test x ys)
  where
    by : (b : Bool) → test y ≡ b → cond b (Some y) (find test ys) ≡ Some x
        → (find test ys ≡ Some x → IsIn x ys × (test x ≡ true)) → IsIn x (y ∷ ys) × (test x ≡ true)
    by true is e go = let same : x ≡ y = cc in (inl same, ap test same ∙ is)
    by false is e go = (inr (go e).0, (go e).1)

-- If nothing is found, nothing passes.
pub find-none : {X : Type 0} (test : X → Bool) (x : X) (xs : List X) → find test xs ≡ None → IsIn x xs
    → test x ≡ false
find-none test x [] h m = absurd m
find-none {X} test x (y ∷ ys) h m = by (test y) refl h m (find-none test x ys)
  where
    by : (b : Bool) → test y ≡ b → cond b (Some y) (find test ys) ≡ None → IsIn x (y ∷ ys)
        → (find test ys ≡ None → IsIn x ys → test x ≡ false) → test x ≡ false
    by true is e m go = absurd (cc)
    by false is e (inl same) go = ap test same ∙ is
    by false is e (inr m) go = go e m

-- If nothing passes, nothing is found.
pub none-find : {X : Type 0} (test : X → Bool) (xs : List X) → ((x : X) → IsIn x xs → test x ≡ false)
    → find test xs ≡ None
none-find test [] fails = refl
none-find test (x ∷ xs) fails =
    ap (λ b. cond b (Some x) (find test xs)) (fails x (inl refl)) ∙ none-find test xs (λ y m. fails y (inr m))

pub none-list_any : {X : Type 0} (test : X → Bool) (xs : List X) → ((x : X) → IsIn x xs → test x ≡ false)
    → list_any test xs ≡ false
none-list_any test [] fails = refl
none-list_any test (x ∷ xs) fails =
    ap (λ b. b || list_any test xs) (fails x (inl refl)) ∙ none-list_any test xs (λ y m. fails y (inr m))

-- The same, for the result of a search.
pub find-IfSome : {X : Type 0} (test : X → Bool) (xs : List X) (r : Option X) → r ≡ find test xs
    → IfSome r (λ x. IsTrue (test x))
find-IfSome test xs None is = tt
find-IfSome test xs (Some x) is = (IsIn-find test x xs (sym is)).1

pub find-IfNone : {X : Type 0} (test : X → Bool) (xs : List X) (r : Option X) → r ≡ find test xs
    → IfNone r ((x : X) → Contains xs x → test x ≡ false)
find-IfNone test xs None is = λ x m. find-none test x xs (sym is) (IsIn-Contains x xs m)
find-IfNone test xs (Some x) is = tt

pub IfNone-from : {X : Type 0} (r : Option X) (A B : Type 0) → IfNone r A → (A → B) → IfNone r B
IfNone-from None A B a f = f a
IfNone-from (Some x) A B a f = tt

-- If only one item passes, it is found.
pub find-alone : {X : Type 0} (test : X → Bool) (x : X) (xs : List X) → IsIn x xs → test x ≡ true
    → ((y : X) → IsIn y xs → test y ≡ true → y ≡ x) → find test xs ≡ Some x
find-alone test x [] m passes alone = absurd m
find-alone {X} test x (y ∷ ys) m passes alone =
    by (test y) refl m (λ n. find-alone test x ys n passes (λ z k. alone z (inr k)))
  where
    by : (b : Bool) → test y ≡ b → IsIn x (y ∷ ys) → (IsIn x ys → find test ys ≡ Some x)
        → cond b (Some y) (find test ys) ≡ Some x
    by true is m go = ap Some (alone y (inl refl) is)
    by false is (inl same) go = absurd (true≢false (sym passes ∙ ap test same ∙ is))
    by false is (inr m) go = go m

-- ---- a search for the only item that passes

-- at most one item passes
abbrev pub IsAlone : {X : Type 0} → (X → Bool) → List X → Type 0
IsAlone {X} test xs = (x y : X) → IsIn x xs → IsIn y xs → test x ≡ true → test y ≡ true → x ≡ y

pub IsAlone-filter : {X : Type 0} (p q : X → Bool) (xs : List X) → IsAlone p xs → IsAlone p (filter q xs)
IsAlone-filter p q xs alone x y m n = alone x y (IsIn-filter q x xs m).0 (IsIn-filter q y xs n).0

-- A test that isn't true is false.
pub fails : (b : Bool) → (b ≡ true → ⊥) → b ≡ false
fails true not = absurd (not refl)
fails false not = refl

-- Among the kept items it is found if it is kept.
pub find-kept_alone : {X : Type 0} (p q : X → Bool) (xs : List X) → IsAlone p xs
    → find p (filter q xs) ≡ option_and_then (λ x. then_some (q x) x) (find p xs)
find-kept_alone {X} p q xs alone = by (find p xs) refl
  where
    kept : (x : X) → IsIn x xs → p x ≡ true → (b : Bool) → q x ≡ b → find p (filter q xs) ≡ then_some b x
    kept x m passes true stays =
        find-alone p x (filter q xs) (filter-IsIn q x xs m stays) passes
        (λ y n also. alone y x (IsIn-filter q y xs n).0 m also passes)
    kept x m passes false goes =
        none-find p (filter q xs)
        (λ y n. let there = IsIn-filter q y xs n in
        fails (p y) (λ also. true≢false (sym there.1 ∙ ap q (alone y x there.0 m also passes) ∙ goes)))

    by : (o : Option X) → find p xs ≡ o → find p (filter q xs) ≡ option_and_then (λ x. then_some (q x) x) o
    by None is = none-find p (filter q xs) (λ x m. find-none p x xs is (IsIn-filter q x xs m).0)
    by (Some x) is = let there = IsIn-find p x xs is in kept x there.0 there.1 (q x) refl

-- If whatever passes p passes r, and only one item passes r, then a search by r serves for p, up to the result of f.
pub find-narrowed : {X Y : Type 0} (p r : X → Bool) (f : X → Option Y) (xs : List X) → IsAlone r xs
    → ((x : X) → p x ≡ true → r x ≡ true) → ((x : X) → p x ≡ false → f x ≡ None)
    → option_and_then f (find p xs) ≡ option_and_then f (find r xs)
find-narrowed {X} {Y} p r f xs alone narrow none = by (find r xs) refl
  where
    found : (x : X) → IsIn x xs → r x ≡ true → (b : Bool) → p x ≡ b → option_and_then f (find p xs) ≡ f x
    found x m passes true is =
        ap (option_and_then f)
        (find-alone p x xs m is (λ y n also. alone y x n m (narrow y also) passes))
    found x m passes false is =
        ap (option_and_then f)
        (none-find p xs
        (λ y n. fails (p y)
        (λ also. true≢false (sym also ∙ ap p (alone y x n m (narrow y also) passes) ∙ is))))
        ∙ sym (none x is)

    by : (o : Option X) → find r xs ≡ o → option_and_then f (find p xs) ≡ option_and_then f o
    by None is =
        ap (option_and_then f)
        (none-find p xs
        (λ x m. fails (p x) (λ also. true≢false (sym (narrow x also) ∙ find-none r x xs is m))))
    by (Some x) is = let there = IsIn-find r x xs is in found x there.0 there.1 (p x) refl

-- ---- maps

pub IsIn-map : {X Y : Type 0} (f : X → Y) (x : X) (xs : List X) → IsIn x xs → IsIn (f x) (map f xs)
IsIn-map f x [] m = absurd m
IsIn-map f x (y ∷ ys) (inl same) = inl (ap f same)
IsIn-map f x (y ∷ ys) (inr m) = inr (IsIn-map f x ys m)

pub map-IsIn : {X Y : Type 0} (f : X → Y) (z : Y) (xs : List X) → IsIn z (map f xs)
    → (x : X) × IsIn x xs × (z ≡ f x)
map-IsIn f z [] m = absurd m
map-IsIn f z (x ∷ xs) (inl same) = (x, inl refl, same)
map-IsIn f z (x ∷ xs) (inr m) = let w = map-IsIn f z xs m in (w.0, inr w.1, w.2)

-- ---- how many pass, and whether any does

pub list_any-map : {X Y : Type 0} (f : X → Y) (test : Y → Bool) (xs : List X)
    → list_any test (map f xs) ≡ list_any (λ x. test (f x)) xs
list_any-map f test [] = refl
list_any-map f test (x ∷ xs) = ap (λ b. test (f x) || b) (list_any-map f test xs)

-- one more item in each of two lists of the same length
more : {X Y : Type 0} (b : Bool) (x : X) (y : Y) (xs : List X) (ys : List Y) → length xs ≡ length ys
    → length (cond b (x ∷ xs) xs) ≡ length (cond b (y ∷ ys) ys)
more true x y xs ys same = ap suc same
more false x y xs ys same = same

-- Each item passes or fails.
pub count-both : {X : Type 0} (test : X → Bool) (xs : List X)
    → length xs ≡ length (filter test xs) + length (filter (λ x. not (test x)) xs)
count-both test [] = refl
count-both {X} test (x ∷ xs) = by (test x) (filter test xs) (filter (λ y. not (test y)) xs) (count-both test xs)
  where
    by : (b : Bool) (passing failing : List X) → length xs ≡ length passing + length failing
        → suc (length xs) ≡ length (cond b (x ∷ passing) passing) + length (cond (not b) (x ∷ failing) failing)
    by true passing failing same = omega arith
    by false passing failing same = omega arith

pub count-map : {X Y : Type 0} (f : X → Y) (test : Y → Bool) (xs : List X)
    → length (filter test (map f xs)) ≡ length (filter (λ x. test (f x)) xs)
count-map f test [] = refl
count-map f test (x ∷ xs) =
    more (test (f x)) (f x) x (filter test (map f xs)) (filter (λ y. test (f y)) xs) (count-map f test xs)

count-inserted : {X : Type 0} (cmp : X → X → Ordering) (test : X → Bool) (x : X) (xs : List X)
    → length (filter test (inserted cmp x xs)) ≡ length (filter test (x ∷ xs))
count-inserted cmp test x [] = refl
count-inserted {X} cmp test x (y ∷ ys) =
    let P : Bool → Type 0 = λ b.
    length (filter test (cond b (y ∷ inserted cmp x ys) (x ∷ y ∷ ys))) ≡ length (filter test (x ∷ y ∷ ys)) in
    elim (is_lt (cmp y x)) as P [
      | true ↦ step (test x) (test y) (count-inserted cmp test x ys)
      | false ↦ refl
    ]
  where
    step : (a b : Bool)
        → length (filter test (inserted cmp x ys)) ≡ length (cond a (x ∷ filter test ys) (filter test ys))
        → length (cond b (y ∷ filter test (inserted cmp x ys)) (filter test (inserted cmp x ys)))
        ≡ length (cond a (x ∷ cond b (y ∷ filter test ys) (filter test ys))
        (cond b (y ∷ filter test ys) (filter test ys)))
    step true true same = ap suc same
    step true false same = same
    step false true same = ap suc same
    step false false same = same

-- The count of items that pass doesn't depend on the order.
pub count-ascending : {X : Type 0} (cmp : X → X → Ordering) (test : X → Bool) (xs : List X)
    → length (filter test (ascending cmp xs)) ≡ length (filter test xs)
count-ascending cmp test [] = refl
count-ascending cmp test (x ∷ xs) =
    count-inserted cmp test x (ascending cmp xs)
    ∙ more (test x) x x (filter test (ascending cmp xs)) (filter test xs) (count-ascending cmp test xs)

-- What the demands of a query mean, as items are added and repeats dropped.
use Rattle.std.proofs.Common.{◌≡◌, ◌∙◌, ℕ, Bool, true, false, ◌||◌, ◌&&◌, not, cond, List, [], ◌∷◌, refl, sym, ap, ap₂}
use Rattle.std.proofs.Common.{inl, inr}
use Rattle.std.specs.Cmp.Lexicographic.{pointwise}
use Rattle.std.specs.List as lists
use Rattle.std.specs.List.{Contains, dedup, list_all, list_any}
use Rattle.std.specs.List.Sorted.{IsPermutation}
use Rattle.std.specs.Prelude.{◌↔◌}
use Rattle.std.specs.Str.{bytes_eq}
use Rattle.std.proofs.lemmas.List.Sorted.{list_any-IsPermutation}
use Rattle.std.proofs.lemmas.Slice.Eq.{bytes_eq-Decides}
use Rattle.portal_base.proofs.Unique.{Contains-IsIn, IsIn, IsIn-Contains}
use Rattle.search_index.specs.Items.{has_term}
use Rattle.search_index.specs.contracts.item.TestPartialEq.TheImpl as equality
use Rattle.search_index.specs.declared.item.Test.{Test}
use Rattle.search_index.specs.declared.item.Test.TheVariants.{Term, Prefix}

-- ---- and, or

-- A conjunct that is added before others of the same list can stand before all.
pub and_first : (old new rest : Bool) → ((old && new) && rest) ≡ (new && (old && rest))
and_first true new rest = refl
and_first false true rest = refl
and_first false false rest = refl

pub nor_middle : (tests old new rest : Bool) → (tests && (not (old || new) && rest)) ≡ (not new && (tests && (not old && rest)))
nor_middle true true true rest = refl
nor_middle true true false rest = refl
nor_middle true false new rest = refl
nor_middle false old true rest = refl
nor_middle false old false rest = refl

pub nor_last : (tests terms old new : Bool) → (tests && (not terms && not (old || new))) ≡ (not new && (tests && (not terms && not old)))
nor_last true true old true = refl
nor_last true true old false = refl
nor_last true false true true = refl
nor_last true false true false = refl
nor_last true false false new = and_true (not new)
  where
    and_true : (b : Bool) → b ≡ (b && true)
    and_true true = refl
    and_true false = refl
nor_last false terms old true = refl
nor_last false terms old false = refl

or_false : (b : Bool) → (b || false) ≡ b
or_false true = refl
or_false false = refl

-- ---- lists with the same items

pub any_in : {X : Type 0} (p : X → Bool) (z : X) (xs : List X) → IsIn z xs → p z ≡ true → list_any p xs ≡ true
any_in p z [] m e = absurd m
any_in p z (x ∷ xs) (inl same) e = ap (λ b. b || list_any p xs) (ap p (sym same) ∙ e)
any_in p z (x ∷ xs) (inr m) e = ap (λ b. p x || b) (any_in p z xs m e) ∙ or_true (p x)
  where
    or_true : (b : Bool) → (b || true) ≡ true
    or_true true = refl
    or_true false = refl

pub one_in : {X : Type 0} (p : X → Bool) (xs : List X) → list_any p xs ≡ true → (z : X) × IsIn z xs × (p z ≡ true)
one_in p [] e = absurd (cc)
one_in {X} p (x ∷ xs) e = by (p x) refl e (one_in p xs)
  where
    by : (b : Bool) → p x ≡ b → (b || list_any p xs) ≡ true
        → (list_any p xs ≡ true → (z : X) × IsIn z xs × (p z ≡ true)) → (z : X) × IsIn z (x ∷ xs) × (p z ≡ true)
    by true here all more = (x, inl refl, here)
    by false here all more = let found = more all in (found.0, inr found.1, found.2)

alike : (a b : Bool) → (a ≡ true → b ≡ true) → (b ≡ true → a ≡ true) → a ≡ b
alike true b to back = sym (to refl)
alike false true to back = back refl
alike false false to back = refl

pub any_of_same : {X : Type 0} (p : X → Bool) (xs ys : List X) → ((z : X) → Contains xs z ↔ Contains ys z)
    → list_any p xs ≡ list_any p ys
any_of_same p xs ys same =
    alike (list_any p xs) (list_any p ys)
    (λ e. let found = one_in p xs e in
    any_in p found.0 ys (IsIn-Contains found.0 ys ((same found.0).0 (Contains-IsIn found.0 xs found.1))) found.2)
    (λ e. let found = one_in p ys e in
    any_in p found.0 xs (IsIn-Contains found.0 xs ((same found.0).1 (Contains-IsIn found.0 ys found.1))) found.2)

any_dedup_from : {X : Type 0} (same : X → X → Bool) (p : X → Bool) → ((x y : X) → same x y ≡ true → p x ≡ p y)
    → (k : X) (xs : List X) → list_any p (lists.dedup_from same k xs) ≡ (p k || list_any p xs)
any_dedup_from same p exact k [] = refl
any_dedup_from {X} same p exact k (x ∷ xs) =
    by (same x k) refl (any_dedup_from same p exact k xs) (any_dedup_from same p exact x xs)
  where
    twice : (b c : Bool) → (b || c) ≡ (b || (b || c))
    twice true c = refl
    twice false c = refl

    by : (b : Bool) → same x k ≡ b → list_any p (lists.dedup_from same k xs) ≡ (p k || list_any p xs)
        → list_any p (lists.dedup_from same x xs) ≡ (p x || list_any p xs)
        → list_any p (cond b (lists.dedup_from same k xs) (k ∷ lists.dedup_from same x xs))
        ≡ (p k || (p x || list_any p xs))
    by true e here there =
        here ∙ twice (p k) (list_any p xs) ∙ ap (λ b. p k || (b || list_any p xs)) (sym (exact x k e))
    by false e here there = ap (λ b. p k || b) there

-- Order and repeats change nothing of whether an item passes.
pub any_sorted : {X : Type 0} (same : X → X → Bool) (p : X → Bool) → ((x y : X) → same x y ≡ true → p x ≡ p y)
    → (xs sorted : List X) → IsPermutation xs sorted → list_any p (dedup same sorted) ≡ list_any p xs
any_sorted same p exact xs [] moved = sym (list_any-IsPermutation p xs [] moved)
any_sorted same p exact xs (y ∷ ys) moved =
    any_dedup_from same p exact y ys ∙ sym (list_any-IsPermutation p xs (y ∷ ys) moved)

all_none : {X : Type 0} (p : X → Bool) (xs : List X) → list_all p xs ≡ not (list_any (λ x. not (p x)) xs)
all_none p [] = refl
all_none {X} p (x ∷ xs) = by (p x) (all_none p xs)
  where
    by : (b : Bool) → list_all p xs ≡ not (list_any (λ y. not (p y)) xs)
        → (b && list_all p xs) ≡ not (not b || list_any (λ y. not (p y)) xs)
    by true more = more
    by false more = refl

-- Nor do they change whether all pass.
pub all_sorted : {X : Type 0} (same : X → X → Bool) (p : X → Bool) → ((x y : X) → same x y ≡ true → p x ≡ p y)
    → (xs sorted : List X) → IsPermutation xs sorted → list_all p (dedup same sorted) ≡ list_all p xs
all_sorted same p exact xs sorted moved =
    all_none p (dedup same sorted)
    ∙ ap not (any_sorted same (λ x. not (p x)) (λ x y e. ap not (exact x y e)) xs sorted moved)
    ∙ sym (all_none p xs)

-- ---- terms among terms

bytes_eq_sym : (x y : List ℕ) → bytes_eq x y ≡ bytes_eq y x
bytes_eq_sym x y = alike (bytes_eq x y) (bytes_eq y x) (flip x y) (flip y x)
  where
    self : (t : List ℕ) → bytes_eq t t ≡ true
    self t = (bytes_eq-Decides t t).1 refl

    flip : (a b : List ℕ) → bytes_eq a b ≡ true → bytes_eq b a ≡ true
    flip a b e = ap (bytes_eq b) ((bytes_eq-Decides a b).0 e) ∙ self b

has_none : (xs : List (List ℕ)) → list_any (has_term []) xs ≡ false
has_none [] = refl
has_none (x ∷ xs) = has_none xs

has_more : (y : List ℕ) (ys xs : List (List ℕ))
    → list_any (has_term (y ∷ ys)) xs ≡ (has_term xs y || list_any (has_term ys) xs)
has_more y ys [] = refl
has_more y ys (x ∷ xs) =
    ap₂ (λ a b. (a || has_term ys x) || b) (bytes_eq_sym y x) (has_more y ys xs)
    ∙ mix (bytes_eq x y) (has_term ys x) (has_term xs y) (list_any (has_term ys) xs)
  where
    mix : (a b c d : Bool) → ((a || b) || (c || d)) ≡ ((a || c) || (b || d))
    mix true b c d = refl
    mix false true true d = refl
    mix false true false d = refl
    mix false false c d = refl

-- One of these is among those exactly if one of those is among these.
pub has_either : (xs ys : List (List ℕ)) → list_any (has_term ys) xs ≡ list_any (has_term xs) ys
has_either xs [] = has_none xs
has_either xs (y ∷ ys) = has_more y ys xs ∙ ap (λ b. has_term xs y || b) (has_either xs ys)

-- ---- demands that are tested one after the other

pub fails_at_terms : (tests terms rest : Bool) → terms ≡ true → false ≡ (tests && (not terms && rest))
fails_at_terms true true rest e = refl
fails_at_terms false true rest e = refl
fails_at_terms tests false rest e = absurd (cc)

pub rest_decides : (tests terms rest : Bool) → tests ≡ true → terms ≡ false → rest ≡ (tests && (not terms && rest))
rest_decides true false rest e f = refl
rest_decides true true rest e f = absurd (cc)
rest_decides false terms rest e f = absurd (cc)

-- ---- equal tests

abbrev pub same_test : Test → Test → Bool
same_test = equality.eq-value.it

pub same_test_exact : (x y : Test) → same_test x y ≡ true → x ≡ y
same_test_exact (Term a) (Term b) e = ap Term ((bytes_eq-Decides a b).0 e)
same_test_exact (Prefix a) (Prefix b) e = ap Prefix ((bytes_eq-Decides a b).0 e)
same_test_exact (Term a) (Prefix b) e = absurd (cc)
same_test_exact (Prefix a) (Term b) e = absurd (cc)

pub same_tests_exact : (xs ys : List Test) → pointwise same_test xs ys ≡ true → xs ≡ ys
same_tests_exact [] [] e = refl
same_tests_exact [] (y ∷ ys) e = absurd (cc)
same_tests_exact (x ∷ xs) [] e = absurd (cc)
same_tests_exact (x ∷ xs) (y ∷ ys) e = by (same_test x y) refl e (same_tests_exact xs ys)
  where
    by : (b : Bool) → same_test x y ≡ b → (b && pointwise same_test xs ys) ≡ true
        → (pointwise same_test xs ys ≡ true → xs ≡ ys) → (x ∷ xs) ≡ (y ∷ ys)
    by true here all more = ap₂ (λ z zs. z ∷ zs) (same_test_exact x y here) (more all)
    by false here all more = absurd (cc)

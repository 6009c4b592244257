-- Look-ups in an ascending list of texts, at the first that isn't before a text.
use Rattle.std.proofs.Common.{◌≡◌, ◌∙◌, ◌<◌, ◌≤◌, ℕ, zero, suc, Bool, true, false, ◌||◌, ◌&&◌, List, [], ◌∷◌}
use Rattle.std.proofs.Common.{refl, sym, ap, ap₂, subst, length, get_or, arith, eqb-true}
use Rattle.std.specs.Prelude.{nat_eq}
use Rattle.std.specs.Cmp.Lexicographic.{slice_cmp}
use Rattle.std.specs.List.{list_any, starts_with}
use Rattle.std.specs.List.Sorted.{IsPartitionedBy, IsPartitionPoint}
use Rattle.std.specs.Ordering.{is_lt, nat_cmp, ordering_reverse, ordering_then}
use Rattle.std.specs.Str.{bytes_eq}
use Rattle.std.specs.declared.cmp.Ordering.{Ordering}
use Rattle.std.specs.declared.cmp.Ordering.TheVariants.{Less, Equal, Greater}
use Rattle.std.proofs.lemmas.Cmp.{nat_list_cmp_total}
use Rattle.std.proofs.lemmas.Slice.Eq.{bytes_eq-Decides}
use Rattle.portal_base.specs.Ordered.{IsAscending, IsBelowAll}

abbrev pub text_cmp : List ℕ → List ℕ → Ordering
text_cmp = slice_cmp nat_cmp

-- the text is before this one
abbrev pub is_before : List ℕ → List ℕ → Bool
is_before t x = is_lt (text_cmp x t)

less_of : (r : Ordering) → is_lt r ≡ true → r ≡ Less
less_of Less h = refl
less_of Equal h = absurd (cc)
less_of Greater h = absurd (cc)

-- ---- the first text that isn't before another

below_at : (x d : List ℕ) (xs : List (List ℕ)) → IsBelowAll text_cmp x xs → (j : ℕ) → j < length xs
    → text_cmp x (get_or xs j d) ≡ Less
below_at x d [] below j lt = absurd (omega (arith, lt))
below_at x d (y ∷ ys) below zero lt = below.0
below_at x d (y ∷ ys) below (suc j) lt = below_at x d ys below.1 j (omega (arith, lt))

-- The texts before a text come first.
pub before_first : (t : List ℕ) (xs : List (List ℕ)) → IsAscending text_cmp xs → IsPartitionedBy (is_before t) xs
before_first t [] up i j d le lt h = absurd (omega (arith, lt))
before_first t (y ∷ ys) up zero zero d le lt h = h
before_first t (y ∷ ys) up zero (suc j) d le lt h =
    ap is_lt
    (nat_list_cmp_total.trans y (get_or ys j d) t (below_at y d ys up.0 j (omega (arith, lt)))
    (less_of (text_cmp (get_or ys j d) t) h))
before_first t (y ∷ ys) up (suc i) zero d le lt h = absurd (omega (arith, le))
before_first t (y ∷ ys) up (suc i) (suc j) d le lt h =
    before_first t ys up.1 i j d (omega (arith, le)) (omega (arith, lt)) h

abbrev pub IsFirstFrom : List ℕ → List (List ℕ) → ℕ → Type 0
IsFirstFrom t xs i = IsPartitionPoint (λ y. is_before t y ≡ true) (λ y. is_before t y ≡ false) xs i

-- a test that texts before t fail, and that a text after one that fails it fails too, from t on
pub record IsNext (t : List ℕ) (test : List ℕ → Bool) : Type 0 where
  pub before : (x : List ℕ) → is_before t x ≡ true → test x ≡ false
  pub between : (x y : List ℕ) → is_before t x ≡ false → text_cmp x y ≡ Less → test y ≡ true → test x ≡ true

none_after : (t : List ℕ) (test : List ℕ → Bool) → IsNext t test → (x : List ℕ) (ys : List (List ℕ))
    → is_before t x ≡ false → test x ≡ false → IsBelowAll text_cmp x ys → list_any test ys ≡ false
none_after t test next x [] from fails below = refl
none_after t test next x (y ∷ ys) from fails below =
    ap₂ (λ a b. a || b) (by (test y) refl) (none_after t test next x ys from fails below.1)
  where
    by : (b : Bool) → test y ≡ b → test y ≡ false
    by false e = e
    by true e = absurd (cc (fails, next.between x y from below.0 e))

beyond : (t x : List ℕ) (xs : List (List ℕ)) (i : ℕ) → IsFirstFrom t (x ∷ xs) (suc i) → IsFirstFrom t xs i
beyond t x xs i point = (
  λ k d le lt. point.0 (suc k) d (omega arith) (omega (arith, lt)),
  λ k d le lt. point.1 (suc k) d (omega (arith, le)) (omega (arith, lt)),
)

-- One of the texts passes exactly if the first that isn't before t does.
pub any_at_first : (t : List ℕ) (test : List ℕ → Bool) → IsNext t test → (xs : List (List ℕ)) (i : ℕ) (d : List ℕ)
    → IsAscending text_cmp xs → IsFirstFrom t xs i → i < length xs → list_any test xs ≡ test (get_or xs i d)
any_at_first t test next [] i d up point within = absurd (omega (arith, within))
any_at_first t test next (x ∷ xs) zero d up point within = by (test x) refl
  where
    from : is_before t x ≡ false
    from = point.1 0 x (omega arith) (omega arith)

    by : (b : Bool) → test x ≡ b → (test x || list_any test xs) ≡ test x
    by true e = rw e refl
    by false e = rw e (none_after t test next x xs from e up.0)
any_at_first t test next (x ∷ xs) (suc i) d up point within =
    ap (λ b. b || list_any test xs) (next.before x (point.0 0 x (omega arith) (omega arith)))
    ∙ any_at_first t test next xs i d up.1 (beyond t x xs i point) (omega (arith, within))

-- If all texts are before t, none passes.
pub any_past : (t : List ℕ) (test : List ℕ → Bool) → IsNext t test → (xs : List (List ℕ)) (i : ℕ)
    → IsFirstFrom t xs i → length xs ≤ i → list_any test xs ≡ false
any_past t test next [] i point past = refl
any_past t test next (x ∷ xs) zero point past = absurd (omega (arith, past))
any_past t test next (x ∷ xs) (suc i) point past =
    ap₂ (λ a b. a || b) (next.before x (point.0 0 x (omega arith) (omega arith)))
    (any_past t test next xs i (beyond t x xs i point) (omega (arith, past)))

-- ---- the same text, and texts that begin with it

cmp_self : (t : List ℕ) → is_before t t ≡ false
cmp_self t = by (text_cmp t t) refl (nat_list_cmp_total.antisymm t t)
  where
    by : (r : Ordering) → text_cmp t t ≡ r → text_cmp t t ≡ ordering_reverse (text_cmp t t) → is_lt r ≡ false
    by Less e back = absurd (cc)
    by Equal e back = refl
    by Greater e back = refl

pub same_is_next : (t : List ℕ) → IsNext t (λ x. bytes_eq x t)
same_is_next t = record { before = before; between = between }
  where
    before : (x : List ℕ) → is_before t x ≡ true → bytes_eq x t ≡ false
    before x lt = by (bytes_eq x t) refl
      where
        by : (b : Bool) → bytes_eq x t ≡ b → bytes_eq x t ≡ false
        by false e = e
        by true e =
            absurd (cc (lt, cmp_self t, ap (is_before t) ((bytes_eq-Decides x t).0 e)))

    between : (x y : List ℕ) → is_before t x ≡ false → text_cmp x y ≡ Less → bytes_eq y t ≡ true
        → bytes_eq x t ≡ true
    between x y from lt e =
        absurd (cc (from, ap is_lt (subst (λ z. text_cmp x z ≡ Less) ((bytes_eq-Decides y t).0 e) lt)))

-- ---- texts that begin with a text

number_self : (n : ℕ) → nat_cmp n n ≡ Equal
number_self n = grind arith

same_number : (c a : ℕ) → nat_cmp a c ≡ Equal → nat_eq c a ≡ true
same_number c a is = grind (arith, is)

begins_not_before : (t x : List ℕ) → starts_with nat_eq x t ≡ true → is_before t x ≡ false
begins_not_before [] [] e = refl
begins_not_before [] (d ∷ x) e = refl
begins_not_before (c ∷ t) [] e = absurd (cc)
begins_not_before (c ∷ t) (d ∷ x) e = by (nat_eq c d) refl e (begins_not_before t x)
  where
    by : (b : Bool) → nat_eq c d ≡ b → (b && starts_with nat_eq x t) ≡ true
        → (starts_with nat_eq x t ≡ true → is_before t x ≡ false) → is_before (c ∷ t) (d ∷ x) ≡ false
    by false same all more = absurd (cc)
    by true same all more =
        subst (λ a. is_lt (ordering_then (nat_cmp d a) (text_cmp x t)) ≡ false) (sym (eqb-true c d same))
        (rw (number_self d) (more all))

begins_between : (t x y : List ℕ) → is_before t x ≡ false → text_cmp x y ≡ Less → starts_with nat_eq y t ≡ true
    → starts_with nat_eq x t ≡ true
begins_between [] x y from lt e = refl
begins_between (c ∷ t) [] y from lt e = absurd (cc)
begins_between (c ∷ t) (a ∷ x) [] from lt e = absurd (cc)
begins_between (c ∷ t) (a ∷ x) (d ∷ y) from lt e = by (nat_eq c d) refl e (begins_between t x y)
  where
    inner : (starts_with nat_eq y t ≡ true) → (r : Ordering) → nat_cmp a c ≡ r
        → is_lt (ordering_then r (text_cmp x t)) ≡ false → ordering_then r (text_cmp x y) ≡ Less
        → (is_before t x ≡ false → text_cmp x y ≡ Less → starts_with nat_eq y t ≡ true → starts_with nat_eq x t ≡ true)
        → (nat_eq c a && starts_with nat_eq x t) ≡ true
    inner rest Less is from lt more = absurd (cc)
    inner rest Greater is from lt more = absurd (cc)
    inner rest Equal is from lt more = ap₂ (λ p q. p && q) {y = true} (same_number c a is) (more from lt rest)

    by : (b : Bool) → nat_eq c d ≡ b → (b && starts_with nat_eq y t) ≡ true
        → (is_before t x ≡ false → text_cmp x y ≡ Less → starts_with nat_eq y t ≡ true → starts_with nat_eq x t ≡ true)
        → starts_with nat_eq (a ∷ x) (c ∷ t) ≡ true
    by false same all more = absurd (cc)
    by true same all more =
        inner all (nat_cmp a c) refl from
        (subst (λ z. ordering_then (nat_cmp a z) (text_cmp x y) ≡ Less) (sym (eqb-true c d same)) lt) more

pub begun_is_next : (t : List ℕ) → IsNext t (λ x. starts_with nat_eq x t)
begun_is_next t = record {
  before = λ x lt. not_both x (starts_with nat_eq x t) refl lt;
  between = begins_between t;
}
  where
    not_both : (x : List ℕ) (b : Bool) → starts_with nat_eq x t ≡ b → is_before t x ≡ true
        → starts_with nat_eq x t ≡ false
    not_both x false e lt = e
    not_both x true e lt = absurd (cc (lt, begins_not_before t x e))

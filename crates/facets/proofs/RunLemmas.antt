-- The runs of a list whose texts don't descend: each text with its count.
use Rattle.std.proofs.Common.{◌≡◌, ◌∙◌, ℕ, zero, suc, ◌+◌, ◌<◌, ◌≤◌, Bool, true, false, cond, List, [], ◌∷◌, refl, sym, ap}
use Rattle.std.proofs.Common.{◌++◌, ap₂, inl, inr, subst, length, get_or, set, reverse, arith}
use Rattle.std.specs.Prelude.{filter, map}
use Rattle.std.specs.List.Sorted.{IsSorted}
use Rattle.std.specs.Str.{bytes_eq}
use Rattle.std.specs.Cmp.Lexicographic.{slice_cmp, nat_list_cmp_total}
use Rattle.std.specs.declared.cmp.Ordering.{Ordering}
use Rattle.std.specs.declared.cmp.Ordering.TheVariants.{Less, Equal, Greater}
use Rattle.std.specs.Ordering.{is_eq, is_lt, nat_cmp, ordering_reverse}
use Rattle.std.proofs.lemmas.List.{reverse-append}
use Rattle.std.proofs.lemmas.List.Sorted.{ranks_by, sorted_far}
use Rattle.std.proofs.lemmas.Map.Text.{is_eq-slice_cmp}
use Rattle.std.proofs.lemmas.Slice.Eq.{bytes_eq-Decides}
use Rattle.portal_base.specs.Ordered.{IsAscending, IsBelowAll}
use Rattle.portal_base.proofs.Inserted.{IsBelowAll-trans}
use Rattle.portal_base.proofs.Unique.{IsIn}
use Rattle.facets.specs.Counts.{Facet}
use Rattle.facets.specs.Tally.{first_count, occurrences, run_and, runs}

-- the order of texts
abbrev pub text_cmp : List ℕ → List ℕ → Ordering
text_cmp = slice_cmp nat_cmp

-- the texts of runs
abbrev pub texts_of : List Facet → List (List ℕ)
texts_of rs = map (λ r. r.0) rs

-- ---- the bound of a run

pub first_count-le : (texts : List (List ℕ)) → first_count (runs texts) ≤ length texts
first_count-le [] = omega arith
first_count-le (t ∷ ts) = by (runs ts) (first_count-le ts)
  where
    by : (rs : List Facet) → first_count rs ≤ length ts → first_count (run_and t rs) ≤ length (t ∷ ts)
    by [] le = omega arith
    by (r ∷ rs) le = then (bytes_eq t r.0)
      where
        then : (b : Bool) → first_count (cond b ((r.0, r.1 + 1) ∷ rs) ((t, 1) ∷ r ∷ rs)) ≤ length (t ∷ ts)
        then true = omega (arith, le)
        then false = omega arith

-- ---- equal texts

same_text : (x y : List ℕ) → bytes_eq x y ≡ true → x ≡ y
same_text x y e = (bytes_eq-Decides x y).0 e

pub text_itself : (x : List ℕ) → bytes_eq x x ≡ true
text_itself x = (bytes_eq-Decides x x).1 refl

-- A text below another differs from it.
pub below-apart : (x y : List ℕ) → text_cmp x y ≡ Less → bytes_eq x y ≡ false
below-apart x y less = sym (is_eq-slice_cmp x y) ∙ ap is_eq less

-- A text that is neither above another nor equal to it is below it.
from_apart : (x y : List ℕ) → is_lt (text_cmp y x) ≡ false → bytes_eq x y ≡ false → text_cmp x y ≡ Less
from_apart x y above apart =
    nat_list_cmp_total.antisymm x y ∙ greater (text_cmp y x) refl above
  where
    greater : (r : Ordering) → text_cmp y x ≡ r → is_lt r ≡ false → ordering_reverse r ≡ Less
    greater Less is l = absurd (cc)
    greater Greater is l = refl
    greater Equal is l =
        let back : text_cmp x y ≡ Equal = nat_list_cmp_total.antisymm x y ∙ ap ordering_reverse is in
        let same : bytes_eq x y ≡ true = sym (is_eq-slice_cmp x y) ∙ ap is_eq back in
        absurd (cc)

-- ---- texts that don't descend

-- no text is below x
abbrev pub IsNotBelow : List ℕ → List (List ℕ) → Type 0
IsNotBelow x [] = Unit {0}
IsNotBelow x (y ∷ ys) = (is_lt (text_cmp y x) ≡ false) × IsNotBelow x ys

abbrev pub Rises : List (List ℕ) → Type 0
Rises [] = Unit {0}
Rises (x ∷ xs) = IsNotBelow x xs × Rises xs

not_below_in : (x z : List ℕ) (ys : List (List ℕ)) → IsNotBelow x ys → IsIn z ys → is_lt (text_cmp z x) ≡ false
not_below_in x z [] all m = absurd m
not_below_in x z (y ∷ ys) all (inl e) = ap (λ w. is_lt (text_cmp w x)) e ∙ all.0
not_below_in x z (y ∷ ys) all (inr m) = not_below_in x z ys all.1 m

IsNotBelow-far : (x : List ℕ) (ys : List (List ℕ))
    → ((k : ℕ) (d : List ℕ) → k < length ys → is_lt (text_cmp (get_or ys k d) x) ≡ false) → IsNotBelow x ys
IsNotBelow-far x [] all = tt
IsNotBelow-far x (y ∷ ys) all = (all 0 x (omega arith), IsNotBelow-far x ys (λ k d lt. all (suc k) d (omega arith)))

Rises-far : (xs : List (List ℕ))
    → ((i j : ℕ) (d : List ℕ) → i ≤ j → j < length xs → is_lt (text_cmp (get_or xs j d) (get_or xs i d)) ≡ false)
    → Rises xs
Rises-far [] up = tt
Rises-far (x ∷ xs) up = (
  IsNotBelow-far x xs (λ k d lt. up 0 (suc k) d (omega arith) (omega arith)),
  Rises-far xs (λ i j d le lt. up (suc i) (suc j) d (omega arith) (omega arith)),
)

pub Rises-sorted : (xs : List (List ℕ)) → IsSorted text_cmp xs → Rises xs
Rises-sorted xs up =
    Rises-far xs
    (λ i j d le lt. sorted_far (λ x y. is_lt (text_cmp x y)) (ranks_by nat_list_cmp_total (λ x. x)) xs up i j d le lt)

-- ---- the texts of the runs

pub texts_of-IsIn : (z : List ℕ) (xs : List (List ℕ)) → IsIn z (texts_of (runs xs)) → IsIn z xs
texts_of-IsIn z [] m = m
texts_of-IsIn z (x ∷ xs) m = by (runs xs) m (texts_of-IsIn z xs)
  where
    by : (rs : List Facet) → IsIn z (texts_of (run_and x rs)) → (IsIn z (texts_of rs) → IsIn z xs) → IsIn z (x ∷ xs)
    by [] (inl e) go = inl e
    by [] (inr n) go = absurd n
    by (r ∷ rs) n go = then (bytes_eq x r.0) n
      where
        then : (b : Bool) → IsIn z (texts_of (cond b ((r.0, r.1 + 1) ∷ rs) ((x, 1) ∷ r ∷ rs))) → IsIn z (x ∷ xs)
        then true n = inr (go n)
        then false (inl e) = inl e
        then false (inr n) = inr (go n)

pub IsIn-texts_of : (z : List ℕ) (xs : List (List ℕ)) → IsIn z xs → IsIn z (texts_of (runs xs))
IsIn-texts_of z [] m = m
IsIn-texts_of z (x ∷ xs) m = by (runs xs) m (IsIn-texts_of z xs)
  where
    by : (rs : List Facet) → IsIn z (x ∷ xs) → (IsIn z xs → IsIn z (texts_of rs)) → IsIn z (texts_of (run_and x rs))
    by [] (inl e) go = inl e
    by [] (inr n) go = absurd (go n)
    by (r ∷ rs) n go = then (bytes_eq x r.0) refl n
      where
        then : (b : Bool) → bytes_eq x r.0 ≡ b → IsIn z (x ∷ xs)
            → IsIn z (texts_of (cond b ((r.0, r.1 + 1) ∷ rs) ((x, 1) ∷ r ∷ rs)))
        then true same (inl e) = inl (e ∙ same_text x r.0 same)
        then true same (inr n) = go n
        then false apart (inl e) = inl e
        then false apart (inr n) = inr (go n)

-- They ascend.
pub IsAscending-runs : (xs : List (List ℕ)) → Rises xs → IsAscending text_cmp (texts_of (runs xs))
IsAscending-runs [] up = tt
IsAscending-runs (x ∷ xs) up =
    by (runs xs) (IsAscending-runs xs up.1) (λ z m. not_below_in x z xs up.0 (texts_of-IsIn z xs m))
  where
    by : (rs : List Facet) → IsAscending text_cmp (texts_of rs)
        → ((z : List ℕ) → IsIn z (texts_of rs) → is_lt (text_cmp z x) ≡ false)
        → IsAscending text_cmp (texts_of (run_and x rs))
    by [] ascends above = (tt, tt)
    by (r ∷ rs) ascends above = then (bytes_eq x r.0) refl
      where
        then : (b : Bool) → bytes_eq x r.0 ≡ b
            → IsAscending text_cmp (texts_of (cond b ((r.0, r.1 + 1) ∷ rs) ((x, 1) ∷ r ∷ rs)))
        then true same = ascends
        then false apart =
            let less : text_cmp x r.0 ≡ Less = from_apart x r.0 (above r.0 (inl refl)) apart in
            ((less, IsBelowAll-trans text_cmp nat_list_cmp_total x r.0 (texts_of rs) less ascends.0), ascends)

-- ---- the counts of the runs

-- each run has the count of its text
abbrev pub AreCounted : List (List ℕ) → List Facet → Type 0
AreCounted xs [] = Unit {0}
AreCounted xs (r ∷ rs) = (r.1 ≡ occurrences xs r.0) × AreCounted xs rs

pub occurrences-more : (x t : List ℕ) (xs : List (List ℕ)) → bytes_eq x t ≡ true
    → occurrences (x ∷ xs) t ≡ occurrences xs t + 1
occurrences-more x t xs same =
    ap (λ b. length (cond b (x ∷ filter (λ y. bytes_eq y t) xs) (filter (λ y. bytes_eq y t) xs))) same ∙ omega arith

pub occurrences-other : (x t : List ℕ) (xs : List (List ℕ)) → bytes_eq x t ≡ false
    → occurrences (x ∷ xs) t ≡ occurrences xs t
occurrences-other x t xs apart =
    ap (λ b. length (cond b (x ∷ filter (λ y. bytes_eq y t) xs) (filter (λ y. bytes_eq y t) xs))) apart

-- A text below those of the runs changes none of their counts.
counted-below : (x : List ℕ) (xs : List (List ℕ)) (rs : List Facet) → IsBelowAll text_cmp x (texts_of rs)
    → AreCounted xs rs → AreCounted (x ∷ xs) rs
counted-below x xs [] below counted = tt
counted-below x xs (r ∷ rs) below counted = (
  counted.0 ∙ sym (occurrences-other x r.0 xs (below-apart x r.0 below.0)),
  counted-below x xs rs below.1 counted.1,
)

-- A text that isn't in a list is counted 0 times.
pub occurrences-none : (t : List ℕ) (xs : List (List ℕ)) → (IsIn t xs → ⊥) → occurrences xs t ≡ 0
occurrences-none t [] out = refl
occurrences-none t (x ∷ xs) out = by (bytes_eq x t) refl (occurrences-none t xs (λ m. out (inr m)))
  where
    by : (b : Bool) → bytes_eq x t ≡ b → occurrences xs t ≡ 0 → occurrences (x ∷ xs) t ≡ 0
    by true same none = absurd (out (inl (sym (same_text x t same))))
    by false apart none = occurrences-other x t xs apart ∙ none

-- A text that is below all texts isn't one of them.
pub not_in_above : (x : List ℕ) (ys : List (List ℕ)) → IsBelowAll text_cmp x ys → IsIn x ys → ⊥
not_in_above x [] below m = absurd m
not_in_above x (y ∷ ys) below (inl e) =
    let apart : bytes_eq x y ≡ false = below-apart x y below.0 in
    let same : bytes_eq x y ≡ true = (bytes_eq-Decides x y).1 e in
    absurd (cc)
not_in_above x (y ∷ ys) below (inr m) = not_in_above x ys below.1 m

pub AreCounted-runs : (xs : List (List ℕ)) → Rises xs → AreCounted xs (runs xs)
AreCounted-runs [] up = tt
AreCounted-runs (x ∷ xs) up =
    by (runs xs) (AreCounted-runs xs up.1) (IsAscending-runs xs up.1) (IsAscending-runs (x ∷ xs) up)
    (λ m. IsIn-texts_of x xs m)
  where
    by : (rs : List Facet) → AreCounted xs rs → IsAscending text_cmp (texts_of rs)
        → IsAscending text_cmp (texts_of (run_and x rs)) → (IsIn x xs → IsIn x (texts_of rs))
        → AreCounted (x ∷ xs) (run_and x rs)
    by [] counted ascends all listed =
        let none : occurrences xs x ≡ 0 = occurrences-none x xs (λ m. listed m) in
        let more : occurrences (x ∷ xs) x ≡ occurrences xs x + 1 = occurrences-more x x xs (text_itself x) in
        (omega (arith, none, more), tt)
    by (r ∷ rs) counted ascends all listed = then (bytes_eq x r.0) refl all
      where
        then : (b : Bool) → bytes_eq x r.0 ≡ b
            → IsAscending text_cmp (texts_of (cond b ((r.0, r.1 + 1) ∷ rs) ((x, 1) ∷ r ∷ rs)))
            → AreCounted (x ∷ xs) (cond b ((r.0, r.1 + 1) ∷ rs) ((x, 1) ∷ r ∷ rs))
        then true same all =
            let is : r.0 ≡ x = sym (same_text x r.0 same) in (
              ap (λ n. n + 1) counted.0 ∙ sym (occurrences-more x r.0 xs same),
              counted-below x xs rs (subst (λ (t : List ℕ). IsBelowAll text_cmp t (texts_of rs)) is ascends.0) counted.1,
            )
        then false apart all =
            let none : occurrences xs x ≡ 0 =
            occurrences-none x xs (λ m. not_in_above x (texts_of (r ∷ rs)) all.0 (listed m)) in
            let more : occurrences (x ∷ xs) x ≡ occurrences xs x + 1 = occurrences-more x x xs (text_itself x) in
            (omega (arith, none, more), counted-below x xs (r ∷ rs) all.0 counted)

-- Runs that have their counts are their texts with these.
pub counted_is : (xs : List (List ℕ)) (rs : List Facet) → AreCounted xs rs
    → rs ≡ map (λ t. (t, occurrences xs t)) (texts_of rs)
counted_is xs [] counted = refl
counted_is xs (r ∷ rs) counted =
    ap₂ (λ (n : ℕ) (more : List Facet). (r.0, n) ∷ more) counted.0 (counted_is xs rs counted.1)

-- ---- the last run of a list of runs

split_last : {X : Type 0} (xs : List X) (n : ℕ) (x : X) → n + 1 ≡ length xs → x ≡ get_or xs n x
    → (front : List X) × (xs ≡ front ++ x ∷ []) × (n ≡ length front)
split_last [] n x within is = absurd (omega (arith, within))
split_last (y ∷ []) zero x within is = ([], ap (λ z. z ∷ []) (sym is), refl)
split_last (y ∷ []) (suc n) x within is = absurd (omega (arith, within))
split_last (y ∷ z ∷ zs) zero x within is = absurd (omega (arith, within))
split_last (y ∷ z ∷ zs) (suc n) x within is =
    let rest = split_last (z ∷ zs) n x (omega (arith, within)) is in
    (y ∷ rest.0, ap (λ l. y ∷ l) rest.1, omega (arith, rest.2))

set_last : {X : Type 0} (front : List X) (x y : X) → set (front ++ x ∷ []) (length front) y ≡ front ++ y ∷ []
set_last [] x y = refl
set_last (z ∷ front) x y = ap (λ l. z ∷ l) (set_last front x y)

-- In reverse, the last run is the first one: it counts one more text.
pub last_counted : (all : List Facet) (text : List ℕ) (run : Facet) (n : ℕ) → n + 1 ≡ length all
    → run ≡ get_or all n run → bytes_eq text run.0 ≡ true
    → reverse (set all n (run.0, run.1 + 1)) ≡ run_and text (reverse all)
last_counted all text run n within is same =
    ap₂ (λ (rs : List Facet) (k : ℕ). reverse (set rs k (run.0, run.1 + 1))) parts.1 parts.2
    ∙ ap reverse (set_last parts.0 run (run.0, run.1 + 1))
    ∙ reverse-append parts.0 ((run.0, run.1 + 1) ∷ [])
    ∙ sym (ap (λ (rs : List Facet). run_and text (reverse rs)) parts.1
    ∙ ap (run_and text) (reverse-append parts.0 (run ∷ []))
    ∙ ap (λ b. cond b ((run.0, run.1 + 1) ∷ reverse parts.0) ((text, 1) ∷ run ∷ reverse parts.0)) same)
  where
    parts : (front : List Facet) × (all ≡ front ++ run ∷ []) × (n ≡ length front)
    parts = split_last all n run within is

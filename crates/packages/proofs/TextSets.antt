-- The set of some texts ascends, has exactly these texts, and is the result of a sort and the removal of repeats.
use Rattle.std.proofs.Common.{◌≡◌, ℕ, Bool, true, false, cond, ◌||◌, List, [], ◌∷◌, refl, sym, ◌∙◌, inl, inr}
use Rattle.std.proofs.Common.{subst}
use Rattle.std.specs.Prelude.{nat_eq}
use Rattle.std.specs.declared.cmp.Ordering.TheVariants.{Less}
use Rattle.std.specs.Ordering.{nat_cmp}
use Rattle.std.specs.Cmp.Lexicographic.{slice_cmp, nat_list_cmp_total, nat_list_eq_equiv, pointwise, texts_ties}
use Rattle.std.specs.List.{AllByRecursion, dedup}
use Rattle.std.specs.List.Sorted.{IsPermutation, IsSorted, IsStrictlySortedBy}
use Rattle.std.specs.Str.{bytes_eq}
use Rattle.std.proofs.lemmas.List.Kept.{IsStrictlySortedBy-dedup, Contains-dedup, Contains-from_dedup}
use Rattle.std.proofs.lemmas.List.Sorted.{Contains-permutation, IsPermutation-sym}
use Rattle.std.proofs.lemmas.Map.Text.{is_eq-slice_cmp}
use Rattle.std.proofs.lemmas.Slice.Eq.{bytes_eq-Decides}
use Rattle.portal_base.specs.Kinds.{is_among}
use Rattle.portal_base.specs.Ordered.{IsBelowAll, IsAscending, inserted}
use Rattle.portal_base.proofs.Inserted.{IsAscending-inserted, list_any-same}
use Rattle.portal_base.proofs.Unique.{IsIn, IsIn-Contains, Contains-IsIn, IsIn-inserted, inserted-IsIn, unique}
use Rattle.packages.specs.Tags.{text_added, text_set}

-- ---- it ascends

IsAscending-added : (text : List ℕ) (texts : List (List ℕ)) → IsAscending (slice_cmp nat_cmp) texts
    → IsAscending (slice_cmp nat_cmp) (text_added text texts)
IsAscending-added text texts up =
    let P : Bool → Type 0 =
    λ b. is_among texts text ≡ b
    → IsAscending (slice_cmp nat_cmp) (cond b texts (inserted (slice_cmp nat_cmp) text texts)) in
    (elim (is_among texts text) as P [
      | true ↦ λ e. up
      | false ↦ λ e. IsAscending-inserted (slice_cmp nat_cmp) nat_list_cmp_total text texts up
          (list_any-same _ _ (λ (t : List ℕ). is_eq-slice_cmp t text) texts ∙ e)
    ]) refl

pub IsAscending-text_set : (texts : List (List ℕ)) → IsAscending (slice_cmp nat_cmp) (text_set texts)
IsAscending-text_set [] = tt
IsAscending-text_set (text ∷ texts) = IsAscending-added text (text_set texts) (IsAscending-text_set texts)

-- ---- it has exactly the texts

among-IsIn : (text : List ℕ) (texts : List (List ℕ)) → is_among texts text ≡ true → IsIn text texts
among-IsIn text [] e = absurd (cc)
among-IsIn text (t ∷ ts) e = by (bytes_eq t text) refl (λ n. among-IsIn text ts n) e
  where
    by : (b : Bool) → bytes_eq t text ≡ b → (is_among ts text ≡ true → IsIn text ts) → (b || is_among ts text) ≡ true
        → IsIn text (t ∷ ts)
    by true is go e = inl (sym ((bytes_eq-Decides t text).0 is))
    by false is go e = inr (go e)

IsIn-added : (z text : List ℕ) (texts : List (List ℕ)) → IsIn z (text ∷ texts) → IsIn z (text_added text texts)
IsIn-added z text texts m = by (is_among texts text) refl m
  where
    by : (b : Bool) → is_among texts text ≡ b → IsIn z (text ∷ texts)
        → IsIn z (cond b texts (inserted (slice_cmp nat_cmp) text texts))
    by true is (inl e) = let P : List ℕ → Type 0 = λ t. IsIn t texts in subst P (sym e) (among-IsIn text texts is)
    by true is (inr n) = n
    by false is m = IsIn-inserted (slice_cmp nat_cmp) z text texts m

added-IsIn : (z text : List ℕ) (texts : List (List ℕ)) → IsIn z (text_added text texts) → IsIn z (text ∷ texts)
added-IsIn z text texts m = by (is_among texts text) m
  where
    by : (b : Bool) → IsIn z (cond b texts (inserted (slice_cmp nat_cmp) text texts)) → IsIn z (text ∷ texts)
    by true m = inr m
    by false m = inserted-IsIn (slice_cmp nat_cmp) z text texts m

pub IsIn-text_set : (z : List ℕ) (texts : List (List ℕ)) → IsIn z texts → IsIn z (text_set texts)
IsIn-text_set z [] m = m
IsIn-text_set z (text ∷ texts) (inl e) = IsIn-added z text (text_set texts) (inl e)
IsIn-text_set z (text ∷ texts) (inr m) = IsIn-added z text (text_set texts) (inr (IsIn-text_set z texts m))

pub text_set-IsIn : (z : List ℕ) (texts : List (List ℕ)) → IsIn z (text_set texts) → IsIn z texts
text_set-IsIn z [] m = m
text_set-IsIn z (text ∷ texts) m = by (added-IsIn z text (text_set texts) m) (λ n. text_set-IsIn z texts n)
  where
    by : IsIn z (text ∷ text_set texts) → (IsIn z (text_set texts) → IsIn z texts) → IsIn z (text ∷ texts)
    by (inl e) go = inl e
    by (inr n) go = inr (go n)

-- Texts that differ only in order and repeats have the same set.
pub text_set-same : (xs ys : List (List ℕ)) → ((z : List ℕ) → IsIn z xs → IsIn z ys)
    → ((z : List ℕ) → IsIn z ys → IsIn z xs) → text_set xs ≡ text_set ys
text_set-same xs ys to from =
    unique (slice_cmp nat_cmp) nat_list_cmp_total (text_set xs) (text_set ys) (IsAscending-text_set xs)
    (IsAscending-text_set ys) (λ z m. IsIn-text_set z ys (to z (text_set-IsIn z xs m)))
    (λ z m. IsIn-text_set z xs (from z (text_set-IsIn z ys m)))

-- ---- the result of a sort and the removal of repeats

IsBelowAll-from : (text : List ℕ) (texts : List (List ℕ)) → AllByRecursion (λ t. slice_cmp nat_cmp text t ≡ Less) texts
    → IsBelowAll (slice_cmp nat_cmp) text texts
IsBelowAll-from text [] below = tt
IsBelowAll-from text (t ∷ ts) below = (below.0, IsBelowAll-from text ts below.1)

IsAscending-from : (texts : List (List ℕ)) → IsStrictlySortedBy (slice_cmp nat_cmp) texts
    → IsAscending (slice_cmp nat_cmp) texts
unfolding IsStrictlySortedBy
IsAscending-from [] up = tt
IsAscending-from (t ∷ ts) up = (IsBelowAll-from t ts up.0, IsAscending-from ts up.1)

same_text : (x y : List ℕ) → pointwise nat_eq x y ≡ true → x ≡ y
same_text x y e = (bytes_eq-Decides x y).0 e

pub text_set-dedup : (texts sorted : List (List ℕ)) → IsPermutation texts sorted → IsSorted (slice_cmp nat_cmp) sorted
    → dedup (pointwise nat_eq) sorted ≡ text_set texts
text_set-dedup texts sorted moved up =
    unique (slice_cmp nat_cmp) nat_list_cmp_total (dedup (pointwise nat_eq) sorted) (text_set texts)
    (IsAscending-from (dedup (pointwise nat_eq) sorted)
    (IsStrictlySortedBy-dedup nat_list_cmp_total texts_ties sorted up))
    (IsAscending-text_set texts)
    (λ z m. IsIn-text_set z texts (IsIn-Contains z texts
    (Contains-permutation sorted texts z (IsPermutation-sym texts sorted moved)
    (Contains-from_dedup (pointwise nat_eq) sorted z (Contains-IsIn z _ m)))))
    (λ z m. IsIn-Contains z _
    (Contains-dedup nat_list_eq_equiv same_text sorted z
    (Contains-permutation texts sorted z moved (Contains-IsIn z texts (text_set-IsIn z texts m)))))

-- Counts don't depend on the order of the items.
use Rattle.std.proofs.Common.{◌≡◌, ◌∙◌, ℕ, ◌+◌, Bool, true, false, cond, List, [], ◌∷◌, refl, sym, arith, length, zero-add}
use Rattle.std.specs.Prelude.{filter}
use Rattle.std.specs.List.{sum_by}
use Rattle.std.specs.List.Sorted.{IsPermutation}
use Rattle.std.proofs.lemmas.List.Sorted.{IsPermutation-sym, sum_by-IsPermutation}
use Rattle.std.proofs.lemmas.List.Sums.{sum_by-cons}
use Rattle.portal_base.proofs.Unique.{IsIn, IsIn-Contains, Contains-IsIn, unique}
use Rattle.facets.specs.Counts.{Facet, counts_by, facet_cmp, facet_cmp_total, has_text}
use Rattle.facets.proofs.LawLemmas.{facets-ascend, facets-exact}
use Rattle.facets.proofs.SetLemmas.{SetsAscend, SetsHaveTheirTexts}

-- the count of items that pass, as a sum
count-sum : {X : Type 0} (test : X → Bool) (xs : List X)
    → length (filter test xs) ≡ sum_by (λ x. cond (test x) 1 0) xs
count-sum test [] = refl
count-sum {X} test (x ∷ xs) =
    by (test x) (count-sum test xs) ∙ sym (sum_by-cons (λ y. cond (test y) 1 0) x xs)
  where
    by : (b : Bool) → length (filter test xs) ≡ sum_by (λ y. cond (test y) 1 0) xs
        → length (cond b (x ∷ filter test xs) (filter test xs)) ≡ cond b 1 0 + sum_by (λ y. cond (test y) 1 0) xs
    by true more = omega (arith, more)
    by false more = more ∙ sym (zero-add (sum_by (λ y. cond (test y) 1 0) xs))

count-permuted : {X : Type 0} (test : X → Bool) (xs ys : List X) → IsPermutation xs ys
    → length (filter test xs) ≡ length (filter test ys)
count-permuted test xs ys permuted =
    count-sum test xs ∙ sym (sum_by-IsPermutation (λ x. cond (test x) 1 0) xs ys permuted) ∙ sym (count-sum test ys)

-- Each facet of the items is one of these items in another order.
facet-permuted : SetsHaveTheirTexts → {X : Type 0} (texts : X → List (List ℕ)) (xs ys : List X) → IsPermutation xs ys
    → (z : Facet) → IsIn z (counts_by texts xs) → IsIn z (counts_by texts ys)
facet-permuted same texts xs ys permuted z m =
    let means = (facets-exact same texts xs z.0 z.1).0 (Contains-IsIn z (counts_by texts xs) m) in
    IsIn-Contains z (counts_by texts ys)
    ((facets-exact same texts ys z.0 z.1).1
    (means.0, means.1 ∙ count-permuted (has_text texts z.0) xs ys permuted))

pub counts_by-permuted : SetsAscend → SetsHaveTheirTexts → {X : Type 0} (texts : X → List (List ℕ)) (xs ys : List X)
    → IsPermutation xs ys → counts_by texts xs ≡ counts_by texts ys
counts_by-permuted up same texts xs ys permuted =
    unique facet_cmp facet_cmp_total (counts_by texts xs) (counts_by texts ys) (facets-ascend up texts xs)
    (facets-ascend up texts ys) (facet-permuted same texts xs ys permuted)
    (facet-permuted same texts ys xs (IsPermutation-sym xs ys permuted))

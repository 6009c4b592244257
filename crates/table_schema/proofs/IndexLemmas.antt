-- What halving finds in a list whose items are found through an index.
use Rattle.std.proofs.Common.{◌≡◌, ◌+◌, ◌++◌, [], ◌∷◌, ℕ, ◌<◌, List, true, false, length, get_or, Result, Ok, Err, sym, ap, subst, ◌∙◌, arith, refl, All}
use Rattle.std.specs.Prelude.{is_ok, Contains}
use Rattle.std.specs.declared.cmp.Ordering.{Ordering}
use Rattle.std.specs.declared.cmp.Ordering.TheVariants.{Equal}
use Rattle.std.specs.Ordering.{is_eq, ordering_index}
use Rattle.std.specs.Cmp.{IsTotalOrder}
use Rattle.std.specs.List.{list_any}
use Rattle.std.specs.List.Sorted.{IsSearchInRange, IsBinarySearchResult, IsNonDecreasingBy, IsPermutation}
use Rattle.std.proofs.lemmas.List.Sorted.{searchable_from_sorted, All-permutation, Contains-permutation}
use Rattle.std.proofs.lemmas.List.Folds.{list_any_at, list_any_none}
use Rattle.std.proofs.lemmas.Bool.Decides.{nat_tests}
use Rattle.std.proofs.lemmas.List.{get_or_default}
use Rattle.std.specs.Prelude.{nat_lt}
use Rattle.std.proofs.lemmas.List.Elements.{All-push, All-weaker, Contains-append_left, Contains-push}
use Rattle.std.specs.Ordering.{nat_cmp}
use Rattle.std.specs.Cmp.{tied_itself}
use Rattle.std.specs.Cmp.Lexicographic.{slice_cmp, nat_list_cmp_total}
use Rattle.std.specs.Str.{bytes_eq}
use Rattle.std.specs.Prelude.{◌||◌}
use Rattle.std.proofs.lemmas.Bool.Decides.{same_from_decides}
use Rattle.std.proofs.lemmas.Slice.Eq.{bytes_eq-Decides}
use Rattle.table_schema.proofs.OrderLemmas.{same_bytes, equal-from}
use Rattle.table_schema.specs.Index.{IsIndex, AreBelow}

module _ {K : Type 0} (cmp : K → K → Ordering) (o : IsTotalOrder cmp) (d : K) (items : List K) (indices : List ℕ)
    (index : IsIndex cmp d items indices) (x : K) where
  rises : IsNonDecreasingBy (λ i. ordering_index (cmp (get_or items i d) x)) indices
  rises = searchable_from_sorted o (λ i. get_or items i d) indices x index.ascending

  -- Halving finds an item that equals `x` exactly if the list has one.
  pub found_by_halving : (r : Result ℕ ℕ) → IsSearchInRange r (length indices)
      → IsBinarySearchResult (λ i. cmp (get_or items i d) x) indices r
      → is_ok r ≡ list_any (λ y. is_eq (cmp y x)) items
  found_by_halving (Ok at) lt equal =
      let here : cmp (get_or items (get_or indices at 0) d) x ≡ Equal = equal 0 in
      sym (list_any_at (λ y. is_eq (cmp y x)) items (get_or indices at 0) d (index.below.within at 0 lt) (ap is_eq here))
  found_by_halving (Err at) le parted = sym (list_any_none (λ y. is_eq (cmp y x)) items absent)
    where
      at_index : (k : ℕ) → k < length indices → is_eq (cmp (get_or items (get_or indices k 0) d) x) ≡ false
      at_index k lt = elim (nat_lt k at) as (λ b. nat_lt k at ≡ b → is_eq (cmp (get_or items (get_or indices k 0) d) x) ≡ false) [
        | true ↦ λ e. ap is_eq ((parted rises).0 k 0 (omega arith) (grind (arith, nat_tests)))
        | false ↦ λ e. ap is_eq ((parted rises).1 k 0 (grind (arith, nat_tests)) lt)
      ] refl

      absent : All (λ y. is_eq (cmp y x) ≡ false) items
      absent i e lt =
          let there = index.below.complete i lt in
          let same : get_or indices there.0 0 ≡ i = get_or_default indices there.0 0 i there.1 ∙ there.2 in
          subst (λ y. is_eq (cmp y x) ≡ false) (get_or_default items i d e lt)
          (subst (λ j. is_eq (cmp (get_or items j d) x) ≡ false) same (at_index there.0 there.1))

pub AreBelow-none : AreBelow 0 []
AreBelow-none = record {
  within = λ k d lt. absurd (omega arith);
  complete = λ i lt. absurd (omega arith);
}

pub AreBelow-more : (count : ℕ) (indices : List ℕ) → AreBelow count indices
    → AreBelow (count + 1) (indices ++ count ∷ [])
AreBelow-more count indices below = record {
  within = All-push (λ i. i < count + 1) indices count
      (All-weaker (λ i. i < count) (λ i. i < count + 1) (λ i lt. omega arith) indices below.within) (omega arith);
  complete = λ i lt. elim (nat_lt i count) as (λ b. nat_lt i count ≡ b → Contains (indices ++ count ∷ []) i) [
    | true ↦ λ e. Contains-append_left indices (count ∷ []) i (below.complete i (grind (arith, nat_tests)))
    | false ↦ λ e.
        let same : count ≡ i = grind (arith, nat_tests) in
        subst (λ j. Contains (indices ++ count ∷ []) j) same (Contains-push indices count)
  ] refl;
}

-- Indices that are sorted are the same indices.
pub AreBelow-permutation : (count : ℕ) (indices sorted : List ℕ) → IsPermutation indices sorted
    → AreBelow count indices → AreBelow count sorted
AreBelow-permutation count indices sorted moved below = record {
  within = All-permutation (λ i. i < count) indices sorted moved below.within;
  complete = λ i lt. Contains-permutation indices sorted i moved (below.complete i lt);
}

-- The order of texts makes two texts equal exactly if their bytes are the same.
texts-same : (s t : List ℕ) → is_eq (slice_cmp nat_cmp s t) ≡ bytes_eq s t
texts-same s t = same_from_decides (is_eq (slice_cmp nat_cmp s t)) (bytes_eq s t) (
  λ e. same_bytes s t (equal-from (slice_cmp nat_cmp s t) e),
  λ e. subst (λ (u : List ℕ). is_eq (slice_cmp nat_cmp s u) ≡ true) e (ap is_eq (tied_itself nat_list_cmp_total s)),
) (bytes_eq-Decides s t)

pub list_any-texts : (texts : List (List ℕ)) (t : List ℕ)
    → list_any (λ a. is_eq (slice_cmp nat_cmp a t)) texts ≡ list_any (λ a. bytes_eq a t) texts
list_any-texts [] t = refl
list_any-texts (a ∷ texts) t = rw (texts-same a t) (ap (λ b. bytes_eq a t || b) (list_any-texts texts t))

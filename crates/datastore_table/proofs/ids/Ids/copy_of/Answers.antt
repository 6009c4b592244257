use Rattle.std.proofs.Common.{◌≡◌, ◌∙◌, ℕ, List, subst, sym}
use Rattle.std.proofs.lemmas.List.Sorted.{IsNonDecreasingBy-from_sort}
use Rattle.datastore_table.specs.Batch.{HaveSame}
use Rattle.datastore_table.proofs.AmongLemmas.{same_among}
use Rattle.datastore_table.proofs.ids.Ids.copy_of.Goals as goal

pub invariant_of-result : goal.invariant_of-result
invariant_of-result c =
    let copy = c.in_ok-ascending.ascending.items in
    let sorted = c.sort_unstable.new.self.items in
    let same : c.from.result ≡ copy = c.from.ensures ∙ c.in_ok-given.ensures ∙ sym c.in_ok-ascending.ensures in (
      IsNonDecreasingBy-from_sort (λ (n : ℕ). n) sorted c.sort_unstable.ensures.sorted,
      subst (λ (ids : List ℕ). HaveSame ids sorted) (sym same) (same_among copy sorted c.sort_unstable.ensures.permutation),
    )

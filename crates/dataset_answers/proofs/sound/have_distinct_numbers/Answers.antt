use Rattle.std.proofs.Common.{List, ℕ, map, subst}
use Rattle.std.specs.List.Sorted.{IsPermutation}
use Rattle.packages.specs.declared.package.Resource.{Resource}
use Rattle.dataset_answers.proofs.SoundLemmas.{ascending-distinct}
use Rattle.dataset_answers.proofs.sound.have_distinct_numbers.Goals as goal

pub returns : goal.returns
returns c =
    let resources = c.args.resources.now in
    let sorted = c.sort_unstable.new.self.items in
    let moved : IsPermutation (map (λ (r : Resource). r.number) resources) sorted =
    subst (λ (numbers : List ℕ). IsPermutation numbers sorted) c.in_ok-numbers.ensures
    c.sort_unstable.ensures.permutation in
    let distinct = ascending-distinct resources sorted moved c.sort_unstable.ensures.sorted in
    let ascends = rw c.as_slice.ensures.value at c.ascends.ensures in
    (λ holds. distinct.0 (ascends.0 holds), λ differ. ascends.1 (distinct.1 differ))

-- A sort and the removal of repeats give the set.
use Rattle.std.proofs.Common.{◌∙◌}
use Rattle.std.proofs.lemmas.List.Filters.{dedup_is}
use Rattle.packages.proofs.TextSets.{text_set-dedup}
use Rattle.packages.proofs.tags.sort_and_dedup.Goals as goal

pub returns-clause-set : goal.returns-clause-set
returns-clause-set c =
    dedup_is _ _ _ c.dedup.ensures.filtered
    ∙ text_set-dedup _ _ c.sort_unstable.ensures.permutation c.sort_unstable.ensures.sorted

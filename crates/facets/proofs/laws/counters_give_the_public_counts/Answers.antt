use Rattle.std.proofs.Common.{◌∙◌}
use Rattle.visibility.specs.declared.class.Class.TheVariants.{Public}
use Rattle.facets.specs.declared.field.FacetField.TheVariants.{Organization}
use Rattle.facets.proofs.PublicLemmas.{public_counted}
use Rattle.facets.proofs.laws.counters_give_the_public_counts.Goals as goal

pub returns : goal.returns
returns c = λ counters datasets org stands some.
    c.counters_count_the_datasets.ensures.count counters datasets Public Organization org stands
    ∙ public_counted org some datasets

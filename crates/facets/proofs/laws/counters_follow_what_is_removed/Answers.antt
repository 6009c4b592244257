use Rattle.std.proofs.Common.{◌∙◌, ap}
use Rattle.portal_base.specs.Ordered.{dropped}
use Rattle.facets.specs.Counters.{at_id}
use Rattle.facets.proofs.EntryLemmas.{map-dropped}
use Rattle.facets.proofs.laws.counters_follow_what_is_removed.Goals as goal

pub returns : goal.returns
returns c = λ old new datasets dataset stands removed.
    removed ∙ ap (dropped (at_id dataset.id)) stands ∙ map-dropped dataset datasets

use Rattle.std.proofs.Common.{◌∙◌, ap}
use Rattle.portal_base.specs.Ordered.{upserted}
use Rattle.facets.specs.Counters.{entry_cmp, entry_of}
use Rattle.facets.proofs.EntryLemmas.{map-upserted}
use Rattle.facets.proofs.laws.counters_follow_what_is_put.Goals as goal

pub returns : goal.returns
returns c = λ old new datasets dataset stands entered.
    entered ∙ ap (upserted entry_cmp (entry_of dataset)) stands ∙ map-upserted dataset datasets

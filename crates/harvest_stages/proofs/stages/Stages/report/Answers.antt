use Rattle.std.proofs.Common.{List, subst, sym}
use Rattle.portal_base.specs.Ordered.{IsAscending}
use Rattle.harvest_sources.specs.Sources.{SourceWithRoom, source_cmp, states}
use Rattle.harvest_stages.proofs.stages.Stages.report.Goals as goal

pub find_source-requires : goal.find_source-requires
find_source-requires c =
    subst (λ (l : List SourceWithRoom). IsAscending source_cmp (states l)) (sym c.as_slice.ensures.value)
    c.self.invariant.ascending

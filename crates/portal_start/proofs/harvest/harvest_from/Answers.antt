-- A job and a round were made on the portal that the run began with, by the fetchers as the portal file's fetch left
-- them.
use Rattle.std.proofs.Common.{inl, inr, refl, subst, sym}
use Rattle.portal_serve.proofs.Fetching.{same_fetchers_on}
use Rattle.portal_start.proofs.FirstFetcher.{begins_first}
use Rattle.portal_start.proofs.Harvesting.{works_as}
use Rattle.portal_start.specs.Fetchers.{UsesFirst}
use Rattle.portal_start.specs.Start.{beginning_with}
use Rattle.portal_start.proofs.harvest.harvest_from.Goals as goal

pub returns-in-Ok-clause-harvests : goal.returns-in-Ok-clause-harvests
returns-in-Ok-clause-harvests g c = inl (
  beginning_with c.in-Ok.start.opening c.in-Ok.start.tokens,
  begins_first g.F.Fetcher.held g.F.Fetcher.faults c.args.fetchers.now.items c.start_with.new.fetchers.items
      c.harvest_over.new.fetchers.items c.args.options.now.portal _ c.in-Ok.ensures.begins,
  works_as _ _ _ (λ state after harvests. (c.start_with.new.fetchers.items, c.in-Ok.ensures.fetchers, harvests))
      (λ same. (
        same.0,
        subst (UsesFirst g.F.Fetcher.held g.F.Fetcher.faults c.args.options.now.portal c.args.fetchers.now.items)
            (sym same.1) c.in-Ok.ensures.fetchers,
        same.2,
      )) c.harvest_over.ensures.harvests,
)

pub returns-in-Ok-clause-fetchers : goal.returns-in-Ok-clause-fetchers
returns-in-Ok-clause-fetchers g c =
    same_fetchers_on g.F.Fetcher.held g.F.Fetcher.faults c.args.fetchers.now.items c.start_with.new.fetchers.items
    c.harvest_over.new.fetchers.items c.in-Ok.ensures.fetchers.same c.harvest_over.ensures.fetchers

pub returns-in-Err-clause-harvests : goal.returns-in-Err-clause-harvests
returns-in-Err-clause-harvests g c =
    inr (c.in-Err.ensures.fails, ((refl, c.in-Err.ensures.fetchers, c.new.ensures), (refl, refl)))

pub returns-in-Err-clause-fetchers : goal.returns-in-Err-clause-fetchers
returns-in-Err-clause-fetchers g c = c.in-Err.ensures.fetchers.same

-- What the first fetcher did is what the list of fetchers did.
use Rattle.std.proofs.Common.{subst}
use Rattle.std.specs.Prelude.{IfErr, IfOk}
use Rattle.portal_start.proofs.FirstFetcher.{first_is, uses_first}
use Rattle.portal_start.specs.Start.{Begins, FailsToBegin, beginning_with}
use Rattle.portal_start.proofs.start.start_with.Goals as goal

pub returns-clause-begins : goal.returns-clause-begins
returns-clause-begins g c =
    subst (λ trace. IfOk c.start_of.result (λ start. Begins trace c.args.portal.now
    (beginning_with start.opening start.tokens)))
    (first_is g.F.Fetcher.held g.F.Fetcher.faults c.args.fetchers.now.items c.index_mut.result.now c.start_of.new.fetcher
    c.requires c.index_mut.ensures.value)
    c.start_of.ensures.begins

pub returns-clause-fails : goal.returns-clause-fails
returns-clause-fails g c =
    subst (λ trace. IfErr c.start_of.result (FailsToBegin trace c.args.portal.now))
    (first_is g.F.Fetcher.held g.F.Fetcher.faults c.args.fetchers.now.items c.index_mut.result.now c.start_of.new.fetcher
    c.requires c.index_mut.ensures.value)
    c.start_of.ensures.fails

pub returns-clause-fetchers : goal.returns-clause-fetchers
returns-clause-fetchers g c =
    uses_first g.F.Fetcher.held g.F.Fetcher.faults c.args.portal.now c.args.fetchers.now.items c.index_mut.result.now
    c.start_of.new.fetcher c.requires c.index_mut.ensures.value c.start_of.ensures.held c.start_of.ensures.counts
    c.start_of.ensures.no_file

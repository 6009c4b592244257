-- The CSV was loaded into the portal that the run began with. The first fetcher fetched both files.
use Rattle.std.proofs.Common.{arith}
use Rattle.portal_cli.proofs.Fetched.{loads_first}
use Rattle.portal_start.proofs.FirstFetcher.{uses_twice}
use Rattle.portal_start.specs.Start.{beginning_with}
use Rattle.portal_cli.proofs.run.load_from.Goals as goal

pub returns-in-Ok-clause-loads : goal.returns-in-Ok-clause-loads
returns-in-Ok-clause-loads g c =
    loads_first g.F.Fetcher.held g.F.Fetcher.faults c.args.fetchers.now.items c.start_with.new.fetchers.items
    c.index_mut.result.now c.load_over.new.fetcher c.args.options
    (beginning_with c.in-Ok.start.opening c.in-Ok.start.tokens) _ _ _ c.load_over.result.status c.requires
    c.in-Ok.ensures.fetchers c.index_mut.ensures.value c.in-Ok.ensures.begins c.load_over.ensures.loads

pub returns-in-Ok-clause-fetchers : goal.returns-in-Ok-clause-fetchers
returns-in-Ok-clause-fetchers g c =
    uses_twice g.F.Fetcher.held g.F.Fetcher.faults c.args.options.portal c.args.options.schema c.args.fetchers.now.items
    c.start_with.new.fetchers.items c.index_mut.result.now c.load_over.new.fetcher c.in-Ok.ensures.fetchers
    (omega (arith, c.requires, c.in-Ok.ensures.fetchers.same.count)) c.index_mut.ensures.value c.load_over.ensures.held
    c.load_over.ensures.fetches

use Rattle.std.proofs.Common.{◌≤◌}
use Rattle.portal_lines.specs.Lines.{bytes_left}
use Rattle.portal_serve.proofs.Looping.{Keeps}
use Rattle.portal_serve.specs.Rounds.{AreSameFetchers, pool_trace}
use Rattle.portal_serve.specs.Run.{with_input}
use Rattle.portal_serve.specs.Stage.{AreSameLoans, trace_of}
use Rattle.portal_serve.proofs.play.play_lines.Given as goal

-- what the lines so far did, that no count of faults fell, and that the devices are those that were borrowed, and the fetchers
-- those that were there
abbrev pub invariant-lines : goal.invariant-lines
invariant-lines g l = record {
  kept : Keeps l.fn.portal.state
      (with_input (g.S.Source.to_come l.fn.input)
      (trace_of g.O.Sink.taken g.C.Clock.given g.N.Nonces.given l.fn.stage))
      (with_input (g.S.Source.to_come l.input)
      (trace_of g.O.Sink.taken g.C.Clock.given g.N.Nonces.given l.stage))
      (pool_trace g.F.Fetcher.held g.F.Fetcher.faults l.fn.fetchers.items l.fn.reports.items)
      (pool_trace g.F.Fetcher.held g.F.Fetcher.faults l.fetchers.items l.reports.items) l.portal.state l.reader;
  fetchers : AreSameFetchers g.F.Fetcher.held g.F.Fetcher.faults l.fn.fetchers.items l.fetchers.items;
  reads : g.S.Source.faults l.fn.input ≤ g.S.Source.faults l.input;
  writes : g.O.Sink.faults l.fn.stage.output.now ≤ g.O.Sink.faults l.stage.output.now;
  loans : AreSameLoans l.fn.stage l.stage;
  keeps : g.P.Keeper.faults l.fn.portal.keeper ≤ g.P.Keeper.faults l.portal.keeper;
}

-- each line leaves fewer bytes
abbrev pub decreases-lines : goal.decreases-lines
decreases-lines g l = bytes_left l.reader

use Rattle.std.proofs.Common.{◌≡◌, ◌≤◌}
use Rattle.harvest_pool.proofs.LoopLemmas.{ObjectsSoFar}
use Rattle.harvest_pool.proofs.objects.settle_objects.Given as goal

-- the objects so far, and counts that never fall
abbrev pub invariant-loop : goal.invariant-loop
invariant-loop g l = record {
  so_far : ObjectsSoFar g.M.Machine.step (g.F.Fetcher.held l.fn.fetcher) (g.M.Machine.core l.fn.machine)
      (g.F.Fetcher.faults l.fn.fetcher) (g.M.Machine.core l.machine) (g.F.Fetcher.faults l.fetcher);
  held : g.F.Fetcher.held l.fetcher ≡ g.F.Fetcher.held l.fn.fetcher;
  counts : g.M.Machine.faults l.fn.machine ≤ g.M.Machine.faults l.machine;
  fetches : g.F.Fetcher.faults l.fn.fetcher ≤ g.F.Fetcher.faults l.fetcher;
}

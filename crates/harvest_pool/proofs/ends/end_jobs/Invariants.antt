use Rattle.std.proofs.Common.{◌≤◌}
use Rattle.harvest_pool.proofs.LoopLemmas.{EndsSoFar}
use Rattle.harvest_pool.proofs.ends.end_jobs.Given as goal

-- the jobs that have ended so far, and a count that never falls
abbrev pub invariant-loop-job : goal.invariant-loop-job
invariant-loop-job g l = record {
  so_far : EndsSoFar g.M.Machine.step (g.M.Machine.core l.fn.machine) l.fn.reports.items l.yielded
      (g.M.Machine.core l.machine) l.reports.items;
  counts : g.M.Machine.faults l.fn.machine ≤ g.M.Machine.faults l.machine;
}

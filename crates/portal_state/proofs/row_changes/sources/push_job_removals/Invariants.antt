use Rattle.std.proofs.Common.{◌≡◌, ◌++◌, map, take}
use Rattle.portal_state.specs.ChangedRows.{removal_of_job}
use Rattle.portal_state.proofs.row_changes.sources.push_job_removals.Given as goal

abbrev pub invariant-loop-job : goal.invariant-loop-job
invariant-loop-job l =
    l.changes.items ≡ l.fn.changes.items ++ map removal_of_job (take l.job-index l.jobs)

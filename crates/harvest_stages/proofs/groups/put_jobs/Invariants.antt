use Rattle.std.proofs.Common.{◌≡◌, true, map}
use Rattle.std.specs.List.{list_all}
use Rattle.harvest_stages.specs.Groups.{sources_of, with_all_own}
use Rattle.harvest_stages.specs.Restored.{is_restorable_job}
use Rattle.harvest_stages.proofs.groups.put_jobs.Given as goal

-- The jobs so far are put, and can be restored.
abbrev pub invariant-loop-job : goal.invariant-loop-job
invariant-loop-job l = record {
  put : l.groups.items ≡ map (with_all_own l.yielded) l.fn.groups.items;
  fit : list_all (is_restorable_job (sources_of l.fn.groups.items)) l.yielded ≡ true;
}

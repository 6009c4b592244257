use Rattle.std.proofs.Common.{◌≡◌, ◌≢◌}
use Rattle.portal_core.specs.Restored.{target_of}
use Rattle.portal_core.proofs.Passed.{AllBefore}
use Rattle.portal_core.proofs.RestoredTargets.{half}
use Rattle.portal_core.proofs.restored_tables.targets_of.Given as goal

abbrev pub invariant-loop-at : goal.invariant-loop-at
invariant-loop-at l = record {
  read : l.targets.items ≡ half (target_of l.own) l.fn.kept l.at;
  none : AllBefore (λ n. n ≢ l.own) l.fn.kept l.at;
}

use Rattle.std.proofs.Common.{◌<◌, ◌≢◌, ap, arith, length}
use Rattle.portal_core.specs.Restored.{target_of}
use Rattle.portal_core.proofs.Passed.{before-next}
use Rattle.portal_core.proofs.RestoredTargets.{half-item, half-step}
use Rattle.portal_core.proofs.restored_tables.targets_of.Goals as goal

pub loop-at-preserved : goal.loop-at-preserved
loop-at-preserved c =
    let lt : c.loop-at.at < length c.args.kept =
    omega (
      arith,
      c.loop-at-test.true,
      c.len-at-end.ensures,
      ap length c.into_vec-targets.ensures,
      c.into_vec-targets.result.ok.0,
    ) in
    record {
      read = half-step (target_of c.args.own) c.args.kept c.loop-at.targets.items c.loop-at.at
          c.index-in-loop-at.result.now c.target_of.result c.loop-at.invariant.read lt c.index-in-loop-at.ensures
          c.target_of.ensures;
      none = before-next (λ n. n ≢ c.args.own) c.args.kept c.loop-at.at c.index.result.now c.loop-at.invariant.none lt
          (half-item (target_of c.args.own) c.args.kept c.loop-at.targets.items c.loop-at.at c.index.result.now
          c.loop-at.invariant.read c.index.ensures)
          c.if-index-own.false;
    }

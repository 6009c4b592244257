use Rattle.std.proofs.Common.{OnErr, subst}
use Rattle.sqlite.specs.Held.{state}
use Rattle.sqlite.specs.State.{KeepsCommit}
use Rattle.keeper_sqlite.proofs.TransactionLemmas.{applied_keeps}
use Rattle.keeper_sqlite.proofs.keeper.SqliteKeeperKeeper.apply.Goals as goal
use Rattle.keeper_sqlite.specs.SqliteState.{SqliteState}

pub returns-clause-kept : goal.returns-clause-kept
returns-clause-kept g c clean =
    let outcome = c.apply_changes-applied.result in
    let new = c.apply_changes-applied.new.connection in
    subst (λ (k : SqliteState g.row.S.Denot). OnErr outcome (KeepsCommit (state g.S.Store k.connection) (state g.S.Store new)))
    c.self.view_is
    (applied_keeps g.S.Store c.as_slice.result.now c.self.inside.connection new outcome
    (c.apply_changes-applied.ensures.refused clean))

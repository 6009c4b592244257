use Rattle.std.proofs.Common.{OnErr, subst}
use Rattle.sqlite.specs.Held.{state}
use Rattle.sqlite.specs.State.{KeepsCommit}
use Rattle.keeper_sqlite.proofs.LoadingLemmas.{loaded_keeps}
use Rattle.keeper_sqlite.proofs.keeper.SqliteKeeperKeeper.load.Goals as goal
use Rattle.keeper_sqlite.specs.SqliteState.{SqliteState}

pub returns-clause-kept : goal.returns-clause-kept
returns-clause-kept g c clean =
    let outcome = c.load_rows-loaded.result in
    let new = c.load_rows-loaded.new.connection in
    subst (λ (k : SqliteState g.row.S.Denot). OnErr outcome (KeepsCommit (state g.S.Store k.connection) (state g.S.Store new)))
    c.self.view_is
    (loaded_keeps g.S.Store c.self.inside.connection new outcome (c.load_rows-loaded.ensures.refused clean))

use Rattle.std.proofs.Common.{◌≡◌, map, take, IsTrue}
use Rattle.sqlite.specs.Held.{state}
use Rattle.sqlite.specs.State.{HasCleanDisk, Survives}
use Rattle.keeper_sqlite.specs.Statements.{statement_of}
use Rattle.keeper_sqlite.specs.Transactions.{AllRun}
use Rattle.keeper_sqlite.proofs.transactions.change_rows.Given as goal

abbrev pub invariant-loop-change : goal.invariant-loop-change
invariant-loop-change g l =
    let old = l.initial.tx.conn.now in
    let now = l.tx.conn.now in
    record {
      same_reference : l.tx.conn.ghost_name ≡ l.initial.tx.conn.ghost_name;
      survives : Survives (state g.S.Store old) (state g.S.Store now) (λ _. ⊥);
      ran : HasCleanDisk (state g.S.Store now) → IsTrue old.in_transaction
          → AllRun g.S.Store (map statement_of (take l.change-index l.changes)) old now;
    }

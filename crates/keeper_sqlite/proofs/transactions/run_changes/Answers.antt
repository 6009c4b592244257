use Rattle.std.proofs.Common.{inr, map, arith}
use Rattle.std.proofs.lemmas.Result.{IfErr-weaker, on_ok_weaker}
use Rattle.sqlite.specs.Held.{state}
use Rattle.sqlite.specs.State.{HasCleanDisk}
use Rattle.keeper_sqlite.proofs.transactions.run_changes.Goals as goal
use Rattle.keeper_sqlite.specs.Statements.{statement_of, statements_of}
use Rattle.keeper_sqlite.specs.Transactions.{AllRun, StopsAt}

pub returns-clause-ran : goal.returns-clause-ran
returns-clause-ran g c clean inside =
    let made = c.make_table.new.tx.conn.now in
    let last = c.change_rows.new.tx.conn.now in
    let early : HasCleanDisk (state g.S.Store made) = omega (arith, c.change_rows.ensures.survives.clean) in
    let makes = c.in_ok-make_table.ensures.runs early inside in
    on_ok_weaker c.change_rows.result
    (λ (ran : AllRun g.S.Store (map statement_of c.args.changes.now) made last). (made, c.in_ok-make_table.field-0, makes, ran))
    (c.change_rows.ensures.ran clean makes.1.mode)

pub returns-clause-refused : goal.returns-clause-refused
returns-clause-refused g c clean inside =
    let old = c.args.tx.now.conn.now in
    let made = c.make_table.new.tx.conn.now in
    let last = c.change_rows.new.tx.conn.now in
    let early : HasCleanDisk (state g.S.Store made) = omega (arith, c.change_rows.ensures.survives.clean) in
    let makes = c.in_ok-make_table.ensures.runs early inside in
    IfErr-weaker c.change_rows.result (StopsAt g.S.Store (map statement_of c.args.changes.now) made last)
    (StopsAt g.S.Store (statements_of c.args.changes.now) old last)
    (λ error stops. inr (made, c.in_ok-make_table.field-0, makes, stops))
    (c.change_rows.ensures.refused clean makes.1.mode)

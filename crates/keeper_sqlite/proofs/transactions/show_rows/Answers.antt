use Rattle.std.proofs.Common.{[], ◌∷◌, inl, inr, refl, arith}
use Rattle.std.proofs.lemmas.Result.{err_from_is_err_and, IfOk-weaker, IfErr-weaker}
use Rattle.sqlite.specs.Held.{state}
use Rattle.sqlite.specs.State.{HasCleanDisk, Shown}
use Rattle.keeper_sqlite.specs.Loading.{Selects, FailsToShow}
use Rattle.keeper_sqlite.specs.Statements.{make_table, select_text}
use Rattle.keeper_sqlite.specs.Transactions.{AllRun, FailsToSelect}
use Rattle.keeper_sqlite.proofs.transactions.show_rows.Goals as goal

pub returns-in_err-make_table-clause-refused : goal.returns-in_err-make_table-clause-refused
returns-in_err-make_table-clause-refused g c clean inside =
    let p = err_from_is_err_and c.from_residual.result c.from_residual.ensures.1 in
    rw (p.1, p.2) (inl (inl (c.in_err-make_table.ensures.runs clean inside)))

pub returns-clause-rows : goal.returns-clause-rows
returns-clause-rows g c clean inside =
    let old = c.args.tx.now.conn.now in
    let made = c.make_table.new.tx.conn.now in
    let last = c.select_rows.new.tx.conn.now in
    let early : HasCleanDisk (state g.S.Store made) = omega (arith, c.select_rows.ensures.survives.clean) in
    let ran : AllRun g.S.Store (make_table ∷ []) old made =
    (made, c.in_ok-make_table.field-0, c.in_ok-make_table.ensures.runs early inside, refl) in
    IfOk-weaker c.select_rows.result (λ rows. Shown select_text [] (state g.S.Store made) (state g.S.Store last) rows.items)
    (λ rows. Selects g.S.Store old last rows.items)
    (λ rows shown. record { made = made; ran = ran; shown = shown })
    (c.select_rows.ensures.rows clean)

pub returns-clause-refused : goal.returns-clause-refused
returns-clause-refused g c clean inside =
    let old = c.args.tx.now.conn.now in
    let made = c.make_table.new.tx.conn.now in
    let last = c.select_rows.new.tx.conn.now in
    let early : HasCleanDisk (state g.S.Store made) = omega (arith, c.select_rows.ensures.survives.clean) in
    let ran : AllRun g.S.Store (make_table ∷ []) old made =
    (made, c.in_ok-make_table.field-0, c.in_ok-make_table.ensures.runs early inside, refl) in
    IfErr-weaker c.select_rows.result (FailsToSelect (state g.S.Store made) (state g.S.Store last))
    (FailsToShow g.S.Store old last)
    (λ error failed. inr (made, ran, failed))
    (c.select_rows.ensures.refused clean)

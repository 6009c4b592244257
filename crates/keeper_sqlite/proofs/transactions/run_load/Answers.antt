use Rattle.std.proofs.Common.{◌≡◌, map, sym, subst, ◌∙◌}
use Rattle.std.proofs.lemmas.Result.{IfOk-weaker}
use Rattle.keeper_sqlite.specs.Loading.{Selects, FailsToRead}
use Rattle.keeper_sqlite.specs.Loading.FailsToRead.{unshown}
use Rattle.keeper_sqlite.specs.RowValues.{values_of}
use Rattle.keeper_sqlite.proofs.LoadingLemmas.{read_refused}
use Rattle.keeper_sqlite.proofs.transactions.run_load.Goals as goal

pub returns-in-Err-clause-refused : goal.returns-in-Err-clause-refused
returns-in-Err-clause-refused g c clean inside =
    subst (FailsToRead g.S.Store c.args.tx.now.conn.now c.show_rows.new.tx.conn.now) (sym c.fault_of.ensures)
    (unshown c.in-Err.error (c.in-Err.ensures.refused clean inside))

pub returns-in-Ok-clause-rows : goal.returns-in-Ok-clause-rows
returns-in-Ok-clause-rows g c clean inside =
    let old = c.args.tx.now.conn.now in
    let last = c.show_rows.new.tx.conn.now in
    IfOk-weaker c.read_rows.result (λ kept. c.as_slice.result.now ≡ map values_of kept.items)
    (λ kept. Selects g.S.Store old last (map values_of kept.items))
    (λ kept is. subst (Selects g.S.Store old last) (sym c.as_slice.ensures.value ∙ is) (c.in-Ok.ensures.rows clean inside))
    c.read_rows.ensures.rows

pub returns-in-Ok-clause-refused : goal.returns-in-Ok-clause-refused
returns-in-Ok-clause-refused g c clean inside =
    let old = c.args.tx.now.conn.now in
    let last = c.show_rows.new.tx.conn.now in
    read_refused g.S.Store old last c.as_slice.result.now c.read_rows.result
    (subst (Selects g.S.Store old last) (sym c.as_slice.ensures.value) (c.in-Ok.ensures.rows clean inside))
    c.read_rows.ensures.failed

use Rattle.std.proofs.Common.{◌<◌, ◌∙◌, length, map, take, add-one, arith}
use Rattle.std.proofs.lemmas.Result.{err_from_is_err_and}
use Rattle.sqlite.proofs.StateLemmas.{survives_then}
use Rattle.sqlite.specs.Held.{state}
use Rattle.sqlite.specs.State.{HasCleanDisk}
use Rattle.keeper_sqlite.proofs.TransactionLemmas.{AllRun-inside, ran_more, stops_here}
use Rattle.keeper_sqlite.proofs.transactions.change_rows.Goals as goal
use Rattle.keeper_sqlite.specs.Statements.{statement_of}

pub returns-in_err-change_row-clause-refused : goal.returns-in_err-change_row-clause-refused
returns-in_err-change_row-clause-refused g c clean inside =
    let p = err_from_is_err_and c.from_residual.result c.from_residual.ensures.1 in
    let changes = c.args.changes.now in
    let i = c.loop-change.change-index in
    let old = c.args.tx.now.conn.now in
    let mid = c.loop-change.tx.conn.now in
    let new = c.change_row.new.tx.conn.now in
    let early : HasCleanDisk (state g.S.Store mid) = omega (arith, c.change_row.ensures.survives.clean) in
    let within : i < length changes = omega arith in
    let ran = c.loop-change.invariant.ran early inside in
    let inside_still = AllRun-inside g.S.Store (map statement_of (take i changes)) old mid ran inside in
    rw (p.1, p.2)
    (stops_here g.S.Store changes i c.change-item.result _ old mid new within c.change-item.is ran
    (c.in_err-change_row.ensures.runs clean inside_still))

pub loop-change-preserved : goal.loop-change-preserved
loop-change-preserved g c =
    let changes = c.args.changes.now in
    let i = c.loop-change.change-index in
    let old = c.args.tx.now.conn.now in
    let mid = c.loop-change.tx.conn.now in
    let new = c.change_row.new.tx.conn.now in
    record {
      same_reference = c.change_row.ensures.same_reference ∙ c.loop-change.invariant.same_reference;
      survives = survives_then (state g.S.Store old) (state g.S.Store mid) (state g.S.Store new) (λ _. ⊥) (λ _. ⊥) (λ _. ⊥)
          (λ _ db none. none) (λ _ db none. none) c.loop-change.invariant.survives c.change_row.ensures.survives;
      ran = λ clean inside.
          let early : HasCleanDisk (state g.S.Store mid) = omega (arith, c.change_row.ensures.survives.clean) in
          let within : i < length changes = omega arith in
          let ran = c.loop-change.invariant.ran early inside in
          let inside_still = AllRun-inside g.S.Store (map statement_of (take i changes)) old mid ran inside in
          rw (add-one i)
          (ran_more g.S.Store changes i c.change-item.result c.in_ok-change_row.field-0 old mid new within c.change-item.is ran
          (c.in_ok-change_row.ensures.runs clean inside_still));
    }

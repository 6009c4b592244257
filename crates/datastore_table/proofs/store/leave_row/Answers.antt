use Rattle.std.proofs.Common.{◌≡◌, ◌∙◌, ℕ, List, ap, arith, inl, subst}
use Rattle.digest_index.specs.Index.{IsUnder}
use Rattle.datastore_table.specs.Cells.{cells_at}
use Rattle.datastore_table.specs.Index.{LeavesRow, digest_of}
use Rattle.datastore_table.proofs.StoreLemmas.{all_but_end, gone_more, leaves_through, left_gone, left_one}
use Rattle.datastore_table.proofs.store.leave_row.Goals as goal

pub loop-columns-init : goal.loop-columns-init
loop-columns-init c = record {
  leaves = record { kept = λ d i other under. under; there = λ d i under. under; room = omega arith };
  gone = λ columns m. inl m;
}

pub loop-columns-preserved : goal.loop-columns-preserved
loop-columns-preserved c =
    let column_lists = c.args.column_lists.now in
    let k = c.loop-columns.columns-index in
    let columns = c.columns-item.result in
    let cells = c.args.cells.now in
    let id = c.args.id in
    let old = c.loop-columns.index in
    let new = c.leave.new.self in
    let same : c.digest_at.result ≡ digest_of columns (cells_at columns cells) =
    c.digest_at.ensures ∙ ap (λ (p : List ℕ). digest_of p (cells_at p cells)) c.as_slice-columns.ensures in
    let leaves : LeavesRow old new id = left_one old new c.digest_at.result id c.leave.ensures in
    let here : IsUnder new (digest_of columns (cells_at columns cells)) id → ⊥ =
    subst (λ d. IsUnder new d id → ⊥) same (left_gone old new c.digest_at.result id c.leave.ensures) in
    record {
      leaves = leaves_through c.args.index.now old new id c.loop-columns.invariant.leaves leaves;
      gone = gone_more column_lists k columns cells id old new c.loop-columns-test.true c.columns-item.is
          c.loop-columns.invariant.gone leaves here;
    }

pub returns-clause-gone : goal.returns-clause-gone
returns-clause-gone c =
    all_but_end
    (λ (p : List ℕ). IsUnder c.loop-columns.index (digest_of p (cells_at p c.args.cells.now)) c.args.id → ⊥)
    c.args.column_lists.now c.loop-columns.columns-index c.loop-columns-test.false c.loop-columns.invariant.gone

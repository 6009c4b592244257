use Rattle.std.proofs.Common.{ℕ, arith, get_or, inl}
use Rattle.datastore_table.specs.Index.{IsLeft}
use Rattle.datastore_table.proofs.StoreLemmas.{all_but_end, item_at, leave_next_at, left_more}
use Rattle.datastore_table.proofs.store.leave_all.Goals as goal

pub loop-id-init : goal.loop-id-init
loop-id-init c = record {
  leaves = record { kept = λ d i apart under. under; room = omega arith };
  left = λ id m. inl m;
}

pub loop-id-preserved : goal.loop-id-preserved
loop-id-preserved c =
    let ids = c.args.ids.now in
    let k = c.loop-id.id-index in
    record {
      leaves = leave_next_at ids k c.args.index.now c.loop-id.index c.leave_id.new.index c.loop-id-test.true
          c.loop-id.invariant.leaves c.leave_id.ensures.leaves;
      left = left_more (λ (id : ℕ). id) c.args.column_lists.now c.args.rows.now ids k (get_or ids k 0) c.loop-id.index
          c.leave_id.new.index c.loop-id-test.true (item_at ids k 0 (get_or ids k 0) c.loop-id-test.true)
          c.loop-id.invariant.left c.leave_id.ensures.leaves c.leave_id.ensures.left;
    }

pub returns-clause-left : goal.returns-clause-left
returns-clause-left c =
    all_but_end (λ (id : ℕ). IsLeft c.args.column_lists.now c.args.rows.now id c.loop-id.index) c.args.ids.now
    c.loop-id.id-index c.loop-id-test.false c.loop-id.invariant.left

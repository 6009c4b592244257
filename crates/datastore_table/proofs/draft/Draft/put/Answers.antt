use Rattle.std.proofs.Common.{List, ℕ, arith, refl, subst, sym}
use Rattle.datastore_table.specs.declared.row.Row.{Row}
use Rattle.datastore_table.specs.Index.{EntersRow, IsIndexed}
use Rattle.datastore_table.proofs.StoreLemmas.{indexed_same, put_indexed}
use Rattle.datastore_table.proofs.draft.Draft.put.Goals as goal

pub enter_row-requires : goal.enter_row-requires
enter_row-requires c =
    omega (arith, c.in_ok-reserve.ensures.room, c.leave_id.ensures.leaves.room)

pub returns-clause-indexed : goal.returns-clause-indexed
returns-clause-indexed c =
    let old = c.args.self.now in
    let lists = old.column_lists.items in
    let row = c.args.row in
    let roomy = c.reserve.new.self in
    let mid = c.leave_id.new.index in
    let new = c.enter_row.new.index in
    let was : IsIndexed lists old.rows roomy =
    indexed_same lists old.rows old.rows old.index roomy refl c.reserve.ensures.first c.reserve.ensures.further
    c.requires.indexed in
    let enters : EntersRow mid new lists row =
    subst (λ (cs : List (List ℕ)). EntersRow mid new cs row) c.as_slice-column_lists.ensures.value c.enter_row.ensures in
    subst (λ (rs : List Row). IsIndexed lists rs new) (sym c.in_ok-put.ensures)
    (put_indexed lists row old.rows roomy mid new was c.leave_id.ensures.leaves enters)

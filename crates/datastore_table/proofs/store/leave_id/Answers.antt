use Rattle.std.proofs.Common.{◌≡◌, ◌∙◌, List, Some, ap, subst}
use Rattle.table_schema.specs.declared.cell.Cell.{Cell}
use Rattle.datastore_table.specs.declared.row.Row.{Row}
use Rattle.datastore_table.specs.Index.{IsGone}
use Rattle.datastore_table.proofs.store.leave_id.Goals as goal

one_row : (a b : Row) → Some a ≡ Some b → a ≡ b
one_row a b same = cc

pub returns-in-Some-clause-left : goal.returns-in-Some-clause-left
returns-in-Some-clause-left c row at =
    subst (λ (cells : List Cell). IsGone c.args.column_lists.now cells c.args.id c.leave_row.new.index)
    (c.as_slice.ensures ∙ ap (λ (r : Row). r.cells) (one_row c.in-Some.row.now row (c.in-Some.ensures ∙ at)))
    c.leave_row.ensures.gone

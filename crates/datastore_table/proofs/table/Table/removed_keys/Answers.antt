use Rattle.std.proofs.Common.{List, subst, sym}
use Rattle.std.proofs.lemmas.Result.{IfOk-weaker}
use Rattle.portal_base.specs.Ordered.{IsAscending}
use Rattle.datastore_table.specs.declared.row.Row.{Row}
use Rattle.datastore_table.specs.Rows.{row_cmp}
use Rattle.datastore_table.proofs.FirstLemmas.{removed_ascend}
use Rattle.datastore_table.proofs.table.Table.removed_keys.Goals as goal

pub returns-clause-ascending : goal.returns-clause-ascending
returns-clause-ascending c =
    let rows = c.as_slice.result.now in
    let up : IsAscending row_cmp rows =
    subst (λ (r : List Row). IsAscending row_cmp r) (sym c.as_slice.ensures.value)
    c.self.invariant.table.numbered.ascending in
    IfOk-weaker c.removed_keys.result _ _
    (λ keys is. subst (λ (r : List Row). IsAscending row_cmp r) (sym is)
    (removed_ascend c.as_slice-key.result.now c.args.ids.now rows up))
    c.removed_keys.ensures

use Rattle.std.proofs.Common.{◌≡◌, sym, ◌∙◌, rules}
use Rattle.table_schema.specs.Order.{cell_cmp}
use Rattle.table_schema.proofs.OrderLemmas.{cell_cmp-equal, cell_cmp-of}
use Rattle.table_schema.proofs.cell.Cell.order.Goals as goal

pub returns-clause-equal : goal.returns-clause-equal
unfolding cell_cmp
returns-clause-equal c = λ self_value other_value.
    let is : c.then-2.result ≡ cell_cmp c.args.self.now c.args.other.now = search rules in (
      λ e. cell_cmp-equal c.args.self.now c.args.other.now self_value other_value (sym is ∙ e),
      λ e. is ∙ cell_cmp-of c.args.self.now c.args.other.now e,
    )

use Rattle.table_schema.proofs.CellLemmas.{kept-IsValue, text_reading-IsValue}
use Rattle.table_schema.proofs.field.Field.read_cell.Goals as goal

pub returns-clause-value : goal.returns-clause-value
returns-clause-value c =
    kept-IsValue c.kept.result c.self.inside.constraints c.in_ok-cell_of.field-0 c.kept.ensures.cell
    (text_reading-IsValue c.self.inside.form c.args.text.now c.in_ok-cell_of.field-0 c.in_ok-cell_of.ensures.cell)

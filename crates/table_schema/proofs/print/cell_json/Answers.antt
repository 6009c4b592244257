use Rattle.table_schema.proofs.CellLemmas.{text_cell}
use Rattle.table_schema.proofs.print.cell_json.Goals as goal

pub returns-in_ok-cell_text-in_default : goal.returns-in_ok-cell_text-in_default
returns-in_ok-cell_text-in_default c =
    let written = text_cell c.args.cell.now c.in_ok-cell_text-in_default.field-0 c.in_default.not-Null
    c.in_default.not-Int c.in_default.not-Truth c.in_default.not-Year c.requires
    c.in_ok-cell_text-in_default.ensures in
    record { value = written.0; back = written.1 }

use Rattle.std.proofs.Common.{sym}
use Rattle.portal_state.proofs.TableRows.{found_values}
use Rattle.portal_state.proofs.row_changes.tables.cells_body.Goals as goal

pub cells_row-requires : goal.cells_row-requires
cells_row-requires c =
    found_values c.args.id c.args.rows.now c.in-Some.row.now c.requires.values (sym c.in-Some.ensures)

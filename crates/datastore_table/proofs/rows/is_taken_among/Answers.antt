use Rattle.std.proofs.Common.{◌∙◌, ap, sym}
use Rattle.datastore_table.specs.Cells.{cell_at}
use Rattle.datastore_table.specs.Index.{is_other_unwritten}
use Rattle.datastore_table.proofs.LookupLemmas.{any_unwritten}
use Rattle.datastore_table.proofs.rows.is_taken_among.Goals as goal

pub returns : goal.returns
returns c =
    let rows = c.args.rows.now in
    let written = c.args.written.now in
    c.is_other_unwritten.ensures ∙ ap (is_other_unwritten c.args.except written) c.find_by_index-row.ensures
    ∙ sym (any_unwritten c.args.except c.args.column (cell_at c.args.cells.now c.args.column) written rows
    c.requires.ascending c.requires.alone)

use Rattle.std.proofs.Common.{◌∙◌, ap, find, sym}
use Rattle.std.specs.Prelude.{is_some}
use Rattle.datastore_table.specs.Cells.{cells_at}
use Rattle.datastore_table.specs.Index.{unwritten}
use Rattle.datastore_table.specs.Rows.{has_cells}
use Rattle.datastore_table.proofs.LookupLemmas.{alone_key, any_apart}
use Rattle.datastore_table.proofs.references.exists_by_index.Goals as goal

pub returns : goal.returns
returns c =
    let key = c.args.key.now in
    let rows = c.args.rows.now in
    let written = c.args.written.now in
    let cells = cells_at c.args.columns.now c.args.row.now.cells in
    c.is_unwritten.ensures
    ∙ ap (λ o. is_some (unwritten written o)) (c.find_by_index-other.ensures
    ∙ ap (λ cs. find (has_cells key (cells_at c.args.columns.now cs)) rows) c.as_slice.ensures)
    ∙ sym (any_apart key cells written rows c.requires.keyed.ascending
    (alone_key key cells rows c.requires.keyed.apart c.requires.some))

pub find_by_index-other-requires-clause-alone : goal.find_by_index-other-requires-clause-alone
find_by_index-other-requires-clause-alone c =
    alone_key c.args.key.now (cells_at c.args.columns.now c.as_slice.result.now) c.args.rows.now
    c.requires.keyed.apart c.requires.some

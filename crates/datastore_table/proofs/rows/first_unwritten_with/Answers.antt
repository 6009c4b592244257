use Rattle.std.proofs.Common.{◌∙◌, ap, sym}
use Rattle.datastore_table.specs.Index.{unwritten}
use Rattle.datastore_table.proofs.LookupLemmas.{alone_key, find_unwritten}
use Rattle.datastore_table.proofs.rows.first_unwritten_with.Goals as goal

pub returns : goal.returns
returns c =
    let columns = c.args.columns.now in
    let cells = c.args.cells.now in
    let rows = c.args.current.now.rows in
    let written = c.args.current.now.written in
    c.unwritten.ensures ∙ ap (unwritten written) c.find_keyed-row.ensures
    ∙ sym (find_unwritten columns cells written rows c.requires.keyed.ascending
    (alone_key columns cells rows c.requires.keyed.apart c.requires.some))

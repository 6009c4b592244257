use Rattle.std.proofs.Common.{◌∙◌, ap, sym}
use Rattle.datastore_table.specs.Index.{only}
use Rattle.datastore_table.proofs.LookupLemmas.{at_index}
use Rattle.datastore_table.proofs.rows.row_at.Goals as goal

pub returns-in-Some : goal.returns-in-Some
returns-in-Some c =
    c.only.ensures ∙ ap (only c.args.id) c.in-Some.ensures
    ∙ sym (at_index c.args.id c.args.rows.now c.requires c.index_of_id.result c.index_of_id.ensures)

pub returns-in-None : goal.returns-in-None
returns-in-None c =
    ap (only c.args.id) c.in-None.ensures
    ∙ sym (at_index c.args.id c.args.rows.now c.requires c.index_of_id.result c.index_of_id.ensures)

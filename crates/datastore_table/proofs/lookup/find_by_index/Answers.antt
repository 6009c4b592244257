use Rattle.std.proofs.Common.{◌∙◌, sym}
use Rattle.datastore_table.specs.Index.{lookup_cells}
use Rattle.datastore_table.proofs.LookupLemmas.{found_by, found_none}
use Rattle.datastore_table.proofs.lookup.find_by_index.Goals as goal

pub returns-in-Some : goal.returns-in-Some
returns-in-Some c =
    c.row_at.ensures
    ∙ found_by c.args.columns.now (lookup_cells c.args.lookup_key) c.args.rows.now c.requires.ascending c.requires.alone
    c.in-Some.id c.in-Some.ensures.found

pub returns-in-None : goal.returns-in-None
returns-in-None c =
    sym (found_none c.args.columns.now (lookup_cells c.args.lookup_key) c.args.rows.now c.args.index.now
    c.requires.ascending c.requires.full c.requires.indexed c.in-None.ensures.none)

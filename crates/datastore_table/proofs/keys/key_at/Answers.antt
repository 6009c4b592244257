use Rattle.std.proofs.Common.{◌∙◌, ap, sym}
use Rattle.datastore_table.specs.Keys.{only_key}
use Rattle.datastore_table.specs.Put.{id_of}
use Rattle.datastore_table.proofs.FirstLemmas.{key_at_is}
use Rattle.datastore_table.proofs.keys.key_at.Goals as goal

pub returns-in-Some : goal.returns-in-Some
returns-in-Some c =
    let columns = c.args.columns.now in
    let cells = c.args.cells.now in
    c.id_if_key.ensures ∙ ap (λ o. id_of (only_key columns cells o)) c.in-Some.ensures
    ∙ sym (ap id_of (key_at_is columns cells c.args.id c.args.keys.now c.requires))

pub returns-in-None : goal.returns-in-None
returns-in-None c =
    let columns = c.args.columns.now in
    let cells = c.args.cells.now in
    ap (λ o. id_of (only_key columns cells o)) c.in-None.ensures
    ∙ sym (ap id_of (key_at_is columns cells c.args.id c.args.keys.now c.requires))

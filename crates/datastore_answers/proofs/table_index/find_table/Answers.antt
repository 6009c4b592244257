use Rattle.std.proofs.Common.{◌∙◌, ap, sym, Some}
use Rattle.std.specs.Prelude.{option_map}
use Rattle.std.proofs.lemmas.Option.{slice_get-get_or}
use Rattle.datastore_answers.specs.Tables.{without_room}
use Rattle.datastore_answers.specs.declared.address.Address.{Address}
use Rattle.datastore_answers.proofs.TableLemmas.{table_found}
use Rattle.datastore_answers.proofs.table_index.find_table.Goals as goal

pub returns-in-Some-clause-table : goal.returns-in-Some-clause-table
returns-in-Some-clause-table c =
    let ts = c.args.tables.now in
    let address : Address = record { dataset = c.args.dataset.now; number = c.args.number } in
    let t = c.index-tables-index.result in
    sym (ap (option_map without_room) (c.in-Some.ensures.index
    ∙ slice_get-get_or ts c.in-Some.index t c.in-Some.ensures.within ∙ ap Some (sym c.index-tables-index.is)))
    ∙ table_found address ts

pub returns-in-None-clause-table : goal.returns-in-None-clause-table
returns-in-None-clause-table c =
    let address : Address = record { dataset = c.args.dataset.now; number = c.args.number } in
    sym (ap (option_map without_room) c.in-None.ensures.index) ∙ table_found address c.args.tables.now

use Rattle.std.proofs.Common.{◌≡◌, ap, sym, None, Ok, List, ℕ}
use Rattle.std.specs.Borrow.{Bor}
use Rattle.std.specs.Result.{result_map_both}
use Rattle.packages.specs.LocatedResource.{located_now}
use Rattle.portal_base.specs.declared.json_value.Json.{Json}
use Rattle.datastore_answers.specs.Answers.{accepted_create}
use Rattle.datastore_answers.specs.Described.{described_table}
use Rattle.datastore_answers.specs.Tables.{without_room, tables_in, tables_of}
use Rattle.datastore_answers.specs.declared.resource_table.ResourceTable.{ResourceTable}
use Rattle.datastore_answers.proofs.CreateLemmas.{made-answer, new-empty_table}
use Rattle.datastore_answers.proofs.creation.answer_new_table.Goals as goal

pub returns-in-Ok-records-clause-answer : goal.returns-in-Ok-records-clause-answer
returns-in-Ok-records-clause-answer c =
    let placed = located_now c.args.placed.now in
    let tables = tables_of c.args.tables.now in
    let beside = tables_in c.args.placed.now.dataset.now.id tables in
    let body = c.args.context.now.call.now.request.body in
    let t = without_room c.in-Ok.table in
    let described : Ok t ≡ described_table placed beside body None = rw c.in-Ok.is at c.in_ok-table.ensures in
    let new = new-empty_table placed beside body t (sym described) in
    made-answer c.answer_new_table_with.result c.args.context.now.quota beside
    (tables_in c.in-Ok.table.address.dataset tables)
    (accepted_create placed) (described_table placed beside body None) t c.in-Ok-records.records.now _ (sym described)
    (ap (result_map_both (λ (r : Bor (List Json)). r.now) (λ (m : List ℕ). m)) c.in-Ok-records.is)
    (ap (λ (u : ResourceTable). tables_in u.address.dataset tables) new.made) c.answer_new_table_with.ensures.answer

pub answer_new_table_with-requires-clause-empty : goal.answer_new_table_with-requires-clause-empty
answer_new_table_with-requires-clause-empty c =
    let placed = located_now c.args.placed.now in
    let beside = tables_in c.args.placed.now.dataset.now.id (tables_of c.args.tables.now) in
    let body = c.args.context.now.call.now.request.body in
    let t = without_room c.in-Ok.table in
    let described : Ok t ≡ described_table placed beside body None = rw c.in-Ok.is at c.in_ok-table.ensures in
    ap (λ (u : ResourceTable). u.table.rows) (new-empty_table placed beside body t (sym described)).made

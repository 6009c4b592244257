use Rattle.std.proofs.Common.{◌≡◌, ◌∙◌, ap, sym, true, false}
use Rattle.packages.specs.LocatedResource.{located_now}
use Rattle.table_schema.specs.Field.{SchemaValue}
use Rattle.datastore_answers.specs.Described.{existing_table_errors}
use Rattle.datastore_answers.specs.Tables.{without_room, table_at, tables_in, tables_of}
use Rattle.datastore_answers.proofs.AnswerLemmas.{at-stored}
use Rattle.datastore_answers.proofs.CreateLemmas.{other-answer}
use Rattle.datastore_answers.proofs.creation.answer_authorized_create.Goals as goal

pub returns-then-not-is_empty-clause-answer : goal.returns-then-not-is_empty-clause-answer
returns-then-not-is_empty-clause-answer c =
    let beside = tables_in c.args.placed.now.dataset.now.id (tables_of c.args.tables.now) in
    let body = c.args.context.now.call.now.request.body in
    other-answer c.args.context.now.quota (located_now c.args.placed.now) beside body c.args.records
    (table_at c.args.placed.now.resource.now.number beside) (without_room c.in-Some.table.now)
    c.in_ok-errors-in-Some.errors c.in_ok-denial-in-Some.denial c.in-Some.ensures.table
    (c.in_ok-errors-in-Some.ensures ∙ ap (λ (s : SchemaValue). existing_table_errors s body) c.schema-schema.ensures)
    (λ none. let both : false ≡ true = sym c.if-not-is_empty.true ∙ c.is_empty.ensures.1 none in cc)
    c.in_ok-denial-in-Some.ensures

pub returns-in-None-clause-ready : goal.returns-in-None-clause-ready
returns-in-None-clause-ready c = at-stored c.answer_new_table.result _ c.answer_new_table.ensures.ready

use Rattle.std.proofs.Common.{◌∙◌, ap, sym}
use Rattle.std.specs.Prelude.{codes}
use Rattle.std.proofs.lemmas.Result.{err_from_is_err_and}
use Rattle.packages.specs.LocatedResource.{located_now}
use Rattle.table_schema.specs.Field.{SchemaValue}
use Rattle.visibility.specs.CallView.{context_view}
use Rattle.datastore_answers.specs.Answers.{upsert_answer, upsert_answer_for}
use Rattle.datastore_answers.specs.Tables.{without_room, tables_in, tables_of}
use Rattle.datastore_answers.specs.Errors.{read_method, read_records}
use Rattle.datastore_answers.proofs.AnswerLemmas.{on-none, on-there, stopped-there}
use Rattle.datastore_answers.proofs.answers.datastore_upsert.Goals as goal

pub returns-in_ok-answer-in-Some-clause-answer : goal.returns-in_ok-answer-in-Some-clause-answer
returns-in_ok-answer-in-Some-clause-answer c =
    let view = context_view c.args.context.now in
    let placed = located_now c.in_ok-placed.placed in
    let body = c.args.context.now.call.now.request.body in
    let beside = tables_in c.in_ok-placed.placed.dataset.now.id (tables_of c.args.tables.now) in
    let t = without_room c.in-Some.table.now in
    let read =
    c.in_ok-method-in-Some.ensures
    ∙ ap (λ key. read_method key body)
    (c.as_slice-key.ensures ∙ c.key.ensures ∙ ap (λ (s : SchemaValue). s.key) c.schema.ensures) in
    on-there (codes "resource_id") view (tables_of c.args.tables.now) (upsert_answer view) placed t _
    c.in_ok-placed.ensures.found (sym c.in-Some.ensures.table)
    (c.in_ok-answer-in-Some.ensures.answer t (sym c.in-Some.ensures.table)
    ∙ ap (λ how. upsert_answer_for view placed beside t how (read_records body)) read)

pub returns-in-None-clause-answer : goal.returns-in-None-clause-answer
returns-in-None-clause-answer c =
    let view = context_view c.args.context.now in
    on-none (codes "resource_id") view (tables_of c.args.tables.now) (upsert_answer view) (located_now c.in_ok-placed.placed)
    c.in_ok-placed.ensures.found (sym c.in-None.ensures.table)

pub returns-in_err-answer-in-Some-clause-answer : goal.returns-in_err-answer-in-Some-clause-answer
returns-in_err-answer-in-Some-clause-answer c =
    let view = context_view c.args.context.now in
    let body = c.args.context.now.call.now.request.body in
    let t = without_room c.in-Some.table.now in
    let read =
    c.in_ok-method-in-Some.ensures
    ∙ ap (λ key. read_method key body)
    (c.as_slice-key.ensures ∙ c.key.ensures ∙ ap (λ (s : SchemaValue). s.key) c.schema.ensures) in
    let same = rw read at (c.in_err-answer-in-Some.ensures.answer t (sym c.in-Some.ensures.table)) in
    let p = err_from_is_err_and c.from_residual-in_err-answer-in-Some.result
    c.from_residual-in_err-answer-in-Some.ensures.1 in
    rw (p.1, p.2)
    (stopped-there (codes "resource_id") view (tables_of c.args.tables.now) (upsert_answer view)
    (located_now c.in_ok-placed.placed) t _ c.in_ok-placed.ensures.found (sym c.in-Some.ensures.table) same)

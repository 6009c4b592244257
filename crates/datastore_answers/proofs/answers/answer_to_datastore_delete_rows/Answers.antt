use Rattle.std.proofs.Common.{sym}
use Rattle.std.specs.Prelude.{codes}
use Rattle.std.proofs.lemmas.Result.{err_from_is_err_and}
use Rattle.packages.specs.LocatedResource.{located_now}
use Rattle.visibility.specs.CallView.{context_view}
use Rattle.datastore_answers.specs.Answers.{delete_rows_answer}
use Rattle.datastore_answers.specs.Tables.{without_room, tables_of}
use Rattle.datastore_answers.proofs.AnswerLemmas.{on-none, on-there, stopped-there}
use Rattle.datastore_answers.proofs.answers.answer_to_datastore_delete_rows.Goals as goal

pub returns-in_ok-answer-in-Some-clause-answer : goal.returns-in_ok-answer-in-Some-clause-answer
returns-in_ok-answer-in-Some-clause-answer c =
    let view = context_view c.args.context.now in
    on-there (codes "resource_id") view (tables_of c.args.tables.now) (delete_rows_answer view c.args.found)
    (located_now c.in_ok-placed.placed) (without_room c.in-Some._table.now) _ c.in_ok-placed.ensures.found
    (sym c.in-Some.ensures.table)
    (c.in_ok-answer-in-Some.ensures.answer (without_room c.in-Some._table.now) (sym c.in-Some.ensures.table))

pub returns-in-None-clause-answer : goal.returns-in-None-clause-answer
returns-in-None-clause-answer c =
    let view = context_view c.args.context.now in
    on-none (codes "resource_id") view (tables_of c.args.tables.now) (delete_rows_answer view c.args.found)
    (located_now c.in_ok-placed.placed) c.in_ok-placed.ensures.found (sym c.in-None.ensures.table)

pub returns-in_err-answer-in-Some-clause-answer : goal.returns-in_err-answer-in-Some-clause-answer
returns-in_err-answer-in-Some-clause-answer c =
    let view = context_view c.args.context.now in
    let p = err_from_is_err_and c.from_residual-in_err-answer-in-Some.result
    c.from_residual-in_err-answer-in-Some.ensures.1 in
    rw (p.1, p.2)
    (stopped-there (codes "resource_id") view (tables_of c.args.tables.now) (delete_rows_answer view c.args.found)
    (located_now c.in_ok-placed.placed) (without_room c.in-Some._table.now) _ c.in_ok-placed.ensures.found
    (sym c.in-Some.ensures.table) (c.in_err-answer-in-Some.ensures.answer (without_room c.in-Some._table.now) (sym c.in-Some.ensures.table)))

use Rattle.std.proofs.Common.{List, ℕ, sym, ap, ◌∙◌}
use Rattle.std.specs.Prelude.{codes}
use Rattle.std.proofs.lemmas.Result.{err_from_is_err_and}
use Rattle.packages.specs.LocatedResource.{located_now}
use Rattle.visibility.specs.CallView.{context_view}
use Rattle.datastore_answers.specs.TableAnswers.{map_answer}
use Rattle.datastore_answers.specs.Plan.{change_of}
use Rattle.datastore_answers.specs.Tables.{without_room, tables_of}
use Rattle.datastore_answers.proofs.AnswerLemmas.{on-none, on-there, stopped-there}
use Rattle.portal_state.specs.Queries.{search_answer, search_answer_for_table}
use Rattle.portal_core.proofs.queries.datastore_search.Goals as goal

pub returns-in_ok-answer-in-Some : goal.returns-in_ok-answer-in-Some
returns-in_ok-answer-in-Some c =
    let body = c.args.context.now.call.now.request.body in
    let t = without_room c.in-Some.table.now in
    on-there (codes "resource_id") (context_view c.args.context.now) (tables_of c.args.tables.now)
    (search_answer_for_table body)
    (located_now c.in_ok-positioned.positioned) t (map_answer change_of c.in_ok-answer-in-Some.answer)
    c.in_ok-positioned.ensures.found (sym c.in-Some.ensures.table)
    (c.in_ok-answer-in-Some.ensures
    ∙ ap (λ (id : List ℕ). search_answer body id t.table.schema.fields t.table.rows) c.in_ok-id-in-Some.ensures)

pub returns-in-None : goal.returns-in-None
returns-in-None c =
    on-none (codes "resource_id") (context_view c.args.context.now) (tables_of c.args.tables.now)
    (search_answer_for_table c.args.context.now.call.now.request.body) (located_now c.in_ok-positioned.positioned)
    c.in_ok-positioned.ensures.found (sym c.in-None.ensures.table)

pub returns-in_err-answer-in-Some : goal.returns-in_err-answer-in-Some
returns-in_err-answer-in-Some c =
    let body = c.args.context.now.call.now.request.body in
    let t = without_room c.in-Some.table.now in
    let same = rw c.in_ok-id-in-Some.ensures at c.in_err-answer-in-Some.ensures in
    let p = err_from_is_err_and c.from_residual-in_err-answer-in-Some.result
    c.from_residual-in_err-answer-in-Some.ensures.1 in
    rw (p.1, p.2)
    (stopped-there (codes "resource_id") (context_view c.args.context.now) (tables_of c.args.tables.now)
    (search_answer_for_table body) (located_now c.in_ok-positioned.positioned) t _
    c.in_ok-positioned.ensures.found (sym c.in-Some.ensures.table) same)

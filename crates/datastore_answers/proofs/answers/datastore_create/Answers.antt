use Rattle.std.proofs.lemmas.Result.{err_from_is_err_and}
use Rattle.packages.specs.LocatedResource.{located_now}
use Rattle.visibility.specs.CallView.{context_view}
use Rattle.datastore_answers.specs.Tables.{tables_of}
use Rattle.datastore_answers.proofs.AnswerLemmas.{create-stopped, create-there}
use Rattle.datastore_answers.proofs.answers.datastore_create.Goals as goal

pub returns-clause-answer : goal.returns-clause-answer
returns-clause-answer c =
    create-there (context_view c.args.context.now) (tables_of c.args.tables.now) (located_now c.in_ok-placed.placed) _
    c.in_ok-placed.ensures.found c.in_ok-answer.ensures.answer

pub returns-in_err-answer-clause-answer : goal.returns-in_err-answer-clause-answer
returns-in_err-answer-clause-answer c =
    let p = err_from_is_err_and c.from_residual-in_err-answer.result c.from_residual-in_err-answer.ensures.1 in
    rw (p.1, p.2)
    (create-stopped (context_view c.args.context.now) (tables_of c.args.tables.now)
    (located_now c.in_ok-placed.placed) _ c.in_ok-placed.ensures.found c.in_err-answer.ensures.answer)

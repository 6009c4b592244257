use Rattle.std.proofs.Common.{ap, sym}
use Rattle.std.specs.Prelude.{codes}
use Rattle.packages.specs.LocatedResource.{located_now}
use Rattle.portal_calls.specs.declared.answer.Answer.TheVariants.{Shown}
use Rattle.visibility.specs.CallView.{context_view}
use Rattle.datastore_answers.specs.Dictionary.{info_dictionary}
use Rattle.datastore_answers.specs.Tables.{without_room, tables_of}
use Rattle.datastore_answers.proofs.AnswerLemmas.{on-none, on-there}
use Rattle.datastore_answers.proofs.answers.datastore_info.Goals as goal

pub returns-in_ok-info_json-in-Some : goal.returns-in_ok-info_json-in-Some
returns-in_ok-info_json-in-Some c =
    on-there (codes "id") (context_view c.args.context.now) (tables_of c.args.tables.now)
    (λ placed beside t. Shown (info_dictionary t)) (located_now c.in_ok-placed.placed) (without_room c.in-Some.table.now)
    (Shown c.in_ok-info_json-in-Some.field-0) c.in_ok-placed.ensures.found (sym c.in-Some.ensures.table)
    (ap Shown c.in_ok-info_json-in-Some.ensures)

pub returns-in-None : goal.returns-in-None
returns-in-None c =
    on-none (codes "id") (context_view c.args.context.now) (tables_of c.args.tables.now)
    (λ placed beside t. Shown (info_dictionary t)) (located_now c.in_ok-placed.placed)
    c.in_ok-placed.ensures.found (sym c.in-None.ensures.table)

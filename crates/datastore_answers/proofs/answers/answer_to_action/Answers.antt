use Rattle.visibility.specs.CallView.{context_view}
use Rattle.datastore_answers.specs.Tables.{tables_of, tables_seen}
use Rattle.datastore_answers.proofs.FitLemmas.{info_only, reading_plans}
use Rattle.datastore_answers.proofs.answers.answer_to_action.Goals as goal

pub returns-in-DatastoreInfo-clause-ready : goal.returns-in-DatastoreInfo-clause-ready
returns-in-DatastoreInfo-clause-ready c =
    reading_plans _ c.datastore_info.result _
    (info_only (λ change. ⊥) (context_view c.args.context.now)
    (tables_seen (context_view c.args.context.now).datasets (tables_of c.args.tables.now)))
    c.datastore_info.ensures

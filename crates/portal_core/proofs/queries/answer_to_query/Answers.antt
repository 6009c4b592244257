use Rattle.visibility.specs.CallView.{context_view}
use Rattle.datastore_answers.specs.Tables.{tables_of, tables_seen}
use Rattle.datastore_answers.proofs.FitLemmas.{reading_plans}
use Rattle.portal_state.proofs.Answering.{search_only}
use Rattle.portal_core.proofs.queries.answer_to_query.Goals as goal

pub returns-in-DatastoreSearch-clause-ready : goal.returns-in-DatastoreSearch-clause-ready
returns-in-DatastoreSearch-clause-ready c =
    reading_plans _ c.datastore_search.result _
    (search_only (λ change. ⊥) (context_view c.args.context.now)
    (tables_seen (context_view c.args.context.now).datasets (tables_of c.args.tables.now)))
    c.datastore_search.ensures

-- Each crate's answer, as one on the portal.
use Rattle.std.proofs.Common.{◌≡◌, ◌∙◌, ℕ, List, ap, subst}
use Rattle.std.specs.Prelude.{IfOk}
use Rattle.visibility.specs.TableSummary.{TableSummary}
use Rattle.visibility.specs.CallView.{context_view}
use Rattle.visibility.specs.View.{people_seen}
use Rattle.dataset_answers.specs.Answers.{answer_to_action}
use Rattle.datastore_answers.specs.TableAnswers.{map_answer}
use Rattle.datastore_answers.specs.Tables.{tables_of}
use Rattle.harvest_answers.specs.Answers as harvest
use Rattle.harvest_answers.specs.View.{sources_seen}
use Rattle.harvest_sources.specs.Sources.{SourceState}
use Rattle.harvest_stages.specs.Stages.{sources_in}
use Rattle.organization_answers.specs.Answers as organization
use Rattle.organization_answers.specs.Owners.{owners_of, owners_seen}
use Rattle.portal_state.specs.Answer.{of_datasets, of_people, of_sources}
use Rattle.portal_state.specs.Planned.{planned_of}
use Rattle.portal_state.specs.Search.{search_outcome}
use Rattle.portal_calls.specs.Answer.{answer_if_found}
use Rattle.portal_calls.specs.declared.answer.Answer.TheVariants.{Shown}
use Rattle.portal_core.proofs.Deciding.{answer_on_same}
use Rattle.portal_state.proofs.SourceKeeping.{owners-there}
use Rattle.portal_state.proofs.TableViewing.{held_there}
use Rattle.portal_core.proofs.decide.answer.Goals as goal

pub returns-in-Organizations-clause-answer : goal.returns-in-Organizations-clause-answer
returns-in-Organizations-clause-answer c =
    let context = c.args.context.now in
    answer_on_same _ _ _ _ _ c.of.ensures c.in-Organizations.is
    (subst (λ (owners : List (List ℕ)). IfOk c.on_people.result (λ answer. map_answer planned_of answer
    ≡ of_people (organization.answer_to_action c.in-Organizations.action (context_view context) owners)))
    (ap (λ (l : List SourceState).
    owners_seen context.viewer.caller (people_seen context.viewer.caller context.viewer.people) (owners_of l))
    c.sources.ensures.sources
    ∙ owners-there context.viewer.caller context.viewer.people (sources_in c.args.sources.now))
    (c.on_people.ensures.answer _ c.answer.ensures))

pub returns-in-Organizations-clause-planned : goal.returns-in-Organizations-clause-planned
returns-in-Organizations-clause-planned c = c.on_people.ensures.planned _

pub returns-in-Datasets-clause-answer : goal.returns-in-Datasets-clause-answer
returns-in-Datasets-clause-answer c =
    answer_on_same _ _ _ _ _ c.of.ensures c.in-Datasets.is
    (subst (λ (summaries : List TableSummary). IfOk c.on_datasets.result (λ answer. map_answer planned_of answer
    ≡ of_datasets (answer_to_action c.in-Datasets.action (context_view c.args.context.now) summaries)))
    (held_there (context_view c.args.context.now).datasets (tables_of c.args.tables.now))
    (c.on_datasets.ensures.answer _ c.answer-in-Datasets.ensures))

pub returns-in-Datasets-clause-planned : goal.returns-in-Datasets-clause-planned
returns-in-Datasets-clause-planned c = c.on_datasets.ensures.planned _

pub returns-in-Search-clause-answer : goal.returns-in-Search-clause-answer
returns-in-Search-clause-answer c =
    let view = context_view c.args.context.now in
    answer_on_same _ _ _ _ _ c.of.ensures c.in-Search.is
    (subst (λ (summaries : List TableSummary). IfOk c.on_search.result (λ answer. map_answer planned_of answer
    ≡ answer_if_found (search_outcome view.call.request.body view.people view.datasets summaries) Shown))
    (held_there view.datasets (tables_of c.args.tables.now))
    (c.on_search.ensures.answer _ c.answer_to_search.ensures))

pub returns-in-Search-clause-planned : goal.returns-in-Search-clause-planned
returns-in-Search-clause-planned c = c.on_search.ensures.planned _

pub returns-in-Tables-clause-answer : goal.returns-in-Tables-clause-answer
returns-in-Tables-clause-answer c =
    answer_on_same _ _ _ _ _ c.of.ensures c.in-Tables.is
    (c.on_tables.ensures.answer _ c.answer-in-Tables.ensures.answer)

pub returns-in-Tables-clause-planned : goal.returns-in-Tables-clause-planned
returns-in-Tables-clause-planned c = c.on_tables.ensures.planned _ c.answer-in-Tables.ensures.ready

pub returns-in-Queries-clause-answer : goal.returns-in-Queries-clause-answer
returns-in-Queries-clause-answer c =
    answer_on_same _ _ _ _ _ c.of.ensures c.in-Queries.is
    (c.on_tables-in-Queries.ensures.answer _ c.answer-in-Queries.ensures.answer)

pub returns-in-Queries-clause-planned : goal.returns-in-Queries-clause-planned
returns-in-Queries-clause-planned c = c.on_tables-in-Queries.ensures.planned _ c.answer-in-Queries.ensures.ready

pub returns-in-Harvests-clause-answer : goal.returns-in-Harvests-clause-answer
returns-in-Harvests-clause-answer c =
    let context = c.args.context.now in
    answer_on_same _ _ _ _ _ c.of.ensures c.in-Harvests.is
    (subst (λ (l : List SourceState). IfOk c.on_sources.result (λ answer. map_answer planned_of answer
    ≡ of_sources (harvest.answer_to_action c.in-Harvests.action (context_view context)
    (sources_seen context.viewer.caller context.viewer.people l))))
    c.sources-in-Harvests.ensures.sources
    (c.on_sources.ensures.answer _ c.answer-in-Harvests.ensures))

pub returns-in-Harvests-clause-planned : goal.returns-in-Harvests-clause-planned
returns-in-Harvests-clause-planned c = c.on_sources.ensures.planned _

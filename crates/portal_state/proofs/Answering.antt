-- What the answer to a call accepts is fit to be made where its caller sees things.
use Rattle.std.proofs.Common.{◌≡◌, ℕ, List, Option, Some, None, Result, Ok, Err, sym, subst}
use Rattle.std.specs.Prelude.{codes}
use Rattle.portal_base.specs.Kinds.{dictionary_at, message_of}
use Rattle.portal_base.specs.declared.json_value.Json.{Json}
use Rattle.portal_base.specs.declared.kinds.KindFault.{KindFault}
use Rattle.table_schema.specs.Field.{FieldValue}
use Rattle.datastore_table.specs.declared.row.Row.{Row}
use Rattle.datastore_query.specs.Query.{QueryValue, query_reading}
use Rattle.dataset_answers.proofs.Fitting as dataset
use Rattle.datastore_answers.proofs.FitLemmas as table
use Rattle.datastore_answers.proofs.FitLemmas.{delete_rows_fit, on-such}
use Rattle.harvest_answers.proofs.Fitting as harvest
use Rattle.harvest_answers.specs.Fit.{IsFitSource}
use Rattle.harvest_sources.specs.Sources.{SourceState}
use Rattle.harvest_sources.specs.declared.change.SourceChange.{SourceChange}
use Rattle.organization_answers.proofs.Fitting as organization
use Rattle.datastore_answers.specs.TableAnswers.{TableAcceptsOnly}
use Rattle.datastore_answers.specs.Answers.{id_of}
use Rattle.datastore_answers.specs.Changed.{TableChange}
use Rattle.datastore_answers.specs.Fit.{IsFitTable}
use Rattle.datastore_answers.specs.Summaries.{summaries_of}
use Rattle.datastore_answers.specs.declared.answer.TableAnswer.{TableAnswer}
use Rattle.datastore_answers.specs.declared.answer.TableAnswer.TheVariants.{NoTable, Answered}
use Rattle.datastore_answers.specs.declared.resource_table.ResourceTable.{ResourceTable}
use Rattle.org_roles.specs.declared.change.OrgChange.{OrgChange}
use Rattle.dataset_answers.specs.Fit.{IsFitDataset}
use Rattle.dataset_answers.specs.declared.change.DatasetChange.{DatasetChange}
use Rattle.organization_answers.specs.Fit.{IsFitOrg}
use Rattle.organization_answers.specs.Owners.{owners_of}
use Rattle.portal_calls.specs.Answer.{AcceptsOnly, answer_if_found}
use Rattle.portal_calls.specs.Topic.{topic_of}
use Rattle.portal_calls.specs.declared.topic.QueryAction.{QueryAction}
use Rattle.portal_calls.specs.declared.topic.QueryAction.TheVariants.{DatastoreDelete, DatastoreSearch}
use Rattle.portal_calls.specs.declared.topic.Topic.{Topic}
use Rattle.portal_calls.specs.declared.topic.Topic.TheVariants as topic
use Rattle.portal_calls.specs.declared.answer.Answer.{Answer}
use Rattle.portal_calls.specs.declared.answer.Answer.TheVariants.{Shown, Refused, Accepted}
use Rattle.portal_calls.specs.declared.call.Call.{Call}
use Rattle.visibility.specs.CallView.{CallView}
use Rattle.portal_state.specs.Answer.{call_view_of, planned_answer, answer_on, of_people, of_datasets, of_sources}
use Rattle.portal_state.specs.Answer.{of_tables}
use Rattle.portal_state.specs.Planned.{PlannedChange}
use Rattle.portal_state.specs.Fit.{IsFit, IsFitAmong}
use Rattle.portal_state.specs.Queries.{answer_to_datastore_delete, answer_to_datastore_search, answer_to_query}
use Rattle.portal_state.specs.Queries.{delete_answer, find_rows_of_resource, page_answer, query_for}
use Rattle.portal_state.specs.Queries.{search_answer_for_table}
use Rattle.portal_state.specs.Search.{search_outcome}
use Rattle.portal_state.specs.SearchBody.{search_in, search_errors}
use Rattle.portal_calls.specs.declared.answer.Denial.{Denial}
use Rattle.portal_state.specs.State.{State}
use Rattle.portal_state.specs.declared.search_body.Search.{Search}

people-fit : (view : CallView) (tables : List ResourceTable) (sources : List SourceState) (answer : Answer OrgChange)
    → AcceptsOnly (IsFitOrg view (owners_of sources)) answer
    → AcceptsOnly (IsFitAmong view tables sources) (of_people answer)
people-fit view tables sources (Shown json) fit = tt
people-fit view tables sources (Refused denial) fit = tt
people-fit view tables sources (Accepted json change) fit = fit

datasets-fit : (view : CallView) (tables : List ResourceTable) (sources : List SourceState)
    (answer : Answer DatasetChange) → AcceptsOnly (IsFitDataset view (summaries_of tables)) answer
    → AcceptsOnly (IsFitAmong view tables sources) (of_datasets answer)
datasets-fit view tables sources (Shown json) fit = tt
datasets-fit view tables sources (Refused denial) fit = tt
datasets-fit view tables sources (Accepted json change) fit = fit

tables-fit : (view : CallView) (tables : List ResourceTable) (sources : List SourceState)
    (answer : TableAnswer TableChange) → TableAcceptsOnly (IsFitTable view tables) answer
    → AcceptsOnly (IsFitAmong view tables sources) (of_tables answer)
tables-fit view tables sources NoTable fit = tt
tables-fit view tables sources (Answered (Shown json)) fit = tt
tables-fit view tables sources (Answered (Refused denial)) fit = tt
tables-fit view tables sources (Answered (Accepted json change)) fit = fit

sources-fit : (view : CallView) (tables : List ResourceTable) (sources : List SourceState) (answer : Answer SourceChange)
    → AcceptsOnly (IsFitSource view sources) answer → AcceptsOnly (IsFitAmong view tables sources) (of_sources answer)
sources-fit view tables sources (Shown json) fit = tt
sources-fit view tables sources (Refused denial) fit = tt
sources-fit view tables sources (Accepted json change) fit = fit

-- ---- queries

page-only : (P : TableChange → Type 0) (fields : List FieldValue) (rows : List Row) (id : List ℕ) (search : Search)
    (read : Result QueryValue Denial) → AcceptsOnly P (page_answer fields rows id search read)
page-only P fields rows id search (Ok query) = tt
page-only P fields rows id search (Err denial) = tt

pub search_only : (P : TableChange → Type 0) (view : CallView) (tables : List ResourceTable)
    → TableAcceptsOnly P (answer_to_datastore_search view tables)
search_only P view tables =
    on-such P (codes "resource_id") view tables (search_answer_for_table view.call.request.body)
    (λ placed t named there. let body = view.call.request.body in
    page-only P t.table.schema.fields t.table.rows (id_of placed) (search_in body)
    (query_for (query_reading t.table.schema.fields (search_in body).parts) (search_errors body)))

delete-fit : (view : CallView) (tables : List ResourceTable)
    → TableAcceptsOnly (IsFitTable view tables) (answer_to_datastore_delete view tables)
delete-fit view tables = by (dictionary_at (codes "filters") view.call.request.body)
  where
    by : (read : Result (Option (List (List ℕ × Json))) KindFault)
        → TableAcceptsOnly (IsFitTable view tables) (delete_answer view tables read)
    by (Ok None) = table.delete_fit view tables
    by (Ok (Some filters)) = delete_rows_fit view tables (find_rows_of_resource view tables filters)
    by (Err fault) = delete_rows_fit view tables (Err (message_of fault))

query-fit : (action : QueryAction) (view : CallView) (tables : List ResourceTable)
    → TableAcceptsOnly (IsFitTable view tables) (answer_to_query action view tables)
query-fit DatastoreSearch view tables = search_only (IsFitTable view tables) view tables
query-fit DatastoreDelete view tables = delete-fit view tables

-- ---- searches of datasets

-- An answer that shows what was found accepts nothing.
pub found_only : (P : PlannedChange → Type 0) (found : Result Json Denial) → AcceptsOnly P (answer_if_found found Shown)
found_only P (Ok json) = tt
found_only P (Err denial) = tt

-- ---- every action

by_topic : (topic : Topic) (view : CallView) (tables : List ResourceTable) (sources : List SourceState)
    → AcceptsOnly (IsFitAmong view tables sources) (answer_on topic view tables sources)
by_topic (topic.Organizations action) view tables sources =
    people-fit view tables sources _ (organization.action_fit action view (owners_of sources))
by_topic (topic.Datasets action) view tables sources =
    datasets-fit view tables sources _ (dataset.action_fit action view (summaries_of tables))
by_topic topic.Search view tables sources =
    found_only (IsFitAmong view tables sources)
    (search_outcome view.call.request.body view.people view.datasets (summaries_of tables))
by_topic (topic.Tables action) view tables sources =
    tables-fit view tables sources _ (table.action_fit action view tables)
by_topic (topic.Queries action) view tables sources = tables-fit view tables sources _ (query-fit action view tables)
by_topic (topic.Harvests action) view tables sources =
    sources-fit view tables sources _ (harvest.action_fit action view sources)

pub answer_fit : (call : Call) (view : State) → AcceptsOnly (IsFit call view) (planned_answer call view)
answer_fit call view =
    by_topic (topic_of call.request.action) (call_view_of call view) view.tables view.sources

-- so is a change that is accepted
pub accepted_fit : (call : Call) (view : State) (json : Json) (change : PlannedChange)
    → Accepted json change ≡ planned_answer call view → IsFit call view change
accepted_fit call view json change is =
    subst (λ (a : Answer PlannedChange). AcceptsOnly (IsFit call view) a) (sym is) (answer_fit call view)

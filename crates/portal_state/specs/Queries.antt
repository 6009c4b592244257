-- The answers to calls whose bodies hold a query of a table: functions of the call and of its caller's view (CKAN
-- 2.10's DataStore; rules and messages are the portal's own).
use Rattle.std.specs.Prelude.{ℕ, false, List, [], ◌∷◌, codes, length, map, Option, Some, None, Result, Ok, Err}
use Rattle.portal_base.specs.KeyErrors.{KeyError, with_errors}
use Rattle.portal_base.specs.Kinds.{dictionary_at, message_of}
use Rattle.portal_base.specs.declared.json_value.Json.{Json}
use Rattle.portal_base.specs.declared.json_value.Json as json
use Rattle.portal_base.specs.declared.kinds.KindFault.{KindFault}
use Rattle.packages.specs.Named.{Located}
use Rattle.portal_calls.specs.Answer.{denial_of}
use Rattle.portal_calls.specs.declared.answer.Answer.{Answer}
use Rattle.portal_calls.specs.declared.answer.Answer.TheVariants.{Shown, Refused}
use Rattle.portal_calls.specs.declared.answer.Denial.{Denial}
use Rattle.portal_calls.specs.declared.answer.Denial.TheVariants.{Validation}
use Rattle.portal_calls.specs.declared.topic.QueryAction.{QueryAction}
use Rattle.portal_calls.specs.declared.topic.QueryAction.TheVariants.{DatastoreDelete, DatastoreSearch}
use Rattle.table_schema.specs.Field.{FieldValue}
use Rattle.datastore_table.specs.declared.row.Row.{Row}
use Rattle.datastore_query.specs.Column.{column_name}
use Rattle.datastore_query.specs.Query.{QueryValue, filtered_ids, listing, page_rows, query_reading}
use Rattle.datastore_query.specs.declared.page.Page.{Page}
use Rattle.datastore_query.specs.declared.parts.Parts.{Parts}
use Rattle.visibility.specs.CallView.{CallView}
use Rattle.datastore_answers.specs.TableAnswers.{answer_for_resource, tables_beside}
use Rattle.visibility.specs.Lookup.{resource_at}
use Rattle.datastore_answers.specs.Answers.{answer_to_datastore_delete_rows, id_of}
use Rattle.datastore_answers.specs.Answers as table
use Rattle.datastore_answers.specs.Changed.{TableChange}
use Rattle.datastore_answers.specs.Tables.{table_at}
use Rattle.datastore_answers.specs.Errors.{OrError}
use Rattle.datastore_answers.specs.declared.answer.TableAnswer.{TableAnswer}
use Rattle.datastore_answers.specs.declared.resource_table.ResourceTable.{ResourceTable}
use Rattle.portal_state.specs.Page.{page_dictionary}
use Rattle.portal_state.specs.SearchBody.{search_in, search_errors}
use Rattle.portal_state.specs.declared.search_body.Search.{Search}

-- ---- datastore_search

-- the page of a query
abbrev pub page_of : List FieldValue → List Row → QueryValue → Page
page_of fields rows query = record {
  columns = map (column_name fields) query.columns;
  rows = page_rows query rows;
  total = length (listing query rows);
}

-- A query that was read, unless there is a refusal.
abbrev pub query_unless : Option Denial → QueryValue → Result QueryValue Denial
query_unless None query = Ok query
query_unless (Some denial) query = Err denial

-- The query, where it can be read and there are no errors, else the refusal with all errors. For a key of another kind
-- the error of its kind comes before those of its other rules.
abbrev pub query_for : Result QueryValue (List KeyError) → List KeyError → Result QueryValue Denial
query_for (Ok query) faults = query_unless (denial_of faults) query
query_for (Err told) faults = Err (Validation (with_errors told faults))

-- the page of a query, where there is one
abbrev pub page_answer : List FieldValue → List Row → List ℕ → Search → Result QueryValue Denial → Answer TableChange
page_answer fields rows id search (Ok query) = Shown (page_dictionary fields id search (page_of fields rows query))
page_answer fields rows id search (Err denial) = Refused denial

-- the page that a body asks for, of a table with these fields and rows, of the resource of that id
abbrev pub search_answer : Json → List ℕ → List FieldValue → List Row → Answer TableChange
search_answer body id fields rows =
    page_answer fields rows id (search_in body)
    (query_for (query_reading fields (search_in body).parts) (search_errors body))

abbrev pub search_answer_for_table : Json → Located → List ResourceTable → ResourceTable → Answer TableChange
search_answer_for_table body positioned beside t = search_answer body (id_of positioned) t.table.schema.fields
    t.table.rows

abbrev pub answer_to_datastore_search : CallView → List ResourceTable → TableAnswer TableChange
answer_to_datastore_search view tables =
    answer_for_resource (codes "resource_id") view tables (search_answer_for_table view.call.request.body)

-- ---- datastore_delete

-- the parts of a query that only has filters
abbrev pub filters_alone : List (List ℕ × Json) → Parts
filters_alone filters = record {
  filters = json.Map filters;
  q = [];
  distinct = false;
  fields = None;
  sort = [];
  limit = 0;
  offset = 0;
}

-- the message of the first of the faults
abbrev pub first_message : List KeyError → List ℕ
first_message [] = []
first_message (fault ∷ faults) = fault.1

abbrev pub rows_of_query : Result QueryValue (List KeyError) → List Row → OrError (List ℕ)
rows_of_query (Ok query) rows = Ok (filtered_ids query rows)
rows_of_query (Err told) rows = Err (first_message told)

-- the ids of the rows that pass these filters, of a table with these fields and rows, or the error of the filters
abbrev pub find_rows : List (List ℕ × Json) → List FieldValue → List Row → OrError (List ℕ)
find_rows filters fields rows = rows_of_query (query_reading fields (filters_alone filters)) rows

abbrev pub rows_in_table : List (List ℕ × Json) → Option ResourceTable → OrError (List ℕ)
rows_in_table filters None = Ok []
rows_in_table filters (Some t) = find_rows filters t.table.schema.fields t.table.rows

-- The same for the table of the resource that the body names. There is no row where there is no such table.
abbrev pub rows_at_resource : {D : Type 0} → List (List ℕ × Json) → List ResourceTable → Result Located D → OrError (List ℕ)
rows_at_resource filters tables (Ok positioned) =
    rows_in_table filters (table_at positioned.resource.number (tables_beside positioned tables))
rows_at_resource filters tables (Err denial) = Ok []

abbrev pub find_rows_of_resource : CallView → List ResourceTable → List (List ℕ × Json) → OrError (List ℕ)
find_rows_of_resource view tables filters = rows_at_resource filters tables (resource_at (codes "resource_id") view)

abbrev pub delete_answer : CallView → List ResourceTable → Result (Option (List (List ℕ × Json))) KindFault
    → TableAnswer TableChange
delete_answer view tables (Ok None) = table.answer_to_datastore_delete view tables
delete_answer view tables (Ok (Some filters)) =
    answer_to_datastore_delete_rows view tables (find_rows_of_resource view tables filters)
delete_answer view tables (Err fault) = answer_to_datastore_delete_rows view tables (Err (message_of fault))

-- Without filters it drops the table, with filters the rows that pass them.
abbrev pub answer_to_datastore_delete : CallView → List ResourceTable → TableAnswer TableChange
answer_to_datastore_delete view tables =
    delete_answer view tables (dictionary_at (codes "filters") view.call.request.body)

-- ---- both actions

abbrev pub answer_to_query : QueryAction → CallView → List ResourceTable → TableAnswer TableChange
answer_to_query DatastoreSearch view tables = answer_to_datastore_search view tables
answer_to_query DatastoreDelete view tables = answer_to_datastore_delete view tables

-- The answers to calls on the tables of resources: functions of the call and of its caller's view. Names, rights and
-- results are those of CKAN 2.10's DataStore; rules and messages are the portal's own.
use Rattle.std.specs.Prelude.{ℕ, List, [], codes, Option, Some, None, Result, Ok, Err, length}
use Rattle.portal_base.specs.KeyErrors.{KeyError, error_if}
use Rattle.portal_base.specs.declared.json_value.Json.{Json}
use Rattle.packages.specs.Named.{Located, resource_address}
use Rattle.portal_calls.specs.Answer.{answer_if_authorized, quota_error, answer_if_valid}
use Rattle.portal_calls.specs.declared.answer.Answer.{Answer}
use Rattle.portal_calls.specs.declared.answer.Answer.TheVariants.{Shown, Refused, Accepted}
use Rattle.portal_calls.specs.declared.answer.Denial.TheVariants.{Validation}
use Rattle.portal_calls.specs.declared.answer.Quota.{Quota}
use Rattle.portal_calls.specs.declared.answer.Right.TheVariants.{EditDataset}
use Rattle.portal_calls.specs.declared.topic.TableAction.{TableAction}
use Rattle.portal_calls.specs.declared.topic.TableAction.TheVariants.{DatastoreCreate, DatastoreInfo, DatastoreUpsert}
use Rattle.visibility.specs.CallView.{CallView}
use Rattle.visibility.specs.Visibility.{may_edit_in}
use Rattle.datastore_table.specs.declared.method.Method.{Method}
use Rattle.datastore_table.specs.declared.method.Method.TheVariants as method
use Rattle.datastore_answers.specs.TableAnswers.{address_of, answer_for_resource, or_refused}
use Rattle.visibility.specs.Lookup.{resource_at}
use Rattle.datastore_answers.specs.TableAnswers.{tables_beside}
use Rattle.datastore_answers.specs.Changed.{TableChange, put_into}
use Rattle.datastore_answers.specs.Changed as change
use Rattle.datastore_answers.specs.Described.{described_table}
use Rattle.datastore_answers.specs.Dictionary.{create_dictionary, delete_rows_dictionary, delete_dictionary}
use Rattle.datastore_answers.specs.Dictionary.{info_dictionary}
use Rattle.datastore_answers.specs.Dictionary.{upsert_dictionary}
use Rattle.datastore_answers.specs.Tables.{table_at}
use Rattle.datastore_answers.specs.Errors.{OrError, read_method, read_records, error_of, delete_rows_errors, put_errors}
use Rattle.datastore_answers.specs.Errors.{remove_errors}
use Rattle.datastore_answers.specs.declared.answer.TableAnswer.{TableAnswer}
use Rattle.datastore_answers.specs.declared.answer.TableAnswer.TheVariants.{Answered}
use Rattle.datastore_answers.specs.declared.resource_table.ResourceTable.{ResourceTable}

-- the answer if the caller may edit the resource's dataset, and else a refusal
abbrev pub authorize_edit : CallView → Located → Answer TableChange → Answer TableChange
authorize_edit view placed answer =
    answer_if_authorized (may_edit_in view.people view.caller placed.dataset) EditDataset answer

-- the value, or this one in place of an error
abbrev pub value_or : {A : Type 0} → A → OrError A → A
value_or d (Ok x) = x
value_or d (Err message) = d

-- the refusal for these errors, with the error of the quota if it is used up
abbrev pub validation_refusal : {C : Type 0} → Quota → List KeyError → Answer C
validation_refusal quota errors = Refused (Validation (error_if (codes "body") (quota_error quota) errors))

-- the resource's id
abbrev pub id_of : Located → List ℕ
id_of placed = resource_address placed.dataset.id placed.resource.number

-- ---- readings

abbrev pub answer_to_datastore_info : CallView → List ResourceTable → TableAnswer TableChange
answer_to_datastore_info view tables =
    answer_for_resource (codes "id") view tables (λ placed beside t. Shown (info_dictionary t))

-- ---- tables that are created

-- a new table is created, with the records in it
abbrev pub accepted_create : Located → List Json → ResourceTable → Answer TableChange
accepted_create placed records t =
    Accepted (create_dictionary (id_of placed) t.table.schema) (change.Create (put_into method.Insert records t))

-- the records are put into the existing table
abbrev pub accepted_fill : Located → List Json → ResourceTable → Answer TableChange
accepted_fill placed records t =
    Accepted (create_dictionary (id_of placed) t.table.schema)
    (change.Put (address_of placed) method.Insert records)

-- the accepted change for a table that the body describes, whether it is new or exists
abbrev pub accepted_create_or_fill : Located → Option ResourceTable → List Json → ResourceTable → Answer TableChange
accepted_create_or_fill placed None records t = accepted_create placed records t
accepted_create_or_fill placed (Some there) records t = accepted_fill placed records t

-- If the body describes a table, the records are put into it; otherwise the body's errors are the answer.
abbrev pub create_answer_for : Quota → List ResourceTable → (List Json → ResourceTable → Answer TableChange)
    → Result ResourceTable (List KeyError) → OrError (List Json) → Answer TableChange
create_answer_for quota beside make (Ok t) records =
    answer_if_valid quota (put_errors beside t (Ok method.Insert) records) (make (value_or [] records) t)
create_answer_for quota beside make (Err errors) records = validation_refusal quota
    (error_if (codes "records") (error_of records) errors)

-- the answer to a caller that may edit the resource's dataset, given the table that the resource has, if it has one
abbrev pub authorized_create_answer : Quota → Located → List ResourceTable → Json → OrError (List Json)
    → Option ResourceTable
    → Answer TableChange
authorized_create_answer quota placed beside body records there =
    create_answer_for quota beside (accepted_create_or_fill placed there) (described_table placed beside body there)
    records

abbrev pub create_answer : CallView → Located → List ResourceTable → Option ResourceTable → Answer TableChange
create_answer view placed beside there =
    authorize_edit view placed
    (authorized_create_answer view.quota placed beside view.call.request.body (read_records view.call.request.body)
    there)

abbrev pub create_table_answer : CallView → Located → List ResourceTable → TableAnswer TableChange
create_table_answer view placed beside = Answered
    (create_answer view placed beside (table_at placed.resource.number beside))

-- A resource needs no table here.
abbrev pub answer_to_datastore_create : CallView → List ResourceTable → TableAnswer TableChange
answer_to_datastore_create view tables =
    or_refused (resource_at (codes "resource_id") view)
    (λ placed. create_table_answer view placed (tables_beside placed tables))

-- ---- rows that are put

-- the records are put into the table
abbrev pub accepted_put : Located → Method → List Json → Answer TableChange
accepted_put placed how records =
    Accepted (upsert_dictionary (id_of placed) how records) (change.Put (address_of placed) how records)

-- the answer, given the method and the records, or their errors
abbrev pub upsert_answer_for : CallView → Located → List ResourceTable → ResourceTable → OrError Method
    → OrError (List Json)
    → Answer TableChange
upsert_answer_for view placed beside t how records =
    authorize_edit view placed
    (answer_if_valid view.quota (put_errors beside t how records)
    (accepted_put placed (value_or method.Upsert how) (value_or [] records)))

abbrev pub upsert_answer : CallView → Located → List ResourceTable → ResourceTable → Answer TableChange
upsert_answer view placed beside t =
    upsert_answer_for view placed beside t (read_method t.table.schema.key view.call.request.body)
    (read_records view.call.request.body)

abbrev pub answer_to_datastore_upsert : CallView → List ResourceTable → TableAnswer TableChange
answer_to_datastore_upsert view tables = answer_for_resource (codes "resource_id") view tables (upsert_answer view)

-- ---- tables that are deleted

-- the resource's table is deleted
abbrev pub accepted_remove : Located → Answer TableChange
accepted_remove placed = Accepted (delete_dictionary (id_of placed)) (change.Remove (address_of placed))

abbrev pub delete_answer : CallView → Located → List ResourceTable → ResourceTable → Answer TableChange
delete_answer view placed beside t =
    authorize_edit view placed (answer_if_valid view.quota (remove_errors beside placed.resource.number) (accepted_remove placed))

-- without filters, the table is deleted
abbrev pub answer_to_datastore_delete : CallView → List ResourceTable → TableAnswer TableChange
answer_to_datastore_delete view tables = answer_for_resource (codes "resource_id") view tables (delete_answer view)

-- ---- rows that are deleted

-- the rows with these `_id`s are deleted
abbrev pub accepted_delete_rows : Located → List ℕ → Answer TableChange
accepted_delete_rows placed ids = Accepted (delete_rows_dictionary (length ids) (id_of placed))
    (change.DeleteRows (address_of placed) ids)

abbrev pub delete_rows_answer : CallView → OrError (List ℕ) → Located → List ResourceTable → ResourceTable
    → Answer TableChange
delete_rows_answer view found placed beside t =
    authorize_edit view placed
    (answer_if_valid view.quota (delete_rows_errors beside placed.resource.number t found)
    (accepted_delete_rows placed (value_or [] found)))

-- With filters, the rows that they select are deleted; if the filters have an error, it is the answer.
abbrev pub answer_to_datastore_delete_rows : CallView → List ResourceTable → OrError (List ℕ) → TableAnswer TableChange
answer_to_datastore_delete_rows view tables found =
    answer_for_resource (codes "resource_id") view tables (delete_rows_answer view found)

-- ---- every action

abbrev pub answer_to_action : TableAction → CallView → List ResourceTable → TableAnswer TableChange
answer_to_action DatastoreCreate view tables = answer_to_datastore_create view tables
answer_to_action DatastoreUpsert view tables = answer_to_datastore_upsert view tables
answer_to_action DatastoreInfo view tables = answer_to_datastore_info view tables

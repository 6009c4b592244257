-- Accepted changes of the tables of resources: what they change, and when they are ready to be made.
use Rattle.std.specs.Prelude.{◌≡◌, ℕ, List, IsTrue, Some, Result, Ok, ⊤}
use Rattle.portal_base.specs.declared.json_value.Json.{Json}
use Rattle.portal_base.specs.Ordered.{IsAscending, found}
use Rattle.datastore_table.specs.Batch.{BatchValue, IsReady, RemovalValue, delete_checked, removed_keys, worked_on}
use Rattle.datastore_table.specs.Put.{put_records}
use Rattle.datastore_table.specs.Rows.{row_cmp}
use Rattle.datastore_table.specs.declared.method.Method.{Method}
use Rattle.portal_calls.specs.Stop.{Gives}
use Rattle.portal_calls.specs.declared.answer.Answer.{Answer}
use Rattle.portal_calls.specs.declared.answer.Answer.TheVariants.{Refused}
use Rattle.portal_calls.specs.declared.stop.Stop.{Stop}
use Rattle.datastore_answers.specs.Changed.{TableChange}
use Rattle.datastore_answers.specs.Changed as change
use Rattle.datastore_answers.specs.Order.{at_address}
use Rattle.datastore_answers.specs.TableAnswers.{map_answer, map_table_answer}
use Rattle.datastore_answers.specs.Tables.{Stored, without_room}
use Rattle.datastore_answers.specs.declared.address.Address.{Address}
use Rattle.datastore_answers.specs.declared.answer.TableAnswer.{TableAnswer}
use Rattle.datastore_answers.specs.declared.answer.TableAnswer.TheVariants.{Answered}
use Rattle.datastore_answers.specs.declared.plan.TablePlan.{TablePlan}
use Rattle.datastore_answers.specs.declared.plan.TablePlan.TheVariants as plan
use Rattle.datastore_answers.specs.declared.resource_table.ResourceTable.{ResourceTable}

-- the planned change
abbrev pub change_of : TablePlan → TableChange
change_of (plan.Create t) = change.Create (without_room t)
change_of (plan.Remove address) = change.Remove address
change_of (plan.Put address method records batch) = change.Put address method records.value
change_of (plan.DeleteRows address removal) = change.DeleteRows address removal.ids

-- The batch is the result of the records on the table at the address, and the table has memory ready for it.
pub record IsPutReady (address : Address) (method : Method) (records : List Json) (batch : BatchValue)
    (tables : List ResourceTable) : Type 0 where
  pub table : ResourceTable
  pub exists : found (at_address address) tables ≡ Some table
  pub ready : IsReady batch table.table
  pub made : put_records method records table.table ≡ Ok (worked_on table.table.rows batch.work)

-- A batch that was prepared on the table at the address, without a check of references to other tables. It has the
-- table's schema, and its rows ascend.
pub record IsBatchAt (address : Address) (method : Method) (records : List Json) (batch : BatchValue)
    (tables : List ResourceTable) : Type 0 where
  pub put : IsPutReady address method records batch tables
  pub schema : batch.schema ≡ put.table.table.schema
  pub changed : IsAscending row_cmp batch.work.changed
  pub rows : IsAscending row_cmp put.table.table.rows

-- The rows can be deleted from the table at the address, as far as its references to itself say.
pub record IsRemovalReady (address : Address) (ids : List ℕ) (tables : List ResourceTable) : Type 0 where
  pub table : ResourceTable
  pub exists : found (at_address address) tables ≡ Some table
  pub keeps_references : delete_checked ids table.table ≡ Ok tt

-- A removal that was prepared on the table at the address, without a check of references from other tables.
pub record IsRemovalAt (address : Address) (ids : List ℕ) (removal : RemovalValue) (tables : List ResourceTable)
    : Type 0 where
  pub delete_rows : IsRemovalReady address ids tables
  pub rows : removal.ids ≡ ids
  pub keys : removal.keys ≡ removed_keys delete_rows.table.table.schema.key ids delete_rows.table.table.rows

-- The plan can be made, except that room for one more table isn't asked for.
abbrev pub IsPlanned : TablePlan → Stored → Type 0
IsPlanned (plan.Create t) stored = ⊤
IsPlanned (plan.Remove address) stored = ⊤
IsPlanned (plan.Put address method records batch) stored =
    IsPutReady address method records.value batch stored.tables
IsPlanned (plan.DeleteRows address removal) stored = IsRemovalReady address removal.ids stored.tables

-- The plan can be made without allocation.
pub record IsReadyPlan (p : TablePlan) (stored : Stored) : Type 0 where
  pub planned : IsPlanned p stored
  pub room : IsTrue stored.room

-- ---- answers with planned changes

-- The result is this answer, with each plan seen as its change.
abbrev pub PlansAnswer : Result (Answer TablePlan) Stop → Answer TableChange → Type 0
PlansAnswer result answer = Gives result (map_answer change_of) Refused answer

-- The same on a table. A refusal is an answer, whether or not the resource has a table.
abbrev pub PlansTableAnswer : Result (TableAnswer TablePlan) Stop → TableAnswer TableChange → Type 0
PlansTableAnswer result answer =
    Gives result (map_table_answer change_of) (λ denial. Answered (Refused denial)) answer

-- The calls of a load, and what a load did, by its end.
use Rattle.std.specs.Prelude.{◌≡◌, ◌⊎◌, ◌≤◌, ℕ, List, [], ◌∷◌, ◌++◌, length, map, codes, Option, Some, None, Result}
use Rattle.std.specs.Prelude.{Ok, Err}
use Rattle.portal_base.specs.Json.{json_reading}
use Rattle.portal_base.specs.declared.caller.Caller.{Caller}
use Rattle.portal_base.specs.declared.json_value.Json.{Json}
use Rattle.portal_base.specs.declared.json_value.Json as json
use Rattle.portal_base.specs.declared.json_value.JsonFault.{JsonFault}
use Rattle.portal_state.specs.State.{State}
use Rattle.portal_serve.specs.Calls.{MakesAllCalls, MakesCallsToRefusal, StopsCalls}
use Rattle.portal_serve.specs.Run.{DeviceTrace, Passed, input_limit}
use Rattle.portal_serve.specs.Script.{ScriptCall}
use Rattle.table_schema.specs.Field.{SchemaValue}
use Rattle.table_schema.specs.Keys.{bytes_reading, schema_reading}
use Rattle.table_schema.specs.Messages.{schema_fault_text}
use Rattle.table_schema.specs.declared.fault.SchemaFault.{SchemaFault}
use Rattle.row_inserts.specs.Inserts.{Pieces, insert_body, inserts_of}
use Rattle.typed_csv.specs.Messages.{load_fault_text}
use Rattle.typed_csv.specs.Rows.{Rows, rows_of}
use Rattle.typed_csv.specs.declared.fault.LoadFault.{LoadFault}
use Rattle.portal_status.specs.declared.status.Status.{Status}
use Rattle.portal_status.specs.declared.status.Status.TheVariants.{DataFault, OutOfMemory}
use Rattle.portal_load.specs.Stop.{status_for_load}
use Rattle.portal_load.specs.declared.stop.LoadStop.{LoadStop}
use Rattle.portal_load.specs.declared.stop.LoadStop.TheVariants as stop

-- ---- the script

abbrev pub call_of : Caller → List ℕ → Json → ScriptCall
call_of caller action body = record { caller = caller; action = action; body = body }

-- the call that makes the table, by the schema's JSON value
abbrev pub create_body : List ℕ → Json → Json
create_body resource schema = json.Map ((codes "resource_id", json.Text resource) ∷ (codes "schema", schema) ∷ [])

abbrev pub create_call : Caller → List ℕ → Json → ScriptCall
create_call caller resource schema = call_of caller (codes "datastore_create") (create_body resource schema)

-- the call that inserts a piece of records
abbrev pub insert_call : Caller → List ℕ → List Json → ScriptCall
insert_call caller resource records = call_of caller (codes "datastore_upsert") (insert_body resource records)

-- the pieces of a CSV, or none if its header has a fault
abbrev pub pieces_in : Result Pieces LoadFault → List (List Json)
pieces_in (Ok pieces) = pieces.pieces
pieces_in (Err why) = []

-- the calls by a schema's JSON value and the schema that it is read as
abbrev pub script_under : Caller → Json → List ℕ → List ℕ → Result SchemaValue SchemaFault → List ScriptCall
script_under caller json csv resource (Ok schema) =
    create_call caller resource json
    ∷ map (insert_call caller resource) (pieces_in (inserts_of resource schema.fields csv))
script_under caller json csv resource (Err why) = []

abbrev pub script_by : Caller → List ℕ → List ℕ → Result Json JsonFault → List ScriptCall
script_by caller csv resource (Ok json) = script_under caller json csv resource (schema_reading json)
script_by caller csv resource (Err why) = []

-- The calls of a caller that load a CSV by a schema (Table Schema v1) into a table of the resource with this name or
-- id: the call that makes the table, and the inserts of the rows. If a row is faulty, the inserts end before the one
-- with this row. If the header is faulty, there are no inserts. If the schema has a fault, there are no calls.
abbrev pub load_script_of : Caller → List ℕ → List ℕ → List ℕ → List ScriptCall
load_script_of caller schema csv resource = script_by caller csv resource (json_reading schema)

-- ---- faults of the CSV

-- the fault of the header, or of the first row that has one
abbrev pub fault_in : Result Rows LoadFault → Option LoadFault
fault_in (Ok rows) = rows.fault
fault_in (Err why) = Some why

-- The schema has no fault. The CSV has this fault by the schema, or none.
abbrev pub IsReadTo : Option LoadFault → List ℕ → List ℕ → Type 0
IsReadTo fault schema csv =
    (value : SchemaValue) × (bytes_reading schema ≡ Ok value) × (fault_in (rows_of value.fields csv) ≡ fault)

-- ---- what a load did

-- who loads, by which schema, into a table of which resource
pub record LoadTask : Type 0 where
  pub caller : Caller
  pub schema : List ℕ
  pub resource : List ℕ

abbrev pub load_task : Caller → List ℕ → List ℕ → LoadTask
load_task caller schema resource = record { caller = caller; schema = schema; resource = resource }

abbrev pub script_of : LoadTask → List ℕ → List ScriptCall
script_of task csv = load_script_of task.caller task.schema csv task.resource

-- Input was read to its end, has at most 2^40 bytes and no fault. All calls of the script were made, with the reply
-- 200, output took their lines, and this is the state after them.
pub record LoadsAll (task : LoadTask) (state : State) (whole : List ℕ) (after : State)
    (old new : DeviceTrace) : Type 0 where
  pub passed : Passed whole old new
  pub at_end : passed.rest ≡ []
  pub small : length whole ≤ input_limit
  pub sound : IsReadTo None task.schema whole
  pub makes : MakesAllCalls state (script_of task whole) passed.moments passed.nonces passed.written after

-- The calls of the script were made up to the first with another reply than 200. If that is the first of all, nothing
-- was read.
pub record LoadsToRefusal (task : LoadTask) (state : State) (whole : List ℕ) (after : State)
    (old new : DeviceTrace) : Type 0 where
  pub passed : Passed whole old new
  pub unread : length passed.moments ≡ 1 → passed.read ≡ []
  pub makes : MakesCallsToRefusal state (script_of task whole) passed.moments passed.nonces passed.written after

-- Input has this fault. All calls of the script were made, with the reply 200.
pub record LoadsToFault (why : LoadFault) (task : LoadTask) (state : State) (whole : List ℕ) (after : State)
    (old new : DeviceTrace) : Type 0 where
  pub passed : Passed whole old new
  pub faulty : IsReadTo (Some why) task.schema whole
  pub makes : MakesAllCalls state (script_of task whole) passed.moments passed.nonces passed.written after

-- The load stopped. Some calls of the script were made, with the reply 200, and at most `most` more were begun.
pub record LoadsPart (most : ℕ) (task : LoadTask) (state : State) (whole : List ℕ) (after : State) (old new : DeviceTrace) :
    Type 0 where
  pub passed : Passed whole old new
  pub stops : StopsCalls most state (script_of task whole) passed.moments passed.nonces passed.written after

-- the text of a schema's fault
abbrev pub schema_text : SchemaFault → List ℕ
schema_text why = codes "schema: " ++ schema_fault_text why

-- The data has the fault in this text. The schema has the fault, and nothing was played; or the CSV has it, in its
-- header or in a row; or input is too long.
abbrev pub FindsFault : List ℕ → LoadTask → State → List ℕ → State → DeviceTrace → DeviceTrace → Type 0
FindsFault text task state whole after old new =
    ((why : SchemaFault) × (bytes_reading task.schema ≡ Err why) × (text ≡ schema_text why)
    × (after ≡ state) × (new ≡ old))
    ⊎ (((why : LoadFault) × LoadsToFault why task state whole after old new × (text ≡ load_fault_text why))
    ⊎ (LoadsPart 0 task state whole after old new × (text ≡ codes "input too long")))

-- What a load of a CSV did from a state, by its end. Input fails, or exceeds its limit, between two calls; then the bytes
-- that were read may hold further pieces, for which no call was made.
abbrev pub Loads : LoadTask → State → List ℕ → State → DeviceTrace → DeviceTrace → Result Unit LoadStop → Type 0
Loads task state whole after old new (Ok loaded) = LoadsAll task state whole after old new
Loads task state whole after old new (Err stop.ReadFault) = LoadsPart 0 task state whole after old new
Loads task state whole after old new (Err stop.WriteFault) = LoadsPart 1 task state whole after old new
Loads task state whole after old new (Err stop.KeeperFault) = LoadsPart 1 task state whole after old new
Loads task state whole after old new (Err stop.OutOfMemory) = LoadsPart 1 task state whole after old new
Loads task state whole after old new (Err (stop.DataFault text)) = FindsFault text task state whole after old new
Loads task state whole after old new (Err stop.Refused) = LoadsToRefusal task state whole after old new

-- The status is that of an end, and the CSV on input was loaded to this end, where input is observable.
abbrev pub LoadsWith : LoadTask → State → State → DeviceTrace → DeviceTrace → Status → Type 0
LoadsWith task state after old new status =
    (end : Result Unit LoadStop) × (status ≡ status_for_load end)
    × ((whole : List ℕ) → old.to_come ≡ Some whole → Loads task state whole after old new end)

-- A fault of the schema is reported before anything passes the devices, unless memory runs out.
abbrev pub ReportsSchema : List ℕ → DeviceTrace → DeviceTrace → Status → Type 0
ReportsSchema schema old new status =
    (why : SchemaFault) → bytes_reading schema ≡ Err why
    → ((status ≡ DataFault (schema_text why)) ⊎ (status ≡ OutOfMemory)) × (new ≡ old)

-- What a load did, by what its parts did.
use Rattle.std.proofs.Common.{◌≡◌, ◌⊎◌, ◌≤◌, ◌<◌, ℕ, ◌+◌, ◌^◌, ℤ, List, [], ◌∷◌, ◌++◌, length, map, Some, None}
use Rattle.std.proofs.Common.{Result, Ok, Err}
use Rattle.std.proofs.Common.{refl, sym, subst, ap, ◌∙◌, inl, inr, arith, length-append, append-nil}
use Rattle.std.specs.Prelude.{codes, ◌↔◌, Option, option_map, IfErr, OnOk}
use Rattle.std.proofs.lemmas.Result.{on_ok_weaker}
use Rattle.portal_base.proofs.OutsideLemmas.{Gives-append}
use Rattle.portal_base.specs.Json.{json_reading}
use Rattle.portal_base.specs.Outside.{Gives, IsAtEnd}
use Rattle.portal_base.specs.declared.caller.Caller.{Caller}
use Rattle.portal_base.specs.declared.json_value.Json.{Json}
use Rattle.portal_state.specs.State.{State}
use Rattle.portal_serve.specs.Calls.{MakesAllCalls, MakesCallsToRefusal, StopsCalls}
use Rattle.portal_serve.specs.Run.{DeviceTrace, GaveTooMuch, StageTrace, Passed, device_trace, input_limit, with_input}
use Rattle.portal_serve.specs.Script.{ScriptCall}
use Rattle.row_inserts.specs.InsertsValue.{Begins}
use Rattle.row_inserts.specs.Inserts.{Pieces, inserts_of, pieces_read}
use Rattle.table_schema.specs.Field.{FieldValue, SchemaValue}
use Rattle.table_schema.specs.Keys.{bytes_reading, of_parsed, schema_reading}
use Rattle.table_schema.specs.declared.fault.SchemaFault.{SchemaFault}
use Rattle.table_schema.specs.declared.fault.SchemaFault.TheVariants as schema_fault
use Rattle.typed_csv.specs.ReaderValue.{IsCounted}
use Rattle.typed_csv.specs.Rows.{Rows, rows_of}
use Rattle.typed_csv.specs.declared.fault.LoadFault.{LoadFault}
use Rattle.portal_load.proofs.Passing.{makes_on_append, refuses_on_second, refuses_on_within}
use Rattle.portal_load.proofs.Passing.{stops_on_append, stops_on_none, stops_on_within}
use Rattle.portal_load.specs.Load.{IsReadTo, LoadTask, Loads, LoadsAll, LoadsPart, LoadsToFault, LoadsToRefusal}
use Rattle.portal_load.specs.Load.{create_call, fault_in, insert_call, load_script_of, load_task, pieces_in}
use Rattle.portal_load.specs.Load.{schema_text}
use Rattle.portal_load.specs.Load.{script_by, script_of, script_under}
use Rattle.portal_load.specs.Progress.{CallsEnd, InsertsEnd, MakesOn, PassesOutlet, RefusesOn, StopsOn, inserts_for}
use Rattle.portal_load.specs.Progress.{pieces_until_fault}
use Rattle.portal_load.specs.declared.load.Task.{Task}
use Rattle.portal_load.specs.Stop.{status_for_load, stop_for_fault}
use Rattle.portal_load.specs.declared.stop.CallFault.{CallFault}
use Rattle.portal_load.specs.declared.stop.CallFault.TheVariants as call_fault
use Rattle.portal_load.specs.declared.stop.LoadStop.{LoadStop}
use Rattle.portal_load.specs.declared.stop.LoadStop.TheVariants.{ReadFault, WriteFault, KeeperFault, OutOfMemory, DataFault, Refused}
use Rattle.portal_status.specs.declared.status.Status.TheVariants as status

-- ---- the script

-- the script of a schema that was read
script_is : (caller : Caller) (schema csv resource : List ℕ) (json : Json) (value : SchemaValue)
    → json_reading schema ≡ Ok json → schema_reading json ≡ Ok value
    → load_script_of caller schema csv resource
    ≡ create_call caller resource json
    ∷ map (insert_call caller resource) (pieces_in (inserts_of resource value.fields csv))
script_is caller schema csv resource json value read is =
    ap (script_by caller csv resource) read ∙ ap (script_under caller json csv resource) is

-- the reading of the schema's bytes
schema_is : (schema : List ℕ) (json : Json) (value : SchemaValue) → json_reading schema ≡ Ok json
    → schema_reading json ≡ Ok value → bytes_reading schema ≡ Ok value
schema_is schema json value read is = ap of_parsed read ∙ is

-- the fault that ends the pieces is that of the rows
fault_is : (resource : List ℕ) (fields : List FieldValue) (rows : Result Rows LoadFault)
    → fault_in rows ≡ (pieces_until_fault (pieces_read resource fields rows)).fault
fault_is resource fields (Ok rows) = refl
fault_is resource fields (Err why) = refl

pieces_are : (pieces : Result Pieces LoadFault) → pieces_in pieces ≡ (pieces_until_fault pieces).pieces
pieces_are (Ok pieces) = refl
pieces_are (Err why) = refl

-- ---- what passed

-- the bytes that input gave
pub moved : (whole bytes : List ℕ) (before left : Option (List ℕ)) → before ≡ Some whole → Gives before bytes left
    → (rest : List ℕ) × (left ≡ Some rest) × (whole ≡ bytes ++ rest)
moved whole bytes before left observed gives = subst (λ (o : Option (List ℕ)). Gives o bytes left) observed gives

passed : (P : List ℤ → List ℕ → List ℕ → Type 0) (whole bytes rest : List ℕ) (before left : Option (List ℕ))
    (old new : StageTrace) → left ≡ Some rest → whole ≡ bytes ++ rest → PassesOutlet P old new
    → Passed whole (with_input before old) (with_input left new)
passed P whole bytes rest before left old new observed splits p = record {
  read = bytes;
  rest = rest;
  written = p.written;
  moments = p.moments;
  nonces = p.nonces;
  input = observed;
  splits = splits;
  output = p.output;
  clock = p.clock;
  numbers = p.numbers;
}

-- Calls of the script were made, and at most `most` more were begun.
loads_part : (most : ℕ) (task : LoadTask) (state after : State) (calls : List ScriptCall) (whole bytes rest : List ℕ)
    (before left : Option (List ℕ)) (old new : StageTrace) → script_of task whole ≡ calls → left ≡ Some rest
    → whole ≡ bytes ++ rest → StopsOn most state calls after old new
    → LoadsPart most task state whole after (with_input before old) (with_input left new)
unfolding passed
loads_part most task state after calls whole bytes rest before left old new script observed splits on = record {
  passed = passed (λ m n w. StopsCalls most state calls m n w after) whole bytes rest before left old new observed
      splits
      on;
  stops = subst (λ (c : List ScriptCall). StopsCalls most state c on.moments on.nonces on.written after) (sym script)
      on.holds;
}

-- They were made up to a refusal.
loads_refusal : (task : LoadTask) (state after : State) (calls : List ScriptCall) (whole bytes rest : List ℕ)
    (before left : Option (List ℕ)) (old new : StageTrace) → script_of task whole ≡ calls → left ≡ Some rest
    → whole ≡ bytes ++ rest → (on : RefusesOn state calls after old new) → (length on.moments ≡ 1 → bytes ≡ [])
    → LoadsToRefusal task state whole after (with_input before old) (with_input left new)
unfolding passed
loads_refusal task state after calls whole bytes rest before left old new script observed splits on unread = record {
  passed = passed (λ m n w. MakesCallsToRefusal state calls m n w after) whole bytes rest before left old new observed
      splits
      on;
  unread = unread;
  makes = subst (λ (c : List ScriptCall). MakesCallsToRefusal state c on.moments on.nonces on.written after)
      (sym script)
      on.holds;
}

-- All of them were made, and then input's fault came.
loads_to_fault : (why : LoadFault) (task : LoadTask) (state after : State) (calls : List ScriptCall)
    (whole bytes rest : List ℕ) (before left : Option (List ℕ)) (old new : StageTrace) → script_of task whole ≡ calls
    → left ≡ Some rest → whole ≡ bytes ++ rest → IsReadTo (Some why) task.schema whole
    → MakesOn state calls after old new
    → LoadsToFault why task state whole after (with_input before old) (with_input left new)
unfolding passed
loads_to_fault why task state after calls whole bytes rest before left old new script observed splits is on = record {
  passed = passed (λ m n w. MakesAllCalls state calls m n w after) whole bytes rest before left old new observed splits
      on;
  faulty = is;
  makes = subst (λ (c : List ScriptCall). MakesAllCalls state c on.moments on.nonces on.written after) (sym script)
      on.holds;
}

-- ---- where the call that makes the table ends a load

pub loads_first : (task : LoadTask) (state after : State) (calls rest : List ScriptCall) (whole : List ℕ)
    (before left : Option (List ℕ)) (old new : StageTrace) (fault : CallFault) → script_of task whole ≡ calls ++ rest
    → left ≡ Some whole → CallsEnd state calls after old new fault
    → Loads task state whole after (with_input before old) (with_input left new) (Err (stop_for_fault fault))
loads_first task state after calls rest whole before left old new fault script observed ended = by fault ended
  where
    stops : StopsOn 1 state calls after old new
        → LoadsPart 1 task state whole after (with_input before old) (with_input left new)
    stops on = loads_part 1 task state after (calls ++ rest) whole [] whole before left old new script observed refl
        (stops_on_within 1 state after calls rest old new on)

    by : (fault : CallFault) → CallsEnd state calls after old new fault
        → Loads task state whole after (with_input before old) (with_input left new) (Err (stop_for_fault fault))
    by call_fault.Refused on = loads_refusal task state after (calls ++ rest) whole [] whole before left old new script
        observed refl
        (refuses_on_within state after calls rest old new on) (λ one. refl)
    by call_fault.WriteFault on = stops on
    by call_fault.KeeperFault on = stops on
    by call_fault.OutOfMemory on = stops on

-- ---- where the inserts end it

-- The table was made by a call that was granted: the schema's value, the first call, the state after it, and the whole
-- input.
pub record Begun (own : Task) (schema : List ℕ) (json : Json) (value : SchemaValue) (state mid : State)
    (old on : StageTrace) : Type 0 where
  pub read : json_reading schema ≡ Ok json
  pub is : schema_reading json ≡ Ok value
  pub made : MakesOn state (create_call own.caller.now own.resource.now json ∷ []) mid old on

abbrev task_of : Task → List ℕ → LoadTask
task_of own schema = load_task own.caller.now schema own.resource.now

abbrev create_of : Task → Json → ScriptCall
create_of own json = create_call own.caller.now own.resource.now json

-- the call that makes the table, and the inserts of these pieces
abbrev calls_with : Task → Json → List (List Json) → List ScriptCall
calls_with own json pieces = create_of own json ∷ inserts_for own pieces

-- the pieces of the CSV by the schema
abbrev pieces_by : Task → SchemaValue → List ℕ → Pieces
pieces_by own value whole = pieces_until_fault (inserts_of own.resource.now value.fields whole)

-- the script of a load that was begun
begun_script : (own : Task) (schema whole : List ℕ) (json : Json) (value : SchemaValue) (state mid : State)
    (old on : StageTrace) → Begun own schema json value state mid old on
    → script_of (task_of own schema) whole ≡ calls_with own json (pieces_by own value whole).pieces
begun_script own schema whole json value state mid old on begun =
    script_is own.caller.now schema whole own.resource.now json value begun.read begun.is
    ∙ ap (λ (p : List (List Json)). create_of own json ∷ inserts_for own p)
    (pieces_are (inserts_of own.resource.now value.fields whole))

-- how inserts ended, after the call that makes the table
pub loads_inserts : (own : Task) (schema whole bytes rest : List ℕ) (json : Json) (value : SchemaValue)
    (state mid after : State) (old on new : StageTrace) (before left : Option (List ℕ)) (stop : LoadStop)
    → Begun own schema json value state mid old on → left ≡ Some rest → whole ≡ bytes ++ rest
    → InsertsEnd own mid (pieces_by own value whole) after on new stop
    → Loads (task_of own schema) state whole after (with_input before old) (with_input left new) (Err stop)
loads_inserts own schema whole bytes rest json value state mid after old on new before left stop begun observed splits
    ended = by stop ended
  where
    script : script_of (task_of own schema) whole ≡ calls_with own json (pieces_by own value whole).pieces
    script = begun_script own schema whole json value state mid old on begun

    part : (most : ℕ) → StopsOn most mid (inserts_for own (pieces_by own value whole).pieces) after on new
        → LoadsPart most (task_of own schema) state whole after (with_input before old) (with_input left new)
    part most stops = loads_part most (task_of own schema) state after
        (calls_with own json (pieces_by own value whole).pieces) whole bytes rest before left
        old new script observed splits
        (stops_on_append most state mid after (create_of own json ∷ [])
        (inserts_for own (pieces_by own value whole).pieces) old on new
        begun.made stops)

    refusal : RefusesOn mid (inserts_for own (pieces_by own value whole).pieces) after on new
        → LoadsToRefusal (task_of own schema) state whole after (with_input before old) (with_input left new)
    refusal refuses =
        let both = refuses_on_second state mid after (create_of own json)
        (inserts_for own (pieces_by own value whole).pieces) old on new
        begun.made refuses in
        loads_refusal (task_of own schema) state after (calls_with own json (pieces_by own value whole).pieces) whole
        bytes rest before left old new script observed splits
        both.0 (λ one. absurd (both.1 one))

    to_fault : (why : LoadFault) → (pieces_by own value whole).fault ≡ Some why
        → MakesOn mid (inserts_for own (pieces_by own value whole).pieces) after on new
        → LoadsToFault why (task_of own schema) state whole after (with_input before old) (with_input left new)
    to_fault why is makes =
        loads_to_fault why (task_of own schema) state after
        (calls_with own json (pieces_by own value whole).pieces) whole bytes rest before left old new script observed
        splits (
          value,
          schema_is schema json value begun.read begun.is,
          fault_is own.resource.now value.fields (rows_of value.fields whole) ∙ is,
        )
        (makes_on_append state mid after (create_of own json ∷ [])
        (inserts_for own (pieces_by own value whole).pieces) old on new begun.made
        makes)

    by : (stop : LoadStop) → InsertsEnd own mid (pieces_by own value whole) after on new stop
        → Loads (task_of own schema) state whole after (with_input before old) (with_input left new) (Err stop)
    by ReadFault stops = part 0 stops
    by WriteFault stops = part 1 stops
    by KeeperFault stops = part 1 stops
    by OutOfMemory stops = part 1 stops
    by (DataFault text) (inl f) = inr (inl (f.0, to_fault f.0 f.1 f.3, f.2))
    by (DataFault text) (inr f) = inr (inr (part 0 f.1, f.0))
    by Refused refuses = refusal refuses

-- all of them were granted, and input was read to its end
pub loads_all : (own : Task) (schema whole bytes rest : List ℕ) (json : Json) (value : SchemaValue)
    (state mid after : State) (old on new : StageTrace) (before left : Option (List ℕ))
    → Begun own schema json value state mid old on → left ≡ Some rest → whole ≡ bytes ++ rest → IsAtEnd left
    → length bytes ≤ input_limit
    → ((pieces_by own value whole).fault ≡ None)
    × MakesOn mid (inserts_for own (pieces_by own value whole).pieces) after on new
    → LoadsAll (task_of own schema) state whole after (with_input before old) (with_input left new)
unfolding passed
loads_all own schema whole bytes rest json value state mid after old on new before left begun observed splits
    ended few all =
    let calls = calls_with own json (pieces_by own value whole).pieces in
    let makes : MakesOn state calls after old new =
    makes_on_append state mid after (create_of own json ∷ [])
    (inserts_for own (pieces_by own value whole).pieces) old on new begun.made all.1
    in
    let none : rest ≡ [] = subst IsAtEnd observed ended in
    record {
      passed = passed (λ m n w. MakesAllCalls state calls m n w after) whole bytes rest before left old new observed
          splits
          makes;
      at_end = none;
      small = subst (λ (w : List ℕ). length w ≤ input_limit)
          (sym (splits ∙ ap (λ (r : List ℕ). bytes ++ r) none ∙ append-nil bytes)) few;
      sound = (
        value,
        schema_is schema json value begun.read begun.is,
        fault_is own.resource.now value.fields (rows_of value.fields whole) ∙ all.0,
      );
      makes = subst (λ (c : List ScriptCall). MakesAllCalls state c makes.moments makes.nonces makes.written after)
          (sym (begun_script own schema whole json value state mid old on begun)) makes.holds;
    }

-- the pieces that remain, where input is observable
pub remaining_pieces : (resource : List ℕ) (fields : List FieldValue) (whole : List ℕ) (observed : Option (List ℕ))
    (remaining : Option Pieces) → observed ≡ Some whole → Begins resource fields observed remaining
    → (pieces : Pieces) × (remaining ≡ Some pieces) × (inserts_of resource fields whole ≡ Ok pieces)
remaining_pieces resource fields whole observed None is begins =
    let e : option_map (inserts_of resource fields) (Some whole) ≡ None =
    subst (λ (o : Option (List ℕ)). option_map (inserts_of resource fields) o ≡ None) is begins in absurd (cc)
remaining_pieces resource fields whole observed (Some pieces) is begins =
    let e : option_map (inserts_of resource fields) (Some whole) ≡ Some (Ok pieces) =
    subst (λ (o : Option (List ℕ)). option_map (inserts_of resource fields) o ≡ Some (Ok pieces)) is begins in
    (pieces, refl, cc)

-- ---- a schema's fault

-- nothing was played
pub loads_not : (task : LoadTask) (state : State) (whole : List ℕ) (before : Option (List ℕ)) (on : StageTrace)
    (why : SchemaFault) (stop : LoadStop) → before ≡ Some whole
    → (why ≡ schema_fault.OutOfMemory) ⊎ (bytes_reading task.schema ≡ Err why)
    → (stop ≡ DataFault (schema_text why)) ⊎ (stop ≡ OutOfMemory)
    → (why ≡ schema_fault.OutOfMemory → stop ≡ OutOfMemory)
    → Loads task state whole state (with_input before on) (with_input before on) (Err stop)
loads_not task state whole before on why stop observed is reports full = by is reports
  where
    nothing : stop ≡ OutOfMemory
        → Loads task state whole state (with_input before on) (with_input before on) (Err stop)
    nothing memory =
        subst (λ (s : LoadStop). Loads task state whole state (with_input before on) (with_input before on) (Err s))
        (sym memory)
        (loads_part 1 task state state (script_of task whole) whole [] whole before before on on refl observed refl
        (stops_on_none 1 state (script_of task whole) on))

    by : (why ≡ schema_fault.OutOfMemory) ⊎ (bytes_reading task.schema ≡ Err why)
        → (stop ≡ DataFault (schema_text why)) ⊎ (stop ≡ OutOfMemory)
        → Loads task state whole state (with_input before on) (with_input before on) (Err stop)
    by is (inr memory) = nothing memory
    by (inl memory) (inl reports) = nothing (full memory)
    by (inr is) (inl reports) =
        subst (λ (s : LoadStop). Loads task state whole state (with_input before on) (with_input before on) (Err s))
        (sym reports)
        (inl (why, is, refl, refl, refl))

-- ---- the rows of a source

-- the end of the inserts, where input is observable
pub rows_done : (r : Result Unit LoadStop) (own : Task) (fields : List FieldValue) (observed : Option (List ℕ))
    (remaining : Option Pieces) (state after : State) (old new : StageTrace)
    → Begins own.resource.now fields observed remaining
    → OnOk r ((pieces : Pieces) → remaining ≡ Some pieces → (pieces.fault ≡ None)
    × MakesOn state (inserts_for own pieces.pieces) after old new)
    → OnOk r ((whole : List ℕ) → observed ≡ Some whole
    → ((pieces_until_fault (inserts_of own.resource.now fields whole)).fault ≡ None)
    × MakesOn state (inserts_for own (pieces_until_fault
    (inserts_of own.resource.now fields whole)).pieces) after old new)
rows_done r own fields observed remaining state after old new begins done =
    on_ok_weaker r (λ (all : (pieces : Pieces) → remaining ≡ Some pieces → (pieces.fault ≡ None)
    × MakesOn state (inserts_for own pieces.pieces) after old new) whole is.
    let a = remaining_pieces own.resource.now fields whole observed remaining is begins in
    subst (λ (p : Pieces). (p.fault ≡ None) × MakesOn state (inserts_for own p.pieces) after old new)
    (sym (ap pieces_until_fault a.2)) (all a.0 a.1)) done

-- the bytes before the first insert and since
pub rows_received : (P : Type 0) (observed mid left : Option (List ℕ)) (given now : ℕ)
    → ((bytes : List ℕ) × Gives observed bytes mid × (given ≡ length bytes) × (length bytes ≤ 2 ^ 40))
    → IsCounted mid given left now → P ↔ (2 ^ 40 < now)
    → (bytes : List ℕ) × Gives observed bytes left × (P ↔ (2 ^ 40 < length bytes))
rows_received P observed mid left given now first more same =
    let sizes : now ≡ length (first.0 ++ more.0) =
    omega (arith, length-append first.0 more.0, first.2, more.2) in (
      first.0 ++ more.0,
      Gives-append observed mid left first.0 more.0 first.1 more.1,
      subst (λ (n : ℕ). P ↔ (2 ^ 40 < n)) sizes same,
    )

-- ---- a load by a schema that was read

-- the exit of a `?` at the call that makes the table
pub loads_unmade : (r : Result Unit LoadStop) (fault : CallFault) (own : Task) (json : Json) (value : SchemaValue)
    (state after : State) (observed : Option (List ℕ)) (old new : StageTrace)
    → (stop : LoadStop) × (r ≡ Err stop) × (stop ≡ stop_for_fault fault) → schema_reading json ≡ Ok value
    → CallsEnd state (create_call own.caller.now own.resource.now json ∷ []) after old new fault
    → (schema whole : List ℕ) → json_reading schema ≡ Ok json → observed ≡ Some whole
    → Loads (load_task own.caller.now schema own.resource.now) state whole after (with_input observed old)
    (with_input observed new) r
loads_unmade r fault own json value state after observed old new exit is ended schema whole read reports =
    subst (λ (x : Result Unit LoadStop). Loads (task_of own schema) state whole after (with_input observed old)
    (with_input observed new) x) (sym (exit.1 ∙ ap (λ (s : LoadStop). Err s) exit.2))
    (loads_first (task_of own schema) state after (create_of own json ∷ [])
    (inserts_for own (pieces_in
    (inserts_of own.resource.now value.fields whole))) whole observed observed old new fault
    (script_is own.caller.now schema whole own.resource.now json value read is) reports ended)

few_bytes : (bytes : List ℕ) (P : Type 0) → (P → ⊥) → P ↔ (2 ^ 40 < length bytes) → length bytes ≤ input_limit
few_bytes bytes P never same =
    let few : 2 ^ 40 < length bytes → ⊥ = λ much. never (same.1 much) in omega (arith, few)

-- The table was made, and its inserts came to this end.
pub loads_made : (r : Result Unit LoadStop) (own : Task) (json : Json) (value : SchemaValue) (state mid after : State)
    (observed left : Option (List ℕ)) (old on new : StageTrace) → schema_reading json ≡ Ok value
    → MakesOn state (create_call own.caller.now own.resource.now json ∷ []) mid old on
    → OnOk r ((whole : List ℕ) → observed ≡ Some whole
    → ((pieces_until_fault (inserts_of own.resource.now value.fields whole)).fault ≡ None)
    × MakesOn mid (inserts_for own (pieces_until_fault
    (inserts_of own.resource.now value.fields whole)).pieces) after on new)
    → OnOk r (IsAtEnd left)
    → IfErr r (λ stop. (whole : List ℕ) → observed ≡ Some whole
    → InsertsEnd own mid (pieces_until_fault (inserts_of own.resource.now value.fields whole)) after on new stop)
    → ((bytes : List ℕ) × Gives observed bytes left
    × ((r ≡ Err (DataFault (codes "input too long"))) ↔ (2 ^ 40 < length bytes)))
    → (schema whole : List ℕ) → json_reading schema ≡ Ok json → observed ≡ Some whole
    → Loads (load_task own.caller.now schema own.resource.now) state whole after (with_input observed old)
    (with_input left new) r
loads_made (Ok loaded) own json value state mid after observed left old on new is made done at_end ended came schema
    whole read reports =
    let gave = moved whole came.0 observed left reports came.1 in
    loads_all own schema whole came.0 gave.0 json value state mid after old on new observed left
    (record { read = read; is = is; made = made }) gave.1 gave.2 at_end
    (few_bytes came.0 (Ok loaded ≡ Err (DataFault (codes "input too long"))) (λ e. absurd (cc)) came.2)
    (done whole reports)
loads_made (Err stop) own json value state mid after observed left old on new is made done at_end ended came schema
    whole read reports =
    let gave = moved whole came.0 observed left reports came.1 in
    loads_inserts own schema whole came.0 gave.0 json value state mid after old on new observed left stop
    (record { read = read; is = is; made = made }) gave.1 gave.2 (ended whole reports)

-- ---- the size of input

-- Input gave too much exactly if the bytes that it gave are too many.
pub too_much_by : (P : Type 0) (whole : List ℕ) (observed left at : Option (List ℕ))
    → ((bytes : List ℕ) × Gives observed bytes left × (P ↔ (2 ^ 40 < length bytes))) → left ≡ at
    → observed ≡ Some whole → P ↔ GaveTooMuch whole at
too_much_by P whole observed left at came same is =
    let gave = moved whole came.0 observed left is came.1 in
    let sizes : length whole ≡ length came.0 + length gave.0 = ap length gave.2 ∙ length-append came.0 gave.0 in (
      λ p.
          let much : 2 ^ 40 < length came.0 = came.2.0 p in
          (gave.0, sym same ∙ gave.1, omega (arith, sizes, much)),
      λ too.
          let both : Some gave.0 ≡ Some too.0 = sym gave.1 ∙ (same ∙ too.1) in
          let rests : gave.0 ≡ too.0 = cc in
          let lengths : length gave.0 ≡ length too.0 = ap length rests in
          came.2.1 (omega (arith, sizes, lengths, too.2)),
    )

-- ---- the devices at the end

pub loads_made_at : (r : Result Unit LoadStop) (own : Task) (json : Json) (value : SchemaValue)
    (state mid after : State) (observed left at : Option (List ℕ)) (old on new : StageTrace) → schema_reading json
    ≡ Ok value
    → MakesOn state (create_call own.caller.now own.resource.now json ∷ []) mid old on
    → OnOk r ((whole : List ℕ) → observed ≡ Some whole
    → ((pieces_until_fault (inserts_of own.resource.now value.fields whole)).fault ≡ None)
    × MakesOn mid (inserts_for own (pieces_until_fault
    (inserts_of own.resource.now value.fields whole)).pieces) after on new)
    → OnOk r (IsAtEnd left)
    → IfErr r (λ stop. (whole : List ℕ) → observed ≡ Some whole
    → InsertsEnd own mid (pieces_until_fault (inserts_of own.resource.now value.fields whole)) after on new stop)
    → ((bytes : List ℕ) × Gives observed bytes left
    × ((r ≡ Err (DataFault (codes "input too long"))) ↔ (2 ^ 40 < length bytes)))
    → left ≡ at
    → (schema whole : List ℕ) → json_reading schema ≡ Ok json → observed ≡ Some whole
    → Loads (load_task own.caller.now schema own.resource.now) state whole after (with_input observed old)
    (with_input at new) r
loads_made_at r own json value state mid after observed left at old on new is made done at_end ended came same schema
    whole read reports =
    subst (λ (o : Option (List ℕ)). Loads (load_task own.caller.now schema own.resource.now) state whole after
    (with_input observed old) (with_input o new) r) same
    (loads_made r own json value state mid after observed left old on new is made done at_end ended came schema whole
    read reports)

pub loads_at : (task : LoadTask) (state after : State) (whole : List ℕ) (old : DeviceTrace)
    (left taken taken_at : Option (List ℕ)) (moments moments_at : Option (List ℤ))
    (numbers numbers_at : Option (List ℕ)) (r : Result Unit LoadStop)
    → Loads task state whole after old (device_trace left taken moments numbers) r
    → taken ≡ taken_at → moments ≡ moments_at → numbers ≡ numbers_at
    → Loads task state whole after old (device_trace left taken_at moments_at numbers_at) r
loads_at task state after whole old left taken taken_at moments moments_at numbers numbers_at r loads a b c =
    subst (λ (o : Option (List ℕ)). Loads task state whole after old (device_trace left o moments_at numbers_at) r) a
    (subst (λ (o : Option (List ℤ)). Loads task state whole after old (device_trace left taken o numbers_at) r) b
    (subst (λ (o : Option (List ℕ)). Loads task state whole after old (device_trace left taken moments o) r) c loads))

-- ---- the status for the end

-- The status tells of input that is too long exactly if the load stopped for it.
pub too_long_by : (end : Result Unit LoadStop) (P : Type 0) → (end ≡ Err (DataFault (codes "input too long"))) ↔ P
    → (status_for_load end ≡ status.DataFault (codes "input too long")) ↔ P
too_long_by end P same = (λ is. same.0 (to end is), λ p. ap status_for_load (same.1 p))
  where
    to : (end : Result Unit LoadStop) → status_for_load end ≡ status.DataFault (codes "input too long")
        → end ≡ Err (DataFault (codes "input too long"))
    to (Ok loaded) is = absurd (cc)
    to (Err ReadFault) is = absurd (cc)
    to (Err WriteFault) is = absurd (cc)
    to (Err KeeperFault) is = absurd (cc)
    to (Err OutOfMemory) is = absurd (cc)
    to (Err (DataFault text)) is = cc
    to (Err Refused) is = absurd (cc)

-- How inserts are played: how one ends them, and inserts after others.
use Rattle.std.proofs.Common.{◌≡◌, ◌≢◌, ◌⊎◌, ◌≤◌, ℕ, List, [], ◌∷◌, ◌++◌, Some, None, refl, sym, subst, ap, ◌∙◌}
use Rattle.std.proofs.Common.{inl, inr}
use Rattle.std.proofs.Common.{append_assoc, append-nil, length, length-append, arith, ◌<◌, ◌^◌}
use Rattle.std.proofs.lemmas.List.{map-append}
use Rattle.std.specs.Prelude.{codes, ◌↔◌, Option, IfErr, IfSome, Result, Ok, Err, option_map, Bool}
use Rattle.portal_base.proofs.OutsideLemmas.{Gives-none, Gives-append}
use Rattle.portal_base.specs.Json.{json_text}
use Rattle.portal_base.specs.declared.caller.Caller.{Caller}
use Rattle.portal_base.specs.declared.json_value.Json.{Json}
use Rattle.portal_state.specs.State.{State}
use Rattle.portal_serve.specs.Calls.{MakesCall, BeginsCall}
use Rattle.portal_serve.specs.Run.{StageTrace}
use Rattle.portal_serve.specs.Script.{ScriptCall}
use Rattle.portal_serve.specs.declared.calls.CallStop.{CallStop}
use Rattle.portal_serve.specs.declared.calls.CallStop.TheVariants as call_stop
use Rattle.row_inserts.specs.InsertsValue.{Answers, RefusesHeader}
use Rattle.row_inserts.specs.Inserts.{Pieces, before, faulty, insert_body, inserts_of, no_pieces}
use Rattle.row_inserts.specs.Piece.{IsInsertOf}
use Rattle.row_inserts.specs.declared.piece.Insert.{Insert}
use Rattle.table_schema.specs.Field.{FieldValue}
use Rattle.typed_csv.specs.Faults.{IsOutside}
use Rattle.typed_csv.specs.ReaderValue.{IsCounted}
use Rattle.typed_csv.specs.Messages.{load_fault_text}
use Rattle.typed_csv.specs.declared.fault.LoadFault.{LoadFault}
use Rattle.typed_csv.specs.declared.fault.LoadFault.TheVariants as fault
use Rattle.portal_load.proofs.Passing.{makes_on_append, makes_on_none, makes_on_one, refuses_on_append, refuses_on_one}
use Rattle.portal_load.proofs.Passing.{refuses_on_within, stops_on_after, stops_on_one}
use Rattle.portal_load.proofs.Passing.{stops_on_append, stops_on_none, stops_on_within}
use Rattle.portal_load.specs.Load.{call_of, create_body, create_call, insert_call}
use Rattle.portal_load.specs.Progress.{CallsEnd, InsertsEnd, MakesOn, RefusesOn, StopsOn, StopsReading, inserts_for}
use Rattle.portal_load.specs.Progress.{pieces_until_fault}
use Rattle.portal_load.specs.Stop.{fault_for_stop, stop_for_fault}
use Rattle.portal_load.specs.declared.load.Task.{Task}
use Rattle.portal_load.specs.declared.stop.CallFault.{CallFault}
use Rattle.portal_load.specs.declared.stop.CallFault.TheVariants as call_fault
use Rattle.portal_load.specs.declared.stop.LoadStop.{LoadStop}
use Rattle.portal_load.specs.declared.stop.LoadStop.TheVariants.{ReadFault, WriteFault, KeeperFault, OutOfMemory, DataFault, Refused}

-- a call whose line was not written whole
pub ends_begun : (state after : State) (calls : List ScriptCall) (old new : StageTrace) (stop : CallStop)
    → StopsOn 1 state calls after old new → CallsEnd state calls after old new (fault_for_stop stop)
ends_begun state after calls old new call_stop.WriteFault stops = stops
ends_begun state after calls old new call_stop.KeeperFault stops = stops
ends_begun state after calls old new call_stop.OutOfMemory stops = stops

-- the exit of a `?` when memory ran out before a call
pub ends_unbegun : (r : Result Unit CallFault) (state : State) (calls : List ScriptCall) (on : StageTrace)
    → (fault : CallFault) × (r ≡ Err fault) × (fault ≡ call_fault.OutOfMemory) → IfErr r (CallsEnd state calls state on on)
ends_unbegun r state calls on exit =
    subst (λ (x : Result Unit CallFault). IfErr x (CallsEnd state calls state on on)) (sym exit.1)
    (subst (λ (f : CallFault). CallsEnd state calls state on on f) (sym exit.2) (stops_on_none 1 state calls on))

said_is : (caller other : Caller) (action named : List ℕ) (body : Json) → caller ≡ other → action ≡ named
    → call_of caller action body ≡ call_of other named body
said_is caller other action named body same_caller same_action = cc

-- the call with a copy of the caller and of the text of the action
pub makes_said : (state after : State) (caller other : Caller) (action named : List ℕ) (body : Json)
    (size status : ℕ) (old new : StageTrace) → caller ≡ other → action ≡ named → size ≡ length (json_text body)
    → status ≡ 200 → MakesCall state (call_of caller action body) size status after old new
    → MakesOn state (call_of other named body ∷ []) after old new
makes_said state after caller other action named body size status old new same_caller same_action sized granted makes =
    makes_on_one state after (call_of other named body) size status old new sized granted
    (subst (λ (call : ScriptCall). MakesCall state call size status after old new)
    (said_is caller other action named body same_caller same_action) makes)

pub refuses_said : (state after : State) (caller other : Caller) (action named : List ℕ) (body : Json)
    (size status : ℕ) (old new : StageTrace) → caller ≡ other → action ≡ named → size ≡ length (json_text body)
    → status ≢ 200 → MakesCall state (call_of caller action body) size status after old new
    → RefusesOn state (call_of other named body ∷ []) after old new
refuses_said state after caller other action named body size status old new same_caller same_action sized refused
    makes =
    refuses_on_one state after (call_of other named body) size status old new sized refused
    (subst (λ (call : ScriptCall). MakesCall state call size status after old new)
    (said_is caller other action named body same_caller same_action) makes)

pub stops_said : (state after : State) (caller other : Caller) (action named : List ℕ) (body : Json)
    (size : ℕ) (old new : StageTrace) → caller ≡ other → action ≡ named → size ≡ length (json_text body)
    → BeginsCall state (call_of caller action body) size after old new
    → StopsOn 1 state (call_of other named body ∷ []) after old new
stops_said state after caller other action named body size old new same_caller same_action sized begun =
    stops_on_one state after (call_of other named body) size old new sized
    (subst (λ (call : ScriptCall). BeginsCall state call size after old new)
    (said_is caller other action named body same_caller same_action) begun)

-- ---- the call that makes the table

pub on_create : (P : ScriptCall → Type 0) (caller : Caller) (resource : List ℕ) (schema body : Json)
    → body ≡ create_body resource schema → P (call_of caller (codes "datastore_create") body)
    → P (create_call caller resource schema)
on_create P caller resource schema body same holds =
    subst (λ (b : Json). P (call_of caller (codes "datastore_create") b)) same holds

-- ---- the insert of a piece

-- the call for the body of the insert
insert_is : (task : Task) (resource : List ℕ) (piece : List Json) (insert : Insert) (body : Json)
    → resource ≡ task.resource.now → body ≡ insert.body → IsInsertOf resource piece insert
    → call_of task.caller.now (codes "datastore_upsert") body
    ≡ insert_call task.caller.now task.resource.now piece
insert_is task resource piece insert body same is given =
    ap (call_of task.caller.now (codes "datastore_upsert"))
    (is ∙ given.0 ∙ ap (λ (r : List ℕ). insert_body r piece) same)

-- The end of an insert is the end of the inserts from it on.
pub ends_insert : (task : Task) (state after : State) (piece : List Json) (pieces rest : Pieces) (old new : StageTrace)
    (fault : CallFault) → pieces ≡ before piece rest
    → CallsEnd state (inserts_for task (piece ∷ [])) after old new fault
    → InsertsEnd task state pieces after old new (stop_for_fault fault)
ends_insert task state after piece pieces rest old new fault same ended =
    subst (λ (p : Pieces). InsertsEnd task state p after old new (stop_for_fault fault)) (sym same) (by fault ended)
  where
    by : (fault : CallFault) → CallsEnd state (inserts_for task (piece ∷ [])) after old new fault
        → InsertsEnd task state (before piece rest) after old new (stop_for_fault fault)
    by call_fault.Refused refuses =
        refuses_on_within state after (inserts_for task (piece ∷ [])) (inserts_for task rest.pieces) old new refuses
    by call_fault.WriteFault stops =
        stops_on_within 1 state after (inserts_for task (piece ∷ [])) (inserts_for task rest.pieces) old new stops
    by call_fault.KeeperFault stops =
        stops_on_within 1 state after (inserts_for task (piece ∷ [])) (inserts_for task rest.pieces) old new stops
    by call_fault.OutOfMemory stops =
        stops_on_within 1 state after (inserts_for task (piece ∷ [])) (inserts_for task rest.pieces) old new stops

-- the pieces after the first
remaining_more : (now next : Option Pieces) (piece : List Json) (rest : Pieces) → now ≡ Some rest
    → now ≡ option_map (before piece) next
    → (left : Pieces) × (next ≡ Some left) × (rest ≡ before piece left)
remaining_more now None piece rest observed gives = absurd (cc)
remaining_more now (Some left) piece rest observed gives = (left, refl, cc)

-- the exit of a `?` at an insert
pub ends_at_insert : (r : Result Bool LoadStop) (fault : CallFault) (task : Task) (resource : List ℕ)
    (state after : State)
    (insert : Insert) (body : Json) (remaining left : Option Pieces) (old new : StageTrace)
    → (stop : LoadStop) × (r ≡ Err stop) × (stop ≡ stop_for_fault fault) → resource ≡ task.resource.now
    → body ≡ insert.body → Answers resource remaining (Ok (Some insert)) left
    → CallsEnd state (call_of task.caller.now (codes "datastore_upsert") body ∷ []) after old new fault
    → IfErr r (λ stop. (pieces : Pieces) → remaining ≡ Some pieces
    → InsertsEnd task state pieces after old new stop)
ends_at_insert r fault task resource state after insert body remaining left old new exit same is given ended =
    subst (λ (x : Result Bool LoadStop). IfErr x (λ stop. (pieces : Pieces) → remaining ≡ Some pieces
    → InsertsEnd task state pieces after old new stop)) (sym exit.1)
    (λ pieces observed.
    let rest = remaining_more remaining left given.0 pieces observed given.2 in
    subst (λ (s : LoadStop). InsertsEnd task state pieces after old new s) (sym exit.2)
    (ends_insert task state after given.0 pieces rest.0 old new fault rest.2
    (subst (λ (call : ScriptCall). CallsEnd state (call ∷ []) after old new fault)
    (insert_is task resource given.0 insert body same is given.1) ended)))

-- an insert that was granted
pub goes_on_insert : (task : Task) (resource : List ℕ) (state after : State) (insert : Insert) (body : Json)
    (remaining left : Option Pieces) (old new : StageTrace) → resource ≡ task.resource.now → body ≡ insert.body
    → Answers resource remaining (Ok (Some insert)) left
    → MakesOn state (call_of task.caller.now (codes "datastore_upsert") body ∷ []) after old new
    → (piece : List Json) × (remaining ≡ option_map (before piece) left)
    × MakesOn state (inserts_for task (piece ∷ [])) after old new
goes_on_insert task resource state after insert body remaining left old new same is given makes = (
  given.0,
  given.2,
  subst (λ (call : ScriptCall). MakesOn state (call ∷ []) after old new)
      (insert_is task resource given.0 insert body same is given.1) makes,
)

refused_is : (fault : CallFault) → stop_for_fault fault ≡ Refused → fault ≡ call_fault.Refused
refused_is call_fault.Refused is = refl
refused_is call_fault.WriteFault is = absurd (cc)
refused_is call_fault.KeeperFault is = absurd (cc)
refused_is call_fault.OutOfMemory is = absurd (cc)

-- an insert that was refused
pub refuses_insert : (r : Result Bool LoadStop) (fault : CallFault) (task : Task) (resource : List ℕ)
    (state after : State)
    (insert : Insert) (body : Json) (remaining left : Option Pieces) (old new : StageTrace)
    → (stop : LoadStop) × (r ≡ Err stop) × (stop ≡ stop_for_fault fault) → resource ≡ task.resource.now
    → body ≡ insert.body → Answers resource remaining (Ok (Some insert)) left
    → CallsEnd state (call_of task.caller.now (codes "datastore_upsert") body ∷ []) after old new fault
    → r ≡ Err Refused → StopsReading task state remaining after left old new
refuses_insert r fault task resource state after insert body remaining left old new exit same is given ended refused
    pieces observed =
    let rest = remaining_more remaining left given.0 pieces observed given.2 in
    let stopped : stop_for_fault fault ≡ Refused = cc (exit.1, exit.2, refused) in (
      rest.0,
      rest.1,
      record {
        granted = [];
        refused = given.0;
        splits = ap (λ (p : Pieces). p.pieces) rest.2;
        middle = state;
        on = old;
        makes = makes_on_none state old;
        refuses = subst (λ (call : ScriptCall). RefusesOn state (call ∷ []) after old new)
            (insert_is task resource given.0 insert body same is given.1)
            (subst (λ (f : CallFault). CallsEnd state
            (call_of task.caller.now (codes "datastore_upsert") body ∷ []) after old new f)
            (refused_is fault stopped) ended);
      },
    )

-- ---- the end of inserts by a fault of the rows

-- where a fault of the CSV stops a load
pub record ReportsFault (why : LoadFault) (stop : LoadStop) : Type 0 where
  pub read_fault : (why ≡ fault.ReadFault) ↔ (stop ≡ ReadFault)
  pub too_long : (why ≡ fault.TooLong) ↔ (stop ≡ DataFault (codes "input too long"))
  pub reported : stop ≢ ReadFault → (stop ≡ DataFault (load_fault_text why)) ⊎ (stop ≡ OutOfMemory)
  pub memory : why ≡ fault.OutOfMemory → stop ≡ OutOfMemory

-- a fault of the CSV is no refusal
pub fault_is_no_refusal : (why : LoadFault) (stop : LoadStop) → ReportsFault why stop → stop ≢ Refused
fault_is_no_refusal why stop reports is = by (reports.reported (λ read. absurd (cc)))
  where
    by : (stop ≡ DataFault (load_fault_text why)) ⊎ (stop ≡ OutOfMemory) → ⊥
    by (inl other) = absurd (cc)
    by (inr other) = absurd (cc)

-- a fault of a row or of the reading ends the inserts before its piece
ends_faulty : (task : Task) (state : State) (why : LoadFault) (pieces : Pieces) (on : StageTrace) (stop : LoadStop)
    → pieces ≡ faulty why → (stop ≡ DataFault (load_fault_text why)) ⊎ (stop ≡ OutOfMemory)
    → InsertsEnd task state pieces state on on stop
ends_faulty task state why pieces on stop same (inl observed) =
    subst (λ (s : LoadStop). InsertsEnd task state pieces state on on s) (sym observed)
    (subst (λ (p : Pieces). InsertsEnd task state p state on on (DataFault (load_fault_text why))) (sym same)
    (inl (why, refl, refl, makes_on_none state on)))
ends_faulty task state why pieces on stop same (inr memory) =
    subst (λ (s : LoadStop). InsertsEnd task state pieces state on on s) (sym memory)
    (stops_on_none 1 state (inserts_for task pieces.pieces) on)

-- a fault that ends the inserts before any further one
pub ends_fault : (task : Task) (state : State) (why : LoadFault) (pieces : Pieces) (on : StageTrace) (stop : LoadStop)
    → IsOutside why ⊎ (pieces ≡ faulty why) → ReportsFault why stop
    → InsertsEnd task state pieces state on on stop
ends_fault task state fault.ReadFault pieces on stop answers reports =
    subst (λ (s : LoadStop). InsertsEnd task state pieces state on on s) (sym (reports.read_fault.0 refl))
    (stops_on_none 0 state (inserts_for task pieces.pieces) on)
ends_fault task state fault.TooLong pieces on stop answers reports =
    subst (λ (s : LoadStop). InsertsEnd task state pieces state on on s) (sym (reports.too_long.0 refl))
    (inr (refl, stops_on_none 0 state (inserts_for task pieces.pieces) on))
ends_fault task state fault.OutOfMemory pieces on stop answers reports =
    subst (λ (s : LoadStop). InsertsEnd task state pieces state on on s) (sym (reports.memory refl))
    (stops_on_none 1 state (inserts_for task pieces.pieces) on)
ends_fault task state why pieces on stop (inl outside) reports = absurd outside
ends_fault task state why pieces on stop (inr same) reports =
    ends_faulty task state why pieces on stop same
    (reports.reported (λ read. let e : why ≡ fault.ReadFault = reports.read_fault.1 read in absurd (cc)))

-- a fault in the place of the next insert
pub ends_answer : (task : Task) (resource : List ℕ) (state : State) (why : LoadFault) (pieces : Pieces)
    (before left : Option Pieces) (on : StageTrace) (stop : LoadStop) → why ≢ fault.Spent → before ≡ Some pieces
    → Answers resource before (Err why) left → ReportsFault why stop → InsertsEnd task state pieces state on on stop
ends_answer task resource state why pieces before left on stop unspent observed (inl outside) reports =
    ends_fault task state why pieces on stop (inl outside) reports
ends_answer task resource state why pieces before left on stop unspent observed (inr (inl spent)) reports =
    absurd (unspent spent)
ends_answer task resource state why pieces before left on stop unspent observed (inr (inr same)) reports =
    ends_fault task state why pieces on stop
    (inr (subst (λ (o : Option Pieces). IfSome o (λ p. p ≡ faulty why)) observed same)) reports

-- a fault before the first insert
pub ends_start : (task : Task) (resource : List ℕ) (fields : List FieldValue) (state : State) (why : LoadFault)
    (whole : List ℕ) (observed : Option (List ℕ)) (on : StageTrace) (stop : LoadStop) → observed ≡ Some whole
    → RefusesHeader resource fields observed why → ReportsFault why stop
    → InsertsEnd task state (pieces_until_fault (inserts_of resource fields whole)) state on on stop
ends_start task resource fields state why whole observed on stop is (inl outside) reports =
    ends_fault task state why (pieces_until_fault (inserts_of resource fields whole)) on stop (inl outside) reports
ends_start task resource fields state why whole observed on stop is (inr header) reports =
    ends_fault task state why (pieces_until_fault (inserts_of resource fields whole)) on stop
    (inr (ap pieces_until_fault
    (subst (λ (o : Option (List ℕ)). IfSome o (λ text. inserts_of resource fields text ≡ Err why)) is header)))
    reports

-- ---- inserts after others

-- The inserts that were played: those of the first pieces were granted, and the rest remains.
pub record InsertsTo (task : Task) (state : State) (pieces : Pieces) (mid : State) (rest : Pieces) (old on : StageTrace) :
    Type 0 where
  pub first : List (List Json)
  pub splits : pieces.pieces ≡ first ++ rest.pieces
  pub fault : pieces.fault ≡ rest.fault
  pub makes : MakesOn state (inserts_for task first) mid old on

pub to_none : (task : Task) (state : State) (pieces : Pieces) (on : StageTrace)
    → InsertsTo task state pieces state pieces on on
to_none task state pieces on = record { first = []; splits = refl; fault = refl; makes = makes_on_none state on }

inserts-append : (task : Task) (first rest : List (List Json))
    → inserts_for task (first ++ rest) ≡ inserts_for task first ++ inserts_for task rest
inserts-append task first rest = map-append (insert_call task.caller.now task.resource.now) first rest

-- one more was granted
pub to_more : (task : Task) (state mid after : State) (pieces rest remaining : Pieces) (piece : List Json)
    (old on new : StageTrace) → InsertsTo task state pieces mid rest old on → rest ≡ before piece remaining
    → MakesOn mid (inserts_for task (piece ∷ [])) after on new → InsertsTo task state pieces after remaining old new
to_more task state mid after pieces rest remaining piece old on new to same makes = record {
  first = to.first ++ piece ∷ [];
  splits = to.splits ∙ ap (λ (p : Pieces). to.first ++ p.pieces) same
      ∙ sym (append_assoc to.first (piece ∷ []) remaining.pieces);
  fault = to.fault ∙ ap (λ (p : Pieces). p.fault) same;
  makes = subst (λ (calls : List ScriptCall). MakesOn state calls after old new)
      (sym (inserts-append task to.first (piece ∷ [])))
      (makes_on_append state mid after (inserts_for task to.first) (inserts_for task (piece ∷ [])) old on new to.makes
      makes);
}

-- the inserts of all pieces
all_inserts : (task : Task) (state mid : State) (pieces rest : Pieces) (old on : StageTrace)
    → (to : InsertsTo task state pieces mid rest old on)
    → inserts_for task pieces.pieces ≡ inserts_for task to.first ++ inserts_for task rest.pieces
all_inserts task state mid pieces rest old on to =
    ap (inserts_for task) to.splits ∙ inserts-append task to.first rest.pieces

-- All were granted if none remains.
pub to_all : (task : Task) (state mid : State) (pieces rest : Pieces) (old on : StageTrace)
    → InsertsTo task state pieces mid rest old on → rest ≡ no_pieces
    → (pieces.fault ≡ None) × MakesOn state (inserts_for task pieces.pieces) mid old on
to_all task state mid pieces rest old on to none = (
  to.fault ∙ ap (λ (p : Pieces). p.fault) none,
  subst (λ (calls : List ScriptCall). MakesOn state calls mid old on)
      (ap (inserts_for task) (sym (append-nil to.first) ∙ ap (λ (p : Pieces). to.first ++ p.pieces) (sym none)
      ∙ sym to.splits))
      to.makes,
)

-- Some were granted, and no further one was begun.
pub to_stop : (most : ℕ) (task : Task) (state mid : State) (pieces rest : Pieces) (old on : StageTrace)
    → InsertsTo task state pieces mid rest old on → StopsOn most state (inserts_for task pieces.pieces) mid old on
to_stop most task state mid pieces rest old on to =
    subst (λ (calls : List ScriptCall). StopsOn most state calls mid old on)
    (sym (all_inserts task state mid pieces rest old on to))
    (stops_on_after most state mid (inserts_for task to.first) (inserts_for task rest.pieces) old on to.makes)

-- the end of the remaining inserts is the end of all
pub to_end : (task : Task) (state mid after : State) (pieces rest : Pieces) (old on new : StageTrace) (stop : LoadStop)
    → InsertsTo task state pieces mid rest old on → InsertsEnd task mid rest after on new stop
    → InsertsEnd task state pieces after old new stop
to_end task state mid after pieces rest old on new stop to ended = by stop ended
  where
    stops : (most : ℕ) → StopsOn most mid (inserts_for task rest.pieces) after on new
        → StopsOn most state (inserts_for task pieces.pieces) after old new
    stops most more = subst (λ (calls : List ScriptCall). StopsOn most state calls after old new)
        (sym (all_inserts task state mid pieces rest old on to))
        (stops_on_append most state mid after (inserts_for task to.first) (inserts_for task rest.pieces) old on new
        to.makes more)

    makes : MakesOn mid (inserts_for task rest.pieces) after on new
        → MakesOn state (inserts_for task pieces.pieces) after old new
    makes more = subst (λ (calls : List ScriptCall). MakesOn state calls after old new)
        (sym (all_inserts task state mid pieces rest old on to))
        (makes_on_append state mid after (inserts_for task to.first) (inserts_for task rest.pieces) old on new to.makes
        more)

    by : (stop : LoadStop) → InsertsEnd task mid rest after on new stop
        → InsertsEnd task state pieces after old new stop
    by ReadFault more = stops 0 more
    by WriteFault more = stops 1 more
    by KeeperFault more = stops 1 more
    by OutOfMemory more = stops 1 more
    by (DataFault text) (inl f) = inl (f.0, to.fault ∙ f.1, f.2, makes f.3)
    by (DataFault text) (inr f) = inr (f.0, stops 0 f.1)
    by Refused more = subst (λ (calls : List ScriptCall). RefusesOn state calls after old new)
        (sym (all_inserts task state mid pieces rest old on to))
        (refuses_on_append state mid after (inserts_for task to.first)
        (inserts_for task rest.pieces) old on new to.makes
        more)

-- ---- turns

-- Where the pieces at the start are observable, some inserts of them were granted, and the others remain now.
abbrev pub PlaysTo : Task → State → Option Pieces → State → Option Pieces → StageTrace → StageTrace → Type 0
PlaysTo task state first mid now old on =
    (pieces : Pieces) → first ≡ Some pieces
    → (rest : Pieces) × (now ≡ Some rest) × InsertsTo task state pieces mid rest old on

pub plays_none : (task : Task) (state : State) (first : Option Pieces) (on : StageTrace)
    → PlaysTo task state first state first on on
plays_none task state first on = λ pieces observed. (pieces, observed, to_none task state pieces on)

-- one insert more
pub plays_more : (task : Task) (state mid after : State) (first now next : Option Pieces) (old on new : StageTrace)
    → PlaysTo task state first mid now old on
    → ((piece : List Json) × (now ≡ option_map (before piece) next)
    × MakesOn mid (inserts_for task (piece ∷ [])) after on new)
    → PlaysTo task state first after next old new
plays_more task state mid after first now next old on new plays one = λ pieces observed.
    let to = plays pieces observed in
    let remaining = remaining_more now next one.0 to.0 to.1 one.1 in (
      remaining.0,
      remaining.1,
      to_more task state mid after pieces to.0 remaining.0 one.0 old on new to.2 remaining.2
          one.2,
    )

-- no piece remains
pub plays_all : (task : Task) (state mid : State) (first now : Option Pieces) (old on : StageTrace)
    → PlaysTo task state first mid now old on → IfSome now (λ pieces. pieces ≡ no_pieces)
    → (pieces : Pieces) → first ≡ Some pieces
    → (pieces.fault ≡ None) × MakesOn state (inserts_for task pieces.pieces) mid old on
plays_all task state mid first now old on plays none pieces observed =
    let to = plays pieces observed in
    to_all task state mid pieces to.0 old on to.2
    (subst (λ (o : Option Pieces). IfSome o (λ p. p ≡ no_pieces)) to.1 none)

-- the remaining inserts stopped so
pub plays_end : (task : Task) (state mid after : State) (first now : Option Pieces) (old on new : StageTrace)
    (stop : LoadStop) → PlaysTo task state first mid now old on
    → ((rest : Pieces) → now ≡ Some rest → InsertsEnd task mid rest after on new stop)
    → (pieces : Pieces) → first ≡ Some pieces → InsertsEnd task state pieces after old new stop
plays_end task state mid after first now old on new stop plays ended pieces observed =
    let to = plays pieces observed in
    to_end task state mid after pieces to.0 old on new stop to.2 (ended to.0 to.1)

-- one more was refused
pub plays_refused : (task : Task) (state mid after : State) (first now next : Option Pieces) (old on new : StageTrace)
    → PlaysTo task state first mid now old on → StopsReading task mid now after next on new
    → StopsReading task state first after next old new
plays_refused task state mid after first now next old on new plays stops pieces observed =
    let to = plays pieces observed in
    let more = stops to.0 to.1 in
    let r = more.2 in (
      more.0,
      more.1,
      record {
        granted = to.2.first ++ r.granted;
        refused = r.refused;
        splits = to.2.splits ∙ ap (λ (p : List (List Json)). to.2.first ++ p) r.splits
            ∙ sym (append_assoc to.2.first r.granted (r.refused ∷ more.0.pieces));
        middle = r.middle;
        on = r.on;
        makes = subst (λ (calls : List ScriptCall). MakesOn state calls r.middle old r.on)
            (sym (inserts-append task to.2.first r.granted))
            (makes_on_append state mid r.middle (inserts_for task to.2.first) (inserts_for task r.granted) old on r.on
            to.2.makes r.makes);
        refuses = r.refuses;
      },
    )

-- no further one was begun
pub plays_stop : (most : ℕ) (task : Task) (state mid : State) (first now : Option Pieces) (old on : StageTrace)
    → PlaysTo task state first mid now old on
    → (pieces : Pieces) → first ≡ Some pieces → StopsOn most state (inserts_for task pieces.pieces) mid old on
plays_stop most task state mid first now old on plays pieces observed =
    let to = plays pieces observed in to_stop most task state mid pieces to.0 old on to.2

-- what a source gave in no call, and in one more
pub counted_none : (observed : Option (List ℕ)) (given : ℕ) → IsCounted observed given observed given
counted_none observed given = ([], Gives-none observed [] refl, omega arith)

pub counted_more : (observed mid left : Option (List ℕ)) (given now then : ℕ) → IsCounted observed given mid now
    → IsCounted mid now left then → IsCounted observed given left then
counted_more observed mid left given now then first second = (
  first.0 ++ second.0,
  Gives-append observed mid left first.0 second.0 first.1 second.1,
  omega (arith, length-append first.0 second.0, first.2, second.2),
)

-- ---- what holds after several turns

-- after a granted insert, and at the end, input is not too long
pub granted_within : (r : Result Bool LoadStop) (more : Bool) (given : ℕ) → r ≡ Ok more
    → (r ≡ Err (DataFault (codes "input too long"))) ↔ (2 ^ 40 < given) → given ≤ 2 ^ 40
granted_within r more given is same =
    let few : 2 ^ 40 < given → ⊥ = λ much.
    let e : r ≡ Err (DataFault (codes "input too long")) = same.1 much in absurd (cc) in
    omega (arith, few)

-- another end, when input is not too long
pub not_too_long : (r : Result Unit LoadStop) (given : ℕ) → r ≢ Err (DataFault (codes "input too long"))
    → given ≤ 2 ^ 40 → (r ≡ Err (DataFault (codes "input too long"))) ↔ (2 ^ 40 < given)
not_too_long r given other few = (λ e. absurd (other e), λ much. absurd (omega arith))

-- after a turn
pub within_turns : (counter given : ℕ) → (counter ≡ 0) ⊎ (given ≤ 2 ^ 40) → 1 ≤ counter → given ≤ 2 ^ 40
within_turns counter given (inl none) turns = absurd (omega arith)
within_turns counter given (inr few) turns = few

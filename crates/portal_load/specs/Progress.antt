-- What the parts of a load did: the calls that were made, and what passed the devices.
use Rattle.std.specs.Prelude.{◌≡◌, ◌⊎◌, ℕ, ℤ, List, [], ◌∷◌, ◌++◌, map, Option, Some, Result, Ok, Err, codes}
use Rattle.portal_base.specs.Outside.{Takes}
use Rattle.portal_base.specs.declared.json_value.Json.{Json}
use Rattle.portal_state.specs.State.{State}
use Rattle.portal_links.specs.Desk.{DrawsAll}
use Rattle.portal_serve.specs.Calls.{MakesAllCalls, MakesCallsToRefusal, StopsCalls}
use Rattle.portal_serve.specs.Run.{StageTrace}
use Rattle.portal_serve.specs.Script.{ScriptCall}
use Rattle.row_inserts.specs.Inserts.{Pieces, faulty}
use Rattle.typed_csv.specs.Messages.{load_fault_text}
use Rattle.typed_csv.specs.declared.fault.LoadFault.{LoadFault}
use Rattle.portal_load.specs.Load.{insert_call}
use Rattle.portal_load.specs.declared.load.Task.{Task}
use Rattle.portal_load.specs.declared.stop.CallFault.{CallFault}
use Rattle.portal_load.specs.declared.stop.CallFault.TheVariants as call_fault
use Rattle.portal_load.specs.declared.stop.LoadStop.{LoadStop}
use Rattle.portal_load.specs.declared.stop.LoadStop.TheVariants as stop

-- P holds of the moments and numbers that were drawn and of the bytes that output took.
pub record PassesOutlet (P : List ℤ → List ℕ → List ℕ → Type 0) (old new : StageTrace) : Type 0 where
  pub moments : List ℤ
  pub nonces : List ℕ
  pub written : List ℕ
  pub holds : P moments nonces written
  pub output : Takes old.taken written new.taken
  pub clock : DrawsAll old.moments moments new.moments
  pub numbers : DrawsAll old.nonces nonces new.nonces

-- All of the calls were made, and each was granted.
abbrev pub MakesOn : State → List ScriptCall → State → StageTrace → StageTrace → Type 0
MakesOn state calls after old new =
    PassesOutlet (λ moments nonces written. MakesAllCalls state calls moments nonces written after) old new

-- They were made up to the first that wasn't granted.
abbrev pub RefusesOn : State → List ScriptCall → State → StageTrace → StageTrace → Type 0
RefusesOn state calls after old new =
    PassesOutlet (λ moments nonces written. MakesCallsToRefusal state calls moments nonces written after) old new

-- Some were made and granted, and at most `most` more were begun.
abbrev pub StopsOn : ℕ → State → List ScriptCall → State → StageTrace → StageTrace → Type 0
StopsOn most state calls after old new =
    PassesOutlet (λ moments nonces written. StopsCalls most state calls moments nonces written after) old new

-- The calls that were made before this fault ended them: up to a refusal; or up to a fault of output or of memory, when
-- one more may have been begun.
abbrev pub CallsEnd : State → List ScriptCall → State → StageTrace → StageTrace → CallFault → Type 0
CallsEnd state calls after old new call_fault.Refused = RefusesOn state calls after old new
CallsEnd state calls after old new call_fault.WriteFault = StopsOn 1 state calls after old new
CallsEnd state calls after old new call_fault.KeeperFault = StopsOn 1 state calls after old new
CallsEnd state calls after old new call_fault.OutOfMemory = StopsOn 1 state calls after old new

-- the inserts of these pieces
abbrev pub inserts_for : Task → List (List Json) → List ScriptCall
inserts_for task pieces = map (insert_call task.caller.now task.resource.now) pieces

-- the pieces of a CSV up to its fault; after a fault of the header there are none
abbrev pub pieces_until_fault : Result Pieces LoadFault → Pieces
pieces_until_fault (Ok pieces) = pieces
pieces_until_fault (Err why) = faulty why

-- The inserts that were played before the load stopped: as with other calls; or some were granted, and then input failed
-- or was too long; or all were granted, and then came the fault of the rows.
abbrev pub InsertsEnd : Task → State → Pieces → State → StageTrace → StageTrace → LoadStop → Type 0
InsertsEnd task state pieces after old new stop.ReadFault =
    StopsOn 0 state (inserts_for task pieces.pieces) after old new
InsertsEnd task state pieces after old new stop.WriteFault =
    StopsOn 1 state (inserts_for task pieces.pieces) after old new
InsertsEnd task state pieces after old new stop.KeeperFault =
    StopsOn 1 state (inserts_for task pieces.pieces) after old new
InsertsEnd task state pieces after old new stop.OutOfMemory =
    StopsOn 1 state (inserts_for task pieces.pieces) after old new
InsertsEnd task state pieces after old new (stop.DataFault text) =
    ((why : LoadFault) × (pieces.fault ≡ Some why) × (text ≡ load_fault_text why)
    × MakesOn state (inserts_for task pieces.pieces) after old new)
    ⊎ ((text ≡ codes "input too long") × StopsOn 0 state (inserts_for task pieces.pieces) after old new)
InsertsEnd task state pieces after old new stop.Refused = RefusesOn state (inserts_for task pieces.pieces) after old new

-- A refusal ended the inserts: those of the first pieces were granted, and that of the next one was refused. `left` is
-- what the reader of inserts has left, which is all after it: no insert was read after the refused one.
pub record RefusesInsert (task : Task) (state : State) (pieces : Pieces) (after : State) (left : Pieces)
    (old new : StageTrace) : Type 0 where
  pub granted : List (List Json)
  pub refused : List Json
  pub splits : pieces.pieces ≡ granted ++ refused ∷ left.pieces
  pub middle : State
  pub on : StageTrace
  pub makes : MakesOn state (inserts_for task granted) middle old on
  pub refuses : RefusesOn middle (inserts_for task (refused ∷ [])) after on new

-- The same where the pieces are observable: what the reader had left before, and what it has left now.
abbrev pub StopsReading : Task → State → Option Pieces → State → Option Pieces → StageTrace → StageTrace → Type 0
StopsReading task state first after now old new =
    (pieces : Pieces) → first ≡ Some pieces
    → (left : Pieces) × (now ≡ Some left) × RefusesInsert task state pieces after left old new

-- What the command `harvest` did: one call that makes a job of its source, and a round of harvests if the reply is 200.
use Rattle.std.specs.Prelude.{◌≡◌, ◌≢◌, ◌⊎◌, ℕ, List, [], ◌∷◌, codes, Result, Ok, Err}
use Rattle.std.specs.Result.{result_ok}
use Rattle.harvest_pool.specs.declared.report.RoundFault.{RoundFault}
use Rattle.harvest_pool.specs.declared.report.RoundFault.TheVariants as round_fault
use Rattle.harvest_pool.specs.declared.report.RoundReport.{RoundReport}
use Rattle.portal_base.specs.Outside.{Holdings, Takes, TakesPrefix}
use Rattle.portal_base.specs.declared.caller.Caller.TheVariants.{Named}
use Rattle.portal_base.specs.declared.json_value.Json.{Json}
use Rattle.portal_base.specs.declared.json_value.Json as json
use Rattle.portal_state.specs.State.{State}
use Rattle.portal_serve.specs.Calls.{BeginsCall, MakesCall, body_size}
use Rattle.portal_serve.specs.Rounds.{MakesRound, PoolTrace, pool_trace, report_line}
use Rattle.portal_serve.specs.Run.{StageTrace}
use Rattle.portal_serve.specs.Script.{ScriptCall}
use Rattle.portal_serve.specs.declared.calls.CallStop.{CallStop}
use Rattle.portal_serve.specs.declared.calls.CallStop.TheVariants as call_stop
use Rattle.portal_start.specs.Commands.{RoundAnswers}
use Rattle.portal_start.specs.Fetchers.{UsesFirst}
use Rattle.portal_status.specs.declared.status.Status.{Status}
use Rattle.portal_status.specs.declared.status.Status.TheVariants.{Done, WriteFault, KeeperFault, OutOfMemory}
use Rattle.portal_status.specs.declared.status.Status.TheVariants.{Refused}
use Rattle.portal_words.specs.declared.command.HarvestOptions.{HarvestOptions}

-- the status for a call that stopped
abbrev pub status_for_stop : CallStop → Status
status_for_stop call_stop.WriteFault = WriteFault
status_for_stop call_stop.KeeperFault = KeeperFault
status_for_stop call_stop.OutOfMemory = OutOfMemory

-- the status for the line of a round
abbrev pub status_for_line : Result Unit CallStop → Status
status_for_line (Ok written) = Done
status_for_line (Err stop) = status_for_stop stop

-- the status for a round that stopped before its end
abbrev pub status_for_fault : RoundFault → Status
status_for_fault round_fault.Keeper = KeeperFault
status_for_fault round_fault.OutOfMemory = OutOfMemory

-- ---- the call

-- the call that makes a job of the source, by the user of the options
abbrev pub job_body : List ℕ → Json
job_body source = json.Map ((codes "source_id", json.Text source) ∷ [])

abbrev pub job_call : HarvestOptions → ScriptCall
job_call options = record {
  caller = Named options.caller;
  action = codes "harvest_job_create";
  body = job_body options.source;
}

-- The call was made with this status of its reply, and its line was written. Its size is the length of its body's
-- compact text.
abbrev pub MakesJob : HarvestOptions → ℕ → State → State → StageTrace → StageTrace → Type 0
MakesJob options reply state after old new =
    MakesCall state (job_call options) (body_size (job_call options)) reply after old new

-- The call stopped before its line was whole. It was begun, or not even that.
abbrev pub StopsJob : HarvestOptions → State → State → StageTrace → StageTrace → Type 0
StopsJob options state after old new =
    BeginsCall state (job_call options) (body_size (job_call options)) after old new ⊎ ((after ≡ state) × (new ≡ old))

-- ---- the round

-- What was written for a round, by its answer and the status. If it went to its end, its line was written, and with
-- another status than 0 some bytes from the start of the line. If it stopped before, the status tells its fault, and
-- nothing was written.
abbrev pub WritesAnswer : Result RoundReport RoundFault → StageTrace → StageTrace → Status → Type 0
WritesAnswer (Ok report) old new status =
    (((status ≡ Done) × Takes old.taken (report_line report) new.taken)
    ⊎ (((status ≡ WriteFault) ⊎ (status ≡ OutOfMemory)) × TakesPrefix old.taken (report_line report) new.taken))
    × (new.moments ≡ old.moments) × (new.nonces ≡ old.nonces)
WritesAnswer (Err fault) old new status = (status ≡ status_for_fault fault) × (new ≡ old)

-- A round was made with this answer.
pub record RunsRound {F : Type 0} (answer : Result RoundReport RoundFault) (state after : State) (old new : StageTrace)
    (pool pool_after : PoolTrace F) (status : Status) : Type 0 where
  pub made : MakesRound pool.held state after pool.faults pool_after.faults (result_ok answer)
  pub writes : WritesAnswer answer old new status

-- Memory ran out before a round was made.
pub record RunsNoRound {F : Type 0} (state after : State) (old new : StageTrace) (pool pool_after : PoolTrace F)
    (status : Status) : Type 0 where
  pub ended : status ≡ OutOfMemory
  pub same_state : after ≡ state
  pub same_stage : new ≡ old
  pub same_fetchers : pool_after ≡ pool

-- At most one round was made, with this answer.
abbrev pub RunsRounds : {F : Type 0} → RoundAnswers → State → State → StageTrace → StageTrace → PoolTrace F → PoolTrace F
    → Status → Type 0
RunsRounds [] state after old new pool pool_after status = RunsNoRound state after old new pool pool_after status
RunsRounds (answer ∷ []) state after old new pool pool_after status =
    RunsRound answer state after old new pool pool_after status
RunsRounds (answer ∷ other ∷ more) state after old new pool pool_after status = ⊥

-- ---- the command

-- The call stopped, for the cause in the status, and no round was made.
pub record StopsAtJob {F : Type 0} (options : HarvestOptions) (state after : State) (old new : StageTrace)
    (pool pool_after : PoolTrace F) (rounds : RoundAnswers) (status : Status) : Type 0 where
  pub stop : CallStop
  pub ended : status ≡ status_for_stop stop
  pub job : StopsJob options state after old new
  pub same_fetchers : pool_after ≡ pool
  pub no_round : rounds ≡ []

-- The reply to the call isn't 200, its line was written, and no round was made. The status is `Refused`.
pub record RefusesJob {F : Type 0} (options : HarvestOptions) (state after : State) (old new : StageTrace)
    (pool pool_after : PoolTrace F) (rounds : RoundAnswers) (status : Status) : Type 0 where
  pub reply : ℕ
  pub refused : reply ≢ 200
  pub ended : status ≡ Refused
  pub job : MakesJob options reply state after old new
  pub same_fetchers : pool_after ≡ pool
  pub no_round : rounds ≡ []

-- The reply to the call is 200, its line was written, and then came the round.
pub record GrantsJob {F : Type 0} (options : HarvestOptions) (state after : State) (old new : StageTrace)
    (pool pool_after : PoolTrace F) (rounds : RoundAnswers) (status : Status) : Type 0 where
  pub middle : State
  pub on : StageTrace
  pub job : MakesJob options 200 state middle old on
  pub round : RunsRounds rounds middle after on new pool pool_after status

-- What a run of `harvest` did from a state, which it left as `after`. With status 0 the line of the call and that of
-- the round were written, and with status 10 that of the call. With any other status some prefix of these was.
abbrev pub Harvests : {F : Type 0} → HarvestOptions → State → State → StageTrace → StageTrace → PoolTrace F → PoolTrace F
    → RoundAnswers → Status → Type 0
Harvests options state after old new pool pool_after rounds status =
    StopsAtJob options state after old new pool pool_after rounds status
    ⊎ (RefusesJob options state after old new pool pool_after rounds status
    ⊎ GrantsJob options state after old new pool pool_after rounds status)

-- The same with the fetchers as the fetch of the portal file left them.
abbrev pub HarvestsFrom : {F : Type 0} → (F → Holdings) → (F → ℕ) → HarvestOptions → State → State → StageTrace
    → StageTrace → List F → List F → RoundAnswers → Status → Type 0
HarvestsFrom {F} held faults options state after old new fetchers fetchers_after rounds status =
    (begun : List F) × UsesFirst held faults options.portal fetchers begun
    × Harvests options state after old new (pool_trace held faults begun []) (pool_trace held faults fetchers_after [])
    rounds status

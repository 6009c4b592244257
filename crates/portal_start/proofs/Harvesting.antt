-- What the parts of `harvest` did: its call, its round, and the line of the round.
use Rattle.std.proofs.Common.{◌≡◌, ◌≢◌, ◌⊎◌, ℕ, ℤ, List, [], ◌∷◌, length, codes, refl, sym, ap, subst, inl, inr, Result, Ok, Err}
use Rattle.std.proofs.Common.{Option}
use Rattle.std.specs.Prelude.{OnErr, OnOk}
use Rattle.harvest_pool.specs.declared.report.RoundFault.{RoundFault}
use Rattle.harvest_pool.specs.declared.report.RoundFault.TheVariants as round_fault
use Rattle.harvest_pool.specs.declared.report.RoundReport.{RoundReport}
use Rattle.portal_base.specs.Json.{json_text}
use Rattle.portal_base.specs.Outside.{Takes, TakesPrefix}
use Rattle.portal_base.specs.declared.caller.Caller.TheVariants.{Named}
use Rattle.portal_base.specs.declared.json_value.Json.{Json}
use Rattle.portal_state.specs.State.{State}
use Rattle.portal_state.specs.declared.opening.Opening.{Opening}
use Rattle.portal_serve.specs.Calls.{body_size}
use Rattle.portal_serve.specs.Rounds.{PoolTrace, report_line}
use Rattle.portal_serve.specs.Run.{StageTrace, stage_trace}
use Rattle.portal_serve.specs.Script.{ScriptCall}
use Rattle.portal_serve.specs.declared.calls.CallStop.{CallStop}
use Rattle.portal_serve.specs.declared.calls.CallStop.TheVariants as call_stop
use Rattle.portal_start.specs.HarvestCommand.{Harvests, RunsRound, RunsRounds, WritesAnswer, job_body, job_call}
use Rattle.portal_start.specs.HarvestCommand.{status_for_fault, status_for_line, status_for_stop}
use Rattle.portal_start.specs.Commands.{RoundAnswers}
use Rattle.portal_start.specs.OverStore.{StoreTrace, WorksOver}
use Rattle.portal_status.specs.declared.status.Status.{Status}
use Rattle.portal_status.specs.declared.status.Status.TheVariants as status
use Rattle.portal_words.specs.declared.command.HarvestOptions.{HarvestOptions}

-- A call of the options' caller with the body that names the source is the call for a job.
pub on_job : (P : ScriptCall → ℕ → Type 0) (options : HarvestOptions) (name action : List ℕ) (body : Json) (size : ℕ)
    → name ≡ options.caller → action ≡ codes "harvest_job_create" → body ≡ job_body options.source
    → size ≡ length (json_text body) → P (record { caller = Named name; action = action; body = body }) size
    → P (job_call options) (body_size (job_call options))
on_job P options name action body size named acts names sized holds =
    let as_called : ScriptCall = record { caller = Named name; action = action; body = body } in
    let is : as_called ≡ job_call options = rw (named, acts, names) refl in
    subst (λ call. P call (body_size call)) is (subst (P as_called) sized holds)

-- what holds after an error, said in other words
pub on_err_as : {T E P Q : Type 0} (r : Result T E) → (P → Q) → OnErr r P → OnErr r Q
on_err_as (Ok x) then holds = tt
on_err_as (Err e) then holds = then holds

-- ---- statuses

pub written_by_stop : (stop : CallStop) → status_for_stop stop ≡ status.WriteFault → stop ≡ call_stop.WriteFault
written_by_stop call_stop.WriteFault is = refl
written_by_stop call_stop.KeeperFault is = absurd (cc)
written_by_stop call_stop.OutOfMemory is = absurd (cc)

pub kept_by_stop : (stop : CallStop) → status_for_stop stop ≡ status.KeeperFault → stop ≡ call_stop.KeeperFault
kept_by_stop call_stop.WriteFault is = absurd (cc)
kept_by_stop call_stop.KeeperFault is = refl
kept_by_stop call_stop.OutOfMemory is = absurd (cc)

-- ---- the line of a round

-- Some of the line was written before a stop that isn't the keeper's.
pub line_stopped : (stop : CallStop) → stop ≢ call_stop.KeeperFault
    → (status_for_stop stop ≡ status.WriteFault) ⊎ (status_for_stop stop ≡ status.OutOfMemory)
line_stopped call_stop.WriteFault other = inl refl
line_stopped call_stop.KeeperFault other = absurd (other refl)
line_stopped call_stop.OutOfMemory other = inr refl

pub line_by : (report : RoundReport) (old new : StageTrace) (written : Result Unit CallStop)
    → OnOk written (Takes old.taken (report_line report) new.taken)
    → OnErr written (TakesPrefix old.taken (report_line report) new.taken)
    → written ≢ Err call_stop.KeeperFault → new.moments ≡ old.moments → new.nonces ≡ old.nonces
    → WritesAnswer (Ok report) old new (status_for_line written)
line_by report old new (Ok done) takes part other moments nonces = (inl (refl, takes), moments, nonces)
line_by report old new (Err stop) takes part other moments nonces =
    (inr (line_stopped stop (λ is. other (ap Err is)), part), moments, nonces)

-- The status of a line is that of its fault.
pub line_failed : (written : Result Unit CallStop) → status_for_line written ≡ status.WriteFault
    → written ≡ Err call_stop.WriteFault
line_failed (Ok done) is = absurd (cc)
line_failed (Err stop) is = ap Err (written_by_stop stop is)

pub line_kept : (written : Result Unit CallStop) → status_for_line written ≡ status.KeeperFault
    → written ≡ Err call_stop.KeeperFault
line_kept (Ok done) is = absurd (cc)
line_kept (Err stop) is = ap Err (kept_by_stop stop is)

pub fault_kept : (fault : RoundFault) → status_for_fault fault ≡ status.KeeperFault → fault ≡ round_fault.Keeper
fault_kept round_fault.Keeper is = refl
fault_kept round_fault.OutOfMemory is = absurd (cc)

-- ---- the round

-- One round was made, and its answer is listed.
pub one_round : {F : Type 0} (rounds : RoundAnswers) (answer : Result RoundReport RoundFault) (state after : State)
    (old new : StageTrace) (pool pool_after : PoolTrace F) (ended : Status) → rounds ≡ answer ∷ []
    → RunsRound answer state after old new pool pool_after ended
    → RunsRounds rounds state after old new pool pool_after ended
one_round rounds answer state after old new pool pool_after ended is runs = rw is runs

-- What passed the stage passed the devices that it borrows.
pub stage_same : (taken taken_now : Option (List ℕ)) (moments moments_now : Option (List ℤ))
    (nonces nonces_now : Option (List ℕ)) → taken ≡ taken_now → moments ≡ moments_now → nonces ≡ nonces_now
    → stage_trace taken moments nonces ≡ stage_trace taken_now moments_now nonces_now
stage_same taken taken_now moments moments_now numbers numbers_now same_taken same_moments same_nonces =
    rw (same_taken, same_moments, same_nonces) refl

-- ---- over the store

-- What was done over the store, said in other words.
pub works_as : (opening : Opening) (store : StoreTrace) (ended : Status) {P Q : State → State → Type 0} {U V : Type 0}
    → ((state after : State) → P state after → Q state after) → (U → V)
    → WorksOver opening store ended P U → WorksOver opening store ended Q V
works_as opening store ended works untouched (inl opens) = inl (record {
  state = opens.state;
  begins = opens.begins;
  after = opens.after;
  valid = opens.valid;
  leaves = opens.leaves;
  does = works opens.state opens.after opens.does;
})
works_as opening store ended works untouched (inr (fails, same)) = inr (fails, untouched same)

-- ---- the statuses of a harvest

-- A status that is neither of words that name no command, nor of input, nor of a listener.
abbrev pub IsOfNoInput : Status → Type 0
IsOfNoInput ended =
    (ended ≢ status.Words) × (ended ≢ status.ReadFault) × (ended ≢ status.ListenFault)
    × (ended ≢ status.DataFault (codes "input too long"))

stop_is : (stop : CallStop) → IsOfNoInput (status_for_stop stop)
stop_is call_stop.WriteFault = (λ is. absurd (cc), λ is. absurd (cc), λ is. absurd (cc), λ is. absurd (cc))
stop_is call_stop.KeeperFault = (λ is. absurd (cc), λ is. absurd (cc), λ is. absurd (cc), λ is. absurd (cc))
stop_is call_stop.OutOfMemory = (λ is. absurd (cc), λ is. absurd (cc), λ is. absurd (cc), λ is. absurd (cc))

fault_is : (fault : RoundFault) → IsOfNoInput (status_for_fault fault)
fault_is round_fault.Keeper = (λ is. absurd (cc), λ is. absurd (cc), λ is. absurd (cc), λ is. absurd (cc))
fault_is round_fault.OutOfMemory = (λ is. absurd (cc), λ is. absurd (cc), λ is. absurd (cc), λ is. absurd (cc))

answer_is : (answer : Result RoundReport RoundFault) (old new : StageTrace) (ended : Status)
    → WritesAnswer answer old new ended → IsOfNoInput ended
answer_is (Ok report) old new ended (inl (done, all), moments, nonces) =
    (λ is. absurd (cc), λ is. absurd (cc), λ is. absurd (cc), λ is. absurd (cc))
answer_is (Ok report) old new ended (inr (inl failed, part), moments, nonces) =
    (λ is. absurd (cc), λ is. absurd (cc), λ is. absurd (cc), λ is. absurd (cc))
answer_is (Ok report) old new ended (inr (inr memory, part), moments, nonces) =
    (λ is. absurd (cc), λ is. absurd (cc), λ is. absurd (cc), λ is. absurd (cc))
answer_is (Err fault) old new ended (is_fault, same) = subst IsOfNoInput (sym is_fault) (fault_is fault)

rounds_is : {F : Type 0} (rounds : RoundAnswers) (state after : State) (old new : StageTrace) (pool pool_after : PoolTrace F)
    (ended : Status) → RunsRounds rounds state after old new pool pool_after ended → IsOfNoInput ended
rounds_is [] state after old new pool pool_after ended runs =
    let memory = runs.ended in (λ is. absurd (cc), λ is. absurd (cc), λ is. absurd (cc), λ is. absurd (cc))
rounds_is (answer ∷ []) state after old new pool pool_after ended runs = answer_is answer old new ended runs.writes
rounds_is (answer ∷ other ∷ more) state after old new pool pool_after ended runs = absurd runs

pub harvests_is : {F : Type 0} (options : HarvestOptions) (state after : State) (old new : StageTrace)
    (pool pool_after : PoolTrace F) (rounds : RoundAnswers) (ended : Status)
    → Harvests options state after old new pool pool_after rounds ended → IsOfNoInput ended
harvests_is options state after old new pool pool_after rounds ended (inl stops) =
    subst IsOfNoInput (sym stops.ended) (stop_is stops.stop)
harvests_is options state after old new pool pool_after rounds ended (inr (inl refuses)) =
    let refused = refuses.ended in (λ is. absurd (cc), λ is. absurd (cc), λ is. absurd (cc), λ is. absurd (cc))
harvests_is options state after old new pool pool_after rounds ended (inr (inr grants)) =
    rounds_is rounds grants.middle after grants.on new pool pool_after ended grants.round

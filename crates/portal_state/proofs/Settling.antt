-- What an answer comes to in a state.
use Rattle.std.proofs.Common.{◌≡◌, ◌≢◌, ℕ, true, false, List, [], ◌∷◌, ◌++◌, Option, Some, None, refl, sym, ap, ◌∙◌, subst}
use Rattle.std.specs.Prelude.{find, IsSome}
use Rattle.portal_base.specs.declared.caller.Caller.{Caller}
use Rattle.portal_base.specs.declared.caller.Caller.TheVariants.{Named}
use Rattle.portal_base.specs.declared.json_value.Json.{Json}
use Rattle.org_roles.specs.PeopleLists.{is_user_in}
use Rattle.datastore_answers.specs.TableAnswers.{map_answer}
use Rattle.portal_calls.specs.Answer.{AcceptsOnly}
use Rattle.portal_calls.specs.declared.answer.Answer.{Answer}
use Rattle.portal_calls.specs.declared.answer.Answer.TheVariants.{Shown, Refused, Accepted}
use Rattle.portal_calls.specs.declared.call.Call.{Call}
use Rattle.portal_events.specs.Reply.{is_change, is_name_in_use}
use Rattle.portal_events.specs.declared.event.Event.{Event}
use Rattle.portal_events.specs.declared.event.Event.TheVariants.{Call as a_call, Harvest as a_step}
use Rattle.portal_events.specs.declared.event.Refusal.TheVariants.{KeeperFault, OutOfMemory}
use Rattle.portal_events.specs.declared.event.Reply.TheVariants as reply
use Rattle.portal_events.proofs.Refusing.{quiet-refusal, refusal_kept, refusal_there}
use Rattle.portal_hall.specs.History.{replay}
use Rattle.portal_state.specs.Indexes.{IsIndexed}
use Rattle.datastore_answers.specs.Linked.{AreLinked}
use Rattle.portal_state.specs.Answer.{answer_to, planned_answer}
use Rattle.portal_state.specs.Change.{Change}
use Rattle.portal_state.specs.Changed.{AreUnused, IsUnused, applied, changed, is_in_use, with_planned}
use Rattle.portal_state.specs.Fit.{IsFit}
use Rattle.portal_state.specs.Known.{is_known, known_call}
use Rattle.portal_state.specs.Parts.{IsConsistent, planned_in, state_of}
use Rattle.portal_state.specs.Planned.{PlannedChange, change_of, claims_of}
use Rattle.portal_state.specs.State.{State}
use Rattle.portal_state.specs.Step.{answer_in, call_step, known_step, outcome_of, outcome_unless_in_use, planned_outcome}
use Rattle.portal_state.specs.Step.{step_of}
use Rattle.portal_state.specs.Valid.{IsValid}
use Rattle.portal_state.specs.View.{view_of}
use Rattle.portal_state.specs.declared.change.Claim.{Claim}
use Rattle.portal_state.specs.declared.parts.Parts.{Parts}
use Rattle.portal_state.specs.declared.parts.PreparedChange.{PreparedChange}
use Rattle.portal_state.proofs.Answering.{answer_fit}
use Rattle.portal_state.proofs.ChangeEntries.{applied-planned}
use Rattle.portal_state.proofs.Keeping.{changed_valid, charged_valid, fit_in_valid}
use Rattle.portal_state.proofs.Knowing.{by_nobody, unknown-call}
use Rattle.portal_state.proofs.HarvestKeeping.{unaccepted-same}
use Rattle.portal_state.proofs.StepKeeping.{stepped_valid}

-- ---- what is accepted

-- a change without a reply of a name in use claims nothing in use
pub quiet-unused : (json : Json) (change : Change) (call : Call) (state : State)
    → is_name_in_use (outcome_of (Accepted json change) call state).reply ≡ false → IsUnused state change
quiet-unused json change call state quiet = by (find (is_in_use state) change.claims) quiet
  where
    by : (claim : Option Claim) → is_name_in_use (outcome_unless_in_use claim call json change state).reply ≡ false
        → claim ≡ None
    by None q = refl
    by (Some c) q = absurd (cc)

-- and so does what is accepted
pub accepted-unused : (json : Json) (change : Change) (call : Call) (state : State)
    → (outcome_of (Accepted json change) call state).is_accepted ≡ true → IsUnused state change
accepted-unused json change call state made_there = by (find (is_in_use state) change.claims) made_there
  where
    by : (claim : Option Claim) → (outcome_unless_in_use claim call json change state).is_accepted ≡ true → claim ≡ None
    by None m = refl
    by (Some c) m = absurd (cc)

-- what claims nothing in use is accepted
pub outcome_unused : (json : Json) (change : Change) (call : Call) (state : State) → IsUnused state change
    → outcome_of (Accepted json change) call state
    ≡ (record { core = applied call change state; reply = reply.Accepted json; is_accepted = true })
outcome_unused json change call state unused =
    ap (λ (claim : Option Claim). outcome_unless_in_use claim call json change state) unused

-- An accepted change is a planned one, written out on the view.
pub accepted-planned : (call : Call) (view : State) (json : Json) (change : Change)
    → answer_to call view ≡ Accepted json change
    → (planned : PlannedChange) × (planned_answer call view ≡ Accepted json planned) × (change ≡ change_of planned view)
accepted-planned call view json change is = by (planned_answer call view) refl is
  where
    by : (answer : Answer PlannedChange) → planned_answer call view ≡ answer
        → map_answer (λ planned. change_of planned view) answer ≡ Accepted json change
        → (planned : PlannedChange) × (planned_answer call view ≡ Accepted json planned)
        × (change ≡ change_of planned view)
    by (Shown shown) there same = absurd (cc)
    by (Refused denial) there same = absurd (cc)
    by (Accepted value planned) there same =
        let as_json : value ≡ json = cc in
        let as_change : change_of planned view ≡ change = cc in
        (planned, there ∙ ap (λ (j : Json). Accepted j planned) as_json, sym as_change)

-- ---- replies of a name in use

told-used : (json : Json) (change : Change) (call : Call) (state : State)
    → is_name_in_use (outcome_of (Accepted json change) call state).reply ≡ true
    → IsSome (find (is_in_use state) change.claims)
told-used json change call state told = by (find (is_in_use state) change.claims) told
  where
    by : (claim : Option Claim) → is_name_in_use (outcome_unless_in_use claim call json change state).reply ≡ true
        → IsSome claim
    by None t = absurd (cc)
    by (Some c) t = refl

-- only an answer that accepts can get the reply of a name in use
pub used-accepted : (state : State) (call : Call) → is_name_in_use (call_step state call).reply ≡ true
    → (json : Json) × (change : Change) × (answer_in state (known_call state.people call) ≡ Accepted json change)
    × IsSome (find (is_in_use state) change.claims)
used-accepted state call told = by (answer_in state (known_call state.people call)) refl told
  where
    by : (answer : Answer Change) → answer_in state (known_call state.people call) ≡ answer
        → is_name_in_use (outcome_of answer (known_call state.people call) state).reply ≡ true
        → (json : Json) × (change : Change) × (answer_in state (known_call state.people call) ≡ Accepted json change)
        × IsSome (find (is_in_use state) change.claims)
    by (Shown json) is t = absurd (cc)
    by (Refused denial) is t = absurd (let quiet = quiet-refusal denial in cc)
    by (Accepted json change) is t = (json, change, is, told-used json change (known_call state.people call) state t)

-- and an answer that accepts and claims nothing in use is made
pub unused-applied : (state : State) (call : Call) (json : Json) (change : Change)
    → answer_in state (known_call state.people call) ≡ Accepted json change → IsUnused state change
    → call_step state call
    ≡ (record {
      core = applied (known_call state.people call) change state;
      reply = reply.Accepted json;
      is_accepted = true;
    })
unused-applied state call json change accepted unused =
    ap (λ (answer : Answer Change). outcome_of answer (known_call state.people call) state) accepted
    ∙ outcome_unused json change (known_call state.people call) state unused

-- ---- what isn't accepted

pub outcome_of-same : (answer : Answer Change) (call : Call) (state : State)
    → (outcome_of answer call state).is_accepted ≡ false → (outcome_of answer call state).core ≡ state
outcome_of-same (Shown json) call state not_made = refl
outcome_of-same (Refused denial) call state not_made = refl
outcome_of-same (Accepted json change) call state not_made = by (find (is_in_use state) change.claims) not_made
  where
    by : (claim : Option Claim) → (outcome_unless_in_use claim call json change state).is_accepted ≡ false
        → (outcome_unless_in_use claim call json change state).core ≡ state
    by None m = absurd (cc)
    by (Some c) m = refl

pub refused-same : (state : State) (event : Event) → (step_of state event).is_accepted ≡ false
    → (step_of state event).core ≡ state
refused-same state (a_call call) not_made =
    outcome_of-same (answer_in state (known_call state.people call)) (known_call state.people call) state not_made
refused-same state (a_step step) not_made = unaccepted-same step state not_made

-- A change is accepted exactly if the reply is one of a change.
outcome_of-change : (answer : Answer Change) (call : Call) (state : State)
    → (outcome_of answer call state).is_accepted ≡ is_change (outcome_of answer call state).reply
outcome_of-change (Shown json) call state = refl
outcome_of-change (Refused denial) call state = refl
outcome_of-change (Accepted json change) call state = by (find (is_in_use state) change.claims)
  where
    by : (claim : Option Claim)
        → (outcome_unless_in_use claim call json change state).is_accepted
        ≡ is_change (outcome_unless_in_use claim call json change state).reply
    by None = refl
    by (Some c) = refl

pub accepted-change : (state : State) (event : Event)
    → (step_of state event).is_accepted ≡ is_change (step_of state event).reply
accepted-change state (a_call call) =
    outcome_of-change (answer_in state (known_call state.people call)) (known_call state.people call) state
accepted-change state (a_step step) = refl

-- ---- callers whom no user has

pub unknown-step : (state : State) (call : Call) (user : List ℕ) → call.caller ≡ Named user
    → is_user_in state.people user ≡ false → call_step state call ≡ call_step state (by_nobody call)
unknown-step state call user named unknown =
    ap (known_step state)
    (unknown-call state.people call
    (subst (λ (caller : Caller). is_known state.people caller ≡ false) (sym named) unknown))

-- ---- what is valid stays so

pub with_planned_valid : (planned : PlannedChange) (call : Call) (state : State) → IsValid state
    → IsFit call (view_of call.caller state) planned → AreUnused state (claims_of planned)
    → IsValid (with_planned call planned state)
with_planned_valid planned call state valid fit unused =
    charged_valid call.caller call.size (changed planned state)
    (changed_valid planned call state valid (fit_in_valid planned call state valid fit) unused)

applied_valid : (planned : PlannedChange) (call : Call) (state : State) → IsValid state
    → IsFit call (view_of call.caller state) planned → AreUnused state (claims_of planned)
    → IsValid (applied call (change_of planned (view_of call.caller state)) state)
applied_valid planned call state valid fit unused =
    subst IsValid (sym (applied-planned planned call state valid fit))
    (with_planned_valid planned call state valid fit unused)

-- What is planned, and claims nothing in use, is made.
pub planned-unused : (json : Json) (planned : PlannedChange) (call : Call) (state : State) → IsValid state
    → IsFit call (view_of call.caller state) planned → AreUnused state (claims_of planned)
    → planned_outcome json planned call state
    ≡ (record { core = with_planned call planned state; reply = reply.Accepted json; is_accepted = true })
planned-unused json planned call state valid fit unused =
    outcome_unused json (change_of planned (view_of call.caller state)) call state unused
    ∙ ap (λ (s : State). record { core = s; reply = reply.Accepted json; is_accepted = true })
    (applied-planned planned call state valid fit)

-- ---- the parts

-- Parts that make up the same state as consistent ones are consistent.
pub kept_consistent : (old new : Parts) → IsConsistent old → state_of new ≡ state_of old → IsIndexed new.shelf new.indexes
    → IsConsistent new
kept_consistent old new consistent same shelved = record {
  valid = subst IsValid (sym same) consistent.valid;
  shelved = shelved;
}

-- So are parts in which a change was made.
pub applied_consistent : (planned : PlannedChange) (call : Call) (old new : Parts) → IsConsistent old
    → IsFit call (view_of call.caller (state_of old)) planned → AreUnused (state_of old) (claims_of planned)
    → state_of new ≡ with_planned call planned (state_of old) → IsIndexed new.shelf new.indexes → IsConsistent new
applied_consistent planned call old new consistent fit unused is shelved = record {
  valid = subst IsValid (sym is) (with_planned_valid planned call (state_of old) consistent.valid fit unused);
  shelved = shelved;
}

-- After a prepared change that is fit, the references between tables hold.
pub linked_after : (planned : PlannedChange) (change : PreparedChange) (call : Call) (old new : Parts)
    → IsConsistent old → IsFit call (state_of old) planned → AreUnused (state_of old) (claims_of planned)
    → state_of new ≡ state_of old → planned_in change ≡ planned
    → AreLinked (changed (planned_in change) (state_of new)).tables
linked_after planned change call old new consistent fit unused same is =
    subst (λ (s : State). AreLinked (changed (planned_in change) s).tables) (sym same)
    (subst (λ (p : PlannedChange). AreLinked (changed p (state_of old)).tables) (sym is)
    (changed_valid planned call (state_of old) consistent.valid fit unused).tables.linked)

-- ---- steps

outcome_of-valid : (answer : Answer PlannedChange) (call : Call) (state : State) → IsValid state
    → AcceptsOnly (IsFit call (view_of call.caller state)) answer
    → IsValid (outcome_of (map_answer (λ planned. change_of planned (view_of call.caller state)) answer) call state).core
outcome_of-valid (Shown json) call state valid fit = valid
outcome_of-valid (Refused denial) call state valid fit = valid
outcome_of-valid (Accepted json planned) call state valid fit = by (find (is_in_use state) (claims_of planned)) refl
  where
    change : Change
    change = change_of planned (view_of call.caller state)

    by : (claim : Option Claim) → find (is_in_use state) (claims_of planned) ≡ claim
        → IsValid (outcome_unless_in_use claim call json change state).core
    by (Some c) is = valid
    by None is = applied_valid planned call state valid fit is

pub step-valid : (state : State) (event : Event) → IsValid state → IsValid (step_of state event).core
step-valid state (a_call call) valid =
    let known : Call = known_call state.people call in
    outcome_of-valid (planned_answer known (view_of known.caller state)) known state valid
    (answer_fit known (view_of known.caller state))
step-valid state (a_step step) valid = stepped_valid step state valid

pub replay-valid : (state : State) (events : List Event) → IsValid state → IsValid (replay step_of state events)
replay-valid state [] valid = valid
replay-valid state (e ∷ events) valid = replay-valid (step_of state e).core events (step-valid state e valid)

-- ---- a replay goes on

pub replay-append : (state : State) (events more : List Event)
    → replay step_of state (events ++ more) ≡ replay step_of (replay step_of state events) more
replay-append state [] more = refl
replay-append state (e ∷ events) more = replay-append (step_of state e).core events more

-- ---- the reply of a step is no fault

settled_there : (answer : Answer Change) (call : Call) (state : State)
    → (outcome_of answer call state).reply ≢ reply.Refused OutOfMemory
settled_there (Shown json) call state = λ is. absurd (cc)
settled_there (Refused denial) call state = refusal_there denial
settled_there (Accepted json change) call state = by (find (is_in_use state) change.claims)
  where
    by : (claim : Option Claim) → (outcome_unless_in_use claim call json change state).reply ≢ reply.Refused OutOfMemory
    by None = λ is. absurd (cc)
    by (Some c) = λ is. absurd (cc)

-- It is never that memory ran out,
pub step_there : (state : State) (event : Event) → (step_of state event).reply ≢ reply.Refused OutOfMemory
step_there state (a_call call) =
    settled_there (answer_in state (known_call state.people call)) (known_call state.people call) state
step_there state (a_step step) = λ is. absurd (cc)

settled_kept : (answer : Answer Change) (call : Call) (state : State)
    → (outcome_of answer call state).reply ≢ reply.Refused KeeperFault
settled_kept (Shown json) call state = λ is. absurd (cc)
settled_kept (Refused denial) call state = refusal_kept denial
settled_kept (Accepted json change) call state = by (find (is_in_use state) change.claims)
  where
    by : (claim : Option Claim) → (outcome_unless_in_use claim call json change state).reply ≢ reply.Refused KeeperFault
    by None = λ is. absurd (cc)
    by (Some c) = λ is. absurd (cc)

-- nor that the keeper failed.
pub step_kept : (state : State) (event : Event) → (step_of state event).reply ≢ reply.Refused KeeperFault
step_kept state (a_call call) =
    settled_kept (answer_in state (known_call state.people call)) (known_call state.people call) state
step_kept state (a_step step) = λ is. absurd (cc)

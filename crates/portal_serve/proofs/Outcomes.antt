-- The outcome of a call whose request was read first, and the line for it.
use Rattle.std.proofs.Common.{◌≡◌, ◌≢◌, ◌⊎◌, ℕ, ℤ, List, Some, Result, Ok, Err, OnOk, IfOk, IfErr, sym, ap, ◌∙◌, inl, inr}
use Rattle.action_api.specs.Request.{request_for}
use Rattle.action_api.specs.declared.early.Early.{Early}
use Rattle.action_api.specs.declared.early.Early.TheVariants.{OutOfMemory}
use Rattle.portal_base.specs.declared.caller.Caller.{Caller}
use Rattle.portal_base.specs.declared.json_value.Json.{Json}
use Rattle.portal_calls.specs.declared.call.Request.{Request}
use Rattle.portal_state.specs.State.{State}
use Rattle.portal_state.specs.Step.{call_step}
use Rattle.portal_events.specs.declared.event.Reply.{Reply}
use Rattle.portal_links.specs.Asked.{call_of}
use Rattle.portal_serve.specs.RequestOutcome.{RequestOutcome, outcome_of_request}
use Rattle.portal_serve.specs.Script.{ScriptCall}
use Rattle.portal_serve.specs.Transcript.{outcome_of_call, reply_line}

-- the reply to the call of a line, whose request was read first
outcome_read : (state : State) (call : ScriptCall) (size : ℕ) (m : ℤ) (n : ℕ) (request : Result Request Early)
    (reply : Result Reply Early)
    → request ≡ request_for call.action call.body
    → reply ≡ (outcome_of_request state call.caller size m n request).reply
    → reply ≡ (outcome_of_call state call size m n).reply
outcome_read state call size m n request reply is outcome =
    outcome ∙ ap (λ r. (outcome_of_request state call.caller size m n r).reply) is

-- the state after it
left_read : (state after : State) (call : ScriptCall) (size : ℕ) (m : ℤ) (n : ℕ) (request : Result Request Early)
    → request ≡ request_for call.action call.body
    → after ≡ (outcome_of_request state call.caller size m n request).state
    → after ≡ (outcome_of_call state call size m n).state
left_read state after call size m n request is left =
    left ∙ ap (λ r. (outcome_of_request state call.caller size m n r).state) is

-- a request that was read, or a fault other than out of memory, is that of the name and the body
pub request_made : (name : List ℕ) (body : Json) (request : Result Request Early)
    → IfOk request (λ r. request_for name body ≡ Ok r)
    → IfErr request (λ e. (e ≡ OutOfMemory) ⊎ (request_for name body ≡ Err e))
    → (request ≡ Err OutOfMemory → ⊥) → request ≡ request_for name body
request_made name body (Ok r) value fault known = sym value
request_made name body (Err e) value (inl wanting) known = absurd (known (ap (λ f. Err f) wanting))
request_made name body (Err e) value (inr is) known = sym is

-- the reply to a request that there is
pub reply_made : (state : State) (caller : Caller) (request : Result Request Early) (r : Request) (size : ℕ) (m : ℤ)
    (n : ℕ) (reply : Reply)
    → request ≡ Ok r → reply ≡ (call_step state (call_of caller r size m n)).reply
    → Ok reply ≡ (outcome_of_request state caller size m n request).reply
reply_made state caller request r size m n reply is made =
    ap (λ x. Ok x) made ∙ sym (ap (λ x. (outcome_of_request state caller size m n x).reply) is)

-- the state after the call of a request
pub state_made : (state after : State) (caller : Caller) (request : Result Request Early) (r : Request) (size : ℕ) (m : ℤ)
    (n : ℕ)
    → request ≡ Ok r → after ≡ (call_step state (call_of caller r size m n)).core
    → after ≡ (outcome_of_request state caller size m n request).state
state_made state after caller request r size m n is made =
    made ∙ sym (ap (λ x. (outcome_of_request state caller size m n x).state) is)

-- the reply of a call where memory didn't run out
pub outcome_in : {E : Type 0} (state : State) (call : ScriptCall) (size : ℕ) (m : ℤ) (n : ℕ)
    (request : Result Request Early) (result : Result (Result Reply Early) E)
    → IfOk request (λ r. request_for call.action call.body ≡ Ok r)
    → IfErr request (λ e. (e ≡ OutOfMemory) ⊎ (request_for call.action call.body ≡ Err e))
    → IfOk result (λ reply. reply ≡ (outcome_of_request state call.caller size m n request).reply)
    → OnOk result (request ≢ Err OutOfMemory)
    → IfOk result (λ reply. reply ≡ (outcome_of_call state call size m n).reply)
outcome_in state call size m n request (Ok reply) value fault outcome known =
    outcome_read state call size m n request reply
    (request_made call.action call.body request value fault known) outcome
outcome_in state call size m n request (Err e) value fault outcome known = tt

-- the state after it
pub left_in : {E : Type 0} (state after : State) (call : ScriptCall) (size : ℕ) (m : ℤ) (n : ℕ)
    (request : Result Request Early) (result : Result (Result Reply Early) E)
    → IfOk request (λ r. request_for call.action call.body ≡ Ok r)
    → IfErr request (λ e. (e ≡ OutOfMemory) ⊎ (request_for call.action call.body ≡ Err e))
    → OnOk result (after ≡ (outcome_of_request state call.caller size m n request).state)
    → OnOk result (request ≢ Err OutOfMemory)
    → OnOk result (after ≡ (outcome_of_call state call size m n).state)
left_in state after call size m n request (Ok reply) value fault left known =
    left_read state after call size m n request (request_made call.action call.body request value fault known) left
left_in state after call size m n request (Err e) value fault left known = tt

-- the outcome of a call whose action was read
pub outcome_as : (state : State) (call : ScriptCall) (size : ℕ) (m : ℤ) (n : ℕ) (action : List ℕ)
    → action ≡ call.action
    → outcome_of_call state (record { caller = call.caller; action = action; body = call.body }) size m n
    ≡ outcome_of_call state call size m n
outcome_as state call size m n action is =
    ap (λ a. outcome_of_call state (record { caller = call.caller; action = a; body = call.body }) size m n) is

-- the line for a call whose action was read twice
pub line_written : (state : State) (call : ScriptCall) (size : ℕ) (m : ℤ) (n : ℕ) (first second : List ℕ)
    (reply : Result Reply Early) (line : List ℕ)
    → first ≡ call.action → second ≡ call.action
    → reply ≡
    (outcome_of_call state (record { caller = call.caller; action = first; body = call.body }) size m n).reply
    → line ≡ reply_line (Some second) reply
    → line ≡ reply_line (Some call.action) (outcome_of_call state call size m n).reply
line_written state call size m n first second reply line one two outcome wrote =
    wrote ∙ ap (λ a. reply_line (Some a) reply) two
    ∙ ap (λ r. reply_line (Some call.action) r)
    (outcome ∙ ap (λ (r : RequestOutcome). r.reply) (outcome_as state call size m n first one))

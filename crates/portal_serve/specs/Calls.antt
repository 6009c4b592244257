-- Calls that are made one after another, up to the first whose reply isn't 200.
use Rattle.std.specs.Prelude.{◌≡◌, ◌⊎◌, ℕ, ◌+◌, ◌≤◌, ◌==◌, ℤ, Bool, true, false, List, [], ◌∷◌, length, take, map, Some}
use Rattle.std.specs.Prelude.{if◌then◌else◌}
use Rattle.std.specs.List.{concat, list_all}
use Rattle.action_api.specs.Reply.{reply_status}
use Rattle.portal_base.specs.Json.{json_text}
use Rattle.portal_base.specs.Outside.{Takes, TakesPrefix}
use Rattle.portal_state.specs.State.{State}
use Rattle.portal_serve.specs.RequestOutcome.{RequestOutcome}
use Rattle.portal_links.specs.Desk.{DrawsAll}
use Rattle.portal_serve.specs.Run.{Begins, StageTrace}
use Rattle.portal_serve.specs.Script.{ScriptCall}
use Rattle.portal_serve.specs.Transcript.{outcome_of_call, reply_line}

-- ---- one call on devices

-- The call was made with a moment and a nonce that were drawn for it: its reply has this status, its line was written,
-- and this is the state that it leaves.
pub record MakesCall (state : State) (call : ScriptCall) (size status : ℕ) (after : State) (old new : StageTrace) : Type
    0
  where
    pub moment : ℤ
    pub nonce : ℕ
    pub answer : status ≡ reply_status (outcome_of_call state call size moment nonce).reply
    pub leaves : after ≡ (outcome_of_call state call size moment nonce).state
    pub output : Takes old.taken (reply_line (Some call.action) (outcome_of_call state call size moment nonce).reply)
        new.taken
    pub clock : DrawsAll old.moments (moment ∷ []) new.moments
    pub numbers : DrawsAll old.nonces (nonce ∷ []) new.nonces

-- The call was begun: its moment and its nonce were drawn, and output took some prefix of its reply's line. The state
-- is as before, or the one that the call leaves.
pub record BeginsCall (state : State) (call : ScriptCall) (size : ℕ) (after : State) (old new : StageTrace) : Type 0
  where
    pub moment : ℤ
    pub nonce : ℕ
    pub leaves : (after ≡ state) ⊎ (after ≡ (outcome_of_call state call size moment nonce).state)
    pub output : TakesPrefix old.taken (reply_line (Some call.action)
        (outcome_of_call state call size moment nonce).reply)
        new.taken
    pub clock : DrawsAll old.moments (moment ∷ []) new.moments
    pub numbers : DrawsAll old.nonces (nonce ∷ []) new.nonces

-- ---- calls in order

-- a call's size is the length of its body's compact text
abbrev pub body_size : ScriptCall → ℕ
body_size call = length (json_text call.body)

-- a call, and its outcome
pub record Exchange : Type 0 where
  pub call : ScriptCall
  pub outcome : RequestOutcome

abbrev pub exchange : ScriptCall → RequestOutcome → Exchange
exchange call outcome = record { call = call; outcome = outcome }

-- its reply is 200
abbrev pub is_granted : Exchange → Bool
is_granted e = reply_status e.outcome.reply == 200

-- The exchanges of calls that are made in order from a state. Each takes the next moment and the next nonce. None is
-- made after one that isn't granted, nor without a moment and a nonce.
abbrev pub exchanges : State → List ScriptCall → List ℤ → List ℕ → List Exchange
exchanges state [] moments nonces = []
exchanges state (call ∷ calls) [] nonces = []
exchanges state (call ∷ calls) (m ∷ moments) [] = []
exchanges state (call ∷ calls) (m ∷ moments) (n ∷ nonces) =
    exchange call (outcome_of_call state call (body_size call) m n)
    ∷ (if reply_status (outcome_of_call state call (body_size call) m n).reply == 200
    then exchanges (outcome_of_call state call (body_size call) m n).state calls moments nonces
    else [])

abbrev pub are_granted : List Exchange → Bool
are_granted made = list_all is_granted made

-- the lines that are written for them
abbrev pub lines_of : List Exchange → List ℕ
lines_of made = concat (map (λ e. reply_line (Some e.call.action) e.outcome.reply) made)

-- the state after them, where they were made from this one
abbrev pub state_after_calls : State → List Exchange → State
state_after_calls state [] = state
state_after_calls state (e ∷ made) = state_after_calls e.outcome.state made

-- Calls were made in order, as many as moments and nonces were drawn. Their lines were written, and this is the state
-- after them.
pub record MakesCalls (state : State) (calls : List ScriptCall) (moments : List ℤ) (nonces written : List ℕ)
    (after : State) : Type 0 where
  pub moments_drawn : length moments ≡ length (exchanges state calls moments nonces)
  pub nonces_drawn : length nonces ≡ length (exchanges state calls moments nonces)
  pub output : written ≡ lines_of (exchanges state calls moments nonces)
  pub leaves : after ≡ state_after_calls state (exchanges state calls moments nonces)

-- All of the calls were made, and each was granted.
pub record MakesAllCalls (state : State) (calls : List ScriptCall) (moments : List ℤ) (nonces written : List ℕ)
    (after : State) : Type 0 where
  pub makes : MakesCalls state calls moments nonces written after
  pub all : length (exchanges state calls moments nonces) ≡ length calls
  pub granted : are_granted (exchanges state calls moments nonces) ≡ true

-- The calls were made up to the first that isn't granted.
pub record MakesCallsToRefusal (state : State) (calls : List ScriptCall) (moments : List ℤ) (nonces written : List ℕ)
    (after : State) : Type 0 where
  pub makes : MakesCalls state calls moments nonces written after
  pub refused : are_granted (exchanges state calls moments nonces) ≡ false

-- Making calls stopped. The first ones were made and granted, and at most `limit` more were begun, with these moments
-- and nonces, one of each for every call. The lines of the made ones were written, and some prefix of those of the
-- others. The state is the one after the made ones, or after all.
pub record StopsCalls (limit : ℕ) (state : State) (calls : List ScriptCall) (moments : List ℤ) (nonces written : List ℕ)
    (after : State) : Type 0 where
  pub moments_drawn : length moments ≡ length (exchanges state calls moments nonces)
  pub nonces_drawn : length nonces ≡ length (exchanges state calls moments nonces)
  pub made : ℕ
  pub few : length (exchanges state calls moments nonces) ≤ made + limit
  pub granted : are_granted (take made (exchanges state calls moments nonces)) ≡ true
  pub holds : Begins (lines_of (take made (exchanges state calls moments nonces))) written
  pub begins : Begins written (lines_of (exchanges state calls moments nonces))
  pub leaves : (after ≡ state_after_calls state (take made (exchanges state calls moments nonces)))
      ⊎ (after ≡ state_after_calls state (exchanges state calls moments nonces))

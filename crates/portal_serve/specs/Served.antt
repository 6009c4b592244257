-- The response to the request of a connection, and the state after it.
use Rattle.std.specs.Prelude.{◌≡◌, ◌⊎◌, ℕ, ℤ, List, Some, IfSome, Result, Ok, Err}
use Rattle.action_api.specs.Reply.{reply_text}
use Rattle.http_front.specs.Request.{IsReceived, UnlessFails}
use Rattle.http_front.specs.Taken.{Leaves}
use Rattle.http_front.specs.declared.fault.FrontFault.{FrontFault}
use Rattle.http_front.specs.declared.incoming.Incoming.{Incoming}
use Rattle.portal_links.specs.Asked.{name_in, request_in, size_in, token_in}
use Rattle.portal_links.specs.Tokens.{Digests, caller_of_token}
use Rattle.portal_links.specs.Written.{IsReadingAnswer, LinkTrace, Writes, WritesFault, fault_text, memory_text, store_text}
use Rattle.portal_links.specs.declared.written.Served.{Served}
use Rattle.portal_state.specs.State.{State}
use Rattle.portal_serve.specs.RequestOutcome.{RequestOutcome, outcome_of_request}

-- The outcome of a received request, as a call of the token's user with this moment and nonce.
abbrev pub outcome_of_incoming : Digests → State → ℤ → ℕ → Incoming → RequestOutcome
outcome_of_incoming digests state moment nonce incoming =
    outcome_of_request state (caller_of_token digests (token_in incoming)) (size_in incoming) moment nonce
    (request_in incoming)

-- the status and the text of the reply
abbrev pub answer_text : Incoming → RequestOutcome → ℕ × List ℕ
answer_text incoming outcome = reply_text (Some (name_in incoming)) outcome.reply

-- The text is that of the reply, and the state is that of the outcome. Or it says that the store failed, and the state is
-- as before.
abbrev pub RepliesWith : Incoming → RequestOutcome → State → ℕ × List ℕ → State → Type 0
RepliesWith incoming outcome state text after =
    ((text ≡ answer_text incoming outcome) × (after ≡ outcome.state))
    ⊎ ((text ≡ store_text incoming) × (after ≡ state))

-- The reply to the request was written, and the state is that of its outcome. Where the store failed, the reply says so, and
-- the state is as before. Where memory ran out, the reply says so, and the call may have been made or not.
abbrev pub Answers : Incoming → RequestOutcome → State → LinkTrace → LinkTrace → Served → State → Type 0
Answers incoming outcome state old new end after =
    (Writes (answer_text incoming outcome) old new end × (after ≡ outcome.state))
    ⊎ ((Writes (store_text incoming) old new end × (after ≡ state))
    ⊎ (Writes memory_text old new end × ((after ≡ state) ⊎ (after ≡ outcome.state))))

-- The response to what was received was written, and this is the state after it.
abbrev pub Processes : Digests → State → ℤ → ℕ → Result Incoming FrontFault → LinkTrace → LinkTrace → Served → State
    → Type 0
Processes digests state moment nonce (Ok incoming) old new end after =
    Answers incoming (outcome_of_incoming digests state moment nonce incoming) state old new end after
Processes digests state moment nonce (Err fault) old new end after =
    WritesFault fault (fault_text fault) old new end × (after ≡ state)

-- A connection was served: a request or a fault was received, which is the one of the link's bytes where they are
-- observable, its response was written, and no byte was taken but those of what was received.
pub record Serves (digests : Digests) (state : State) (moment : ℤ) (nonce : ℕ) (old new : LinkTrace) (end : Served)
    (after : State) : Type 0 where
  pub received : Result Incoming FrontFault
  pub receives : IfSome old.to_come (λ bytes. UnlessFails received (IsReceived IsReadingAnswer bytes received))
  pub leaves : Leaves IsReadingAnswer old.to_come new.to_come received
  pub processes : Processes digests state moment nonce received old new end after

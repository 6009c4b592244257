-- A link that is served by a pass of a hall: its call is made of what was received, and its reply is the one at a point of
-- the hall's history.
use Rattle.std.specs.Prelude.{◌≡◌, ◌≢◌, ℕ, ℤ, ◌≤◌, IsTrue, List, [], ◌∷◌, length, Option, Some, None, IfSome, Result, Ok, Err}
use Rattle.action_api.specs.Reply.{reply_text}
use Rattle.action_api.specs.declared.early.Early.{Early}
use Rattle.hall_posts.specs.Replies.{IsReplyAt}
use Rattle.http_front.specs.Request.{IsReceived, UnlessFails}
use Rattle.http_front.specs.Taken.{Leaves}
use Rattle.http_front.specs.declared.fault.FrontFault.{FrontFault}
use Rattle.http_front.specs.declared.incoming.Incoming.{Incoming}
use Rattle.portal_calls.specs.declared.call.Call.{Call}
use Rattle.portal_events.specs.Reply.{is_of_call}
use Rattle.portal_events.specs.declared.event.Event.{Event}
use Rattle.portal_events.specs.declared.event.Event.TheVariants.{Call as a_call}
use Rattle.portal_events.specs.declared.event.Refusal.TheVariants.{KeeperFault, OutOfMemory}
use Rattle.portal_events.specs.declared.event.Reply.{Reply}
use Rattle.portal_events.specs.declared.event.Reply.TheVariants.{Refused}
use Rattle.portal_hall.specs.History.{Step}
use Rattle.portal_links.specs.Asked.{call_in, name_in}
use Rattle.portal_links.specs.Tokens.{Digests}
use Rattle.portal_links.specs.Written.{IsReadingAnswer, LinkTrace, Writes, WritesFault, fault_text, memory_text}
use Rattle.portal_links.specs.declared.written.Served.{Served}

-- the indexes that a pass gained, by the index of the one event that was accepted
abbrev pub indexes_in : Option ℕ → List ℕ
indexes_in None = []
indexes_in (Some k) = k ∷ []

-- The pass acted when the history had this length, which is what it has then seen. An accepted event wasn't seen before.
abbrev pub IsActed : {E : Type 0} → List E → List E → ℕ → Option ℕ → Type 0
IsActed before after front entry = (front ≡ length after) × IfSome entry (λ k. length before ≤ k)

-- the text that was told of a call, or the one where memory runs out
abbrev pub text_or_memory : Option (ℕ × List ℕ) → ℕ × List ℕ
text_or_memory None = memory_text
text_or_memory (Some text) = text

module _ {C : Type 0} (step : C → Event → Step C Reply) (IsOutOfMemory IsFault : Reply → Type 0) where
  -- A call gets a reply to a call, which doesn't say that the store failed. A reply that tells of no memory or of a fault is
  -- one of the two refusals for that.
  pub record AnswersCalls : Type 0 where
    pub answers : (core : C) (call : Call) → IsTrue (is_of_call (step core (a_call call)).reply)
    pub kept : (core : C) (call : Call) → (step core (a_call call)).reply ≢ Refused KeeperFault
    pub memory : (reply : Reply) → IsOutOfMemory reply → reply ≡ Refused OutOfMemory
    pub fault : (reply : Reply) → IsFault reply → reply ≡ Refused KeeperFault

  module _ (core : C) (before after : List Event) where
    -- What was told of a call of the action of that name. `front` is the length of the history at the call's reply, and
    -- `entry` the call's index in it, if it was accepted. `before` and `after` are what the pass had seen. Without a front
    -- there was no call, or memory ran out before it. Where there is no text, memory ran out.
    abbrev pub Tells : List ℕ → Result Call Early → Option ℕ → Option ℕ → Option (ℕ × List ℕ) → Type 0
    Tells name (Ok call) (Some front) entry told = (reply : Reply) × IsActed before after front entry
        × IsReplyAt step IsOutOfMemory IsFault core after (a_call call) reply front entry
        × IfSome told (λ text. text ≡ reply_text (Some name) (Ok reply))
    Tells name (Ok call) None entry told = (entry ≡ None) × (told ≡ None)
    Tells name (Err early) (Some front) entry told = ⊥
    Tells name (Err early) None entry told =
        (entry ≡ None) × IfSome told (λ text. text ≡ reply_text (Some name) (Err early))

    -- The response to what was received was written: what was told of its call, or the text of the fault.
    abbrev pub Responds : Digests → ℤ → ℕ → Result Incoming FrontFault → Option ℕ → LinkTrace → LinkTrace → Served → Type 0
    Responds digests moment nonce (Ok incoming) entry old new end = (front : Option ℕ) × (told : Option (ℕ × List ℕ))
        × Tells (name_in incoming) (call_in digests moment nonce incoming) front entry told
        × Writes (text_or_memory told) old new end
    Responds digests moment nonce (Err fault) entry old new end =
        (entry ≡ None) × WritesFault fault (fault_text fault) old new end

    -- A connection was served: a request or a fault was received, which is the one of the link's bytes where they are
    -- observable, the response to it was written, and no byte was taken but those of what was received.
    pub record ServesByPass (digests : Digests) (moment : ℤ) (nonce : ℕ) (entry : Option ℕ) (old new : LinkTrace)
        (end : Served) : Type 0 where
      pub received : Result Incoming FrontFault
      pub receives : IfSome old.to_come (λ bytes. UnlessFails received (IsReceived IsReadingAnswer bytes received))
      pub leaves : Leaves IsReadingAnswer old.to_come new.to_come received
      pub responds : Responds digests moment nonce received entry old new end

-- What is written to a connection in reply to its request.
use Rattle.std.proofs.Common.{◌≡◌, ℕ, ◌≤◌, List, Ok, subst, sym, inl, inr}
use Rattle.std.specs.Prelude.{IsSome}
use Rattle.http.specs.StatusCode.{reason_phrase}
use Rattle.http_front.specs.declared.incoming.Incoming.{Incoming}
use Rattle.portal_events.specs.declared.event.Refusal.TheVariants.{KeeperFault}
use Rattle.portal_events.specs.declared.event.Reply.TheVariants.{Refused}
use Rattle.portal_links.proofs.Writing.{has_phrase, writes_since}
use Rattle.portal_links.specs.Written.{LinkTrace, memory_text, store_text}
use Rattle.portal_links.specs.declared.written.Served.{Served}
use Rattle.portal_state.specs.State.{State}
use Rattle.portal_serve.specs.RequestOutcome.{RequestOutcome}
use Rattle.portal_serve.specs.Served.{Answers, RepliesWith, answer_text}

-- the status of the reply to a request has a phrase
pub replies_phrase : (incoming : Incoming) (outcome : RequestOutcome) (state : State) (text : ℕ × List ℕ) (after : State)
    → RepliesWith incoming outcome state text after → IsSome (reason_phrase text.0)
replies_phrase incoming outcome state text after (inl r) =
    subst (λ (t : ℕ × List ℕ). IsSome (reason_phrase t.0)) (sym r.0) (has_phrase outcome.reply)
replies_phrase incoming outcome state text after (inr r) =
    subst (λ (t : ℕ × List ℕ). IsSome (reason_phrase t.0)) (sym r.0) (has_phrase (Ok (Refused KeeperFault)))

-- what was written in answer since reading ended was written since before it
pub answers_since : (incoming : Incoming) (outcome : RequestOutcome) (state : State) (old middle new : LinkTrace)
    (end : Served) (after : State) → middle.taken ≡ old.taken → old.faults ≤ middle.faults
    → Answers incoming outcome state middle new end after → Answers incoming outcome state old new end after
answers_since incoming outcome state old middle new end after same rose (inl a) =
    inl (writes_since (answer_text incoming outcome) old middle new end same rose a.0, a.1)
answers_since incoming outcome state old middle new end after same rose (inr (inl a)) =
    inr (inl (writes_since (store_text incoming) old middle new end same rose a.0, a.1))
answers_since incoming outcome state old middle new end after same rose (inr (inr a)) =
    inr (inr (writes_since memory_text old middle new end same rose a.0, a.1))

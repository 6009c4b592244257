-- A call that a pass makes: what its reply says, and what is told of it.
use Rattle.std.proofs.Common.{◌≡◌, ◌⊎◌, ◌∙◌, ℕ, ◌≤◌, List, [], ◌∷◌, ◌++◌, length, Option, Some, None, Result, Ok, Err}
use Rattle.std.proofs.Common.{refl, sym, ap, subst, append-nil, inl, inr, arith}
use Rattle.std.specs.Prelude.{IfSome, IfOk, IfErr, IsSome, IsTrue}
use Rattle.http.specs.StatusCode.{reason_phrase}
use Rattle.action_api.specs.Reply.{reply_text}
use Rattle.action_api.specs.declared.early.Early.{Early}
use Rattle.action_api.specs.declared.early.Early.TheVariants.{OutOfMemory as no_memory}
use Rattle.hall_posts.specs.Posts.{Advances}
use Rattle.hall_posts.specs.Replies.{IsReplyAt}
use Rattle.portal_base.specs.Outside.{Rose}
use Rattle.portal_calls.specs.declared.call.Call.{Call}
use Rattle.portal_events.specs.Reply.{is_of_call}
use Rattle.portal_events.specs.declared.event.Event.{Event}
use Rattle.portal_events.specs.declared.event.Event.TheVariants.{Call as a_call}
use Rattle.portal_events.specs.declared.event.Refusal.TheVariants.{KeeperFault, OutOfMemory}
use Rattle.portal_events.specs.declared.event.Reply.{Reply}
use Rattle.portal_events.specs.declared.event.Reply.TheVariants.{Refused}
use Rattle.portal_hall.specs.History.{Begins, Step, replay}
use Rattle.portal_hall.specs.Passes.{IfEntry, IfNoEntry, IsEntry, IsPassOf, IsRefusal, mark, opening, own, room_of, seen}
use Rattle.portal_hall.specs.declared.acted.Acted.TheVariants.{Done}
use Rattle.portal_hall.specs.declared.hall.Hall.{Hall}
use Rattle.portal_hall.specs.declared.pass.Pass.{Pass}
use Rattle.portal_links.proofs.Writing.{has_phrase}
use Rattle.portal_links.specs.ByPass.{AnswersCalls, IsActed, Tells, indexes_in}

-- ---- passes

-- a pass that didn't act
pub stays : {M E R : Type 0} (hall : Hall M E R) (pass : Pass M E R) → IsPassOf hall pass → Advances hall [] pass pass
stays hall pass is = record {
  pass = is;
  room = refl;
  events = ([], sym (append-nil (seen pass)));
  indexes = sym (append-nil (own pass));
  faults = omega arith;
}

-- a pass that may have seen more, and gained nothing
pub gained_nothing : {M E R : Type 0} (hall : Hall M E R) (old new : Pass M E R) → IsPassOf hall new
    → room_of new ≡ room_of old → Begins (seen old) (seen new) → own new ≡ own old → mark old ≤ mark new
    → Advances hall [] old new
gained_nothing hall old new is room events same faults = record {
  pass = is;
  room = room;
  events = events;
  indexes = same ∙ sym (append-nil (own old));
  faults = faults;
}

-- ---- the reply of an act

module _ {M C : Type 0} (core : M → C) (step : C → Event → Step C Reply) (IsOutOfMemory IsFault : Reply → Type 0)
    (hall : Hall M Event Reply) (old new : Pass M Event Reply) (event : Event) where
  -- what an act promises, if its event was accepted
  abbrev pub IfAccepted : Reply → ℕ → ℕ → Type 0
  IfAccepted reply front k = (front ≡ length (seen new)) × (own new ≡ own old ++ k ∷ [])
      × IsEntry step (core (opening hall)) (seen old) (seen new) event reply front k

  -- what it promises otherwise
  abbrev pub IfRefused : Reply → ℕ → Type 0
  IfRefused reply front = (front ≡ length (seen new)) × (own new ≡ own old)
      × IsRefusal step IsOutOfMemory IsFault (replay step (core (opening hall)) (seen new)) event reply (mark old) (mark new)

  pub acted_gains : (reply : Reply) (front : ℕ) (entry : Option ℕ) → IsPassOf hall new → room_of new ≡ room_of old
      → Begins (seen old) (seen new) → mark old ≤ mark new
      → IfEntry {M = M} {E = Event} (Done reply front entry) IfAccepted → IfNoEntry {M = M} {E = Event} (Done reply front entry) IfRefused
      → Advances hall (indexes_in entry) old new
  acted_gains reply front (Some k) is room events faults accepted refused =
      record { pass = is; room = room; events = events; indexes = accepted.1; faults = faults }
  acted_gains reply front None is room events faults accepted refused =
      gained_nothing hall old new is room events refused.1 faults

  -- The reply is the one at a point of what the pass has then seen.
  abbrev pub IsRepliedAt : Reply → Option ℕ → Type 0
  IsRepliedAt reply entry = (front : ℕ) × IsActed (seen old) (seen new) front entry
      × IsReplyAt step IsOutOfMemory IsFault (core (opening hall)) (seen new) event reply front entry

  pub acted_replies : (reply : Reply) (front : ℕ) (entry : Option ℕ)
      → ((core : C) (before after : List Event) (event : Event) (reply : Reply) (front k : ℕ)
      → IsEntry step core before after event reply front k
      → IsReplyAt step IsOutOfMemory IsFault core after event reply front (Some k))
      → ((core : C) (events : List Event) (event : Event) (reply : Reply) (before after : ℕ)
      → IsRefusal step IsOutOfMemory IsFault (replay step core events) event reply before after
      → IsReplyAt step IsOutOfMemory IsFault core events event reply (length events) None)
      → IfEntry {M = M} {E = Event} (Done reply front entry) IfAccepted → IfNoEntry {M = M} {E = Event} (Done reply front entry) IfRefused
      → IsRepliedAt reply entry
  acted_replies reply front (Some k) law other accepted refused = (
    front,
    (accepted.0, accepted.2.later),
    law (core (opening hall)) (seen old) (seen new) event reply front k accepted.2,
  )
  acted_replies reply front None law other accepted refused = (
    length (seen new),
    (refl, tt),
    other (core (opening hall)) (seen new) event reply (mark old) (mark new) refused.2,
  )

module _ {M C : Type 0} (core : M → C) (step : C → Event → Step C Reply) (IsOutOfMemory IsFault : Reply → Type 0)
    (hall : Hall M Event Reply) (old new : Pass M Event Reply) (call : Call)
    (answers : AnswersCalls step IsOutOfMemory IsFault) where
  -- a reply of the step is one to a call
  step_of_call : (c : C) (reply : Reply) → reply ≡ (step c (a_call call)).reply → IsTrue (is_of_call reply)
  step_of_call c reply is = subst (λ (r : Reply). IsTrue (is_of_call r)) (sym is) (answers.answers c call)

  -- it doesn't say that the store failed
  step_kept : {X : Type 0} (c : C) (reply : Reply) → reply ≡ (step c (a_call call)).reply → reply ≡ Refused KeeperFault → X
  step_kept c reply is failed = absurd (answers.kept c call (sym is ∙ failed))

  -- the reply to a call is one to a call
  pub acted_of_call : (reply : Reply) (front : ℕ) (entry : Option ℕ)
      → IfEntry {M = M} {E = Event} (Done reply front entry) (IfAccepted core step IsOutOfMemory IsFault hall old new (a_call call))
      → IfNoEntry {M = M} {E = Event} (Done reply front entry) (IfRefused core step IsOutOfMemory IsFault hall old new (a_call call))
      → IsTrue (is_of_call reply)
  acted_of_call reply front (Some k) accepted refused = step_of_call _ reply accepted.2.answer.1
  acted_of_call reply front None accepted refused = by refused.2
    where
      by : IsRefusal step IsOutOfMemory IsFault (replay step (core (opening hall)) (seen new)) (a_call call) reply (mark old)
          (mark new) → IsTrue (is_of_call reply)
      by (inl r) = step_of_call _ reply r.1
      by (inr (inl memory)) = subst (λ (r : Reply). IsTrue (is_of_call r)) (sym (answers.memory reply memory)) refl
      by (inr (inr fault)) = subst (λ (r : Reply). IsTrue (is_of_call r)) (sym (answers.fault reply fault.0)) refl

  -- the reply that the store failed comes only where the count of faults rose
  pub acted_failed : (reply : Reply) (front : ℕ) (entry : Option ℕ)
      → IfEntry {M = M} {E = Event} (Done reply front entry) (IfAccepted core step IsOutOfMemory IsFault hall old new (a_call call))
      → IfNoEntry {M = M} {E = Event} (Done reply front entry) (IfRefused core step IsOutOfMemory IsFault hall old new (a_call call))
      → reply ≡ Refused KeeperFault → Rose (mark old) (mark new)
  acted_failed reply front (Some k) accepted refused failed = step_kept _ reply accepted.2.answer.1 failed
  acted_failed reply front None accepted refused failed = by refused.2
    where
      by : IsRefusal step IsOutOfMemory IsFault (replay step (core (opening hall)) (seen new)) (a_call call) reply (mark old)
          (mark new) → Rose (mark old) (mark new)
      by (inl r) = step_kept _ reply r.1 failed
      by (inr (inl memory)) = let out : reply ≡ Refused OutOfMemory = answers.memory reply memory in absurd (cc)
      by (inr (inr fault)) = fault.1

-- ---- the text that is told

-- the status of a text has a phrase
pub told_phrase : (name : List ℕ) (reply : Result Reply Early) (told : Option (ℕ × List ℕ))
    → IfSome told (λ text. text ≡ reply_text (Some name) reply) → IfSome told (λ text. IsSome (reason_phrase text.0))
told_phrase name reply None is = tt
told_phrase name reply (Some text) is =
    subst (λ (t : ℕ × List ℕ). IsSome (reason_phrase t.0)) (sym is) (has_phrase reply)

module _ {C : Type 0} (step : C → Event → Step C Reply) (IsOutOfMemory IsFault : Reply → Type 0) (core : C)
    (before after : List Event) (name : List ℕ) where
  -- the text of the reply was told of the call
  pub tells_reply : (asked : Result Call Early) (call : Call) (reply : Reply) (entry : Option ℕ) (told : Option (ℕ × List ℕ))
      → asked ≡ Ok call
      → (front : ℕ) × IsActed before after front entry
      × IsReplyAt step IsOutOfMemory IsFault core after (a_call call) reply front entry
      → IfSome told (λ text. text ≡ reply_text (Some name) (Ok reply))
      → (front : Option ℕ) × Tells step IsOutOfMemory IsFault core before after name asked front entry told
  tells_reply asked call reply entry told is r text = (
    Some r.0,
    subst (λ (a : Result Call Early). Tells step IsOutOfMemory IsFault core before after name a (Some r.0) entry told)
        (sym is) (reply, r.1, r.2, text),
  )

  -- What was told of the call that was read was told of the call of the request.
  pub tells_asked : (asked call : Result Call Early) (front entry : Option ℕ) (told : Option (ℕ × List ℕ))
      → IfOk call (λ c. asked ≡ Ok c) → IfErr call (λ early. (early ≡ no_memory) ⊎ (asked ≡ Err early))
      → (call ≡ Err no_memory → (told ≡ None) × (entry ≡ None))
      → Tells step IsOutOfMemory IsFault core before after name call front entry told
      → (front' : Option ℕ) × Tells step IsOutOfMemory IsFault core before after name asked front' entry told
  tells_asked asked (Ok c) front entry told value fault memory tells = (
    front,
    subst (λ (a : Result Call Early). Tells step IsOutOfMemory IsFault core before after name a front entry told) (sym value)
        tells,
  )
  tells_asked asked (Err early) front entry told value (inr is) memory tells = (
    front,
    subst (λ (a : Result Call Early). Tells step IsOutOfMemory IsFault core before after name a front entry told) (sym is)
        tells,
  )
  tells_asked asked (Err early) front entry told value (inl out) memory tells = (None, by asked)
    where
      none : (told ≡ None) × (entry ≡ None)
      none = memory (ap (λ e. Err e) out)

      by : (a : Result Call Early) → Tells step IsOutOfMemory IsFault core before after name a None entry told
      by (Ok c) = (none.1, none.0)
      by (Err e) = (
        none.1,
        subst (λ (t : Option (ℕ × List ℕ)). IfSome t (λ text. text ≡ reply_text (Some name) (Err e))) (sym none.0) tt,
      )

-- A step that a machine makes, by what it promises of an event.
use Rattle.std.proofs.Common.{◌≡◌, ◌∙◌, ◌⊎◌, ◌≤◌, ℕ, Bool, true, false, cond, refl, sym, ap, inl, inr, arith}
use Rattle.portal_base.specs.Outside.{Rose}
use Rattle.portal_events.specs.declared.event.Event.{Event}
use Rattle.portal_events.specs.declared.event.Event.TheVariants.{Harvest as a_step}
use Rattle.portal_events.specs.declared.event.Refusal.TheVariants.{KeeperFault, OutOfMemory}
use Rattle.portal_events.specs.declared.event.Reply.{Reply}
use Rattle.portal_events.specs.declared.event.Reply.TheVariants.{Refused, Harvest}
use Rattle.portal_hall.specs.History.{Accepts, Refuses, Step}
use Rattle.harvest_sources.specs.declared.step.Step.{Step as HarvestStep}
use Rattle.harvest_sources.specs.declared.step.StepReply.{StepReply}
use Rattle.harvest_pool.specs.Answers.{answer_of, fault_of}
use Rattle.harvest_pool.specs.Made.{AnswersSteps, IsMade}
use Rattle.harvest_pool.specs.declared.report.RoundFault.{RoundFault}
use Rattle.harvest_pool.specs.declared.report.RoundFault.TheVariants as round
use Rattle.portal_events.specs.declared.event.Refusal.{Refusal}
use Rattle.portal_events.specs.declared.event.Refusal.TheVariants as refusal
use Rattle.portal_events.specs.declared.event.Reply.TheVariants.{Accepted, Shown}
use Rattle.std.proofs.Common.{Result, Err, subst}
use Rattle.std.specs.Prelude.{IfOk, OnErr}

-- ---- counts of faults

pub rose-before : (a b c : ℕ) → a ≤ b → Rose b c → Rose a c
rose-before a b c up (inl rises) = inl (omega arith)
rose-before a b c up (inr top) = inr top

pub rose-after : (a b c : ℕ) → Rose a b → b ≤ c → Rose a c
rose-after a b c (inl rises) up = inl (omega arith)
rose-after a b c (inr top) up = inr (omega arith)

module _ {C : Type 0} (step : C → Event → Step C Reply) (IsOutOfMemory IsFault : Reply → Type 0)
    (answers : AnswersSteps step IsOutOfMemory IsFault) (core after : C) (s : HarvestStep) (reply : Reply)
    (before now : ℕ) where
  -- what an act promises of the event, by whether it was accepted
  abbrev pub IfAccepted : Bool → Type 0
  IfAccepted accepted = accepted ≡ true
      → Accepts step core (a_step s) reply × (after ≡ (step core (a_step s)).core)

  abbrev pub IfRefused : Bool → Type 0
  IfRefused accepted = accepted ≡ false
      → Refuses step core (a_step s) reply ⊎ (IsOutOfMemory reply ⊎ (IsFault reply × Rose before now))

  abbrev pub IfKept : Bool → Type 0
  IfKept accepted = accepted ≡ false → after ≡ core

  -- a reply of the step is an answer to it
  no_answer : {X : Type 0} → ((answer : StepReply) → reply ≡ Harvest answer → ⊥)
      → reply ≡ (step core (a_step s)).reply → X
  no_answer other is = absurd (other (answers.answers core s).0 (is ∙ (answers.answers core s).1))

  -- The reply is an answer to the step, so the step was made.
  pub made-of_reply : (accepted : Bool) → IfAccepted accepted → IfRefused accepted → IfKept accepted
      → (answer : StepReply) → reply ≡ Harvest answer → IsMade step core s answer after
  made-of_reply true accepts refuses kept answer is =
      let a = accepts refl in (
        sym a.0.1 ∙ is,
        a.1 ∙ sym (ap (λ b. cond b (step core (a_step s)).core core) a.0.0),
      )
  made-of_reply false accepts refuses kept answer is = by (refuses refl)
    where
      by : Refuses step core (a_step s) reply ⊎ (IsOutOfMemory reply ⊎ (IsFault reply × Rose before now))
          → IsMade step core s answer after
      by (inl r) = (sym r.1 ∙ is, kept refl ∙ sym (ap (λ b. cond b (step core (a_step s)).core core) r.0))
      by (inr (inl memory)) =
          let out : reply ≡ Refused OutOfMemory = answers.memory reply memory in absurd (cc)
      by (inr (inr fault)) =
          let out : reply ≡ Refused KeeperFault = answers.fault reply fault.0 in absurd (cc)

  -- Any other reply is that of an event that changed nothing.
  pub kept-of_reply : (accepted : Bool) → IfAccepted accepted → IfKept accepted
      → ((answer : StepReply) → reply ≡ Harvest answer → ⊥) → after ≡ core
  kept-of_reply true accepts kept other = no_answer other (accepts refl).0.1
  kept-of_reply false accepts kept other = kept refl

  -- The reply that tells of a fault comes only where the count rose.
  pub fault-of_reply : (accepted : Bool) → IfAccepted accepted → IfRefused accepted → reply ≡ Refused KeeperFault
      → Rose before now
  fault-of_reply true accepts refuses is = no_answer (λ answer other. absurd (cc)) (accepts refl).0.1
  fault-of_reply false accepts refuses is = by (refuses refl)
    where
      by : Refuses step core (a_step s) reply ⊎ (IsOutOfMemory reply ⊎ (IsFault reply × Rose before now))
          → Rose before now
      by (inl r) = no_answer (λ answer other. absurd (cc)) r.1
      by (inr (inl memory)) =
          let out : reply ≡ Refused OutOfMemory = answers.memory reply memory in absurd (cc)
      by (inr (inr fault)) = fault.1

  -- ---- by the answer

  -- An answer is that of a step that was made.
  pub made-answer : (accepted : Bool) → IfAccepted accepted → IfRefused accepted → IfKept accepted
      → (r : Result StepReply RoundFault) → r ≡ answer_of reply → IfOk r (λ answer. IsMade step core s answer after)
  made-answer accepted accepts refuses kept r is =
      subst (λ (q : Result StepReply RoundFault). IfOk q (λ answer. IsMade step core s answer after)) (sym is)
      (by reply refl)
    where
      by : (q : Reply) → reply ≡ q → IfOk (answer_of q) (λ answer. IsMade step core s answer after)
      by (Accepted json) e = tt
      by (Shown json) e = tt
      by (Refused why) e = tt
      by (Harvest answer) e = made-of_reply accepted accepts refuses kept answer e

  -- Without an answer nothing changed.
  pub kept-answer : (accepted : Bool) → IfAccepted accepted → IfKept accepted
      → (r : Result StepReply RoundFault) → r ≡ answer_of reply → OnErr r (after ≡ core)
  kept-answer accepted accepts kept r is =
      subst (λ (q : Result StepReply RoundFault). OnErr q (after ≡ core)) (sym is) (by reply refl)
    where
      by : (q : Reply) → reply ≡ q → OnErr (answer_of q) (after ≡ core)
      by (Accepted json) e = kept-of_reply accepted accepts kept (λ answer other. absurd (cc))
      by (Shown json) e = kept-of_reply accepted accepts kept (λ answer other. absurd (cc))
      by (Refused why) e = kept-of_reply accepted accepts kept (λ answer other. absurd (cc))
      by (Harvest answer) e = tt

  -- The answer that tells of a fault comes only where the count rose.
  pub fault-answer : (accepted : Bool) → IfAccepted accepted → IfRefused accepted
      → (r : Result StepReply RoundFault) → r ≡ answer_of reply → r ≡ Err round.Keeper → Rose before now
  fault-answer accepted accepts refuses r is told = by reply refl (sym is ∙ told)
    where
      refused : (why : Refusal) → reply ≡ Refused why → fault_of why ≡ round.Keeper → Rose before now
      refused (refusal.NotFound kind) e f = absurd (cc)
      refused (refusal.NotAuthorized right) e f = absurd (cc)
      refused (refusal.Validation faults) e f = absurd (cc)
      refused (refusal.NameInUse key) e f = absurd (cc)
      refused refusal.KeeperFault e f = fault-of_reply accepted accepts refuses e
      refused refusal.OutOfMemory e f = absurd (cc)

      by : (q : Reply) → reply ≡ q → answer_of q ≡ Err round.Keeper → Rose before now
      by (Accepted json) e f = absurd (cc)
      by (Shown json) e f = absurd (cc)
      by (Refused why) e f = let same : fault_of why ≡ round.Keeper = cc in refused why e same
      by (Harvest answer) e f = absurd (cc)

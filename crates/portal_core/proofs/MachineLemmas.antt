-- What a reply says of the step of the portal as a machine.
use Rattle.std.proofs.Common.{◌≡◌, ◌≢◌, ◌⊎◌, inl, inr, true, false, refl, sym, ap, ◌∙◌}
use Rattle.portal_events.specs.Reply.{is_change}
use Rattle.portal_events.specs.declared.event.Event.{Event}
use Rattle.portal_events.specs.declared.event.Refusal.TheVariants.{NotFound, NotAuthorized, Validation, NameInUse}
use Rattle.portal_events.specs.declared.event.Refusal.TheVariants.{KeeperFault, OutOfMemory}
use Rattle.portal_events.specs.declared.event.Reply.{Reply}
use Rattle.portal_events.specs.declared.event.Reply.TheVariants.{Accepted, Harvest, Shown, Refused}
use Rattle.portal_hall.specs.History.{Accepts, Refuses}
use Rattle.portal_state.specs.State.{State}
use Rattle.portal_state.specs.Step.{step_of}
use Rattle.portal_state.proofs.Settling.{accepted-change, refused-same}

-- The step has this reply, so that it is accepted as the reply says.
accepted_as : (state : State) (event : Event) (reply : Reply) → reply ≡ (step_of state event).reply
    → (step_of state event).is_accepted ≡ is_change reply
accepted_as state event reply is = accepted-change state event ∙ ap is_change (sym is)

-- a reply that a change was made is that of an accepted event
pub change_made : (state after : State) (event : Event) (reply : Reply)
    → (reply ≢ Refused KeeperFault → reply ≢ Refused OutOfMemory → reply ≡ (step_of state event).reply)
    → (reply ≢ Refused KeeperFault → reply ≢ Refused OutOfMemory → after ≡ (step_of state event).core)
    → is_change reply ≡ true
    → Accepts step_of state event reply × (after ≡ (step_of state event).core)
change_made state after event (Accepted json) replies leaves made =
    let is = replies (λ k. absurd (cc)) (λ m. absurd (cc)) in
    ((accepted_as state event (Accepted json) is, is), leaves (λ k. absurd (cc)) (λ m. absurd (cc)))
change_made state after event (Shown json) replies leaves made = absurd (cc)
change_made state after event (Refused refusal) replies leaves made = absurd (cc)
change_made state after event (Harvest answer) replies leaves made =
    let is = replies (λ k. absurd (cc)) (λ m. absurd (cc)) in
    ((accepted_as state event (Harvest answer) is ∙ made, is), leaves (λ k. absurd (cc)) (λ m. absurd (cc)))

-- What a reply without a change says: the event isn't accepted, or memory ran out, or there was a fault.
abbrev IsUnchanged : State → Event → Reply → Type 0 → Type 0
IsUnchanged state event reply Fault =
    Refuses step_of state event reply ⊎ ((reply ≡ Refused OutOfMemory) ⊎ ((reply ≡ Refused KeeperFault) × Fault))

-- any other reply says one of these, and then the state is as before
pub no_change : {Fault : Type 0} (state after : State) (event : Event) (reply : Reply)
    → (reply ≢ Refused KeeperFault → reply ≢ Refused OutOfMemory → reply ≡ (step_of state event).reply)
    → (reply ≢ Refused KeeperFault → reply ≢ Refused OutOfMemory → after ≡ (step_of state event).core)
    → (reply ≡ Refused KeeperFault → after ≡ state) → (reply ≡ Refused OutOfMemory → after ≡ state)
    → (reply ≡ Refused KeeperFault → Fault) → is_change reply ≡ false
    → IsUnchanged state event reply Fault × (after ≡ state)
no_change {Fault} state after event reply replies leaves failed memory fault unmade = by reply refl
  where
    -- a reply of the step
    settled : reply ≢ Refused KeeperFault → reply ≢ Refused OutOfMemory
        → IsUnchanged state event reply Fault × (after ≡ state)
    settled kept there =
        let is = replies kept there in
        let refused = accepted_as state event reply is ∙ unmade in
        (inl (refused, is), leaves kept there ∙ refused-same state event refused)

    by : (r : Reply) → reply ≡ r → IsUnchanged state event reply Fault × (after ≡ state)
    by (Accepted json) is = absurd (cc)
    by (Shown json) is = settled (λ k. absurd (cc)) (λ m. absurd (cc))
    by (Harvest answer) is = settled (λ k. absurd (cc)) (λ m. absurd (cc))
    by (Refused (NotFound kind)) is = settled (λ k. absurd (cc)) (λ m. absurd (cc))
    by (Refused (NotAuthorized right)) is = settled (λ k. absurd (cc)) (λ m. absurd (cc))
    by (Refused (Validation faults)) is = settled (λ k. absurd (cc)) (λ m. absurd (cc))
    by (Refused (NameInUse key)) is = settled (λ k. absurd (cc)) (λ m. absurd (cc))
    by (Refused KeeperFault) is = (inr (inr (is, fault is)), failed is)
    by (Refused OutOfMemory) is = (inr (inl is), memory is)

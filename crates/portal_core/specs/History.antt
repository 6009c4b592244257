-- What one caller meets in a history of events.
use Rattle.std.specs.Prelude.{◌≡◌, Bool, true, false, not, cond, List, [], ◌∷◌, filter}
use Rattle.std.specs.List.{list_all}
use Rattle.portal_base.specs.declared.caller.Caller.{Caller}
use Rattle.portal_core.specs.Hidden.{is_call_of, IsHidden}
use Rattle.portal_events.specs.Reply.{is_name_in_use}
use Rattle.portal_state.specs.State.{State}
use Rattle.portal_state.specs.Step.{Outcome, step_of}
use Rattle.portal_state.specs.View.{view_of}
use Rattle.portal_events.specs.declared.event.Event.{Event}
use Rattle.portal_events.specs.declared.event.Reply.{Reply}

-- the caller's own calls among the events, in their order
abbrev pub calls_of : Caller → List Event → List Event
calls_of caller events = filter (is_call_of caller) events

-- each accepted event that is no call of the caller is hidden from the caller when it comes
abbrev pub AreOthersHidden : Caller → State → List Event → Type 0
AreOthersHidden caller state [] = Unit {0}
AreOthersHidden caller state (e ∷ events) =
    (is_call_of caller e ≡ false → (step_of state e).is_accepted ≡ true → IsHidden caller state e)
    × AreOthersHidden caller (step_of state e).core events

-- what a caller meets at a call of its own: the reply, and what it sees after it
pub record Exchange : Type 0 where
  pub reply : Reply
  pub view : State

abbrev pub exchange_of : Caller → Outcome → Exchange
exchange_of caller outcome = record { reply = outcome.reply; view = view_of caller outcome.core }

-- the exchange at each of the caller's calls, when the events come in order from the state
abbrev pub exchanges_of : Caller → State → List Event → List Exchange
exchanges_of caller state [] = []
exchanges_of caller state (e ∷ events) =
    cond (is_call_of caller e)
    (exchange_of caller (step_of state e) ∷ exchanges_of caller (step_of state e).core events)
    (exchanges_of caller (step_of state e).core events)

-- The exchanges are the same, up to the first whose reply in one of the lists is that a name or an id is in use.
abbrev pub AreAlike : List Exchange → List Exchange → Type 0
AreAlike [] [] = Unit {0}
AreAlike [] (u ∷ us) = ⊥
AreAlike (t ∷ ts) [] = ⊥
AreAlike (t ∷ ts) (u ∷ us) =
    is_name_in_use t.reply ≡ false → is_name_in_use u.reply ≡ false → (t ≡ u) × AreAlike ts us

-- no exchange has the reply that a name or an id is in use
abbrev pub has_no_name_in_use : List Exchange → Bool
has_no_name_in_use exchanges = list_all (λ exchange. not (is_name_in_use exchange.reply)) exchanges

-- What a caller meets in a history is what it would meet without the events that are hidden from it.
use Rattle.std.proofs.Common.{◌≡◌, Bool, true, false, not, ◌&&◌, cond, List, [], ◌∷◌, refl, sym, ap, ◌∙◌, subst}
use Rattle.std.proofs.lemmas.Slice.Eq.{bytes_eq-Decides}
use Rattle.portal_base.specs.declared.caller.Caller.{Caller}
use Rattle.portal_base.specs.declared.caller.Caller.TheVariants.{Anonymous, Named}
use Rattle.portal_calls.specs.declared.call.Call.{Call}
use Rattle.portal_core.specs.Hidden.{is_caller, is_call_of, IsHidden}
use Rattle.portal_core.specs.History.{calls_of, AreOthersHidden, Exchange, exchange_of, exchanges_of, AreAlike}
use Rattle.portal_core.specs.History.{has_no_name_in_use}
use Rattle.portal_events.specs.Reply.{is_name_in_use}
use Rattle.portal_state.specs.State.{State}
use Rattle.portal_state.specs.Step.{call_step, step_of}
use Rattle.portal_hall.specs.History.{replay}
use Rattle.portal_state.specs.Valid.{IsValid}
use Rattle.portal_state.specs.View.{view_of}
use Rattle.portal_events.specs.declared.event.Event.{Event}
use Rattle.portal_events.specs.declared.event.Event.TheVariants.{Call as a_call, Harvest as a_step}
use Rattle.portal_core.proofs.Hiding.{view_of-hidden}
use Rattle.portal_core.proofs.Isolating.{replies_alike, quiet_views_alike}
use Rattle.portal_state.proofs.Settling.{refused-same, step-valid}

-- ---- an event of somebody else

pub hidden-view : (caller : Caller) (state : State) (event : Event) → IsValid state → IsHidden caller state event
    → view_of caller (step_of state event).core ≡ view_of caller state
hidden-view caller state event valid hidden =
    sym (view_of-hidden caller state (step_of state event).core valid (step-valid state event valid) hidden.between)

-- an event that is refused or hidden leaves what the caller sees
other-view : (caller : Caller) (state : State) (event : Event) → IsValid state
    → ((step_of state event).is_accepted ≡ true → IsHidden caller state event)
    → view_of caller (step_of state event).core ≡ view_of caller state
other-view caller state event valid hidden = by (step_of state event).is_accepted refl
  where
    by : (b : Bool) → (step_of state event).is_accepted ≡ b
        → view_of caller (step_of state event).core ≡ view_of caller state
    by true is = hidden-view caller state event valid (hidden is)
    by false is = ap (view_of caller) (refused-same state event is)

-- ---- a call of the caller's own

same_caller : (caller other : Caller) → is_caller caller other ≡ true → other ≡ caller
same_caller Anonymous Anonymous is = refl
same_caller Anonymous (Named other) is = absurd (cc)
same_caller (Named user) Anonymous is = absurd (cc)
same_caller (Named user) (Named other) is = ap Named (sym ((bytes_eq-Decides user other).0 is))

-- a call without a reply of a name in use is the same exchange in both states
call-exchange : (s t : State) (call : Call) → IsValid s → IsValid t → view_of call.caller s ≡ view_of call.caller t
    → is_name_in_use (call_step s call).reply ≡ false → is_name_in_use (call_step t call).reply ≡ false
    → exchange_of call.caller (call_step s call) ≡ exchange_of call.caller (call_step t call)
call-exchange s t call in_s in_t same first second =
    rw (replies_alike s t call same first second, quiet_views_alike s t call in_s in_t same first second) refl

own-exchange : (caller : Caller) (s t : State) (event : Event) → is_call_of caller event ≡ true → IsValid s
    → IsValid t → view_of caller s ≡ view_of caller t
    → is_name_in_use (step_of s event).reply ≡ false → is_name_in_use (step_of t event).reply ≡ false
    → exchange_of caller (step_of s event) ≡ exchange_of caller (step_of t event)
own-exchange caller s t (a_call call) is in_s in_t same first second =
    subst (λ (c : Caller). view_of c s ≡ view_of c t
    → exchange_of c (call_step s call) ≡ exchange_of c (call_step t call)) (same_caller caller call.caller is)
    (λ alike. call-exchange s t call in_s in_t alike first second) same
own-exchange caller s t (a_step step) is in_s in_t same first second = absurd (cc)

-- ---- a history

-- what the caller meets at its calls without the other events
abbrev own_exchanges : Caller → State → List Event → List Exchange
own_exchanges caller state events = exchanges_of caller state (calls_of caller events)

-- the caller sees the same in the end, of one state after all events and of another after its own calls
abbrev IsSameEnd : Caller → State → State → List Event → Type 0
IsSameEnd caller s t events = view_of caller (replay step_of s events) ≡ view_of caller (replay step_of t (calls_of caller events))

pub exchanges-alike : (caller : Caller) (s t : State) (events : List Event) → IsValid s → IsValid t
    → view_of caller s ≡ view_of caller t → AreOthersHidden caller s events
    → AreAlike (exchanges_of caller s events) (exchanges_of caller t (calls_of caller events))
exchanges-alike caller s t [] in_s in_t same hidden = tt
exchanges-alike caller s t (e ∷ events) in_s in_t same hidden =
    by (is_call_of caller e) refl
    (λ alike. exchanges-alike caller (step_of s e).core (step_of t e).core events (step-valid s e in_s)
    (step-valid t e in_t) alike hidden.1)
    (λ alike. exchanges-alike caller (step_of s e).core t events (step-valid s e in_s) in_t alike hidden.1)
  where
    by : (b : Bool) → is_call_of caller e ≡ b
        → (view_of caller (step_of s e).core ≡ view_of caller (step_of t e).core
        → AreAlike (exchanges_of caller (step_of s e).core events) (own_exchanges caller (step_of t e).core events))
        → (view_of caller (step_of s e).core ≡ view_of caller t
        → AreAlike (exchanges_of caller (step_of s e).core events) (own_exchanges caller t events))
        → AreAlike
        (cond b (exchange_of caller (step_of s e) ∷ exchanges_of caller (step_of s e).core events)
        (exchanges_of caller (step_of s e).core events))
        (exchanges_of caller t (cond b (e ∷ calls_of caller events) (calls_of caller events)))
    by true is own other =
        subst (λ (b : Bool). AreAlike
        (exchange_of caller (step_of s e) ∷ exchanges_of caller (step_of s e).core events)
        (cond b (exchange_of caller (step_of t e) ∷ own_exchanges caller (step_of t e).core events)
        (own_exchanges caller (step_of t e).core events))) (sym is)
        (λ first second. let exchange = own-exchange caller s t e is in_s in_t same first second in
        (exchange, own (ap (λ (u : Exchange). u.view) exchange)))
    by false is own other = other (other-view caller s e in_s (hidden.0 is) ∙ same)

both_true : (a b : Bool) → (a && b) ≡ true → (a ≡ true) × (b ≡ true)
both_true true b is = (refl, is)
both_true false b is = absurd (cc)

not_told : (b : Bool) → not b ≡ true → b ≡ false
not_told true is = absurd (cc)
not_told false is = refl

pub ends-alike : (caller : Caller) (s t : State) (events : List Event) → IsValid s → IsValid t
    → view_of caller s ≡ view_of caller t → AreOthersHidden caller s events
    → has_no_name_in_use (exchanges_of caller s events) ≡ true
    → has_no_name_in_use (exchanges_of caller t (calls_of caller events)) ≡ true
    → view_of caller (replay step_of s events) ≡ view_of caller (replay step_of t (calls_of caller events))
ends-alike caller s t [] in_s in_t same hidden first second = same
ends-alike caller s t (e ∷ events) in_s in_t same hidden first second =
    by (is_call_of caller e) refl
    (λ alike. ends-alike caller (step_of s e).core (step_of t e).core events (step-valid s e in_s)
    (step-valid t e in_t) alike hidden.1)
    (λ alike. ends-alike caller (step_of s e).core t events (step-valid s e in_s) in_t alike hidden.1)
    first second
  where
    own_end : is_call_of caller e ≡ true
        → (view_of caller (step_of s e).core ≡ view_of caller (step_of t e).core
        → has_no_name_in_use (exchanges_of caller (step_of s e).core events) ≡ true
        → has_no_name_in_use (own_exchanges caller (step_of t e).core events) ≡ true
        → IsSameEnd caller (step_of s e).core (step_of t e).core events)
        → has_no_name_in_use (exchange_of caller (step_of s e) ∷ exchanges_of caller (step_of s e).core events) ≡ true
        → has_no_name_in_use (exchange_of caller (step_of t e) ∷ own_exchanges caller (step_of t e).core events) ≡ true
        → IsSameEnd caller (step_of s e).core (step_of t e).core events
    own_end is own quiet_s quiet_t =
        let parts_s = both_true _ _ quiet_s in
        let parts_t = both_true _ _ quiet_t in
        let exchange = own-exchange caller s t e is in_s in_t same (not_told _ parts_s.0) (not_told _ parts_t.0) in
        own (ap (λ (u : Exchange). u.view) exchange) parts_s.1 parts_t.1

    by : (b : Bool) → is_call_of caller e ≡ b
        → (view_of caller (step_of s e).core ≡ view_of caller (step_of t e).core
        → has_no_name_in_use (exchanges_of caller (step_of s e).core events) ≡ true
        → has_no_name_in_use (own_exchanges caller (step_of t e).core events) ≡ true
        → IsSameEnd caller (step_of s e).core (step_of t e).core events)
        → (view_of caller (step_of s e).core ≡ view_of caller t
        → has_no_name_in_use (exchanges_of caller (step_of s e).core events) ≡ true
        → has_no_name_in_use (own_exchanges caller t events) ≡ true → IsSameEnd caller (step_of s e).core t events)
        → has_no_name_in_use
        (cond b (exchange_of caller (step_of s e) ∷ exchanges_of caller (step_of s e).core events)
        (exchanges_of caller (step_of s e).core events)) ≡ true
        → has_no_name_in_use (exchanges_of caller t (cond b (e ∷ calls_of caller events) (calls_of caller events)))
        ≡ true
        → view_of caller (replay step_of (step_of s e).core events)
        ≡ view_of caller (replay step_of t (cond b (e ∷ calls_of caller events) (calls_of caller events)))
    by true is own other quiet_s quiet_t =
        own_end is own quiet_s
        (subst (λ (b : Bool). has_no_name_in_use
        (cond b (exchange_of caller (step_of t e) ∷ own_exchanges caller (step_of t e).core events)
        (own_exchanges caller (step_of t e).core events)) ≡ true) is quiet_t)
    by false is own other quiet_s quiet_t = other (other-view caller s e in_s (hidden.0 is) ∙ same) quiet_s quiet_t

-- Calls that are made in order: one call, and calls after others.
use Rattle.std.proofs.Common.{◌≡◌, ◌≢◌, ◌⊎◌, ◌≤◌, ℕ, ◌+◌, ℤ, Bool, true, false, cond, ◌&&◌, List, [], ◌∷◌, ◌++◌}
use Rattle.std.proofs.Common.{length, take, drop, Some, refl, sym, ap, subst, ◌∙◌, inl, inr, arith}
use Rattle.std.proofs.Common.{length-append, append-nil, append_assoc}
use Rattle.std.proofs.Math.Seq.{take-append-add, take-length}
use Rattle.std.proofs.lemmas.Bool.{ne_eqb}
use Rattle.std.proofs.lemmas.List.{map-append, take-append-drop}
use Rattle.std.proofs.lemmas.List.Folds.{concat-append, list_all-append}
use Rattle.action_api.specs.Reply.{reply_status}
use Rattle.portal_state.specs.State.{State}
use Rattle.portal_serve.specs.Calls.{Exchange, MakesCalls, MakesAllCalls, MakesCallsToRefusal, StopsCalls}
use Rattle.portal_serve.specs.Calls.{are_granted, body_size, exchange, exchanges, is_granted, lines_of, state_after_calls}
use Rattle.portal_serve.specs.Run.{Begins}
use Rattle.portal_serve.specs.Script.{ScriptCall}
use Rattle.portal_serve.specs.Transcript.{outcome_of_call, reply_line}

-- ---- replies

-- the first is granted, and so are those after it
granted_append : (first : Bool) (made : List Exchange) → (first && are_granted (cond first made [])) ≡ true
    → (first ≡ true) × (are_granted made ≡ true)
granted_append true made h = (refl, h)
granted_append false made h = absurd (cc)

-- the calls after the first, if it is granted
append_granted : (first : Bool) (e : Exchange) (whole earlier : List Exchange) (later : State → List Exchange)
    → first ≡ true → whole ≡ earlier ++ later (state_after_calls e.outcome.state earlier)
    → e ∷ cond first whole []
    ≡ (e ∷ cond first earlier []) ++ later (state_after_calls e.outcome.state (cond first earlier []))
append_granted true e whole earlier later granted same = ap (λ (made : List Exchange). e ∷ made) same
append_granted false e whole earlier later granted same = absurd (cc)

-- calls after others, all of which were granted
exchanges-later : (state : State) (first rest : List ScriptCall) (moments more : List ℤ) (nonces others : List ℕ)
    → length moments ≡ length first → length nonces ≡ length first
    → are_granted (exchanges state first moments nonces) ≡ true
    → exchanges state (first ++ rest) (moments ++ more) (nonces ++ others)
    ≡ exchanges state first moments nonces
    ++ exchanges (state_after_calls state (exchanges state first moments nonces)) rest more others
exchanges-later state [] rest [] more [] others a b granted = refl
exchanges-later state [] rest [] more (n ∷ nonces) others a b granted = absurd (cc)
exchanges-later state [] rest (m ∷ moments) more nonces others a b granted = absurd (cc)
exchanges-later state (call ∷ first) rest [] more nonces others a b granted = absurd (cc)
exchanges-later state (call ∷ first) rest (m ∷ moments) more [] others a b granted = absurd (cc)
exchanges-later state (call ∷ first) rest (m ∷ moments) more (n ∷ nonces) others a b granted =
    let outcome = outcome_of_call state call (body_size call) m n in
    let both = granted_append (is_granted (exchange call outcome)) (exchanges outcome.state first moments nonces)
    granted in
    append_granted (is_granted (exchange call outcome)) (exchange call outcome)
    (exchanges outcome.state (first ++ rest) (moments ++ more) (nonces ++ others))
    (exchanges outcome.state first moments nonces) (λ s. exchanges s rest more others) both.0
    (exchanges-later outcome.state first rest moments more nonces others (omega arith) (omega arith) both.1)

-- no call is made after one for which nothing was drawn
none_after_undrawn : (first : Bool) (e : Exchange) (moments : List ℤ) (whole earlier : List Exchange)
    → (length moments ≡ length earlier → whole ≡ earlier)
    → length moments + 1 ≡ length (e ∷ cond first earlier []) → e ∷ cond first whole [] ≡ e ∷ cond first earlier []
none_after_undrawn true e moments whole earlier same drawn = ap (λ (made : List Exchange). e ∷ made) (same
    (omega arith))
none_after_undrawn false e moments whole earlier same drawn = refl

-- Calls for which nothing was drawn aren't made.
exchanges-earlier : (state : State) (first rest : List ScriptCall) (moments : List ℤ) (nonces : List ℕ)
    → length moments ≡ length (exchanges state first moments nonces)
    → exchanges state (first ++ rest) moments nonces ≡ exchanges state first moments nonces
exchanges-earlier state [] [] moments nonces drawn = refl
exchanges-earlier state [] (call ∷ rest) [] nonces drawn = refl
exchanges-earlier state [] (call ∷ rest) (m ∷ moments) nonces drawn = absurd (cc)
exchanges-earlier state (call ∷ first) rest [] nonces drawn = refl
exchanges-earlier state (call ∷ first) rest (m ∷ moments) [] drawn = absurd (cc)
exchanges-earlier state (call ∷ first) rest (m ∷ moments) (n ∷ nonces) drawn =
    let outcome = outcome_of_call state call (body_size call) m n in
    none_after_undrawn (is_granted (exchange call outcome)) (exchange call outcome) moments
    (exchanges outcome.state (first ++ rest) moments nonces) (exchanges outcome.state first moments nonces)
    (exchanges-earlier outcome.state first rest moments nonces) (omega (arith, drawn))

state_after_calls-append : (state : State) (xs ys : List Exchange)
    → state_after_calls state (xs ++ ys) ≡ state_after_calls (state_after_calls state xs) ys
state_after_calls-append state [] ys = refl
state_after_calls-append state (e ∷ xs) ys = state_after_calls-append e.outcome.state xs ys

lines_of-append : (xs ys : List Exchange) → lines_of (xs ++ ys) ≡ lines_of xs ++ lines_of ys
lines_of-append xs ys = simp (map-append, concat-append)

-- ---- calls after others

-- the replies to calls after others
exchanges_append : (state mid : State) (first rest : List ScriptCall) (moments more : List ℤ) (nonces others : List ℕ)
    (written : List ℕ) → MakesAllCalls state first moments nonces written mid
    → exchanges state (first ++ rest) (moments ++ more) (nonces ++ others)
    ≡ exchanges state first moments nonces ++ exchanges mid rest more others
exchanges_append state mid first rest moments more nonces others written made =
    exchanges-later state first rest moments more nonces others (made.makes.moments_drawn ∙ made.all)
    (made.makes.nonces_drawn ∙ made.all) made.granted
    ∙ ap (λ s. exchanges state first moments nonces ++ exchanges s rest more others) (sym made.makes.leaves)

-- the counts of what was drawn
drawn_append : {X : Type 0} (xs ys : List X) (whole earlier later : List Exchange) → length xs ≡ length earlier
    → length ys ≡ length later → whole ≡ earlier ++ later → length (xs ++ ys) ≡ length whole
drawn_append {X} xs ys whole earlier later a b same = rw (same, length-append, length-append) (cc)

makes_append : (state mid after : State) (first rest : List ScriptCall) (moments more : List ℤ)
    (nonces others written others_written : List ℕ) → MakesAllCalls state first moments nonces written mid
    → MakesCalls mid rest more others others_written after
    → MakesCalls state (first ++ rest) (moments ++ more) (nonces ++ others) (written ++ others_written) after
makes_append state mid after first rest moments more nonces others written others_written made makes =
    let earlier = exchanges state first moments nonces in
    let later = exchanges mid rest more others in
    let same = exchanges_append state mid first rest moments more nonces others written made in
    record {
      moments_drawn = drawn_append moments more _ earlier later made.makes.moments_drawn makes.moments_drawn same;
      nonces_drawn = drawn_append nonces others _ earlier later made.makes.nonces_drawn makes.nonces_drawn same;
      output = rw same (rw (lines_of-append earlier later) (cc));
      leaves = rw same (rw (state_after_calls-append state earlier later) (cc));
    }

pub makes_all_append : (state mid after : State) (first rest : List ScriptCall) (moments more : List ℤ)
    (nonces others written others_written : List ℕ) → MakesAllCalls state first moments nonces written mid
    → MakesAllCalls mid rest more others others_written after
    → MakesAllCalls state (first ++ rest) (moments ++ more) (nonces ++ others) (written ++ others_written) after
makes_all_append state mid after first rest moments more nonces others written others_written made makes =
    let earlier = exchanges state first moments nonces in
    let later = exchanges mid rest more others in
    let same = exchanges_append state mid first rest moments more nonces others written made in
    record {
      makes = makes_append state mid after first rest moments more nonces others written others_written made
          makes.makes;
      all = rw (same, length-append, length-append) (cc);
      granted = rw same (rw (list_all-append is_granted earlier later) (rw (made.granted, makes.granted)));
    }

pub refuses_append : (state mid after : State) (first rest : List ScriptCall) (moments more : List ℤ)
    (nonces others written others_written : List ℕ) → MakesAllCalls state first moments nonces written mid
    → MakesCallsToRefusal mid rest more others others_written after
    → MakesCallsToRefusal state (first ++ rest) (moments ++ more) (nonces ++ others) (written ++ others_written) after
refuses_append state mid after first rest moments more nonces others written others_written made makes =
    let earlier = exchanges state first moments nonces in
    let later = exchanges mid rest more others in
    let same = exchanges_append state mid first rest moments more nonces others written made in
    record {
      makes = makes_append state mid after first rest moments more nonces others written others_written made
          makes.makes;
      refused = rw same (rw (list_all-append is_granted earlier later) (rw (made.granted, makes.refused)));
    }

begins_append : (earlier xs ys : List ℕ) → Begins xs ys → Begins (earlier ++ xs) (earlier ++ ys)
begins_append earlier xs ys begins = (begins.0, rw append_assoc (ap (λ l. earlier ++ l) begins.1))

pub stops_append : (most : ℕ) (state mid after : State) (first rest : List ScriptCall) (moments more : List ℤ)
    (nonces others written others_written : List ℕ) → MakesAllCalls state first moments nonces written mid
    → StopsCalls most mid rest more others others_written after
    → StopsCalls most state (first ++ rest) (moments ++ more) (nonces ++ others) (written ++ others_written) after
stops_append most state mid after first rest moments more nonces others written others_written made stops =
    let earlier = exchanges state first moments nonces in
    let later = exchanges mid rest more others in
    let same = exchanges_append state mid first rest moments more nonces others written made in
    let lines = made.makes.output in
    let mid_is = made.makes.leaves in
    let few = stops.few in
    record {
      moments_drawn = drawn_append moments more _ earlier later made.makes.moments_drawn stops.moments_drawn same;
      nonces_drawn = drawn_append nonces others _ earlier later made.makes.nonces_drawn stops.nonces_drawn same;
      made = length earlier + stops.made;
      few = rw (same, length-append) (omega arith);
      granted = rw (same, take-append-add earlier later stops.made)
          (rw (list_all-append is_granted earlier (take stops.made later)) (rw (made.granted, stops.granted)));
      holds = rw (same, take-append-add earlier later stops.made)
          (rw (lines_of-append earlier (take stops.made later), ← lines) (begins_append written _ _ stops.holds));
      begins = rw same (rw (lines_of-append earlier later, ← lines) (begins_append written _ _ stops.begins));
      leaves = rw (same, take-append-add earlier later stops.made)
          (rw (
            state_after_calls-append state earlier (take stops.made later),
            state_after_calls-append state earlier later,
            ← mid_is,
          ) stops.leaves);
    }

-- ---- the first of more calls

-- calls that were all made and granted, before more calls
pub stops_after : (most : ℕ) (state after : State) (first rest : List ScriptCall) (moments : List ℤ)
    (nonces written : List ℕ) → MakesAllCalls state first moments nonces written after
    → StopsCalls most state (first ++ rest) moments nonces written after
stops_after most state after first rest moments nonces written made =
    let earlier = exchanges state first moments nonces in
    let same = exchanges-earlier state first rest moments nonces made.makes.moments_drawn in
    record {
      moments_drawn = made.makes.moments_drawn ∙ sym (ap length same);
      nonces_drawn = made.makes.nonces_drawn ∙ sym (ap length same);
      made = length earlier;
      few = rw same (omega arith);
      granted = rw (same, take-length) made.granted;
      holds = rw (same, take-length) ([], append-nil _ ∙ sym made.makes.output);
      begins = rw same ([], append-nil _ ∙ made.makes.output);
      leaves = inr (rw same made.makes.leaves);
    }

pub refuses_within : (state after : State) (first rest : List ScriptCall) (moments : List ℤ)
    (nonces written : List ℕ) → MakesCallsToRefusal state first moments nonces written after
    → MakesCallsToRefusal state (first ++ rest) moments nonces written after
refuses_within state after first rest moments nonces written made =
    let same = exchanges-earlier state first rest moments nonces made.makes.moments_drawn in
    record {
      makes = record {
        moments_drawn = made.makes.moments_drawn ∙ sym (ap length same);
        nonces_drawn = made.makes.nonces_drawn ∙ sym (ap length same);
        output = rw same made.makes.output;
        leaves = rw same made.makes.leaves;
      };
      refused = rw same made.refused;
    }

pub stops_within : (most : ℕ) (state after : State) (first rest : List ScriptCall) (moments : List ℤ)
    (nonces written : List ℕ) → StopsCalls most state first moments nonces written after
    → StopsCalls most state (first ++ rest) moments nonces written after
stops_within most state after first rest moments nonces written stops =
    let same = exchanges-earlier state first rest moments nonces stops.moments_drawn in
    record {
      moments_drawn = stops.moments_drawn ∙ sym (ap length same);
      nonces_drawn = stops.nonces_drawn ∙ sym (ap length same);
      made = stops.made;
      few = rw same stops.few;
      granted = rw same stops.granted;
      holds = rw same stops.holds;
      begins = rw same stops.begins;
      leaves = rw same stops.leaves;
    }

-- ---- one call

none_after : (granted : Bool) (made : List Exchange) → made ≡ [] → cond granted made [] ≡ []
none_after true made none = none
none_after false made none = refl

-- the reply to one call
one_exchange : (state : State) (call : ScriptCall) (m : ℤ) (n : ℕ)
    → exchanges state (call ∷ []) (m ∷ []) (n ∷ [])
    ≡ exchange call (outcome_of_call state call (body_size call) m n) ∷ []
one_exchange state call m n =
    let e = exchange call (outcome_of_call state call (body_size call) m n) in
    ap (λ (made : List Exchange). e ∷ made) (none_after (is_granted e) [] refl)

-- one call that was made, with the line that was written for it
makes_one : (state after : State) (call : ScriptCall) (m : ℤ) (n : ℕ) (written : List ℕ)
    → written ≡ reply_line (Some call.action) (outcome_of_call state call (body_size call) m n).reply
    → after ≡ (outcome_of_call state call (body_size call) m n).state
    → MakesCalls state (call ∷ []) (m ∷ []) (n ∷ []) written after
makes_one state after call m n written lines leaves =
    let only = one_exchange state call m n in
    record {
      moments_drawn = sym (ap length only);
      nonces_drawn = sym (ap length only);
      output = subst (λ (made : List Exchange). written ≡ lines_of made) (sym only) (lines ∙ sym (append-nil _));
      leaves = subst (λ (made : List Exchange). after ≡ state_after_calls state made) (sym only) leaves;
    }

pub makes_all_one : (state after : State) (call : ScriptCall) (m : ℤ) (n : ℕ) (written : List ℕ)
    → reply_status (outcome_of_call state call (body_size call) m n).reply ≡ 200
    → written ≡ reply_line (Some call.action) (outcome_of_call state call (body_size call) m n).reply
    → after ≡ (outcome_of_call state call (body_size call) m n).state
    → MakesAllCalls state (call ∷ []) (m ∷ []) (n ∷ []) written after
makes_all_one state after call m n written granted lines leaves =
    let only = one_exchange state call m n in
    record {
      makes = makes_one state after call m n written lines leaves;
      all = ap length only;
      granted = subst (λ (made : List Exchange). are_granted made ≡ true) (sym only) (rw granted refl);
    }

pub refuses_one : (state after : State) (call : ScriptCall) (m : ℤ) (n : ℕ) (written : List ℕ)
    → reply_status (outcome_of_call state call (body_size call) m n).reply ≢ 200
    → written ≡ reply_line (Some call.action) (outcome_of_call state call (body_size call) m n).reply
    → after ≡ (outcome_of_call state call (body_size call) m n).state
    → MakesCallsToRefusal state (call ∷ []) (m ∷ []) (n ∷ []) written after
refuses_one state after call m n written refused lines leaves =
    let only = one_exchange state call m n in
    record {
      makes = makes_one state after call m n written lines leaves;
      refused = subst (λ (made : List Exchange). are_granted made ≡ false) (sym only)
          (rw (ne_eqb (reply_status (outcome_of_call state call (body_size call) m n).reply) 200 refused) refl);
    }

-- one call that was begun, with the prefix of its line that was written
pub stops_one : (state after : State) (call : ScriptCall) (m : ℤ) (n : ℕ) (count : ℕ)
    → (after ≡ state) ⊎ (after ≡ (outcome_of_call state call (body_size call) m n).state)
    → StopsCalls 1 state (call ∷ []) (m ∷ []) (n ∷ [])
    (take count (reply_line (Some call.action) (outcome_of_call state call (body_size call) m n).reply)) after
stops_one state after call m n count leaves =
    let only = one_exchange state call m n in
    let line = reply_line (Some call.action) (outcome_of_call state call (body_size call) m n).reply in
    record {
      moments_drawn = sym (ap length only);
      nonces_drawn = sym (ap length only);
      made = 0;
      few = subst (λ (made : List Exchange). length made ≤ 1) (sym only) (omega arith);
      granted = refl;
      holds = (take count line, refl);
      begins = subst (λ (made : List Exchange). Begins (take count line) (lines_of made)) (sym only)
          (drop count line, take-append-drop count line ∙ sym (append-nil line));
      leaves = subst (λ (made : List Exchange). (after ≡ state) ⊎ (after ≡ state_after_calls state made)) (sym only) leaves;
    }

-- No call was begun.
pub stops_none : (most : ℕ) (state : State) (calls : List ScriptCall) → StopsCalls most state calls [] [] [] state
stops_none most state [] = record {
  moments_drawn = refl;
  nonces_drawn = refl;
  made = 0;
  few = omega arith;
  granted = refl;
  holds = ([], refl);
  begins = ([], refl);
  leaves = inl refl;
}
stops_none most state (call ∷ calls) = record {
  moments_drawn = refl;
  nonces_drawn = refl;
  made = 0;
  few = omega arith;
  granted = refl;
  holds = ([], refl);
  begins = ([], refl);
  leaves = inl refl;
}

-- There was no call to make.
pub makes_none : (state : State) → MakesAllCalls state [] [] [] [] state
makes_none state = record {
  makes = record { moments_drawn = refl; nonces_drawn = refl; output = refl; leaves = refl };
  all = refl;
  granted = refl;
}

-- if not all are granted, there is one
refused_some : (made : List Exchange) → are_granted made ≡ false → 1 ≤ length made
refused_some [] refused = absurd (cc)
refused_some (e ∷ made) refused = omega arith

-- A moment was drawn for a call that was refused.
pub refused_drawn : (state after : State) (calls : List ScriptCall) (moments : List ℤ) (nonces written : List ℕ)
    → MakesCallsToRefusal state calls moments nonces written after → 1 ≤ length moments
refused_drawn state after calls moments nonces written made =
    subst (λ (n : ℕ). 1 ≤ n) (sym made.makes.moments_drawn)
    (refused_some (exchanges state calls moments nonces) made.refused)

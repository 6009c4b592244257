-- How an answer comes about: the thing is found, the caller has the right, no rule is broken. And what holds where the
-- answer accepts.
use Rattle.std.proofs.Common.{◌≡◌, ℕ, List, [], ◌∷◌, Bool, true, false, cond, Option, Some, None, Result, Ok, Err}
use Rattle.std.proofs.Common.{refl, sym, ap, ◌∙◌}
use Rattle.std.specs.Prelude.{codes}
use Rattle.std.specs.Ordering.{is_lt}
use Rattle.portal_base.specs.KeyErrors.{KeyError, key_error_cmp, has_error, with_error, error_if}
use Rattle.portal_base.specs.Ordered.{inserted}
use Rattle.portal_base.specs.declared.json_value.Json.{Json}
use Rattle.portal_base.specs.declared.kinds.KindFault.{KindFault}
use Rattle.portal_calls.specs.Answer.{answer_if_found, answer_if_authorized, answer_if_valid, answer_unless_denied}
use Rattle.portal_calls.specs.Answer.{denial_of, quota_error, AcceptsOnly}
use Rattle.portal_calls.specs.Answer.{authorized, authorized_thing, or_not_found, thing_by_name, thing_at}
use Rattle.portal_calls.specs.Answer.{required_text}
use Rattle.portal_calls.specs.declared.answer.Answer.{Answer}
use Rattle.portal_calls.specs.declared.answer.Denial.{Denial}
use Rattle.portal_calls.specs.declared.answer.Kind.{Kind}
use Rattle.portal_calls.specs.declared.answer.Quota.{Quota}
use Rattle.portal_calls.specs.declared.answer.Right.{Right}

-- a thing that is found gets its answer
pub found_thing : {X C : Type 0} (found : Result X Denial) (answer : X → Answer C) (given : Answer C) (thing : X)
    → found ≡ Ok thing → given ≡ answer thing → given ≡ answer_if_found found answer
found_thing found answer given thing is same = rw is same

-- a caller who has the right gets the answer
pub has_right : {C : Type 0} (has : Bool) (right : Right) (answer given : Answer C)
    → has ≡ true → given ≡ answer → given ≡ answer_if_authorized has right answer
has_right has right answer given is same = rw is same

-- where no rule is broken the answer is the result
pub no_rule_broken : {C : Type 0} (quota : Quota) (errors : List KeyError) (answer given : Answer C)
    (faults : List KeyError) (denial : Option Denial)
    → faults ≡ errors → denial ≡ denial_of (error_if (codes "body") (quota_error quota) faults) → denial ≡ None
    → given ≡ answer
    → given ≡ answer_if_valid quota errors answer
no_rule_broken quota errors answer given faults denial same_errors is none same =
    rw (← same_errors, ← is, none) same

-- ---- without errors

-- a list with an added error isn't empty
with_error-some : (key message : List ℕ) (faults : List KeyError) → with_error key message faults ≡ [] → ⊥
with_error-some key message [] none = absurd (cc)
with_error-some key message (f ∷ fs) none = by (has_error key (f ∷ fs)) (is_lt (key_error_cmp f (key, message))) none
  where
    by : (has_error before : Bool)
        → cond has_error (f ∷ fs) (cond before (f ∷ inserted key_error_cmp (key, message) fs) ((key, message) ∷ f ∷ fs)) ≡
        []
        → ⊥
    by true before is = absurd (cc)
    by false true is = absurd (cc)
    by false false is = absurd (cc)

-- Where the list is empty in the end, it was empty before, and this key has no error.
pub error_if-none : (key : List ℕ) (error : Option (List ℕ)) (faults : List KeyError) → error_if key error faults ≡ []
    → (faults ≡ []) × (error ≡ None)
error_if-none key None faults none = (none, refl)
error_if-none key (Some message) faults none = absurd (with_error-some key message faults none)

-- ---- what holds where an answer accepts

-- the thing is found
pub AcceptsOnly-answer_if_found : {X C : Type 0} (P : C → Type 0) (found : Result X Denial) (answer : X → Answer C)
    → ((thing : X) → found ≡ Ok thing → AcceptsOnly P (answer thing)) → AcceptsOnly P (answer_if_found found answer)
AcceptsOnly-answer_if_found P (Ok thing) answer only = only thing refl
AcceptsOnly-answer_if_found P (Err denial) answer only = tt

-- the caller has the right
pub AcceptsOnly-answer_if_authorized : {C : Type 0} (P : C → Type 0) (has : Bool) (right : Right) (answer : Answer C)
    → (has ≡ true → AcceptsOnly P answer) → AcceptsOnly P (answer_if_authorized has right answer)
AcceptsOnly-answer_if_authorized P true right answer only = only refl
AcceptsOnly-answer_if_authorized P false right answer only = tt

-- there is no refusal
pub AcceptsOnly-answer_unless_denied : {C : Type 0} (P : C → Type 0) (denial : Option Denial) (answer : Answer C)
    → (denial ≡ None → AcceptsOnly P answer) → AcceptsOnly P (answer_unless_denied denial answer)
AcceptsOnly-answer_unless_denied P None answer only = only refl
AcceptsOnly-answer_unless_denied P (Some denial) answer only = tt

-- where there is no refusal there is no error
denial_of-none : (faults : List KeyError) → denial_of faults ≡ None → faults ≡ []
denial_of-none [] none = refl
denial_of-none (f ∷ fs) none = absurd (cc)

-- no rule is broken
pub AcceptsOnly-answer_if_valid : {C : Type 0} (P : C → Type 0) (quota : Quota) (faults : List KeyError)
    (answer : Answer C)
    → (faults ≡ [] → AcceptsOnly P answer) → AcceptsOnly P (answer_if_valid quota faults answer)
AcceptsOnly-answer_if_valid P quota faults answer only =
    AcceptsOnly-answer_unless_denied P (denial_of (error_if (codes "body") (quota_error quota) faults)) answer
    (λ none. only (error_if-none (codes "body") (quota_error quota) faults (denial_of-none _ none)).0)

-- the thing is found, and the caller has the right to it
pub authorized_thing-ok : {X : Type 0} (has : X → Bool) (right : Right) (found : Result X Denial) (thing : X)
    → authorized_thing has right found ≡ Ok thing → (has thing ≡ true) × (found ≡ Ok thing)
authorized_thing-ok has right (Err denial) thing is = absurd (cc)
authorized_thing-ok has right (Ok x) thing is = let same = by (has x) refl is in (same.0, ap Ok same.1)
  where
    by : (b : Bool) → has x ≡ b → authorized b right x ≡ Ok thing → (has thing ≡ true) × (x ≡ thing)
    by true holds same = let e : x ≡ thing = cc in (ap has (sym e) ∙ holds, e)
    by false holds same = absurd (cc)

-- the look-up of the text at a key of the body gave the thing
pub record IsNamed {X : Type 0} (key : List ℕ) (body : Json) (look : List ℕ → Option X) (thing : X) : Type 0 where
  pub name : List ℕ
  pub named : required_text key body ≡ Ok name
  pub looked : look name ≡ Some thing

-- the thing is the one that the look-up gave
pub thing_at-ok : {X : Type 0} (key : List ℕ) (body : Json) (kind : Kind) (look : List ℕ → Option X) (thing : X)
    → thing_at key body kind look ≡ Ok thing → IsNamed key body look thing
thing_at-ok {X} key body kind look thing is = by (required_text key body) refl is
  where
    found : (given : Option X) → or_not_found kind given ≡ Ok thing → given ≡ Some thing
    found None same = absurd (cc)
    found (Some x) same = cc

    by : (given : Result (List ℕ) KindFault) → required_text key body ≡ given
        → thing_by_name key kind look given ≡ Ok thing
        → IsNamed key body look thing
    by (Ok name) named same = record { name = name; named = named; looked = found (look name) same }
    by (Err fault) named same = absurd (cc)

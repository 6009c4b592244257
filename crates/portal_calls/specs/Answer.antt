-- The order in which an answer tries its refusals: the key that names the thing, the thing among those that the caller
-- sees, the right to it, and the rules, with the quota of accepted bytes among them.
use Rattle.std.specs.Prelude.{ℕ, List, [], ◌∷◌, codes, Bool, true, false, Option, Some, None, Result, Ok, Err}
use Rattle.std.specs.Prelude.{⊤}
use Rattle.portal_base.specs.declared.json_value.Json.{Json}
use Rattle.portal_base.specs.declared.kinds.KindFault.{KindFault}
use Rattle.portal_base.specs.KeyErrors.{KeyError, error_if}
use Rattle.portal_base.specs.Kinds.{text_at, required, message_of}
use Rattle.portal_calls.specs.declared.answer.Answer.{Answer}
use Rattle.portal_calls.specs.declared.answer.Answer.TheVariants.{Shown, Refused, Accepted}
use Rattle.portal_calls.specs.declared.answer.Denial.TheVariants.{NotFound, NotAuthorized, Validation}
use Rattle.portal_calls.specs.declared.answer.Kind.{Kind}
use Rattle.portal_calls.specs.declared.answer.Right.{Right}
use Rattle.portal_calls.specs.declared.answer.Denial.{Denial}
use Rattle.portal_calls.specs.declared.answer.Quota.{Quota}
use Rattle.portal_calls.specs.declared.answer.Quota.TheVariants.{Left, UsedUp}

-- ---- the thing

-- the value at a key that the body needs
abbrev pub required_value : {A : Type 0} → Result (Option A) KindFault → Result A KindFault
required_value (Ok found) = required found
required_value (Err fault) = Err fault

-- the text at a key of the body that names a thing
abbrev pub required_text : List ℕ → Json → Result (List ℕ) KindFault
required_text key body = required_value (text_at key body)

-- The refusal for a key that names a thing and is absent or no text: its error alone, before any other.
abbrev pub key_denial : List ℕ → KindFault → Denial
key_denial key fault = Validation ((key, message_of fault) ∷ [])

-- the thing that a look-up found, or the refusal where it found none
abbrev pub or_not_found : {X : Type 0} → Kind → Option X → Result X Denial
or_not_found kind None = Err (NotFound kind)
or_not_found kind (Some x) = Ok x

-- the thing of a name that was read, or why there is none
abbrev pub thing_by_name : {X : Type 0} → List ℕ → Kind → (List ℕ → Option X) → Result (List ℕ) KindFault
    → Result X Denial
thing_by_name key kind look (Ok name) = or_not_found kind (look name)
thing_by_name key kind look (Err fault) = Err (key_denial key fault)

-- the thing that a key of the body names, or why there is none
abbrev pub thing_at : {X : Type 0} → List ℕ → Json → Kind → (List ℕ → Option X) → Result X Denial
thing_at key body kind look = thing_by_name key kind look (required_text key body)

-- ---- the right

-- the thing, where the caller has the right to it
abbrev pub authorized : {X : Type 0} → Bool → Right → X → Result X Denial
authorized true right x = Ok x
authorized false right x = Err (NotAuthorized right)

-- the thing, where it is found and the caller has the right to it
abbrev pub authorized_thing : {X : Type 0} → (X → Bool) → Right → Result X Denial → Result X Denial
authorized_thing has right (Ok x) = authorized (has x) right x
authorized_thing has right (Err denial) = Err denial

-- the answer on a thing, or the refusal where there is none
abbrev pub answer_if_found : {X C : Type 0} → Result X Denial → (X → Answer C) → Answer C
answer_if_found (Ok x) answer = answer x
answer_if_found (Err denial) answer = Refused denial

-- the answer, where the caller has a right that depends on no thing
abbrev pub answer_if_authorized : {C : Type 0} → Bool → Right → Answer C → Answer C
answer_if_authorized true right answer = answer
answer_if_authorized false right answer = Refused (NotAuthorized right)

-- ---- the rules

-- the refusal for broken rules, if any are
abbrev pub denial_of : List KeyError → Option Denial
denial_of [] = None
denial_of (fault ∷ faults) = Some (Validation (fault ∷ faults))

-- the value, unless there is a refusal
abbrev pub unless_denied : {X : Type 0} → Option Denial → X → Result X Denial
unless_denied None x = Ok x
unless_denied (Some denial) x = Err denial

-- the answer, unless there is a refusal
abbrev pub answer_unless_denied : {C : Type 0} → Option Denial → Answer C → Answer C
answer_unless_denied None answer = answer
answer_unless_denied (Some denial) answer = Refused denial

-- the error at the key `body` for a change that exceeds its caller's quota
abbrev pub quota_error : Quota → Option (List ℕ)
quota_error Left = None
quota_error UsedUp = Some (codes "Quota of accepted bytes is used up")

-- The answer where a change breaks no rule. The quota is one of the rules.
abbrev pub answer_if_valid : {C : Type 0} → Quota → List KeyError → Answer C → Answer C
answer_if_valid quota faults answer = answer_unless_denied (denial_of
    (error_if (codes "body") (quota_error quota) faults)) answer

-- ---- what is accepted

-- Where the answer accepts a change, the change has the property. An answer that shows or refuses accepts none.
abbrev pub AcceptsOnly : {C : Type 0} → (C → Type 0) → Answer C → Type 0
AcceptsOnly P (Shown json) = ⊤
AcceptsOnly P (Refused denial) = ⊤
AcceptsOnly P (Accepted json change) = P change

-- the answer accepts no change
abbrev pub AcceptsNothing : {C : Type 0} → Answer C → Type 0
AcceptsNothing answer = AcceptsOnly (λ change. ⊥) answer

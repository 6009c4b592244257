-- What a function gives on the way to an answer: its value, or the refusal of the call. Where memory runs out it gives
-- neither, and nothing is said.
use Rattle.std.specs.Prelude.{◌≡◌, Result, Ok, Err, ⊤, alloc_error}
use Rattle.std.specs.declared.alloc.AllocError.{AllocError}
use Rattle.portal_calls.specs.declared.answer.Answer.{Answer}
use Rattle.portal_calls.specs.declared.answer.Answer.TheVariants.{Refused}
use Rattle.portal_calls.specs.declared.answer.Denial.{Denial}
use Rattle.portal_calls.specs.declared.stop.Stop.{Stop}
use Rattle.portal_calls.specs.declared.stop.Stop.TheVariants as stop

-- The result is x: as a view of the value, or as the refusal of the call.
abbrev pub Gives : {A X : Type 0} → Result A Stop → (A → X) → (Denial → X) → X → Type 0
Gives (Ok value) view refusal x = view value ≡ x
Gives (Err (stop.Refused denial)) view refusal x = refusal denial ≡ x
Gives (Err stop.OutOfMemory) view refusal x = ⊤

-- The look-up finds this thing, as a view of the value, or refuses with this denial.
abbrev pub Finds : {A X : Type 0} → Result A Stop → (A → X) → Result X Denial → Type 0
Finds result view found = Gives result (λ thing. Ok (view thing)) Err found

-- The result is this answer.
abbrev pub Answers : {C : Type 0} → Result (Answer C) Stop → Answer C → Type 0
Answers result answer = Gives result (λ given. given) Refused answer

-- the answer, or the refusal as the answer
abbrev pub answer_or_refusal : {C : Type 0} → Result (Answer C) Stop → Result (Answer C) AllocError
answer_or_refusal (Ok answer) = Ok answer
answer_or_refusal (Err (stop.Refused denial)) = Ok (Refused denial)
answer_or_refusal (Err stop.OutOfMemory) = Err alloc_error

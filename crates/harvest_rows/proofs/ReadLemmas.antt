-- Answers of readers.
use Rattle.std.proofs.Common.{◌≡◌, ap, sym, ◌∙◌, subst}
use Rattle.std.specs.Prelude.{◌↔◌, IfOk, MatchOption, Option, Some, None, Result, Ok, Err}
use Rattle.std.proofs.lemmas.Option.{same_Some}

-- What is read of a row is the row's value exactly if it is written as the row. So the row is of this value or of none.
pub exactly : {X E : Type 0} (r : Result (Option X) E) (read : X) (Is : X → Type 0) (Written : Type 0)
    → IfOk r (λ found. MatchOption found (Written → ⊥) (λ same. (same ≡ read) × Written))
    → (Written → Is read) → ((x : X) → Is x → (x ≡ read) × Written)
    → IfOk r (λ found. (x : X) → (found ≡ Some x) ↔ Is x)
exactly (Ok None) read Is Written tested has only = λ x. (λ e. absurd (cc), λ is. absurd (tested (only x is).1))
exactly (Ok (Some same)) read Is Written tested has only = λ x. (
  λ e. subst Is (sym tested.0 ∙ same_Some same x e) (has tested.1),
  λ is. ap Some (tested.0 ∙ sym (only x is).0),
)
exactly (Err e) read Is Written tested has only = tt

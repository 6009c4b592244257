-- Devices that are borrowed together, and are still the same.
use Rattle.std.proofs.Common.{◌≡◌, ℕ, List, Option, refl, subst, ◌∙◌}
use Rattle.portal_base.specs.Outside.{TakesPrefix}
use Rattle.portal_serve.specs.Stage.{AreSameLoans}
use Rattle.portal_serve.specs.declared.stage.Stage.{Stage}

pub same_loans : {O C N : Type 0} (stage : Stage O C N) → AreSameLoans stage stage
same_loans stage = record { output = refl; clock = refl; nonces = refl }

-- and after more calls
pub same_loans_on : {O C N : Type 0} (a b c : Stage O C N) → AreSameLoans a b → AreSameLoans b c → AreSameLoans a c
same_loans_on a b c first second = record {
  output = second.output ∙ first.output;
  clock = second.clock ∙ first.clock;
  nonces = second.nonces ∙ first.nonces;
}

-- the prefix that a sink took, where the sink was as before
pub prefix_from : {a b c : Option (List ℕ)} (piece : List ℕ) → b ≡ a → TakesPrefix b piece c → TakesPrefix a piece c
prefix_from {c = c} piece same takes = subst (λ t. TakesPrefix t piece c) same takes

-- A body without errors has none of its own, and a faulty list of resources stays one.
use Rattle.std.proofs.Common.{◌≡◌, ◌⊎◌, inl, inr, ◌∙◌, List, sym, subst, true}
use Rattle.std.specs.Prelude.{codes}
use Rattle.portal_base.specs.KeyErrors.{KeyError, has_error}
use Rattle.packages.proofs.ErrorLemmas.{with_errors-has}
use Rattle.dataset_answers.proofs.Fitting.{with_errors-none}
use Rattle.dataset_answers.proofs.bodies.read_dataset.Goals as goal

abbrev HasResourcesError : List KeyError → Type 0
HasResourcesError errors = has_error (codes "resources") errors ≡ true

more : {A B C : Type 0} → A ⊎ B → (A → C) → C ⊎ B
more (inl a) then = inl (then a)
more (inr b) then = inr b

pub returns-clause-built : goal.returns-clause-built
returns-clause-built c =
    λ none.
    c.in_ok-read.ensures.built (with_errors-none c.in_ok-read.read.errors _ (sym c.in_ok-errors.ensures ∙ none)).0

pub returns-clause-resources : goal.returns-clause-resources
returns-clause-resources c =
    more c.in_ok-read.ensures.resources
    (λ has. subst HasResourcesError (sym c.in_ok-errors.ensures)
    (with_errors-has (codes "resources") c.in_ok-read.read.errors _ has))

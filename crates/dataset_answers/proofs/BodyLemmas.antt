-- What is read of the bodies of calls, and what follows where they have no errors.
use Rattle.std.proofs.Common.{◌≡◌, ◌⊎◌, inl, inr, true, List, [], ◌∷◌, None, refl, sym, ap, ◌∙◌}
use Rattle.std.specs.Prelude.{codes}
use Rattle.portal_base.specs.KeyErrors.{KeyError, error_if, has_error}
use Rattle.packages.specs.declared.package.Package.{Package}
use Rattle.packages.proofs.ErrorLemmas.{error_if-masked}
use Rattle.portal_calls.specs.Answer.{denial_of, quota_error}
use Rattle.portal_calls.specs.declared.answer.Quota.{Quota}
use Rattle.portal_calls.proofs.Answering.{error_if-none}
use Rattle.visibility.specs.TableSummary.{TableSummary}
use Rattle.dataset_answers.specs.Bodies.{lost_table_error}

denial_of-none : (errors : List KeyError) → None ≡ denial_of errors → errors ≡ []
denial_of-none [] is = refl
denial_of-none (e ∷ es) is = absurd (cc)

-- A change that is not refused breaks no rule.
pub no_errors : (quota : Quota) (errors : List KeyError)
    → None ≡ denial_of (error_if (codes "body") (quota_error quota) errors) → errors ≡ []
no_errors quota errors is =
    (error_if-none (codes "body") (quota_error quota) errors
    (denial_of-none (error_if (codes "body") (quota_error quota) errors) is)).0

-- the error of a table that is lost depends on the id and the resources
lost-alike : (summaries : List TableSummary) (one other : Package) → one.id ≡ other.id → one.resources ≡ other.resources
    → lost_table_error summaries one ≡ lost_table_error summaries other
lost-alike summaries one other id resources = rw (id, resources) refl

-- Two datasets with one id have the same errors if their resources are the same, or if their list has another error.
pub lost-errors : (summaries : List TableSummary) (one other : Package) (errors : List KeyError) → one.id ≡ other.id
    → (has_error (codes "resources") errors ≡ true) ⊎ (one.resources ≡ other.resources)
    → error_if (codes "resources") (lost_table_error summaries one) errors
    ≡ error_if (codes "resources") (lost_table_error summaries other) errors
lost-errors summaries one other errors id (inl has) =
    error_if-masked (codes "resources") (lost_table_error summaries one) errors has
    ∙ sym (error_if-masked (codes "resources") (lost_table_error summaries other) errors has)
lost-errors summaries one other errors id (inr resources) =
    ap (λ error. error_if (codes "resources") error errors) (lost-alike summaries one other id resources)

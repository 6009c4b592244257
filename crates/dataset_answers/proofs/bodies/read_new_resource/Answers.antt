use Rattle.std.proofs.Common.{◌∙◌, sym}
use Rattle.std.specs.Prelude.{codes}
use Rattle.portal_calls.proofs.Answering.{error_if-none}
use Rattle.dataset_answers.proofs.bodies.read_new_resource.Goals as goal

pub returns-clause-built : goal.returns-clause-built
returns-clause-built c =
    λ none.
    c.in_ok-read.ensures.built
    (error_if-none (codes "package_id") c.message_unless-error.result c.in_ok-read.read.errors
    (sym c.in_ok-add_error.ensures.ok ∙ none)).0

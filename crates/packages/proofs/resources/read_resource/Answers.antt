use Rattle.std.proofs.Common.{◌∙◌, ap, sym}
use Rattle.portal_base.specs.KeyErrors.{with_rule_errors}
use Rattle.packages.specs.Resources.{resource_checks}
use Rattle.packages.specs.Reading.{with_texts_read}
use Rattle.packages.proofs.Reading.{resource-read}
use Rattle.packages.proofs.resources.read_resource.Goals as goal

pub returns-clause-built : goal.returns-clause-built
returns-clause-built c =
    λ none.
    let body = c.args.body.now in
    let errors =
    c.in_ok-read_texts.ensures.errors ∙ ap (with_rule_errors (resource_checks body)) c.new-errors.ensures in
    c.in_ok-read_texts.ensures.resource ∙ ap (with_texts_read body) c.blank-resource.ensures
    ∙ resource-read c.args.number body (sym errors ∙ none)

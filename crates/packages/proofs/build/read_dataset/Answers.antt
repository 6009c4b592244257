-- The key `resources` is the eighth of the body's keys.
use Rattle.std.proofs.Common.{◌≡◌, ◌⊎◌, inl, inr, ◌∙◌, List, [], drop, take, ap, sym, subst, true}
use Rattle.std.specs.Prelude.{codes}
use Rattle.std.specs.Option.{option_copied}
use Rattle.portal_base.specs.KeyErrors.{KeyError, has_error, with_rule_errors}
use Rattle.packages.specs.Body.{body_checks}
use Rattle.packages.specs.Reading.{with_reading}
use Rattle.packages.specs.Resources.{resources_key_error}
use Rattle.packages.specs.declared.package.Package.{Package}
use Rattle.packages.proofs.ErrorLemmas.{rules-has}
use Rattle.packages.proofs.Reading.{dataset-read, resources-read}
use Rattle.packages.proofs.build.read_dataset.Goals as goal

either : {A B C D : Type 0} → A ⊎ B → (A → C) → (B → D) → C ⊎ D
either (inl a) one other = inl (one a)
either (inr b) one other = inr (other b)

pub returns-clause-built : goal.returns-clause-built
returns-clause-built c =
    λ none.
    let body = c.args.body.now in
    let old = option_copied c.args.old in
    let errors = c.in_ok-read_keys.ensures.errors ∙ ap (with_rule_errors (body_checks body old)) c.new-errors.ensures in
    c.in_ok-read_keys.ensures.dataset ∙ ap (with_reading body old) c.in_ok-dataset.ensures
    ∙ dataset-read body old c.args.whole (sym errors ∙ none)

pub returns-clause-resources : goal.returns-clause-resources
returns-clause-resources c =
    let body = c.args.body.now in
    let old = option_copied c.args.old in
    let errors = c.in_ok-read_keys.ensures.errors ∙ ap (with_rule_errors (body_checks body old)) c.new-errors.ensures in
    let read = c.in_ok-read_keys.ensures.dataset ∙ ap (with_reading body old) c.in_ok-dataset.ensures in
    either (resources-read body old c.args.whole)
    (λ has. subst (λ (fs : List KeyError). has_error (codes "resources") fs ≡ true) (sym errors)
    (rules-has (codes "resources") (resources_key_error old body) (take 7 (body_checks body old))
    (drop 8 (body_checks body old)) [] has))
    (λ same. ap (λ (d : Package). d.resources) read ∙ same)

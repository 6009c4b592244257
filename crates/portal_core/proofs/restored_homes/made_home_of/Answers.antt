use Rattle.std.proofs.Common.{ap, sym, true≢false, ◌∙◌}
use Rattle.packages.specs.declared.package.Package.{Package}
use Rattle.visibility.specs.Visibility.{is_harvested}
use Rattle.portal_core.proofs.restored_homes.made_home_of.Goals as goal

pub returns-then-is_harvested-clause-none : goal.returns-then-is_harvested-clause-none
returns-then-is_harvested-clause-none c =
    λ d among part made.
    true≢false (sym (sym c.is_harvested.ensures ∙ c.if-is_harvested.true)
    ∙ ap (λ (e : Package). is_harvested e) (sym (c.in_ok-dataset.ensures.only d among part)) ∙ made)

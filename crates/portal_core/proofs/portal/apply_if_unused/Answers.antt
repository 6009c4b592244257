-- The change that is made is the one of the step.
use Rattle.std.proofs.Common.{◌∙◌, ap, sym}
use Rattle.portal_state.proofs.Settling.{planned-unused}
use Rattle.portal_core.proofs.portal.apply_if_unused.Goals as goal
use Rattle.portal_state.specs.Parts.{state_of}
use Rattle.portal_state.specs.Planned.{planned_of}
use Rattle.portal_state.specs.Step.{Outcome}

pub returns-clause-state : goal.returns-clause-state
returns-clause-state g c =
    c.in_ok-apply.ensures.applied
    ∙ sym (ap (λ (o : Outcome). o.core)
    (planned-unused c.args.json (planned_of c.args.plan) c.args.call.now (state_of c.args.parts.now)
    c.requires.kept.consistent.valid c.requires.fit c.in_default.ensures.unused))

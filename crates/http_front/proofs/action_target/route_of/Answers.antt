use Rattle.std.proofs.Common.{ap, ◌∙◌}
use Rattle.std.specs.Prelude.{codes}
use Rattle.std.specs.Option.{option_or}
use Rattle.http_front.specs.ActionTarget.{name_after}
use Rattle.http_front.proofs.action_target.route_of.Goals as goal

pub returns-in-None : goal.returns-in-None
returns-in-None c = c.name_after-in-None.ensures
    ∙ ap (λ first. option_or first (name_after (codes "/api/action/") c.args.path.now)) c.in-None.ensures

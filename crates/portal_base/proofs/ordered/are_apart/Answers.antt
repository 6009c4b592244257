use Rattle.std.proofs.Common.{sym, ◌∙◌}
use Rattle.portal_base.proofs.Halved.{are_apart-ascending}
use Rattle.portal_base.proofs.ordered.are_apart.Goals as goal

pub returns-then-ascends : goal.returns-then-ascends
returns-then-ascends g c =
    c.if-ascends.true
    ∙ sym (are_apart-ascending g.T.Ordered.order g.met.T.Ordered.total c.args.items.now (c.ascends.ensures c.if-ascends.true))

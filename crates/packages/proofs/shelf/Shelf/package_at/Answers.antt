use Rattle.std.proofs.Common.{sym, ◌∙◌}
use Rattle.packages.proofs.ChangeLemmas.{package_at_seen}
use Rattle.packages.proofs.shelf.Shelf.package_at.Goals as goal

pub returns : goal.returns
returns c =
    c.get.ensures
    ∙ sym (package_at_seen c.self.inside.datasets c.self.inside.is_prepared c.args.self.now c.args.number
    c.self.view_is)

use Rattle.std.proofs.Common.{ap, subst, ◌∙◌}
use Rattle.packages.specs.Shelf.{IsValidShelf, number_in}
use Rattle.packages.proofs.ChangeLemmas.{found_number-exists}
use Rattle.packages.proofs.DatasetLemmas.{number_of-found, IsValidShelf-consistent}
use Rattle.packages.proofs.shelf.Shelf.number_of.Goals as goal

pub returns-clause-number : goal.returns-clause-number
returns-clause-number c =
    number_of-found c.self.inside.datasets c.self.inside.index c.self.inside.is_prepared c.args.name_or_id.now
    c.find_number.result c.self.invariant c.find_number.ensures.named c.find_number.ensures.none
    ∙ ap (number_in c.args.name_or_id.now) c.self.view_is

pub returns-clause-exists : goal.returns-clause-exists
returns-clause-exists c =
    found_number-exists c.self.inside.datasets c.self.inside.is_prepared c.args.self.now c.args.name_or_id.now
    c.find_number.result c.self.view_is c.find_number.ensures.named

pub returns-clause-valid : goal.returns-clause-valid
returns-clause-valid c =
    subst IsValidShelf c.self.view_is
    (IsValidShelf-consistent c.self.inside.datasets c.self.inside.index c.self.inside.is_prepared c.self.invariant)

use Rattle.packages.proofs.DatasetLemmas.{numbers_below}
use Rattle.packages.proofs.shelf.Shelf.numbers.Goals as goal

pub numbers_of-requires : goal.numbers_of-requires
numbers_of-requires c =
    numbers_below c.self.inside.datasets c.self.inside.index c.self.inside.is_prepared c.self.invariant

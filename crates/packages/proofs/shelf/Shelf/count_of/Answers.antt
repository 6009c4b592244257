use Rattle.std.proofs.Common.{ap, ◌∙◌, filter, length}
use Rattle.packages.specs.Shelf.{datasets_of}
use Rattle.packages.proofs.DatasetLemmas.{count_of_listed}
use Rattle.packages.proofs.shelf.Shelf.count_of.Goals as goal

pub returns : goal.returns
returns g c =
    c.count_of.ensures ∙ count_of_listed (g.T.Test.test c.args.test.now) c.self.inside.datasets
    ∙ ap (λ s. length (filter (g.T.Test.test c.args.test.now) (datasets_of s))) c.self.view_is

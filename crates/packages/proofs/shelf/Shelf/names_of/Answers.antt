use Rattle.std.proofs.Common.{ap, ◌≡◌, ◌∙◌, filter, map, subst, IfOk}
use Rattle.packages.specs.Shelf.{datasets_of}
use Rattle.packages.specs.Tags.{text_set}
use Rattle.packages.proofs.DatasetLemmas.{names_of_listed}
use Rattle.packages.proofs.shelf.Shelf.names_of.Goals as goal

pub returns : goal.returns
returns g c =
    subst (λ texts. IfOk c.names_of.result (λ names. names.items ≡ texts))
    (names_of_listed (g.T.Test.test c.args.test.now) c.self.inside.datasets
    ∙ ap (λ s. text_set (map (λ d. d.name) (filter (g.T.Test.test c.args.test.now) (datasets_of s)))) c.self.view_is)
    c.names_of.ensures

use Rattle.std.proofs.Common.{◌∙◌, ◌&&◌, ap, filter, length, Result, Ok, Err}
use Rattle.std.specs.Prelude.{IfOk}
use Rattle.std.specs.Str.{bytes_eq}
use Rattle.packages.specs.Shelf.{ShelfState, datasets_of}
use Rattle.packages.specs.declared.package.Package.{Package}
use Rattle.packages.proofs.DatasetLemmas.{count_of_listed}
use Rattle.packages.proofs.shelf.Shelf.counts_by_owner.Goals as goal

-- a result that is Ok has a property that follows from another
on_ok : {X E : Type 0} (result : Result X E) (P Q : X → Type 0) → ((x : X) → P x → Q x) → IfOk result P → IfOk result Q
on_ok (Ok x) P Q follows says = follows x says
on_ok (Err e) P Q follows says = tt

pub returns : goal.returns
returns g c =
    on_ok c.counts_by_owner.result _ _
    (λ counts says owner. says owner
    ∙ count_of_listed (λ (d : Package). bytes_eq d.owner_org owner && g.T.Test.test c.args.test.now d)
    c.self.inside.datasets
    ∙ ap (λ (s : ShelfState). length (filter (λ (d : Package). bytes_eq d.owner_org owner
    && g.T.Test.test c.args.test.now d) (datasets_of s))) c.self.view_is)
    c.counts_by_owner.ensures

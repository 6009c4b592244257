-- The ids are those of the datasets that go.
use Rattle.std.proofs.Common.{◌≡◌, ◌++◌, ◌∙◌, List, OnOk, ap, map, subst}
use Rattle.packages.specs.Shelf.{datasets_of}
use Rattle.packages.specs.declared.package.Package.{Package}
use Rattle.portal_keeper.specs.declared.change.Change.{Change}
use Rattle.portal_state.specs.ChangedRows.{removal_at_id}
use Rattle.portal_state.specs.EntriesOf.{datasets_gone}
use Rattle.portal_state.proofs.ChangesFor.{map-twice}
use Rattle.portal_state.proofs.row_changes.sources.push_datasets.Goals as goal

pub returns : goal.returns
returns c =
    subst (λ (l : List Change). OnOk c.push_gone.result
    (c.push_gone.new.changes.items ≡ c.args.changes.now.items ++ l))
    (ap (map removal_at_id) (c.as_slice.ensures ∙ c.in_ok-ids.ensures)
    ∙ map-twice removal_at_id (λ (d : Package). d.id) (datasets_gone c.args.change.now (datasets_of c.args.shelf.now)))
    c.push_gone.ensures

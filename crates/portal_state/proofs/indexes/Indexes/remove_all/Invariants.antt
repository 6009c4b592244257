use Rattle.std.proofs.Common.{◌≡◌, take}
use Rattle.packages.specs.Shelf.{datasets_of}
use Rattle.portal_state.specs.Indexes.{IsIndexed}
use Rattle.portal_state.specs.Stepped.{without_ids}
use Rattle.portal_state.proofs.indexes.Indexes.remove_all.Given as goal

abbrev pub invariant-loop-id : goal.invariant-loop-id
invariant-loop-id l =
    IsIndexed l.shelf l.self × (datasets_of l.shelf ≡ without_ids (take l.id-index l.ids) (datasets_of l.fn.shelf))

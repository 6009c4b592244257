-- What is observable of a call of a keeper. Rows that are not observable are `None`.
use Rattle.std.specs.Prelude.{◌≡◌, List, Option, Some, IfSome, IsSomeAnd}
use Rattle.portal_keeper.specs.declared.change.Change.{Change}
use Rattle.portal_keeper.specs.declared.row.KeptRow.{KeptRow}
use Rattle.portal_keeper.specs.Rows.{AreInOrder}
use Rattle.portal_keeper.specs.Changed.{rows_after}

-- The observable rows are in order.
abbrev pub ShowsOrder : Option (List KeptRow) → Type 0
ShowsOrder observed = IfSome observed AreInOrder

-- The observable rows are these.
abbrev pub Shows : Option (List KeptRow) → List KeptRow → Type 0
Shows observed rows = IfSome observed (λ kept. kept ≡ rows)

-- If the rows are observable afterwards, they were so before, and did not change.
abbrev pub KeepsRows : Option (List KeptRow) → Option (List KeptRow) → Type 0
KeepsRows old new = IfSome new (λ rows. old ≡ Some rows)

-- If the rows are observable afterwards, they were so before, and all of the changes were made, in their order.
abbrev pub ChangesRows : Option (List KeptRow) → List Change → Option (List KeptRow) → Type 0
ChangesRows old changes new = IfSome new (λ rows. IsSomeAnd old (λ before. rows ≡ rows_after changes before))

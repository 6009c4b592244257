-- The values of a filter in the order of cells. No public clause cites this.
use Rattle.std.specs.Prelude.{◌≡◌, Bool, List}
use Rattle.std.specs.List.{list_any}
use Rattle.std.specs.List.Sorted.{IsSorted}
use Rattle.table_schema.specs.Order.{cell_cmp}
use Rattle.table_schema.specs.declared.cell.Cell.{Cell}

-- The ordered cells are the values in order: a test passes one of them if it passes one of the values.
pub record AreOrdered (values ordered : List Cell) : Type 0 where
  pub same : (p : Cell → Bool) → list_any p ordered ≡ list_any p values
  pub sorted : IsSorted cell_cmp ordered

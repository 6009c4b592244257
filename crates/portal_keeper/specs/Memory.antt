-- A keeper in memory, which fails at planned calls.
use Rattle.std.specs.Prelude.{List}
use Rattle.portal_base.specs.Memory.{Plan, after_next}
use Rattle.portal_base.specs.Ordered.{ascending}
use Rattle.portal_keeper.specs.declared.change.Change.{Change}
use Rattle.portal_keeper.specs.declared.row.KeptRow.{KeptRow}
use Rattle.portal_keeper.specs.Changed.{rows_after}
use Rattle.portal_keeper.specs.Rows.{row_cmp}

-- the rows in order, and the plan of the calls that fail
pub record MemoryState : Type 0 where
  pub rows : List KeptRow
  pub plan : Plan

-- the rows, in order
abbrev pub rows_in_order : List KeptRow → List KeptRow
rows_in_order rows = ascending row_cmp rows

-- A call that changes no row.
abbrev pub after_call_without_change : MemoryState → MemoryState
after_call_without_change keeper = record keeper { plan = after_next keeper.plan }

-- A call that makes these changes.
abbrev pub after_changes : List Change → MemoryState → MemoryState
after_changes changes keeper =
    record { rows = rows_after changes keeper.rows; plan = after_next keeper.plan }

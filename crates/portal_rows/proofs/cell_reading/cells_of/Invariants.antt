use Rattle.std.proofs.Common.{◌≡◌, ◌++◌, drop}
use Rattle.std.specs.Prelude.{option_map}
use Rattle.portal_rows.specs.Readings.{cells_reading}
use Rattle.portal_rows.proofs.cell_reading.cells_of.Given as goal

-- The cells so far, and then those of the rest, are all cells.
abbrev pub invariant-loop-column : goal.invariant-loop-column
invariant-loop-column l = cells_reading l.fields l.values
    ≡ option_map (λ rest. l.cells.items ++ rest) (cells_reading (drop l.column l.fields) (drop l.column l.values))

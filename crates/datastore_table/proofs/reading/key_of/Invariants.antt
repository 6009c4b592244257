use Rattle.std.proofs.Common.{◌≡◌, map, take}
use Rattle.datastore_table.specs.Record.{key_cell}
use Rattle.datastore_table.proofs.reading.key_of.Given as goal

abbrev pub invariant-loop-column : goal.invariant-loop-column
invariant-loop-column l = l.cells.items ≡ map (key_cell l.fields l.given) (take l.column-index l.column-items)

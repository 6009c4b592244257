use Rattle.std.proofs.Common.{◌≡◌, length, drop, option_copied}
use Rattle.datastore_table.specs.Record.{cell_reading, cells_reading}
use Rattle.datastore_table.proofs.ResultLemmas.{each_on}
use Rattle.datastore_table.proofs.reading.cells_of.Given as goal

abbrev pub invariant-loop-column : goal.invariant-loop-column
invariant-loop-column l = record {
  count : l.column ≡ length l.cells.items;
  read : cells_reading l.number l.fields (option_copied l.kept) l.given
      ≡ each_on (cell_reading l.number (option_copied l.kept) l.given) l.column l.cells.items (drop l.column l.fields);
}

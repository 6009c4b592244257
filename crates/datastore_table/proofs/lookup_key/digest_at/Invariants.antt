use Rattle.std.proofs.Common.{◌≡◌, fold, take}
use Rattle.std.specs.Hash.DefaultHasher as sip
use Rattle.datastore_table.specs.Cells.{cells_at}
use Rattle.datastore_table.specs.Index.{with_cell, with_column}
use Rattle.datastore_table.proofs.lookup_key.digest_at.Given as goal

abbrev pub invariant-loop-column : goal.invariant-loop-column
invariant-loop-column l =
    l.hasher ≡ fold with_cell (fold with_column sip.initial l.columns)
    (cells_at (take l.column-index l.elsewhere) l.cells)

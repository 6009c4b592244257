use Rattle.std.proofs.Common.{◌≡◌, fold, take}
use Rattle.std.specs.Hash.DefaultHasher as sip
use Rattle.datastore_table.specs.Index.{with_cell, with_column}
use Rattle.datastore_table.proofs.lookup_key.digest_of.Given as goal

abbrev pub invariant-loop-cell : goal.invariant-loop-cell
invariant-loop-cell l =
    l.hasher ≡ fold with_cell (fold with_column sip.initial l.columns) (take l.cell-index l.cells)

use Rattle.std.proofs.Common.{◌≡◌, fold, take}
use Rattle.std.specs.Hash.DefaultHasher as sip
use Rattle.datastore_table.specs.Index.{with_column}
use Rattle.datastore_table.proofs.lookup_key.hasher_of.Given as goal

abbrev pub invariant-loop-column : goal.invariant-loop-column
invariant-loop-column l = l.hasher ≡ fold with_column sip.initial (take l.column-index l.columns)

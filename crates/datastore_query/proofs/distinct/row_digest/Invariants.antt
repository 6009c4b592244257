use Rattle.std.proofs.Common.{◌≡◌, fold, take}
use Rattle.std.specs.Hash.DefaultHasher as sip
use Rattle.datastore_query.specs.Column.{projected}
use Rattle.datastore_query.specs.Distinct.{with_cell}
use Rattle.datastore_query.proofs.distinct.row_digest.Given as goal

abbrev pub invariant-loop-column : goal.invariant-loop-column
invariant-loop-column l = l.hasher ≡ fold with_cell sip.initial (projected (take l.column-index l.columns) l.row)

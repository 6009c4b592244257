use Rattle.std.proofs.Common.{◌≡◌, drop}
use Rattle.table_schema.specs.Keys.{index_of}
use Rattle.table_schema.proofs.KeyLemmas.{index_on}
use Rattle.table_schema.proofs.keys.index_of.Given as goal

abbrev pub invariant-loop-index : goal.invariant-loop-index
invariant-loop-index l = index_of l.columns l.name ≡ index_on l.index (drop l.index l.columns) l.name

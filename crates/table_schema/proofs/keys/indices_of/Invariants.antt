use Rattle.std.proofs.Common.{◌≡◌, drop}
use Rattle.table_schema.specs.Keys.{indices_of}
use Rattle.table_schema.proofs.KeyLemmas.{indices_on}
use Rattle.table_schema.proofs.keys.indices_of.Given as goal

abbrev pub invariant-loop-name : goal.invariant-loop-name
invariant-loop-name l = indices_of l.columns l.names ≡ indices_on l.columns l.indices.items (drop l.name-index l.names)

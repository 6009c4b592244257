use Rattle.std.proofs.Common.{◌≡◌, drop}
use Rattle.table_schema.specs.Keys.{refers_to_key}
use Rattle.table_schema.proofs.keys.refers_to_key.Given as goal

abbrev pub invariant-loop-index : goal.invariant-loop-index
invariant-loop-index l = refers_to_key l.columns l.fields l.key l.target
    ≡ refers_to_key l.columns (drop l.index l.fields) (drop l.index l.key) (drop l.index l.target)

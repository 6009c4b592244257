use Rattle.table_schema.specs.Index.{AreBelow}
use Rattle.table_schema.proofs.index.indices_below.Given as goal

abbrev pub invariant-loop-index : goal.invariant-loop-index
invariant-loop-index l = AreBelow l.index l.indices.items

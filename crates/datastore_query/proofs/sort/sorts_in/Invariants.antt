use Rattle.std.proofs.Common.{◌≡◌, take}
use Rattle.datastore_query.specs.Sort.{sorts_in}
use Rattle.datastore_query.proofs.sort.sorts_in.Given as goal

abbrev pub invariant-loop-part : goal.invariant-loop-part
invariant-loop-part l = l.sorts.items ≡ sorts_in l.fields (take l.part-index l.parts)

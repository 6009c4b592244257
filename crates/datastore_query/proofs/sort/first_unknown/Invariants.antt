use Rattle.std.proofs.Common.{◌≡◌, drop}
use Rattle.datastore_query.specs.Sort.{first_unknown}
use Rattle.datastore_query.proofs.sort.first_unknown.Given as goal

abbrev pub invariant-loop-part : goal.invariant-loop-part
invariant-loop-part l = first_unknown l.fields l.parts ≡ first_unknown l.fields (drop l.part-index l.parts)

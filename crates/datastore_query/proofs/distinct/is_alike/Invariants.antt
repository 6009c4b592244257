use Rattle.std.proofs.Common.{◌≡◌, drop}
use Rattle.datastore_query.specs.Distinct.{are_alike}
use Rattle.datastore_query.proofs.distinct.is_alike.Given as goal

abbrev pub invariant-loop-column : goal.invariant-loop-column
invariant-loop-column l =
    are_alike l.columns l.one l.other ≡ are_alike (drop l.column-index l.columns) l.one l.other

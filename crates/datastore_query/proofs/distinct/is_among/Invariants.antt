use Rattle.std.proofs.Common.{◌≡◌, drop}
use Rattle.std.specs.List.{list_any}
use Rattle.datastore_query.specs.Distinct.{are_alike}
use Rattle.datastore_query.proofs.distinct.is_among.Given as goal

abbrev pub invariant-loop-other : goal.invariant-loop-other
invariant-loop-other l =
    list_any (are_alike l.columns l.row) l.rows ≡ list_any (are_alike l.columns l.row) (drop l.other-index l.rows)

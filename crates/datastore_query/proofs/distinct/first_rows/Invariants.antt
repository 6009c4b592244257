use Rattle.std.proofs.Common.{◌≡◌, drop, fold}
use Rattle.std.specs.Prelude.{nat_eq}
use Rattle.std.specs.HashMap.{get}
use Rattle.datastore_query.specs.Distinct.{HaveDigests, are_alike}
use Rattle.datastore_query.specs.Query.{firsts, with_first}
use Rattle.datastore_query.proofs.distinct.first_rows.Given as goal

abbrev pub invariant-loop-row : goal.invariant-loop-row
invariant-loop-row l = record {
  first : firsts (are_alike l.columns) l.rows
      ≡ fold (with_first (are_alike l.columns)) l.first.items (drop l.row-index l.rows);
  by_digest : HaveDigests l.columns l.first.items (get nat_eq l.by_digest);
}

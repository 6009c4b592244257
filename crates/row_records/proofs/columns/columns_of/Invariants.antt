use Rattle.std.proofs.Common.{◌≡◌, ◌≤◌, drop, length}
use Rattle.portal_base.specs.Ordered.{IsAscending}
use Rattle.row_records.specs.Records.{column_cmp, columns_from}
use Rattle.row_records.proofs.columns.columns_of.Given as goal

-- The columns are those of the names from this index on.
abbrev pub invariant-loop-index : goal.invariant-loop-index
invariant-loop-index l = record {
  within : l.index ≤ length l.names;
  ascending : IsAscending column_cmp l.columns.items;
  after : l.columns.items ≡ columns_from l.index (drop l.index l.names);
}

abbrev pub decreases-loop-index : goal.decreases-loop-index
decreases-loop-index l = l.index

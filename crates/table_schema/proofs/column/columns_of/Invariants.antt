use Rattle.std.proofs.Common.{◌≡◌, [], length, drop}
use Rattle.table_schema.specs.Descriptor.{columns_reading}
use Rattle.table_schema.proofs.ColumnLemmas.{columns_on}
use Rattle.table_schema.proofs.column.columns_of.Given as goal

abbrev pub invariant-loop-index : goal.invariant-loop-index
invariant-loop-index l = record {
  count : l.index ≡ length l.columns.items;
  read : columns_reading 1 [] l.items ≡ columns_on l.columns.items (drop l.index l.items);
}

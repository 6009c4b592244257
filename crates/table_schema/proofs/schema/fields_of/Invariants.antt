use Rattle.std.proofs.Common.{◌≡◌, ◌+◌, ◌≤◌, ◌++◌, length}
use Rattle.std.specs.Arc.{arc_value}
use Rattle.table_schema.specs.Keys.{fields_from}
use Rattle.table_schema.proofs.schema.fields_of.Given as goal

abbrev pub invariant-loop-column : goal.invariant-loop-column
invariant-loop-column l = record {
  fields_so_far : fields_from (arc_value l.missing) l.key 0 l.fn.columns.items ≡ l.fields.items
      ++ fields_from (arc_value l.missing) l.key (length l.fields.items) l.column-iterator.rest.items;
  indices : length l.fields.items + length l.column-iterator.rest.items ≤ 500;
}

use Rattle.std.proofs.Common.{◌≡◌, ◌≤◌, ℕ, List, drop, length}
use Rattle.std.specs.BTreeMap.{get_by}
use Rattle.std.specs.Cmp.Lexicographic.{slice_cmp}
use Rattle.std.specs.List.{position_from}
use Rattle.std.specs.Ordering.{nat_cmp}
use Rattle.std.specs.Str.{bytes_eq}
use Rattle.table_schema.specs.Field.{FieldValue}
use Rattle.datastore_query.proofs.field_names.indices.Given as goal

-- The map has the fields from this index on.
abbrev pub invariant-loop-index : goal.invariant-loop-index
invariant-loop-index l = record {
  within : l.index ≤ length l.fields;
  found : (name : List ℕ) → get_by (λ k. slice_cmp nat_cmp name k.now) l.by_name
      ≡ position_from (λ (field : FieldValue). bytes_eq field.name name) l.index (drop l.index l.fields);
}

abbrev pub decreases-loop-index : goal.decreases-loop-index
decreases-loop-index l = l.index

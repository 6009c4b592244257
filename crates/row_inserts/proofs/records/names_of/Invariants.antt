use Rattle.std.proofs.Common.{◌≡◌, map, take}
use Rattle.table_schema.specs.Field.{FieldValue}
use Rattle.row_inserts.proofs.records.names_of.Given as goal

abbrev pub invariant-loop-field : goal.invariant-loop-field
invariant-loop-field l = l.names.items ≡ map (λ (f : FieldValue). f.name) (take l.field-index l.fields)

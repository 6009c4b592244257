use Rattle.std.proofs.Common.{◌≡◌, map, take}
use Rattle.csv.specs.Records.{fields_of}
use Rattle.table_schema.specs.Field.{FieldValue}
use Rattle.typed_csv.specs.Header.{column_of}
use Rattle.typed_csv.proofs.header.layout_of.Given as goal

abbrev pub invariant-loop-field : goal.invariant-loop-field
invariant-loop-field l = l.columns.items ≡ map (λ (field : FieldValue). column_of (fields_of l.names) field.name)
    (take l.field-index l.fields)

use Rattle.std.proofs.Common.{◌≡◌, take, map}
use Rattle.table_schema.specs.Written.{field_value}
use Rattle.table_schema.proofs.to_json.fields_json.Given as goal

abbrev pub invariant-loop-field : goal.invariant-loop-field
invariant-loop-field l = l.list.items ≡ map field_value (take l.field-index l.fields)

use Rattle.std.proofs.Common.{◌≡◌, take, map}
use Rattle.portal_base.specs.declared.json_value.Json as json
use Rattle.table_schema.specs.Written.{name_at}
use Rattle.table_schema.proofs.to_json.names_json.Given as goal

abbrev pub invariant-loop-index : goal.invariant-loop-index
invariant-loop-index l = l.list.items ≡ map json.Text (map (name_at l.fields) (take l.index-index l.indices))

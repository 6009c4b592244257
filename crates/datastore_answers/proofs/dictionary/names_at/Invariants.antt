use Rattle.std.proofs.Common.{◌≡◌, take, map}
use Rattle.portal_base.specs.declared.json_value.Json as json
use Rattle.table_schema.specs.Written.{name_at}
use Rattle.datastore_answers.proofs.dictionary.names_at.Given as goal

abbrev pub invariant-loop-column : goal.invariant-loop-column
invariant-loop-column l = l.list.items ≡ map json.Text (map (name_at l.fields) (take l.column-index l.indices))

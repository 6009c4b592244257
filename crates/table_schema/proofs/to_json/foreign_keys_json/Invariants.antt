use Rattle.std.proofs.Common.{◌≡◌, take, map}
use Rattle.table_schema.specs.Written.{foreign_key_value}
use Rattle.table_schema.proofs.to_json.foreign_keys_json.Given as goal

abbrev pub invariant-loop-foreign : goal.invariant-loop-foreign
invariant-loop-foreign l = l.list.items ≡ map (foreign_key_value l.fields) (take l.foreign-index l.foreign_keys)

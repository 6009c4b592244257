use Rattle.std.proofs.Common.{◌≡◌, map, take}
use Rattle.portal_base.specs.declared.json_value.Json as json
use Rattle.dataset_answers.proofs.lists.names_json.Given as goal

abbrev pub invariant-loop-name : goal.invariant-loop-name
invariant-loop-name l = l.list.items ≡ map json.Text (take l.name-index l.names)

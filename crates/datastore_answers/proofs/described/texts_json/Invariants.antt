use Rattle.std.proofs.Common.{◌≡◌, take, map}
use Rattle.portal_base.specs.declared.json_value.Json as json
use Rattle.datastore_answers.proofs.described.texts_json.Given as goal

abbrev pub invariant-loop-text : goal.invariant-loop-text
invariant-loop-text l = l.list.items ≡ map json.Text (take l.text-index l.texts)

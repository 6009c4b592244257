use Rattle.std.proofs.Common.{◌≡◌, take, map}
use Rattle.datastore_answers.specs.Dictionary.{field_dictionary}
use Rattle.datastore_answers.proofs.dictionary.field_list.Given as goal

abbrev pub invariant-loop-field : goal.invariant-loop-field
invariant-loop-field l = l.list.items ≡ map field_dictionary (take l.field-index l.fields)

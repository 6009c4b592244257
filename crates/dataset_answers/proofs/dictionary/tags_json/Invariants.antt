use Rattle.std.proofs.Common.{◌≡◌, map, take}
use Rattle.dataset_answers.specs.Dictionary.{tag_dictionary}
use Rattle.dataset_answers.proofs.dictionary.tags_json.Given as goal

-- the list has the dictionaries of the tags so far
abbrev pub invariant-loop-tag : goal.invariant-loop-tag
invariant-loop-tag l = l.list.items ≡ map tag_dictionary (take l.tag-index l.tags)

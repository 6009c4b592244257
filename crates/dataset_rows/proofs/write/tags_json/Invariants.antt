use Rattle.std.proofs.Common.{◌≡◌, map, take}
use Rattle.portal_base.specs.declared.json_value.Json as json
use Rattle.dataset_rows.proofs.write.tags_json.Given as goal

-- the list has the values of the tags so far
abbrev pub invariant-loop-tag : goal.invariant-loop-tag
invariant-loop-tag l = l.list.items ≡ map json.Text (take l.tag-index l.tags)

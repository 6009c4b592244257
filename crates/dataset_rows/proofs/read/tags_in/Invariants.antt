use Rattle.std.proofs.Common.{◌≡◌, map, take}
use Rattle.dataset_rows.specs.Reading.{text_or_empty}
use Rattle.dataset_rows.proofs.read.tags_in.Given as goal

-- the tags of the items so far
abbrev pub invariant-loop-item : goal.invariant-loop-item
invariant-loop-item l = l.tags.items ≡ map text_or_empty (take l.item-index l.items)

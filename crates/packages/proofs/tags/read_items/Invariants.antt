use Rattle.std.proofs.Common.{◌≡◌, take, codes}
use Rattle.std.specs.List.{filter_map}
use Rattle.packages.specs.Errors.{first_error}
use Rattle.packages.specs.Tags.{tag_error}
use Rattle.packages.specs.Texts.{text_given}
use Rattle.packages.proofs.tags.read_items.Given as goal

-- what is read of the items so far
abbrev pub invariant-loop-item : goal.invariant-loop-item
invariant-loop-item l =
    (l.read.names.items ≡ filter_map (text_given (codes "name")) (take l.item-index l.items))
    × (l.read.error ≡ first_error tag_error (take l.item-index l.items))

use Rattle.std.proofs.Common.{◌≡◌, ◌++◌, [], take, drop}
use Rattle.std.specs.Option.{option_copied}
use Rattle.packages.specs.Resources.{items_error, numbered, next_after_items}
use Rattle.packages.proofs.resource_list.read_items.Given as goal

-- No item so far has an error. The resources so far and those of the remaining items are all resources.
abbrev pub invariant-loop-index : goal.invariant-loop-index
invariant-loop-index l =
    let old = option_copied l.old in
    (items_error old [] l.items ≡ items_error old (take l.index l.items) (drop l.index l.items))
    × ((numbered old l.next l.items
    ≡ l.numbering.resources.items ++ numbered old l.numbering.next (drop l.index l.items))
    × (next_after_items old l.next l.items ≡ next_after_items old l.numbering.next (drop l.index l.items)))

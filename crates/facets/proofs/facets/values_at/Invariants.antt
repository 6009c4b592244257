use Rattle.std.proofs.Common.{◌≡◌, ◌+◌, flat_map, take}
use Rattle.packages.specs.Shelf.{datasets_at}
use Rattle.facets.specs.Facets.{texts_in}
use Rattle.facets.specs.Tally.{own_values}
use Rattle.facets.proofs.facets.values_at.Given as goal

-- the values of the datasets so far, each of which was looked at once
abbrev pub invariant-loop-number : goal.invariant-loop-number
invariant-loop-number g l =
    (l.values.items
    ≡ flat_map (λ dataset. own_values (texts_in l.field dataset)) (datasets_at l.shelf (take l.number-index l.numbers)))
    × (l.steps ≡ l.fn.steps + l.number-index)

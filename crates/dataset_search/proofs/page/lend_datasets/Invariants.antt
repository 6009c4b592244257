use Rattle.std.proofs.Common.{◌≡◌, ◌+◌, take}
use Rattle.packages.specs.Shelf.{datasets_at}
use Rattle.dataset_search.proofs.page.lend_datasets.Given as goal

-- the datasets so far, each of which was looked at once
abbrev pub invariant-loop-number : goal.invariant-loop-number
invariant-loop-number g l =
    (l.datasets.items ≡ datasets_at l.shelf (take l.number-index l.numbers))
    × (l.steps ≡ l.fn.steps + l.number-index)

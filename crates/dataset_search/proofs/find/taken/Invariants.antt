use Rattle.std.proofs.Common.{◌≡◌, ◌+◌, ◌&&◌, take}
use Rattle.visibility.specs.Visibility.{sees_in}
use Rattle.dataset_search.specs.Found.{numbers_with, takes}
use Rattle.dataset_search.proofs.find.taken.Given as goal

-- the numbers taken so far, each of whose datasets was looked at once
abbrev pub invariant-loop-number : goal.invariant-loop-number
invariant-loop-number g l =
    (l.taken.items
    ≡ numbers_with (λ dataset. takes l.search dataset && sees_in l.viewer.people l.viewer.caller dataset) l.shelf
    (take l.number-index l.numbers))
    × (l.steps ≡ l.fn.steps + l.number-index)

use Rattle.std.proofs.Common.{◌≡◌, map, take}
use Rattle.portal_base.specs.Ordered.{ascending}
use Rattle.packages.specs.Order.{dataset_cmp}
use Rattle.facets.specs.Counters.{entry_of}
use Rattle.facets.proofs.counters.Counters.of.Given as goal

-- the facts of the datasets so far
abbrev pub invariant-loop-number : goal.invariant-loop-number
invariant-loop-number l =
    l.counters.entries
    ≡ map entry_of (ascending dataset_cmp (take l.number-index (map (λ e. e.1) l.shelf.entries)))

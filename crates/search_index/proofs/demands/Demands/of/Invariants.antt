use Rattle.std.proofs.Common.{◌≡◌, ◌&&◌, ℕ, List}
use Rattle.search_index.specs.Demands.{meets}
use Rattle.search_index.specs.Items.{all_select}
use Rattle.search_index.proofs.demands.Demands.of.Given as goal

-- The demands so far and the remaining items are what all items select.
abbrev pub invariant-loop-item : goal.invariant-loop-item
invariant-loop-item l =
    (terms : List (List ℕ))
    → (all_select l.item-iterator.rest.items terms && meets l.demands terms) ≡ all_select l.fn.items.items terms

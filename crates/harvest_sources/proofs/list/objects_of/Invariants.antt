use Rattle.std.proofs.Common.{◌≡◌, ℕ, List, ◌++◌, map}
use Rattle.std.specs.BTreeSet.{contains}
use Rattle.std.specs.Cmp.Lexicographic.{slice_cmp}
use Rattle.std.specs.List.{list_any}
use Rattle.std.specs.Ordering.{nat_cmp}
use Rattle.harvest_sources.specs.Listings.{object_of}
use Rattle.harvest_sources.specs.declared.step.Item.{Item}
use Rattle.harvest_sources.proofs.ListLemmas.{has_name}
use Rattle.harvest_sources.proofs.list.objects_of.Given as goal

-- The objects of the items so far, and the names of their datasets.
abbrev pub invariant-loop-item : goal.invariant-loop-item
invariant-loop-item l =
    (done : List Item)
    × (l.fn.items.items ≡ done ++ l.item-iterator.rest.items)
    × (l.objects.items ≡ map (object_of l.source l.fn.items.items) done)
    × ((name : List ℕ) → contains (slice_cmp nat_cmp) l.names name ≡ list_any (has_name l.source name) done)

use Rattle.std.proofs.Common.{◌≡◌, map, take}
use Rattle.facets.specs.SearchFacets.{item_dictionary}
use Rattle.facets.proofs.search.item_dictionaries.Given as goal

abbrev pub invariant-loop-item : goal.invariant-loop-item
invariant-loop-item l =
    l.list.items ≡ map (item_dictionary l.viewer.people.orgs l.field) (take l.item-index l.items)

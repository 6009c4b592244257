use Rattle.std.proofs.Common.{◌≡◌, ◌+◌, drop, length, map, take}
use Rattle.packages.specs.Shelf.{datasets_at}
use Rattle.facets.specs.SearchFacets.{field_dictionary}
use Rattle.facets.proofs.LookLemmas.{looks_for_all}
use Rattle.facets.proofs.search.search_facets.Given as goal

-- the dictionaries of the fields so far; the steps so far and those for the other fields are the steps for all fields
abbrev pub invariant-loop-name : goal.invariant-loop-name
invariant-loop-name g l =
    (l.members.items
    ≡ map (λ name. (name, field_dictionary l.viewer.people.orgs l.request (datasets_at l.shelf l.numbers) name))
    (take l.name-index l.names))
    × (l.steps + looks_for_all (length l.numbers) (drop l.name-index l.names)
    ≡ l.fn.steps + looks_for_all (length l.numbers) l.names)

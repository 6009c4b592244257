use Rattle.std.proofs.Common.{◌≡◌, take}
use Rattle.std.specs.List.{filter_map}
use Rattle.dcat_map.specs.Listings.{iri_of}
use Rattle.dcat_map.proofs.listing.iris_of.Given as goal

abbrev pub invariant-loop-term : goal.invariant-loop-term
invariant-loop-term l = l.iris.items ≡ filter_map iri_of (take l.term-index l.terms)

use Rattle.std.proofs.Common.{◌≡◌, take}
use Rattle.dcat_map.specs.Listings.{links_in}
use Rattle.dcat_map.proofs.listing.links_of.Given as goal

abbrev pub invariant-loop-triple : goal.invariant-loop-triple
invariant-loop-triple l = l.links.items ≡ links_in l.graph (take l.triple-index l.triples)

use Rattle.std.proofs.Common.{◌≡◌, take}
use Rattle.std.specs.List.{filter_map}
use Rattle.std.specs.Option.{option_copied}
use Rattle.dcat_map.specs.Sets.{least}
use Rattle.dcat_map.specs.Terms.{text_cmp}
use Rattle.dcat_map.specs.Listings.{iri_of}
use Rattle.dcat_map.proofs.picks.least_iri.Given as goal

abbrev pub invariant-loop-triple : goal.invariant-loop-triple
invariant-loop-triple l =
    option_copied l.best ≡ least text_cmp (filter_map (λ t. iri_of t.object) (take l.triple-index l.triples))

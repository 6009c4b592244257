use Rattle.std.specs.List.{filter_map}
use Rattle.std.proofs.lemmas.List.Elements.{filter_map-append}
use Rattle.dcat_map.specs.Listings.{iri_of}
use Rattle.dcat_map.proofs.Steps.{pushed_more}
use Rattle.dcat_map.proofs.listing.iris_of.Goals as goal

pub loop-term-preserved : goal.loop-term-preserved
loop-term-preserved c =
    pushed_more (filter_map iri_of) (filter_map-append iri_of) c.args.terms.now c.loop-term.term-index
    c.get.result.now c.term-item.result _ _ c.loop-term-test.true c.term-item.is c.get.ensures
    c.loop-term.invariant c.in_ok-push_iri.ensures

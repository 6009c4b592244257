use Rattle.std.proofs.Common.{◌∙◌, ap, sym}
use Rattle.std.proofs.lemmas.List.{take_all}
use Rattle.dcat_map.specs.Listings.{links_in}
use Rattle.dcat_map.proofs.ListingLemmas.{links_in-append, links_in-nil}
use Rattle.dcat_map.proofs.Steps.{pushed_more}
use Rattle.dcat_map.proofs.listing.links_of.Goals as goal

pub loop-triple-init : goal.loop-triple-init
loop-triple-init c = c.new-links.ensures.items ∙ sym (links_in-nil _)

pub loop-triple-preserved : goal.loop-triple-preserved
loop-triple-preserved c =
    pushed_more (links_in c.args.graph.now) (links_in-append c.args.graph.now) c.triples-triples.result.now
    c.loop-triple.triple-index c.get.result.now c.triple-item.result _ _ c.loop-triple-test.true
    c.triple-item.is c.get.ensures c.loop-triple.invariant c.in_ok-push_links.ensures

pub returns : goal.returns
returns c = c.loop-triple.invariant
    ∙ ap (links_in c.args.graph.now)
    (take_all c.loop-triple.triple-index c.triples-triples.result.now c.loop-triple-test.false
    ∙ c.triples-triples.ensures)

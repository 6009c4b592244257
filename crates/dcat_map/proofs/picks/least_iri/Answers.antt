use Rattle.std.proofs.Common.{sym, ap, ◌∙◌}
use Rattle.std.specs.Cmp.Lexicographic.{nat_list_cmp_total}
use Rattle.std.specs.List.{filter_map}
use Rattle.std.proofs.lemmas.List.{take_all}
use Rattle.dcat_map.specs.Sets.{least}
use Rattle.dcat_map.specs.Terms.{text_cmp}
use Rattle.dcat_map.specs.Picks.{least_iri}
use Rattle.dcat_map.specs.Listings.{iri_of}
use Rattle.dcat_map.proofs.Leasts.{kept_more, least-nil}
use Rattle.dcat_map.proofs.Orders.{same_text}
use Rattle.dcat_map.proofs.picks.least_iri.Goals as goal

pub loop-triple-init : goal.loop-triple-init
loop-triple-init c = sym (least-nil text_cmp)

pub loop-triple-preserved : goal.loop-triple-preserved
loop-triple-preserved c =
    kept_more text_cmp nat_list_cmp_total same_text (λ t. iri_of t.object) c.args.triples.now
    c.loop-triple.triple-index c.get.result.now c.triple-item.result _ _ _ c.loop-triple-test.true
    c.triple-item.is c.get.ensures c.iri_of.ensures c.loop-triple.invariant c.lesser-best.ensures

pub returns : goal.returns
unfolding least_iri
returns c =
    c.loop-triple.invariant ∙ ap (λ ts. least text_cmp (filter_map (λ t. iri_of t.object) ts))
    (take_all c.loop-triple.triple-index c.args.triples.now c.loop-triple-test.false)

use Rattle.std.proofs.Common.{sym, ap, ◌∙◌}
use Rattle.std.specs.List.{filter_map}
use Rattle.std.proofs.lemmas.List.{take_all}
use Rattle.dcat_map.specs.Sets.{least}
use Rattle.dcat_map.specs.Terms.{term_cmp, term_cmp_total}
use Rattle.dcat_map.specs.Picks.{filled, pick}
use Rattle.dcat_map.proofs.Leasts.{kept_more, least-nil}
use Rattle.dcat_map.proofs.Orders.{same_term}
use Rattle.dcat_map.proofs.picks.pick.Goals as goal

pub loop-triple-init : goal.loop-triple-init
loop-triple-init c = sym (least-nil term_cmp)

pub loop-triple-preserved : goal.loop-triple-preserved
loop-triple-preserved c =
    kept_more term_cmp term_cmp_total same_term (λ t. filled t.object) c.args.triples.now
    c.loop-triple.triple-index c.get.result.now c.triple-item.result _ _ _ c.loop-triple-test.true
    c.triple-item.is c.get.ensures c.filled.ensures c.loop-triple.invariant c.earlier-best.ensures

pub returns : goal.returns
unfolding pick
returns c =
    c.loop-triple.invariant ∙ ap (λ ts. least term_cmp (filter_map (λ t. filled t.object) ts))
    (take_all c.loop-triple.triple-index c.args.triples.now c.loop-triple-test.false)

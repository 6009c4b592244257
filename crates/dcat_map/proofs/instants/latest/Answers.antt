use Rattle.std.proofs.Common.{sym, ap, ◌∙◌}
use Rattle.std.specs.List.{filter_map}
use Rattle.std.specs.Ordering.{flip_args, int_cmp}
use Rattle.std.proofs.lemmas.Cmp.{back_total, int_cmp_total}
use Rattle.std.proofs.lemmas.List.{take_all}
use Rattle.dcat_map.specs.Sets.{least}
use Rattle.dcat_map.specs.Instants.{latest, moment_of}
use Rattle.dcat_map.proofs.Leasts.{kept_more, least-nil}
use Rattle.dcat_map.proofs.Orders.{same_moment}
use Rattle.dcat_map.proofs.instants.latest.Goals as goal

pub loop-triple-init : goal.loop-triple-init
loop-triple-init c = sym (least-nil (flip_args int_cmp))

pub loop-triple-preserved : goal.loop-triple-preserved
loop-triple-preserved c =
    kept_more (flip_args int_cmp) (back_total int_cmp_total) same_moment (λ t. moment_of t.object)
    c.args.triples.now c.loop-triple.triple-index c.get.result.now c.triple-item.result _ _ _
    c.loop-triple-test.true c.triple-item.is c.get.ensures c.moment_of.ensures c.loop-triple.invariant
    c.later-best.ensures

pub returns : goal.returns
unfolding latest
returns c =
    c.loop-triple.invariant ∙ ap (λ ts. least (flip_args int_cmp) (filter_map (λ t. moment_of t.object) ts))
    (take_all c.loop-triple.triple-index c.args.triples.now c.loop-triple-test.false)

use Rattle.std.proofs.Common.{◌∙◌, ap, sym}
use Rattle.std.proofs.lemmas.List.{take_all}
use Rattle.dcat_map.specs.Distributions.{distributions_in}
use Rattle.dcat_map.proofs.DistributionLemmas.{distributions_in-append, distributions_in-nil}
use Rattle.dcat_map.proofs.Steps.{pushed_more}
use Rattle.dcat_map.proofs.distributions.distributions_of.Goals as goal

pub loop-triple-init : goal.loop-triple-init
loop-triple-init c = c.new-distributions.ensures.items ∙ sym (distributions_in-nil _)

pub loop-triple-preserved : goal.loop-triple-preserved
loop-triple-preserved c =
    pushed_more (distributions_in c.args.graph.now) (distributions_in-append c.args.graph.now) c.args.triples.now
    c.loop-triple.triple-index c.get.result.now c.triple-item.result _ _ c.loop-triple-test.true
    c.triple-item.is c.get.ensures c.loop-triple.invariant c.in_ok-push_distribution.ensures

pub returns : goal.returns
returns c = c.loop-triple.invariant ∙ ap (distributions_in c.args.graph.now)
    (take_all c.loop-triple.triple-index c.args.triples.now c.loop-triple-test.false)

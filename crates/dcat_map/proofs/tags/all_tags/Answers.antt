use Rattle.std.proofs.Common.{◌∙◌, ap}
use Rattle.std.specs.List.{filter_map}
use Rattle.std.proofs.lemmas.List.{take_all}
use Rattle.std.proofs.lemmas.List.Elements.{filter_map-append}
use Rattle.ntriples.specs.declared.term.Triple.{Triple}
use Rattle.dcat_map.specs.Tags.{tag_of}
use Rattle.dcat_map.proofs.Steps.{pushed_more}
use Rattle.dcat_map.proofs.tags.all_tags.Goals as goal

pub loop-triple-preserved : goal.loop-triple-preserved
loop-triple-preserved c =
    pushed_more (filter_map (λ (t : Triple). tag_of t.object)) (filter_map-append (λ (t : Triple). tag_of t.object))
    c.args.triples.now c.loop-triple.triple-index c.get.result.now c.triple-item.result _ _
    c.loop-triple-test.true c.triple-item.is c.get.ensures c.loop-triple.invariant
    c.in_ok-push_tag.ensures

pub returns : goal.returns
returns c = c.loop-triple.invariant ∙ ap (filter_map (λ (t : Triple). tag_of t.object))
    (take_all c.loop-triple.triple-index c.args.triples.now c.loop-triple-test.false)

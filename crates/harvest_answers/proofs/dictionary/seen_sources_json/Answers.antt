use Rattle.harvest_answers.proofs.ViewLemmas.{one_more}
use Rattle.harvest_answers.proofs.dictionary.seen_sources_json.Goals as goal

pub loop-source-preserved : goal.loop-source-preserved
loop-source-preserved c =
    rw (c.in_ok-push_some.ensures)
    (one_more _ c.args.sources.now c.loop-source.source-index c.source-item.result _ _ c.loop-source-test.true
    c.source-item.is
    c.loop-source.invariant c.in_ok-item.ensures)

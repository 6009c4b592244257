use Rattle.harvest_stages.proofs.StepLemmas.{holds_more, renewed_more}
use Rattle.harvest_stages.proofs.step_commits.renew_all.Goals as goal

pub loop-source-preserved : goal.loop-source-preserved
loop-source-preserved c = record {
  renewed = renewed_more c.args.sources.now c.loop-source.sources c.loop-source.source-index c.source-item.result
      c.renew.new.self c.loop-source-test.true c.loop-source.invariant.renewed c.source-item.is c.renew.ensures.state;
  holds = holds_more c.args.sources.now c.loop-source.sources c.loop-source.source-index c.source-item.result
      c.renew.new.self c.loop-source-test.true c.loop-source.invariant.renewed c.loop-source.invariant.holds
      c.renew.ensures.holds;
}

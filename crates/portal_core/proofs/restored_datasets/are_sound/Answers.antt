use Rattle.harvest_stages.specs.Stages.{sources_in}
use Rattle.portal_state.specs.Valid.{IsSoundAmong}
use Rattle.portal_core.proofs.Passed.{before-next}
use Rattle.portal_core.proofs.restored_datasets.are_sound.Goals as goal

pub loop-dataset-preserved : goal.loop-dataset-preserved
loop-dataset-preserved c =
    before-next (IsSoundAmong c.args.people.now.people (sources_in c.args.sources.now)) c.args.datasets.now
    c.loop-dataset.dataset-index c.dataset-item.result c.loop-dataset.invariant c.loop-dataset-test.true
    c.dataset-item.is (c.in_ok-is_sound_among.ensures.0 c.if-not-branch.false)

use Rattle.harvest_stages.specs.Stages.{sources_in}
use Rattle.portal_state.specs.Valid.{IsSoundAmong}
use Rattle.portal_core.proofs.Passed.{AllBefore}
use Rattle.portal_core.proofs.restored_datasets.are_sound.Given as goal

abbrev pub invariant-loop-dataset : goal.invariant-loop-dataset
invariant-loop-dataset l = AllBefore (IsSoundAmong l.people.people (sources_in l.sources)) l.datasets l.dataset-index

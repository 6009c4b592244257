-- The dataset is put, those with the ids go, and the sources change.
use Rattle.portal_state.proofs.parts.Parts.commit_step.Goals as goal

pub commit-requires : goal.commit-requires
commit-requires c = rw c.commit_put.ensures.sources c.requires.ready

use Rattle.portal_state.proofs.StepRows.{step-follow, step-none}
use Rattle.portal_core.proofs.row_laws.row_changes_follow_a_step_of_a_harvest.Goals as goal

pub returns : goal.returns
returns c = record {
  follow = step-follow;
  none = step-none;
}

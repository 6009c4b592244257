use Rattle.portal_state.proofs.PlannedRows.{planned-follow, planned-none}
use Rattle.portal_core.proofs.row_laws.row_changes_follow_a_planned_change.Goals as goal

pub returns : goal.returns
returns c = record {
  follow = planned-follow;
  none = planned-none;
}

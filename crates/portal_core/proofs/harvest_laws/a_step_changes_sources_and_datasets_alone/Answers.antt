use Rattle.portal_state.proofs.HarvestEntries.{people-after_step, quota-after_step, tables-after_step}
use Rattle.portal_core.proofs.harvest_laws.a_step_changes_sources_and_datasets_alone.Goals as goal

pub returns : goal.returns
returns c = record { people = people-after_step; tables = tables-after_step; quotas = quota-after_step }

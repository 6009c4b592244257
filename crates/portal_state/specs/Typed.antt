-- States whose fields have values of their types.
use Rattle.std.specs.Prelude.{◌<◌, ◌^◌, All}
use Rattle.portal_base.specs.Moment.{IsMoment}
use Rattle.org_roles.specs.declared.entry.Org.{Org}
use Rattle.dataset_rows.specs.Rows.{IsWellTyped}
use Rattle.datastore_answers.specs.declared.resource_table.ResourceTable.{ResourceTable}
use Rattle.harvest_rows.specs.Rows.{IsKeptJob, IsKeptSource}
use Rattle.harvest_sources.specs.Sources.{SourceState}
use Rattle.harvest_stages.specs.AtRest.{job_at_rest}
use Rattle.portal_state.specs.KeptRows.{AreSized}
use Rattle.portal_state.specs.State.{State}

-- The number of a source's next job is a `u64`, and so are the number and the counts of each job, which was created at a
-- moment.
pub record IsTypedSource (s : SourceState) : Type 0 where
  pub source : IsKeptSource s.source
  pub jobs : All (λ job. IsKeptJob (job_at_rest job)) s.jobs

-- A moment is one of the years 0000 to 9999, the number of a resource is a `u32`, and an `_id` a `u64`. What a state has
-- beside moments and numbers may be any text.
pub record IsTyped (state : State) : Type 0 where
  pub orgs : All (λ (o : Org). IsMoment o.created) state.people.orgs
  pub datasets : All IsWellTyped state.datasets
  pub tables : AreSized state.tables
  pub targets : All (λ (t : ResourceTable). All (λ number. number < 2 ^ 32) t.targets) state.tables
  pub sources : All IsTypedSource state.sources

-- The state after a change, with its charge. And what it means that a name or an id that a change claims is in use.
use Rattle.std.specs.Prelude.{◌≡◌, ℕ, List, [], ◌+◌, codes, Bool, not, is_some, Option, Some, None, filter, find}
use Rattle.portal_base.specs.Ordered.{upserted}
use Rattle.portal_base.specs.declared.caller.Caller.{Caller}
use Rattle.portal_base.specs.declared.caller.Caller.TheVariants.{Anonymous, Named}
use Rattle.org_roles.specs.Changed.{changed_people}
use Rattle.org_roles.specs.PeopleLists.{org_in}
use Rattle.dataset_answers.specs.Changed.{changed_datasets, has_name, has_id}
use Rattle.dataset_answers.specs.declared.change.DatasetChange.{DatasetChange}
use Rattle.dataset_answers.specs.declared.change.DatasetChange.TheVariants as dataset
use Rattle.datastore_answers.specs.Changed.{changed_tables}
use Rattle.datastore_answers.specs.Tables.{tables_kept}
use Rattle.datastore_answers.specs.declared.resource_table.ResourceTable.{ResourceTable}
use Rattle.harvest_results.specs.Effects.{is_of_source}
use Rattle.harvest_sources.specs.Entries.{changed_sources}
use Rattle.harvest_sources.specs.Sources.{source_named}
use Rattle.harvest_sources.specs.declared.change.SourceChange.{SourceChange}
use Rattle.harvest_sources.specs.declared.change.SourceChange.TheVariants as source
use Rattle.packages.specs.declared.package.Package.{Package}
use Rattle.portal_calls.specs.declared.call.Call.{Call}
use Rattle.portal_state.specs.Change.{Change}
use Rattle.portal_state.specs.Entries.{state_after}
use Rattle.portal_state.specs.Planned.{PlannedChange, People, Datasets, Tables, Sources}
use Rattle.portal_state.specs.State.{State, quota_used_cmp, accepted_bytes_of_user}
use Rattle.portal_state.specs.declared.change.Claim.{Claim}
use Rattle.portal_state.specs.declared.change.Claim.TheVariants.{OrgName, DatasetName, DatasetId, SourceName}
use Rattle.portal_state.specs.declared.quota.QuotaUsed.{QuotaUsed}

-- ---- the charge

-- the charge to the caller's quota: its entry with the size added; the anonymous caller has none
abbrev pub charge_of : Caller → ℕ → List QuotaUsed → Option QuotaUsed
charge_of Anonymous size quota_used = None
charge_of (Named user) size quota_used = Some (record {
  user = user;
  bytes =
      accepted_bytes_of_user user quota_used + size;
})

abbrev pub with_charge : Option QuotaUsed → State → State
with_charge None state = state
with_charge (Some entry) state = record state { quota_used = upserted quota_used_cmp entry state.quota_used }

-- the state with the size charged to the caller's quota
abbrev pub charged : Caller → ℕ → State → State
charged caller size state = with_charge (charge_of caller size state.quota_used) state

-- ---- the change

-- the state after the change's entries, with the call's size charged for it
abbrev pub applied : Call → Change → State → State
applied call change state = charged call.caller call.size (state_after change.entries state)

-- something of that kind in the state has the name or the id
abbrev pub is_in_use : State → Claim → Bool
is_in_use state (OrgName name) = is_some (org_in state.people name)
is_in_use state (DatasetName name) = has_name name state.datasets
is_in_use state (DatasetId id) = has_id id state.datasets
is_in_use state (SourceName name) = is_some (source_named state.sources name)

-- the key of a claim in the body
abbrev pub key_of : Claim → List ℕ
key_of (OrgName name) = codes "name"
key_of (DatasetName name) = codes "name"
key_of (DatasetId id) = codes "id"
key_of (SourceName name) = codes "name"

-- none of these claims is in use
abbrev pub AreUnused : State → List Claim → Type 0
AreUnused state claims = find (is_in_use state) claims ≡ None

-- nothing that the change claims is in use
abbrev pub IsUnused : State → Change → Type 0
IsUnused state change = AreUnused state change.claims

-- ---- a planned change

-- The tables after a change of a dataset: those of its resources stay, and those of resources that are gone go.
abbrev pub tables_left : DatasetChange → List ResourceTable → List ResourceTable
tables_left (dataset.Create d) tables = tables
tables_left (dataset.Replace d) tables = tables_kept d.id d.resources tables
tables_left (dataset.Remove id) tables = tables_kept id [] tables

-- The datasets after a change of sources: those of a source that goes go with it.
abbrev pub datasets_left : SourceChange → List Package → List Package
datasets_left (source.Create new) datasets = datasets
datasets_left (source.Update name title url) datasets = datasets
datasets_left (source.Remove name) datasets = filter (λ d. not (is_of_source name d)) datasets
datasets_left (source.AddJob name created) datasets = datasets

-- The state after the planned change, as the parts of the portal make it. A law says that its entries make it too.
abbrev pub changed : PlannedChange → State → State
changed (People change) state = record state { people = changed_people change state.people }
changed (Datasets change) state = record state {
  datasets = changed_datasets change state.datasets;
  tables = tables_left change state.tables;
}
changed (Tables change) state = record state { tables = changed_tables change state.tables }
changed (Sources change) state = record state {
  datasets = datasets_left change state.datasets;
  sources = changed_sources change state.sources;
}

-- the same, with the call's size charged for it
abbrev pub with_planned : Call → PlannedChange → State → State
with_planned call planned state = charged call.caller call.size (changed planned state)

-- A caller's view of the state.
use Rattle.std.specs.Prelude.{Bool, filter}
use Rattle.portal_base.specs.declared.caller.Caller.{Caller}
use Rattle.datastore_answers.specs.Tables.{is_table_among, tables_seen}
use Rattle.datastore_answers.specs.declared.resource_table.ResourceTable.{ResourceTable}
use Rattle.harvest_answers.specs.View.{sources_seen}
use Rattle.visibility.specs.View.{is_called, people_seen, datasets_seen}
use Rattle.portal_state.specs.State.{State}
use Rattle.portal_state.specs.declared.quota.QuotaUsed.{QuotaUsed}

-- the entry is the caller's own quota
abbrev pub is_own_quota : Caller → QuotaUsed → Bool
is_own_quota caller quota_used = is_called caller quota_used.user

-- it is a table of a dataset that the caller sees
abbrev pub is_table_seen : Caller → State → ResourceTable → Bool
is_table_seen caller state = is_table_among (datasets_seen caller state.people state.datasets)

-- The caller's view of the state: the datasets that the caller sees, each complete and with its tables, the sources of
-- organizations that the caller administers, with their jobs, and of the quotas the caller's own.
abbrev pub view_of : Caller → State → State
view_of caller state = record {
  people = people_seen caller state.people;
  datasets = datasets_seen caller state.people state.datasets;
  tables = tables_seen (datasets_seen caller state.people state.datasets) state.tables;
  sources = sources_seen caller state.people state.sources;
  quota_used = filter (is_own_quota caller) state.quota_used;
}

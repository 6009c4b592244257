-- What a store keeps of a state, as values: organizations with their roles, datasets, and tables; and sources and jobs.
use Rattle.std.specs.Prelude.{◌≡◌, List, ◌++◌, map}
use Rattle.org_roles.specs.declared.entry.Membership.{Membership}
use Rattle.org_roles.specs.declared.entry.Org.{Org}
use Rattle.datastore_answers.specs.declared.resource_table.ResourceTable.{ResourceTable}
use Rattle.harvest_rows.specs.KeptHarvests.{AreKeptHarvests, kept_job_cmp, rows_of_harvests}
use Rattle.harvest_rows.specs.declared.kept_harvests.KeptHarvests.{KeptHarvests}
use Rattle.harvest_stages.specs.AtRest.{all_jobs, at_rest, bare_sources}
use Rattle.portal_base.specs.Ordered.{ascending}
use Rattle.portal_keeper.specs.declared.row.KeptRow.{KeptRow}
use Rattle.portal_rows.specs.KeptValues.{AreKeptValues, kept_table_cmp, rows_of_values}
use Rattle.portal_rows.specs.OrgRows.{memberships_in}
use Rattle.portal_rows.specs.TableRows.{head_of}
use Rattle.portal_rows.specs.declared.kept_tables.KeptTable.{KeptTable}
use Rattle.portal_rows.specs.declared.kept_values.KeptValues.{KeptValues}
use Rattle.portal_rows.specs.declared.org_reading.OrgWithRoles.{OrgWithRoles}
use Rattle.portal_state.specs.KeptRows.{kept_rows, resource_id, row_targets}
use Rattle.portal_state.specs.State.{State}
use Rattle.portal_state.specs.Typed.{IsTyped}
use Rattle.portal_state.specs.Valid.{IsValid}

-- the organization with those of these roles that are in it
abbrev pub with_roles : List Membership → Org → OrgWithRoles
with_roles roles org = record { org = org; roles = memberships_in org.name roles }

-- The table under its resource's id. Of its references, those to itself have the target 0.
abbrev pub kept_table : ResourceTable → KeptTable
kept_table t = record {
  resource = resource_id t.address;
  head = head_of t.table (row_targets t);
  rows = t.table.rows;
}

-- The values of a state. The tables are in the order of the bytes of their resources' ids, and not in that of their numbers.
abbrev pub values_of : State → KeptValues
values_of state = record {
  orgs = map (with_roles state.people.roles) state.people.orgs;
  datasets = state.datasets;
  tables = ascending kept_table_cmp (map kept_table state.tables);
}

-- The sources and jobs of a state. A running job is kept as a new one. The jobs are in the order of the bytes of their ids,
-- and not in that of their numbers.
abbrev pub harvests_of : State → KeptHarvests
harvests_of state = record {
  sources = bare_sources state.sources;
  jobs = ascending kept_job_cmp (all_jobs (map at_rest state.sources));
}

-- The rows are those of these values: first those of organizations, datasets and tables, and then those of sources and jobs.
pub record AreRowsOf (values : KeptValues) (harvests : KeptHarvests) (rows : List KeptRow) : Type 0 where
  pub values_kept : AreKeptValues values
  pub harvests_kept : AreKeptHarvests harvests
  pub same : rows_of_values values ++ rows_of_harvests harvests ≡ rows

-- The rows are those of the state, which is valid and has values of the right types.
pub record IsStateOf (rows : List KeptRow) (state : State) : Type 0 where
  pub valid : IsValid state
  pub typed : IsTyped state
  pub kept : kept_rows state ≡ rows

-- The rows that a store has for a state of the portal.
use Rattle.std.specs.Prelude.{◌==◌, ◌<◌, ◌^◌, ℕ, List, ◌∷◌, ◌++◌, All, map, if◌then◌else◌}
use Rattle.std.specs.List.{flat_map}
use Rattle.dataset_rows.specs.Rows.{row_text}
use Rattle.datastore_answers.specs.declared.address.Address.{Address}
use Rattle.datastore_answers.specs.declared.resource_table.ResourceTable.{ResourceTable}
use Rattle.harvest_rows.specs.Rows.{job_rows, source_rows}
use Rattle.packages.specs.Named.{resource_address}
use Rattle.packages.specs.declared.package.Package.{Package}
use Rattle.portal_base.specs.Ordered.{ascending}
use Rattle.portal_state.specs.State.{State}
use Rattle.portal_keeper.specs.Rows.{row_cmp}
use Rattle.portal_keeper.specs.declared.row.KeptRow.{KeptRow}
use Rattle.portal_keeper.specs.declared.row.RowKind.TheVariants as kind
use Rattle.portal_rows.specs.OrgRows.{org_rows}
use Rattle.portal_rows.specs.TableRows.{rows_of_table}
use Rattle.portal_rows.specs.VersionRow.{version_row}

-- ---- datasets

-- the row of a dataset
abbrev pub dataset_row : Package → KeptRow
dataset_row dataset = record { kind = kind.Set; key = dataset.id; body = row_text dataset }

-- ---- tables

-- the id of the resource at an address
abbrev pub resource_id : Address → List ℕ
resource_id address = resource_address address.dataset address.number

-- What a row has in place of a referenced resource's number, where the table's own number is the first one: 0 for the
-- table itself, and else that number.
abbrev pub row_target : ℕ → ℕ → ℕ
row_target own number = if number == own then 0 else number

abbrev pub row_targets : ResourceTable → List ℕ
row_targets t = map (row_target t.address.number) t.targets

-- the row of a resource's table, and the rows of its rows
abbrev pub table_rows : ResourceTable → List KeptRow
table_rows t = rows_of_table (resource_id t.address) t.table (row_targets t)

-- ---- all rows

-- the row of the version, and those of organizations, datasets, tables, sources and jobs, in the orders of the state's lists
abbrev pub listed_rows : State → List KeptRow
listed_rows state =
    version_row
    ∷ (org_rows state.people
    ++ (map dataset_row state.datasets
    ++ (flat_map table_rows state.tables ++ (source_rows state.sources ++ job_rows state.sources))))

-- the rows of the state, in the order of a store
abbrev pub kept_rows : State → List KeptRow
kept_rows state = ascending row_cmp (listed_rows state)

-- ---- numbers

-- The number of each table's resource is a `u32`, and its next `_id` a `u64`.
pub record AreSized (tables : List ResourceTable) : Type 0 where
  pub numbers : All (λ (t : ResourceTable). t.address.number < 2 ^ 32) tables
  pub next_ids : All (λ (t : ResourceTable). t.table.next_id < 2 ^ 64) tables

-- So it is with the tables of the state, and the number of each source's next job is a `u64`.
pub record IsSized (state : State) : Type 0 where
  pub tables : AreSized state.tables
  pub next_jobs : All (λ s. s.source.next_job < 2 ^ 64) state.sources

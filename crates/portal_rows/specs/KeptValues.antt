-- What the rows of a store are rows of: organizations with their roles, datasets, and tables with their rows.
use Rattle.std.specs.Prelude.{◌≡◌, ◌<◌, ◌^◌, List, [], ◌∷◌, ◌++◌, All, IsTrue, map}
use Rattle.std.specs.Cmp.{IsTotalOrder}
use Rattle.std.specs.Cmp.Lexicographic.{slice_cmp}
use Rattle.std.specs.List.{Contains, flat_map}
use Rattle.std.specs.Ordering.{nat_cmp}
use Rattle.std.specs.declared.cmp.Ordering.{Ordering}
use Rattle.std.proofs.lemmas.Cmp.{nat_list_cmp_total, on_total}
use Rattle.dataset_rows.specs.Rows.{IsWellTyped, row_text}
use Rattle.datastore_table.specs.Meets.{are_accepted}
use Rattle.datastore_table.specs.Rows.{row_cmp as id_cmp}
use Rattle.datastore_table.specs.declared.row.Row.{Row}
use Rattle.org_roles.specs.Order.{org_cmp}
use Rattle.packages.specs.Order.{dataset_cmp}
use Rattle.packages.specs.declared.package.Package.{Package}
use Rattle.portal_base.specs.Ordered.{IsAscending, ascending}
use Rattle.portal_keeper.specs.Rows.{row_cmp}
use Rattle.portal_keeper.specs.declared.row.KeptRow.{KeptRow}
use Rattle.portal_keeper.specs.declared.row.RowKind.TheVariants as kind
use Rattle.table_schema.specs.Field.{SchemaValue}
use Rattle.portal_rows.specs.OrgRows.{IsOrgWithRoles, org_row}
use Rattle.portal_rows.specs.TableRows.{IsHead, cells_row, table_row}
use Rattle.portal_rows.specs.VersionRow.{version_row}
use Rattle.portal_rows.specs.declared.kept_tables.KeptTable.{KeptTable}
use Rattle.portal_rows.specs.declared.kept_values.KeptValues.{KeptValues}
use Rattle.portal_rows.specs.declared.org_reading.OrgWithRoles.{OrgWithRoles}

-- ---- the rows of values

-- the row of an organization with its roles
abbrev pub kept_org_row : OrgWithRoles → KeptRow
kept_org_row kept = org_row kept.org kept.roles

-- the row of a dataset
abbrev pub dataset_row : Package → KeptRow
dataset_row dataset = record { kind = kind.Set; key = dataset.id; body = row_text dataset }

-- the row of a table
abbrev pub head_row : KeptTable → KeptRow
head_row table = table_row table.resource table.head

-- the rows of a table's rows, in their order
abbrev pub rows_in_table : KeptTable → List KeptRow
rows_in_table table = map (cells_row table.resource) table.rows

-- the row of a table, and the rows of its rows
abbrev pub table_rows : KeptTable → List KeptRow
table_rows table = head_row table ∷ rows_in_table table

-- the row of the version, and those of the organizations, the datasets and the tables, in the orders of their lists
abbrev pub listed_rows : KeptValues → List KeptRow
listed_rows values =
    version_row
    ∷ (map kept_org_row values.orgs ++ (map dataset_row values.datasets ++ flat_map table_rows values.tables))

-- the rows of the values, in the order of a store
abbrev pub rows_of_values : KeptValues → List KeptRow
rows_of_values values = ascending row_cmp (listed_rows values)

-- The rows after that of the version, kind by kind. The rows of tables' rows are in the order of their keys, which need
-- not be the order of the tables: a key goes on with `/` after the resource's id.
abbrev pub rows_after_version : KeptValues → List KeptRow
rows_after_version values =
    map kept_org_row values.orgs
    ++ (map dataset_row values.datasets
    ++ (map head_row values.tables ++ ascending row_cmp (flat_map rows_in_table values.tables)))

-- ---- values that have rows

-- by the organization's name
abbrev pub kept_org_cmp : OrgWithRoles → OrgWithRoles → Ordering
kept_org_cmp kept other = org_cmp kept.org other.org

-- by the bytes of the resource's id
abbrev pub kept_table_cmp : KeptTable → KeptTable → Ordering
kept_table_cmp table other = slice_cmp nat_cmp table.resource other.resource

pub kept_table_cmp_total : IsTotalOrder kept_table_cmp
kept_table_cmp_total = on_total (λ table. table.resource) nat_list_cmp_total

-- A row of a table with this schema: the `_id` is a `u64`, and the fields accept the cells, one cell for each field.
pub record IsKeptRow (schema : SchemaValue) (row : Row) : Type 0 where
  pub id : row.id < 2 ^ 64
  pub cells : IsTrue (are_accepted schema.fields row.cells)

-- A table that has rows in a store. Its rows ascend by `_id`.
pub record IsKeptTable (table : KeptTable) : Type 0 where
  pub head : IsHead table.head
  pub rows : All (IsKeptRow table.head.schema) table.rows
  pub ascend : IsAscending id_cmp table.rows

-- Values that have rows in a store. Organizations ascend by name, datasets by id, and tables by their resource's id.
pub record AreKeptValues (values : KeptValues) : Type 0 where
  pub orgs : All IsOrgWithRoles values.orgs
  pub orgs_ascend : IsAscending kept_org_cmp values.orgs
  pub datasets : All IsWellTyped values.datasets
  pub datasets_ascend : IsAscending dataset_cmp values.datasets
  pub tables : All IsKeptTable values.tables
  pub tables_ascend : IsAscending kept_table_cmp values.tables

-- The rows are those of these values.
abbrev pub IsKeptOf : KeptValues → List KeptRow → Type 0
IsKeptOf values rows = AreKeptValues values × (rows_of_values values ≡ rows)

-- The rows are those of these values, without the row of the version.
abbrev pub IsKeptAfterVersion : KeptValues → List KeptRow → Type 0
IsKeptAfterVersion values rows = AreKeptValues values × (rows_after_version values ≡ rows)

-- ---- single rows

-- The row is that of this dataset.
abbrev pub IsDatasetRow : Package → KeptRow → Type 0
IsDatasetRow dataset row = IsWellTyped dataset × (row ≡ dataset_row dataset)

-- The row is that of this table, which has no rows yet.
abbrev pub IsRowOfNewTable : KeptTable → KeptRow → Type 0
IsRowOfNewTable table row = (IsHead table.head × (table.rows ≡ [])) × (row ≡ head_row table)

-- The row is that of this row of the table.
abbrev pub IsRowInTable : KeptTable → Row → KeptRow → Type 0
IsRowInTable table row kept = IsKeptRow table.head.schema row × (kept ≡ cells_row table.resource row)

-- ---- the rows of tables

-- Tables without rows.
pub record AreNewTables (tables : List KeptTable) : Type 0 where
  pub heads : All (λ table. IsHead table.head) tables
  pub no_rows : All (λ table. table.rows ≡ []) tables
  pub ascend : IsAscending kept_table_cmp tables

-- These are the rows of the tables, and those are the rows of the tables' rows.
pub record AreTablesOf (tables : List KeptTable) (heads rows : List KeptRow) : Type 0 where
  pub valid : All IsKeptTable tables
  pub ascend : IsAscending kept_table_cmp tables
  pub have_heads : map head_row tables ≡ heads
  pub have_rows : ascending row_cmp (flat_map rows_in_table tables) ≡ rows

-- the table with one more row
abbrev pub with_row : KeptTable → Row → KeptTable
with_row table row = record table { rows = table.rows ++ row ∷ [] }

-- One of the tables has one more row, of which this is the row.
pub record IsAdded (kept : KeptRow) (old new : List KeptTable) : Type 0 where
  pub before : List KeptTable
  pub table : KeptTable
  pub after : List KeptTable
  pub row : Row
  pub was : old ≡ before ++ table ∷ after
  pub own : IsRowInTable table row kept
  pub is : new ≡ before ++ with_row table row ∷ after

-- The row is of no row that one of these tables can have.
abbrev pub IsOfNoTable : KeptRow → List KeptTable → Type 0
IsOfNoTable kept tables = (table : KeptTable) (row : Row) → Contains tables table → IsRowInTable table row kept → ⊥

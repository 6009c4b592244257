-- Values that have the same rows are the same.
use Rattle.std.proofs.Common.{◌≡◌, ℕ, List, ◌∷◌, map, refl, sym, ap, ◌∙◌, subst}
use Rattle.std.specs.Cmp.Lexicographic.{slice_cmp}
use Rattle.std.specs.List.{flat_map}
use Rattle.std.specs.Ordering.{nat_cmp}
use Rattle.std.specs.declared.cmp.Ordering.TheVariants.{Equal}
use Rattle.std.proofs.lemmas.Cmp.{nat_list_cmp_total, tied_itself}
use Rattle.std.proofs.lemmas.Option.{same_Some}
use Rattle.datastore_table.specs.Rows.{row_cmp as id_cmp, row_cmp_total as id_cmp_total}
use Rattle.datastore_table.specs.declared.row.Row.{Row}
use Rattle.dataset_rows.specs.Rows.{HasRow, IsWellTyped, row_text}
use Rattle.dataset_rows.proofs.RowLemmas.{one_dataset}
use Rattle.packages.specs.declared.package.Package.{Package}
use Rattle.packages.proofs.FindLemmas.{IsIn-map, map-IsIn}
use Rattle.portal_base.specs.Ordered.{ascending}
use Rattle.portal_base.proofs.Unique.{IsIn, IsIn-ascending, ascending-IsIn, unique}
use Rattle.portal_base.proofs.Upserted.{All-IsIn}
use Rattle.portal_keeper.specs.Rows.{row_cmp}
use Rattle.portal_keeper.specs.declared.row.KeptRow.{KeptRow}
use Rattle.portal_rows.specs.KeptValues.{AreKeptValues, AreTablesOf, IsKeptOf, IsKeptRow, IsKeptTable, dataset_row}
use Rattle.portal_rows.specs.KeptValues.{head_row}
use Rattle.portal_rows.specs.KeptValues.{kept_org_row, kept_table_cmp, kept_table_cmp_total, rows_after_version}
use Rattle.portal_rows.specs.KeptValues.{rows_in_table}
use Rattle.portal_rows.specs.OrgRows.{IsOrgWithRoles, org_value}
use Rattle.portal_rows.specs.Readings.{cells_of_value, head_reading, org_with_roles_reading}
use Rattle.portal_rows.specs.TableRows.{IsHead, cells_row, cells_value, head_value}
use Rattle.portal_rows.specs.VersionRow.{version_row}
use Rattle.portal_rows.specs.declared.kept_tables.KeptTable.{KeptTable}
use Rattle.portal_rows.specs.declared.kept_values.KeptValues.{KeptValues}
use Rattle.portal_rows.specs.declared.org_reading.OrgWithRoles.{OrgWithRoles}
use Rattle.portal_rows.specs.declared.tables.TableHead.{TableHead}
use Rattle.portal_rows.proofs.CellLemmas.{cells_of_value-back, cells_value-readable}
use Rattle.portal_rows.proofs.JsonBack.{same_value}
use Rattle.portal_rows.proofs.KeptOrder.{row-is_kept, rows_of_values-by_kind, values-parts}
use Rattle.portal_rows.proofs.KeyLemmas.{same_row_key}
use Rattle.portal_rows.proofs.KindLemmas.{same_rows-same_parts}
use Rattle.portal_rows.proofs.MemberLemmas.{IsIn-flat_map, flat_map-IsIn, one_member, same_made}
use Rattle.portal_rows.proofs.OrgLemmas.{org_value-readable, org_with_roles-back}
use Rattle.portal_rows.proofs.TableLemmas.{head-back, head_value-readable}

same_keys : (r q : KeptRow) → r ≡ q → r.key ≡ q.key
same_keys r q e = ap (λ (k : KeptRow). k.key) e

same_bodies : (r q : KeptRow) → r ≡ q → r.body ≡ q.body
same_bodies r q e = ap (λ (k : KeptRow). k.body) e

-- ---- organizations and datasets

pub same_org : (kept other : OrgWithRoles) → IsOrgWithRoles kept → IsOrgWithRoles other
    → kept_org_row kept ≡ kept_org_row other → kept ≡ other
same_org kept other is also e =
    let name : kept.org.name ≡ other.org.name = same_keys (kept_org_row kept) (kept_org_row other) e in
    let value : org_value kept.org kept.roles ≡ org_value other.org other.roles =
    same_value (org_value kept.org kept.roles) (org_value other.org other.roles) (org_value-readable kept is)
    (org_value-readable other also) (same_bodies (kept_org_row kept) (kept_org_row other) e) in
    same_Some kept other
    (sym (org_with_roles-back other.org.name kept is name) ∙ ap (org_with_roles_reading other.org.name) value
    ∙ org_with_roles-back other.org.name other also refl)

pub same_dataset : (dataset other : Package) → IsWellTyped dataset → IsWellTyped other
    → dataset_row dataset ≡ dataset_row other → dataset ≡ other
same_dataset dataset other is also e =
    let first : HasRow other.id (row_text other) dataset = record {
      typed = is;
      named = same_keys (dataset_row dataset) (dataset_row other) e;
      written = same_bodies (dataset_row dataset) (dataset_row other) e;
    } in
    let second : HasRow other.id (row_text other) other = record { typed = also; named = refl; written = refl } in
    one_dataset other.id (row_text other) dataset other first second

-- ---- tables without their rows, and single rows

pub same_head : (table other : KeptTable) → IsHead table.head → IsHead other.head → head_row table ≡ head_row other
    → (table.resource ≡ other.resource) × (table.head ≡ other.head)
same_head table other is also e =
    let value : head_value table.head ≡ head_value other.head =
    same_value (head_value table.head) (head_value other.head) (head_value-readable table.head is)
    (head_value-readable other.head also) (same_bodies (head_row table) (head_row other) e) in (
      same_keys (head_row table) (head_row other) e,
      same_Some table.head other.head
          (sym (head-back table.head is) ∙ ap head_reading value ∙ head-back other.head also),
    )

pub same_row : (table : KeptTable) (row other : Row) → IsKeptRow table.head.schema row
    → IsKeptRow table.head.schema other
    → cells_row table.resource row ≡ cells_row table.resource other → row ≡ other
same_row table row other is also e =
    let fields = table.head.schema.fields in
    let id : row.id ≡ other.id =
    (same_row_key table.resource table.resource row.id other.id is.id also.id
    (same_keys (cells_row table.resource row) (cells_row table.resource other) e)).1 in
    let value : cells_value row.cells ≡ cells_value other.cells =
    same_value (cells_value row.cells) (cells_value other.cells) (cells_value-readable fields row.cells is.cells)
    (cells_value-readable fields other.cells also.cells)
    (same_bodies (cells_row table.resource row) (cells_row table.resource other) e) in
    let cells : row.cells ≡ other.cells =
    same_Some row.cells other.cells
    (sym (cells_of_value-back fields row.cells is.cells) ∙ ap (cells_of_value fields) value
    ∙ cells_of_value-back fields other.cells also.cells) in
    λ i. record { id = id i; cells = cells i }

-- ---- tables

-- The row of a row of one of the tables is found among the rows of its rows.
row_in : (tables : List KeptTable) (heads rows : List KeptRow) → AreTablesOf tables heads rows → (table : KeptTable)
    → IsIn table tables → (row : Row) → IsKeptRow table.head.schema row → IsIn (cells_row table.resource row) rows
    → IsIn row table.rows
row_in tables heads rows are table m row is among =
    let r = cells_row table.resource row in
    let w = flat_map-IsIn rows_in_table r tables
    (ascending-IsIn row_cmp r (flat_map rows_in_table tables) (subst (IsIn r) (sym are.have_rows) among)) in
    let v = map-IsIn (cells_row w.0.resource) r w.0.rows w.2 in
    let kept : (t : KeptTable) → IsIn t tables → IsKeptTable t = All-IsIn IsKeptTable tables are.valid in
    let resource : table.resource ≡ w.0.resource =
    (same_row_key table.resource w.0.resource row.id v.0.id is.id (row-is_kept w.0 (kept w.0 w.1) v.0 v.1).id
    (same_keys r (cells_row w.0.resource v.0) v.2)).0 in
    let alike : kept_table_cmp w.0 table ≡ Equal =
    ap (slice_cmp nat_cmp w.0.resource) resource ∙ tied_itself nat_list_cmp_total w.0.resource in
    let one : w.0 ≡ table = one_member kept_table_cmp kept_table_cmp_total w.0 table tables are.ascend w.1 m alike in
    let there : IsIn v.0 table.rows = subst (λ (t : KeptTable). IsIn v.0 t.rows) one v.1 in
    let same : row ≡ v.0 =
    same_row table row v.0 is (row-is_kept table (kept table m) v.0 there)
    (subst (λ (t : KeptTable). r ≡ cells_row t.resource v.0) one v.2) in
    subst (λ (q : Row). IsIn q table.rows) (sym same) there

-- Each row of a table is in the table of the same resource and head.
rows_within : (tables others : List KeptTable) (heads rows : List KeptRow) → AreTablesOf tables heads rows
    → AreTablesOf others heads rows → (table other : KeptTable) → IsIn table tables → IsIn other others
    → table.resource ≡ other.resource → table.head ≡ other.head → (row : Row) → IsIn row table.rows
    → IsIn row other.rows
rows_within tables others heads rows are also table other m n resource head row is_in =
    let kept : IsKeptTable table = All-IsIn IsKeptTable tables are.valid table m in
    let r = cells_row table.resource row in
    let among : IsIn r rows =
    subst (IsIn r) are.have_rows
    (IsIn-ascending row_cmp r (flat_map rows_in_table tables)
    (IsIn-flat_map rows_in_table r table tables m (IsIn-map (cells_row table.resource) row table.rows is_in))) in
    row_in others heads rows also other n row
    (subst (λ (h : TableHead). IsKeptRow h.schema row) head (row-is_kept table kept row is_in))
    (subst (λ (l : List ℕ). IsIn (cells_row l row) rows) resource among)

pub same_tables : (tables others : List KeptTable) (heads rows : List KeptRow) → AreTablesOf tables heads rows
    → AreTablesOf others heads rows → tables ≡ others
same_tables tables others heads rows are also =
    same_made head_row tables others one (are.have_heads ∙ sym also.have_heads)
  where
    one : (table other : KeptTable) → IsIn table tables → IsIn other others → head_row table ≡ head_row other
        → table ≡ other
    one table other m n e =
        let kept : IsKeptTable table = All-IsIn IsKeptTable tables are.valid table m in
        let also_kept : IsKeptTable other = All-IsIn IsKeptTable others also.valid other n in
        let head = same_head table other kept.head also_kept.head e in
        let all : table.rows ≡ other.rows =
        unique id_cmp id_cmp_total table.rows other.rows kept.ascend also_kept.ascend
        (rows_within tables others heads rows are also table other m n head.0 head.1)
        (rows_within others tables heads rows also are other table n m (sym head.0) (sym head.1)) in
        λ i. record { resource = head.0 i; head = head.1 i; rows = all i }

-- ---- all values

-- the tables of right values
pub tables-of : (values : KeptValues) → AreKeptValues values
    → AreTablesOf values.tables (map head_row values.tables) (ascending row_cmp (flat_map rows_in_table values.tables))
tables-of values kept =
    record { valid = kept.tables; ascend = kept.tables_ascend; have_heads = refl; have_rows = refl }

pub same_values : (values others : KeptValues) (rows : List KeptRow) → IsKeptOf values rows → IsKeptOf others rows
    → values ≡ others
same_values values others rows is also =
    let both : version_row ∷ rows_after_version values ≡ version_row ∷ rows_after_version others =
    sym (rows_of_values-by_kind values is.0) ∙ is.1 ∙ sym also.1 ∙ rows_of_values-by_kind others also.0 in
    let after : rows_after_version values ≡ rows_after_version others = cc in
    let parts = same_rows-same_parts (map kept_org_row values.orgs) (map dataset_row values.datasets)
    (map head_row values.tables) (ascending row_cmp (flat_map rows_in_table values.tables))
    (map kept_org_row others.orgs) (map dataset_row others.datasets) (map head_row others.tables)
    (ascending row_cmp (flat_map rows_in_table others.tables)) (values-parts values) (values-parts others) after in
    let orgs : values.orgs ≡ others.orgs =
    same_made kept_org_row values.orgs others.orgs
    (λ x y m n e. same_org x y (All-IsIn IsOrgWithRoles values.orgs is.0.orgs x m)
    (All-IsIn IsOrgWithRoles others.orgs also.0.orgs y n) e) parts.0 in
    let datasets : values.datasets ≡ others.datasets =
    same_made dataset_row values.datasets others.datasets
    (λ x y m n e. same_dataset x y (All-IsIn IsWellTyped values.datasets is.0.datasets x m)
    (All-IsIn IsWellTyped others.datasets also.0.datasets y n) e) parts.1 in
    let tables : values.tables ≡ others.tables =
    same_tables values.tables others.tables (map head_row others.tables)
    (ascending row_cmp (flat_map rows_in_table others.tables))
    (record { valid = is.0.tables; ascend = is.0.tables_ascend; have_heads = parts.2; have_rows = parts.3 })
    (tables-of others also.0) in
    λ i. record { orgs = orgs i; datasets = datasets i; tables = tables i }

-- The rows of values, kind by kind, and that they are in order.
use Rattle.std.proofs.Common.{◌≡◌, ℕ, ◌^◌, ◌<◌, List, [], ◌∷◌, ◌++◌, map, ◌⊎◌, inl, inr, refl, sym, ap, ◌∙◌}
use Rattle.std.proofs.Common.{arith, subst}
use Rattle.std.specs.Cmp.Lexicographic.{slice_cmp}
use Rattle.std.specs.List.{flat_map}
use Rattle.std.specs.Ordering.{nat_cmp}
use Rattle.std.specs.declared.cmp.Ordering.{Ordering}
use Rattle.std.specs.declared.cmp.Ordering.TheVariants.{Less, Equal, Greater}
use Rattle.std.proofs.lemmas.Cmp.{nat_list_cmp_total, ranked}
use Rattle.datastore_table.specs.Rows.{row_cmp as id_cmp}
use Rattle.datastore_table.specs.declared.row.Row.{Row}
use Rattle.datastore_table.proofs.PairLemmas.{IsBelowAll-each}
use Rattle.packages.specs.Order.{dataset_cmp}
use Rattle.packages.specs.declared.package.Package.{Package}
use Rattle.packages.proofs.FindLemmas.{map-IsIn}
use Rattle.portal_base.specs.Ordered.{IsAscending, IsBelowAll, ascending, inserted}
use Rattle.portal_base.proofs.Inserted.{AreApart, IsAscending-ascending}
use Rattle.portal_base.proofs.Removed.{inserted_front}
use Rattle.portal_base.proofs.Unique.{IsIn, ascending-IsIn, below_in, not_below_itself}
use Rattle.portal_base.proofs.Upserted.{All-IsIn, ascending-same}
use Rattle.portal_keeper.specs.Rows.{AreInOrder, kind_number, row_cmp, row_cmp_total}
use Rattle.portal_keeper.specs.declared.row.KeptRow.{KeptRow}
use Rattle.portal_rows.specs.KeptValues.{AreKeptValues, IsKeptRow, IsKeptTable, dataset_row, head_row, kept_org_cmp}
use Rattle.portal_rows.specs.KeptValues.{kept_org_row, kept_table_cmp, rows_after_version, rows_in_table}
use Rattle.portal_rows.specs.KeptValues.{rows_of_values}
use Rattle.portal_rows.specs.KeptValues.{table_rows}
use Rattle.portal_rows.specs.TableRows.{cells_row}
use Rattle.portal_rows.specs.VersionRow.{version_row}
use Rattle.portal_rows.specs.declared.kept_tables.KeptTable.{KeptTable}
use Rattle.portal_rows.specs.declared.kept_values.KeptValues.{KeptValues}
use Rattle.portal_rows.specs.declared.org_reading.OrgWithRoles.{OrgWithRoles}
use Rattle.portal_rows.proofs.KeyLemmas.{row_key-less, same_row_key}
use Rattle.portal_rows.proofs.KindLemmas.{AreAfter, AreParts, after-kind, after_both, apart-append, in_order-apart}
use Rattle.portal_rows.proofs.KindLemmas.{keys-apart, kinds-less, kinds_below, map-kind, parts-in_order, up_to-kind}
use Rattle.portal_rows.proofs.MemberLemmas.{ascending-append, ascending-made}
use Rattle.portal_rows.proofs.MemberLemmas.{flat_map-IsIn}
use Rattle.portal_rows.proofs.MemberLemmas.{in_either, inserted-after}

-- ---- the kinds of the rows

pub org-kind : (orgs : List OrgWithRoles) (r : KeptRow) → IsIn r (map kept_org_row orgs) → kind_number r.kind ≡ 2
org-kind = map-kind kept_org_row 2 (λ kept. refl)

pub dataset-kind : (datasets : List Package) (r : KeptRow) → IsIn r (map dataset_row datasets) → kind_number r.kind ≡ 3
dataset-kind = map-kind dataset_row 3 (λ dataset. refl)

pub head-kind : (tables : List KeptTable) (r : KeptRow) → IsIn r (map head_row tables) → kind_number r.kind ≡ 4
head-kind = map-kind head_row 4 (λ table. refl)

pub cells-kind : (table : KeptTable) (r : KeptRow) → IsIn r (rows_in_table table) → kind_number r.kind ≡ 5
cells-kind table r m = map-kind (cells_row table.resource) 5 (λ row. refl) table.rows r m

flat-kind : (tables : List KeptTable) (r : KeptRow) → IsIn r (flat_map rows_in_table tables) → kind_number r.kind ≡ 5
flat-kind tables r m = let w = flat_map-IsIn rows_in_table r tables m in cells-kind w.0 r w.2

pub row-kind : (tables : List KeptTable) (r : KeptRow) → IsIn r (ascending row_cmp (flat_map rows_in_table tables))
    → kind_number r.kind ≡ 5
row-kind tables r m =
    flat-kind tables r (ascending-IsIn row_cmp r (flat_map rows_in_table tables) m)

both-kinds : (rows : List KeptRow) (tables : List KeptTable) (r : KeptRow)
    → ((q : KeptRow) → IsIn q rows → kind_number q.kind ≡ 5)
    → IsIn r (ascending row_cmp (rows ++ flat_map rows_in_table tables)) → kind_number r.kind ≡ 5
both-kinds rows tables r kinds m =
    by (in_either r rows (flat_map rows_in_table tables)
    (ascending-IsIn row_cmp r (rows ++ flat_map rows_in_table tables) m))
  where
    by : IsIn r rows ⊎ IsIn r (flat_map rows_in_table tables) → kind_number r.kind ≡ 5
    by (inl n) = kinds r n
    by (inr n) = flat-kind tables r n

-- ---- the rows of one table

-- The rows ascend as the `_id`s do,
pub cells-less : (resource : List ℕ) (p q : Row) → q.id < 2 ^ 64 → id_cmp p q ≡ Less
    → row_cmp (cells_row resource p) (cells_row resource q) ≡ Less
cells-less resource p q small less = row_key-less resource p.id q.id (ranked p.id q.id Less (sym less)) small

-- and the `_id`s as the rows do.
pub id-less : (resource : List ℕ) (p q : Row) → p.id < 2 ^ 64
    → row_cmp (cells_row resource p) (cells_row resource q) ≡ Less → id_cmp p q ≡ Less
id-less resource p q small less = by (id_cmp p q) refl
  where
    by : (r : Ordering) → id_cmp p q ≡ r → r ≡ Less
    by Less is = refl
    by Equal is =
        let same : p.id ≡ q.id = ranked p.id q.id Equal (sym is) in
        absurd (not_below_itself row_cmp row_cmp_total (cells_row resource q)
        (subst (λ (n : ℕ).
        row_cmp (cells_row resource (record { id = n; cells = p.cells })) (cells_row resource q) ≡ Less)
        same less))
    by Greater is =
        let above : q.id < p.id = ranked p.id q.id Greater (sym is) in
        absurd (not_below_itself row_cmp row_cmp_total (cells_row resource p)
        (row_cmp_total.trans (cells_row resource p) (cells_row resource q) (cells_row resource p) less
        (row_key-less resource q.id p.id above small)))

pub row-is_kept : (table : KeptTable) → IsKeptTable table → (row : Row) → IsIn row table.rows
    → IsKeptRow table.head.schema row
row-is_kept table kept row m = All-IsIn (IsKeptRow table.head.schema) table.rows kept.rows row m

rows_in_table-in_order : (table : KeptTable) → IsKeptTable table → AreInOrder (rows_in_table table)
rows_in_table-in_order table kept =
    ascending-made (cells_row table.resource) id_cmp row_cmp table.rows
    (λ p q m n less. cells-less table.resource p q (row-is_kept table kept q n).id less) kept.ascend

-- ---- the rows of all tables' rows

-- A row of two tables' rows is of one resource.
one-resource : (t u : KeptTable) → IsKeptTable t → IsKeptTable u → (r q : KeptRow) → IsIn r (rows_in_table t)
    → IsIn q (rows_in_table u) → q.key ≡ r.key → t.resource ≡ u.resource
one-resource t u kept also r q m n same =
    let first = map-IsIn (cells_row t.resource) r t.rows m in
    let second = map-IsIn (cells_row u.resource) q u.rows n in
    (same_row_key t.resource u.resource first.0.id second.0.id (row-is_kept t kept first.0 first.1).id
    (row-is_kept u also second.0 second.1).id
    (sym (ap (λ (k : KeptRow). k.key) first.2) ∙ sym same ∙ ap (λ (k : KeptRow). k.key) second.2)).0

pub tables-apart : (tables : List KeptTable) → ((t : KeptTable) → IsIn t tables → IsKeptTable t)
    → IsAscending kept_table_cmp tables → AreApart row_cmp (flat_map rows_in_table tables)
tables-apart [] kept up = tt
tables-apart (t ∷ tables) kept up =
    apart-append (rows_in_table t) (flat_map rows_in_table tables)
    (in_order-apart (rows_in_table t) (rows_in_table-in_order t (kept t (inl refl))))
    (tables-apart tables (λ u m. kept u (inr m)) up.1)
    (λ r q m n. keys-apart q r (between r q m (flat_map-IsIn rows_in_table q tables n)))
  where
    between : (r q : KeptRow) → IsIn r (rows_in_table t)
        → (u : KeptTable) × IsIn u tables × IsIn q (rows_in_table u) → (q.kind ≡ r.kind) × (q.key ≡ r.key) → ⊥
    between r q m w same =
        let resource : t.resource ≡ w.0.resource =
        one-resource t w.0 (kept t (inl refl)) (kept w.0 (inr w.1)) r q m w.2 same.1 in
        let less : slice_cmp nat_cmp t.resource w.0.resource ≡ Less = below_in kept_table_cmp t w.0 tables up.0 w.1 in
        not_below_itself (slice_cmp nat_cmp) nat_list_cmp_total t.resource
        (subst (λ (l : List ℕ). slice_cmp nat_cmp t.resource l ≡ Less) (sym resource) less)

tables-after : (k : ℕ) (tables : List KeptTable) → k < 4 → AreAfter k (flat_map table_rows tables)
tables-after k tables lt = λ r m. let w = flat_map-IsIn table_rows r tables m in by r w.0 w.2
  where
    by : (r : KeptRow) (t : KeptTable) → IsIn r (table_rows t) → k < kind_number r.kind
    by r t (inl same) = subst (λ (q : KeptRow). k < kind_number q.kind) (sym same) (omega arith)
    by r t (inr m) = let is = cells-kind t r m in omega (arith, is)

-- ---- the rows of tables, before the rows of their rows

after_heads : (tables : List KeptTable) (r : KeptRow) → kind_number r.kind ≡ 5 → (z : KeptRow)
    → IsIn z (map head_row tables) → row_cmp z r ≡ Less
after_heads tables r is z m = let own = head-kind tables z m in kinds-less z r (omega (arith, is, own))

heads_first : (rows : List KeptRow) (tables : List KeptTable)
    → ((r : KeptRow) → IsIn r rows → kind_number r.kind ≡ 5)
    → ascending row_cmp (flat_map table_rows tables)
    ≡ map head_row tables ++ ascending row_cmp (flat_map rows_in_table tables)
    → ascending row_cmp (rows ++ flat_map table_rows tables)
    ≡ map head_row tables ++ ascending row_cmp (rows ++ flat_map rows_in_table tables)
heads_first [] tables kinds e = e
heads_first (r ∷ rows) tables kinds e =
    ap (inserted row_cmp r) (heads_first rows tables (λ q m. kinds q (inr m)) e)
    ∙ inserted-after row_cmp r (map head_row tables) (ascending row_cmp (rows ++ flat_map rows_in_table tables))
    (after_heads tables r (kinds r (inl refl)))

pub ascending-tables : (tables : List KeptTable) → IsAscending kept_table_cmp tables
    → ascending row_cmp (flat_map table_rows tables)
    ≡ map head_row tables ++ ascending row_cmp (flat_map rows_in_table tables)
ascending-tables [] up = refl
ascending-tables (t ∷ tables) up =
    ap (inserted row_cmp (head_row t))
    (heads_first (rows_in_table t) tables (cells-kind t) (ascending-tables tables up.1))
    ∙ inserted_front row_cmp row_cmp_total (head_row t)
    (map head_row tables ++ ascending row_cmp (rows_in_table t ++ flat_map rows_in_table tables))
    (IsBelowAll-each row_cmp (head_row t)
    (map head_row tables ++ ascending row_cmp (rows_in_table t ++ flat_map rows_in_table tables)) (λ r m. by r
    (in_either r (map head_row tables) (ascending row_cmp (rows_in_table t ++ flat_map rows_in_table tables)) m)))
  where
    by : (r : KeptRow)
        → IsIn r (map head_row tables) ⊎ IsIn r (ascending row_cmp (rows_in_table t ++ flat_map rows_in_table tables))
        → row_cmp (head_row t) r ≡ Less
    by r (inl m) =
        let w = map-IsIn head_row r tables m in
        subst (λ (q : KeptRow). row_cmp (head_row t) q ≡ Less) (sym w.2) (below_in kept_table_cmp t w.0 tables up.0 w.1)
    by r (inr m) =
        let is = both-kinds (rows_in_table t) tables r (cells-kind t) m in
        kinds-less (head_row t) r (omega (arith, is))

-- ---- all rows

pub values-parts : (values : KeptValues)
    → AreParts (map kept_org_row values.orgs) (map dataset_row values.datasets) (map head_row values.tables)
    (ascending row_cmp (flat_map rows_in_table values.tables))
values-parts values =
    let datasets = map dataset_row values.datasets in
    let heads = map head_row values.tables in
    let rest = ascending row_cmp (flat_map rows_in_table values.tables) in
    let after_heads : (k : ℕ) → k < 5 → AreAfter k rest = λ k lt. after-kind k 5 rest (row-kind values.tables) lt in
    let after_datasets : (k : ℕ) → k < 4 → AreAfter k (heads ++ rest) =
    λ k lt. after_both k heads rest (after-kind k 4 heads (head-kind values.tables) lt) (after_heads k (omega arith)) in
    record {
      orgs_up = up_to-kind 2 2 (map kept_org_row values.orgs) (org-kind values.orgs) (omega arith);
      orgs_after = after_both 2 datasets (heads ++ rest)
          (after-kind 2 3 datasets (dataset-kind values.datasets) (omega arith)) (after_datasets 2 (omega arith));
      datasets_up = up_to-kind 3 3 datasets (dataset-kind values.datasets) (omega arith);
      datasets_after = after_datasets 3 (omega arith);
      heads_up = up_to-kind 4 4 heads (head-kind values.tables) (omega arith);
      heads_after = after_heads 4 (omega arith);
    }

-- The version is before all other kinds.
pub after_version : (values : KeptValues) → AreAfter 1 (rows_after_version values)
after_version values =
    let parts = values-parts values in
    let orgs = map kept_org_row values.orgs in
    after_both 1 orgs
    (map dataset_row values.datasets
    ++ (map head_row values.tables ++ ascending row_cmp (flat_map rows_in_table values.tables)))
    (after-kind 1 2 orgs (org-kind values.orgs) (omega arith))
    (λ r m. let more = parts.orgs_after r m in omega (arith, more))

below_version : (values : KeptValues) → IsBelowAll row_cmp version_row (rows_after_version values)
below_version values =
    IsBelowAll-each row_cmp version_row (rows_after_version values)
    (λ r m. kinds-less version_row r (after_version values r m))

orgs-in_order : (orgs : List OrgWithRoles) → IsAscending kept_org_cmp orgs → AreInOrder (map kept_org_row orgs)
orgs-in_order orgs up = ascending-made kept_org_row kept_org_cmp row_cmp orgs (λ x y m n less. less) up

datasets-in_order : (datasets : List Package) → IsAscending dataset_cmp datasets → AreInOrder (map dataset_row datasets)
datasets-in_order datasets up = ascending-made dataset_row dataset_cmp row_cmp datasets (λ x y m n less. less) up

pub heads-in_order : (tables : List KeptTable) → IsAscending kept_table_cmp tables → AreInOrder (map head_row tables)
heads-in_order tables up = ascending-made head_row kept_table_cmp row_cmp tables (λ x y m n less. less) up

each-kept : (values : KeptValues) → AreKeptValues values → (t : KeptTable) → IsIn t values.tables → IsKeptTable t
each-kept values kept t m = All-IsIn IsKeptTable values.tables kept.tables t m

pub by_kind-in_order : (values : KeptValues) → AreKeptValues values
    → AreInOrder (version_row ∷ rows_after_version values)
by_kind-in_order values kept = (
  below_version values,
  parts-in_order (map kept_org_row values.orgs) (map dataset_row values.datasets) (map head_row values.tables)
      (ascending row_cmp (flat_map rows_in_table values.tables)) (values-parts values)
      (orgs-in_order values.orgs kept.orgs_ascend) (datasets-in_order values.datasets kept.datasets_ascend)
      (heads-in_order values.tables kept.tables_ascend)
      (IsAscending-ascending row_cmp row_cmp_total (flat_map rows_in_table values.tables)
      (tables-apart values.tables (each-kept values kept) kept.tables_ascend)),
)

-- The rows of the values in order are their rows kind by kind.
pub rows_of_values-by_kind : (values : KeptValues) → AreKeptValues values
    → rows_of_values values ≡ version_row ∷ rows_after_version values
rows_of_values-by_kind values kept =
    let orgs = map kept_org_row values.orgs in
    let datasets = map dataset_row values.datasets in
    let tables = flat_map table_rows values.tables in
    ap (inserted row_cmp version_row)
    (ascending-append row_cmp row_cmp_total orgs (datasets ++ tables)
    (kinds_below 2 orgs (datasets ++ tables) (up_to-kind 2 2 orgs (org-kind values.orgs) (omega arith))
    (after_both 2 datasets tables (after-kind 2 3 datasets (dataset-kind values.datasets) (omega arith))
    (tables-after 2 values.tables (omega arith))))
    ∙ ap (λ l. l ++ ascending row_cmp (datasets ++ tables))
    (ascending-same row_cmp row_cmp_total orgs (orgs-in_order values.orgs kept.orgs_ascend))
    ∙ ap (λ l. orgs ++ l)
    (ascending-append row_cmp row_cmp_total datasets tables
    (kinds_below 3 datasets tables (up_to-kind 3 3 datasets (dataset-kind values.datasets) (omega arith))
    (tables-after 3 values.tables (omega arith)))
    ∙ ap (λ l. l ++ ascending row_cmp tables)
    (ascending-same row_cmp row_cmp_total datasets (datasets-in_order values.datasets kept.datasets_ascend))
    ∙ ap (λ l. datasets ++ l) (ascending-tables values.tables kept.tables_ascend)))
    ∙ inserted_front row_cmp row_cmp_total version_row (rows_after_version values) (below_version values)

pub rows_of_values-in_order : (values : KeptValues) → AreKeptValues values → AreInOrder (rows_of_values values)
rows_of_values-in_order values kept =
    subst AreInOrder (sym (rows_of_values-by_kind values kept)) (by_kind-in_order values kept)

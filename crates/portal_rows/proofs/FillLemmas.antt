-- Tables that get their rows one by one.
use Rattle.std.proofs.Common.{◌≡◌, ◌↔◌, ℕ, suc, ◌+◌, ◌<◌, ◌≤◌, List, [], ◌∷◌, ◌++◌, ◌⊎◌, inl, inr, map}
use Rattle.std.proofs.Common.{take, drop, length, get_or, set, refl, sym, ap, ◌∙◌, subst, true≢false}
use Rattle.std.specs.Prelude.{All, Some, None, position}
use Rattle.std.specs.Cmp.Lexicographic.{slice_cmp}
use Rattle.std.specs.List.{AllZip, flat_map}
use Rattle.std.specs.Ordering.{is_eq, nat_cmp}
use Rattle.std.specs.declared.cmp.Ordering.{Ordering}
use Rattle.std.specs.declared.cmp.Ordering.TheVariants.{Less, Equal}
use Rattle.std.proofs.lemmas.Cmp.{nat_list_cmp_total, tied_itself}
use Rattle.std.proofs.lemmas.List.{map-append, set-get_or, set_split, take-append-drop, take_all, take_more}
use Rattle.std.proofs.lemmas.List.Elements.{All-nil, All-push}
use Rattle.std.proofs.lemmas.Map.Lookups.{exact_bytes}
use Rattle.std.proofs.lemmas.Option.{same_Some, slice_get-get_or}
use Rattle.datastore_table.specs.Rows.{row_cmp as id_cmp}
use Rattle.datastore_table.specs.declared.row.Row.{Row}
use Rattle.packages.proofs.FindLemmas.{IsIn-find, IsIn-map, find-none, map-IsIn}
use Rattle.portal_base.specs.Ordered.{IsAscending, ascending, found}
use Rattle.portal_base.proofs.Halved.{found-position}
use Rattle.portal_base.proofs.Inserted.{IsAscending-ascending}
use Rattle.portal_base.proofs.Removed.{is_eq_true, removed-none}
use Rattle.portal_base.proofs.Unique.{Contains-IsIn, IsIn, IsIn-Contains, IsIn-ascending, IsIn-get_or, ascending-IsIn}
use Rattle.portal_base.proofs.Unique.{unique}
use Rattle.portal_base.proofs.Upserted.{All-IsIn, All-each}
use Rattle.portal_keeper.specs.Rows.{AreInOrder, row_cmp, row_cmp_total}
use Rattle.portal_keeper.specs.declared.row.KeptRow.{KeptRow}
use Rattle.portal_rows.specs.KeptValues.{AreNewTables, AreTablesOf, IsAdded, IsKeptRow, IsKeptTable, IsOfNoTable}
use Rattle.portal_rows.specs.KeptValues.{IsRowInTable, IsRowOfNewTable, head_row, kept_table_cmp, kept_table_cmp_total}
use Rattle.portal_rows.specs.KeptValues.{rows_in_table, with_row}
use Rattle.portal_rows.specs.TableRows.{IsHead, cells_row, resource_of_key}
use Rattle.portal_rows.specs.declared.kept_tables.KeptTable.{KeptTable}
use Rattle.portal_rows.specs.declared.tables.TableHead.{TableHead}
use Rattle.portal_rows.proofs.KeptOrder.{heads-in_order, id-less, row-is_kept, tables-apart}
use Rattle.portal_rows.proofs.KeyLemmas.{resource_of_key-row_key}
use Rattle.portal_rows.proofs.MemberLemmas.{IsAscending-append, IsAscending-front, IsIn-flat_map, IsIn-grown}
use Rattle.portal_rows.proofs.MemberLemmas.{below_last}
use Rattle.portal_rows.proofs.MemberLemmas.{flat_map-IsIn, grown-IsIn, in_back, in_either, in_front, made-ascending}
use Rattle.portal_rows.proofs.MemberLemmas.{one_member}
use Rattle.portal_rows.proofs.SameLemmas.{same_head, same_tables}
use Rattle.portal_rows.proofs.ZipLemmas.{written-zip, zip-good, zip-written}

-- ---- tables without rows

no_rows : (tables : List KeptTable) → ((t : KeptTable) → IsIn t tables → t.rows ≡ [])
    → flat_map rows_in_table tables ≡ []
no_rows [] none = refl
no_rows (t ∷ tables) none =
    ap (λ (rows : List Row). map (cells_row t.resource) rows ++ flat_map rows_in_table tables) (none t (inl refl))
    ∙ no_rows tables (λ u m. none u (inr m))

pub new-tables : (tables : List KeptTable) → AreNewTables tables → AreTablesOf tables (map head_row tables) []
new-tables tables new =
    let none : (t : KeptTable) → IsIn t tables → t.rows ≡ [] =
    All-IsIn (λ (t : KeptTable). t.rows ≡ []) tables new.no_rows in
    let head : (t : KeptTable) → IsIn t tables → IsHead t.head =
    All-IsIn (λ (t : KeptTable). IsHead t.head) tables new.heads in
    record {
      valid = All-each IsKeptTable tables (λ t m. record {
        head = head t m;
        rows = subst (All (IsKeptRow t.head.schema)) (sym (none t m)) (All-nil (IsKeptRow t.head.schema));
        ascend = subst (IsAscending id_cmp) (sym (none t m)) tt;
      });
      ascend = new.ascend;
      have_heads = refl;
      have_rows = ap (ascending row_cmp) (no_rows tables none);
    }

-- Tables whose rows are these, which are in order, are new tables.
pub read-new : (tables : List KeptTable) (heads : List KeptRow) → AreInOrder heads → AllZip IsRowOfNewTable tables heads
    → AreNewTables tables
read-new tables heads up zip =
    let good = zip-good (λ (t : KeptTable). IsHead t.head × (t.rows ≡ [])) head_row tables heads zip in
    let written : map head_row tables ≡ heads =
    zip-written (λ (t : KeptTable). IsHead t.head × (t.rows ≡ [])) head_row tables heads zip in
    record {
      heads = All-each (λ (t : KeptTable). IsHead t.head) tables (λ t m. (good t m).0);
      no_rows = All-each (λ (t : KeptTable). t.rows ≡ []) tables (λ t m. (good t m).1);
      ascend = made-ascending head_row kept_table_cmp row_cmp tables (λ x y less. less)
          (subst AreInOrder (sym written) up);
    }

pub read-heads : (tables : List KeptTable) (heads : List KeptRow) → AllZip IsRowOfNewTable tables heads
    → map head_row tables ≡ heads
read-heads tables heads zip =
    zip-written (λ (t : KeptTable). IsHead t.head × (t.rows ≡ [])) head_row tables heads zip

abbrev without_rows : KeptTable → KeptTable
without_rows table = record table { rows = [] }

heads-without : (tables : List KeptTable) → map head_row (map without_rows tables) ≡ map head_row tables
heads-without [] = refl
heads-without (t ∷ tables) = ap (λ l. head_row t ∷ l) (heads-without tables)

-- The rows of tables are those of new tables.
pub new-of : (tables : List KeptTable) (heads rows : List KeptRow) → AreTablesOf tables heads rows
    → (new : List KeptTable) × AllZip IsRowOfNewTable new heads
new-of tables heads rows are = (
  map without_rows tables,
  written-zip (λ (t : KeptTable). IsHead t.head × (t.rows ≡ [])) head_row (map without_rows tables) heads good
      (heads-without tables ∙ are.have_heads),
)
  where
    good : (t : KeptTable) → IsIn t (map without_rows tables) → IsHead t.head × (t.rows ≡ [])
    good t m =
        let w = map-IsIn without_rows t tables m in
        subst (λ (u : KeptTable). IsHead u.head × (u.rows ≡ [])) (sym w.2)
        ((All-IsIn IsKeptTable tables are.valid w.0 w.1).head, refl)

-- ---- one more row

-- A table is valid with one more row, if the row of it is after those of its rows.
grown-valid : (table : KeptTable) (row : Row) → IsKeptTable table → IsKeptRow table.head.schema row
    → ((r : KeptRow) → IsIn r (rows_in_table table) → row_cmp r (cells_row table.resource row) ≡ Less)
    → IsKeptTable (with_row table row)
grown-valid table row kept is last = record {
  head = kept.head;
  rows = All-push (IsKeptRow table.head.schema) table.rows row kept.rows is;
  ascend = IsAscending-append id_cmp table.rows (row ∷ []) kept.ascend (tt, tt) below;
}
  where
    below : (p q : Row) → IsIn p table.rows → IsIn q (row ∷ []) → id_cmp p q ≡ Less
    below p q m (inl same) =
        subst (λ (z : Row). id_cmp p z ≡ Less) (sym same)
        (id-less table.resource p row (row-is_kept table kept p m).id
        (last (cells_row table.resource p) (IsIn-map (cells_row table.resource) p table.rows m)))
    below p q m (inr none) = absurd none

rows-of_grown : (table : KeptTable) (row : Row)
    → rows_in_table (with_row table row) ≡ rows_in_table table ++ cells_row table.resource row ∷ []
rows-of_grown table row = map-append (cells_row table.resource) table.rows (row ∷ [])

grown-heads : (before after : List KeptTable) (table : KeptTable) (row : Row)
    → map head_row (before ++ with_row table row ∷ after) ≡ map head_row (before ++ table ∷ after)
grown-heads [] after table row = refl
grown-heads (t ∷ before) after table row = ap (λ l. head_row t ∷ l) (grown-heads before after table row)

pub added-tables : (old new : List KeptTable) (heads rows : List KeptRow) (kept : KeptRow) → AreTablesOf old heads rows
    → IsAdded kept old new → AreInOrder (rows ++ kept ∷ []) → AreTablesOf new heads (rows ++ kept ∷ [])
added-tables old new heads rows kept are added up =
    record {
      valid = All-each IsKeptTable new valid;
      ascend = ascend;
      have_heads = have_heads;
      have_rows = unique row_cmp row_cmp_total (ascending row_cmp (flat_map rows_in_table new)) (rows ++ kept ∷ [])
          (IsAscending-ascending row_cmp row_cmp_total (flat_map rows_in_table new) (tables-apart new valid ascend))
          up into from;
    }
  where
    table : KeptTable
    table = added.table

    row : Row
    row = added.row

    grown : rows_in_table (with_row table row) ≡ rows_in_table table ++ kept ∷ []
    grown = rows-of_grown table row ∙ ap (λ (r : KeptRow). rows_in_table table ++ r ∷ []) (sym added.own.1)

    old_valid : (t : KeptTable) → IsIn t (added.before ++ table ∷ added.after) → IsKeptTable t
    old_valid t m = All-IsIn IsKeptTable old are.valid t (subst (IsIn t) (sym added.was) m)

    table_in : IsIn table (added.before ++ table ∷ added.after)
    table_in = in_back table added.before (table ∷ added.after) (inl refl)

    old_rows : (r : KeptRow) → IsIn r (flat_map rows_in_table (added.before ++ table ∷ added.after)) → IsIn r rows
    old_rows r m =
        subst (IsIn r) are.have_rows
        (IsIn-ascending row_cmp r (flat_map rows_in_table old)
        (subst (λ (ts : List KeptTable). IsIn r (flat_map rows_in_table ts)) (sym added.was) m))

    last : (r : KeptRow) → IsIn r (rows_in_table table) → row_cmp r (cells_row table.resource row) ≡ Less
    last r m =
        subst (λ (q : KeptRow). row_cmp r q ≡ Less) added.own.1
        (below_last row_cmp rows kept r up
        (old_rows r (IsIn-flat_map rows_in_table r table (added.before ++ table ∷ added.after) table_in m)))

    valid : (t : KeptTable) → IsIn t new → IsKeptTable t
    valid t m =
        by (in_either t added.before (with_row table row ∷ added.after) (subst (IsIn t) added.is m))
      where
        by : IsIn t added.before ⊎ IsIn t (with_row table row ∷ added.after) → IsKeptTable t
        by (inl n) = old_valid t (in_front t added.before (table ∷ added.after) n)
        by (inr (inl same)) =
            subst IsKeptTable (sym same) (grown-valid table row (old_valid table table_in) added.own.0 last)
        by (inr (inr n)) = old_valid t (in_back t added.before (table ∷ added.after) (inr n))

    have_heads : map head_row new ≡ heads
    have_heads =
        ap (map head_row) added.is ∙ grown-heads added.before added.after table row
        ∙ ap (map head_row) (sym added.was) ∙ are.have_heads

    ascend : IsAscending kept_table_cmp new
    ascend =
        made-ascending head_row kept_table_cmp row_cmp new (λ x y less. less)
        (subst AreInOrder (are.have_heads ∙ sym have_heads) (heads-in_order old are.ascend))

    into : (r : KeptRow) → IsIn r (ascending row_cmp (flat_map rows_in_table new)) → IsIn r (rows ++ kept ∷ [])
    into r m =
        by (grown-IsIn rows_in_table table (with_row table row) kept r added.before added.after grown
        (subst (λ (ts : List KeptTable). IsIn r (flat_map rows_in_table ts)) added.is
        (ascending-IsIn row_cmp r (flat_map rows_in_table new) m)))
      where
        by : IsIn r (flat_map rows_in_table (added.before ++ table ∷ added.after)) ⊎ (r ≡ kept)
            → IsIn r (rows ++ kept ∷ [])
        by (inl n) = in_front r rows (kept ∷ []) (old_rows r n)
        by (inr same) = in_back r rows (kept ∷ []) (inl same)

    from : (r : KeptRow) → IsIn r (rows ++ kept ∷ []) → IsIn r (ascending row_cmp (flat_map rows_in_table new))
    from r m =
        IsIn-ascending row_cmp r (flat_map rows_in_table new)
        (subst (λ (ts : List KeptTable). IsIn r (flat_map rows_in_table ts)) (sym added.is)
        (IsIn-grown rows_in_table table (with_row table row) kept r added.before added.after grown
        (by (in_either r rows (kept ∷ []) m))))
      where
        by : IsIn r rows ⊎ IsIn r (kept ∷ [])
            → IsIn r (flat_map rows_in_table (added.before ++ table ∷ added.after)) ⊎ (r ≡ kept)
        by (inl n) =
            inl (subst (λ (ts : List KeptTable). IsIn r (flat_map rows_in_table ts)) added.was
            (ascending-IsIn row_cmp r (flat_map rows_in_table old) (subst (IsIn r) (sym are.have_rows) n)))
        by (inr (inl same)) = inr same
        by (inr (inr none)) = absurd none

-- If no table can have a row, the rows are those of no tables.
pub refused-tables : (filled : List KeptTable) (heads so_far rows : List KeptRow) (kept : KeptRow)
    → AreTablesOf filled heads so_far → IsOfNoTable kept filled → IsIn kept rows → (tables : List KeptTable)
    → AreTablesOf tables heads rows → ⊥
refused-tables filled heads so_far rows kept are none m tables also =
    let w = flat_map-IsIn rows_in_table kept tables
    (ascending-IsIn row_cmp kept (flat_map rows_in_table tables) (subst (IsIn kept) (sym also.have_rows) m)) in
    let v = map-IsIn (cells_row w.0.resource) kept w.0.rows w.2 in
    let valid : IsKeptTable w.0 = All-IsIn IsKeptTable tables also.valid w.0 w.1 in
    let u = map-IsIn head_row (head_row w.0) filled
    (subst (IsIn (head_row w.0)) (also.have_heads ∙ sym are.have_heads) (IsIn-map head_row w.0 tables w.1)) in
    let same = same_head w.0 u.0 valid.head (All-IsIn IsKeptTable filled are.valid u.0 u.1).head u.2 in
    none u.0 v.0 (Contains-IsIn u.0 filled u.1) (
      subst (λ (h : TableHead). IsKeptRow h.schema v.0) same.1 (row-is_kept w.0 valid v.0 v.1),
      v.2 ∙ ap (λ (l : List ℕ). cells_row l v.0) same.0,
    )

-- ---- the table of a row

abbrev pub order_at : List ℕ → KeptTable → Ordering
order_at key table = slice_cmp nat_cmp table.resource (resource_of_key key)

-- The table of the row has the resource of its key.
own_resource : (table : KeptTable) (row : Row) (kept : KeptRow) → IsRowInTable table row kept
    → table.resource ≡ resource_of_key kept.key
own_resource table row kept own =
    sym (resource_of_key-row_key table.resource row.id own.0.id)
    ∙ ap resource_of_key (sym (ap (λ (r : KeptRow). r.key) own.1))

pub no_table : (tables : List KeptTable) (kept : KeptRow)
    → position (λ table. is_eq (order_at kept.key table)) tables ≡ None → IsOfNoTable kept tables
no_table tables kept none table row m own =
    let fails = find-none (λ t. is_eq (order_at kept.key t)) table tables
    (removed-none (order_at kept.key) tables none).0 (IsIn-Contains table tables m) in
    true≢false (sym (ap is_eq (ap (slice_cmp nat_cmp table.resource) (sym (own_resource table row kept own))
    ∙ tied_itself nat_list_cmp_total table.resource)) ∙ fails)

-- The table at the index has the resource of the key.
indexed : (tables : List KeptTable) (key : List ℕ) (i : ℕ) (table : KeptTable)
    → position (λ t. is_eq (order_at key t)) tables ≡ Some i → i < length tables → table ≡ get_or tables i table
    → IsIn table tables × (table.resource ≡ resource_of_key key)
indexed tables key i table at within is =
    let some : found (order_at key) tables ≡ Some table =
    found-position (order_at key) tables i at within ∙ slice_get-get_or tables i table within ∙ ap Some (sym is) in
    let there = IsIn-find (λ t. is_eq (order_at key t)) table tables some in
    (there.0, exact_bytes table.resource (resource_of_key key) (is_eq_true (order_at key table) there.1))

-- A row that the table of its key's resource can't have is of no table.
pub other_table : (tables : List KeptTable) (kept : KeptRow) (i : ℕ) (table : KeptTable)
    → IsAscending kept_table_cmp tables
    → position (λ t. is_eq (order_at kept.key t)) tables ≡ Some i → i < length tables → table ≡ get_or tables i table
    → ((row : Row) → IsRowInTable table row kept → ⊥) → IsOfNoTable kept tables
other_table tables kept i table up at within is refused other row m own =
    let here = indexed tables kept.key i table at within is in
    let alike : kept_table_cmp other table ≡ Equal =
    ap (slice_cmp nat_cmp other.resource) (here.1 ∙ sym (own_resource other row kept own))
    ∙ tied_itself nat_list_cmp_total other.resource in
    let same : other ≡ table =
    one_member kept_table_cmp kept_table_cmp_total other table tables up (IsIn-Contains other tables m) here.0 alike in
    refused row (subst (λ (t : KeptTable). IsRowInTable t row kept) same own)

-- A row is added to the table at an index.
pub added-at : (tables : List KeptTable) (i : ℕ) (table : KeptTable) (row : Row) (kept : KeptRow) → i < length tables
    → table ≡ get_or tables i table → IsRowInTable table row kept
    → IsAdded kept tables (set tables i (with_row table row))
added-at tables i table row kept lt is own = record {
  before = take i tables;
  table = table;
  after = drop (suc i) tables;
  row = row;
  was = sym (set-get_or tables i table) ∙ ap (set tables i) (sym is) ∙ set_split tables i table lt;
  own = own;
  is = set_split tables i (with_row table row) lt;
}

-- ---- all rows, one after another

-- The tables have one row more of the rows.
pub filled-more : (old new : List KeptTable) (heads rows : List KeptRow) (i : ℕ) (kept : KeptRow) → AreInOrder rows
    → i < length rows → kept ≡ get_or rows i kept → AreTablesOf old heads (take i rows) → IsAdded kept old new
    → AreTablesOf new heads (take (i + 1) rows)
filled-more old new heads rows i kept up lt is are added =
    let step : take (i + 1) rows ≡ take i rows ++ kept ∷ [] =
    take_more rows i kept lt ∙ ap (λ (r : KeptRow). take i rows ++ r ∷ []) (sym is) in
    let ordered : AreInOrder (take (i + 1) rows) =
    IsAscending-front row_cmp (take (i + 1) rows) (drop (i + 1) rows)
    (subst AreInOrder (sym (take-append-drop (i + 1) rows)) up) in
    subst (AreTablesOf new heads) (sym step)
    (added-tables old new heads (take i rows) kept are added (subst AreInOrder step ordered))

-- A row that no table can have: no tables have all rows.
pub filled-refused : (filled : List KeptTable) (heads rows : List KeptRow) (i : ℕ) (kept : KeptRow) → i < length rows
    → kept ≡ get_or rows i kept → AreTablesOf filled heads (take i rows) → IsOfNoTable kept filled
    → (tables : List KeptTable) → (None ≡ Some tables) ↔ AreTablesOf tables heads rows
filled-refused filled heads rows i kept lt is are none tables = (
  λ e. absurd (cc),
  λ also. absurd (refused-tables filled heads (take i rows) rows kept are none (IsIn-get_or kept rows i lt (sym is))
      tables
      also),
)

-- The tables have all rows.
pub filled-all : (filled read : List KeptTable) (heads rows : List KeptRow) (i : ℕ) → length rows ≤ i
    → AreTablesOf filled heads (take i rows) → read ≡ filled → (tables : List KeptTable)
    → (Some read ≡ Some tables) ↔ AreTablesOf tables heads rows
filled-all filled read heads rows i le are whole tables =
    let all : AreTablesOf filled heads rows = subst (AreTablesOf filled heads) (take_all i rows le) are in (
      λ e. subst (λ (ts : List KeptTable). AreTablesOf ts heads rows) (sym whole ∙ same_Some read tables e) all,
      λ also. ap Some (whole ∙ same_tables filled tables heads rows all also),
    )

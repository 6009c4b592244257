-- The values of a valid state have rows in a store, and their rows are those of the state.
use Rattle.std.proofs.Common.{◌≡◌, ◌∙◌, ℕ, ◌==◌, ◌<◌, ◌^◌, Bool, true, false, ◌&&◌, not, List, [], ◌∷◌, ◌++◌, All, map, inl}
use Rattle.std.proofs.Common.{inr, refl, sym, ap, subst, arith, append_assoc}
use Rattle.std.specs.Prelude.{if◌then◌else◌}
use Rattle.std.specs.Cmp.Lexicographic.{slice_cmp}
use Rattle.std.specs.List.{flat_map, list_all}
use Rattle.std.specs.Ordering.{is_eq, nat_cmp}
use Rattle.std.specs.declared.cmp.Ordering.TheVariants.{Less}
use Rattle.std.proofs.lemmas.Map.Lookups.{exact_bytes}
use Rattle.portal_base.specs.Moment.{IsMoment}
use Rattle.portal_base.specs.Ordered.{IsAscending, ascending}
use Rattle.portal_base.proofs.Filtered.{list_all-IsIn}
use Rattle.portal_base.proofs.Inserted.{AreApart, IsAscending-ascending}
use Rattle.portal_base.proofs.Removed.{is_eq_true}
use Rattle.portal_base.proofs.Unique.{IsIn, IsIn-ascending, ascending-IsIn, below_in, not_below_itself, unique}
use Rattle.portal_base.proofs.Upserted.{All-IsIn, All-each}
use Rattle.org_roles.specs.Order.{org_cmp}
use Rattle.org_roles.specs.declared.entry.Membership.{Membership}
use Rattle.org_roles.specs.declared.entry.Org.{Org}
use Rattle.packages.proofs.FindLemmas.{IsIn-map, fails, map-IsIn, none-list_any}
use Rattle.table_schema.specs.Field.{SchemaValue}
use Rattle.datastore_table.specs.Meets.{IsTable, are_accepted, keeps_self_reference, keys_apart, row_meets, uniques_apart}
use Rattle.datastore_table.specs.Cells.{has_null_at}
use Rattle.datastore_table.specs.declared.row.Row.{Row}
use Rattle.datastore_table.proofs.RowLemmas.{both_hold}
use Rattle.datastore_answers.specs.Order.{table_cmp, table_cmp_total}
use Rattle.datastore_answers.specs.declared.address.Address.{Address}
use Rattle.datastore_answers.specs.declared.resource_table.ResourceTable.{ResourceTable}
use Rattle.datastore_answers.proofs.ReferenceLemmas.{kept-each}
use Rattle.harvest_rows.specs.KeptHarvests.{rows_of_harvests}
use Rattle.harvest_rows.specs.Rows.{job_rows, source_rows}
use Rattle.harvest_sources.specs.Sources.{SourceState}
use Rattle.portal_keeper.specs.Rows.{row_cmp, row_cmp_total}
use Rattle.portal_keeper.specs.declared.row.KeptRow.{KeptRow}
use Rattle.portal_rows.specs.KeptValues.{AreKeptValues, IsKeptRow, IsKeptTable, kept_org_cmp, kept_org_row}
use Rattle.portal_rows.specs.KeptValues.{kept_table_cmp, kept_table_cmp_total, rows_of_values}
use Rattle.portal_rows.specs.KeptValues as values
use Rattle.portal_rows.specs.OrgRows.{IsOrgWithRoles, org_rows}
use Rattle.portal_rows.specs.VersionRow.{version_row}
use Rattle.portal_rows.specs.declared.kept_tables.KeptTable.{KeptTable}
use Rattle.portal_rows.proofs.MemberLemmas.{ascending-made}
use Rattle.portal_rows.proofs.OrderLemmas.{memberships_in-own}
use Rattle.portal_state.specs.KeptRows.{IsSized, dataset_row, kept_rows, listed_rows, resource_id, row_target, row_targets, table_rows}
use Rattle.portal_state.specs.State.{State}
use Rattle.portal_state.specs.Typed.{IsTyped, IsTypedSource}
use Rattle.portal_state.specs.Valid.{IsValid}
use Rattle.portal_state.specs.Values.{AreRowsOf, harvests_of, kept_table, values_of, with_roles}
use Rattle.portal_core.proofs.HarvestValues.{harvest_rows-both, harvests-kept}
use Rattle.portal_state.proofs.InOrder.{kept_rows-in_order, within-id}
use Rattle.portal_state.proofs.KeyLemmas.{same_address}
use Rattle.portal_state.proofs.RowMembers.{IsInBoth, IsIn-flat_map, flat_map-IsIn, in_both-append, in_both-cons}
use Rattle.portal_state.proofs.RowMembers.{in_both-itself, in_both-then}
use Rattle.portal_core.proofs.RowParts.{both-in_order}

-- ---- organizations

orgs-kept : (state : State) → IsValid state → IsTyped state → All IsOrgWithRoles (values_of state).orgs
orgs-kept state valid typed =
    All-each IsOrgWithRoles (map (with_roles state.people.roles) state.people.orgs)
    (λ kept m. let w = map-IsIn (with_roles state.people.roles) kept state.people.orgs m in
    subst IsOrgWithRoles (sym w.2) (record {
      created = All-IsIn (λ (o : Org). IsMoment o.created) state.people.orgs typed.orgs w.0 w.1;
      roles = memberships_in-own state.people w.0.name valid.people;
    }))

-- ---- tables

target-small : (own number : ℕ) → number < 2 ^ 32 → row_target own number < 2 ^ 32
target-small own number small = by (number == own)
  where
    by : (b : Bool) → (if b then 0 else number) < 2 ^ 32
    by true = omega arith
    by false = small

targets-small : (t : ResourceTable) → All (λ number. number < 2 ^ 32) t.targets
    → All (λ number. number < 2 ^ 32) (row_targets t)
targets-small t small =
    All-each (λ (number : ℕ). number < 2 ^ 32) (row_targets t)
    (λ number m. let w = map-IsIn (row_target t.address.number) number t.targets m in
    subst (λ (n : ℕ). n < 2 ^ 32) (sym w.2)
    (target-small t.address.number w.0 (All-IsIn (λ (n : ℕ). n < 2 ^ 32) t.targets small w.0 w.1)))

row-kept : (schema : SchemaValue) (rows : List Row) (next_id : ℕ) → IsTable schema rows next_id → next_id < 2 ^ 64
    → (row : Row) → IsIn row rows → IsKeptRow schema row
row-kept schema rows next_id is small row m =
    let below : row.id < next_id = within-id next_id rows is.numbered.within row m in
    let all = both_hold (list_all (row_meets schema) rows)
    (keys_apart schema.key rows
    && (uniques_apart 0 schema.fields rows && list_all (keeps_self_reference schema.key rows) schema.foreign))
    is.meets in
    let meets = list_all-IsIn (row_meets schema) rows all.0 row m in
    record {
      id = omega (arith, below, small);
      cells = (both_hold (are_accepted schema.fields row.cells) (not (has_null_at schema.key row.cells)) meets).0;
    }

table-kept : (state : State) → IsValid state → IsTyped state → (t : ResourceTable) → IsIn t state.tables
    → IsKeptTable (kept_table t)
table-kept state valid typed t m =
    let is = kept-each state.tables valid.tables t m in
    let next_id : t.table.next_id < 2 ^ 64 =
    All-IsIn (λ (u : ResourceTable). u.table.next_id < 2 ^ 64) state.tables typed.tables.next_ids t m in
    record {
      head = record {
        described = is.described;
        next_id = next_id;
        targets = targets-small t
            (All-IsIn (λ (u : ResourceTable). All (λ (n : ℕ). n < 2 ^ 32) u.targets) state.tables typed.targets t m);
      };
      rows = All-each (IsKeptRow t.table.schema) t.table.rows
          (row-kept t.table.schema t.table.rows t.table.next_id is.valid next_id);
      ascend = is.valid.numbered.ascending;
    }

tables-kept : (state : State) → IsValid state → IsTyped state → All IsKeptTable (values_of state).tables
tables-kept state valid typed =
    All-each IsKeptTable (ascending kept_table_cmp (map kept_table state.tables))
    (λ k m.
    let w = map-IsIn kept_table k state.tables (ascending-IsIn kept_table_cmp k (map kept_table state.tables) m) in
    subst IsKeptTable (sym w.2) (table-kept state valid typed w.0 w.1))

-- No two tables have the same resource's id.
kept_tables-apart : (tables : List ResourceTable) → IsAscending table_cmp tables
    → ((t : ResourceTable) → IsIn t tables → t.address.number < 2 ^ 32)
    → AreApart kept_table_cmp (map kept_table tables)
kept_tables-apart [] up small = tt
kept_tables-apart (t ∷ tables) up small = (
  none-list_any (λ (k : KeptTable). is_eq (kept_table_cmp k (kept_table t))) (map kept_table tables)
      (λ k m. let w = map-IsIn kept_table k tables m in
      subst (λ (l : KeptTable). is_eq (kept_table_cmp l (kept_table t)) ≡ false) (sym w.2) (other w.0 w.1)),
  kept_tables-apart tables up.1 (λ u m. small u (inr m)),
)
  where
    other : (u : ResourceTable) → IsIn u tables → is_eq (kept_table_cmp (kept_table u) (kept_table t)) ≡ false
    other u m =
        fails (is_eq (slice_cmp nat_cmp (resource_id u.address) (resource_id t.address)))
        (λ is.
        let address : t.address ≡ u.address =
        same_address t.address u.address (small t (inl refl)) (small u (inr m))
        (sym (exact_bytes (resource_id u.address) (resource_id t.address)
        (is_eq_true (slice_cmp nat_cmp (resource_id u.address) (resource_id t.address)) is))) in
        not_below_itself table_cmp table_cmp_total t
        (subst (λ (a : Address). table_cmp t (record t { address = a }) ≡ Less) (sym address)
        (below_in table_cmp t u tables up.0 m)))

-- ---- all values

pub values-kept : (state : State) → IsValid state → IsTyped state → AreKeptValues (values_of state)
values-kept state valid typed = record {
  orgs = orgs-kept state valid typed;
  orgs_ascend = ascending-made (with_roles state.people.roles) org_cmp kept_org_cmp state.people.orgs
      (λ x y m n less. less) valid.people.orgs;
  datasets = typed.datasets;
  datasets_ascend = valid.datasets;
  tables = tables-kept state valid typed;
  tables_ascend = IsAscending-ascending kept_table_cmp kept_table_cmp_total (map kept_table state.tables)
      (kept_tables-apart state.tables valid.tables.ascending
      (All-IsIn (λ (t : ResourceTable). t.address.number < 2 ^ 32) state.tables typed.tables.numbers));
}

-- A state whose fields have values of their types is sized.
pub typed-sized : (state : State) → IsTyped state → IsSized state
typed-sized state typed = record {
  tables = typed.tables;
  next_jobs = All-each (λ (s : SourceState). s.source.next_job < 2 ^ 64) state.sources
      (λ s m. (All-IsIn IsTypedSource state.sources typed.sources s m).source);
}

-- ---- their rows

org_rows-of : (roles : List Membership) (orgs : List Org)
    → map kept_org_row (map (with_roles roles) orgs) ≡ map (λ org. kept_org_row (with_roles roles org)) orgs
org_rows-of roles [] = refl
org_rows-of roles (org ∷ orgs) = ap (λ l. kept_org_row (with_roles roles org) ∷ l) (org_rows-of roles orgs)

-- The rows of tables don't depend on their order.
table_rows-both : (tables : List ResourceTable) (r : KeptRow)
    → IsInBoth r (flat_map values.table_rows (ascending kept_table_cmp (map kept_table tables)))
    (flat_map table_rows tables)
table_rows-both tables r = (into, from)
  where
    in_order : List KeptTable
    in_order = ascending kept_table_cmp (map kept_table tables)

    into : IsIn r (flat_map values.table_rows in_order) → IsIn r (flat_map table_rows tables)
    into m =
        let k = flat_map-IsIn values.table_rows r in_order m in
        let t = map-IsIn kept_table k.0 tables (ascending-IsIn kept_table_cmp k.0 (map kept_table tables) k.1) in
        IsIn-flat_map table_rows r t.0 tables t.1
        (subst (λ (l : KeptTable). IsIn r (values.table_rows l)) t.2 k.2)

    from : IsIn r (flat_map table_rows tables) → IsIn r (flat_map values.table_rows in_order)
    from m =
        let t = flat_map-IsIn table_rows r tables m in
        IsIn-flat_map values.table_rows r (kept_table t.0) in_order
        (IsIn-ascending kept_table_cmp (kept_table t.0) (map kept_table tables) (IsIn-map kept_table t.0 tables t.1))
        t.2

-- the rows of organizations, datasets and tables, in the orders of the state's lists
abbrev front_rows : State → List KeptRow
front_rows state =
    version_row ∷ (org_rows state.people ++ (map dataset_row state.datasets ++ flat_map table_rows state.tables))

-- the rows of sources and jobs
abbrev back_rows : State → List KeptRow
back_rows state = source_rows state.sources ++ job_rows state.sources

front-both : (state : State) (r : KeptRow) → IsInBoth r (values.listed_rows (values_of state)) (front_rows state)
front-both state r =
    let v = values_of state in
    let datasets = map dataset_row state.datasets in
    let tables = flat_map table_rows state.tables in
    let kept_tables = flat_map values.table_rows v.tables in
    in_both-cons r version_row (map kept_org_row v.orgs ++ (datasets ++ kept_tables))
    (org_rows state.people ++ (datasets ++ tables))
    (in_both-append r (map kept_org_row v.orgs) (datasets ++ kept_tables) (org_rows state.people) (datasets ++ tables)
    (subst (λ (l : List KeptRow). IsInBoth r (map kept_org_row v.orgs) l)
    (org_rows-of state.people.roles state.people.orgs) (in_both-itself r (map kept_org_row v.orgs)))
    (in_both-append r datasets kept_tables datasets tables (in_both-itself r datasets)
    (table_rows-both state.tables r)))

listed-parts : (state : State) → listed_rows state ≡ front_rows state ++ back_rows state
listed-parts state =
    let orgs = org_rows state.people in
    let datasets = map dataset_row state.datasets in
    let tables = flat_map table_rows state.tables in
    ap (λ (l : List KeptRow). version_row ∷ l)
    (ap (λ (l : List KeptRow). orgs ++ l) (sym (append_assoc datasets tables (back_rows state)))
    ∙ sym (append_assoc orgs (datasets ++ tables) (back_rows state)))

-- the rows of the state's values
abbrev rows_of_both : State → List KeptRow
rows_of_both state = rows_of_values (values_of state) ++ rows_of_harvests (harvests_of state)

listed-both : (state : State) (r : KeptRow) → IsInBoth r (rows_of_both state) (listed_rows state)
listed-both state r =
    let listed = values.listed_rows (values_of state) in
    subst (IsInBoth r (rows_of_both state)) (sym (listed-parts state))
    (in_both-append r (rows_of_values (values_of state)) (rows_of_harvests (harvests_of state)) (front_rows state)
    (back_rows state)
    (in_both-then r (rows_of_values (values_of state)) listed (front_rows state)
    (ascending-IsIn row_cmp r listed, IsIn-ascending row_cmp r listed) (front-both state r))
    (harvest_rows-both state r))

pub rows_of_values-kept : (state : State) → IsValid state → IsTyped state
    → rows_of_values (values_of state) ++ rows_of_harvests (harvests_of state) ≡ kept_rows state
rows_of_values-kept state valid typed =
    unique row_cmp row_cmp_total (rows_of_both state) (kept_rows state)
    (both-in_order (values_of state) (harvests_of state) (values-kept state valid typed)
    (harvests-kept state valid typed))
    (kept_rows-in_order state valid (typed-sized state typed))
    (λ r m. IsIn-ascending row_cmp r (listed_rows state) ((listed-both state r).0 m))
    (λ r m. (listed-both state r).1 (ascending-IsIn row_cmp r (listed_rows state) m))

pub values-rows : (state : State) → IsValid state → IsTyped state
    → AreRowsOf (values_of state) (harvests_of state) (kept_rows state)
values-rows state valid typed = record {
  values_kept = values-kept state valid typed;
  harvests_kept = harvests-kept state valid typed;
  same = rows_of_values-kept state valid typed;
}

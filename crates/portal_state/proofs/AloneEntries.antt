-- The entries of a change drop nothing beside what they name.
use Rattle.std.proofs.Common.{◌≡◌, ℕ, ◌==◌, Bool, true, false, not, ◌||◌, cond, List, [], ◌∷◌, ◌++◌, map, refl, sym, ap}
use Rattle.std.proofs.Common.{◌∙◌, Option, Some, None, Result, Ok, Err, if◌then◌else◌, inl, inr, subst}
use Rattle.std.specs.List.{flat_map}
use Rattle.std.specs.Ordering.{is_eq}
use Rattle.std.specs.Str.{bytes_eq}
use Rattle.std.specs.declared.cmp.Ordering.TheVariants.{Equal}
use Rattle.std.proofs.lemmas.Cmp.{tied_itself}
use Rattle.std.proofs.lemmas.Map.Text.{is_eq-slice_cmp}
use Rattle.portal_base.specs.declared.json_value.Json.{Json}
use Rattle.portal_base.specs.Ordered.{IsAscending, dropped, found}
use Rattle.portal_base.proofs.Filtered.{IsIn-filter}
use Rattle.portal_base.proofs.Unique.{IsIn}
use Rattle.portal_base.proofs.Upserted.{IsIn-dropped, found-dropped, found-dropped_other}
use Rattle.org_roles.specs.Order.{membership_in_org_at}
use Rattle.org_roles.specs.declared.change.OrgChange.TheVariants as org
use Rattle.org_roles.specs.declared.entry.Membership.{Membership}
use Rattle.packages.specs.declared.package.Resource.{Resource}
use Rattle.packages.proofs.FindLemmas.{list_any-map}
use Rattle.visibility.specs.TableSummary.{is_among}
use Rattle.dataset_answers.specs.declared.change.DatasetChange.TheVariants as dataset
use Rattle.datastore_table.specs.Batch as batch
use Rattle.datastore_table.specs.Put.{Worked, put_records}
use Rattle.datastore_table.specs.declared.fault.TableFault.{TableFault}
use Rattle.datastore_table.specs.declared.method.Method.{Method}
use Rattle.datastore_table.specs.declared.row.Row.{Row}
use Rattle.datastore_answers.specs.Changed.{with_table_at}
use Rattle.datastore_answers.specs.Changed as table
use Rattle.datastore_answers.specs.Order.{address_cmp, at_address, is_at, table_cmp, table_cmp_total}
use Rattle.datastore_answers.specs.Tables.{tables_in, tables_kept}
use Rattle.datastore_answers.specs.declared.address.Address.{Address}
use Rattle.datastore_answers.specs.declared.resource_table.ResourceTable.{ResourceTable}
use Rattle.datastore_answers.proofs.KeepLemmas.{at-is, found-in, number_itself}
use Rattle.datastore_answers.proofs.TableLemmas.{there-at}
use Rattle.portal_calls.specs.declared.call.Call.{Call}
use Rattle.portal_state.specs.Answer.{call_view_of}
use Rattle.portal_state.specs.Planned.{PlannedChange, People, Datasets, Tables, Sources, entries_of}
use Rattle.portal_state.specs.Fit.{IsFit}
use Rattle.portal_state.specs.State.{State}
use Rattle.portal_state.specs.Valid.{IsValid}
use Rattle.portal_state.specs.View.{view_of}
use Rattle.portal_state.proofs.TableViewing.{any-among}
use Rattle.portal_state.specs.Alone.{AllDropAlone, DropsAlone}
use Rattle.portal_state.specs.Entries.{DropDataset, DropOrg, DropRow, DropTable, Entry, PutRow, changed_by, rows_at}
use Rattle.portal_state.specs.Entries.{rows_of, state_after}
use Rattle.portal_state.specs.EntriesOf.{drop_of_role, drops_of, drops_of_table, entries_of_batch, ids_of, puts_of}
use Rattle.portal_state.specs.EntriesOf.{roles_in, rows_written, tables_gone, is_gone}
use Rattle.portal_state.proofs.ChangeEntries.{entries-same, own-found}
use Rattle.portal_state.proofs.DatasetEntries.{state_after-tables, tables-dropped}
use Rattle.portal_state.proofs.DropLemmas.{filter-none}
use Rattle.portal_state.proofs.Keeping.{fit_in_valid}
use Rattle.portal_state.proofs.PeopleEntries.{roles-dropped, state_after-roles}
use Rattle.portal_state.proofs.SourceEntries.{removes-named, sources-alone}
use Rattle.portal_state.proofs.StateLemmas.{with_tables}
use Rattle.portal_state.proofs.TableEntries.{all_dropped-rows, state_after-drops, state_after-drops_of_table}
use Rattle.portal_state.proofs.TableEntries.{without_each}

-- ---- lists of entries

AllDropAlone-++ : (entries more : List Entry) (state : State) → AllDropAlone entries state
    → AllDropAlone more (state_after entries state) → AllDropAlone (entries ++ more) state
AllDropAlone-++ [] more state first rest = rest
AllDropAlone-++ (entry ∷ entries) more state first rest =
    (first.0, AllDropAlone-++ entries more (changed_by entry state) first.1 rest)

-- Entries that drop nothing that has something in it.
all-quiet : {X : Type 0} (make : X → Entry) → ((x : X) (state : State) → DropsAlone (make x) state) → (xs : List X)
    (state : State) → AllDropAlone (map make xs) state
all-quiet make quiet [] state = tt
all-quiet make quiet (x ∷ xs) state = (quiet x state, all-quiet make quiet xs (changed_by (make x) state))

-- ---- an organization

-- No role in an organization is left where they were dropped.
no-roles : (name : List ℕ) (roles : List Membership)
    → roles_in name (dropped (membership_in_org_at name) roles) ≡ []
no-roles name roles =
    filter-none (λ (m : Membership). bytes_eq m.org name) (dropped (membership_in_org_at name) roles)
    (λ m left. sym (is_eq-slice_cmp m.org name) ∙ (IsIn-dropped (membership_in_org_at name) m roles left).1)

org-alone : (name : List ℕ) (state : State)
    → AllDropAlone (map drop_of_role (roles_in name state.people.roles) ++ DropOrg name ∷ []) state
org-alone name state =
    AllDropAlone-++ (map drop_of_role gone) (DropOrg name ∷ []) state (all-quiet drop_of_role (λ m s. tt) gone state) (
      ap (λ (s : State). roles_in name s.people.roles) (state_after-roles gone state)
          ∙ ap (roles_in name) (roles-dropped name state.people.roles)
          ∙ no-roles name state.people.roles,
      tt,
    )
  where
    gone : List Membership
    gone = roles_in name state.people.roles

-- ---- tables

-- The table has each row that is at its address.
abbrev Covers : ResourceTable → List ResourceTable → Type 0
Covers t tables = (row : Row) → IsIn row (rows_at t.address tables) → IsIn row t.table.rows

own-id : (row : Row) (rows : List Row) → IsIn row rows → batch.is_among (ids_of rows) row.id ≡ true
own-id row rows m =
    list_any-map (λ (r : Row). r.id) (λ i. i == row.id) rows
    ∙ any-among (λ (r : Row). r.id == row.id) row rows m (number_itself row.id)

-- Each of the rows has one of these `_id`s.
abbrev AreNamed : List ℕ → List Row → Type 0
AreNamed ids rows = (row : Row) → IsIn row rows → batch.is_among ids row.id ≡ true

-- No row is left at the address where each was dropped by its `_id`.
no-rows : (a : Address) (ids : List ℕ) (tables : List ResourceTable) → AreNamed ids (rows_at a tables)
    → rows_at a (with_table_at a (without_each ids) tables) ≡ []
no-rows a ids [] named = refl
no-rows a ids (t ∷ ts) named = by (is_at a t) refl named (no-rows a ids ts)
  where
    rest : Option ResourceTable
    rest = found (at_address a) (with_table_at a (without_each ids) ts)

    by : (b : Bool) → is_at a t ≡ b
        → AreNamed ids (rows_of (cond b (Some t) (found (at_address a) ts)))
        → (AreNamed ids (rows_at a ts) → rows_of rest ≡ [])
        → rows_of (cond (is_at a (if b then without_each ids t else t))
        (Some (if b then without_each ids t else t)) rest) ≡ []
    by true is each more =
        ap (λ c. rows_of (cond c (Some (without_each ids t)) rest)) is
        ∙ all_dropped-rows ids t.table.rows
        ∙ filter-none (λ (row : Row). not (batch.is_among ids row.id)) t.table.rows (λ row m. ap not (each row m))
    by false is each more = ap (λ c. rows_of (cond c (Some t) rest)) is ∙ more each

table-alone : (t : ResourceTable) (state : State) → Covers t state.tables → AllDropAlone (drops_of_table t) state
table-alone t state covers =
    AllDropAlone-++ (map (DropRow t.address) (ids_of t.table.rows)) (DropTable t.address ∷ []) state
    (all-quiet (DropRow t.address) (λ id s. tt) (ids_of t.table.rows) state) (
      ap (λ (s : State). rows_at t.address s.tables) (state_after-drops t.address (ids_of t.table.rows) state)
          ∙ no-rows t.address (ids_of t.table.rows) state.tables (λ row m. own-id row t.table.rows (covers row m)),
      tt,
    )

-- A table of the list is covered by itself.
covers-own : (t : ResourceTable) (tables : List ResourceTable) → found (at_address t.address) tables ≡ Some t
    → Covers t tables
covers-own t tables there row m = subst (λ (o : Option ResourceTable). IsIn row (rows_of o)) there m

-- It still is where another table was dropped.
covers-dropped : (t u : ResourceTable) (tables : List ResourceTable) → Covers u tables
    → Covers u (dropped (at_address t.address) tables)
covers-dropped t u tables covers = by (is_at t.address u) refl
  where
    left : List ResourceTable
    left = dropped (at_address t.address) tables

    by : (b : Bool) → is_at t.address u ≡ b → Covers u left
    by true is row m =
        let none : found (at_address u.address) left ≡ None =
        ap (λ (a : Address). found (at_address a) left) (at-is t.address u is)
        ∙ found-dropped (at_address t.address) tables in
        absurd (subst (λ (o : Option ResourceTable). IsIn row (rows_of o)) none m)
    by false is row m =
        covers row (subst (λ (o : Option ResourceTable). IsIn row (rows_of o))
        (found-dropped_other (at_address t.address) (at_address u.address) tables (λ v here. apart v here)) m)
      where
        apart : (v : ResourceTable) → at_address t.address v ≡ Equal → is_at u.address v ≡ false
        apart v here = away (is_at u.address v) refl
          where
            away : (b : Bool) → is_at u.address v ≡ b → b ≡ false
            away false other = refl
            away true there =
                let same : u.address ≡ t.address =
                sym (at-is u.address v there) ∙ at-is t.address v (ap is_eq here) in
                let like : is_at t.address u ≡ true =
                ap (λ (a : Address). is_eq (address_cmp a t.address)) same ∙ ap is_eq (tied_itself table_cmp_total t) in
                absurd (cc)

tables-alone : (gone : List ResourceTable) (state : State) → ((t : ResourceTable) → IsIn t gone → Covers t state.tables)
    → AllDropAlone (flat_map drops_of_table gone) state
tables-alone [] state covered = tt
tables-alone (t ∷ gone) state covered =
    AllDropAlone-++ (drops_of_table t) (flat_map drops_of_table gone) state
    (table-alone t state (covered t (inl refl)))
    (subst (AllDropAlone (flat_map drops_of_table gone)) (sym (state_after-drops_of_table t state))
    (tables-alone gone (with_tables (dropped (at_address t.address) state.tables) state)
    (λ u m. covers-dropped t u state.tables (covered u (inr m)))))

-- The tables of a dataset that go, in tables that ascend.
gone-alone : (id : List ℕ) (resources : List Resource) (state : State) → IsAscending table_cmp state.tables
    → AllDropAlone (flat_map drops_of_table (tables_gone id resources state.tables)) state
gone-alone id resources state up =
    tables-alone (tables_gone id resources state.tables) state
    (λ t m. covers-own t state.tables
    (found-in t.address state.tables t up (IsIn-filter (is_gone id resources) t state.tables m).0
    (ap is_eq (tied_itself table_cmp_total t))))

-- No table of a dataset is left where it keeps no resource.
no-tables : (id : List ℕ) (tables : List ResourceTable) → tables_in id (tables_kept id [] tables) ≡ []
no-tables id tables =
    filter-none (λ (t : ResourceTable). bytes_eq t.address.dataset id) (tables_kept id [] tables)
    (λ t left. by (bytes_eq t.address.dataset id)
    (IsIn-filter (λ (u : ResourceTable). not (bytes_eq u.address.dataset id) || is_among [] u.address.number) t tables
    left).1)
  where
    by : (b : Bool) → (not b || false) ≡ true → b ≡ false
    by true is = absurd (cc)
    by false is = refl

-- ---- batches

puts-alone : (method : Method) (records : List Json) (there : Option ResourceTable) (state : State)
    → AllDropAlone (puts_of method records there) state
puts-alone method records None state = tt
puts-alone method records (Some t) state = by (put_records method records t.table)
  where
    by : (r : Result Worked TableFault) → AllDropAlone (entries_of_batch t r) state
    by (Ok worked) = (tt, all-quiet (PutRow t.address) (λ row s. tt) (rows_written worked) _)
    by (Err fault) = tt

-- ---- all changes

pub alone-in_state : (call : Call) (state : State) (change : PlannedChange) → IsValid state → IsFit call state change
    → AllDropAlone (entries_of change state) state
alone-in_state call state (People (org.Create o)) valid fit = (tt, tt)
alone-in_state call state (People (org.Patch o)) valid fit = (tt, tt)
alone-in_state call state (People (org.Remove name)) valid fit = org-alone name state
alone-in_state call state (People (org.SetRole name user role)) valid fit = (tt, tt)
alone-in_state call state (People (org.DropRole name user)) valid fit = (tt, tt)
alone-in_state call state (Datasets (dataset.Create d)) valid fit = (tt, tt)
alone-in_state call state (Datasets (dataset.Replace d)) valid fit =
    AllDropAlone-++ (flat_map drops_of_table (tables_gone d.id d.resources state.tables)) _ state
    (gone-alone d.id d.resources state valid.tables.ascending) (tt, tt)
alone-in_state call state (Datasets (dataset.Remove id)) valid fit =
    AllDropAlone-++ (flat_map drops_of_table (tables_gone id [] state.tables)) (DropDataset id ∷ []) state
    (gone-alone id [] state valid.tables.ascending) (
      ap (λ (s : State). tables_in id s.tables) (state_after-tables (tables_gone id [] state.tables) state)
          ∙ ap (tables_in id) (tables-dropped id [] state.tables)
          ∙ no-tables id state.tables,
      tt,
    )
alone-in_state call state (Tables (table.Create t)) valid fit =
    (tt, all-quiet (PutRow t.address) (λ row s. tt) t.table.rows _)
alone-in_state call state (Tables (table.Remove a)) valid fit =
    let there : found (at_address a) state.tables ≡ Some fit.own.table =
    own-found (call_view_of call state) state.tables a fit.own in
    let here : fit.own.table.address ≡ a = at-is a fit.own.table (there-at a state.tables fit.own.table there) in
    subst (λ (o : Option ResourceTable). AllDropAlone (drops_of o) state) (sym there)
    (table-alone fit.own.table state
    (covers-own fit.own.table state.tables (ap (λ (b : Address). found (at_address b) state.tables) here ∙ there)))
alone-in_state call state (Tables (table.Put a method records)) valid fit =
    puts-alone method records (found (at_address a) state.tables) state
alone-in_state call state (Tables (table.DeleteRows a ids)) valid fit = all-quiet (DropRow a) (λ id s. tt) ids state
alone-in_state call state (Sources change) valid fit =
    sources-alone change state valid (removes-named change (call_view_of call state) state.sources valid.sources.named fit)

pub all-alone : (call : Call) (state : State) (change : PlannedChange) → IsValid state
    → IsFit call (view_of call.caller state) change
    → AllDropAlone (entries_of change (view_of call.caller state)) state
all-alone call state change valid fit =
    subst (λ (entries : List Entry). AllDropAlone entries state) (sym (entries-same call state change valid fit))
    (alone-in_state call state change valid (fit_in_valid change call state valid fit))

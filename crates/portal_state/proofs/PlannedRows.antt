-- The changes of rows for a planned change lead from the rows of the state to those of the state after it. They are
-- those that follow from the lists that it changes.
use Rattle.std.proofs.Common.{◌≡◌, ℕ, ◌<◌, ◌^◌, Bool, true, false, not, ◌||◌, cond, List, [], ◌∷◌, ◌++◌, Option, Some}
use Rattle.std.proofs.Common.{None}
use Rattle.std.proofs.Common.{map, refl, sym, ap, subst, ◌∙◌, if◌then◌else◌, Result}
use Rattle.std.specs.Prelude.{option_map}
use Rattle.std.specs.List.{flat_map}
use Rattle.std.specs.Str.{bytes_eq}
use Rattle.std.proofs.lemmas.List.Elements.{All-filter}
use Rattle.std.proofs.lemmas.Option.{same_Some}
use Rattle.portal_base.specs.Ordered.{found}
use Rattle.portal_base.proofs.Unique.{IsIn}
use Rattle.portal_base.proofs.Upserted.{All-IsIn, All-dropped, All-each, All-upserted}
use Rattle.packages.specs.Shelf.{datasets_of}
use Rattle.packages.specs.declared.package.Resource.{Resource}
use Rattle.packages.proofs.FindLemmas.{map-IsIn}
use Rattle.visibility.specs.TableSummary.{is_among}
use Rattle.dataset_answers.specs.declared.change.DatasetChange.{DatasetChange}
use Rattle.dataset_answers.specs.declared.change.DatasetChange.TheVariants as dataset
use Rattle.dataset_rows.specs.Rows.{row_text}
use Rattle.datastore_answers.specs.Changed.{put_into, with_table_at, with_worked, without_rows}
use Rattle.datastore_answers.specs.Order.{at_address, is_at, table_cmp}
use Rattle.datastore_answers.specs.Plan as table
use Rattle.datastore_answers.specs.Tables.{tables_in, tables_kept, tables_of, without_room}
use Rattle.datastore_answers.specs.declared.address.Address.{Address}
use Rattle.datastore_answers.specs.declared.plan.TablePlan.{TablePlan}
use Rattle.datastore_answers.specs.declared.plan.TablePlan.TheVariants as plan
use Rattle.datastore_answers.specs.declared.resource_table.ResourceTable.{ResourceTable}
use Rattle.datastore_answers.proofs.KeepLemmas.{found-in}
use Rattle.datastore_table.specs.Put.{Worked, put_records}
use Rattle.datastore_table.specs.declared.fault.TableFault.{TableFault}
use Rattle.harvest_stages.specs.Stages.{sources_in}
use Rattle.portal_calls.specs.declared.call.Call.{Call}
use Rattle.portal_keeper.specs.Changed.{rows_after}
use Rattle.portal_keeper.specs.Rows.{AreInOrder}
use Rattle.portal_keeper.specs.declared.change.Change.{Change}
use Rattle.portal_keeper.specs.declared.change.Change.TheVariants.{Remove}
use Rattle.portal_keeper.specs.declared.row.RowKind.TheVariants as kind
use Rattle.portal_state.specs.Answer.{call_view_of}
use Rattle.portal_state.specs.Changed.{AreUnused, changed}
use Rattle.portal_state.specs.ChangedRows.{IsTypedPlan, IsTypedTablePlan, changes_between, changes_if, changes_of_batch}
use Rattle.portal_state.specs.ChangedRows.{changes_of_datasets, dataset_body}
use Rattle.portal_state.specs.ChangedRows.{changes_of_plan, changes_of_tables, removals_of_gone, removals_of_ids}
use Rattle.portal_state.specs.ChangedRows.{removals_of_table, removals_unless}
use Rattle.portal_state.specs.Entries.{state_after}
use Rattle.portal_state.specs.Fit.{IsFit}
use Rattle.portal_state.specs.KeptRows.{AreSized, IsSized, kept_rows}
use Rattle.portal_state.specs.Parts.{IsConsistent, IsPlanned, state_of}
use Rattle.portal_state.specs.Planned.{PlannedChange, Tables, claims_of, entries_of, planned_of}
use Rattle.portal_state.specs.RowChanges.{effective_changes, planned_row_changes, row_changes}
use Rattle.portal_state.specs.State.{State}
use Rattle.portal_state.specs.Valid.{IsValid}
use Rattle.portal_state.specs.declared.change.Plan.{Plan}
use Rattle.portal_state.specs.declared.change.Plan.TheVariants as portal
use Rattle.portal_state.specs.declared.parts.Parts.{Parts}
use Rattle.portal_state.proofs.AloneEntries.{alone-in_state}
use Rattle.portal_state.proofs.ChangeEntries.{entries-made, none-there, own-found}
use Rattle.portal_state.proofs.DatasetRows.{dataset-changes}
use Rattle.portal_state.proofs.EffectiveChanges.{none-effective, rows_after-effective}
use Rattle.portal_state.proofs.InOrder.{kept_rows-in_order}
use Rattle.portal_state.proofs.Keeping.{changed_valid}
use Rattle.portal_state.proofs.PeopleRows.{people-changes}
use Rattle.portal_state.proofs.SourceRows.{small-after, source-changes}
use Rattle.portal_state.proofs.TableRows.{batch-changes, created, deleted-changes, dropped-table, worked-address}

-- ---- what the changes of rows lead to

pub planned-follow : (planned : PlannedChange) (call : Call) (state : State) → IsValid state → IsFit call state planned
    → AreUnused state (claims_of planned) → IsSized state → IsSized (changed planned state)
    → rows_after (planned_row_changes planned state) (kept_rows state) ≡ kept_rows (changed planned state)
planned-follow planned call state valid fit unused sized also_sized =
    let made : state_after (entries_of planned state) state ≡ changed planned state =
    entries-made call state planned valid fit in
    let before : AreInOrder (kept_rows state) = kept_rows-in_order state valid sized in
    let after : AreInOrder (kept_rows (changed planned state)) =
    kept_rows-in_order (changed planned state) (changed_valid planned call state valid fit unused) also_sized in
    subst (λ (new : State). rows_after
    (effective_changes (kept_rows state) (row_changes (entries_of planned state) new)) (kept_rows state)
    ≡ kept_rows new) made
    (rows_after-effective (entries_of planned state) state valid.tables.ascending valid.sources
    (alone-in_state call state planned valid fit) before
    (subst (λ (new : State). AreInOrder (kept_rows new)) (sym made) after))

pub planned-none : (planned : PlannedChange) (state : State) → kept_rows (changed planned state) ≡ kept_rows state
    → planned_row_changes planned state ≡ []
planned-none planned state same =
    none-effective (entries_of planned state) state (changed planned state) (sym same)

-- ---- tables, whatever memory they have ready

found-without_room : (a : Address) (tables : List ResourceTable)
    → found (at_address a) (map without_room tables) ≡ option_map without_room (found (at_address a) tables)
found-without_room a [] = refl
found-without_room a (t ∷ tables) = by (is_at a t) (found-without_room a tables)
  where
    by : (b : Bool)
        → found (at_address a) (map without_room tables) ≡ option_map without_room (found (at_address a) tables)
        → cond b (Some (without_room t)) (found (at_address a) (map without_room tables))
        ≡ option_map without_room (cond b (Some t) (found (at_address a) tables))
    by true rest = refl
    by false rest = rest

gone-without_room : (id : List ℕ) (resources : List Resource) (tables : List ResourceTable)
    → removals_of_gone id resources tables ≡ removals_of_gone id resources (map without_room tables)
gone-without_room id resources [] = refl
gone-without_room id resources (t ∷ tables) =
    by (bytes_eq t.address.dataset id) (gone-without_room id resources tables)
  where
    rest : List ResourceTable → List Change
    rest ts = flat_map (removals_unless resources) (tables_in id ts)

    by : (b : Bool) → rest tables ≡ rest (map without_room tables)
        → flat_map (removals_unless resources) (cond b (t ∷ tables_in id tables) (tables_in id tables))
        ≡ flat_map (removals_unless resources)
        (cond b (without_room t ∷ tables_in id (map without_room tables)) (tables_in id (map without_room tables)))
    by true same = ap (λ (l : List Change). removals_unless resources t ++ l) same
    by false same = same

-- What changes of a table that is found.
if-found : (changes : ResourceTable → List Change) → ((t : ResourceTable) → changes (without_room t) ≡ changes t)
    → (a : Address) (tables : List ResourceTable) (t : ResourceTable)
    → found (at_address a) (map without_room tables) ≡ Some t
    → changes_if changes (found (at_address a) tables) ≡ changes t
if-found changes same a tables t there =
    by (found (at_address a) tables) (sym (found-without_room a tables) ∙ there)
  where
    by : (o : Option ResourceTable) → option_map without_room o ≡ Some t → changes_if changes o ≡ changes t
    by None e = absurd (cc)
    by (Some u) e = sym (same u) ∙ ap changes (same_Some (without_room u) t e)

-- ---- sizes

sized-made : (a : Address) (make : ResourceTable → ResourceTable) (tables : List ResourceTable) → AreSized tables
    → ((t : ResourceTable) → (make t).address ≡ t.address)
    → ((t : ResourceTable) → IsIn t tables → is_at a t ≡ true → t.table.next_id < 2 ^ 64
    → (make t).table.next_id < 2 ^ 64)
    → AreSized (with_table_at a make tables)
sized-made a make tables sized keeps next = record {
  numbers = All-each (λ (t : ResourceTable). t.address.number < 2 ^ 32) (with_table_at a make tables)
      (λ u m. let w = map-IsIn at u tables m in
      subst (λ (t : ResourceTable). t.address.number < 2 ^ 32) (sym w.2)
      (number w.0 (is_at a w.0)
      (All-IsIn (λ (t : ResourceTable). t.address.number < 2 ^ 32) tables sized.numbers w.0 w.1)));
  next_ids = All-each (λ (t : ResourceTable). t.table.next_id < 2 ^ 64) (with_table_at a make tables)
      (λ u m. let w = map-IsIn at u tables m in
      subst (λ (t : ResourceTable). t.table.next_id < 2 ^ 64) (sym w.2)
      (next_id w.0 w.1 (is_at a w.0) refl
      (All-IsIn (λ (t : ResourceTable). t.table.next_id < 2 ^ 64) tables sized.next_ids w.0 w.1)));
}
  where
    at : ResourceTable → ResourceTable
    at t = if is_at a t then make t else t

    number : (t : ResourceTable) (b : Bool) → t.address.number < 2 ^ 32
        → (if b then make t else t).address.number < 2 ^ 32
    number t true small = subst (λ (c : Address). c.number < 2 ^ 32) (sym (keeps t)) small
    number t false small = small

    next_id : (t : ResourceTable) → IsIn t tables → (b : Bool) → is_at a t ≡ b → t.table.next_id < 2 ^ 64
        → (if b then make t else t).table.next_id < 2 ^ 64
    next_id t m true is small = next t m is small
    next_id t m false is small = small

sized-kept : (id : List ℕ) (resources : List Resource) (tables : List ResourceTable) → AreSized tables
    → AreSized (tables_kept id resources tables)
sized-kept id resources tables sized = record {
  numbers = All-filter stays (λ (t : ResourceTable). t.address.number < 2 ^ 32) tables sized.numbers;
  next_ids = All-filter stays (λ (t : ResourceTable). t.table.next_id < 2 ^ 64) tables sized.next_ids;
}
  where
    stays : ResourceTable → Bool
    stays t = not (bytes_eq t.address.dataset id) || is_among resources t.address.number

sized-tables : (p : TablePlan) (parts : Parts) → IsConsistent parts → AreSized (state_of parts).tables
    → table.IsPlanned p parts.tables → IsTypedTablePlan p
    → AreSized (changed (Tables (table.change_of p)) (state_of parts)).tables
sized-tables (plan.Create t) parts consistent sized planned typed = record {
  numbers = All-upserted (λ (u : ResourceTable). u.address.number < 2 ^ 32) table_cmp (without_room t)
      (tables_of parts.tables) typed.0 sized.numbers;
  next_ids = All-upserted (λ (u : ResourceTable). u.table.next_id < 2 ^ 64) table_cmp (without_room t)
      (tables_of parts.tables) typed.1 sized.next_ids;
}
sized-tables (plan.Remove a) parts consistent sized planned typed = record {
  numbers = All-dropped (λ (u : ResourceTable). u.address.number < 2 ^ 32) (at_address a) (tables_of parts.tables)
      sized.numbers;
  next_ids = All-dropped (λ (u : ResourceTable). u.table.next_id < 2 ^ 64) (at_address a) (tables_of parts.tables)
      sized.next_ids;
}
sized-tables (plan.Put a method records batch) parts consistent sized planned typed =
    sized-made a (put_into method records.value) tables sized
    (λ t. worked-address t (put_records method records.value t.table))
    (λ t m is small. let same : t ≡ without_room planned.table =
    same_Some t (without_room planned.table)
    (sym (found-in a tables t consistent.valid.tables.ascending m is)
    ∙ found-without_room a parts.tables.tables
    ∙ ap (option_map without_room) planned.exists) in
    subst (λ (n : ℕ). n < 2 ^ 64)
    (sym (ap (λ (u : ResourceTable). (put_into method records.value u).table.next_id) same
    ∙ ap (λ (r : Result Worked TableFault). (with_worked (without_room planned.table) r).table.next_id) planned.made))
    typed.next_id)
  where
    tables : List ResourceTable
    tables = tables_of parts.tables
sized-tables (plan.DeleteRows a removal) parts consistent sized planned typed =
    sized-made a (without_rows removal.ids) (tables_of parts.tables) sized (λ t. refl) (λ t m is small. small)

-- The state after a planned change is sized.
pub planned-sized : (p : Plan) (parts : Parts) (call : Call) → IsConsistent parts → IsSized (state_of parts)
    → IsFit call (state_of parts) (planned_of p) → IsPlanned p parts → IsTypedPlan p parts
    → IsSized (changed (planned_of p) (state_of parts))
planned-sized (portal.People change) parts call consistent sized fit planned typed = record {
  tables = sized.tables;
  next_jobs = sized.next_jobs;
}
planned-sized (portal.Datasets (dataset.Create d)) parts call consistent sized fit planned typed = record {
  tables = sized.tables;
  next_jobs = sized.next_jobs;
}
planned-sized (portal.Datasets (dataset.Replace d)) parts call consistent sized fit planned typed = record {
  tables = sized-kept d.id d.resources (tables_of parts.tables) sized.tables;
  next_jobs = sized.next_jobs;
}
planned-sized (portal.Datasets (dataset.Remove id)) parts call consistent sized fit planned typed = record {
  tables = sized-kept id [] (tables_of parts.tables) sized.tables;
  next_jobs = sized.next_jobs;
}
planned-sized (portal.Tables change) parts call consistent sized fit planned typed = record {
  tables = sized-tables change parts consistent sized.tables planned typed;
  next_jobs = sized.next_jobs;
}
planned-sized (portal.Sources change) parts call consistent sized fit planned typed = record {
  tables = sized.tables;
  next_jobs = small-after change (call_view_of call (state_of parts)) (sources_in parts.sources) sized.next_jobs fit typed;
}

-- ---- the changes of rows, by the parts

datasets-same : (change : DatasetChange) (parts : Parts)
    → changes_of_datasets change (datasets_of parts.shelf) parts.tables.tables
    ≡ changes_of_datasets change (datasets_of parts.shelf) (tables_of parts.tables)
datasets-same (dataset.Create d) parts = refl
datasets-same (dataset.Replace d) parts =
    ap (λ (l : List Change). l ++ changes_between kind.Set d.id (dataset_body d.id (datasets_of parts.shelf))
    (Some (row_text d))) (gone-without_room d.id d.resources parts.tables.tables)
datasets-same (dataset.Remove id) parts =
    ap (λ (l : List Change). l ++ Remove kind.Set id ∷ []) (gone-without_room id [] parts.tables.tables)

tables-planned : (p : TablePlan) (parts : Parts) (call : Call) → IsConsistent parts → IsSized (state_of parts)
    → IsFit call (state_of parts) (Tables (table.change_of p)) → table.IsPlanned p parts.tables → IsTypedTablePlan p
    → IsValid (changed (Tables (table.change_of p)) (state_of parts))
    → IsSized (changed (Tables (table.change_of p)) (state_of parts))
    → changes_of_tables p parts.tables.tables ≡ planned_row_changes (Tables (table.change_of p)) (state_of parts)
tables-planned (plan.Create t) parts call consistent sized fit planned typed also also_sized =
    sym (created (without_room t) (state_of parts) consistent.valid sized
    (none-there (call_view_of call (state_of parts)) (tables_of parts.tables) (without_room t) fit) also also_sized)
tables-planned (plan.Remove a) parts call consistent sized fit planned typed also also_sized =
    let there : found (at_address a) (tables_of parts.tables) ≡ Some fit.own.table =
    own-found (call_view_of call (state_of parts)) (tables_of parts.tables) a fit.own in
    if-found removals_of_table (λ t. refl) a parts.tables.tables fit.own.table there
    ∙ sym (dropped-table a fit.own.table (state_of parts) consistent.valid sized there also also_sized)
tables-planned (plan.Put a method records batch) parts call consistent sized fit planned typed also also_sized =
    let there : found (at_address a) (tables_of parts.tables) ≡ Some (without_room planned.table) =
    found-without_room a parts.tables.tables ∙ ap (option_map without_room) planned.exists in
    if-found (changes_of_batch batch.work) (λ t. refl) a parts.tables.tables (without_room planned.table) there
    ∙ sym (batch-changes a method records.value batch.work (without_room planned.table) (state_of parts)
    consistent.valid sized there planned.made typed.ascending typed.those also also_sized)
tables-planned (plan.DeleteRows a removal) parts call consistent sized fit planned typed also also_sized =
    let there : found (at_address a) (tables_of parts.tables) ≡ Some fit.own.table =
    own-found (call_view_of call (state_of parts)) (tables_of parts.tables) a fit.own in
    if-found (removals_of_ids removal.ids) (λ t. refl) a parts.tables.tables fit.own.table there
    ∙ sym (deleted-changes a removal.ids fit.own.table (state_of parts) consistent.valid sized there typed also
    also_sized)

pub plan-changes : (p : Plan) (parts : Parts) (call : Call) → IsConsistent parts → IsSized (state_of parts)
    → IsFit call (state_of parts) (planned_of p) → IsPlanned p parts
    → AreUnused (state_of parts) (claims_of (planned_of p)) → IsTypedPlan p parts
    → changes_of_plan p parts ≡ planned_row_changes (planned_of p) (state_of parts)
plan-changes p parts call consistent sized fit planned unused typed =
    by p fit planned unused typed
    (changed_valid (planned_of p) call (state_of parts) consistent.valid fit unused)
    (planned-sized p parts call consistent sized fit planned typed)
  where
    by : (q : Plan) → IsFit call (state_of parts) (planned_of q) → IsPlanned q parts
        → AreUnused (state_of parts) (claims_of (planned_of q)) → IsTypedPlan q parts
        → IsValid (changed (planned_of q) (state_of parts))
        → IsSized (changed (planned_of q) (state_of parts))
        → changes_of_plan q parts ≡ planned_row_changes (planned_of q) (state_of parts)
    by (portal.People change) fits ready free right also also_sized =
        sym (people-changes change call (state_of parts) consistent.valid sized fits also also_sized)
    by (portal.Datasets change) fits ready free right also also_sized =
        datasets-same change parts
        ∙ sym (dataset-changes change call (state_of parts) consistent.valid sized fits free also also_sized)
    by (portal.Tables change) fits ready free right also also_sized =
        tables-planned change parts call consistent sized fits ready right also also_sized
    by (portal.Sources change) fits ready free right also also_sized =
        sym (source-changes change (state_of parts) consistent.valid sized free also also_sized)

-- The changes of rows for a change of datasets.
use Rattle.std.proofs.Common.{◌≡◌, ℕ, Bool, true, false, not, ◌&&◌, ◌||◌, cond, List, [], ◌∷◌, ◌++◌, Option, Some, None}
use Rattle.std.proofs.Common.{map}
use Rattle.std.proofs.Common.{refl, sym, ap, ap₂, subst, ◌∙◌, if◌then◌else◌, ◌<◌, ◌^◌, inl, inr}
use Rattle.std.specs.Prelude.{option_map, filter, find}
use Rattle.std.specs.List.{flat_map}
use Rattle.std.specs.Ordering.{is_eq}
use Rattle.std.specs.Cmp.Lexicographic.{nat_list_cmp_total}
use Rattle.std.specs.Str.{bytes_eq}
use Rattle.std.proofs.lemmas.Cmp.{tied_itself}
use Rattle.std.proofs.lemmas.Map.Text.{is_eq-slice_cmp}
use Rattle.std.proofs.lemmas.Option.{same_Some}
use Rattle.portal_base.specs.Ordered.{IsAscending, IsKey, IsKey-field, found, upserted}
use Rattle.portal_base.proofs.Filtered.{IsIn-filter, find-list_any, find-same}
use Rattle.portal_base.proofs.Unique.{IsIn, IsIn-Contains}
use Rattle.portal_base.proofs.Upserted.{found-dropped, found-upserted}
use Rattle.packages.specs.Named.{is_named}
use Rattle.packages.specs.Order.{dataset_cmp, dataset_cmp_total}
use Rattle.packages.specs.Shelf.{ShelfState, datasets_of, number_in, package_at}
use Rattle.packages.specs.declared.package.Package.{Package}
use Rattle.packages.specs.declared.package.Resource.{Resource}
use Rattle.packages.proofs.DatasetLemmas.{IsIn-datasets, datasets-IsIn}
use Rattle.packages.proofs.EntryLemmas.{IsIn-package_at}
use Rattle.packages.proofs.FindLemmas.{find-none, map-IsIn, none-find}
use Rattle.visibility.specs.TableSummary.{is_among}
use Rattle.dataset_answers.specs.Changed.{dataset_at_id}
use Rattle.dataset_answers.specs.Edits.{edit_of}
use Rattle.dataset_answers.specs.Fit.{IsFitDataset}
use Rattle.dataset_answers.specs.declared.change.DatasetChange.{DatasetChange}
use Rattle.dataset_answers.specs.declared.change.DatasetChange.TheVariants as dataset
use Rattle.dataset_rows.specs.Rows.{row_text}
use Rattle.datastore_answers.specs.Order.{at_address, is_at, table_cmp_total}
use Rattle.datastore_answers.specs.Summaries.{summaries_of}
use Rattle.datastore_answers.specs.Tables.{tables_in}
use Rattle.datastore_answers.specs.declared.address.Address.{Address}
use Rattle.datastore_answers.specs.declared.resource_table.ResourceTable.{ResourceTable}
use Rattle.datastore_answers.proofs.KeepLemmas.{at-is, found-in}
use Rattle.datastore_table.specs.Meets.{IsTable}
use Rattle.datastore_table.specs.Rows.{row_cmp}
use Rattle.datastore_table.specs.declared.row.Row.{Row}
use Rattle.portal_base.proofs.Upserted.{All-IsIn}
use Rattle.portal_calls.specs.declared.call.Call.{Call}
use Rattle.portal_keeper.specs.declared.change.Change.{Change}
use Rattle.portal_keeper.specs.declared.change.Change.TheVariants.{Remove}
use Rattle.portal_keeper.specs.declared.row.KeptRow.{KeptRow}
use Rattle.portal_keeper.specs.declared.row.RowKind.TheVariants as kind
use Rattle.portal_rows.specs.TableRows.{cells_row, row_key}
use Rattle.portal_state.specs.Answer.{call_view_of}
use Rattle.portal_state.specs.Changed.{AreUnused, changed, is_in_use}
use Rattle.portal_state.specs.ChangedRows.{IsKey-row_at_id, cells_body, changes_of_datasets, dataset_body, head_body}
use Rattle.portal_state.specs.ChangedRows.{removal_of_dataset, removals_of_gone, removals_of_table, removals_unless}
use Rattle.portal_state.specs.Entries.{DropDataset, DropRow, DropTable, EditDataset, PutDataset, row_at_id, rows_of}
use Rattle.portal_state.specs.EntriesOf.{drop_of_dataset, drops_of_table, ids_of, is_gone, tables_gone}
use Rattle.portal_state.specs.KeptRows.{IsSized, kept_rows, resource_id}
use Rattle.portal_state.specs.Parts.{IsOnShelf, IsPlaced}
use Rattle.portal_state.specs.Planned.{Datasets, claims_of}
use Rattle.portal_state.specs.RowChanges.{planned_row_changes}
use Rattle.portal_state.specs.State.{State}
use Rattle.portal_state.specs.Valid.{IsValid}
use Rattle.portal_state.specs.declared.change.Claim.TheVariants.{DatasetId, DatasetName}
use Rattle.portal_state.proofs.ChangesFor.{changes_for, changes_for-++, changes_for-flat_map, changes_for-map}
use Rattle.portal_state.proofs.ChangesFor.{changes_for-one, map-twice}
use Rattle.portal_state.proofs.Keeping.{first_unused}
use Rattle.portal_state.proofs.RowBodies.{body-cells, body-dataset, body-head, like-id, number-sized, row-sized}
use Rattle.portal_state.proofs.RowMembers.{found-member}

-- ---- a dataset on the shelf

IsKey-id : (id : List ℕ) → IsKey dataset_cmp (dataset_at_id id)
IsKey-id id = IsKey-field (λ (d : Package). d.id) nat_list_cmp_total id

like : (id : List ℕ) (d : Package) → d.id ≡ id → is_eq (dataset_at_id id d) ≡ true
like id d same = ap (λ (i : List ℕ). is_eq (dataset_at_id i d)) (sym same) ∙ ap is_eq (tied_itself dataset_cmp_total d)

-- The dataset of an id is found among datasets in order.
pub found-id : (id : List ℕ) (d : Package) (datasets : List Package) → IsAscending dataset_cmp datasets → IsIn d datasets
    → d.id ≡ id → found (dataset_at_id id) datasets ≡ Some d
found-id id d datasets up m same =
    found-member dataset_cmp (dataset_at_id id) (IsKey-id id) d datasets up m (like id d same)

-- The dataset at the number that an id on the shelf leads to is the one of that id.
pub body_on_shelf : (shelf : ShelfState) (id : List ℕ) (n : ℕ) → IsAscending dataset_cmp (datasets_of shelf)
    → IsOnShelf shelf id → number_in id shelf ≡ Some n
    → option_map row_text (package_at n shelf) ≡ dataset_body id (datasets_of shelf)
body_on_shelf shelf id n up on leads = by (package_at n shelf) refl present
  where
    present : option_map (λ (d : Package). d.id) (package_at n shelf) ≡ Some id
    present =
        ap (λ (m : ℕ). option_map (λ (d : Package). d.id) (package_at m shelf))
        (same_Some n on.number (sym leads ∙ on.leads)) ∙ on.is_present

    by : (o : Option Package) → package_at n shelf ≡ o → option_map (λ (d : Package). d.id) o ≡ Some id
        → option_map row_text o ≡ dataset_body id (datasets_of shelf)
    by None is e = absurd (cc)
    by (Some d) is e =
        ap (option_map row_text)
        (sym (found-id id d (datasets_of shelf) up
        (IsIn-datasets n d shelf.entries (IsIn-package_at n d shelf.entries is)) (same_Some d.id id e)))

first_fails : (a b : Bool) → (a || b) ≡ false → a ≡ false
first_fails true b is = absurd (cc)
first_fails false b is = refl

unnumbered : (o : Option (ℕ × Package)) → option_map (λ (e : ℕ × Package). e.0) o ≡ None → o ≡ None
unnumbered None is = refl
unnumbered (Some e) is = absurd (cc)

-- An id that leads to no number is that of no dataset.
pub body_unplaced : (shelf : ShelfState) (id : List ℕ) → number_in id shelf ≡ None
    → dataset_body id (datasets_of shelf) ≡ None
body_unplaced shelf id none =
    ap (option_map row_text)
    (none-find (λ (d : Package). is_eq (dataset_at_id id d)) (datasets_of shelf)
    (λ d m. let w = datasets-IsIn d shelf.entries m in
    is_eq-slice_cmp d.id id
    ∙ first_fails (bytes_eq d.id id) (bytes_eq d.name id)
    (find-none (λ (e : ℕ × Package). is_named id e.1) (w.0, d) shelf.entries
    (unnumbered (find (λ (e : ℕ × Package). is_named id e.1) shelf.entries) none) w.1)))

-- An id that leads to a number is that of a dataset on the shelf.
pub placed_on_shelf : (shelf : ShelfState) (id : List ℕ) (n : ℕ) → IsPlaced id shelf → number_in id shelf ≡ Some n
    → IsOnShelf shelf id
placed_on_shelf shelf id n (inl on) leads = on
placed_on_shelf shelf id n (inr none) leads = let never : Some n ≡ None = sym leads ∙ none in absurd (cc)

-- ---- datasets that go

-- The rows of datasets go that are there and aren't left.
pub dropped-changes : (gone : List Package) (state new : State) → IsValid state → IsSized state → IsValid new
    → IsSized new → ((d : Package) → IsIn d gone → IsIn d state.datasets)
    → ((d : Package) → IsIn d gone → found (dataset_at_id d.id) new.datasets ≡ None)
    → changes_for (kept_rows state) (kept_rows new) (map drop_of_dataset gone) ≡ map removal_of_dataset gone
dropped-changes gone state new valid sized also also_sized within none =
    changes_for-map (kept_rows state) (kept_rows new) drop_of_dataset removal_of_dataset gone
    (λ d m. changes_for-one (kept_rows state) (kept_rows new) (DropDataset d.id) (Some (row_text d)) None
    (body-dataset state valid sized d.id
    ∙ ap (option_map row_text) (found-id d.id d state.datasets valid.datasets (within d m) refl))
    (body-dataset new also also_sized d.id ∙ ap (option_map row_text) (none d m)))

-- ---- a table that goes

-- Where there is no table at the address of one afterwards, its rows' rows go, and then its own.
pub table-removed : (state new : State) → IsValid state → IsSized state → IsValid new → IsSized new
    → (t : ResourceTable) → IsIn t state.tables → found (at_address t.address) new.tables ≡ None
    → changes_for (kept_rows state) (kept_rows new) (drops_of_table t) ≡ removals_of_table t
table-removed state new valid sized also also_sized t m none =
    changes_for-++ before after (map (DropRow t.address) (ids_of t.table.rows)) (DropTable t.address ∷ [])
    ∙ ap₂ (λ (l k : List Change). l ++ k)
    (changes_for-map before after (DropRow t.address) (λ id. Remove kind.Row (row_key resource id))
    (ids_of t.table.rows) each
    ∙ map-twice (λ (id : ℕ). Remove kind.Row (row_key resource id)) (λ (row : Row). row.id) t.table.rows)
    (changes_for-one before after (DropTable t.address) (Some (head_body t t.table.next_id)) None
    (body-head state valid sized t.address small
    ∙ ap (option_map (λ (u : ResourceTable). head_body u u.table.next_id)) there)
    (body-head new also also_sized t.address small
    ∙ ap (option_map (λ (u : ResourceTable). head_body u u.table.next_id)) none))
  where
    before : List KeptRow
    before = kept_rows state

    after : List KeptRow
    after = kept_rows new

    resource : List ℕ
    resource = resource_id t.address

    small : t.address.number < 2 ^ 32
    small = number-sized state sized t m

    there : found (at_address t.address) state.tables ≡ Some t
    there =
        found-in t.address state.tables t valid.tables.ascending m (ap is_eq (tied_itself table_cmp_total t))

    rows_ascend : IsAscending row_cmp t.table.rows
    rows_ascend =
        (All-IsIn (λ (u : ResourceTable). IsTable u.table.schema u.table.rows u.table.next_id) state.tables
        valid.tables.valid t m).numbered.ascending

    each : (id : ℕ) → IsIn id (ids_of t.table.rows)
        → changes_for before after (DropRow t.address id ∷ []) ≡ Remove kind.Row (row_key resource id) ∷ []
    each id among =
        let w = map-IsIn (λ (row : Row). row.id) id t.table.rows among in
        let id_small : id < 2 ^ 64 =
        subst (λ n. n < 2 ^ 64) (sym w.2) (row-sized state valid sized t m w.0 w.1) in
        changes_for-one before after (DropRow t.address id) (Some (cells_row resource w.0).body) None
        (body-cells state valid sized t.address id small id_small
        ∙ ap (λ (o : Option ResourceTable). cells_body resource (rows_of o) id) there
        ∙ ap (option_map (λ (row : Row). (cells_row resource row).body))
        (found-member row_cmp (row_at_id id) (IsKey-row_at_id id) w.0 t.table.rows rows_ascend w.1
        (like-id id w.0 (sym w.2))))
        (body-cells new also also_sized t.address id small id_small
        ∙ ap (λ (o : Option ResourceTable). cells_body resource (rows_of o) id) none)

-- ---- the tables of a dataset that go

-- No table is left at the address of one that goes.
gone-none : (id : List ℕ) (resources : List Resource) (tables : List ResourceTable) (t : ResourceTable)
    → IsIn t (tables_gone id resources tables)
    → found (at_address t.address)
    (filter (λ (u : ResourceTable). not (bytes_eq u.address.dataset id) || is_among resources u.address.number) tables)
    ≡ None
gone-none id resources tables t m =
    none-find (is_at t.address) (filter stays tables)
    (λ u n. apart u (IsIn-filter stays u tables n).1 (is_at t.address u) refl)
  where
    stays : ResourceTable → Bool
    stays u = not (bytes_eq u.address.dataset id) || is_among resources u.address.number

    clash : (a b : Bool) → (not a || b) ≡ true → (a && not b) ≡ true → ⊥
    clash true true one other = absurd (cc)
    clash true false one other = absurd (cc)
    clash false b one other = absurd (cc)

    apart : (u : ResourceTable) → stays u ≡ true → (b : Bool) → is_at t.address u ≡ b → b ≡ false
    apart u stay false is = refl
    apart u stay true is =
        absurd (clash (bytes_eq u.address.dataset id) (is_among resources u.address.number) stay
        (ap (λ (a : Address). bytes_eq a.dataset id && not (is_among resources a.number)) (at-is t.address u is)
        ∙ (IsIn-filter (is_gone id resources) t tables m).1))

-- Those that go are those of the dataset, save for those of the resources.
gone-removals : (id : List ℕ) (resources : List Resource) (tables : List ResourceTable)
    → flat_map removals_of_table (tables_gone id resources tables) ≡ removals_of_gone id resources tables
gone-removals id resources [] = refl
gone-removals id resources (t ∷ tables) =
    by (bytes_eq t.address.dataset id) (is_among resources t.address.number) refl (gone-removals id resources tables)
  where
    gone : List ResourceTable
    gone = tables_gone id resources tables

    own : List ResourceTable
    own = tables_in id tables

    by : (a b : Bool) → is_among resources t.address.number ≡ b
        → flat_map removals_of_table gone ≡ flat_map (removals_unless resources) own
        → flat_map removals_of_table (cond (a && not b) (t ∷ gone) gone)
        ≡ flat_map (removals_unless resources) (cond a (t ∷ own) own)
    by true true is rest =
        rest ∙ sym (ap (λ b. (if b then [] else removals_of_table t) ++ flat_map (removals_unless resources) own) is)
    by true false is rest =
        ap (λ (l : List Change). removals_of_table t ++ l) rest
        ∙ sym (ap (λ b. (if b then [] else removals_of_table t) ++ flat_map (removals_unless resources) own) is)
    by false b is rest = rest

pub gone-changes : (id : List ℕ) (resources : List Resource) (state new : State) → IsValid state
    → IsSized state → IsValid new → IsSized new
    → new.tables
    ≡ filter (λ (u : ResourceTable). not (bytes_eq u.address.dataset id) || is_among resources u.address.number)
    state.tables
    → changes_for (kept_rows state) (kept_rows new) (flat_map drops_of_table (tables_gone id resources state.tables))
    ≡ removals_of_gone id resources state.tables
gone-changes id resources state new valid sized also also_sized left =
    changes_for-flat_map (kept_rows state) (kept_rows new) drops_of_table removals_of_table
    (tables_gone id resources state.tables)
    (λ t m. table-removed state new valid sized also also_sized t
    (IsIn-filter (is_gone id resources) t state.tables m).0
    (ap (found (at_address t.address)) left ∙ gone-none id resources state.tables t m))
    ∙ gone-removals id resources state.tables

-- ---- the changes for a planned change of datasets

-- no dataset has the id of a new one
none-unused : (d : Package) (state : State) → AreUnused state (claims_of (Datasets (dataset.Create d)))
    → dataset_body d.id state.datasets ≡ None
none-unused d state unused =
    let unnamed = first_unused (is_in_use state) (DatasetName d.name) (DatasetId d.id ∷ []) unused in
    let unknown = first_unused (is_in_use state) (DatasetId d.id) [] unnamed.1 in
    ap (option_map row_text)
    (find-same (λ (e : Package). is_eq (dataset_at_id d.id e)) (λ (e : Package). bytes_eq e.id d.id)
    (λ e. is_eq-slice_cmp e.id d.id) state.datasets
    ∙ find-list_any (λ (e : Package). bytes_eq e.id d.id) state.datasets unknown.0)

pub body-upserted : (d : Package) (datasets : List Package)
    → dataset_body d.id (upserted dataset_cmp d datasets) ≡ Some (row_text d)
body-upserted d datasets =
    ap (option_map row_text)
    (found-upserted dataset_cmp (dataset_at_id d.id) (IsKey-id d.id) d datasets (tied_itself dataset_cmp_total d))

pub dataset-changes : (change : DatasetChange) (call : Call) (state : State) → IsValid state → IsSized state
    → IsFitDataset (call_view_of call state) (summaries_of state.tables) change
    → AreUnused state (claims_of (Datasets change)) → IsValid (changed (Datasets change) state)
    → IsSized (changed (Datasets change) state)
    → planned_row_changes (Datasets change) state ≡ changes_of_datasets change state.datasets state.tables
dataset-changes (dataset.Create d) call state valid sized fit unused also also_sized =
    changes_for-one (kept_rows state) (kept_rows new) (PutDataset d) None (Some (row_text d))
    (body-dataset state valid sized d.id ∙ none-unused d state unused)
    (body-dataset new also also_sized d.id ∙ body-upserted d state.datasets)
  where
    new : State
    new = changed (Datasets (dataset.Create d)) state
dataset-changes (dataset.Replace d) call state valid sized fit unused also also_sized =
    changes_for-++ (kept_rows state) (kept_rows new)
    (flat_map drops_of_table (tables_gone d.id d.resources state.tables)) (EditDataset d.id (edit_of d) ∷ [])
    ∙ ap₂ (λ (l m : List Change). l ++ m)
    (gone-changes d.id d.resources state new valid sized also also_sized refl)
    (changes_for-one (kept_rows state) (kept_rows new) (EditDataset d.id (edit_of d))
    (dataset_body d.id state.datasets) (Some (row_text d))
    (body-dataset state valid sized d.id)
    (body-dataset new also also_sized d.id ∙ body-upserted d state.datasets))
  where
    new : State
    new = changed (Datasets (dataset.Replace d)) state
dataset-changes (dataset.Remove id) call state valid sized fit unused also also_sized =
    changes_for-++ (kept_rows state) (kept_rows new)
    (flat_map drops_of_table (tables_gone id [] state.tables)) (DropDataset id ∷ [])
    ∙ ap₂ (λ (l m : List Change). l ++ m)
    (gone-changes id [] state new valid sized also also_sized refl)
    (changes_for-one (kept_rows state) (kept_rows new) (DropDataset id) (Some (row_text fit.old)) None
    (body-dataset state valid sized id
    ∙ ap (option_map row_text) (found-id id fit.old state.datasets valid.datasets
    (IsIn-Contains fit.old state.datasets fit.is_present) fit.id))
    (body-dataset new also also_sized id
    ∙ ap (option_map row_text) (found-dropped (dataset_at_id id) state.datasets)))
  where
    new : State
    new = changed (Datasets (dataset.Remove id)) state

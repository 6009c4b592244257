-- The changes of rows for a change of a table.
use Rattle.std.proofs.Common.{◌≡◌, ℕ, ◌<◌, ◌^◌, Bool, true, false, not, cond, List, [], ◌∷◌, Option, Some, None, map}
use Rattle.std.proofs.Common.{refl, sym, ap, subst, ◌∙◌, ◌||◌, if◌then◌else◌, inl, inr, ◌⊎◌, All, Result, Ok, Err}
use Rattle.std.proofs.Common.{true≢false}
use Rattle.std.specs.Prelude.{option_map, filter}
use Rattle.std.specs.List.{flat_map, list_any}
use Rattle.std.specs.Ordering.{is_eq}
use Rattle.std.proofs.lemmas.Cmp.{tied_itself}
use Rattle.std.proofs.lemmas.Map.Lookups.{exact_unsigned}
use Rattle.portal_base.specs.declared.json_value.Json.{Json}
use Rattle.portal_base.specs.Ordered.{IsAscending, found}
use Rattle.portal_base.proofs.Filtered.{IsAscending-filter, IsIn-filter, filter-IsIn}
use Rattle.portal_base.proofs.Removed.{is_eq_true}
use Rattle.portal_base.proofs.Unique.{IsIn, unique}
use Rattle.portal_base.proofs.Upserted.{All-IsIn, All-each, found-dropped, found-upserted, upserted-IsIn}
use Rattle.packages.proofs.FindLemmas.{IsIn-find, none-find}
use Rattle.datastore_table.specs.Batch.{AreThoseOf, Written, cut_rows, is_among, worked_on}
use Rattle.datastore_table.specs.Meets.{IsTable}
use Rattle.datastore_table.specs.Put.{Worked, put_records}
use Rattle.datastore_table.specs.Rows.{has_id, row_cmp, row_cmp_total, rows_after}
use Rattle.datastore_table.specs.declared.fault.TableFault.{TableFault}
use Rattle.datastore_table.specs.declared.method.Method.{Method}
use Rattle.datastore_table.specs.declared.row.Row.{Row}
use Rattle.datastore_table.proofs.AmongLemmas.{IsIn-among}
use Rattle.datastore_table.proofs.KeptLemmas.{rows-values}
use Rattle.datastore_table.proofs.Merged.{IsApart, IsAscending-merged, IsIn-merged, merged-IsIn}
use Rattle.datastore_answers.specs.Changed.{put_into, with_table_at, with_worked, without_rows}
use Rattle.datastore_answers.specs.Changed as table
use Rattle.datastore_answers.specs.Order.{IsKey-at_address, at_address, is_at, table_cmp, table_cmp_total}
use Rattle.datastore_answers.specs.declared.address.Address.{Address}
use Rattle.datastore_answers.specs.declared.resource_table.ResourceTable.{ResourceTable}
use Rattle.datastore_answers.proofs.KeepLemmas.{at-is, number_is, number_itself}
use Rattle.datastore_answers.proofs.TableLemmas.{there-at}
use Rattle.table_schema.specs.Field.{SchemaValue}
use Rattle.table_schema.specs.Printed.{IsValue}
use Rattle.portal_keeper.specs.declared.change.Change.{Change}
use Rattle.portal_keeper.specs.declared.row.KeptRow.{KeptRow}
use Rattle.portal_keeper.specs.declared.row.RowKind.TheVariants as kind
use Rattle.portal_rows.specs.TableRows.{cells_row}
use Rattle.portal_state.specs.Changed.{changed}
use Rattle.portal_state.specs.ChangedRows.{IsKey-row_at_id, cells_body, changes_of_batch, changes_of_row, head_body}
use Rattle.portal_state.specs.ChangedRows.{put_of, removals_of_id, removals_of_ids, removals_of_table}
use Rattle.portal_state.specs.Entries.{DropRow, PutRow, PutTable, row_at_id, rows_of}
use Rattle.portal_state.specs.EntriesOf.{drops_of, entries_of_batch, head_of, head_with, puts_of, rows_written}
use Rattle.portal_state.specs.KeptRows.{IsSized, kept_rows, resource_id, table_rows}
use Rattle.portal_state.specs.Planned.{Tables}
use Rattle.portal_state.specs.RowChanges.{planned_row_changes}
use Rattle.portal_state.specs.State.{State}
use Rattle.portal_state.specs.Valid.{IsValid}
use Rattle.portal_state.proofs.ChangesFor.{changes_for, changes_for-cons, changes_for-each, changes_for-map}
use Rattle.portal_state.proofs.ChangesFor.{changes_for-one, map-twice}
use Rattle.portal_state.proofs.DatasetRows.{table-removed}
use Rattle.portal_state.proofs.RowBodies.{body-cells, body-head, like-id, number-sized, row-sized}
use Rattle.portal_state.proofs.RowMembers.{found-member}
use Rattle.portal_state.proofs.TableViewing.{any-among}

-- ---- tables at their addresses

-- the rows of a valid state's table ascend
ascend-rows : (state : State) → IsValid state → (t : ResourceTable) → IsIn t state.tables
    → IsAscending row_cmp t.table.rows
ascend-rows state valid t m =
    (All-IsIn (λ (u : ResourceTable). IsTable u.table.schema u.table.rows u.table.next_id) state.tables
    valid.tables.valid t m).numbered.ascending

-- A row of them is found at its `_id`.
found-row : (rows : List Row) (row : Row) → IsAscending row_cmp rows → IsIn row rows
    → found (row_at_id row.id) rows ≡ Some row
found-row rows row up m =
    found-member row_cmp (row_at_id row.id) (IsKey-row_at_id row.id) row rows up m (like-id row.id row refl)

-- A table that is changed at its address is found there.
found-changed : (a : Address) (make : ResourceTable → ResourceTable) (t : ResourceTable)
    → ((u : ResourceTable) → (make u).address ≡ u.address) → (tables : List ResourceTable)
    → found (at_address a) tables ≡ Some t → found (at_address a) (with_table_at a make tables) ≡ Some (make t)
found-changed a make t keeps [] there = absurd (cc)
found-changed a make t keeps (u ∷ tables) there = by (is_at a u) refl there (found-changed a make t keeps tables)
  where
    rest : Option ResourceTable
    rest = found (at_address a) (with_table_at a make tables)

    by : (b : Bool) → is_at a u ≡ b → cond b (Some u) (found (at_address a) tables) ≡ Some t
        → (found (at_address a) tables ≡ Some t → rest ≡ Some (make t))
        → cond (is_at a (if b then make u else u)) (Some (if b then make u else u)) rest ≡ Some (make t)
    by true is e more =
        ap (λ c. cond c (Some (make u)) rest) (ap (λ (b : Address). is_eq (at_address a (record u { address = b })))
        (keeps u) ∙ is)
        ∙ ap (option_map make) e
    by false is e more = ap (λ c. cond c (Some u) rest) is ∙ more e

-- ---- a new table

pub created : (t : ResourceTable) (state : State) → IsValid state → IsSized state
    → found (at_address t.address) state.tables ≡ None → IsValid (changed (Tables (table.Create t)) state)
    → IsSized (changed (Tables (table.Create t)) state)
    → planned_row_changes (Tables (table.Create t)) state ≡ map put_of (table_rows t)
created t state valid sized none also also_sized =
    changes_for-cons before after (PutTable (head_of t)) (map (PutRow t.address) t.table.rows) _ _
    (changes_for-one before after (PutTable (head_of t)) None (Some (head_body t t.table.next_id))
    (body-head state valid sized t.address small
    ∙ ap (option_map (λ (u : ResourceTable). head_body u u.table.next_id)) none)
    (body-head new also also_sized t.address small
    ∙ ap (option_map (λ (u : ResourceTable). head_body u u.table.next_id)) there))
    (changes_for-map before after (PutRow t.address) (λ row. put_of (cells_row resource row)) t.table.rows each)
    ∙ ap (λ (l : List Change). put_of (record {
      kind = kind.Table;
      key = resource;
      body = head_body t t.table.next_id;
    }) ∷ l) (sym (map-twice put_of (cells_row resource) t.table.rows))
  where
    new : State
    new = changed (Tables (table.Create t)) state

    before : List KeptRow
    before = kept_rows state

    after : List KeptRow
    after = kept_rows new

    resource : List ℕ
    resource = resource_id t.address

    among : IsIn t new.tables
    among = upserted-IsIn table_cmp t state.tables

    small : t.address.number < 2 ^ 32
    small = number-sized new also_sized t among

    there : found (at_address t.address) new.tables ≡ Some t
    there =
        found-upserted table_cmp (at_address t.address) (IsKey-at_address t.address) t state.tables
        (tied_itself table_cmp_total t)

    each : (row : Row) → IsIn row t.table.rows
        → changes_for before after (PutRow t.address row ∷ []) ≡ put_of (cells_row resource row) ∷ []
    each row m =
        changes_for-one before after (PutRow t.address row) None (Some (cells_row resource row).body)
        (body-cells state valid sized t.address row.id small (row-sized new also also_sized t among row m)
        ∙ ap (λ (o : Option ResourceTable). cells_body resource (rows_of o) row.id) none)
        (body-cells new also also_sized t.address row.id small (row-sized new also also_sized t among row m)
        ∙ ap (λ (o : Option ResourceTable). cells_body resource (rows_of o) row.id) there
        ∙ ap (option_map (λ (r : Row). (cells_row resource r).body))
        (found-row t.table.rows row (ascend-rows new also t among) m))

-- ---- a table that goes

pub dropped-table : (a : Address) (t : ResourceTable) (state : State) → IsValid state → IsSized state
    → found (at_address a) state.tables ≡ Some t → IsValid (changed (Tables (table.Remove a)) state)
    → IsSized (changed (Tables (table.Remove a)) state)
    → planned_row_changes (Tables (table.Remove a)) state ≡ removals_of_table t
dropped-table a t state valid sized there also also_sized =
    ap (λ (o : Option ResourceTable). changes_for (kept_rows state) (kept_rows new) (drops_of o)) there
    ∙ table-removed state new valid sized also also_sized t (IsIn-find (is_at a) t state.tables there).0
    (ap (λ (b : Address). found (at_address b) new.tables) (at-is a t (there-at a state.tables t there))
    ∙ found-dropped (at_address a) state.tables)
  where
    new : State
    new = changed (Tables (table.Remove a)) state

-- ---- cells

-- The cells of the rows that a batch writes are values.
pub written_values : (schema : SchemaValue) (written rows : List Row) (next_id : ℕ) → IsAscending row_cmp written
    → IsTable schema (rows_after written rows) next_id → All (λ (row : Row). All IsValue row.cells) written
written_values schema written rows next_id up whole =
    All-each (λ (row : Row). All IsValue row.cells) written
    (λ row m. All-IsIn (λ (r : Row). All IsValue r.cells) (rows_after written rows)
    (rows-values schema (rows_after written rows) whole.meets) row (merged-IsIn row_cmp row written rows up m))

pub found_values : (id : ℕ) (rows : List Row) (row : Row) → All (λ (r : Row). All IsValue r.cells) rows
    → found (row_at_id id) rows ≡ Some row → All IsValue row.cells
found_values id rows row all is =
    All-IsIn (λ (r : Row). All IsValue r.cells) rows all row
    (IsIn-find (λ (r : Row). is_eq (row_at_id id r)) row rows is).0

-- ---- a batch

-- what passes of a list
passes : {X : Type 0} (p : X → Bool) (xs : List X) → list_any p xs ≡ true → (x : X) × IsIn x xs × (p x ≡ true)
passes p [] is = absurd (cc)
passes {X} p (x ∷ xs) is = by (p x) refl is (passes p xs)
  where
    by : (b : Bool) → p x ≡ b → (b || list_any p xs) ≡ true
        → (list_any p xs ≡ true → (z : X) × IsIn z xs × (p z ≡ true)) → (z : X) × IsIn z (x ∷ xs) × (p z ≡ true)
    by true here e rest = (x, inl refl, here)
    by false here e rest = let z = rest e in (z.0, inr z.1, z.2)

-- The rows that a batch writes are those that it changed.
pub written-changed : (rows : List Row) (work : Written) → IsAscending row_cmp rows → IsAscending row_cmp work.changed
    → AreThoseOf work.written work.changed → rows_written (worked_on rows work) ≡ work.changed
written-changed rows work up also those =
    unique row_cmp row_cmp_total (filter wrote now) work.changed
    (IsAscending-filter row_cmp wrote now (IsAscending-merged row_cmp row_cmp_total work.changed rows up)) also
    (λ z m. let there = IsIn-filter wrote z now m in
    only z there.1 (IsIn-merged row_cmp z work.changed rows there.0))
    (λ z m. filter-IsIn wrote z now (merged-IsIn row_cmp z work.changed rows also m)
    (sym (those z.id) ∙ any-among (has_id z.id) z work.changed m (number_itself z.id)))
  where
    wrote : Row → Bool
    wrote row = is_among work.written row.id

    now : List Row
    now = rows_after work.changed rows

    only : (z : Row) → wrote z ≡ true → IsIn z work.changed ⊎ (IsIn z rows × IsApart row_cmp z work.changed)
        → IsIn z work.changed
    only z among (inl m) = m
    only z among (inr was) =
        let w = passes (has_id z.id) work.changed (those z.id ∙ among) in
        absurd (true≢false (sym (like-id w.0.id z (sym (number_is w.0.id z.id w.2))) ∙ was.1 w.0 w.1))

-- A batch keeps the address of the table.
pub worked-address : (t : ResourceTable) (r : Result Worked TableFault) → (with_worked t r).address ≡ t.address
worked-address t (Ok worked) = refl
worked-address t (Err fault) = refl

pub batch-changes : (a : Address) (method : Method) (records : List Json) (work : Written) (t : ResourceTable)
    (state : State) → IsValid state → IsSized state → found (at_address a) state.tables ≡ Some t
    → put_records method records t.table ≡ Ok (worked_on t.table.rows work) → IsAscending row_cmp work.changed
    → AreThoseOf work.written work.changed → IsValid (changed (Tables (table.Put a method records)) state)
    → IsSized (changed (Tables (table.Put a method records)) state)
    → planned_row_changes (Tables (table.Put a method records)) state ≡ changes_of_batch work t
batch-changes a method records work t state valid sized there put up those also also_sized =
    ap (λ (o : Option ResourceTable). changes_for before after (puts_of method records o)) there
    ∙ ap (λ (r : Result Worked TableFault). changes_for before after (entries_of_batch t r)) put
    ∙ ap (λ (rows : List Row). changes_for before after
    (PutTable (head_with t work.next_id) ∷ map (PutRow t.address) rows))
    (written-changed t.table.rows work rows_ascend up those)
    ∙ changes_for-cons before after (PutTable (head_with t work.next_id)) (map (PutRow t.address) work.changed) _ _
    (changes_for-one before after (PutTable (head_with t work.next_id)) (Some (head_body t t.table.next_id))
    (Some (head_body t work.next_id))
    (body-head state valid sized t.address small
    ∙ ap (option_map (λ (u : ResourceTable). head_body u u.table.next_id)) old_there)
    (body-head new also also_sized t.address small
    ∙ ap (option_map (λ (u : ResourceTable). head_body u u.table.next_id)) new_there))
    (changes_for-each before after (PutRow t.address) (changes_of_row resource t.table.rows) work.changed each)
  where
    new : State
    new = changed (Tables (table.Put a method records)) state

    before : List KeptRow
    before = kept_rows state

    after : List KeptRow
    after = kept_rows new

    resource : List ℕ
    resource = resource_id t.address

    now : List Row
    now = rows_after work.changed t.table.rows

    made : ResourceTable
    made = with_worked t (Ok (worked_on t.table.rows work))

    among : IsIn t state.tables
    among = (IsIn-find (is_at a) t state.tables there).0

    here : t.address ≡ a
    here = at-is a t (there-at a state.tables t there)

    small : t.address.number < 2 ^ 32
    small = number-sized state sized t among

    rows_ascend : IsAscending row_cmp t.table.rows
    rows_ascend = ascend-rows state valid t among

    old_there : found (at_address t.address) state.tables ≡ Some t
    old_there = ap (λ (b : Address). found (at_address b) state.tables) here ∙ there

    new_there : found (at_address t.address) new.tables ≡ Some made
    new_there =
        ap (λ (b : Address). found (at_address b) new.tables) here
        ∙ found-changed a (put_into method records) t
        (λ u. worked-address u (put_records method records u.table)) state.tables there
        ∙ ap (λ (r : Result Worked TableFault). Some (with_worked t r)) put

    new_among : IsIn made new.tables
    new_among = (IsIn-find (is_at t.address) made new.tables new_there).0

    each : (row : Row) → IsIn row work.changed
        → changes_for before after (PutRow t.address row ∷ []) ≡ changes_of_row resource t.table.rows row
    each row m =
        let wrote : IsIn row now = merged-IsIn row_cmp row work.changed t.table.rows up m in
        let id_small : row.id < 2 ^ 64 = row-sized new also also_sized made new_among row wrote in
        changes_for-one before after (PutRow t.address row) (cells_body resource t.table.rows row.id)
        (Some (cells_row resource row).body)
        (body-cells state valid sized t.address row.id small id_small
        ∙ ap (λ (o : Option ResourceTable). cells_body resource (rows_of o) row.id) old_there)
        (body-cells new also also_sized t.address row.id small id_small
        ∙ ap (λ (o : Option ResourceTable). cells_body resource (rows_of o) row.id) new_there
        ∙ ap (option_map (λ (r : Row). (cells_row resource r).body))
        (found-row now row (IsAscending-merged row_cmp row_cmp_total work.changed t.table.rows rows_ascend) wrote))

-- ---- rows that are deleted

-- No row is left of an `_id` that was deleted.
cut-none : (ids : List ℕ) (rows : List Row) (id : ℕ) → IsIn id ids → found (row_at_id id) (cut_rows ids rows) ≡ None
cut-none ids rows id m =
    none-find (λ (z : Row). is_eq (row_at_id id z)) (cut_rows ids rows)
    (λ z n. apart z (IsIn-filter (λ (row : Row). not (is_among ids row.id)) z rows n).1 (is_eq (row_at_id id z)) refl)
  where
    apart : (z : Row) → not (is_among ids z.id) ≡ true → (b : Bool) → is_eq (row_at_id id z) ≡ b → b ≡ false
    apart z left false is = refl
    apart z left true is =
        let gone : is_among ids z.id ≡ true =
        ap (is_among ids) (exact_unsigned z.id id (is_eq_true (row_at_id id z) is)) ∙ IsIn-among ids id m in
        absurd (true≢false (sym left ∙ ap not gone))

pub deleted-changes : (a : Address) (ids : List ℕ) (t : ResourceTable) (state : State) → IsValid state
    → IsSized state → found (at_address a) state.tables ≡ Some t → All (λ id. id < 2 ^ 64) ids
    → IsValid (changed (Tables (table.DeleteRows a ids)) state)
    → IsSized (changed (Tables (table.DeleteRows a ids)) state)
    → planned_row_changes (Tables (table.DeleteRows a ids)) state ≡ removals_of_ids ids t
deleted-changes a ids t state valid sized there ids_small also also_sized =
    changes_for-each before after (DropRow a) (removals_of_id (resource_id a) t.table.rows) ids each
    ∙ ap (λ (b : Address). flat_map (removals_of_id (resource_id b) t.table.rows) ids) (sym here)
  where
    new : State
    new = changed (Tables (table.DeleteRows a ids)) state

    before : List KeptRow
    before = kept_rows state

    after : List KeptRow
    after = kept_rows new

    here : t.address ≡ a
    here = at-is a t (there-at a state.tables t there)

    small : a.number < 2 ^ 32
    small =
        subst (λ (b : Address). b.number < 2 ^ 32) here
        (number-sized state sized t (IsIn-find (is_at a) t state.tables there).0)

    new_there : found (at_address a) new.tables ≡ Some (without_rows ids t)
    new_there = found-changed a (without_rows ids) t (λ u. refl) state.tables there

    each : (id : ℕ) → IsIn id ids
        → changes_for before after (DropRow a id ∷ []) ≡ removals_of_id (resource_id a) t.table.rows id
    each id m =
        let id_small : id < 2 ^ 64 = All-IsIn (λ i. i < 2 ^ 64) ids ids_small id m in
        changes_for-one before after (DropRow a id) (cells_body (resource_id a) t.table.rows id) None
        (body-cells state valid sized a id small id_small
        ∙ ap (λ (o : Option ResourceTable). cells_body (resource_id a) (rows_of o) id) there)
        (body-cells new also also_sized a id small id_small
        ∙ ap (λ (o : Option ResourceTable). cells_body (resource_id a) (rows_of o) id) new_there
        ∙ ap (option_map (λ (row : Row). (cells_row (resource_id a) row).body)) (cut-none ids t.table.rows id m))

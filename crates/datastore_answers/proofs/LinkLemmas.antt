-- The references of the rows that a batch writes are, after the batch, those of the table's rows.
use Rattle.std.proofs.Common.{◌≡◌, ℕ, ◌+◌, Bool, true, false, not, ◌||◌, List, [], ◌∷◌, Option, Some, None, Ok}
use Rattle.std.proofs.Common.{Err, Result, refl, sym, ap, ◌∙◌, if◌then◌else◌}
use Rattle.std.specs.Option.{option_or}
use Rattle.std.specs.List.{list_all}
use Rattle.portal_base.specs.Ordered.{IsAscending}
use Rattle.portal_base.specs.declared.json_value.Json.{Json}
use Rattle.portal_base.proofs.Filtered.{list_all-IsIn}
use Rattle.packages.proofs.FindLemmas.{IsIn-find}
use Rattle.table_schema.specs.declared.foreign.Foreign.{Foreign}
use Rattle.datastore_table.specs.Batch.{Written, worked_on}
use Rattle.datastore_table.specs.Put.{put_records}
use Rattle.datastore_table.specs.References.{is_broken, is_broken_at, is_self, written_checked}
use Rattle.datastore_table.specs.Results.{◌>>>◌, in_turn}
use Rattle.datastore_table.specs.Rows.{has_id, row_at, row_cmp, rows_after}
use Rattle.datastore_table.specs.declared.fault.TableFault.{TableFault}
use Rattle.datastore_table.specs.declared.method.Method.{Method}
use Rattle.datastore_table.specs.declared.row.Row.{Row}
use Rattle.datastore_table.proofs.RowLemmas.{both_hold, current_at}
use Rattle.datastore_answers.specs.Linked.{alone, target_checked, holds_in, is_linked, link_checked, links_checked}
use Rattle.datastore_answers.specs.Linked.{links_hold, put_among, target_of}
use Rattle.datastore_answers.specs.declared.resource_table.ResourceTable.{ResourceTable}

-- ---- one reference

-- If no row's reference is broken, this row's isn't.
unbroken : (p : Row → Bool) (id : ℕ) (rows : List Row) → list_all (λ row. not (p row)) rows ≡ true → (r : Row)
    → row_at id rows ≡ Some r → p r ≡ false
unbroken p id rows intact r found =
    by (p r) refl (list_all-IsIn (λ row. not (p row)) rows intact r (IsIn-find (has_id id) r rows found).0)
  where
    by : (b : Bool) → p r ≡ b → not (p r) ≡ true → b ≡ false
    by true is holds = absurd (cc (ap not is))
    by false is holds = refl

broken_same : (indices key : List ℕ) (target changed rows : List Row) (id : ℕ) → IsAscending row_cmp changed
    → IsAscending row_cmp rows → list_all (λ row. not (is_broken indices key target row)) rows ≡ true
    → is_broken_at indices key target (row_at id changed)
    ≡ is_broken_at indices key target (row_at id (rows_after changed rows))
broken_same indices key target changed rows id up_changed up_rows intact =
    by (row_at id changed) (row_at id rows) refl
    ∙ sym (ap (is_broken_at indices key target) (current_at id changed rows up_changed up_rows))
  where
    by : (one other : Option Row) → row_at id rows ≡ other
        → is_broken_at indices key target one ≡ is_broken_at indices key target (option_or one other)
    by (Some r) other is = refl
    by None None is = refl
    by None (Some r) is = sym (unbroken (is_broken indices key target) id rows intact r is)

foreign_same : (indices key : List ℕ) (target changed rows : List Row) (number : ℕ) (written : List ℕ)
    → IsAscending row_cmp changed → IsAscending row_cmp rows
    → list_all (λ row. not (is_broken indices key target row)) rows ≡ true
    → in_turn (written_checked indices key target changed) number written tt
    ≡ in_turn (written_checked indices key target (rows_after changed rows)) number written tt
foreign_same indices key target changed rows number [] up_changed up_rows intact = refl
foreign_same indices key target changed rows number (id ∷ ids) up_changed up_rows intact =
    by (is_broken_at indices key target (row_at id changed))
    (is_broken_at indices key target (row_at id (rows_after changed rows)))
    (broken_same indices key target changed rows id up_changed up_rows intact)
    (foreign_same indices key target changed rows (number + 1) ids up_changed up_rows intact)
  where
    by : (a b : Bool) → a ≡ b
        → in_turn (written_checked indices key target changed) (number + 1) ids tt
        ≡ in_turn (written_checked indices key target (rows_after changed rows)) (number + 1) ids tt
        → ((if a then Err (TableFault.Foreign number) else Ok tt)
        >>> in_turn (written_checked indices key target changed) (number + 1) ids)
        ≡ ((if b then Err (TableFault.Foreign number) else Ok tt)
        >>> in_turn (written_checked indices key target (rows_after changed rows)) (number + 1) ids)
    by true true e rest = refl
    by true false e rest = absurd (cc)
    by false true e rest = absurd (cc)
    by false false e rest = rest

-- ---- all of them

held_same : (target : Option ResourceTable) (foreign : Foreign) (work : Written) (rows : List Row)
    → IsAscending row_cmp work.changed → IsAscending row_cmp rows → holds_in target foreign rows ≡ true
    → target_checked target foreign (alone work) ≡ target_checked target foreign (worked_on rows work)
held_same None foreign work rows up_changed up_rows intact = refl
held_same (Some target) foreign work rows up_changed up_rows intact =
    foreign_same foreign.fields target.table.schema.key target.table.rows work.changed rows 1 work.written
    up_changed up_rows intact

links_same : (beside : List ResourceTable) (t : ResourceTable) (work : Written) (index : ℕ) (foreigns : List Foreign)
    → IsAscending row_cmp work.changed → IsAscending row_cmp t.table.rows
    → links_hold beside t index foreigns ≡ true
    → in_turn (link_checked beside t (alone work)) index foreigns tt
    ≡ in_turn (link_checked beside t (worked_on t.table.rows work)) index foreigns tt
links_same beside t work index [] up_changed up_rows intact = refl
links_same beside t work index (foreign ∷ foreigns) up_changed up_rows intact =
    let parts = both_hold (is_self foreign || holds_in (target_of beside t index) foreign t.table.rows)
    (links_hold beside t (index + 1) foreigns) intact in
    by (is_self foreign) parts.0 (links_same beside t work (index + 1) foreigns up_changed up_rows parts.1)
  where
    after : (r s : Result (Unit {0}) TableFault) → r ≡ s
        → in_turn (link_checked beside t (alone work)) (index + 1) foreigns tt
        ≡ in_turn (link_checked beside t (worked_on t.table.rows work)) (index + 1) foreigns tt
        → (r >>> in_turn (link_checked beside t (alone work)) (index + 1) foreigns)
        ≡ (s >>> in_turn (link_checked beside t (worked_on t.table.rows work)) (index + 1) foreigns)
    after (Ok u) (Ok v) e rest = rest
    after (Ok u) (Err f) e rest = absurd (cc)
    after (Err f) (Ok v) e rest = absurd (cc)
    after (Err f) (Err g) e rest = let same : f ≡ g = cc in ap Err same

    by : (self : Bool) → (self || holds_in (target_of beside t index) foreign t.table.rows) ≡ true
        → in_turn (link_checked beside t (alone work)) (index + 1) foreigns tt
        ≡ in_turn (link_checked beside t (worked_on t.table.rows work)) (index + 1) foreigns tt
        → ((if self then Ok tt else target_checked (target_of beside t index) foreign (alone work))
        >>> in_turn (link_checked beside t (alone work)) (index + 1) foreigns)
        ≡ ((if self then Ok tt else target_checked (target_of beside t index) foreign (worked_on t.table.rows work))
        >>> in_turn (link_checked beside t (worked_on t.table.rows work)) (index + 1) foreigns)
    by true holds rest = rest
    by false holds rest =
        after (target_checked (target_of beside t index) foreign (alone work))
        (target_checked (target_of beside t index) foreign (worked_on t.table.rows work))
        (held_same (target_of beside t index) foreign work t.table.rows up_changed up_rows holds) rest

-- The check of the rows that the batch writes has the result of the check of its whole table.
pub put_result : (beside : List ResourceTable) (t : ResourceTable) (method : Method) (records : List Json)
    (work : Written) → IsAscending row_cmp work.changed → IsAscending row_cmp t.table.rows
    → is_linked beside t ≡ true → put_records method records t.table ≡ Ok (worked_on t.table.rows work)
    → put_among beside method records t
    ≡ (links_checked beside t (alone work) >>> λ _. Ok (worked_on t.table.rows work))
put_result beside t method records work up_changed up_rows linked made =
    ap (λ r. r >>> λ worked. (links_checked beside t worked >>> λ _. Ok worked)) made
    ∙ ap (λ r. r >>> λ _. Ok (worked_on t.table.rows work))
    (sym (links_same beside t work 0 t.table.schema.foreign up_changed up_rows linked))

-- A batch and a removal keep keys and unique values distinct.
use Rattle.std.proofs.Common.{◌≡◌, ◌∙◌, ℕ, ◌+◌, Bool, true, false, ◌&&◌, ◌||◌, not, List, [], ◌∷◌, map, Option, Some}
use Rattle.std.proofs.Common.{None, Ok, Err}
use Rattle.std.proofs.Common.{ap, ap₂, refl, subst, sym, if◌then◌else◌, slice_get, unwrap_or, Result, arith, ◌==◌, find}
use Rattle.std.proofs.Common.{filter}
use Rattle.std.proofs.lemmas.Bool.Decides.{nat_tests}
use Rattle.std.specs.List.{list_any}
use Rattle.lexical_forms.specs.Digits.{is_empty}
use Rattle.portal_base.specs.declared.json_value.Json.{Json}
use Rattle.portal_base.specs.Json.{member_of}
use Rattle.portal_base.specs.Ordered.{IsAscending, upserted}
use Rattle.portal_base.proofs.Inserted.{both_false}
use Rattle.portal_base.proofs.Upserted.{IsAscending-upserted}
use Rattle.portal_base.proofs.Unique.{IsIn}
use Rattle.portal_base.proofs.Filtered.{IsAscending-filter}
use Rattle.table_schema.specs.declared.cell.Cell.{Cell}
use Rattle.table_schema.specs.declared.cell.Cell.TheVariants as cell
use Rattle.table_schema.specs.Field.{FieldValue, SchemaValue}
use Rattle.table_schema.specs.Order.{same_cell}
use Rattle.datastore_table.specs.declared.fault.TableFault.{TableFault}
use Rattle.datastore_table.specs.declared.fault.TableFault.TheVariants as fault
use Rattle.datastore_table.specs.declared.method.Method.{Method}
use Rattle.datastore_table.specs.declared.method.Method.TheVariants as method
use Rattle.datastore_table.specs.declared.row.Row.{Row}
use Rattle.datastore_table.specs.Batch.{cut_rows, is_among}
use Rattle.datastore_table.specs.Cells.{cell_at, cells_at, has_null, has_null_at, is_null}
use Rattle.datastore_table.specs.Meets.{are_apart, has_cell_of, has_key_of, keys_apart, uniques_apart}
use Rattle.datastore_table.specs.Put.{Worked, id_of, kept_cells, put_record, row_id, validated_record, unique_fault}
use Rattle.datastore_table.specs.Put.{with_cells}
use Rattle.datastore_table.specs.Put.{written_row}
use Rattle.datastore_table.specs.Record.{cell_reading, cells_reading, field_reading, kept_at, key_cell, key_cell_in}
use Rattle.datastore_table.specs.Record.{key_of, value_or_null}
use Rattle.datastore_table.specs.Results.{in_turn}
use Rattle.datastore_table.specs.Rows.{has_cells, has_id, is_other, is_taken, row_cmp, row_cmp_total, row_with}
use Rattle.datastore_table.specs.Rows.{takes_cell}
use Rattle.datastore_table.proofs.AcceptLemmas.{cell-ok}
use Rattle.datastore_table.proofs.KeyLemmas.{any-in, are_one, cell_turned, each-at, key_new, key_turned, none-at}
use Rattle.datastore_table.proofs.KeyLemmas.{one-filter, one-placed, one_apart, read_key, true_false}
use Rattle.datastore_table.proofs.Merged.{found-least}
use Rattle.datastore_table.proofs.PutLemmas.{validated_against-parts}
use Rattle.datastore_table.proofs.ResultLemmas.{bound-ok}
use Rattle.datastore_table.proofs.RowLemmas.{both_hold, not_both}

or_true : (b : Bool) → (b || true) ≡ true
or_true true = refl
or_true false = refl

pub any_map : {A B : Type 0} (f : A → B) (p : B → Bool) (xs : List A)
    → list_any p (map f xs) ≡ list_any (λ x. p (f x)) xs
any_map f p [] = refl
any_map f p (x ∷ xs) = ap (λ b. p (f x) || b) (any_map f p xs)

-- ---- the key of a record is that of its cells

own_cell : (number : ℕ) (fields : List FieldValue) (kept : Option (List Cell)) (given : Json) (cells : List Cell)
    → cells_reading number fields kept given ≡ Ok cells → (p : ℕ) → is_null (cell_at cells p) ≡ false
    → (is_null (key_cell fields given p) ≡ true → kept ≡ None) → key_cell fields given p ≡ cell_at cells p
own_cell number fields kept given cells h p some alone = by (slice_get fields p) refl
  where
    by : (o : Option FieldValue) → slice_get fields p ≡ o → key_cell fields given p ≡ cell_at cells p
    by None e =
        let gone : slice_get cells p ≡ None = none-at (cell_reading number kept given) 0 fields cells h p e in
        let null : is_null (cell_at cells p) ≡ true = ap (λ o. is_null (unwrap_or o cell.Null)) gone in
        true_false (is_null (cell_at cells p)) null some
    by (Some field) e =
        let at = each-at (cell_reading number kept given) 0 fields cells h p field e in
        let value = member_of field.name given in
        let here : cell_at cells p ≡ at.0 = ap (λ o. unwrap_or o cell.Null) at.1 in
        let read : field_reading field (kept_at kept (0 + p)) value ≡ Ok at.0 =
        cell-ok number field (field_reading field (kept_at kept (0 + p)) value) at.0 at.2 in
        let none : value ≡ None → kept_at kept (0 + p) ≡ None =
        λ v. ap (λ k. kept_at k (0 + p))
        (alone (ap (λ o. is_null (key_cell_in o given)) e ∙ ap (λ o. is_null (value_or_null field o)) v)) in
        ap (λ o. key_cell_in o given) e
        ∙ read_key field (kept_at kept (0 + p)) value at.0 none read (ap is_null (sym here) ∙ some) ∙ sym here

pub own_key : (number : ℕ) (fields : List FieldValue) (kept : Option (List Cell)) (given : Json) (cells : List Cell)
    → cells_reading number fields kept given ≡ Ok cells → (key : List ℕ) → has_null_at key cells ≡ false
    → (has_null (map (key_cell fields given) key) ≡ true → kept ≡ None)
    → map (key_cell fields given) key ≡ cells_at key cells
own_key number fields kept given cells h [] full alone = refl
own_key number fields kept given cells h (p ∷ key) full alone =
    let parts = both_false (is_null (cell_at cells p)) (has_null_at key cells) full in
    ap₂ (λ c cs. c ∷ cs)
    (own_cell number fields kept given cells h p parts.0
    (λ n. alone (ap (λ b. b || has_null (map (key_cell fields given) key)) n)))
    (own_key number fields kept given cells h key parts.1
    (λ n. alone (ap (λ b. is_null (key_cell fields given p) || b) n ∙ or_true (is_null (key_cell fields given p)))))

pub keeps_none : (taken : Method) (key : List ℕ) (own : List Cell) (rows : List Row) → has_null own ≡ true
    → kept_cells taken (row_with key own rows) ≡ None
keeps_none taken key own rows null = ap (kept_cells taken) gone ∙ by taken
  where
    gone : row_with key own rows ≡ None
    gone = ap (λ b. if is_empty key || b then None else find (has_cells key own) rows) null
        ∙ ap (λ b. if b then None else find (has_cells key own) rows) (or_true (is_empty key))

    by : (m : Method) → kept_cells m None ≡ None
    by method.Insert = refl
    by method.Upsert = refl
    by method.Update = refl

-- A row that is found by a key is one of the rows and has the key.
pub found-with : (key : List ℕ) (own : List Cell) (rows : List Row) (r : Row) → IsAscending row_cmp rows
    → row_with key own rows ≡ Some r → IsIn r rows × (has_cells key own r ≡ true)
found-with key own rows r up e = by (is_empty key || has_null own) e
  where
    by : (b : Bool) → (if b then None else find (has_cells key own) rows) ≡ Some r
        → IsIn r rows × (has_cells key own r ≡ true)
    by true s = absurd (cc)
    by false s =
        let least = found-least row_cmp row_cmp_total (has_cells key own) r rows up s in
        (least.is_there, least.passes)

-- ---- keys

pub put_record-keys : (method : Method) (schema : SchemaValue) (number : ℕ) (given : Json) (work after : Worked)
    → IsAscending row_cmp work.rows → keys_apart schema.key work.rows ≡ true
    → put_record method schema number given work ≡ Ok after → keys_apart schema.key after.rows ≡ true
put_record-keys method schema number given work after up apart h = by (is_empty schema.key) refl
  where
    own : List Cell
    own = key_of schema given

    alike : (p q : Worked) → ◌≡◌ {A = Result Worked TableFault} (Ok p) (Ok q) → p ≡ q
    alike p q e = cc

    by : (b : Bool) → is_empty schema.key ≡ b → keys_apart schema.key after.rows ≡ true
    by true e = ap (λ b. b || are_apart (has_key_of schema.key) after.rows) e
    by false e =
        let validated = bound-ok (validated_record method schema number given work.rows)
        (λ (t : Option ℕ × List Cell). Ok (with_cells t.0 t.1 work)) after h in
        let cells = validated.0.1 in
        let parts = validated_against-parts method schema number given (row_with schema.key own work.rows) work.rows
        validated.0
        validated.1 in
        let is_own : own ≡ cells_at schema.key cells =
        own_key number schema.fields (kept_cells method (row_with schema.key own work.rows)) given cells parts.cells
        schema.key parts.key (keeps_none method schema.key own work.rows) in
        let full : has_null (cells_at schema.key cells) ≡ false =
        any_map (cell_at cells) is_null schema.key ∙ parts.key in
        let was : are_apart (has_key_of schema.key) work.rows ≡ true =
        ap (λ b. b || are_apart (has_key_of schema.key) work.rows) (sym e) ∙ apart in
        let one = are_one (has_key_of schema.key) (key_turned schema.key) work.rows was in
        let id : validated.0.0 ≡ id_of (row_with schema.key (cells_at schema.key cells) work.rows) =
        parts.id ∙ ap (λ cs. id_of (row_with schema.key cs work.rows)) is_own in
        let row = written_row (row_id validated.0.0 work.next_id) cells in
        let new : (b : Row) → IsIn b work.rows → has_key_of schema.key row b ≡ true → b.id ≡ row.id =
        λ b m like. key_new schema.key cells work.next_id work.rows up one e full b m like
        ∙ ap (λ i. row_id i work.next_id) (sym id) in
        let now = one_apart (has_key_of schema.key) (upserted row_cmp row work.rows)
        (IsAscending-upserted row_cmp row_cmp_total row work.rows up)
        (one-placed (has_key_of schema.key) (key_turned schema.key) row work.rows one new) in
        let made : with_cells validated.0.0 cells work ≡ after = alike (with_cells validated.0.0 cells work) after
        validated.2 in
        ap (λ b. b || are_apart (has_key_of schema.key) after.rows) e
        ∙ subst (λ (w : Worked). are_apart (has_key_of schema.key) w.rows ≡ true) made now

-- ---- unique values

-- If no other row has a cell, each row that has it has the same `_id`.
value_new : (except : Option ℕ) (next_id column : ℕ) (cells : List Cell) (rows : List Row)
    → is_taken except column (cell_at cells column) rows ≡ false → (b : Row) → IsIn b rows
    → has_cell_of column (written_row (row_id except next_id) cells) b ≡ true → b.id ≡ row_id except next_id
value_new except next_id column cells rows free b m like = by except refl
  where
    c : Cell
    c = cell_at cells column

    halves : (not (is_null c) ≡ true) × (same_cell (cell_at b.cells column) c ≡ true)
    halves = both_hold (not (is_null c)) (same_cell (cell_at b.cells column) c) like

    none : takes_cell except column c b ≡ false
    none = any-in (takes_cell except column c) rows
        (not_both (not (is_null c)) (list_any (takes_cell except column c) rows) free halves.0) b m

    same_one : (x y : Bool) → (x && y) ≡ false → y ≡ true → x ≡ false
    same_one true y h t = true_false y t h
    same_one false y h t = refl

    is_same : is_other except b ≡ false
    is_same = same_one (is_other except b) (same_cell (cell_at b.cells column) c) none halves.1

    not_false : (x : Bool) → not x ≡ false → x ≡ true
    not_false true h = refl
    not_false false h = absurd (cc)

    same_id : (i : ℕ) → (b.id == i) ≡ true → b.id ≡ i
    same_id i h = grind (arith, nat_tests)

    by : (o : Option ℕ) → except ≡ o → b.id ≡ row_id except next_id
    by None e = true_false (is_other except b) (ap (λ x. is_other x b) e) is_same
    by (Some i) e =
        same_id i (not_false (has_id i b) (sym (ap (λ x. is_other x b) e) ∙ is_same))
        ∙ sym (ap (λ x. row_id x next_id) e)

free_of : (number : ℕ) (except : Option ℕ) (cells : List Cell) (rows : List Row) (column : ℕ) (field : FieldValue)
    (u : Unit {0}) → unique_fault number except cells rows column field tt ≡ Ok u → field.constraints.unique ≡ true
    → is_taken except column (cell_at cells column) rows ≡ false
free_of number except cells rows column field u h unique = by (is_taken except column (cell_at cells column) rows) refl
  where
    by : (b : Bool) → is_taken except column (cell_at cells column) rows ≡ b
        → is_taken except column (cell_at cells column) rows ≡ false
    by true e =
        let refused : unique_fault number except cells rows column field tt ≡ Err (fault.Unique number field.name) =
        rw (unique, e) refl in
        absurd (cc)
    by false e = e

uniques-placed : (number : ℕ) (except : Option ℕ) (next_id : ℕ) (cells : List Cell) (rows : List Row)
    → IsAscending row_cmp rows → (column : ℕ) (fields : List FieldValue) → uniques_apart column fields rows ≡ true
    → in_turn (unique_fault number except cells rows) column fields tt ≡ Ok tt
    → uniques_apart column fields (upserted row_cmp (written_row (row_id except next_id) cells) rows) ≡ true
uniques-placed number except next_id cells rows up column [] apart h = refl
uniques-placed number except next_id cells rows up column (field ∷ fields) apart h =
    let parts = both_hold (not field.constraints.unique || are_apart (has_cell_of column) rows)
    (uniques_apart (column + 1) fields rows) apart in
    let first = bound-ok (unique_fault number except cells rows column field tt)
    (in_turn (unique_fault number except cells rows) (column + 1) fields) tt h in
    let later = uniques-placed number except next_id cells rows up (column + 1) fields parts.1 first.2 in
    rw (by field.constraints.unique refl parts.0 first.0 first.1, later) refl
  where
    row : Row
    row = written_row (row_id except next_id) cells

    by : (b : Bool) → field.constraints.unique ≡ b
        → (not field.constraints.unique || are_apart (has_cell_of column) rows) ≡ true → (u : Unit {0})
        → unique_fault number except cells rows column field tt ≡ Ok u
        → (not field.constraints.unique || are_apart (has_cell_of column) (upserted row_cmp row rows)) ≡ true
    by false e was u free = ap (λ b. not b || are_apart (has_cell_of column) (upserted row_cmp row rows)) e
    by true e was u free =
        let were : are_apart (has_cell_of column) rows ≡ true =
        ap (λ b. not b || are_apart (has_cell_of column) rows) (sym e) ∙ was in
        ap (λ b. not b || are_apart (has_cell_of column) (upserted row_cmp row rows)) e
        ∙ one_apart (has_cell_of column) (upserted row_cmp row rows)
        (IsAscending-upserted row_cmp row_cmp_total row rows up)
        (one-placed (has_cell_of column) (cell_turned column) row rows
        (are_one (has_cell_of column) (cell_turned column) rows were)
        (value_new except next_id column cells rows (free_of number except cells rows column field u free e)))

pub put_record-uniques : (method : Method) (schema : SchemaValue) (number : ℕ) (given : Json) (work after : Worked)
    → IsAscending row_cmp work.rows → uniques_apart 0 schema.fields work.rows ≡ true
    → put_record method schema number given work ≡ Ok after → uniques_apart 0 schema.fields after.rows ≡ true
put_record-uniques method schema number given work after up apart h =
    let validated = bound-ok (validated_record method schema number given work.rows)
    (λ (t : Option ℕ × List Cell). Ok (with_cells t.0 t.1 work)) after h in
    let row = row_with schema.key (key_of schema given) work.rows in
    let parts = validated_against-parts method schema number given row work.rows validated.0 validated.1 in
    let made : with_cells (id_of row) validated.0.1 work ≡ after =
    ap (λ i. with_cells i validated.0.1 work) (sym parts.id)
    ∙ alike (with_cells validated.0.0 validated.0.1 work) after validated.2 in
    subst (λ (w : Worked). uniques_apart 0 schema.fields w.rows ≡ true) made
    (uniques-placed number (id_of row) work.next_id validated.0.1 work.rows up 0 schema.fields apart parts.apart)
  where
    alike : (p q : Worked) → ◌≡◌ {A = Result Worked TableFault} (Ok p) (Ok q) → p ≡ q
    alike p q e = cc

-- ---- deletion

filter-apart : (like : Row → Row → Bool) → ((a b : Row) → like a b ≡ true → like b a ≡ true) → (keeps : Row → Bool)
    (rows : List Row) → IsAscending row_cmp rows → are_apart like rows ≡ true
    → are_apart like (filter keeps rows) ≡ true
filter-apart like turned keeps rows up apart =
    one_apart like (filter keeps rows) (IsAscending-filter row_cmp keeps rows up)
    (one-filter like keeps rows (are_one like turned rows apart))

either : (a b c : Bool) → (b ≡ true → c ≡ true) → (a || b) ≡ true → (a || c) ≡ true
either true b c more h = refl
either false b c more h = more h

pub delete-keys : (key ids : List ℕ) (rows : List Row) → IsAscending row_cmp rows → keys_apart key rows ≡ true
    → keys_apart key (cut_rows ids rows) ≡ true
delete-keys key ids rows up apart =
    either (is_empty key) (are_apart (has_key_of key) rows) (are_apart (has_key_of key) (cut_rows ids rows))
    (filter-apart (has_key_of key) (key_turned key) (λ row. not (is_among ids row.id)) rows up) apart

pub delete-uniques : (column : ℕ) (fields : List FieldValue) (ids : List ℕ) (rows : List Row) → IsAscending row_cmp rows
    → uniques_apart column fields rows ≡ true → uniques_apart column fields (cut_rows ids rows) ≡ true
delete-uniques column [] ids rows up apart = refl
delete-uniques column (field ∷ fields) ids rows up apart =
    let parts = both_hold (not field.constraints.unique || are_apart (has_cell_of column) rows)
    (uniques_apart (column + 1) fields rows) apart in
    let first = either (not field.constraints.unique) (are_apart (has_cell_of column) rows)
    (are_apart (has_cell_of column) (cut_rows ids rows))
    (filter-apart (has_cell_of column) (cell_turned column) (λ row. not (is_among ids row.id)) rows up) parts.0 in
    rw (first, delete-uniques (column + 1) fields ids rows up parts.1) refl

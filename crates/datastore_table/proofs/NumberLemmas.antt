-- The `_id`s of rows stay in order and below the next one.
use Rattle.std.proofs.Common.{◌≡◌, ◌∙◌, ◌<◌, ◌≤◌, ℕ, ◌+◌, Bool, true, false, ◌||◌, cond, List, [], ◌∷◌, filter, Option}
use Rattle.std.proofs.Common.{Some, None, find}
use Rattle.std.proofs.Common.{Result, Ok, ap, refl, subst, sym, arith, if◌then◌else◌}
use Rattle.std.specs.Ordering.{is_lt}
use Rattle.lexical_forms.specs.Digits.{is_empty}
use Rattle.portal_base.specs.declared.json_value.Json.{Json}
use Rattle.portal_base.specs.Ordered.{dropped, inserted, upserted}
use Rattle.portal_base.proofs.Filtered.{IsAscending-filter}
use Rattle.portal_base.proofs.Upserted.{IsAscending-upserted}
use Rattle.table_schema.specs.declared.cell.Cell.{Cell}
use Rattle.table_schema.specs.Field.{SchemaValue}
use Rattle.datastore_table.specs.declared.fault.TableFault.{TableFault}
use Rattle.datastore_table.specs.declared.method.Method.{Method}
use Rattle.datastore_table.specs.declared.row.Row.{Row}
use Rattle.datastore_table.specs.Batch.{cut_rows}
use Rattle.datastore_table.specs.Cells.{has_null}
use Rattle.datastore_table.specs.Put.{Worked, id_of, put_record}
use Rattle.datastore_table.specs.Put.{validated_record, with_cells, written_row}
use Rattle.datastore_table.specs.Record.{key_of}
use Rattle.datastore_table.specs.Rows.{has_cells, row_cmp, row_cmp_total, row_with}
use Rattle.datastore_table.specs.Table.{AreWithin, IsNumbered}
use Rattle.datastore_table.proofs.ResultLemmas.{bound-ok}
use Rattle.datastore_table.proofs.PutLemmas.{validated_against-parts}

AreWithin-filter : (n : ℕ) (p : Row → Bool) (rows : List Row) → AreWithin n rows → AreWithin n (filter p rows)
AreWithin-filter n p [] within = tt
AreWithin-filter n p (row ∷ rows) within = by (AreWithin-filter n p rows within.2) (p row)
  where
    by : AreWithin n (filter p rows) → (b : Bool) → AreWithin n (cond b (row ∷ filter p rows) (filter p rows))
    by rest true = (within.0, within.1, rest)
    by rest false = rest

AreWithin-inserted : (n : ℕ) (row : Row) (rows : List Row) → 1 ≤ row.id → row.id < n → AreWithin n rows
    → AreWithin n (inserted row_cmp row rows)
AreWithin-inserted n row [] low high within = (low, high, tt)
AreWithin-inserted n row (r ∷ rows) low high within =
    by (AreWithin-inserted n row rows low high within.2) (is_lt (row_cmp r row))
  where
    by : AreWithin n (inserted row_cmp row rows) → (b : Bool)
        → AreWithin n (cond b (r ∷ inserted row_cmp row rows) (row ∷ r ∷ rows))
    by rest true = (within.0, within.1, rest)
    by rest false = (low, high, within)

AreWithin-more : (n : ℕ) (rows : List Row) → AreWithin n rows → AreWithin (n + 1) rows
AreWithin-more n [] within = tt
AreWithin-more n (row ∷ rows) within = (within.0, omega (arith, within.1), AreWithin-more n rows within.2)

found-within : (n : ℕ) (p : Row → Bool) (r : Row) (rows : List Row) → AreWithin n rows → find p rows ≡ Some r
    → (1 ≤ r.id) × (r.id < n)
found-within n p r [] within h = absurd (cc)
found-within n p r (row ∷ rows) within h = by (found-within n p r rows within.2) (p row) h
  where
    by : (find p rows ≡ Some r → (1 ≤ r.id) × (r.id < n)) → (b : Bool) → cond b (Some row) (find p rows) ≡ Some r
        → (1 ≤ r.id) × (r.id < n)
    by more true s =
        let same : row ≡ r = cc in
        subst (λ (x : Row). (1 ≤ x.id) × (x.id < n)) same (within.0, within.1)
    by more false s = more s

IsNumbered-placed : (rows : List Row) (n m : ℕ) (row : Row) → IsNumbered rows n → 1 ≤ row.id → row.id < m → n ≤ m
    → AreWithin m rows → IsNumbered (upserted row_cmp row rows) m
IsNumbered-placed rows n m row numbered low high more within = record {
  ascending = IsAscending-upserted row_cmp row_cmp_total row rows numbered.ascending;
  within = AreWithin-inserted m row (dropped (λ r. row_cmp r row) rows) low high (AreWithin-filter m _ rows within);
  next = omega (arith, numbered.next);
}

-- The remaining rows after a deletion are numbered.
pub IsNumbered-delete : (ids : List ℕ) (rows : List Row) (n : ℕ) → IsNumbered rows n → IsNumbered (cut_rows ids rows) n
IsNumbered-delete ids rows n numbered = record {
  ascending = IsAscending-filter row_cmp _ rows numbered.ascending;
  within = AreWithin-filter n _ rows numbered.within;
  next = numbered.next;
}

with_cells-numbered : (work : Worked) (row : Option Row) (cells : List Cell) → IsNumbered work.rows work.next_id
    → ((r : Row) → row ≡ Some r → (1 ≤ r.id) × (r.id < work.next_id))
    → IsNumbered (with_cells (id_of row) cells work).rows (with_cells (id_of row) cells work).next_id
with_cells-numbered work None cells numbered within =
    IsNumbered-placed work.rows work.next_id (work.next_id + 1) (written_row work.next_id cells) numbered numbered.next
    (omega arith) (omega arith) (AreWithin-more work.next_id work.rows numbered.within)
with_cells-numbered work (Some r) cells numbered within =
    let inside = within r refl in
    IsNumbered-placed work.rows work.next_id work.next_id (written_row r.id cells) numbered inside.0 inside.1
    (omega arith) numbered.within

row_with-within : (n : ℕ) (key : List ℕ) (cells : List Cell) (rows : List Row) → AreWithin n rows → (r : Row)
    → row_with key cells rows ≡ Some r → (1 ≤ r.id) × (r.id < n)
row_with-within n key cells rows within r h = by (is_empty key || has_null cells) h
  where
    by : (b : Bool) → (if b then None else find (has_cells key cells) rows) ≡ Some r → (1 ≤ r.id) × (r.id < n)
    by true s = absurd (cc)
    by false s = found-within n (has_cells key cells) r rows within s

-- A record leaves the rows numbered.
pub put_record-numbered : (method : Method) (schema : SchemaValue) (number : ℕ) (given : Json) (work after : Worked)
    → IsNumbered work.rows work.next_id → put_record method schema number given work ≡ Ok after
    → IsNumbered after.rows after.next_id
put_record-numbered method schema number given work after numbered h =
    let row = row_with schema.key (key_of schema given) work.rows in
    let validated = bound-ok (validated_record method schema number given work.rows)
    (λ (t : Option ℕ × List Cell). Ok (with_cells t.0 t.1 work)) after h in
    let id : validated.0.0
    ≡ id_of row = (validated_against-parts method schema number given row work.rows validated.0 validated.1).id in
    let made : with_cells (id_of row) validated.0.1 work ≡ after =
    ap (λ i. with_cells i validated.0.1 work) (sym id) ∙ same (with_cells validated.0.0 validated.0.1 work) after
    validated.2 in
    subst (λ (w : Worked). IsNumbered w.rows w.next_id) made
    (with_cells-numbered work row validated.0.1 numbered
    (row_with-within work.next_id schema.key (key_of schema given) work.rows numbered.within))
  where
    R : Type 0
    R = Result Worked TableFault

    same : (p q : Worked) → ◌≡◌ {A = R} (Ok p) (Ok q) → p ≡ q
    same p q e = cc

-- What is known of a batch that isn't refused, and what it preserves.
use Rattle.std.proofs.Common.{◌≡◌, ℕ, ◌+◌, Bool, true, false, List, [], ◌∷◌, Option, Result, Ok, refl, subst}
use Rattle.portal_base.specs.declared.json_value.Json.{Json}
use Rattle.table_schema.specs.declared.cell.Cell.{Cell}
use Rattle.table_schema.specs.Field.{SchemaValue}
use Rattle.datastore_table.specs.declared.fault.TableFault.{TableFault}
use Rattle.datastore_table.specs.declared.method.Method.{Method}
use Rattle.datastore_table.specs.declared.row.Row.{Row}
use Rattle.datastore_table.specs.Cells.{has_null_at}
use Rattle.datastore_table.specs.Put.{Worked, admitted, begun, checked, id_of, kept_cells, key_fault, missing_fault}
use Rattle.datastore_table.specs.Put.{put_from, put_record, put_records, with_self_references, validated_against}
use Rattle.datastore_table.specs.Put.{unique_fault}
use Rattle.datastore_table.specs.Put.{unknown_fault}
use Rattle.datastore_table.specs.Record.{cells_reading, unknown_in}
use Rattle.datastore_table.specs.References.{self_references_checked}
use Rattle.datastore_table.specs.Results.{◌>>>◌, in_turn}
use Rattle.datastore_table.specs.Table.{TableValue}
use Rattle.datastore_table.proofs.ResultLemmas.{bound-ok}

-- The facts about a record without a fault.
pub record IsValidated (method : Method) (schema : SchemaValue) (number : ℕ) (given : Json) (row : Option Row)
    (rows : List Row) (t : Option ℕ × List Cell) : Type 0 where
  pub id : t.0 ≡ id_of row
  pub cells : cells_reading number schema.fields (kept_cells method row) given ≡ Ok t.1
  pub key : has_null_at schema.key t.1 ≡ false
  pub fits : key_fault method number row ≡ Ok tt
  pub apart : in_turn (unique_fault number (id_of row) t.1 rows) 0 schema.fields tt ≡ Ok tt

held : (number : ℕ) (b : Bool) (u : Unit {0}) → missing_fault number b ≡ Ok u → b ≡ false
held number true u h = absurd (cc)
held number false u h = refl

pub validated_against-parts : (method : Method) (schema : SchemaValue) (number : ℕ) (given : Json) (row : Option Row)
    (rows : List Row) (t : Option ℕ × List Cell) → validated_against method schema number given row rows ≡ Ok t
    → IsValidated method schema number given row rows t
validated_against-parts method schema number given row rows t h =
    let read = bound-ok (cells_reading number schema.fields (kept_cells method row) given)
    (λ cells. checked method schema number given row rows cells >>> λ _. Ok (id_of row, cells)) t h in
    let passed = bound-ok (checked method schema number given row rows read.0) (λ _. Ok (id_of row, read.0)) t read.2 in
    let known = bound-ok (unknown_fault number (unknown_in schema.fields given))
    (λ _. missing_fault number (has_null_at schema.key read.0) >>> λ _.
    (key_fault method number row >>> λ _. in_turn (unique_fault number (id_of row) read.0 rows) 0 schema.fields tt))
    passed.0 passed.1 in
    let keyed = bound-ok (missing_fault number (has_null_at schema.key read.0))
    (λ _. key_fault method number row >>> λ _. in_turn (unique_fault number (id_of row) read.0 rows) 0 schema.fields tt)
    passed.0 known.2 in
    let fit = bound-ok (key_fault method number row)
    (λ _. in_turn (unique_fault number (id_of row) read.0 rows) 0 schema.fields tt) passed.0 keyed.2 in
    let same : (id_of row, read.0) ≡ t = alike (id_of row, read.0) t passed.2 in
    subst (IsValidated method schema number given row rows) same (record {
      id = refl;
      cells = read.1;
      key = held number (has_null_at schema.key read.0) keyed.0 keyed.1;
      fits = fit.1;
      apart = fit.2;
    })
  where
    R : Type 0
    R = Result (Option ℕ × List Cell) TableFault

    alike : (p q : Option ℕ × List Cell) → ◌≡◌ {A = R} (Ok p) (Ok q) → p ≡ q
    alike p q e = cc

-- A batch preserves what each record preserves.
put_from-keeps : (method : Method) (schema : SchemaValue) (P : Worked → Type 0)
    → ((number : ℕ) (given : Json) (work next : Worked) → P work → put_record method schema number given work ≡ Ok next
    → P next) → (number : ℕ) (records : List Json) (work after : Worked) → P work
    → put_from method schema number records work ≡ Ok after → P after
put_from-keeps method schema P step number [] work after kept h =
    let same : work ≡ after = cc in
    subst P same kept
put_from-keeps method schema P step number (given ∷ records) work after kept h =
    let first = bound-ok (put_record method schema number given work)
    (in_turn (put_record method schema) (number + 1) records) after h in
    put_from-keeps method schema P step (number + 1) records first.0 after
    (step number given work first.0 kept first.1) first.2

-- After a batch that isn't refused, the rows have what each record preserves, and their self references were checked.
pub put_records-keeps : (method : Method) (records : List Json) (table : TableValue) (after : Worked)
    (P : Worked → Type 0) → ((number : ℕ) (given : Json) (work next : Worked) → P work
    → put_record method table.schema number given work ≡ Ok next → P next)
    → P (begun table.rows table.next_id) → put_records method records table ≡ Ok after
    → (u : Unit {0}) × P after × (self_references_checked table.schema after.rows after.written ≡ Ok u)
put_records-keeps method records table after P step start h =
    let admission = bound-ok (admitted method records table.schema table.rows)
    (λ _. put_from method table.schema 1 records (begun table.rows table.next_id) >>> with_self_references table.schema)
    after h in
    let put = bound-ok (put_from method table.schema 1 records (begun table.rows table.next_id))
    (with_self_references table.schema) after admission.2 in
    let held = bound-ok (self_references_checked table.schema put.0.rows put.0.written) (λ _. Ok put.0) after put.2 in
    let same : put.0 ≡ after = cc in (
      held.0,
      subst P same (put_from-keeps method table.schema P step 1 records
          (begun table.rows table.next_id) put.0 start put.1),
      subst (λ (w : Worked). self_references_checked table.schema w.rows w.written ≡ Ok held.0) same held.1,
    )

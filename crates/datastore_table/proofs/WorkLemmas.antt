-- What a batch writes, one record after another.
use Rattle.std.proofs.Common.{◌≡◌, ◌∙◌, ◌⊎◌, inl, inr, ℕ, ◌+◌, ◌<◌, List, [], ◌∷◌, ◌++◌, Option, Ok, Err, ap, ap₂, drop}
use Rattle.std.proofs.Common.{length, get_or, sym, subst, Result, IfErr, IsErrAnd}
use Rattle.std.proofs.Common.{Bool, true, false, ◌==◌, ◌&&◌, ◌||◌, not, cond, find, refl, Some, None}
use Rattle.std.specs.List.{list_any}
use Rattle.std.proofs.lemmas.List.Folds.{list_any-append}
use Rattle.portal_base.proofs.Inserted.{list_any-same}
use Rattle.portal_base.specs.Ordered.{IsAscending, upserted}
use Rattle.portal_base.specs.declared.json_value.Json.{Json}
use Rattle.table_schema.specs.declared.cell.Cell.{Cell}
use Rattle.table_schema.specs.Field.{SchemaValue}
use Rattle.datastore_table.specs.declared.fault.TableFault.{TableFault}
use Rattle.datastore_table.specs.declared.fault.TableFault.TheVariants.{OutOfMemory}
use Rattle.datastore_table.specs.declared.method.Method.{Method}
use Rattle.datastore_table.specs.declared.row.Row.{Row}
use Rattle.datastore_table.specs.Batch.{AreThoseOf, Written, is_among, worked_on}
use Rattle.datastore_table.specs.Put.{admitted, begun, put_records, with_self_references}
use Rattle.datastore_table.specs.Put.{Worked, next_after, put_from, put_record, row_id, with_cells, written_row}
use Rattle.datastore_table.specs.References.{self_references_checked}
use Rattle.datastore_table.specs.Results.{Answers, ◌>>>◌}
use Rattle.datastore_table.specs.Rows.{has_id, has_like, row_cmp, row_cmp_total, rows_after}
use Rattle.datastore_table.specs.Table.{TableValue}
use Rattle.datastore_table.proofs.Merged.{merged-placed}
use Rattle.datastore_table.proofs.ResultLemmas.{in_turn-next, in_turn-fault}
use Rattle.datastore_table.proofs.RowLemmas.{any_current, apart-test, unlike-at}

-- Writing a row puts it among the current rows.
pub worked-with_cells : (rows : List Row) → IsAscending row_cmp rows → (w v : Written) → IsAscending row_cmp w.changed
    → (id : Option ℕ) (cells : List Cell)
    → v.changed ≡ upserted row_cmp (written_row (row_id id w.next_id) cells) w.changed
    → v.next_id ≡ next_after id w.next_id → v.written ≡ w.written ++ row_id id w.next_id ∷ []
    → worked_on rows v ≡ with_cells id cells (worked_on rows w)
worked-with_cells rows ur w v uw id cells changed next written =
    rw (changed, next, written)
    (ap
    (λ (r : List Row). record {
      rows = r;
      next_id = next_after id w.next_id;
      written = w.written ++ row_id id w.next_id ∷ [];
    })
    (merged-placed row_cmp row_cmp_total (written_row (row_id id w.next_id) cells) w.changed rows uw ur))

or_true : (b : Bool) → (b || true) ≡ true
or_true true = refl
or_true false = refl

or_false : (b : Bool) → (b || false) ≡ b
or_false true = refl
or_false false = refl

-- If a row is put among rows with exactly these `_id`s, the rows have these `_id`s and that of the row.
pub AreThoseOf-placed : (row : Row) (ids : List ℕ) (rows : List Row) → IsAscending row_cmp rows
    → AreThoseOf ids rows → AreThoseOf (ids ++ row.id ∷ []) (upserted row_cmp row rows)
AreThoseOf-placed row ids rows up those id =
    any_current (has_id id) (row ∷ []) rows (tt, tt) up
    ∙ joined (has_id id row) (is_among ids id) (list_any others rows)
    (λ e. list_any-same others (has_id id) (λ z. apart-test id (row ∷ []) z (unlike-at id z (row ∷ []) (none e))) rows
    ∙ those id)
    ∙ sym (list_any-append (λ i. i == id) ids (row.id ∷ []))
  where
    others : Row → Bool
    others z = has_id id z && not (has_like (row ∷ []) z)

    none : has_id id row ≡ false → find (has_id id) (row ∷ []) ≡ None
    none e = ap (λ b. cond {A = Option Row} b (Some row) None) e

    joined : (own old rest : Bool) → (own ≡ false → rest ≡ old) → ((own || false) || rest) ≡ (old || (own || false))
    joined true old rest e = sym (or_true old)
    joined false old rest e = e refl ∙ sym (or_false old)

pub put_from-next : (method : Method) (schema : SchemaValue) (i : ℕ) (records : List Json) (given : Json) (w v : Worked)
    → i < length records → given ≡ get_or records i given → put_record method schema (i + 1) given w ≡ Ok v
    → put_from method schema (i + 1) (drop i records) w ≡ put_from method schema (i + 1 + 1) (drop (i + 1) records) v
put_from-next method schema i records given w v lt is e =
    in_turn-next (put_record method schema) (i + 1) i records given w v lt is e

pub put_from-fault : (method : Method) (schema : SchemaValue) (i : ℕ) (records : List Json) (given : Json) (w : Worked)
    (fault : TableFault) → i < length records → given ≡ get_or records i given
    → (fault ≡ OutOfMemory) ⊎ (put_record method schema (i + 1) given w ≡ Err fault)
    → (fault ≡ OutOfMemory) ⊎ (put_from method schema (i + 1) (drop i records) w ≡ Err fault)
put_from-fault method schema i records given w fault lt is (inl e) = inl e
put_from-fault method schema i records given w fault lt is (inr e) =
    inr (in_turn-fault (put_record method schema) (i + 1) i records given w fault lt is e)

-- A call returned the fault of a reading.
pub err_of : {A B : Type 0} (result : Result A TableFault) (fault : TableFault) (reading : Result B TableFault)
    → IsErrAnd result (λ e. e ≡ fault) → (fault ≡ OutOfMemory) ⊎ (reading ≡ Err fault)
    → IfErr result (λ e. (e ≡ OutOfMemory) ⊎ (reading ≡ Err e))
err_of (Ok x) fault reading e h = absurd e
err_of (Err given) fault reading e h = subst (λ f. (f ≡ OutOfMemory) ⊎ (reading ≡ Err f)) (sym e) h

-- Equal readings have the same fault.
pub through : {B : Type 0} (one other : Result B TableFault) (fault : TableFault) → one ≡ other
    → (fault ≡ OutOfMemory) ⊎ (other ≡ Err fault) → (fault ≡ OutOfMemory) ⊎ (one ≡ Err fault)
through one other fault e (inl h) = inl h
through one other fault e (inr h) = inr (e ∙ h)

-- A batch that is admitted and whose records were applied is refused exactly if a self reference breaks.
pub worked_is : (method : Method) (records : List Json) (table : TableValue) (one two three : SchemaValue)
    (rows changed : List Row) (next_id : ℕ) (written : List ℕ) (work : Written) (result : Result (Unit {0}) TableFault)
    → one ≡ table.schema → two ≡ table.schema → three ≡ table.schema → rows ≡ table.rows → next_id ≡ table.next_id
    → changed ≡ work.changed → written ≡ work.written → Answers (Ok tt) (admitted method records one rows)
    → put_from method two 1 records (begun rows next_id) ≡ Ok (worked_on rows work)
    → result ≡ self_references_checked three (rows_after changed rows) written
    → put_records method records table ≡ (result >>> λ _. Ok (worked_on table.rows work))
worked_is method records table one two three rows changed next_id written work result e1 e2 e3 er en ec ew admits puts
    checks =
    ap (λ a. a >>> λ _. (put_from method table.schema 1 records (begun table.rows table.next_id)
    >>> with_self_references table.schema)) (of_answer (admitted method records one rows) admits)
    ∙ ap (λ p. p >>> with_self_references table.schema) put
    ∙ ap (λ r. r >>> λ _. Ok (worked_on table.rows work)) (sym checked)
  where
    of_answer : (r : Result (Unit {0}) TableFault) → Answers (Ok tt) r → admitted method records table.schema table.rows
        ≡ Ok tt
    of_answer r (inl e) = absurd (cc)
    of_answer r (inr e) =
        ap₂ (λ s rs. admitted method records s rs) (sym e1) (sym er) ∙ known admits
      where
        known : Answers (Ok tt) (admitted method records one rows) → admitted method records one rows ≡ Ok tt
        known (inl h) = absurd (cc)
        known (inr h) = sym h

    put : put_from method table.schema 1 records (begun table.rows table.next_id) ≡ Ok (worked_on table.rows work)
    put =
        subst (λ (rs : List Row). put_from method table.schema 1 records (begun rs table.next_id)
        ≡ Ok (worked_on rs work)) er
        (ap₂ (λ s n. put_from method s 1 records (begun rows n)) (sym e2) (sym en) ∙ puts)

    checked : result ≡ self_references_checked table.schema (rows_after work.changed table.rows) work.written
    checked =
        checks ∙ ap₂ (λ s w. self_references_checked s (rows_after changed rows) w) e3 ew
        ∙ ap₂ (λ c rs. self_references_checked table.schema (rows_after c rs) work.written) ec er

-- Batches and removals keep a table valid.
use Rattle.std.proofs.Common.{◌≡◌, ℕ, Bool, true, false, ◌&&◌, not, cond, List, [], ◌∷◌, filter, find, Option, Some}
use Rattle.std.proofs.Common.{None, Ok}
use Rattle.std.proofs.Common.{Result, refl, subst, sym, All, if◌then◌else◌, ◌||◌, ◌+◌, arith, inl}
use Rattle.std.specs.List.{list_all}
use Rattle.std.specs.Ordering.{is_lt}
use Rattle.lexical_forms.specs.Digits.{is_empty}
use Rattle.portal_base.specs.declared.json_value.Json.{Json}
use Rattle.portal_base.specs.Ordered.{dropped, inserted, upserted}
use Rattle.table_schema.specs.declared.cell.Cell.{Cell}
use Rattle.table_schema.specs.Field.{FieldValue, SchemaValue}
use Rattle.datastore_table.specs.declared.fault.TableFault.{TableFault}
use Rattle.datastore_table.specs.declared.method.Method.{Method}
use Rattle.datastore_table.specs.declared.method.Method.TheVariants as method
use Rattle.datastore_table.specs.declared.row.Row.{Row}
use Rattle.datastore_table.specs.Batch.{delete_checked, cut_rows}
use Rattle.datastore_table.specs.References.{is_self}
use Rattle.datastore_table.specs.Table.{IsNumbered}
use Rattle.table_schema.specs.declared.foreign.Foreign.{Foreign}
use Rattle.datastore_table.specs.Cells.{has_null, has_null_at}
use Rattle.datastore_table.specs.Meets.{IsTable, are_accepted, is_accepted, is_numbered, keeps_self_reference}
use Rattle.datastore_table.specs.Meets.{is_restorable}
use Rattle.datastore_table.specs.Meets.{keys_apart, meets_schema}
use Rattle.datastore_table.specs.Meets.{row_meets, uniques_apart}
use Rattle.datastore_table.specs.Put.{Worked, begun, kept_cells, put_record, put_records, row_id, validated_record}
use Rattle.datastore_table.specs.Put.{with_cells, written_row}
use Rattle.datastore_table.specs.Record.{key_of}
use Rattle.datastore_table.specs.Rows.{has_cells, has_id, row_at, row_cmp, row_with}
use Rattle.datastore_table.specs.Table.{TableValue}
use Rattle.datastore_table.proofs.AcceptLemmas.{accepted-cells, accepted-value}
use Rattle.datastore_table.proofs.MeetLemmas.{numbered_from}
use Rattle.datastore_table.proofs.NumberLemmas.{IsNumbered-delete, put_record-numbered}
use Rattle.datastore_table.proofs.ReferenceLemmas.{KeepsKeys, Stems, delete-held, put_record-holds, put_record-stems}
use Rattle.datastore_table.proofs.ReferenceLemmas.{self_references-held}
use Rattle.datastore_table.proofs.ApartLemmas.{delete-keys, delete-uniques, put_record-keys, put_record-uniques}
use Rattle.std.proofs.lemmas.List.Elements.{All-cons, All-nil}
use Rattle.table_schema.specs.Printed.{IsValue}
use Rattle.datastore_table.proofs.PutLemmas.{put_records-keeps, validated_against-parts}
use Rattle.datastore_table.proofs.ResultLemmas.{bound-ok}
use Rattle.datastore_table.proofs.RowLemmas.{both_hold}

all-filter : {X : Type 0} (p q : X → Bool) (xs : List X) → list_all p xs ≡ true → list_all p (filter q xs) ≡ true
all-filter p q [] h = refl
all-filter p q (x ∷ xs) h =
    let parts = both_hold (p x) (list_all p xs) h in
    by parts.0 (all-filter p q xs parts.1) (q x)
  where
    by : p x ≡ true → list_all p (filter q xs) ≡ true → (b : Bool)
        → list_all p (cond b (x ∷ filter q xs) (filter q xs)) ≡ true
    by here rest true = rw (here, rest) refl
    by here rest false = rest

all-inserted : (p : Row → Bool) (row : Row) (rows : List Row) → p row ≡ true → list_all p rows ≡ true
    → list_all p (inserted row_cmp row rows) ≡ true
all-inserted p row [] here h = rw here refl
all-inserted p row (r ∷ rows) here h =
    let parts = both_hold (p r) (list_all p rows) h in
    by parts.0 parts.1 (all-inserted p row rows here parts.1) (is_lt (row_cmp r row))
  where
    by : p r ≡ true → list_all p rows ≡ true → list_all p (inserted row_cmp row rows) ≡ true → (b : Bool)
        → list_all p (cond b (r ∷ inserted row_cmp row rows) (row ∷ r ∷ rows)) ≡ true
    by first rest more true = rw (first, more) refl
    by first rest more false = rw (here, first, rest) refl

all-placed : (p : Row → Bool) (row : Row) (rows : List Row) → p row ≡ true → list_all p rows ≡ true
    → list_all p (upserted row_cmp row rows) ≡ true
all-placed p row rows here h = all-inserted p row (dropped (λ r. row_cmp r row) rows) here (all-filter p _ rows h)

all-found : {X : Type 0} (p q : X → Bool) (x : X) (xs : List X) → list_all p xs ≡ true → find q xs ≡ Some x → p x ≡ true
all-found p q x [] h e = absurd (cc)
all-found p q x (y ∷ ys) h e =
    let parts = both_hold (p y) (list_all p ys) h in
    by parts.0 (all-found p q x ys parts.1) (q y) e
  where
    by : p y ≡ true → (find q ys ≡ Some x → p x ≡ true) → (b : Bool) → cond b (Some y) (find q ys) ≡ Some x → p x ≡ true
    by here more true s = let same : y ≡ x = cc in subst (λ z. p z ≡ true) same here
    by here more false s = more s

all-row_with : (p : Row → Bool) (key : List ℕ) (cells : List Cell) (rows : List Row)
    → list_all p rows ≡ true → (r : Row)
    → row_with key cells rows ≡ Some r → p r ≡ true
all-row_with p key cells rows h r e = by (is_empty key || has_null cells) e
  where
    by : (b : Bool) → (if b then None else find (has_cells key cells) rows) ≡ Some r → p r ≡ true
    by true s = absurd (cc)
    by false s = all-found p (has_cells key cells) r rows h s

kept-row : (method : Method) (row : Option Row) (own : List Cell) → kept_cells method row ≡ Some own
    → (r : Row) × (row ≡ Some r) × (r.cells ≡ own)
kept-row method.Insert row own h = absurd (cc)
kept-row method.Upsert None own h = absurd (cc)
kept-row method.Upsert (Some r) own h = (r, refl, cc)
kept-row method.Update None own h = absurd (cc)
kept-row method.Update (Some r) own h = (r, refl, cc)

put_record-meets : (method : Method) (schema : SchemaValue) (number : ℕ) (given : Json) (work after : Worked)
    → list_all (row_meets schema) work.rows ≡ true → put_record method schema number given work ≡ Ok after
    → list_all (row_meets schema) after.rows ≡ true
put_record-meets method schema number given work after meets h =
    let row = row_with schema.key (key_of schema given) work.rows in
    let validated = bound-ok (validated_record method schema number given work.rows)
    (λ (t : Option ℕ × List Cell). Ok (with_cells t.0 t.1 work)) after h in
    let parts = validated_against-parts method schema number given row work.rows validated.0 validated.1 in
    let cells : are_accepted schema.fields validated.0.1 ≡ true =
    accepted-cells number schema.fields (kept_cells method row) given validated.0.1
    (λ own e. let kept = kept-row method row own e in
    let whole = all-row_with (row_meets schema) schema.key (key_of schema given) work.rows meets kept.0 kept.1 in
    subst (λ cs. are_accepted schema.fields cs ≡ true) kept.2
    (both_hold (are_accepted schema.fields kept.0.cells) (not (has_null_at schema.key kept.0.cells)) whole).0)
    parts.cells in
    let here : row_meets schema (written_row (row_id validated.0.0 work.next_id) validated.0.1) ≡ true =
    rw (cells, parts.key) refl in
    let made : with_cells validated.0.0 validated.0.1 work ≡ after =
    alike (with_cells validated.0.0 validated.0.1 work) after validated.2 in
    subst (λ (w : Worked). list_all (row_meets schema) w.rows ≡ true) made
    (all-placed (row_meets schema) (written_row (row_id validated.0.0 work.next_id) validated.0.1) work.rows here meets)
  where
    R : Type 0
    R = Result Worked TableFault

    alike : (p q : Worked) → ◌≡◌ {A = R} (Ok p) (Ok q) → p ≡ q
    alike p q e = cc

cut_rows-meets : (schema : SchemaValue) (ids : List ℕ) (rows : List Row) → list_all (row_meets schema) rows ≡ true
    → list_all (row_meets schema) (cut_rows ids rows) ≡ true
cut_rows-meets schema ids rows meets = all-filter (row_meets schema) _ rows meets

-- The parts of meeting a schema.
pub record HasMet (schema : SchemaValue) (rows : List Row) : Type 0 where
  pub accepted : list_all (row_meets schema) rows ≡ true
  pub keys : keys_apart schema.key rows ≡ true
  pub uniques : uniques_apart 0 schema.fields rows ≡ true
  pub held : list_all (keeps_self_reference schema.key rows) schema.foreign ≡ true

pub met-parts : (schema : SchemaValue) (rows : List Row) → meets_schema schema rows ≡ true → HasMet schema rows
met-parts schema rows h =
    let meets = both_hold (list_all (row_meets schema) rows) (keys_apart schema.key rows
    && (uniques_apart 0 schema.fields rows && list_all (keeps_self_reference schema.key rows) schema.foreign)) h in
    let keys = both_hold (keys_apart schema.key rows)
    (uniques_apart 0 schema.fields rows && list_all (keeps_self_reference schema.key rows) schema.foreign) meets.1 in
    let uniques = both_hold (uniques_apart 0 schema.fields rows)
    (list_all (keeps_self_reference schema.key rows) schema.foreign)
    keys.1 in
    record { accepted = meets.0; keys = keys.0; uniques = uniques.0; held = uniques.1 }

parts-met : (schema : SchemaValue) (rows : List Row) → HasMet schema rows → meets_schema schema rows ≡ true
parts-met schema rows met = rw (met.accepted, met.keys, met.uniques, met.held) refl

accepted-values : (fields : List FieldValue) (cells : List Cell) → are_accepted fields cells ≡ true → All IsValue cells
accepted-values [] [] h = All-nil IsValue
accepted-values [] (c ∷ cells) h = absurd (cc)
accepted-values (field ∷ fields) [] h = absurd (cc)
accepted-values (field ∷ fields) (c ∷ cells) h =
    let parts = both_hold (is_accepted field c) (are_accepted fields cells) h in
    All-cons IsValue c cells (accepted-value field c parts.0) (accepted-values fields cells parts.1)

pub row-values : (schema : SchemaValue) (row : Row) → row_meets schema row ≡ true → All IsValue row.cells
row-values schema row h =
    accepted-values schema.fields row.cells
    (both_hold (are_accepted schema.fields row.cells) (not (has_null_at schema.key row.cells)) h).0

-- The cells of a table's rows are values.
all-values : (schema : SchemaValue) (rows : List Row) → list_all (row_meets schema) rows ≡ true
    → All (λ row. All IsValue row.cells) rows
all-values schema [] h = All-nil _
all-values schema (row ∷ rows) h =
    let parts = both_hold (row_meets schema row) (list_all (row_meets schema) rows) h in
    All-cons (λ (x : Row). All IsValue x.cells) row rows (row-values schema row parts.0)
    (all-values schema rows parts.1)

pub found-values : (schema : SchemaValue) (rows : List Row) (id : ℕ) (row : Row)
    → meets_schema schema rows ≡ true → row_at id rows ≡ Some row → All IsValue row.cells
found-values schema rows id row h e =
    row-values schema row (all-found (row_meets schema) (has_id id) row rows (met-parts schema rows h).accepted e)

pub rows-values : (schema : SchemaValue) (rows : List Row) → meets_schema schema rows ≡ true
    → All (λ row. All IsValue row.cells) rows
rows-values schema rows h = all-values schema rows (met-parts schema rows h).accepted

-- Rows that can be restored are those of a valid table.
pub restorable-table : (schema : SchemaValue) (rows : List Row) (next_id : ℕ) → is_restorable schema rows next_id ≡ true
    → IsTable schema rows next_id
restorable-table schema rows next_id h =
    let parts = both_hold (is_numbered rows next_id) (meets_schema schema rows) h in
    record { numbered = numbered_from rows next_id parts.0; meets = parts.1 }

uniques-none : (column : ℕ) (fields : List FieldValue) → uniques_apart column fields [] ≡ true
uniques-none column [] = refl
uniques-none column (field ∷ fields) = rw (uniques-none (column + 1) fields) (by field.constraints.unique)
  where
    by : (b : Bool) → ((not b || true) && true) ≡ true
    by true = refl
    by false = refl

held-none : (key : List ℕ) (foreigns : List Foreign) → list_all (keeps_self_reference key []) foreigns ≡ true
held-none key [] = refl
held-none key (foreign ∷ foreigns) = rw (held-none key foreigns) (by (is_self foreign))
  where
    by : (b : Bool) → ((not b || true) && true) ≡ true
    by true = refl
    by false = refl

-- A table without rows is valid.
pub empty-table : (schema : SchemaValue) (rows : List Row) → rows ≡ [] → IsTable schema rows 1
empty-table schema rows none = subst (λ r. IsTable schema r 1) (sym none) (record {
  numbered = record { ascending = tt; within = tt; next = omega arith };
  meets = parts-met schema [] (record {
    accepted = refl;
    keys = by (is_empty schema.key);
    uniques = uniques-none 0 schema.fields;
    held = held-none schema.key schema.foreign;
  });
})
  where
    by : (b : Bool) → (b || true) ≡ true
    by true = refl
    by false = refl

-- A table during a batch. Its self references are checked after the batch.
record AtWork (schema : SchemaValue) (old : List Row) (work : Worked) : Type 0 where
  pub numbered : IsNumbered work.rows work.next_id
  pub meets : list_all (row_meets schema) work.rows ≡ true
  pub keys : keys_apart schema.key work.rows ≡ true
  pub uniques : uniques_apart 0 schema.fields work.rows ≡ true
  pub stems : Stems old work
  pub holds : KeepsKeys schema.key old work.rows

put_record-work : (method : Method) (schema : SchemaValue) (old : List Row) (number : ℕ) (given : Json)
    (work after : Worked) → AtWork schema old work → put_record method schema number given work ≡ Ok after
    → AtWork schema old after
put_record-work method schema old number given work after at h = record {
  numbered = put_record-numbered method schema number given work after at.numbered h;
  meets = put_record-meets method schema number given work after at.meets h;
  keys = put_record-keys method schema number given work after at.numbered.ascending at.keys h;
  uniques = put_record-uniques method schema number given work after at.numbered.ascending at.uniques h;
  stems = put_record-stems method schema number given work after old at.stems h;
  holds = put_record-holds method schema number given work after old at.numbered at.holds h;
}

-- A batch leaves a valid table.
pub put_records-table : (method : Method) (records : List Json) (table : TableValue) (after : Worked)
    → IsTable table.schema table.rows table.next_id → put_records method records table ≡ Ok after
    → IsTable table.schema after.rows after.next_id
put_records-table method records table after whole h =
    let met = met-parts table.schema table.rows whole.meets in
    let start : AtWork table.schema table.rows (begun table.rows table.next_id) = record {
      numbered = whole.numbered;
      meets = met.accepted;
      keys = met.keys;
      uniques = met.uniques;
      stems = λ r m. inl m;
      holds = λ cells held. held;
    } in
    let kept = put_records-keeps method records table after (AtWork table.schema table.rows)
    (λ number given work next at e. put_record-work method table.schema table.rows number given work next at e)
    start h in
    let at = kept.1 in
    record {
      numbered = at.numbered;
      meets = parts-met table.schema after.rows (record {
        accepted = at.meets;
        keys = at.keys;
        uniques = at.uniques;
        held = self_references-held table.schema.key table.rows after.rows after.written at.numbered.ascending
            at.stems at.holds 0
            table.schema.foreign kept.0 met.held kept.2;
      });
    }

-- A removal that breaks no self reference leaves a valid table.
pub cut_rows-table : (ids : List ℕ) (table : TableValue) → IsTable table.schema table.rows table.next_id
    → delete_checked ids table ≡ Ok tt → IsTable table.schema (cut_rows ids table.rows) table.next_id
cut_rows-table ids table whole h =
    let met = met-parts table.schema table.rows whole.meets in
    let up = whole.numbered.ascending in
    record {
      numbered = IsNumbered-delete ids table.rows table.next_id whole.numbered;
      meets = parts-met table.schema (cut_rows ids table.rows) (record {
        accepted = cut_rows-meets table.schema ids table.rows met.accepted;
        keys = delete-keys table.schema.key ids table.rows up met.keys;
        uniques = delete-uniques 0 table.schema.fields ids table.rows up met.uniques;
        held = delete-held table.schema.key ids table.rows 0 table.schema.foreign tt met.held h;
      });
    }

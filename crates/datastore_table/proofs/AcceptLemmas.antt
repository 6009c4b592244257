-- A field accepts each cell that it reads from a record.
use Rattle.std.proofs.Common.{◌≡◌, ◌∙◌, ◌<◌, ◌≤◌, ℕ, zero, suc, ◌+◌, Bool, true, false, ◌&&◌, not, List, [], ◌∷◌, refl}
use Rattle.std.proofs.Common.{ap}
use Rattle.std.proofs.Common.{sym, subst, arith, Option, Some, None, Result, Ok, Err, nat_lt, nat_le, slice_get, ◌++◌}
use Rattle.std.proofs.Common.{length, length-append, append_assoc}
use Rattle.std.proofs.Common.{is_none, if◌then◌else◌, ℤ, ◌≤ℤ◌, int_le}
use Rattle.std.proofs.lemmas.Bool.Decides.{nat_tests}
use Rattle.portal_base.specs.declared.json_value.Json.{Json, out-Json}
use Rattle.portal_base.specs.declared.json_value.Json.TheOpen.{Json-F}
use Rattle.portal_base.specs.Json.{member_of}
use Rattle.table_schema.specs.declared.cell.Cell.{Cell}
use Rattle.table_schema.specs.declared.cell.Cell.TheVariants as cell
use Rattle.table_schema.specs.declared.cell.CellFault.{CellFault}
use Rattle.table_schema.specs.declared.cell.CellFault.TheVariants.{Required}
use Rattle.table_schema.specs.declared.constraint.Constraints.{Constraints}
use Rattle.table_schema.specs.declared.form.Kind.{Kind}
use Rattle.table_schema.specs.declared.form.Kind.TheVariants as kind
use Rattle.table_schema.specs.Constraint.{constraint_fault}
use Rattle.table_schema.specs.Field.{FieldValue}
use Rattle.table_schema.specs.Form.{kind_of}
use Rattle.table_schema.specs.Keys.{same_kind}
use Rattle.table_schema.specs.Printed.{IsValue}
use Rattle.table_schema.specs.Reading.{kept, kind_of_cell, null_reading, record_reading, record_reading_in}
use Rattle.table_schema.specs.Reading.{value_reading}
use Rattle.table_schema.proofs.CellLemmas.{Fits, IsOf, value_reading-IsOf}
use Rattle.datastore_table.specs.Cells.{is_null}
use Rattle.datastore_table.specs.Meets.{are_accepted, is_accepted, is_of_kind, is_value}
use Rattle.datastore_table.specs.Record.{cell_reading, cells_reading, field_reading, kept_at, or_cell_fault}
use Rattle.datastore_table.specs.Results.{◌>>>◌, each_ok}
use Rattle.datastore_table.proofs.ResultLemmas.{bound-ok}
use Rattle.datastore_table.proofs.RowLemmas.{both_hold}

-- ---- one value

kept-parts : (constraints : Constraints) (read : Option Cell) (c : Cell) → kept constraints read ≡ Ok c
    → (read ≡ Some c) × (constraint_fault constraints c ≡ None)
kept-parts constraints None c h = absurd (cc)
kept-parts constraints (Some found) c h = by (constraint_fault constraints found) refl
  where
    by : (o : Option CellFault) → constraint_fault constraints found ≡ o
        → (Some found ≡ Some c) × (constraint_fault constraints c ≡ None)
    by None none =
        let held : kept constraints (Some found) ≡ Ok found = rw none refl in
        let same : found ≡ c = cc in
        (ap Some same, subst (λ x. constraint_fault constraints x ≡ None) same none)
    by (Some fault) some =
        let refused : kept constraints (Some found) ≡ Err fault = rw some refl in
        absurd (cc)

pub same_kind-itself : (k : Kind) → same_kind k k ≡ true
same_kind-itself kind.Text = refl
same_kind-itself kind.Integer = refl
same_kind-itself kind.Number = refl
same_kind-itself kind.Boolean = refl
same_kind-itself kind.Date = refl
same_kind-itself kind.Time = refl
same_kind-itself kind.Datetime = refl
same_kind-itself kind.Year = refl
same_kind-itself kind.YearMonth = refl

not_null : (c : Cell) (k : Kind) → kind_of_cell c ≡ Some k → is_null c ≡ false
not_null cell.Null k h = absurd (cc)
not_null (cell.Text text) k h = refl
not_null (cell.Int z) k h = refl
not_null (cell.Number z) k h = refl
not_null (cell.Truth b) k h = refl
not_null (cell.Date z) k h = refl
not_null (cell.Time n) k h = refl
not_null (cell.Stamp z) k h = refl
not_null (cell.Year n) k h = refl
not_null (cell.YearMonth n m) k h = refl

pub lt_true : (a b : ℕ) → a < b → nat_lt a b ≡ true
lt_true a b h = grind (arith, nat_tests)

pub le_true : (a b : ℕ) → a ≤ b → nat_le a b ≡ true
le_true a b h = grind (arith, nat_tests)

int_true : (a b : ℤ) → a ≤ℤ b → int_le a b ≡ true
int_true a b h = grind arith

le_back : (a b : ℕ) → nat_le a b ≡ true → a ≤ b
le_back a b h = grind (arith, nat_tests)

lt_back : (a b : ℕ) → nat_lt a b ≡ true → a < b
lt_back a b h = grind (arith, nat_tests)

int_back : (a b : ℤ) → int_le a b ≡ true → a ≤ℤ b
int_back a b h = grind arith

pub both : (a b : Bool) → a ≡ true → b ≡ true → (a && b) ≡ true
both a b x y = rw (x, y) refl

pub is_value-Fits : (c : Cell) → Fits c → is_value c ≡ true
is_value-Fits cell.Null h = refl
is_value-Fits (cell.Text text) h = refl
is_value-Fits (cell.Int z) h = h
is_value-Fits (cell.Number z) h = lt_true _ _ h
is_value-Fits (cell.Truth b) h = refl
is_value-Fits (cell.Date z) h = both _ _ (int_true _ _ h.0) (int_true _ _ h.1)
is_value-Fits (cell.Time n) h = lt_true _ _ h
is_value-Fits (cell.Stamp z) h = both _ _ (int_true _ _ h.0) (int_true _ _ h.1)
is_value-Fits (cell.Year n) h = le_true _ _ h
is_value-Fits (cell.YearMonth n m) h = both _ _ (le_true _ _ h.0) (both _ _ (le_true _ _ h.1) (le_true _ _ h.2))

pub IsValue-is_value : (c : Cell) → is_value c ≡ true → IsValue c
IsValue-is_value cell.Null h = tt
IsValue-is_value (cell.Text text) h = tt
IsValue-is_value (cell.Int z) h = tt
IsValue-is_value (cell.Number z) h = lt_back _ _ h
IsValue-is_value (cell.Truth b) h = tt
IsValue-is_value (cell.Date z) h = let p = both_hold _ _ h in (int_back _ _ p.0, int_back _ _ p.1)
IsValue-is_value (cell.Time n) h = lt_back _ _ h
IsValue-is_value (cell.Stamp z) h = let p = both_hold _ _ h in (int_back _ _ p.0, int_back _ _ p.1)
IsValue-is_value (cell.Year n) h = le_back _ _ h
IsValue-is_value (cell.YearMonth n m) h =
    let p = both_hold _ _ h in
    let q = both_hold _ _ p.1 in
    (le_back _ _ p.0, le_back _ _ q.0, le_back _ _ q.1)

accepted-read : (field : FieldValue) (c : Cell) → IsOf (kind_of field.form) c
    → constraint_fault field.constraints c ≡ None → is_accepted field c ≡ true
accepted-read field c of none =
    let some : is_null c ≡ false = not_null c (kind_of field.form) of.kind in
    let own : is_of_kind (kind_of field.form) (kind_of_cell c) ≡ true =
    ap (is_of_kind (kind_of field.form)) of.kind ∙ same_kind-itself (kind_of field.form) in
    let value : is_value c ≡ true = is_value-Fits c of.fits in
    rw (some, own, value, none) refl

accepted-null : (field : FieldValue) (c : Cell) → null_reading field.constraints.required ≡ Ok c
    → is_accepted field c ≡ true
accepted-null field c h = by field.constraints.required refl
  where
    by : (b : Bool) → field.constraints.required ≡ b → is_accepted field c ≡ true
    by true e =
        let refused : null_reading field.constraints.required ≡ Err Required = rw e refl in
        absurd (cc)
    by false e =
        let read : null_reading field.constraints.required ≡ Ok cell.Null = rw e refl in
        let same : cell.Null ≡ c = cc in
        subst (λ x. is_accepted field x ≡ true) same (rw e refl)

accepted-record : (field : FieldValue) (value : Json) (c : Cell) → record_reading field value ≡ Ok c
    → is_accepted field c ≡ true
accepted-record field value c h = by (out-Json value) h
  where
    some : kept field.constraints (value_reading (kind_of field.form) value) ≡ Ok c → is_accepted field c ≡ true
    some e =
        let parts = kept-parts field.constraints (value_reading (kind_of field.form) value) c e in
        accepted-read field c (value_reading-IsOf (kind_of field.form) value c parts.0) parts.1

    by : (v : Json-F Json) → record_reading_in field value v ≡ Ok c → is_accepted field c ≡ true
    by Json-F.Null e = accepted-null field c e
    by (Json-F.Truth b) e = some e
    by (Json-F.Whole z) e = some e
    by (Json-F.Text text) e = some e
    by (Json-F.List items) e = some e
    by (Json-F.Map entries) e = some e

accepted-field : (field : FieldValue) (keep : Option Cell) (value : Option Json) (c : Cell)
    → ((k : Cell) → keep ≡ Some k → is_accepted field k ≡ true) → field_reading field keep value ≡ Ok c
    → is_accepted field c ≡ true
accepted-field field keep (Some value) c held h = accepted-record field value c h
accepted-field field (Some k) None c held h =
    let same : k ≡ c = cc in
    subst (λ x. is_accepted field x ≡ true) same (held k refl)
accepted-field field None None c held h = accepted-null field c h

pub cell-ok : (number : ℕ) (field : FieldValue) (r : Result Cell CellFault) (c : Cell)
    → or_cell_fault number field r ≡ Ok c
    → r ≡ Ok c
cell-ok number field (Ok x) c h = cc
cell-ok number field (Err why) c h = absurd (cc)

-- ---- the cells of a record

-- Each field accepts the cell that is kept for it. The first of the fields has this column.
abbrev pub AreKept : ℕ → List FieldValue → Option (List Cell) → Type 0
AreKept column [] kept = Unit {0}
AreKept column (field ∷ fields) kept =
    ((k : Cell) → kept_at kept column ≡ Some k → is_accepted field k ≡ true) × AreKept (column + 1) fields kept

accepted-each : (number : ℕ) (kept : Option (List Cell)) (given : Json) (column : ℕ) (fields : List FieldValue)
    (cells : List Cell) → AreKept column fields kept → each_ok (cell_reading number kept given) column fields ≡ Ok cells
    → are_accepted fields cells ≡ true
accepted-each number kept given column [] cells held h =
    let same : [] ≡ cells = cc in
    subst (λ xs. are_accepted [] xs ≡ true) same refl
accepted-each number kept given column (field ∷ fields) cells held h =
    let one = bound-ok (cell_reading number kept given column field)
    (λ c. each_ok (cell_reading number kept given) (column + 1) fields >>> λ cs. Ok (c ∷ cs)) cells h in
    let rest = bound-ok (each_ok (cell_reading number kept given) (column + 1) fields)
    (λ cs. Ok (one.0 ∷ cs)) cells one.2 in
    let read : field_reading field (kept_at kept column) (member_of field.name given) ≡ Ok one.0 =
    cell-ok number field (field_reading field (kept_at kept column) (member_of field.name given)) one.0 one.1 in
    let first = accepted-field field (kept_at kept column) (member_of field.name given) one.0 held.0 read in
    let later = accepted-each number kept given (column + 1) fields rest.0 held.1 rest.1 in
    let same : (one.0 ∷ rest.0) ≡ cells = cc in
    subst (λ xs. are_accepted (field ∷ fields) xs ≡ true) same (both _ _ first later)

kept-none : (column : ℕ) (fields : List FieldValue) → AreKept column fields None
kept-none column [] = tt
kept-none column (field ∷ fields) = (λ k h. absurd (cc), kept-none (column + 1) fields)

-- The first cell after some cells is at the index of their count.
get-after : (before cells : List Cell) (c : Cell) (column : ℕ) → column ≡ length before
    → slice_get (before ++ c ∷ cells) column ≡ Some c
get-after [] cells c zero e = refl
get-after [] cells c (suc column) e = absurd (cc)
get-after (b ∷ before) cells c zero e = absurd (cc)
get-after (b ∷ before) cells c (suc column) e = get-after before cells c column (cc)

kept-some : (before : List Cell) (fields : List FieldValue) (cells : List Cell) (column : ℕ) → column ≡ length before
    → are_accepted fields cells ≡ true → AreKept column fields (Some (before ++ cells))
kept-some before [] cells column e h = tt
kept-some before (field ∷ fields) [] column e h = absurd (cc)
kept-some before (field ∷ fields) (c ∷ cells) column e h =
    let parts = both_hold (is_accepted field c) (are_accepted fields cells) h in
    let longer : column + 1 ≡ length (before ++ c ∷ []) = omega (arith, e, length-append before (c ∷ [])) in
    let rest : AreKept (column + 1) fields (Some ((before ++ c ∷ []) ++ cells)) =
    kept-some (before ++ c ∷ []) fields cells (column + 1) longer parts.1 in (
      λ k s. same k (sym (get-after before cells c column e) ∙ s) parts.0,
      subst (λ xs. AreKept (column + 1) fields (Some xs)) (append_assoc before (c ∷ []) cells) rest,
    )
  where
    same : (k : Cell) → Some c ≡ Some k → is_accepted field c ≡ true → is_accepted field k ≡ true
    same k s t = let e : c ≡ k = cc in subst (λ x. is_accepted field x ≡ true) e t

-- The fields accept the cells of a record if they accept the kept cells.
pub accepted-cells : (number : ℕ) (fields : List FieldValue) (kept : Option (List Cell)) (given : Json)
    (cells : List Cell)
    → ((own : List Cell) → kept ≡ Some own → are_accepted fields own ≡ true)
    → cells_reading number fields kept given ≡ Ok cells → are_accepted fields cells ≡ true
accepted-cells number fields None given cells held h =
    accepted-each number None given 0 fields cells (kept-none 0 fields) h
accepted-cells number fields (Some own) given cells held h =
    accepted-each number (Some own) given 0 fields cells (kept-some [] fields own 0 refl (held own refl)) h

-- A cell that a field accepts is a value.
pub accepted-value : (field : FieldValue) (c : Cell) → is_accepted field c ≡ true → IsValue c
accepted-value field c h = by (is_null c) refl h
  where
    null_value : (x : Cell) → is_null x ≡ true → IsValue x
    null_value cell.Null e = tt
    null_value (cell.Text text) e = absurd (cc)
    null_value (cell.Int z) e = absurd (cc)
    null_value (cell.Number z) e = absurd (cc)
    null_value (cell.Truth b) e = absurd (cc)
    null_value (cell.Date z) e = absurd (cc)
    null_value (cell.Time n) e = absurd (cc)
    null_value (cell.Stamp z) e = absurd (cc)
    null_value (cell.Year n) e = absurd (cc)
    null_value (cell.YearMonth n m) e = absurd (cc)

    by : (b : Bool) → is_null c ≡ b
        → (if b then not field.constraints.required
        else is_of_kind (kind_of field.form) (kind_of_cell c)
        && (is_value c && is_none (constraint_fault field.constraints c))) ≡ true → IsValue c
    by true e s = null_value c e
    by false e s =
        let parts = both_hold (is_of_kind (kind_of field.form) (kind_of_cell c))
        (is_value c && is_none (constraint_fault field.constraints c)) s in
        IsValue-is_value c (both_hold (is_value c) (is_none (constraint_fault field.constraints c)) parts.1).0

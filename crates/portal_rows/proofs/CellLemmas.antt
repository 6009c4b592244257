-- Cells that a field accepts are read back from their JSON values, and a field accepts what it reads.
use Rattle.std.proofs.Common.{◌≡◌, ℕ, suc, ◌<◌, ◌^◌, ℤ, pos, negsuc, Bool, true, false, ◌&&◌, not, List, [], ◌∷◌}
use Rattle.std.proofs.Common.{length, map, refl, sym, ap, ◌∙◌, subst, arith}
use Rattle.std.specs.Prelude.{All, Option, Some, None, Result, Ok, Err, is_none}
use Rattle.std.specs.Prelude.{option_and_then}
use Rattle.std.specs.Result.{result_ok}
use Rattle.std.proofs.lemmas.Bool.{and_from, and_parts}
use Rattle.std.proofs.lemmas.Bool.Decides.{nat_tests}
use Rattle.serde_json.specs.Find.{of_integer}
use Rattle.lexical_forms.specs.Number.{is_i64}
use Rattle.portal_base.specs.Json.{Fits as FitsNumber, IsReadable}
use Rattle.portal_base.specs.Kinds.{list_in}
use Rattle.portal_base.specs.declared.json_value.Json as json
use Rattle.portal_base.specs.declared.json_value.Json.{Json, out-Json, the_lemmas}
use Rattle.portal_base.specs.declared.json_value.Json.TheOpen.{Json-F}
use Rattle.table_schema.specs.declared.cell.Cell.{Cell}
use Rattle.table_schema.specs.declared.cell.Cell.TheVariants as cell
use Rattle.table_schema.specs.declared.cell.CellFault.{CellFault}
use Rattle.table_schema.specs.declared.cell.CellFault.TheVariants.{Required}
use Rattle.table_schema.specs.declared.constraint.Constraints.{Constraints}
use Rattle.table_schema.specs.declared.form.Kind.{Kind}
use Rattle.table_schema.specs.declared.form.Kind.TheVariants as kind
use Rattle.table_schema.specs.Constraint.{constraint_fault}
use Rattle.table_schema.specs.Field.{FieldValue}
use Rattle.table_schema.specs.Form.{kind_of}
use Rattle.table_schema.specs.Keys.{same_kind}
use Rattle.table_schema.specs.Printed.{IsValue, cell_value}
use Rattle.table_schema.specs.Reading.{kept, kind_of_cell, null_reading, record_reading, record_reading_in}
use Rattle.table_schema.specs.Reading.{value_reading}
use Rattle.table_schema.proofs.CellLemmas.{Fits, IsOf, cell_value-back, record_reading-other, value_reading-IsOf}
use Rattle.portal_rows.proofs.JsonLemmas.{list_in-List, out-Null, out-Text, out-Truth, out-Whole}
use Rattle.datastore_table.specs.Cells.{is_null}
use Rattle.datastore_table.specs.Meets.{are_accepted, is_accepted, is_of_kind, is_value}
use Rattle.datastore_table.proofs.AcceptLemmas.{IsValue-is_value, is_value-Fits, same_kind-itself}
use Rattle.portal_rows.specs.Readings.{cells_of_value, cells_reading, with_first}
use Rattle.portal_rows.specs.TableRows.{cells_value}
use Rattle.portal_rows.proofs.JsonLemmas.{AreWithin, IsWithin, readable, within-List, within-Null, within-Text}
use Rattle.portal_rows.proofs.JsonLemmas.{within-Truth, within-Whole}
use Rattle.portal_rows.proofs.ReadLemmas.{Each, all-each, and_then-some, first-some}

-- ---- a field accepts what it reads

kept-parts : (constraints : Constraints) (read : Option Cell) (c : Cell) → kept constraints read ≡ Ok c
    → (read ≡ Some c) × (constraint_fault constraints c ≡ None)
kept-parts constraints None c h = absurd (cc)
kept-parts constraints (Some found) c h = by (constraint_fault constraints found) refl
  where
    by : (o : Option CellFault) → constraint_fault constraints found ≡ o
        → (Some found ≡ Some c) × (constraint_fault constraints c ≡ None)
    by None none =
        let held : kept constraints (Some found) ≡ Ok found = rw none refl in
        let same : found ≡ c = cc in
        (ap Some same, subst (λ x. constraint_fault constraints x ≡ None) same none)
    by (Some fault) some =
        let refused : kept constraints (Some found) ≡ Err fault = rw some refl in
        absurd (cc)

not_null : (c : Cell) (k : Kind) → kind_of_cell c ≡ Some k → is_null c ≡ false
not_null cell.Null k h = absurd (cc)
not_null (cell.Text text) k h = refl
not_null (cell.Int z) k h = refl
not_null (cell.Number z) k h = refl
not_null (cell.Truth b) k h = refl
not_null (cell.Date z) k h = refl
not_null (cell.Time n) k h = refl
not_null (cell.Stamp z) k h = refl
not_null (cell.Year n) k h = refl
not_null (cell.YearMonth n m) k h = refl

accepted-read : (field : FieldValue) (c : Cell) → IsOf (kind_of field.form) c
    → constraint_fault field.constraints c ≡ None → is_accepted field c ≡ true
accepted-read field c of none =
    let some : is_null c ≡ false = not_null c (kind_of field.form) of.kind in
    let own : is_of_kind (kind_of field.form) (kind_of_cell c) ≡ true =
    ap (is_of_kind (kind_of field.form)) of.kind ∙ same_kind-itself (kind_of field.form) in
    let value : is_value c ≡ true = is_value-Fits c of.fits in
    rw (some, own, value, none) refl

accepted-null : (field : FieldValue) (c : Cell) → null_reading field.constraints.required ≡ Ok c
    → is_accepted field c ≡ true
accepted-null field c h = by field.constraints.required refl
  where
    by : (b : Bool) → field.constraints.required ≡ b → is_accepted field c ≡ true
    by true e =
        let refused : null_reading field.constraints.required ≡ Err Required = rw e refl in
        absurd (cc)
    by false e =
        let read : null_reading field.constraints.required ≡ Ok cell.Null = rw e refl in
        let same : cell.Null ≡ c = cc in
        subst (λ x. is_accepted field x ≡ true) same (rw e refl)

accepted-record : (field : FieldValue) (value : Json) (c : Cell) → record_reading field value ≡ Ok c
    → is_accepted field c ≡ true
accepted-record field value c h = by (out-Json value) h
  where
    some : kept field.constraints (value_reading (kind_of field.form) value) ≡ Ok c → is_accepted field c ≡ true
    some e =
        let parts = kept-parts field.constraints (value_reading (kind_of field.form) value) c e in
        accepted-read field c (value_reading-IsOf (kind_of field.form) value c parts.0) parts.1

    by : (v : Json-F Json) → record_reading_in field value v ≡ Ok c → is_accepted field c ≡ true
    by Json-F.Null e = accepted-null field c e
    by (Json-F.Truth b) e = some e
    by (Json-F.Whole z) e = some e
    by (Json-F.Text text) e = some e
    by (Json-F.List items) e = some e
    by (Json-F.Map entries) e = some e

ok-some : (r : Result Cell CellFault) (c : Cell) → result_ok r ≡ Some c → r ≡ Ok c
ok-some (Ok x) c e = cc
ok-some (Err fault) c e = absurd (cc)

accepted-cells : (fields : List FieldValue) (values : List Json) (cells : List Cell)
    → cells_reading fields values ≡ Some cells → are_accepted fields cells ≡ true
accepted-cells [] [] cells e = let none : [] ≡ cells = cc in subst (λ l. are_accepted [] l ≡ true) none refl
accepted-cells [] (value ∷ values) cells e = absurd (cc)
accepted-cells (field ∷ fields) [] cells e = absurd (cc)
accepted-cells (field ∷ fields) (value ∷ values) cells e =
    let parts = first-some (result_ok (record_reading field value)) (cells_reading fields values) cells e in
    let read = ok-some (record_reading field value) parts.0 parts.1.1.0 in
    subst (λ l. are_accepted (field ∷ fields) l ≡ true) parts.1.1.2
    (and_from (is_accepted field parts.0) (are_accepted fields parts.1.0) (accepted-record field value parts.0 read)
    (accepted-cells fields values parts.1.0 parts.1.1.1))

pub accepted-value_read : (fields : List FieldValue) (value : Json) (cells : List Cell)
    → cells_of_value fields value ≡ Some cells → are_accepted fields cells ≡ true
accepted-value_read fields value cells e =
    let read = and_then-some (cells_reading fields) (list_in value) cells e in
    accepted-cells fields read.0 cells read.1.1

-- ---- a cell that is accepted is read back

null-is : (c : Cell) → is_null c ≡ true → c ≡ cell.Null
null-is cell.Null e = refl
null-is (cell.Text text) e = absurd (cc)
null-is (cell.Int z) e = absurd (cc)
null-is (cell.Number z) e = absurd (cc)
null-is (cell.Truth b) e = absurd (cc)
null-is (cell.Date z) e = absurd (cc)
null-is (cell.Time n) e = absurd (cc)
null-is (cell.Stamp z) e = absurd (cc)
null-is (cell.Year n) e = absurd (cc)
null-is (cell.YearMonth n m) e = absurd (cc)

fits : (c : Cell) → is_value c ≡ true → Fits c
fits cell.Null h = tt
fits (cell.Text text) h = tt
fits (cell.Int z) h = h
fits (cell.Number z) h = IsValue-is_value (cell.Number z) h
fits (cell.Truth b) h = tt
fits (cell.Date z) h = IsValue-is_value (cell.Date z) h
fits (cell.Time n) h = IsValue-is_value (cell.Time n) h
fits (cell.Stamp z) h = IsValue-is_value (cell.Stamp z) h
fits (cell.Year n) h = IsValue-is_value (cell.Year n) h
fits (cell.YearMonth n m) h = IsValue-is_value (cell.YearMonth n m) h

same_kind-is : (a b : Kind) → same_kind a b ≡ true → a ≡ b
same_kind-is kind.Text kind.Text h = refl
same_kind-is kind.Integer kind.Integer h = refl
same_kind-is kind.Number kind.Number h = refl
same_kind-is kind.Boolean kind.Boolean h = refl
same_kind-is kind.Date kind.Date h = refl
same_kind-is kind.Time kind.Time h = refl
same_kind-is kind.Datetime kind.Datetime h = refl
same_kind-is kind.Year kind.Year h = refl
same_kind-is kind.YearMonth kind.YearMonth h = refl
same_kind-is a b h = absurd (cc)

of_kind-is : (k : Kind) (own : Option Kind) → is_of_kind k own ≡ true → own ≡ Some k
of_kind-is k None h = absurd (cc)
of_kind-is k (Some own) h = ap Some (same_kind-is own k h)

none-is : (o : Option CellFault) → is_none o ≡ true → o ≡ None
none-is None h = refl
none-is (Some fault) h = absurd (cc)

text-not_null : (text : List ℕ) → json.Text text ≡ json.Null → ⊥
text-not_null text e =
    let opened : Json-F.Text text ≡ Json-F.Null = sym (out-Text text) ∙ ap out-Json e ∙ out-Null in cc

whole-not_null : (z : ℤ) → json.Whole z ≡ json.Null → ⊥
whole-not_null z e = let opened : Json-F.Whole z ≡ Json-F.Null = sym (out-Whole z) ∙ ap out-Json e ∙ out-Null in cc

truth-not_null : (b : Bool) → json.Truth b ≡ json.Null → ⊥
truth-not_null b e = let opened : Json-F.Truth b ≡ Json-F.Null = sym (out-Truth b) ∙ ap out-Json e ∙ out-Null in cc

value-not_null : (k : Kind) (c : Cell) → kind_of_cell c ≡ Some k → cell_value c ≡ json.Null → ⊥
value-not_null k cell.Null own null = cc
value-not_null k (cell.Text text) own null = text-not_null _ null
value-not_null k (cell.Int z) own null = whole-not_null z null
value-not_null k (cell.Number z) own null = text-not_null _ null
value-not_null k (cell.Truth b) own null = truth-not_null b null
value-not_null k (cell.Date z) own null = text-not_null _ null
value-not_null k (cell.Time n) own null = text-not_null _ null
value-not_null k (cell.Stamp z) own null = text-not_null _ null
value-not_null k (cell.Year n) own null = whole-not_null (pos n) null
value-not_null k (cell.YearMonth n m) own null = text-not_null _ null

null-back : (field : FieldValue) → not field.constraints.required ≡ true
    → record_reading field (cell_value cell.Null) ≡ Ok cell.Null
null-back field free =
    ap (record_reading_in field json.Null) out-Null ∙ by field.constraints.required free
  where
    by : (b : Bool) → not b ≡ true → null_reading b ≡ Ok cell.Null
    by true h = absurd (cc)
    by false h = refl

some-back : (field : FieldValue) (c : Cell) → is_value c ≡ true → kind_of_cell c ≡ Some (kind_of field.form)
    → constraint_fault field.constraints c ≡ None → record_reading field (cell_value c) ≡ Ok c
some-back field c value own none =
    record_reading-other field (cell_value c) (value-not_null (kind_of field.form) c own)
    ∙ ap (kept field.constraints) (cell_value-back (kind_of field.form) c (fits c value) own)
    ∙ (rw none refl)

accepted-back : (field : FieldValue) (c : Cell) → is_accepted field c ≡ true
    → record_reading field (cell_value c) ≡ Ok c
accepted-back field c h = by (is_null c) refl
  where
    by : (b : Bool) → is_null c ≡ b → record_reading field (cell_value c) ≡ Ok c
    by true e =
        let null : c ≡ cell.Null = null-is c e in
        let free : not field.constraints.required ≡ true = subst (λ x. is_accepted field x ≡ true) null h in
        subst (λ x. record_reading field (cell_value x) ≡ Ok x) (sym null) (null-back field free)
    by false e =
        let opened : (is_of_kind (kind_of field.form) (kind_of_cell c)
        && (is_value c && is_none (constraint_fault field.constraints c))) ≡ true = rw e at h in
        let parts = and_parts (is_of_kind (kind_of field.form) (kind_of_cell c))
        (is_value c && is_none (constraint_fault field.constraints c)) opened in
        let halves = and_parts (is_value c) (is_none (constraint_fault field.constraints c)) parts.1 in
        some-back field c halves.0 (of_kind-is (kind_of field.form) (kind_of_cell c) parts.0)
        (none-is (constraint_fault field.constraints c) halves.1)

cells-back : (fields : List FieldValue) (cells : List Cell) → are_accepted fields cells ≡ true
    → cells_reading fields (map cell_value cells) ≡ Some cells
cells-back [] [] h = refl
cells-back [] (c ∷ cells) h = absurd (cc)
cells-back (field ∷ fields) [] h = absurd (cc)
cells-back (field ∷ fields) (c ∷ cells) h =
    let parts = and_parts (is_accepted field c) (are_accepted fields cells) h in
    ap (λ r. with_first (result_ok r) (cells_reading fields (map cell_value cells))) (accepted-back field c parts.0)
    ∙ ap (with_first (Some c)) (cells-back fields cells parts.1)

pub cells_of_value-back : (fields : List FieldValue) (cells : List Cell) → are_accepted fields cells ≡ true
    → cells_of_value fields (cells_value cells) ≡ Some cells
cells_of_value-back fields cells h =
    ap (option_and_then (cells_reading fields)) (list_in-List (map cell_value cells)) ∙ cells-back fields cells h

-- ---- the body can be read

whole_fits : (z : ℤ) → is_i64 z ≡ true → FitsNumber (of_integer z)
whole_fits (pos n) h = let small : n < 2 ^ 63 = grind (arith, nat_tests) in omega arith
whole_fits (negsuc n) h = grind (arith, nat_tests)

pub cell_within : (c : Cell) → Fits c → IsWithin 0 (cell_value c)
cell_within cell.Null h = within-Null 0
cell_within (cell.Text text) h = within-Text 0 _
cell_within (cell.Int z) h = within-Whole 0 z (whole_fits z h)
cell_within (cell.Number z) h = within-Text 0 _
cell_within (cell.Truth b) h = within-Truth 0 b
cell_within (cell.Date z) h = within-Text 0 _
cell_within (cell.Time n) h = within-Text 0 _
cell_within (cell.Stamp z) h = within-Text 0 _
cell_within (cell.Year n) h = within-Whole 0 (pos n) (omega (arith, h))
cell_within (cell.YearMonth n m) h = within-Text 0 _

value-accepted : (field : FieldValue) (c : Cell) → is_accepted field c ≡ true → is_value c ≡ true
value-accepted field c h = by (is_null c) refl
  where
    by : (b : Bool) → is_null c ≡ b → is_value c ≡ true
    by true e = ap is_value (null-is c e)
    by false e =
        let opened : (is_of_kind (kind_of field.form) (kind_of_cell c)
        && (is_value c && is_none (constraint_fault field.constraints c))) ≡ true = rw e at h in
        let parts = and_parts (is_of_kind (kind_of field.form) (kind_of_cell c))
        (is_value c && is_none (constraint_fault field.constraints c)) opened in
        (and_parts (is_value c) (is_none (constraint_fault field.constraints c)) parts.1).0

cells_within : (fields : List FieldValue) (cells : List Cell) → are_accepted fields cells ≡ true
    → AreWithin 0 (map cell_value cells)
cells_within [] [] h = tt
cells_within [] (c ∷ cells) h = absurd (cc)
cells_within (field ∷ fields) [] h = absurd (cc)
cells_within (field ∷ fields) (c ∷ cells) h =
    let parts = and_parts (is_accepted field c) (are_accepted fields cells) h in
    (cell_within c (fits c (value-accepted field c parts.0)), cells_within fields cells parts.1)

pub cells_value-readable : (fields : List FieldValue) (cells : List Cell) → are_accepted fields cells ≡ true
    → IsReadable (cells_value cells)
cells_value-readable fields cells h =
    readable 1 (cells_value cells) (omega arith) (within-List 0 (map cell_value cells) (cells_within fields cells h))

-- ---- lists of unequal lengths

first-none : {A : Type 0} (o : Option A) → with_first o None ≡ None
first-none None = refl
first-none (Some x) = refl

-- Fields read no cells from fewer or more values.
pub cells_reading-counts : (fields : List FieldValue) (values : List Json) → (length fields ≡ length values → ⊥)
    → cells_reading fields values ≡ None
cells_reading-counts [] [] unequal = absurd (unequal refl)
cells_reading-counts [] (value ∷ values) unequal = refl
cells_reading-counts (field ∷ fields) [] unequal = refl
cells_reading-counts (field ∷ fields) (value ∷ values) unequal =
    ap (with_first (result_ok (record_reading field value)))
    (cells_reading-counts fields values (λ e. unequal (ap suc e)))
    ∙ first-none (result_ok (record_reading field value))

-- ---- cells that are accepted are values

accepted-each : (fields : List FieldValue) (cells : List Cell) → are_accepted fields cells ≡ true → Each IsValue cells
accepted-each [] [] h = tt
accepted-each [] (c ∷ cells) h = absurd (cc)
accepted-each (field ∷ fields) [] h = absurd (cc)
accepted-each (field ∷ fields) (c ∷ cells) h =
    let parts = and_parts (is_accepted field c) (are_accepted fields cells) h in
    (IsValue-is_value c (value-accepted field c parts.0), accepted-each fields cells parts.1)

pub accepted-values : (fields : List FieldValue) (cells : List Cell) → are_accepted fields cells ≡ true
    → All IsValue cells
accepted-values fields cells h = all-each IsValue cells (accepted-each fields cells h)

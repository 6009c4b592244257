-- The cells that texts and values read as, and printed cells that read back as the same cells.
use Rattle.std.proofs.Common.{◌≡◌, ℕ, zero, suc, ◌*◌, ◌^◌, ◌<◌, ◌≤◌, true, false, ◌&&◌, leb, ltb, refl, sym, ap, ◌∙◌}
use Rattle.std.proofs.Common.{subst, arith, rules, Bool, List, length, take, drop, get_or, ℤ, pos, negsuc, ◌+ℤ◌, ◌-ℤ◌}
use Rattle.std.proofs.Common.{◌*ℤ◌}
use Rattle.std.specs.Prelude.{Option, Some, None, Result, Ok, Err, IfOk, IfErr, option_map, unsigned_abs, codes}
use Rattle.std.specs.Str.{chars}
use Rattle.std.proofs.lemmas.Bool.{and_parts, ltb-true, leb-true, le-leb}
use Rattle.portal_base.specs.Moment.{IsMoment}
use Rattle.portal_base.specs.MomentReading.{fits_form, number_at, year_in}
use Rattle.portal_base.specs.declared.json_value.Json as json
use Rattle.portal_base.specs.declared.json_value.Json.{Json, out-Json, the_lemmas}
use Rattle.portal_base.specs.declared.json_value.Json.TheOpen.{Json-F}
use Rattle.portal_base.proofs.FormLemmas.{fits_form-digit}
use Rattle.table_schema.specs.declared.cell.Cell.{Cell}
use Rattle.table_schema.specs.declared.cell.Cell.TheVariants as cell
use Rattle.table_schema.specs.declared.cell.CellError.{CellError}
use Rattle.table_schema.specs.declared.cell.CellFault.{CellFault}
use Rattle.table_schema.specs.declared.constraint.Constraints.{Constraints}
use Rattle.table_schema.specs.declared.form.Form.{Form}
use Rattle.table_schema.specs.declared.form.Form.TheVariants as form
use Rattle.table_schema.specs.declared.form.Kind.{Kind}
use Rattle.table_schema.specs.declared.form.Kind.TheVariants as kind
use Rattle.lexical_forms.specs.declared.form.NumberForm.{NumberForm}
use Rattle.portal_base.specs.Calendar.{date_reading, time_reading, year_reading, yearmonth_reading, has_month}
use Rattle.portal_base.specs.Calendar.{moment_at}
use Rattle.table_schema.specs.Stamp.{stamp_reading, is_time_designator, is_zone, zoned_moment}
use Rattle.table_schema.specs.Constraint.{constraint_fault}
use Rattle.table_schema.specs.Field.{FieldValue}
use Rattle.lexical_forms.specs.Digits.{is_digits, spelled, is_negative, unsigned, signed}
use Rattle.table_schema.specs.Form.{kind_of}
use Rattle.lexical_forms.specs.Number.{is_i64, i64_only, integer_text_reading, integer_reading, parts_of, is_number}
use Rattle.lexical_forms.specs.Number.{digits_of, exponent_of, scaled, in_range, billionths_of, unsigned_reading}
use Rattle.lexical_forms.specs.Number.{number_text_reading, number_reading, numeric_part}
use Rattle.table_schema.specs.Printed.{IsValue, cell_text, cell_value}
use Rattle.table_schema.specs.Reading.{text_reading, whole_cell, truth_cell, value_in, value_reading, default_form}
use Rattle.table_schema.specs.Reading.{kind_of_cell, kept, record_reading, record_reading_in, Accepts, IsFault}
use Rattle.table_schema.specs.Truth.{truth_reading}
use Rattle.portal_base.proofs.CalendarLemmas.{date_reading-IsDay, time_reading-bound, moment_at-IsMoment}
use Rattle.lexical_forms.proofs.ReadingLemmas.{map-some, then-some, if-some}
use Rattle.lexical_forms.proofs.NumberTextLemmas.{number_text-back}
use Rattle.table_schema.proofs.PrintLemmas.{date_text-back, clock_text-back, stamp_reading-back, year_month_text-back}

-- ---- readings are in range

i64_only-some : (z w : ℤ) → i64_only z ≡ Some w → is_i64 w ≡ true
i64_only-some z w e =
    let parts = if-some (is_i64 z) (Some z) w e in
    let same : z ≡ w = cc (parts.1) in
    subst (λ (x : ℤ). is_i64 x ≡ true) same parts.0

integer_reading-range : (bare : Bool) (cs : List ℕ) (z : ℤ) → integer_reading bare cs ≡ Some z → is_i64 z ≡ true
unfolding integer_text_reading
integer_reading-range bare cs z e =
    let digits = numeric_part bare None cs in
    i64_only-some (signed (is_negative digits) (spelled (unsigned digits))) z
    (if-some (is_digits (unsigned digits)) (i64_only (signed (is_negative digits) (spelled (unsigned digits)))) z
    e).1

signed-size : (negative : Bool) (n : ℕ) → unsigned_abs (signed negative n) ≡ n
signed-size true zero = refl
signed-size true (suc n) = refl
signed-size false n = refl

number_reading-size : (spelling : NumberForm) (cs : List ℕ) (z : ℤ) → number_reading spelling cs ≡ Some z
    → unsigned_abs z < 10 ^ 27
unfolding number_text_reading
number_reading-size spelling cs z e =
    let text = numeric_part spelling.bare (Some spelling.decimal) cs in
    let parts = parts_of spelling (unsigned text) in
    let read = map-some (signed (is_negative text)) (unsigned_reading spelling parts) z e in
    let size = (if-some (is_number spelling parts) (billionths_of parts) read.0 read.1).1 in
    let scaled_size =
    then-some in_range
    (scaled (spelled (digits_of parts)) (pos 9 +ℤ exponent_of parts.exponent -ℤ pos (length parts.fraction)))
    read.0 size in
    let small = if-some (ltb scaled_size.0 (10 ^ 27)) (Some scaled_size.0) read.0 scaled_size.2 in
    let same : scaled_size.0 ≡ read.0 = cc (small.1) in
    let total : unsigned_abs z ≡ read.0 = ap unsigned_abs (sym read.2) ∙ signed-size (is_negative text) read.0 in
    omega (arith, ltb-true scaled_size.0 (10 ^ 27) small.0)

stamp_reading-IsMoment : (text : List ℕ) (z : ℤ) → stamp_reading text ≡ Some z → IsMoment z
unfolding stamp_reading
stamp_reading-IsMoment text z e =
    let marked = (if-some (is_time_designator (get_or text 10 0)) (zoned_moment (take 10 text) (drop 11 text)) z e).1 in
    let zoned =
    (if-some (is_zone (drop 8 (drop 11 text))) (moment_at (take 10 text) (take 8 (drop 11 text))) z marked).1 in
    moment_at-IsMoment (take 10 text) (take 8 (drop 11 text)) z zoned

year_in-small : (text : List ℕ) → (get_or text 0 0 ≤ 57) → (get_or text 1 0 ≤ 57) → (get_or text 2 0 ≤ 57)
    → (get_or text 3 0 ≤ 57) → year_in text ≤ 9999
year_in-small text a b c d = omega arith

year_reading-bound : (text : List ℕ) (year : ℕ) → year_reading text ≡ Some year → year ≤ 9999
unfolding year_reading
year_reading-bound text year e =
    let read = if-some (fits_form (codes "0000") text) (Some (year_in text)) year e in
    let digit = fits_form-digit (codes "0000") text in
    let same : year_in text ≡ year = cc (read.1) in
    omega (
      arith,
      year_in-small text (digit 0 read.0 refl).2 (digit 1 read.0 refl).2 (digit 2 read.0 refl).2
          (digit 3 read.0 refl).2,
    )

yearmonth_reading-bounds : (text : List ℕ) (m : ℕ × ℕ) → yearmonth_reading text ≡ Some m
    → (m.0 ≤ 9999) × (1 ≤ m.1) × (m.1 ≤ 12)
unfolding yearmonth_reading
yearmonth_reading-bounds text m e =
    let made : ℕ × ℕ = (year_in text, number_at 5 text) in
    let read = if-some (fits_form (codes "0000-00") text && has_month (number_at 5 text)) (Some made) m e in
    let named = and_parts (fits_form (codes "0000-00") text) (has_month (number_at 5 text)) read.0 in
    let month = and_parts (leb 1 (number_at 5 text)) (leb (number_at 5 text) 12) named.1 in
    let digit = fits_form-digit (codes "0000-00") text in
    let same : made ≡ m = cc (read.1) in
    let year = year_in-small text (digit 0 named.0 refl).2 (digit 1 named.0 refl).2 (digit 2 named.0 refl).2
    (digit 3 named.0 refl).2 in
    subst (λ (x : ℕ × ℕ). (x.0 ≤ 9999) × (1 ≤ x.1) × (x.1 ≤ 12)) same
    (year, leb-true 1 (number_at 5 text) month.0, leb-true (number_at 5 text) 12 month.1)

-- ---- cells in the range of their types

abbrev pub Fits : Cell → Type 0
Fits cell.Null = Unit {0}
Fits (cell.Text text) = Unit {0}
Fits (cell.Int z) = is_i64 z ≡ true
Fits (cell.Number billionths) = IsValue (cell.Number billionths)
Fits (cell.Truth b) = Unit {0}
Fits (cell.Date day) = IsValue (cell.Date day)
Fits (cell.Time second) = IsValue (cell.Time second)
Fits (cell.Stamp seconds) = IsValue (cell.Stamp seconds)
Fits (cell.Year year) = IsValue (cell.Year year)
Fits (cell.YearMonth year month) = IsValue (cell.YearMonth year month)

pub Fits-IsValue : (c : Cell) → Fits c → IsValue c
Fits-IsValue cell.Null h = tt
Fits-IsValue (cell.Text text) h = tt
Fits-IsValue (cell.Int z) h = tt
Fits-IsValue (cell.Number billionths) h = h
Fits-IsValue (cell.Truth b) h = tt
Fits-IsValue (cell.Date day) h = h
Fits-IsValue (cell.Time second) h = h
Fits-IsValue (cell.Stamp seconds) h = h
Fits-IsValue (cell.Year year) h = h
Fits-IsValue (cell.YearMonth year month) h = h

-- a value of the type
pub record IsOf (k : Kind) (c : Cell) : Type 0 where
  pub fits : Fits c
  pub kind : kind_of_cell c ≡ Some k

-- A reading by a type is a value of the type.
pub text_reading-IsOf : (f : Form) (text : List ℕ) (c : Cell) → text_reading f text ≡ Some c → IsOf (kind_of f) c
text_reading-IsOf form.Text text c e =
    let same : cell.Text text ≡ c = cc in
    subst (IsOf kind.Text) same (record { fits = tt; kind = refl })
text_reading-IsOf (form.Integer bare) text c e =
    let read = map-some cell.Int (integer_reading bare (chars text)) c e in
    subst (IsOf kind.Integer) read.2
    (record { fits = integer_reading-range bare (chars text) read.0 read.1; kind = refl })
text_reading-IsOf (form.Number spelling) text c e =
    let read = map-some cell.Number (number_reading spelling (chars text)) c e in
    subst (IsOf kind.Number) read.2
    (record { fits = number_reading-size spelling (chars text) read.0 read.1; kind = refl })
text_reading-IsOf (form.Boolean truths) text c e =
    let read = map-some cell.Truth (truth_reading truths.true_values truths.false_values text) c e in
    subst (IsOf kind.Boolean) read.2 (record { fits = tt; kind = refl })
text_reading-IsOf form.Date text c e =
    let read = map-some cell.Date (date_reading text) c e in
    subst (IsOf kind.Date) read.2 (record { fits = date_reading-IsDay text read.0 read.1; kind = refl })
text_reading-IsOf form.Time text c e =
    let read = map-some cell.Time (time_reading text) c e in
    subst (IsOf kind.Time) read.2 (record { fits = time_reading-bound text read.0 read.1; kind = refl })
text_reading-IsOf form.Datetime text c e =
    let read = map-some cell.Stamp (stamp_reading text) c e in
    subst (IsOf kind.Datetime) read.2 (record { fits = stamp_reading-IsMoment text read.0 read.1; kind = refl })
text_reading-IsOf form.Year text c e =
    let read = map-some cell.Year (year_reading text) c e in
    subst (IsOf kind.Year) read.2 (record { fits = year_reading-bound text read.0 read.1; kind = refl })
text_reading-IsOf form.YearMonth text c e =
    let read = map-some (λ (m : ℕ × ℕ). cell.YearMonth m.0 m.1) (yearmonth_reading text) c e in
    subst (IsOf kind.YearMonth) read.2 (record { fits = yearmonth_reading-bounds text read.0 read.1; kind = refl })

pub kind_of-default_form : (k : Kind) → kind_of (default_form k) ≡ k
kind_of-default_form kind.Text = refl
kind_of-default_form kind.Integer = refl
kind_of-default_form kind.Number = refl
kind_of-default_form kind.Boolean = refl
kind_of-default_form kind.Date = refl
kind_of-default_form kind.Time = refl
kind_of-default_form kind.Datetime = refl
kind_of-default_form kind.Year = refl
kind_of-default_form kind.YearMonth = refl

billion-size : (z : ℤ) → unsigned_abs z < 10 ^ 18 → unsigned_abs (z *ℤ pos (10 ^ 9)) < 10 ^ 27
billion-size (pos n) h = omega arith
billion-size (negsuc n) h = let size : unsigned_abs (negsuc n *ℤ pos (10 ^ 9)) ≡ suc n * 10 ^ 9 =
    signed-size true (suc n * 10 ^ 9) in omega arith

whole_cell-IsOf : (k : Kind) (z : ℤ) (c : Cell) → whole_cell k z ≡ Some c → IsOf k c
whole_cell-IsOf kind.Integer z c e =
    let read = map-some cell.Int (i64_only z) c e in
    subst (IsOf kind.Integer) read.2 (record { fits = i64_only-some z read.0 read.1; kind = refl })
whole_cell-IsOf kind.Number z c e =
    let read = if-some (ltb (unsigned_abs z) (10 ^ 18)) (Some (cell.Number (z *ℤ pos (10 ^ 9)))) c e in
    let same : cell.Number (z *ℤ pos (10 ^ 9)) ≡ c = cc (read.1) in
    subst (IsOf kind.Number) same
    (record { fits = billion-size z (ltb-true (unsigned_abs z) (10 ^ 18) read.0); kind = refl })
whole_cell-IsOf kind.Year (pos n) c e =
    let read = if-some (leb n 9999) (Some (cell.Year n)) c e in
    let same : cell.Year n ≡ c = cc (read.1) in
    subst (IsOf kind.Year) same (record { fits = leb-true n 9999 read.0; kind = refl })
whole_cell-IsOf kind.Year (negsuc n) c e = cc
whole_cell-IsOf kind.Text z c e = cc
whole_cell-IsOf kind.Boolean z c e = cc
whole_cell-IsOf kind.Date z c e = cc
whole_cell-IsOf kind.Time z c e = cc
whole_cell-IsOf kind.Datetime z c e = cc
whole_cell-IsOf kind.YearMonth z c e = cc

truth_cell-IsOf : (k : Kind) (b : Bool) (c : Cell) → truth_cell k b ≡ Some c → IsOf k c
truth_cell-IsOf kind.Boolean b c e =
    let same : cell.Truth b ≡ c = cc in
    subst (IsOf kind.Boolean) same (record { fits = tt; kind = refl })
truth_cell-IsOf kind.Text b c e = cc
truth_cell-IsOf kind.Integer b c e = cc
truth_cell-IsOf kind.Number b c e = cc
truth_cell-IsOf kind.Date b c e = cc
truth_cell-IsOf kind.Time b c e = cc
truth_cell-IsOf kind.Datetime b c e = cc
truth_cell-IsOf kind.Year b c e = cc
truth_cell-IsOf kind.YearMonth b c e = cc

value_in-IsOf : (k : Kind) (value : Json-F Json) (c : Cell) → value_in k value ≡ Some c → IsOf k c
value_in-IsOf k Json-F.Null c e = cc
value_in-IsOf k (Json-F.Truth b) c e = truth_cell-IsOf k b c e
value_in-IsOf k (Json-F.Whole z) c e = whole_cell-IsOf k z c e
value_in-IsOf k (Json-F.Text text) c e =
    subst (λ (x : Kind). IsOf x c) (kind_of-default_form k) (text_reading-IsOf (default_form k) text c e)
value_in-IsOf k (Json-F.List items) c e = cc
value_in-IsOf k (Json-F.Map entries) c e = cc

pub value_reading-IsOf : (k : Kind) (value : Json) (c : Cell) → value_reading k value ≡ Some c → IsOf k c
value_reading-IsOf k value c e = value_in-IsOf k (out-Json value) c e

-- ---- printed cells read back as the same cells

-- The JSON value of a cell reads as the same cell in its type.
pub cell_value-back : (k : Kind) (c : Cell) → Fits c → kind_of_cell c ≡ Some k → value_reading k (cell_value c) ≡ Some c
unfolding cell_text out-Json denote.Hole.Carrier.out
cell_value-back k cell.Null h e = cc
cell_value-back k (cell.Text text) h e = let same : kind.Text ≡ k = cc in
    subst (λ (x : Kind). value_reading x (cell_value (cell.Text text)) ≡ Some (cell.Text text)) same refl
cell_value-back k (cell.Int z) h e = let same : kind.Integer ≡ k = cc in
    subst (λ (x : Kind). value_reading x (cell_value (cell.Int z)) ≡ Some (cell.Int z)) same (rw h refl)
cell_value-back k (cell.Number z) h e = let same : kind.Number ≡ k = cc in
    subst (λ (x : Kind). value_reading x (cell_value (cell.Number z)) ≡ Some (cell.Number z)) same
    (ap (option_map cell.Number) (number_text-back z h))
cell_value-back k (cell.Truth b) h e = let same : kind.Boolean ≡ k = cc in
    subst (λ (x : Kind). value_reading x (cell_value (cell.Truth b)) ≡ Some (cell.Truth b)) same refl
cell_value-back k (cell.Date day) h e = let same : kind.Date ≡ k = cc in
    subst (λ (x : Kind). value_reading x (cell_value (cell.Date day)) ≡ Some (cell.Date day)) same
    (ap (option_map cell.Date) (date_text-back day h))
cell_value-back k (cell.Time second) h e = let same : kind.Time ≡ k = cc in
    subst (λ (x : Kind). value_reading x (cell_value (cell.Time second)) ≡ Some (cell.Time second)) same
    (ap (option_map cell.Time) (clock_text-back second h))
cell_value-back k (cell.Stamp seconds) h e = let same : kind.Datetime ≡ k = cc in
    subst (λ (x : Kind). value_reading x (cell_value (cell.Stamp seconds)) ≡ Some (cell.Stamp seconds)) same
    (ap (option_map cell.Stamp) (stamp_reading-back seconds h))
cell_value-back k (cell.Year year) h e = let same : kind.Year ≡ k = cc in let small : leb year 9999 ≡ true =
    le-leb year 9999 h in subst (λ (x : Kind). value_reading x (cell_value (cell.Year year)) ≡ Some (cell.Year year))
    same (rw small refl)
cell_value-back k (cell.YearMonth year month) h e = let same : kind.YearMonth ≡ k = cc in
    subst (λ (x : Kind). value_reading x (cell_value (cell.YearMonth year month)) ≡ Some (cell.YearMonth year month))
    same (ap (option_map (λ (m : ℕ × ℕ). cell.YearMonth m.0 m.1)) (year_month_text-back year month h.0 h.1 h.2))

-- The cell of a value reads back from its own JSON value.
pub value_reading-cell_value : (k : Kind) (value : Json) (c : Cell) → value_reading k value ≡ Some c
    → value_reading k (cell_value c) ≡ Some c
value_reading-cell_value k value c e =
    let of = value_reading-IsOf k value c e in
    cell_value-back k c of.fits of.kind

-- A reading of a value is a value of some type.
pub value_reading-IsValue : (k : Kind) (value : Json) (c : Cell) → value_reading k value ≡ Some c → IsValue c
value_reading-IsValue k value c e = Fits-IsValue c (value_reading-IsOf k value c e).fits

-- ---- in a field

text_record : (field : FieldValue) (text : List ℕ)
    → record_reading field (json.Text text)
    ≡ kept field.constraints (value_reading (kind_of field.form) (json.Text text))
unfolding out-Json denote.Hole.Carrier.out
text_record field text = refl

kept-some : (constraints : Constraints) (c : Cell) → constraint_fault constraints c ≡ None
    → kept constraints (Some c) ≡ Ok c
kept-some constraints c e = rw e refl

-- a cell whose JSON value is a text
abbrev pub IsWritten : Cell → List ℕ → Type 0
IsWritten c text = (json.Text text ≡ cell_value c) × ((field : FieldValue) → Accepts field c
    → record_reading field (json.Text text) ≡ Ok c)

written : (c : Cell) (text : List ℕ) → Fits c → json.Text text ≡ cell_value c → (field : FieldValue)
    → (kind_of_cell c ≡ Some (kind_of field.form)) × (constraint_fault field.constraints c ≡ None)
    → record_reading field (json.Text text) ≡ Ok c
written c text h same field accepts =
    text_record field text ∙ ap (λ v. kept field.constraints (value_reading (kind_of field.form) v)) same
    ∙ ap (kept field.constraints) (cell_value-back (kind_of field.form) c h accepts.0)
    ∙ kept-some field.constraints c accepts.1

pub text_cell : (c : Cell) (text : List ℕ) → (c ≡ cell.Null → ⊥) → ((z : ℤ) → c ≡ cell.Int z → ⊥)
    → ((b : Bool) → c ≡ cell.Truth b → ⊥) → ((year : ℕ) → c ≡ cell.Year year → ⊥) → IsValue c → text ≡ cell_text c
    → IsWritten c text
text_cell cell.Null text a b d f h e = absurd (a refl)
text_cell (cell.Int z) text a b d f h e = absurd (b z refl)
text_cell (cell.Truth t) text a b d f h e = absurd (d t refl)
text_cell (cell.Year year) text a b d f h e = absurd (f year refl)
text_cell (cell.Text t) text a b d f h e = (ap json.Text e, written (cell.Text t) text h (ap json.Text e))
text_cell (cell.Number z) text a b d f h e = (ap json.Text e, written (cell.Number z) text h (ap json.Text e))
text_cell (cell.Date day) text a b d f h e = (ap json.Text e, written (cell.Date day) text h (ap json.Text e))
text_cell (cell.Time second) text a b d f h e = (ap json.Text e, written (cell.Time second) text h (ap json.Text e))
text_cell (cell.Stamp seconds) text a b d f h e = (ap json.Text e, written (cell.Stamp seconds) text h (ap json.Text e))
text_cell (cell.YearMonth year month) text a b d f h e =
    (ap json.Text e, written (cell.YearMonth year month) text h (ap json.Text e))

kept-same : (constraints : Constraints) (c read : Cell) → kept constraints (Some c) ≡ Ok read → c ≡ read
kept-same constraints c read e = by_fault (constraint_fault constraints c) refl
  where
    by_fault : (o : Option CellFault) → constraint_fault constraints c ≡ o → c ≡ read
    by_fault None none = let same = kept-some constraints c none in cc
    by_fault (Some fault) some = let refused : kept constraints (Some c) ≡ Err fault = rw some refl in cc

-- A cell that keeps the constraints is a value, if the reading is one.
pub kept-IsValue : (result : Result Cell CellError) (constraints : Constraints) (read : Option Cell)
    → IfOk result (λ c. kept constraints read ≡ Ok c) → ((c : Cell) → read ≡ Some c → IsValue c) → IfOk result IsValue
kept-IsValue (Err error) constraints read h values = tt
kept-IsValue (Ok c) constraints None h values = cc
kept-IsValue (Ok c) constraints (Some found) h values =
    subst IsValue (kept-same constraints found c h) (values found refl)

pub text_reading-IsValue : (f : Form) (text : List ℕ) (read : Option Cell) → read ≡ text_reading f text → (c : Cell)
    → read ≡ Some c → IsValue c
text_reading-IsValue f text read e c h = Fits-IsValue c (text_reading-IsOf f text c (sym e ∙ h)).fits

pub value_read-IsValue : (k : Kind) (value : Json) (read : Option Cell) → read ≡ value_reading k value → (c : Cell)
    → read ≡ Some c → IsValue c
value_read-IsValue k value read e c h = value_reading-IsValue k value c (sym e ∙ h)

null_back : (value : Json) → out-Json value ≡ Json-F.Null → value ≡ json.Null
null_back value e = search (rules, the_lemmas)

-- A value that isn't null is read by the field's type.
pub record_reading-other : (field : FieldValue) (value : Json) → (value ≡ json.Null → ⊥)
    → record_reading field value ≡ kept field.constraints (value_reading (kind_of field.form) value)
record_reading-other field value some = by_value (out-Json value) refl
  where
    by_value : (v : Json-F Json) → out-Json value ≡ v
        → record_reading_in field value v ≡ kept field.constraints (value_reading (kind_of field.form) value)
    by_value Json-F.Null e = absurd (some (null_back value e))
    by_value (Json-F.Truth b) e = refl
    by_value (Json-F.Whole z) e = refl
    by_value (Json-F.Text text) e = refl
    by_value (Json-F.List items) e = refl
    by_value (Json-F.Map entries) e = refl

pub of_json-answers : (field : FieldValue) (own : Form) (constraints : Constraints) (value : Json)
    (read : Option Cell) (result : Result Cell CellError) → field.form ≡ own → field.constraints ≡ constraints
    → (value ≡ json.Null → ⊥) → read ≡ value_reading (kind_of own) value
    → IfOk result (λ c. kept constraints read ≡ Ok c) → IfErr result (IsFault (kept constraints read))
    → IfOk result (λ c. record_reading field value ≡ Ok c) × IfErr result (IsFault (record_reading field value))
of_json-answers field own constraints value read result f k some e ok err =
    let same : kept constraints read ≡ record_reading field value =
    ap (kept constraints) e ∙ ap (λ (x : Form). kept constraints (value_reading (kind_of x) value)) (sym f)
    ∙ ap (λ (x : Constraints). kept x (value_reading (kind_of field.form) value)) (sym k)
    ∙ sym (record_reading-other field value some) in (
      subst (λ (r : Result Cell CellFault). IfOk result (λ c. r ≡ Ok c)) same ok,
      subst
          (λ (r : Result Cell CellFault). IfErr result (IsFault r)) same err,
    )

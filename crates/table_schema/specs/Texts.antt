-- The grammar of the texts of cells by their types (Table Schema v1, "Types and formats"), as productions: the
-- characters that a text of a type consists of, and its cell. Dates and times have the extended format of ISO 8601, on
-- the proleptic Gregorian calendar, with years of four digits. The grammar of whole numbers and of numbers is in
-- lexical_forms.
use Rattle.std.specs.Prelude.{◌≡◌, ◌⊎◌, ℕ, ◌+◌, ◌*◌, ◌<◌, ◌≤◌, Bool, true, false, List, [], ◌++◌, Contains, codes}
use Rattle.std.specs.Prelude.{ℤ, pos, ◌+ℤ◌, ◌*ℤ◌}
use Rattle.std.specs.Str.{chars}
use Rattle.jiff_core.specs.Calendar.{days_from_civil}
use Rattle.lexical_forms.specs.Forms.{IsInteger, IsNumber, IsSpelling}
use Rattle.lexical_forms.specs.declared.form.NumberForm.{NumberForm}
use Rattle.portal_base.specs.MomentReading.{has_day}
use Rattle.portal_base.specs.MomentText.{two_digits, four_digits}
use Rattle.table_schema.specs.Constraint.{keeps_length, keeps_range, keeps_enum}
use Rattle.table_schema.specs.Field.{FieldValue}
use Rattle.table_schema.specs.declared.cell.Cell.{Cell}
use Rattle.table_schema.specs.declared.cell.Cell.TheVariants as cell
use Rattle.table_schema.specs.declared.cell.CellFault.{CellFault}
use Rattle.table_schema.specs.declared.cell.CellFault.TheVariants as fault
use Rattle.table_schema.specs.declared.constraint.Constraints.{Constraints}
use Rattle.table_schema.specs.declared.form.Form.{Form}
use Rattle.table_schema.specs.declared.form.Form.TheVariants as form
use Rattle.table_schema.specs.declared.form.Truths.{Truths}

-- ---- dates and times

-- `YYYY-MM-DD`, of a day that the calendar has: days since 1970-01-01
pub record IsDateText (text : List ℕ) (day : ℤ) : Type 0 where
  pub year : ℕ
  pub month : ℕ
  pub date : ℕ
  pub cut : text ≡ four_digits year ++ codes "-" ++ two_digits month ++ codes "-" ++ two_digits date
  pub four : year ≤ 9999
  pub there : has_day year month date ≡ true
  pub value : day ≡ days_from_civil (pos year) month date

-- `hh:mm:ss`, from 00:00:00 to 23:59:59: seconds since midnight
pub record IsTimeText (text : List ℕ) (seconds : ℕ) : Type 0 where
  pub hour : ℕ
  pub minute : ℕ
  pub second : ℕ
  pub cut : text ≡ two_digits hour ++ codes ":" ++ two_digits minute ++ codes ":" ++ two_digits second
  pub hours : hour < 24
  pub minutes : minute < 60
  pub in_minute : second < 60
  pub value : seconds ≡ hour * 3600 + minute * 60 + second

-- A date, `T` or one space, a time of day, and `Z` or nothing: seconds since 1970-01-01T00:00:00.
pub record IsStampText (text : List ℕ) (seconds : ℤ) : Type 0 where
  pub date : List ℕ
  pub between : List ℕ
  pub time : List ℕ
  pub zone : List ℕ
  pub day : ℤ
  pub second : ℕ
  pub cut : text ≡ date ++ between ++ time ++ zone
  pub dated : IsDateText date day
  pub marked : (between ≡ codes "T") ⊎ (between ≡ codes " ")
  pub timed : IsTimeText time second
  pub zoned : (zone ≡ []) ⊎ (zone ≡ codes "Z")
  pub value : seconds ≡ day *ℤ pos 86400 +ℤ pos second

-- `YYYY`
pub record IsYearText (text : List ℕ) (year : ℕ) : Type 0 where
  pub cut : text ≡ four_digits year
  pub four : year ≤ 9999

-- `YYYY-MM`
pub record IsYearMonthText (text : List ℕ) (year month : ℕ) : Type 0 where
  pub cut : text ≡ four_digits year ++ codes "-" ++ two_digits month
  pub four : year ≤ 9999
  pub first : 1 ≤ month
  pub last : month ≤ 12

-- ---- truth values

-- One of the true texts, or one of the false texts that isn't one of the true ones.
pub data IsTruthText (truths : Truths) : List ℕ → Bool → Type 0 where
  yes : (text : List ℕ) → Contains truths.true_values text → IsTruthText truths text true
  no : (text : List ℕ) → (Contains truths.true_values text → ⊥) → Contains truths.false_values text
      → IsTruthText truths text false

-- ---- cells

-- A text of the type is a text of this cell. Texts of whole numbers and of numbers are lists of characters, and the
-- others are lists of bytes.
pub data IsCellText : Form → List ℕ → Cell → Type 0 where
  string : (text : List ℕ) → IsCellText form.Text text (cell.Text text)
  integer : (bare : Bool) (text : List ℕ) (z : ℤ) → IsInteger bare (chars text) z
      → IsCellText (form.Integer bare) text (cell.Int z)
  number : (spelling : NumberForm) (text : List ℕ) (billionths : ℤ) → IsNumber spelling (chars text) billionths
      → IsCellText (form.Number spelling) text (cell.Number billionths)
  boolean : (truths : Truths) (text : List ℕ) (b : Bool) → IsTruthText truths text b
      → IsCellText (form.Boolean truths) text (cell.Truth b)
  date : (text : List ℕ) (day : ℤ) → IsDateText text day → IsCellText form.Date text (cell.Date day)
  time : (text : List ℕ) (second : ℕ) → IsTimeText text second → IsCellText form.Time text (cell.Time second)
  datetime : (text : List ℕ) (seconds : ℤ) → IsStampText text seconds
      → IsCellText form.Datetime text (cell.Stamp seconds)
  year : (text : List ℕ) (year : ℕ) → IsYearText text year → IsCellText form.Year text (cell.Year year)
  yearmonth : (text : List ℕ) (year month : ℕ) → IsYearMonthText text year month
      → IsCellText form.YearMonth text (cell.YearMonth year month)

-- If the type is that of numbers, its spelling is one that a descriptor can give.
abbrev pub IsSpelled : Form → Type 0
IsSpelled (form.Number spelling) = IsSpelling spelling
IsSpelled other = Unit {0}

-- ---- in a field

-- the text is one of the field's missing values
abbrev pub IsMissing : FieldValue → List ℕ → Type 0
IsMissing field text = Contains field.missing text

-- the cell keeps every constraint of the field
pub record Keeps (constraints : Constraints) (c : Cell) : Type 0 where
  pub length : keeps_length constraints c ≡ true
  pub range : keeps_range constraints c ≡ true
  pub allowed : keeps_enum constraints c ≡ true

-- The cell that a text reads as: Null if it is a missing value and the field is neither required nor in the primary
-- key, and otherwise the cell of its type, if that keeps the constraints.
pub data IsReading (field : FieldValue) (text : List ℕ) : Cell → Type 0 where
  null : IsMissing field text → field.constraints.required ≡ false → field.in_key ≡ false
      → IsReading field text cell.Null
  value : (c : Cell) → (IsMissing field text → ⊥) → IsCellText field.form text c → Keeps field.constraints c
      → IsReading field text c

-- The fault that a text fails with: it is a missing value and a value is required, it isn't a text of the type, or its
-- cell breaks a constraint, of which the first counts.
pub data IsFailure (field : FieldValue) (text : List ℕ) : CellFault → Type 0 where
  required : IsMissing field text → (field.constraints.required ≡ true) ⊎ (field.in_key ≡ true)
      → IsFailure field text fault.Required
  not_of_type : (IsMissing field text → ⊥) → ((c : Cell) → IsCellText field.form text c → ⊥)
      → IsFailure field text fault.NotOfType
  length : (c : Cell) → (IsMissing field text → ⊥) → IsCellText field.form text c
      → keeps_length field.constraints c ≡ false → IsFailure field text fault.Length
  range : (c : Cell) → (IsMissing field text → ⊥) → IsCellText field.form text c
      → keeps_length field.constraints c ≡ true → keeps_range field.constraints c ≡ false
      → IsFailure field text fault.Range
  not_in_enum : (c : Cell) → (IsMissing field text → ⊥) → IsCellText field.form text c
      → keeps_length field.constraints c ≡ true → keeps_range field.constraints c ≡ true
      → keeps_enum field.constraints c ≡ false → IsFailure field text fault.NotInEnum

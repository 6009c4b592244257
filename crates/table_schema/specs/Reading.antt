-- What texts and values are read as in a field (Table Schema v1): a cell, or the first rule that is broken.
use Rattle.std.specs.Prelude.{◌≡◌, ◌⊎◌, ℕ, ◌^◌, nat_lt, nat_le, Bool, true, false, ◌||◌, if◌then◌else◌, List, Option}
use Rattle.std.specs.Prelude.{Some, None, option_map, Result, Ok, Err, ℤ, pos, ◌*ℤ◌, unsigned_abs}
use Rattle.std.specs.Str.{chars}
use Rattle.portal_base.specs.Calendar.{date_reading, time_reading, year_reading, yearmonth_reading}
use Rattle.portal_base.specs.declared.json_value.Json.{Json, out-Json}
use Rattle.portal_base.specs.declared.json_value.Json.TheOpen.{Json-F}
use Rattle.table_schema.specs.declared.cell.Cell.{Cell}
use Rattle.table_schema.specs.declared.cell.Cell.TheVariants as cell
use Rattle.table_schema.specs.declared.cell.CellFault.{CellFault}
use Rattle.table_schema.specs.declared.cell.CellFault.TheVariants.{NotOfType, Required}
use Rattle.table_schema.specs.declared.cell.CellError.{CellError}
use Rattle.table_schema.specs.declared.cell.CellError.TheVariants.{Fault, OutOfMemory}
use Rattle.table_schema.specs.declared.constraint.Constraints.{Constraints}
use Rattle.table_schema.specs.declared.form.Form.{Form}
use Rattle.table_schema.specs.declared.form.Form.TheVariants as form
use Rattle.table_schema.specs.declared.form.Kind.{Kind}
use Rattle.table_schema.specs.declared.form.Kind.TheVariants as kind
use Rattle.table_schema.specs.Constraint.{constraint_fault}
use Rattle.table_schema.specs.Field.{FieldValue}
use Rattle.table_schema.specs.Form.{kind_of}
use Rattle.lexical_forms.specs.Number.{integer_reading, number_reading, i64_only, default_spelling}
use Rattle.table_schema.specs.Stamp.{stamp_reading}
use Rattle.table_schema.specs.Truth.{is_among, truth_reading, default_trues, default_falses}

-- ---- by type alone

-- The cell of a text, by the type and its options.
abbrev pub text_reading : Form → List ℕ → Option Cell
text_reading form.Text text = Some (cell.Text text)
text_reading (form.Integer bare) text = option_map cell.Int (integer_reading bare (chars text))
text_reading (form.Number spelling) text = option_map cell.Number (number_reading spelling (chars text))
text_reading (form.Boolean truths) text =
    option_map cell.Truth (truth_reading truths.true_values truths.false_values text)
text_reading form.Date text = option_map cell.Date (date_reading text)
text_reading form.Time text = option_map cell.Time (time_reading text)
text_reading form.Datetime text = option_map cell.Stamp (stamp_reading text)
text_reading form.Year text = option_map cell.Year (year_reading text)
text_reading form.YearMonth text = option_map (λ m. cell.YearMonth m.0 m.1) (yearmonth_reading text)

-- a type with its default options
abbrev pub default_form : Kind → Form
default_form kind.Text = form.Text
default_form kind.Integer = form.Integer true
default_form kind.Number = form.Number default_spelling
default_form kind.Boolean = form.Boolean (record { true_values = default_trues; false_values = default_falses })
default_form kind.Date = form.Date
default_form kind.Time = form.Time
default_form kind.Datetime = form.Datetime
default_form kind.Year = form.Year
default_form kind.YearMonth = form.YearMonth

-- The cell of a JSON whole number: an integer of 64 bits, a number of at most 18 digits, or a year.
abbrev pub whole_cell : Kind → ℤ → Option Cell
whole_cell kind.Integer z = option_map cell.Int (i64_only z)
whole_cell kind.Number z =
    if nat_lt (unsigned_abs z) (10 ^ 18) then Some (cell.Number (z *ℤ pos (10 ^ 9))) else None
whole_cell kind.Year (pos n) = if nat_le n 9999 then Some (cell.Year n) else None
whole_cell other z = None

abbrev pub truth_cell : Kind → Bool → Option Cell
truth_cell kind.Boolean b = Some (cell.Truth b)
truth_cell other b = None

-- The cell of a JSON value of the type. Texts are read by the default options.
abbrev pub value_in : Kind → Json-F Json → Option Cell
value_in k Json-F.Null = None
value_in k (Json-F.Truth b) = truth_cell k b
value_in k (Json-F.Whole z) = whole_cell k z
value_in k (Json-F.Text text) = text_reading (default_form k) text
value_in k (Json-F.List items) = None
value_in k (Json-F.Map entries) = None

abbrev pub value_reading : Kind → Json → Option Cell
value_reading k value = value_in k (out-Json value)

-- ---- in a field

-- Null, unless a value is required
abbrev pub null_reading : Bool → Result Cell CellFault
null_reading required = if required then Err Required else Ok cell.Null

-- the cell, if there is one and it keeps the constraints of the field
abbrev pub kept : Constraints → Option Cell → Result Cell CellFault
kept constraints None = Err NotOfType
kept constraints (Some c) = or_fault c (constraint_fault constraints c)
  where
    or_fault : Cell → Option CellFault → Result Cell CellFault
    or_fault cell None = Ok cell
    or_fault cell (Some fault) = Err fault

-- The cell of a text in a file. A missing value is an error if the field is required or in the primary key.
abbrev pub cell_reading : FieldValue → List ℕ → Result Cell CellFault
cell_reading field text =
    if is_among field.missing text then null_reading (field.constraints.required || field.in_key)
    else kept field.constraints (text_reading field.form text)

abbrev pub record_reading_in : FieldValue → Json → Json-F Json → Result Cell CellFault
record_reading_in field value Json-F.Null = null_reading field.constraints.required
record_reading_in field value other = kept field.constraints (value_reading (kind_of field.form) value)

-- The cell of a JSON value in a record.
abbrev pub record_reading : FieldValue → Json → Result Cell CellFault
record_reading field value = record_reading_in field value (out-Json value)

-- the type of a cell, unless it is Null
abbrev pub kind_of_cell : Cell → Option Kind
kind_of_cell cell.Null = None
kind_of_cell (cell.Text text) = Some kind.Text
kind_of_cell (cell.Int z) = Some kind.Integer
kind_of_cell (cell.Number billionths) = Some kind.Number
kind_of_cell (cell.Truth b) = Some kind.Boolean
kind_of_cell (cell.Date day) = Some kind.Date
kind_of_cell (cell.Time second) = Some kind.Time
kind_of_cell (cell.Stamp seconds) = Some kind.Datetime
kind_of_cell (cell.Year year) = Some kind.Year
kind_of_cell (cell.YearMonth year month) = Some kind.YearMonth

-- The field accepts the cell: it is Null and no value is required, or it has the type and keeps the constraints.
abbrev pub Accepts : FieldValue → Cell → Type 0
Accepts field cell.Null = field.constraints.required ≡ false
Accepts field c =
    (kind_of_cell c ≡ Some (kind_of field.form)) × (constraint_fault field.constraints c ≡ None)

-- The text reads as the cell, or it fails with the fault.
abbrev pub Reads : FieldValue → List ℕ → Cell → Type 0
Reads field text cell = cell_reading field text ≡ Ok cell

abbrev pub Fails : FieldValue → List ℕ → CellFault → Type 0
Fails field text fault = cell_reading field text ≡ Err fault

-- one cell that it reads as, and no fault
pub record ReadsOnly (field : FieldValue) (text : List ℕ) (cell : Cell) : Type 0 where
  pub reads : Reads field text cell
  pub only : (other : Cell) → Reads field text other → other ≡ cell
  pub no_fault : (fault : CellFault) → Fails field text fault → ⊥

-- one fault that it fails with, and no cell
pub record FailsOnly (field : FieldValue) (text : List ℕ) (fault : CellFault) : Type 0 where
  pub fails : Fails field text fault
  pub only : (other : CellFault) → Fails field text other → other ≡ fault
  pub no_cell : (cell : Cell) → Reads field text cell → ⊥

abbrev pub HasOneAnswer : FieldValue → List ℕ → Type 0
HasOneAnswer field text = ((cell : Cell) × ReadsOnly field text cell)
    ⊎ ((fault : CellFault) × FailsOnly field text fault)

-- The error is the fault of the reading, unless memory ran out.
abbrev pub IsFault : Result Cell CellFault → CellError → Type 0
IsFault reading OutOfMemory = Unit {0}
IsFault reading (Fault fault) = reading ≡ Err fault

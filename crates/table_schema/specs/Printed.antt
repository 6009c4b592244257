-- The texts and the JSON values that cells are printed as.
use Rattle.std.specs.Prelude.{◌≤◌, ◌<◌, ℕ, ◌^◌, Bool, if◌then◌else◌, List, ◌++◌, codes, All, IfSome, decimal, ℤ, pos}
use Rattle.std.specs.Prelude.{◌+ℤ◌, unsigned_abs}
use Rattle.std.specs.Fmt.{signed_decimal}
use Rattle.lexical_forms.specs.NumberText.{number_text}
use Rattle.portal_base.specs.Calendar.{IsDay}
use Rattle.portal_base.specs.Moment.{IsMoment}
use Rattle.portal_base.specs.MomentText.{two_digits, four_digits, day_text, clock_text, moment_text}
use Rattle.portal_base.specs.declared.json_value.Json as json
use Rattle.portal_base.specs.declared.json_value.Json.{Json}
use Rattle.table_schema.specs.declared.cell.Cell.{Cell}
use Rattle.table_schema.specs.declared.cell.Cell.TheVariants as cell
use Rattle.table_schema.specs.declared.constraint.Constraints.{Constraints}

-- Null, or a value that some type of fields has.
abbrev pub IsValue : Cell → Type 0
IsValue cell.Null = Unit {0}
IsValue (cell.Text text) = Unit {0}
IsValue (cell.Int z) = Unit {0}
IsValue (cell.Number billionths) = unsigned_abs billionths < 10 ^ 27
IsValue (cell.Truth b) = Unit {0}
IsValue (cell.Date day) = IsDay day
IsValue (cell.Time second) = second < 86400
IsValue (cell.Stamp seconds) = IsMoment seconds
IsValue (cell.Year year) = year ≤ 9999
IsValue (cell.YearMonth year month) = (year ≤ 9999) × (1 ≤ month) × (month ≤ 12)

-- The bounds and the allowed cells of a field are such values.
abbrev pub HasValues : Constraints → Type 0
HasValues constraints =
    IfSome constraints.minimum IsValue × IfSome constraints.maximum IsValue × All IsValue constraints.allowed

-- `YYYY-MM-DD`, of days since 1970-01-01
abbrev pub date_text : ℤ → List ℕ
date_text day = day_text (unsigned_abs (day +ℤ pos 719528))

abbrev pub year_month_text : ℕ → ℕ → List ℕ
year_month_text year month = four_digits year ++ codes "-" ++ two_digits month

abbrev pub truth_text : Bool → List ℕ
truth_text b = if b then codes "true" else codes "false"

-- the text of a cell
unfoldable pub cell_text : Cell → List ℕ
cell_text cell.Null = codes "null"
cell_text (cell.Text text) = text
cell_text (cell.Int z) = signed_decimal z
cell_text (cell.Number billionths) = number_text billionths
cell_text (cell.Truth b) = truth_text b
cell_text (cell.Date day) = date_text day
cell_text (cell.Time second) = clock_text second
cell_text (cell.Stamp seconds) = moment_text seconds
cell_text (cell.Year year) = decimal year
cell_text (cell.YearMonth year month) = year_month_text year month

-- its JSON value: a number for whole numbers and years, and else a text
abbrev pub cell_value : Cell → Json
cell_value cell.Null = json.Null
cell_value (cell.Int z) = json.Whole z
cell_value (cell.Truth b) = json.Truth b
cell_value (cell.Year year) = json.Whole (pos year)
cell_value other = json.Text (cell_text other)

-- The text of a moment in the extended format of ISO 8601, section 5.4.2.1, on the proleptic Gregorian calendar.
use Rattle.std.specs.Prelude.{◌≡◌, ℕ, zero, suc, ◌+◌, ◌-◌, ◌/◌, ◌%◌, nat_lt, if◌then◌else◌, List, [], ◌∷◌, ◌++◌}
use Rattle.std.specs.Prelude.{codes, ℤ, pos, ◌-ℤ◌, unsigned_abs}
use Rattle.jiff.specs.Words.{civil_seconds}
use Rattle.jiff.specs.Names.{iso_datetime_text}
use Rattle.jiff.specs.declared.civil.datetimes.DateTime.{DateTime}
use Rattle.jiff_core.specs.Calendar.{days_in_year, days_in_month}
use Rattle.portal_base.specs.Moment.{first_moment}

-- The text is that of a date and time of day `seconds` seconds after 1970-01-01T00:00:00, without a fraction of a
-- second: its year in four digits, month, day, `T`, hour, minute and second, as `YYYY-MM-DDThh:mm:ss`.
abbrev pub IsMomentText : ℤ → List ℕ → Type 0
IsMomentText seconds text =
    (at : DateTime) × (civil_seconds at ≡ seconds) × (at.time.subsec_nanosecond ≡ 0) × (text ≡ iso_datetime_text at)

-- a number below 100 in two decimal digits
abbrev pub two_digits : ℕ → List ℕ
two_digits n = (48 + n / 10) ∷ (48 + n % 10) ∷ []

-- a number below 10000 in four decimal digits
abbrev pub four_digits : ℕ → List ℕ
four_digits n = two_digits (n / 100) ++ two_digits (n % 100)

-- Counts off consecutive units, such as years or months, from a first one on, while the remaining days fill the next
-- unit. The result is the unit at which this ends, and the remaining days. The first number is the maximum of units.
unfoldable pub count_off : (ℕ → ℕ) → ℕ → ℕ → ℕ → ℕ × ℕ
count_off days_in zero unit days = (unit, days)
count_off days_in (suc more) unit days =
    if nat_lt days (days_in unit) then (unit, days)
    else count_off days_in more (suc unit) (days - days_in unit)

-- The year of a day, counted from 0000-01-01 as day 0, and the number of days of that year before it.
abbrev pub year_of_day : ℕ → ℕ × ℕ
year_of_day day = count_off (λ year. days_in_year (pos year)) 9999 0 day

-- The month of a day of the year, counted from 1 January as day 0, and the number of days of that month before it.
abbrev pub month_of_day : ℕ → ℕ → ℕ × ℕ
month_of_day year day = count_off (days_in_month (pos year)) 11 1 day

-- `YYYY-MM-DD`: the date of a day, counted from 0000-01-01 as day 0.
abbrev pub day_text : ℕ → List ℕ
day_text day =
    let year = year_of_day day in
    let month = month_of_day year.0 year.1 in
    four_digits year.0 ++ codes "-" ++ two_digits month.0 ++ codes "-" ++ two_digits (month.1 + 1)

-- `hh:mm:ss`: the time of day `second` seconds after midnight.
abbrev pub clock_text : ℕ → List ℕ
clock_text second = two_digits (second / 3600) ++ codes ":" ++ two_digits (second / 60 % 60) ++ codes ":"
    ++ two_digits (second % 60)

-- The seconds since 0000-01-01T00:00:00 of a moment, which is given in seconds since 1970-01-01T00:00:00.
abbrev pub calendar_seconds : ℤ → ℕ
calendar_seconds seconds = unsigned_abs (seconds -ℤ first_moment)

-- `YYYY-MM-DDThh:mm:ss`: the text of the moment `seconds` seconds after 1970-01-01T00:00:00. For seconds before the
-- first moment or after the last it is some list without a meaning.
unfoldable pub moment_text : ℤ → List ℕ
moment_text seconds =
    day_text (calendar_seconds seconds / 86400) ++ codes "T" ++ clock_text (calendar_seconds seconds % 86400)

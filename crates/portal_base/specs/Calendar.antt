-- The texts of dates, times of day, years and year-months (ISO 8601, sections 5.2.1 and 5.3.1, extended format), on
-- the proleptic Gregorian calendar, with years of four digits. Every definition that reads a date or a time uses these.
use Rattle.std.specs.Prelude.{ℕ, ◌+◌, ◌*◌, Bool, ◌&&◌, nat_le, if◌then◌else◌, List, codes, ℤ, pos, negsuc, ◌+ℤ◌}
use Rattle.std.specs.Prelude.{◌*ℤ◌, ◌≤ℤ◌, Option, Some, None, option_map, option_and_then}
use Rattle.jiff_core.specs.Calendar.{days_from_civil}
use Rattle.portal_base.specs.MomentReading.{fits_form, number_at, year_in, has_day, has_time}

-- 0000-01-01 to 9999-12-31, as days since 1970-01-01
abbrev pub IsDay : ℤ → Type 0
IsDay day = (negsuc 719527 ≤ℤ day) × (day ≤ℤ pos 2932896)

-- the month is 1 to 12
abbrev pub has_month : ℕ → Bool
has_month month = nat_le 1 month && nat_le month 12

-- a date, as days since 1970-01-01, if the calendar has it
abbrev pub day_number : ℕ → ℕ → ℕ → Option ℤ
day_number year month day =
    if has_day year month day then Some (days_from_civil (pos year) month day) else None

-- `YYYY-MM-DD`, as days since 1970-01-01
abbrev pub day_in : List ℕ → Option ℤ
day_in text = day_number (year_in text) (number_at 5 text) (number_at 8 text)

unfoldable pub date_reading : List ℕ → Option ℤ
date_reading text = if fits_form (codes "0000-00-00") text then day_in text else None

-- `hh:mm:ss`, as seconds since midnight
abbrev pub second_in : List ℕ → Option ℕ
second_in text =
    if has_time (number_at 0 text) (number_at 3 text) (number_at 6 text)
    then Some (number_at 0 text * 3600 + number_at 3 text * 60 + number_at 6 text) else None

unfoldable pub time_reading : List ℕ → Option ℕ
time_reading text = if fits_form (codes "00:00:00") text then second_in text else None

-- `hh:mm`, as minutes since midnight
unfoldable pub minute_reading : List ℕ → Option ℕ
minute_reading text =
    if fits_form (codes "00:00") text && has_time (number_at 0 text) (number_at 3 text) 0
    then Some (number_at 0 text * 60 + number_at 3 text) else None

-- `YYYY`
unfoldable pub year_reading : List ℕ → Option ℕ
year_reading text = if fits_form (codes "0000") text then Some (year_in text) else None

-- `YYYY-MM`
unfoldable pub yearmonth_reading : List ℕ → Option (ℕ × ℕ)
yearmonth_reading text =
    if fits_form (codes "0000-00") text && has_month (number_at 5 text)
    then Some (year_in text, number_at 5 text) else None

-- a day and the seconds since its midnight, as seconds since 1970-01-01T00:00:00
abbrev pub seconds_of : ℤ → ℕ → ℤ
seconds_of day second = day *ℤ pos 86400 +ℤ pos second

-- the moment of the text of a date and that of a time of day
unfoldable pub moment_at : List ℕ → List ℕ → Option ℤ
moment_at date time = option_and_then (λ day. option_map (seconds_of day) (time_reading time)) (date_reading date)

-- The texts that are read as moments: the extended format of ISO 8601, section 5.4.2.1, on the proleptic Gregorian
-- calendar, with a year of four digits, without a fraction and without a sign for UTC.
use Rattle.std.specs.Prelude.{ℕ, ◌+◌, ◌-◌, ◌*◌, Bool, true, false, ◌&&◌, ◌==◌, nat_lt, nat_le, if◌then◌else◌, List}
use Rattle.std.specs.Prelude.{[], ◌∷◌, codes, slice_index, ℤ, pos, ◌+ℤ◌, ◌*ℤ◌, Option, Some, None}
use Rattle.jiff_core.specs.Calendar.{days_in_month, days_from_civil}

-- `YYYY-MM-DDThh:mm:ss`, where a 0 stands for any decimal digit
abbrev pub moment_form : List ℕ
moment_form = codes "0000-00-00T00:00:00"

-- an ASCII digit where the form has a 0, and otherwise the character of the form
abbrev pub fits_character : ℕ → ℕ → Bool
fits_character form_char char =
    if form_char == 48 then nat_le 48 char && nat_le char 57 else char == form_char

-- The text has the length of the form, and each of its characters fits.
abbrev pub fits_form : List ℕ → List ℕ → Bool
fits_form [] [] = true
fits_form [] (char ∷ text) = false
fits_form (form_char ∷ form) [] = false
fits_form (form_char ∷ form) (char ∷ text) = fits_character form_char char && fits_form form text

-- the number of the two decimal digits from a position on; the first character has position 0
abbrev pub number_at : ℕ → List ℕ → ℕ
number_at position text = (slice_index text position - 48) * 10 + (slice_index text (position + 1) - 48)

-- the year, month and day of the text
abbrev pub year_in : List ℕ → ℕ
year_in text = number_at 0 text * 100 + number_at 2 text

abbrev pub month_in : List ℕ → ℕ
month_in text = number_at 5 text

abbrev pub day_in : List ℕ → ℕ
day_in text = number_at 8 text

-- its hour, minute and second
abbrev pub hour_in : List ℕ → ℕ
hour_in text = number_at 11 text

abbrev pub minute_in : List ℕ → ℕ
minute_in text = number_at 14 text

abbrev pub second_in : List ℕ → ℕ
second_in text = number_at 17 text

-- The calendar has the day: the month is 1 to 12, and the day is 1 to the last one of that month in that year.
abbrev pub has_day : ℕ → ℕ → ℕ → Bool
has_day year month day =
    nat_le 1 month && nat_le month 12 && nat_le 1 day && nat_le day (days_in_month (pos year) month)

-- The clock has the time: 00:00:00 to 23:59:59, without the second 60 and the hour 24.
abbrev pub has_time : ℕ → ℕ → ℕ → Bool
has_time hour minute second = nat_lt hour 24 && nat_lt minute 60 && nat_lt second 60

-- the day and the time of day of the text exist
abbrev pub names_moment : List ℕ → Bool
names_moment text =
    has_day (year_in text) (month_in text) (day_in text) && has_time (hour_in text) (minute_in text) (second_in text)

-- the seconds from 1970-01-01T00:00:00 to that day and time of day
abbrev pub seconds_in : List ℕ → ℤ
seconds_in text =
    days_from_civil (pos (year_in text)) (month_in text) (day_in text) *ℤ pos 86400
    +ℤ pos (hour_in text * 3600 + minute_in text * 60 + second_in text)

-- A text is read as the moment of its day and time of day, if it has the form and they exist.
unfoldable pub moment_reading : List ℕ → Option ℤ
moment_reading text =
    if fits_form moment_form text && names_moment text then Some (seconds_in text) else None

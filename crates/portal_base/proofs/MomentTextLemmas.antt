-- The text of a moment's date and time of day is the one that `moment_text` counts off.
use Rattle.std.proofs.Common.{◌≡◌, ℕ, zero, suc, ◌+◌, ◌-◌, ◌*◌, ◌/◌, ◌%◌, ◌<◌, ◌≤◌, nat_lt, true, false, refl, sym}
use Rattle.std.proofs.Common.{ap, ◌∙◌, arith, List, ◌++◌, ℤ, pos, ◌+ℤ◌, ◌-ℤ◌, ◌*ℤ◌, ◌≤ℤ◌, unsigned_abs}
use Rattle.std.proofs.lemmas.Bool.Decides.{nat_tests}
use Rattle.std.proofs.lemmas.Int.{by_lt_z}
use Rattle.jiff_core.specs.declared.civil.datetime.DateTime.{DateTime}
use Rattle.jiff_core.specs.Calendar.{days_in_year, days_in_month, days_of_months, day_of_year, day_count, IsCivilDate}
use Rattle.jiff_core.specs.Date.{epoch_day}
use Rattle.jiff_core.specs.DateTime.{civil_seconds}
use Rattle.jiff_core.specs.Time.{time_seconds}
use Rattle.jiff_core.proofs.CalendarLemmas.{days_from_civil-day_count, days_of_months-zero, days_of_months_more}
use Rattle.jiff_core.proofs.CalendarLemmas.{day_count-next_year, day_count-day_of_year, day_count-lt_year}
use Rattle.jiff_core.proofs.CalendarLemmas.{day_of_year_bound}
use Rattle.jiff_core.proofs.DateLemmas.{civil}
use Rattle.jiff_core.proofs.MarchLemmas.{day_count-early}
use Rattle.jiff_core.proofs.SignedLemmas.{signed_arith, one_part}
use Rattle.std.specs.Prelude.{codes}
use Rattle.jiff.specs.Names.{iso_datetime_text}
use Rattle.portal_base.specs.Moment.{IsMoment, first_moment}
use Rattle.portal_base.specs.MomentText.{IsMomentText, two_digits, four_digits, count_off, year_of_day, month_of_day}
use Rattle.portal_base.specs.MomentText.{day_text, clock_text, calendar_seconds, moment_text}

-- the days of a number of units from a first one on
unfoldable pub total : (ℕ → ℕ) → ℕ → ℕ → ℕ
total days_in first zero = 0
total days_in first (suc more) = days_in first + total days_in (suc first) more

-- If the days fill `count` units and the rest is within the next one, the result is that unit and the rest.
count_off-total : (days_in : ℕ → ℕ) (most first units rest days : ℕ) → units ≤ most → rest < days_in (first + units)
    → days ≡ total days_in first units + rest → count_off days_in most first days ≡ (first + units, rest)
unfolding count_off total
count_off-total days_in zero first zero rest days h lt e =
    let same : days ≡ rest = omega arith in
    let none : first + 0 ≡ first = omega arith in
    cc
count_off-total days_in zero first (suc units) rest days h lt e = absurd (omega arith)
count_off-total days_in (suc most) first zero rest days h lt e =
    let same : days ≡ rest = omega arith in
    let none : first + 0 ≡ first = omega arith in
    let within : nat_lt days (days_in first) ≡ true = grind (arith, nat_tests, rw none at lt) in
    rw within (cc)
count_off-total days_in (suc most) first (suc units) rest days h lt e =
    let past : nat_lt days (days_in first) ≡ false = grind (arith, nat_tests) in
    let next : suc first + units ≡ first + suc units = omega arith in
    let left : days - days_in first ≡ total days_in (suc first) units + rest = omega arith in
    rw past (count_off-total days_in most (suc first) units rest (days - days_in first) (omega arith) (rw next lt)
    left ∙ ap (λ unit. (unit, rest)) next)

-- The days of consecutive years are the difference of their first days.
pub total-years : (first years : ℕ)
    → total (λ year. days_in_year (pos year)) first years + day_count (pos first) 1 1
    ≡ day_count (pos (first + years)) 1 1
unfolding total
total-years first zero = let none : first + 0 ≡ first = omega arith in rw none (omega arith)
total-years first (suc years) =
    let next : suc first + years ≡ first + suc years = omega arith in
    omega (
      arith,
      rw next at (total-years (suc first) years),
      day_count-next_year (pos first) (pos (suc first))
          (omega (arith, signed_arith)) (omega (arith, signed_arith)),
    )

-- The days of consecutive months are those of the calendar.
pub total-months : (year : ℤ) (before months : ℕ)
    → total (days_in_month year) (suc before) months + days_of_months year before
    ≡ days_of_months year (before + months)
unfolding total
total-months year before zero = let none : before + 0 ≡ before = omega arith in rw none (omega arith)
total-months year before (suc months) =
    let next : suc before + months ≡ before + suc months = omega arith in
    let back : suc before - 1 ≡ before = omega arith in
    let here = rw back at (days_of_months_more year (suc before) (omega arith)) in
    omega (arith, rw next at (total-months year (suc before) months), here)

pub day_count-year_zero : day_count (pos 0) 1 1 ≡ 3652425
day_count-year_zero = day_count-early (pos 0) 9999 1 1 refl (omega arith) (omega arith) (omega arith)

-- The year of a date's day is its year, and the rest is its day of the year.
year_of_day-date : (n m d day : ℕ) → n ≤ 9999 → IsCivilDate (pos n) m d → day + 3652425 ≡ day_count (pos n) m d
    → year_of_day day ≡ (n, day_of_year (pos n) m d - 1)
year_of_day-date n m d day h date e =
    let same : 0 + n ≡ n = omega arith in
    let bound = day_of_year_bound (pos n) m d date in
    let ordinal = day_count-day_of_year (pos n) m d date.2.0 in
    let years = total-years 0 n in
    count_off-total (λ year. days_in_year (pos year)) 9999 0 n (day_of_year (pos n) m d - 1) day h
    (rw same (omega (arith, date.2.0))) (omega (arith, rw same at years, day_count-year_zero))
    ∙ ap (λ year. (year, day_of_year (pos n) m d - 1)) same

-- The month of a day of the year is the date's month, and the rest is its day of the month.
month_of_day-date : (n m d : ℕ) → IsCivilDate (pos n) m d → month_of_day n (day_of_year (pos n) m d - 1) ≡ (m, d - 1)
month_of_day-date n m d date =
    let same : 1 + (m - 1) ≡ m = omega (arith, date.1.0) in
    let before : 0 + (m - 1) ≡ m - 1 = omega arith in
    let months = total-months (pos n) 0 (m - 1) in
    count_off-total (days_in_month (pos n)) 11 1 (m - 1) (d - 1) (day_of_year (pos n) m d - 1)
    (omega (arith, date.1.1)) (rw same (omega (arith, date.2.0, date.2.1)))
    (omega (arith, rw before at months, days_of_months-zero (pos n), date.2.0)) ∙ ap (λ month. (month, d - 1)) same

-- A date and time of day from the year 0000 on, as the numbers in its text.
abbrev pub parts_text : ℕ → ℕ → ℕ → ℕ → ℕ → ℕ → List ℕ
parts_text year month day hour minute second =
    four_digits year ++ codes "-" ++ two_digits month ++ codes "-" ++ two_digits day ++ codes "T" ++ two_digits hour
    ++ codes ":" ++ two_digits minute ++ codes ":" ++ two_digits second

pub iso_datetime_text-parts : (at : DateTime) (n : ℕ) → at.date.year ≡ pos n → at.time.subsec_nanosecond ≡ 0
    → iso_datetime_text at ≡ parts_text n at.date.month at.date.day at.time.hour at.time.minute at.time.second
iso_datetime_text-parts at n year whole = rw (year, whole) refl

-- The text of a day is that of its date.
day_text-date : (n m d day : ℕ) → n ≤ 9999 → IsCivilDate (pos n) m d → day + 3652425 ≡ day_count (pos n) m d
    → day_text day ≡ four_digits n ++ codes "-" ++ two_digits m ++ codes "-" ++ two_digits d
day_text-date n m d day h date e =
    let first : d - 1 + 1 ≡ d = omega (arith, date.2.0) in
    rw (year_of_day-date n m d day h date e, month_of_day-date n m d date, first) refl

-- The text of a second of the day is that of its hour, minute and second.
clock_text-parts : (h m s second : ℕ) → m < 60 → s < 60 → second ≡ h * 3600 + m * 60 + s
    → clock_text second ≡ two_digits h ++ codes ":" ++ two_digits m ++ codes ":" ++ two_digits s
clock_text-parts h m s second minute_in second_in e =
    let hour : second / 3600 ≡ h = omega arith in
    let minute : second / 60 % 60 ≡ m = omega arith in
    let last : second % 60 ≡ s = omega arith in
    rw (hour, minute, last) refl

pub civil_seconds-parts : (at : DateTime)
    → civil_seconds at ≡ epoch_day at.date *ℤ pos 86400 +ℤ pos (time_seconds at.time)
unfolding civil_seconds
civil_seconds-parts at = refl

-- No moment is in a year before 0000.
pub moment_year : (at : DateTime) → IsMoment (civil_seconds at) → pos 0 ≤ℤ at.date.year
moment_year at h =
    by_lt_z at.date.year (pos 0)
    (λ lt. absurd
    (omega (
      arith,
      signed_arith,
      civil_seconds-parts at,
      days_from_civil-day_count at.date.year at.date.month
          at.date.day,
      day_count-lt_year at.date.year at.date.month at.date.day (pos 0) 1 1 (civil at.date)
          (omega arith) lt,
      day_count-year_zero,
    )))
    (λ le. le)

-- The day and second of the calendar at a date and time of day from the year 0000 on.
calendar_seconds-parts : (at : DateTime) (seconds : ℤ) → IsMoment seconds → civil_seconds at ≡ seconds
    → calendar_seconds seconds + 3652425 * 86400 ≡ day_count at.date.year at.date.month at.date.day * 86400 +
    time_seconds at.time
calendar_seconds-parts at seconds h e =
    omega (
      arith,
      signed_arith,
      civil_seconds-parts at,
      days_from_civil-day_count at.date.year at.date.month
          at.date.day,
      one_part (seconds -ℤ first_moment),
    )

-- The text of a moment's date and time of day is the one that `moment_text` counts off.
iso_datetime_text-moment : (at : DateTime) (seconds : ℤ) → IsMoment seconds → civil_seconds at ≡ seconds
    → at.time.subsec_nanosecond ≡ 0 → iso_datetime_text at ≡ moment_text seconds
unfolding moment_text
iso_datetime_text-moment at seconds h e whole =
    let n = unsigned_abs at.date.year in
    let from_zero = moment_year at (rw e h) in
    let year : at.date.year ≡ pos n = omega (arith, signed_arith, one_part at.date.year) in
    let n_in : n ≤ 9999 = omega (arith, signed_arith, at.date.year_in) in
    let date : IsCivilDate (pos n) at.date.month at.date.day = rw year at (civil at.date) in
    let all = rw year at (calendar_seconds-parts at seconds h e) in
    let day : calendar_seconds seconds / 86400 + 3652425 ≡ day_count (pos n) at.date.month at.date.day =
    omega (arith, at.time.hour_in, at.time.minute_in, at.time.second_in) in
    let second : calendar_seconds seconds % 86400 ≡ at.time.hour * 3600 + at.time.minute * 60 + at.time.second =
    omega (arith, at.time.hour_in, at.time.minute_in, at.time.second_in) in
    let of_day = day_text-date n at.date.month at.date.day (calendar_seconds seconds / 86400) n_in date day in
    let of_clock = clock_text-parts at.time.hour at.time.minute at.time.second (calendar_seconds seconds % 86400)
    at.time.minute_in at.time.second_in second in
    iso_datetime_text-parts at n year whole
    ∙ sym (ap (λ text. text ++ codes "T" ++ clock_text (calendar_seconds seconds % 86400)) of_day
    ∙ ap (λ text. (four_digits n ++ codes "-" ++ two_digits at.date.month ++ codes "-" ++ two_digits at.date.day)
    ++ codes "T" ++ text) of_clock)

-- The text of a moment is `moment_text`.
pub IsMomentText-moment_text : (seconds : ℤ) (text : List ℕ) → IsMoment seconds → IsMomentText seconds text
    → text ≡ moment_text seconds
IsMomentText-moment_text seconds text h is = is.3 ∙ iso_datetime_text-moment is.0 seconds h is.1 is.2

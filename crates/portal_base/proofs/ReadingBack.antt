-- The text of a moment is read as that moment, and no other text is.
use Rattle.std.proofs.Common.{◌≡◌, ◌≢◌, ◌⊎◌, inl, inr, ℕ, zero, suc, ◌+◌, ◌-◌, ◌*◌, ◌/◌, ◌%◌, ◌<◌, ◌≤◌, true, false}
use Rattle.std.proofs.Common.{◌&&◌, nat_le, nat_lt, refl, sym, ap, ◌∙◌, subst, arith, List, [], ◌∷◌, ◌++◌, length}
use Rattle.std.proofs.Common.{get_or, ℤ, pos, ◌+ℤ◌, ◌-ℤ◌, ◌*ℤ◌, unsigned_abs, Some}
use Rattle.std.specs.Prelude.{codes}
use Rattle.std.proofs.lemmas.Bool.{and_from, le-leb, lt-ltb, cases_Bool, cases_lt}
use Rattle.std.proofs.lemmas.Bool.Decides.{nat_tests}
use Rattle.jiff_core.specs.declared.civil.date.Date.{Date}
use Rattle.jiff_core.specs.declared.civil.datetime.DateTime.{DateTime}
use Rattle.jiff_core.specs.declared.civil.time.Time.{Time}
use Rattle.jiff_core.specs.Calendar.{IsCivilDate, day_count, day_of_year, days_in_month, days_in_year, days_from_civil}
use Rattle.jiff_core.specs.DateTime.{civil_seconds}
use Rattle.jiff_core.proofs.CalendarLemmas.{day_count-day_of_year, day_count-end, days_from_civil-day_count}
use Rattle.jiff_core.proofs.CalendarLemmas.{days_in_month_bounds, days_of_months-zero, days_of_months_all}
use Rattle.jiff_core.proofs.DateLemmas.{civil}
use Rattle.jiff_core.proofs.SignedLemmas.{signed_arith, one_part}
use Rattle.portal_base.specs.Moment.{IsMoment, first_moment}
use Rattle.portal_base.specs.MomentReading.{fits_form, fits_character, moment_form, number_at}
use Rattle.portal_base.specs.MomentReading.{year_in, month_in, day_in}
use Rattle.portal_base.specs.MomentReading.{hour_in, minute_in, second_in, has_day, has_time, names_moment}
use Rattle.portal_base.specs.MomentReading.{seconds_in, moment_reading}
use Rattle.portal_base.specs.MomentText.{IsMomentText, calendar_seconds, two_digits, moment_text}
use Rattle.portal_base.proofs.FormLemmas.{fits_form-length, fits_form-digit, fits_form-at}
use Rattle.portal_base.proofs.MomentTextLemmas.{parts_text, iso_datetime_text-parts, civil_seconds-parts, moment_year}
use Rattle.portal_base.proofs.MomentTextLemmas.{total, total-months, total-years, day_count-year_zero}
use Rattle.portal_base.proofs.MomentTextLemmas.{IsMomentText-moment_text}
use Rattle.portal_base.proofs.ReadingLemmas.{has_day-is, le-pos, pos-le, moment_reading-named}
use Rattle.portal_base.proofs.ReadingLemmas.{moment_reading-other_form, moment_reading-unnamed, names_moment-is}
use Rattle.portal_base.proofs.ReadingLemmas.{number_at-bound, year_in-bound, IsMoment-named}

-- Two digits fit a form of two zeros.
fits_form-digits : (n : ℕ) (form rest : List ℕ) → n < 100 → fits_form form rest ≡ true
    → fits_form (48 ∷ 48 ∷ form) (two_digits n ++ rest) ≡ true
fits_form-digits n form rest h fits =
    and_from (fits_character 48 (48 + n / 10)) (fits_character 48 (48 + n % 10) && fits_form form rest)
    (digit (n / 10) (omega arith))
    (and_from (fits_character 48 (48 + n % 10)) (fits_form form rest) (digit (n % 10) (omega arith)) fits)
  where
    digit : (x : ℕ) → x < 10 → fits_character 48 (48 + x) ≡ true
    digit x lt = and_from (nat_le 48 (48 + x)) (nat_le (48 + x) 57) (le-leb 48 (48 + x) (omega arith))
        (le-leb (48 + x) 57 (omega arith))

-- The text of a day and a time of day has the form.
fits_form-parts : (y m d h n s : ℕ) → y < 10000 → m < 100 → d < 100 → h < 100 → n < 100 → s < 100
    → fits_form moment_form (parts_text y m d h n s) ≡ true
fits_form-parts y m d h n s year month day hour minute second =
    let second_fits = fits_form-digits s [] [] second refl in
    let minute_fits = fits_form-digits n (codes ":00") (codes ":" ++ two_digits s) minute second_fits in
    let hour_fits = fits_form-digits h (codes ":00:00") (codes ":" ++ two_digits n ++ codes ":" ++ two_digits s) hour
    minute_fits in
    let clock = two_digits h ++ codes ":" ++ two_digits n ++ codes ":" ++ two_digits s in
    let day_fits = fits_form-digits d (codes "T00:00:00") (codes "T" ++ clock) day hour_fits in
    let month_fits = fits_form-digits m (codes "-00T00:00:00") (codes "-" ++ two_digits d ++ codes "T" ++ clock) month
    day_fits in
    let after_year = codes "-" ++ two_digits m ++ codes "-" ++ two_digits d ++ codes "T" ++ clock in
    fits_form-digits (y / 100) (codes "00-00-00T00:00:00") (two_digits (y % 100) ++ after_year) (omega arith)
    (fits_form-digits (y % 100) (codes "-00-00T00:00:00") after_year (omega arith) month_fits)

digits_back : (n : ℕ) → n < 100 → (48 + n / 10 - 48) * 10 + (48 + n % 10 - 48) ≡ n
digits_back n h = omega arith

-- It names that day and time of day.
year_in-parts : (y m d h n s : ℕ) → y < 10000 → year_in (parts_text y m d h n s) ≡ y
year_in-parts y m d h n s lt = omega (arith, digits_back (y / 100) (omega arith), digits_back (y % 100) (omega arith))

month_in-parts : (y m d h n s : ℕ) → m < 100 → month_in (parts_text y m d h n s) ≡ m
month_in-parts y m d h n s lt = digits_back m lt

day_in-parts : (y m d h n s : ℕ) → d < 100 → day_in (parts_text y m d h n s) ≡ d
day_in-parts y m d h n s lt = digits_back d lt

hour_in-parts : (y m d h n s : ℕ) → h < 100 → hour_in (parts_text y m d h n s) ≡ h
hour_in-parts y m d h n s lt = digits_back h lt

minute_in-parts : (y m d h n s : ℕ) → n < 100 → minute_in (parts_text y m d h n s) ≡ n
minute_in-parts y m d h n s lt = digits_back n lt

second_in-parts : (y m d h n s : ℕ) → s < 100 → second_in (parts_text y m d h n s) ≡ s
second_in-parts y m d h n s lt = digits_back s lt

-- A text that names this day and time of day is read as its second.
reading-of : (text : List ℕ) (y m d h n s : ℕ) → fits_form moment_form text ≡ true → year_in text ≡ y
    → month_in text ≡ m → day_in text ≡ d → hour_in text ≡ h → minute_in text ≡ n → second_in text ≡ s
    → has_day y m d ≡ true → has_time h n s ≡ true
    → moment_reading text ≡ Some (days_from_civil (pos y) m d *ℤ pos 86400 +ℤ pos (h * 3600 + n * 60 + s))
reading-of text y m d h n s fits year month day hour minute second date time =
    let day_there : has_day (year_in text) (month_in text) (day_in text) ≡ true =
    ap (λ z. has_day z (month_in text) (day_in text)) year ∙ ap (λ z. has_day y z (day_in text)) month
    ∙ ap (λ z. has_day y m z) day ∙ date in
    let time_there : has_time (hour_in text) (minute_in text) (second_in text) ≡ true =
    ap (λ z. has_time z (minute_in text) (second_in text)) hour ∙ ap (λ z. has_time h z (second_in text)) minute
    ∙ ap (λ z. has_time h n z) second ∙ time in
    let named : names_moment text ≡ true =
    and_from (has_day (year_in text) (month_in text) (day_in text))
    (has_time (hour_in text) (minute_in text) (second_in text)) day_there time_there in
    moment_reading-named text fits named
    ∙ ap (λ z. Some
    (days_from_civil (pos z) (month_in text) (day_in text) *ℤ pos 86400 +ℤ pos
    (hour_in text * 3600 + minute_in text * 60 + second_in text))) year
    ∙ ap (λ z. Some
    (days_from_civil (pos y) z (day_in text) *ℤ pos 86400 +ℤ pos
    (hour_in text * 3600 + minute_in text * 60 + second_in text))) month
    ∙ ap (λ z. Some
    (days_from_civil (pos y) m z *ℤ pos 86400 +ℤ pos (hour_in text * 3600 + minute_in text * 60 + second_in text))) day
    ∙ ap (λ z. Some
    (days_from_civil (pos y) m d *ℤ pos 86400 +ℤ pos (z * 3600 + minute_in text * 60 + second_in text))) hour
    ∙ ap (λ z. Some (days_from_civil (pos y) m d *ℤ pos 86400 +ℤ pos (h * 3600 + z * 60 + second_in text))) minute
    ∙ ap (λ z. Some (days_from_civil (pos y) m d *ℤ pos 86400 +ℤ pos (h * 3600 + n * 60 + z))) second

-- The text of a day of the calendar and a time of day is read as its second.
pub reading-parts : (y m d h n s : ℕ) → y ≤ 9999 → (1 ≤ m) × (m ≤ 12) → (1 ≤ d) × (d ≤ days_in_month (pos y) m)
    → h < 24 → n < 60 → s < 60
    → moment_reading (parts_text y m d h n s)
    ≡ Some (days_from_civil (pos y) m d *ℤ pos 86400 +ℤ pos (h * 3600 + n * 60 + s))
reading-parts y m d h n s year month day hour minute second =
    let month_small : m < 100 = omega (arith, month.1) in
    let day_small : d < 100 = omega (arith, day.1, (days_in_month_bounds (pos y) m).0) in
    let date : has_day y m d ≡ true =
    (has_day-is y m d year).1 (
      (omega (arith, signed_arith), pos-le y 9999 year),
      (pos-le 1 m month.0, pos-le m 12 month.1),
      (pos-le 1 d day.0, pos-le d (days_in_month (pos y) m) day.1),
    ) in
    let time : has_time h n s ≡ true =
    and_from (nat_lt h 24 && nat_lt n 60) (nat_lt s 60)
    (and_from (nat_lt h 24) (nat_lt n 60) (lt-ltb h 24 hour) (lt-ltb n 60 minute)) (lt-ltb s 60 second) in
    reading-of (parts_text y m d h n s) y m d h n s
    (fits_form-parts y m d h n s (omega arith) month_small day_small (omega arith) (omega arith) (omega arith))
    (year_in-parts y m d h n s (omega arith)) (month_in-parts y m d h n s month_small)
    (day_in-parts y m d h n s day_small)
    (hour_in-parts y m d h n s (omega arith)) (minute_in-parts y m d h n s (omega arith))
    (second_in-parts y m d h n s (omega arith)) date time

-- The text of a moment's date and time of day is read as the moment.
pub reading-back : (seconds : ℤ) (text : List ℕ) → IsMoment seconds → IsMomentText seconds text
    → moment_reading text ≡ Some seconds
reading-back seconds text h is =
    let at = is.0 in
    let n = unsigned_abs at.date.year in
    let from_zero = moment_year at (subst IsMoment (sym is.1) h) in
    let year : at.date.year ≡ pos n = omega (arith, signed_arith, one_part at.date.year) in
    let n_in : n ≤ 9999 = omega (arith, signed_arith, at.date.year_in) in
    let date : IsCivilDate (pos n) at.date.month at.date.day =
    subst (λ y. IsCivilDate y at.date.month at.date.day) year (civil at.date) in
    let same : text ≡ parts_text n at.date.month at.date.day at.time.hour at.time.minute at.time.second =
    is.3 ∙ iso_datetime_text-parts at n year is.2 in
    let second : civil_seconds at ≡ days_from_civil (pos n) at.date.month at.date.day *ℤ pos 86400 +ℤ pos
    (at.time.hour * 3600 + at.time.minute * 60 + at.time.second) =
    civil_seconds-parts at ∙ ap
    (λ y. days_from_civil y at.date.month at.date.day *ℤ pos 86400 +ℤ pos
    (at.time.hour * 3600 + at.time.minute * 60 + at.time.second)) year in
    ap moment_reading same
    ∙ reading-parts n at.date.month at.date.day at.time.hour at.time.minute at.time.second n_in date.1 date.2
    at.time.hour_in at.time.minute_in at.time.second_in
    ∙ ap (λ z. Some z) (sym second ∙ is.1)

-- A day of the calendar and a time of day have a text.
pub IsMomentText-parts : (y m d h n s : ℕ) → y ≤ 9999 → (1 ≤ m) × (m ≤ 12) → (1 ≤ d) × (d ≤ days_in_month (pos y) m)
    → h < 24 → n < 60 → s < 60
    → IsMomentText (days_from_civil (pos y) m d *ℤ pos 86400 +ℤ pos (h * 3600 + n * 60 + s)) (parts_text y m d h n s)
IsMomentText-parts y m d h n s year month day hour minute second =
    let of_day : Date =
    record {
      year = pos y;
      month = m;
      day = d;
      year_in = (omega (arith, signed_arith), pos-le y 9999 year);
      month_in = month;
      day_in = day;
    } in
    let of_clock : Time =
    record {
      hour = h;
      minute = n;
      second = s;
      subsec_nanosecond = 0;
      hour_in = hour;
      minute_in = minute;
      second_in = second;
      subsec_in = omega arith;
    } in
    let at : DateTime = record { date = of_day; time = of_clock } in
    (at, civil_seconds-parts at, refl, sym (iso_datetime_text-parts at y refl refl))

-- The characters of a text, one by one.
listed : ℕ → ℕ → List ℕ → List ℕ
listed zero position text = []
listed (suc more) position text = get_or text position 0 ∷ listed more (suc position) text

listed-shift : (more position c : ℕ) (text : List ℕ) → listed more (suc position) (c ∷ text) ≡ listed more position text
unfolding listed
listed-shift zero position c text = refl
listed-shift (suc more) position c text =
    ap (λ xs. get_or text position 0 ∷ xs) (listed-shift more (suc position) c text)

listed-all : (text : List ℕ) → listed (length text) 0 text ≡ text
unfolding listed
listed-all [] = refl
listed-all (c ∷ text) = ap (λ xs. c ∷ xs) (listed-shift (length text) 0 c text ∙ listed-all text)

mark_at : (text : List ℕ) (k mark : ℕ) → fits_form moment_form text ≡ true → k < 19 → get_or moment_form k 0 ≡ mark
    → mark ≢ 48 → get_or text k 0 ≡ mark
mark_at text k mark fits lt is other =
    let same = fits_form-at moment_form text k fits lt in
    grind (arith, nat_tests)

two_digits-back : (text : List ℕ) (k : ℕ) → fits_form moment_form text ≡ true → get_or moment_form k 0 ≡ 48
    → get_or moment_form (k + 1) 0 ≡ 48
    → (48 + number_at k text / 10 ≡ get_or text k 0) × (48 + number_at k text % 10 ≡ get_or text (k + 1) 0)
two_digits-back text k fits tens units =
    let first = fits_form-digit moment_form text k fits tens in
    let second = fits_form-digit moment_form text (k + 1) fits units in
    (omega (arith, first.1, first.2, second.1, second.2), omega (arith, first.1, first.2, second.1, second.2))

-- A text of the form is that of the day and time of day that it names.
text_is-parts : (text : List ℕ) → fits_form moment_form text ≡ true
    → parts_text (year_in text) (month_in text) (day_in text) (hour_in text) (minute_in text) (second_in text) ≡ text
unfolding listed
text_is-parts text fits =
    let long : length text ≡ 19 = fits_form-length moment_form text fits in
    let all : listed 19 0 text ≡ text = ap (λ n. listed n 0 text) (sym long) ∙ listed-all text in
    let low = number_at-bound text 2 fits refl refl in
    let century : year_in text / 100 ≡ number_at 0 text = omega arith in
    let of_century : year_in text % 100 ≡ number_at 2 text = omega arith in
    let y1 = two_digits-back text 0 fits refl refl in
    let y2 = two_digits-back text 2 fits refl refl in
    let m = two_digits-back text 5 fits refl refl in
    let d = two_digits-back text 8 fits refl refl in
    let h = two_digits-back text 11 fits refl refl in
    let n = two_digits-back text 14 fits refl refl in
    let s = two_digits-back text 17 fits refl refl in
    let dash = mark_at text 4 45 fits (omega arith) refl (omega arith) in
    let dash_2 = mark_at text 7 45 fits (omega arith) refl (omega arith) in
    let t = mark_at text 10 84 fits (omega arith) refl (omega arith) in
    let colon = mark_at text 13 58 fits (omega arith) refl (omega arith) in
    let colon_2 = mark_at text 16 58 fits (omega arith) refl (omega arith) in
    rw (century, of_century) (cc) ∙ all

-- A text that is read is that of the moment.
pub reading-only : (seconds : ℤ) (text : List ℕ) → moment_reading text ≡ Some seconds
    → IsMoment seconds × (text ≡ moment_text seconds)
reading-only seconds text e =
    by_form (cases_Bool (fits_form moment_form text))
  where
    by_name : fits_form moment_form text ≡ true → (names_moment text ≡ true) ⊎ (names_moment text ≡ false)
        → IsMoment seconds × (text ≡ moment_text seconds)
    by_name fits (inl t) =
        let named = (names_moment-is text fits).0 t in
        let second : seconds_in text ≡ seconds = cc (moment_reading-named text fits t) in
        let is = IsMomentText-parts (year_in text) (month_in text) (day_in text) (hour_in text) (minute_in text)
        (second_in text) (year_in-bound text fits)
        (le-pos 1 (month_in text) named.0.1.0, le-pos (month_in text) 12 named.0.1.1) (
          le-pos 1 (day_in text) named.0.2.0,
          le-pos (day_in text) (days_in_month (pos (year_in text)) (month_in text))
              named.0.2.1,
        )
        (omega (arith, le-pos (hour_in text) 23 named.1.0.1)) (omega (arith, le-pos (minute_in text) 59 named.1.1.1))
        (omega (arith, le-pos (second_in text) 59 named.1.2.1)) in
        let moment : IsMoment (seconds_in text) = IsMoment-named text fits t in
        let same : text ≡ moment_text (seconds_in text) = sym (text_is-parts text fits)
        ∙ IsMomentText-moment_text (seconds_in text) _ moment is in
        (subst IsMoment second moment, same ∙ ap moment_text second)
    by_name fits (inr t) = absurd (cc (moment_reading-unnamed text t))

    by_form : (fits_form moment_form text ≡ true) ⊎ (fits_form moment_form text ≡ false)
        → IsMoment seconds × (text ≡ moment_text seconds)
    by_form (inl t) = by_name t (cases_Bool (names_moment text))
    by_form (inr t) = absurd (cc (moment_reading-other_form text t))

-- A day within consecutive units is in one of them.
in_unit : (days_in : ℕ → ℕ) (limit first days : ℕ) → days < total days_in first (suc limit)
    → (units : ℕ) × (units ≤ limit)
    × ((rest : ℕ) × (rest < days_in (first + units)) × (days ≡ total days_in first units + rest))
unfolding total
in_unit days_in zero first days h =
    let none : first + 0 ≡ first = omega arith in
    (0, omega arith, (days, rw none (omega arith), omega arith))
in_unit days_in (suc limit) first days h =
    step (cases_lt days (days_in first)) (in_unit days_in limit (suc first) (days - days_in first))
  where
    step : (days < days_in first) ⊎ (days_in first ≤ days)
        → (days - days_in first < total days_in (suc first) (suc limit)
        → (units : ℕ) × (units ≤ limit)
        × ((rest : ℕ) × (rest < days_in (suc first + units))
        × (days - days_in first ≡ total days_in (suc first) units + rest)))
        → (units : ℕ) × (units ≤ suc limit)
        × ((rest : ℕ) × (rest < days_in (first + units)) × (days ≡ total days_in first units + rest))
    step (inl lt) next = let none : first + 0 ≡ first = omega arith in (0, omega arith, (days, rw none lt, omega arith))
    step (inr le) next =
        let found = next (omega arith) in
        let shift : first + suc found.0 ≡ suc first + found.0 = omega arith in
        (suc found.0, omega (arith, found.1), (found.2.0, rw shift found.2.1, omega (arith, found.2.2)))

-- Each day from 0000-01-01 to 9999-12-31 has a date.
date_of : (day : ℕ) → day < 3652425
    → (y : ℕ) × (y ≤ 9999)
    × ((m : ℕ) × ((1 ≤ m) × (m ≤ 12))
    × ((d : ℕ) × ((1 ≤ d) × (d ≤ days_in_month (pos y) m)) × (day + 3652425 ≡ day_count (pos y) m d)))
date_of day h =
    let years =
    in_unit (λ year. days_in_year (pos year)) 9999 0 day
    (omega (arith, total-years 0 10000, day_count-year_zero, day_count-end)) in
    let y = years.0 in
    let same : 0 + y ≡ y = omega arith in
    let rest = years.2.0 in
    let rest_in : rest < days_in_year (pos y) = rw same at years.2.1 in
    let before_year = rw same at (total-years 0 y) in
    let months =
    in_unit (days_in_month (pos y)) 11 1 rest
    (omega (arith, total-months (pos y) 0 12, days_of_months-zero (pos y), days_of_months_all (pos y))) in
    let m = months.0 + 1 in
    let month : 1 + months.0 ≡ m = omega arith in
    let left = months.2.0 in
    let d = left + 1 in
    let left_in : left < days_in_month (pos y) m = rw month at months.2.1 in
    let before : 0 + months.0 ≡ months.0 = omega arith in
    let before_month = rw before at (total-months (pos y) 0 months.0) in
    let back : m - 1 ≡ months.0 = omega arith in
    let position : day_of_year (pos y) m d ≡ rest + 1 =
    rw back (omega (arith, before_month, days_of_months-zero (pos y), months.2.2)) in
    let date : day + 3652425 ≡ day_count (pos y) m d =
    omega (
      arith,
      day_count-day_of_year (pos y) m d (omega arith),
      position,
      before_year,
      day_count-year_zero,
      years.2.2,
    ) in
    (y, years.1, (m, (omega arith, omega (arith, months.1)), (d, (omega arith, omega (arith, left_in)), date)))

-- Each moment has a text.
pub IsMomentText-there : (seconds : ℤ) → IsMoment seconds → (text : List ℕ) × IsMomentText seconds text
IsMomentText-there seconds h =
    let all = calendar_seconds seconds in
    let sum : pos all ≡ seconds -ℤ first_moment = omega (arith, signed_arith, one_part (seconds -ℤ first_moment)) in
    let day = all / 86400 in
    let clock = all % 86400 in
    let date = date_of day (omega (arith, signed_arith)) in
    let y = date.0 in
    let m = date.2.0 in
    let d = date.2.2.0 in
    text_of y m d day (clock / 3600) (clock / 60 % 60) (clock % 60) date.1 date.2.1 date.2.2.1 date.2.2.2
    (omega arith) (omega arith) (omega arith) (omega (arith, signed_arith))
  where
    text_of : (y m d day h n s : ℕ) → y ≤ 9999 → (1 ≤ m) × (m ≤ 12) → (1 ≤ d) × (d ≤ days_in_month (pos y) m)
        → day + 3652425 ≡ day_count (pos y) m d → h < 24 → n < 60 → s < 60
        → pos (day * 86400 + h * 3600 + n * 60 + s) ≡ seconds -ℤ first_moment
        → (text : List ℕ) × IsMomentText seconds text
    text_of y m d day h n s year month in_month count hour minute second e =
        let there = IsMomentText-parts y m d h n s year month in_month hour minute second in
        let same : days_from_civil (pos y) m d *ℤ pos 86400 +ℤ pos (h * 3600 + n * 60 + s) ≡ seconds =
        omega (arith, signed_arith, days_from_civil-day_count (pos y) m d) in
        (parts_text y m d h n s, (there.0, there.1 ∙ same, there.2, there.3))

-- The text of a moment is read as the moment.
pub reading-moment_text : (seconds : ℤ) → IsMoment seconds → moment_reading (moment_text seconds) ≡ Some seconds
reading-moment_text seconds h =
    let there = IsMomentText-there seconds h in
    ap moment_reading (sym (IsMomentText-moment_text seconds there.0 h there.1))
    ∙ reading-back seconds there.0 h there.1

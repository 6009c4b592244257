-- The day and the time of day of a text, and its seconds.
use Rattle.std.proofs.Common.{◌≡◌, ℕ, ◌+◌, ◌*◌, ◌≤◌, true, false, ◌&&◌, ◌↔◌, nat_lt, nat_le, cond, refl, ap}
use Rattle.std.proofs.Common.{arith, List, get_or, ℤ, pos, negsuc, ◌+ℤ◌, ◌*ℤ◌, ◌≤ℤ◌, Some, None}
use borrow.Author.Differences.{up, down}
use Rattle.std.proofs.lemmas.Bool.{and_parts, and_from, and_right, leb-true, le-leb, ltb-true, lt-ltb}
use Rattle.jiff_core.specs.Calendar.{IsBetween, IsDate, days_in_month, days_from_civil, day_count}
use Rattle.jiff_core.specs.Time.{IsTime}
use Rattle.jiff_core.proofs.CalendarLemmas.{day_count_bounds, day_count-last_of_year, day_count-lt_year}
use Rattle.jiff_core.proofs.CalendarLemmas.{day_count-next_year, days_from_civil-day_count}
use Rattle.jiff_core.proofs.SignedLemmas.{signed_arith}
use Rattle.portal_base.specs.Moment.{IsMoment}
use Rattle.portal_base.specs.MomentReading.{fits_form, moment_form, number_at, year_in, month_in, day_in, hour_in}
use Rattle.portal_base.specs.MomentReading.{minute_in, second_in, has_day, has_time, names_moment, seconds_in}
use Rattle.portal_base.specs.MomentReading.{moment_reading}
use Rattle.portal_base.proofs.FormLemmas.{fits_form-digit}
use Rattle.portal_base.proofs.MomentTextLemmas.{day_count-year_zero}

-- Two digits make a number below 100.
pub number_at-bound : (text : List ℕ) (position : ℕ) → fits_form moment_form text ≡ true
    → get_or moment_form position 0 ≡ 48 → get_or moment_form (position + 1) 0 ≡ 48 → number_at position text ≤ 99
number_at-bound text position h tens units =
    let first = fits_form-digit moment_form text position h tens in
    let second = fits_form-digit moment_form text (position + 1) h units in
    omega (arith, first.2, second.2)

pub year_in-bound : (text : List ℕ) → fits_form moment_form text ≡ true → year_in text ≤ 9999
year_in-bound text h = omega (arith, number_at-bound text 0 h refl refl, number_at-bound text 2 h refl refl)

pub pos-le : (a b : ℕ) → a ≤ b → pos a ≤ℤ pos b
pos-le a b h = omega (arith, signed_arith)

pub le-pos : (a b : ℕ) → pos a ≤ℤ pos b → a ≤ b
le-pos a b h = omega (arith, signed_arith)

-- The tests of the calendar and the clock agree with jiff's.
day_within : (m d n : ℕ)
    → ((nat_le 1 m && nat_le m 12 && nat_le 1 d && nat_le d n) ≡ true) ↔
    (IsBetween (pos 1) (pos 12) (pos m) × IsBetween (pos 1) (pos n) (pos d))
day_within m d n = (
  λ t. let last = and_parts (nat_le 1 m && nat_le m 12 && nat_le 1 d) (nat_le d n) t in
      let first = and_parts (nat_le 1 m && nat_le m 12) (nat_le 1 d) last.0 in
      let month = and_parts (nat_le 1 m) (nat_le m 12) first.0 in (
        (pos-le 1 m (leb-true 1 m month.0), pos-le m 12 (leb-true m 12 month.1)),
        (pos-le 1 d (leb-true 1 d first.1), pos-le d n (leb-true d n last.1)),
      ),
  λ h. and_from (nat_le 1 m && nat_le m 12 && nat_le 1 d) (nat_le d n)
      (and_from (nat_le 1 m && nat_le m 12) (nat_le 1 d)
      (and_from (nat_le 1 m) (nat_le m 12) (le-leb 1 m (le-pos 1 m h.0.0)) (le-leb m 12 (le-pos m 12 h.0.1)))
      (le-leb 1 d (le-pos 1 d h.1.0))) (le-leb d n (le-pos d n h.1.1)),
)

pub has_day-is : (y m d : ℕ) → y ≤ 9999 → (has_day y m d ≡ true) ↔ IsDate (pos y) (pos m) (pos d)
has_day-is y m d h =
    let within = day_within m d (days_in_month (pos y) m) in (
      λ t. ((omega (arith, signed_arith), pos-le y 9999 h), (within.0 t).0, (within.0 t).1),
      λ date. within.1
          (date.1, date.2),
    )

pub has_time-is : (h m s : ℕ) → (has_time h m s ≡ true) ↔ IsTime (pos h) (pos m) (pos s) (pos 0)
has_time-is h m s = (
  λ t. let last = and_parts (nat_lt h 24 && nat_lt m 60) (nat_lt s 60) t in
      let first = and_parts (nat_lt h 24) (nat_lt m 60) last.0 in
      let hour : h ≤ 23 = omega (arith, ltb-true h 24 first.0) in
      let minute : m ≤ 59 = omega (arith, ltb-true m 60 first.1) in
      let second : s ≤ 59 = omega (arith, ltb-true s 60 last.1) in (
        (pos-le 0 h (omega arith), pos-le h 23 hour),
        (pos-le 0 m (omega arith), pos-le m 59 minute),
        (pos-le 0 s (omega arith), pos-le s 59 second),
        (pos-le 0 0 (omega arith), pos-le 0 999999999 (omega arith)),
      ),
  λ time. and_from (nat_lt h 24 && nat_lt m 60) (nat_lt s 60)
      (and_from (nat_lt h 24) (nat_lt m 60) (lt-ltb h 24 (omega (arith, le-pos h 23 time.0.1)))
      (lt-ltb m 60 (omega (arith, le-pos m 59 time.1.1)))) (lt-ltb s 60 (omega (arith, le-pos s 59 time.2.1))),
)

-- A text names a moment exactly if jiff has its day and its time of day.
pub names_moment-is : (text : List ℕ) → fits_form moment_form text ≡ true
    → (names_moment text ≡ true) ↔
    (IsDate (pos (year_in text)) (pos (month_in text)) (pos (day_in text))
    × IsTime (pos (hour_in text)) (pos (minute_in text)) (pos (second_in text)) (pos 0))
names_moment-is text h =
    let day = has_day-is (year_in text) (month_in text) (day_in text) (year_in-bound text h) in
    let time = has_time-is (hour_in text) (minute_in text) (second_in text) in
    let both = and_parts (has_day (year_in text) (month_in text) (day_in text))
    (has_time (hour_in text) (minute_in text) (second_in text)) in
    (λ t. (day.0 (both t).0, time.0 (both t).1), λ k. and_from _ _ (day.1 k.0) (time.1 k.1))

-- A text of another form, or whose day or time of day does not exist, is not read.
pub moment_reading-other_form : (text : List ℕ) → fits_form moment_form text ≡ false → moment_reading text ≡ None
unfolding moment_reading
moment_reading-other_form text h = ap (λ b. cond (b && names_moment text) (Some (seconds_in text)) None) h

pub moment_reading-unnamed : (text : List ℕ) → names_moment text ≡ false → moment_reading text ≡ None
unfolding moment_reading
moment_reading-unnamed text h =
    ap (λ b. cond b (Some (seconds_in text)) None) (and_right (fits_form moment_form text) (names_moment text) h)

pub moment_reading-named : (text : List ℕ) → fits_form moment_form text ≡ true → names_moment text ≡ true
    → moment_reading text ≡ Some (seconds_in text)
unfolding moment_reading
moment_reading-named text h t =
    ap (λ b. cond b (Some (seconds_in text)) None) (and_from (fits_form moment_form text) (names_moment text) h t)

-- The first day of the year 0000, counted from the year -10000.
pub from_year_zero : (y m d : ℕ) → 1 ≤ d → 3652425 ≤ day_count (pos y) m d
from_year_zero y m d first =
    let before : pos 0 ≡ negsuc 0 +ℤ pos 1 = refl in
    omega (
      arith,
      day_count-lt_year (negsuc 0) 12 31 (pos y) m d (
        (omega (arith, signed_arith), omega (arith, signed_arith)),
        (omega arith, omega arith),
        (omega arith, omega arith),
      ) first (omega (arith, signed_arith)),
      day_count-last_of_year (negsuc 0),
      day_count-next_year (negsuc 0) (pos 0) (omega (arith, signed_arith)) before,
      day_count-year_zero,
    )

-- The seconds of a text that names a moment are in range.
pub IsMoment-named : (text : List ℕ) → fits_form moment_form text ≡ true → names_moment text ≡ true
    → IsMoment (seconds_in text)
IsMoment-named text h t =
    let named = (names_moment-is text h).0 t in
    let y = year_in text in
    let m = month_in text in
    let d = day_in text in
    let month : (1 ≤ m) × (m ≤ 12) = (le-pos 1 m named.0.1.0, le-pos m 12 named.0.1.1) in
    let day : (1 ≤ d) × (d ≤ days_in_month (pos y) m) =
    (le-pos 1 d named.0.2.0, le-pos d (days_in_month (pos y) m) named.0.2.1) in
    let hour : hour_in text ≤ 23 = le-pos (hour_in text) 23 named.1.0.1 in
    let minute : minute_in text ≤ 59 = le-pos (minute_in text) 59 named.1.1.1 in
    let second : second_in text ≤ 59 = le-pos (second_in text) 59 named.1.2.1 in
    let high = (day_count_bounds (pos y) m d (named.0.0, month, day)).1 in
    let low = from_year_zero y m d day.0 in
    let days = days_from_civil-day_count (pos y) m d in
    within (days_from_civil (pos y) m d) (day_count (pos y) m d) (hour_in text) (minute_in text) (second_in text) days
    low high hour minute second
  where
    within : (days : ℤ) (count h n s : ℕ) → up days + 4371953 ≡ down days + count → 3652425 ≤ count → count ≤ 7304849
        → h ≤ 23 → n ≤ 59 → s ≤ 59 → IsMoment (days *ℤ pos 86400 +ℤ pos (h * 3600 + n * 60 + s))
    within days count h n s e low high hour minute second = (omega (arith, signed_arith), omega (arith, signed_arith))

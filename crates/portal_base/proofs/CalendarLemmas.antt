-- Readings of dates and times of day, and the moments made of them.
use Rattle.std.proofs.Common.{◌≡◌, ◌≢◌, ◌↔◌, ℕ, ◌+◌, ◌-◌, ◌*◌, ◌<◌, ◌≤◌, true, false, ◌&&◌, nat_le, nat_lt, cond, refl}
use Rattle.std.proofs.Common.{sym, ap, ◌∙◌, subst, arith, Bool, List, [], ◌++◌, ◌∷◌, length, take, drop, get_or, ℤ, pos}
use Rattle.std.proofs.Common.{◌+ℤ◌, ◌*ℤ◌, length-drop, w8, w16, w32, w64, to_z, of_z}
use Rattle.std.specs.Prelude.{Option, Some, None, IsSome, IfSome, option_map, option_and_then, codes}
use borrow.Author.Differences.{up, down}
use Rattle.std.proofs.lemmas.List.{take_all, drop_more, get_or-take, get_or-drop}
use Rattle.std.proofs.lemmas.Int.{ints, to_z_pos, to_z-of_z}
use Rattle.std.proofs.lemmas.Bool.{and_parts, leb-true, ltb-true, ne_eqb}
use Rattle.jiff_core.specs.Calendar.{IsDate, days_in_month, days_from_civil, day_count}
use Rattle.jiff_core.proofs.CalendarLemmas.{day_count_bounds, days_from_civil-day_count}
use Rattle.jiff_core.proofs.SignedLemmas.{signed_arith}
use Rattle.portal_base.specs.Calendar.{IsDay, has_month, day_in, date_reading, second_in, time_reading, seconds_of}
use Rattle.portal_base.specs.Calendar.{moment_at}
use Rattle.portal_base.specs.Moment.{IsMoment}
use Rattle.portal_base.specs.MomentReading.{fits_form, fits_character, moment_form, has_day}
use Rattle.portal_base.specs.MomentReading.{has_time, year_in, number_at}
use Rattle.portal_base.specs.MomentReading.{names_moment, seconds_in, moment_reading}
use Rattle.portal_base.proofs.FormLemmas.{fits_form-digit, fits_form-other_length, fits_form-other_position}
use Rattle.portal_base.proofs.ReadingLemmas.{pos-le, has_day-is, from_year_zero, moment_reading-other_form}

-- the days that the calendar has, as jiff's integers
pub has_day-is-IsDate : (y m d : ℕ) → y < 10000 → m < 100 → d < 100
    → (has_day y m d ≡ true) ↔ IsDate (to_z w16 y) (to_z w8 m) (to_z w8 d)
has_day-is-IsDate y m d yb mb db =
    let ys : to_z w16 y ≡ pos y = to_z_pos w16 y (omega arith) in
    let ms : to_z w8 m ≡ pos m = to_z_pos w8 m (omega arith) in
    let ds : to_z w8 d ≡ pos d = to_z_pos w8 d (omega arith) in
    rw (ys, ms, ds) (has_day-is y m d (omega arith))

-- ---- ranges of what is read

pub IsDay-from : (y m d : ℕ) → y ≤ 9999 → has_day y m d ≡ true → IsDay (days_from_civil (pos y) m d)
IsDay-from y m d h t =
    let last = and_parts (has_month m && nat_le 1 d) (nat_le d (days_in_month (pos y) m)) t in
    let first = and_parts (has_month m) (nat_le 1 d) last.0 in
    let month = and_parts (nat_le 1 m) (nat_le m 12) first.0 in
    let day = leb-true 1 d first.1 in
    let high =
    (day_count_bounds (pos y) m d (
      (omega (arith, signed_arith), pos-le y 9999 h),
      (leb-true 1 m month.0, leb-true m 12 month.1),
      (day, leb-true d (days_in_month (pos y) m) last.1),
    )).1 in
    within (days_from_civil (pos y) m d) (day_count (pos y) m d) (days_from_civil-day_count (pos y) m d)
    (from_year_zero y m d day) high
  where
    within : (days : ℤ) (count : ℕ) → up days + 4371953 ≡ down days + count → 3652425 ≤ count → count ≤ 7304849
        → IsDay days
    within days count e low high = (omega (arith, signed_arith), omega (arith, signed_arith))

digits_number : (text : List ℕ) (position : ℕ) → get_or text position 0 ≤ 57 → get_or text (position + 1) 0 ≤ 57
    → number_at position text ≤ 99
digits_number text position tens units = omega arith

year_in-bound : (text : List ℕ) → fits_form (codes "0000-00-00") text ≡ true → year_in text ≤ 9999
year_in-bound text h =
    let digit = fits_form-digit (codes "0000-00-00") text in
    omega (
      arith,
      digits_number text 0 (digit 0 h refl).2 (digit 1 h refl).2,
      digits_number text 2 (digit 2 h refl).2
          (digit 3 h refl).2,
    )

pub date_reading-IsDay : (text : List ℕ) (z : ℤ) → date_reading text ≡ Some z → IsDay z
unfolding date_reading
date_reading-IsDay text z e = by_form (fits_form (codes "0000-00-00") text) refl e
  where
    by_day : (b : Bool) → fits_form (codes "0000-00-00") text ≡ true
        → has_day (year_in text) (number_at 5 text) (number_at 8 text) ≡ b
        → cond b (Some (days_from_civil (pos (year_in text)) (number_at 5 text) (number_at 8 text))) None ≡ Some z
        → IsDay z
    by_day true fit named h =
        let same : days_from_civil (pos (year_in text)) (number_at 5 text) (number_at 8 text) ≡ z = cc in
        subst IsDay same
        (IsDay-from (year_in text) (number_at 5 text) (number_at 8 text) (year_in-bound text fit) named)
    by_day false fit named h = cc

    by_form : (b : Bool) → fits_form (codes "0000-00-00") text ≡ b → cond b (day_in text) None ≡ Some z → IsDay z
    by_form true fit h = by_day (has_day (year_in text) (number_at 5 text) (number_at 8 text)) fit refl h
    by_form false fit h = cc

pub time_reading-bound : (text : List ℕ) (second : ℕ) → time_reading text ≡ Some second → second < 86400
unfolding time_reading
time_reading-bound text second e = by_form (fits_form (codes "00:00:00") text) e
  where
    by_time : (b : Bool) → has_time (number_at 0 text) (number_at 3 text) (number_at 6 text) ≡ b
        → cond b (Some (number_at 0 text * 3600 + number_at 3 text * 60 + number_at 6 text)) None ≡ Some second
        → second < 86400
    by_time true there h =
        let same : number_at 0 text * 3600 + number_at 3 text * 60 + number_at 6 text ≡ second = cc in
        let last = and_parts (nat_lt (number_at 0 text) 24 && nat_lt (number_at 3 text) 60)
        (nat_lt (number_at 6 text) 60) there in
        let first = and_parts (nat_lt (number_at 0 text) 24) (nat_lt (number_at 3 text) 60) last.0 in
        omega (
          arith,
          ltb-true (number_at 0 text) 24 first.0,
          ltb-true (number_at 3 text) 60 first.1,
          ltb-true
              (number_at 6 text) 60 last.1,
        )
    by_time false there h = cc

    by_form : (b : Bool) → cond b (second_in text) None ≡ Some second → second < 86400
    by_form true h = by_time (has_time (number_at 0 text) (number_at 3 text) (number_at 6 text)) refl h
    by_form false h = cc

pub IsMoment-seconds_of : (day : ℤ) (second : ℕ) → IsDay day → second < 86400 → IsMoment (seconds_of day second)
IsMoment-seconds_of day second h lt = (omega (arith, signed_arith), omega (arith, signed_arith))

-- The sum of seconds, computed in 64 bits, is that of the numbers.
pub seconds_of-computed : (day : ℤ) (second : ℕ) (a b : ℤ) → IsDay day → second < 86400 → a ≡ to_z w32 (of_z w32 day)
    → b ≡ pos second
    → to_z w64 (of_z w64 (to_z w64 (of_z w64 (to_z w64 (of_z w64 a) *ℤ pos 86400)) +ℤ to_z w64 (of_z w64 b)))
    ≡ seconds_of day second
seconds_of-computed day second a b h lt ea eb =
    let da : a ≡ day = ea ∙ to_z-of_z w32 day (omega (arith, ints)) in
    let one : to_z w64 (of_z w64 a) ≡ day = ap (λ z. to_z w64 (of_z w64 z)) da
    ∙ to_z-of_z w64 day (omega (arith, ints)) in
    let two : to_z w64 (of_z w64 (day *ℤ pos 86400)) ≡ day *ℤ pos 86400 =
    to_z-of_z w64 (day *ℤ pos 86400) (omega (arith, ints)) in
    let three : to_z w64 (of_z w64 b) ≡ pos second = ap (λ z. to_z w64 (of_z w64 z)) eb
    ∙ to_z-of_z w64 (pos second) (omega (arith, ints)) in
    let four : to_z w64 (of_z w64 (seconds_of day second)) ≡ seconds_of day second =
    to_z-of_z w64 (seconds_of day second) (omega (arith, ints)) in
    rw (one, two, three) four

-- ---- the moment of a date and a time

pub moment_at-no_day : (date time : List ℕ) → date_reading date ≡ None → moment_at date time ≡ None
unfolding moment_at
moment_at-no_day date time none = rw none refl

pub moment_at-no_time : (date time : List ℕ) → time_reading time ≡ None → moment_at date time ≡ None
unfolding moment_at
moment_at-no_time date time none = rw none (no_second (date_reading date))
  where
    no_second : (day : Option ℤ) → option_and_then (λ d. option_map (seconds_of d) None) day ≡ None
    no_second None = refl
    no_second (Some day) = refl

pub moment_at-read : (date time : List ℕ) (day : ℤ) (second : ℕ) → date_reading date ≡ Some day
    → time_reading time ≡ Some second → moment_at date time ≡ Some (seconds_of day second)
unfolding moment_at
moment_at-read date time day second dated timed = rw (dated, timed) refl

-- The day and the time of day of a moment.
pub moment_at-parts : (date time : List ℕ) (z : ℤ) → moment_at date time ≡ Some z
    → (day : ℤ) × (second : ℕ) × (date_reading date ≡ Some day) × (time_reading time ≡ Some second)
    × (seconds_of day second ≡ z)
unfolding moment_at
moment_at-parts date time z e = parts (date_reading date) (time_reading time) refl refl e
  where
    parts : (dated : Option ℤ) (timed : Option ℕ) → date_reading date ≡ dated → time_reading time ≡ timed
        → option_and_then (λ day. option_map (seconds_of day) timed) dated ≡ Some z
        → (day : ℤ) × (second : ℕ) × (date_reading date ≡ Some day) × (time_reading time ≡ Some second)
        × (seconds_of day second ≡ z)
    parts None timed d t h = cc
    parts (Some day) None d t h = cc
    parts (Some day) (Some second) d t h = (day, second, d, t, cc)

pub moment_at-IsMoment : (date time : List ℕ) (z : ℤ) → moment_at date time ≡ Some z → IsMoment z
moment_at-IsMoment date time z e =
    let parts = moment_at-parts date time z e in
    subst IsMoment parts.4
    (IsMoment-seconds_of parts.0 parts.1 (date_reading-IsDay date parts.0 parts.2)
    (time_reading-bound time parts.1 parts.3))

-- The moment made of the seconds is the one that is read.
pub moment_at-made : (date time : List ℕ) (day : ℤ) (second : ℕ) (made : Option ℤ) (z : ℤ)
    → date_reading date ≡ Some day → time_reading time ≡ Some second → z ≡ seconds_of day second
    → (IsMoment z → IsSome made) → IfSome made (λ m. m ≡ z) → made ≡ moment_at date time
moment_at-made date time day second made z dated timed e within same =
    let moment = IsMoment-seconds_of day second (date_reading-IsDay date day dated)
    (time_reading-bound time second timed) in
    some made (within (subst IsMoment (sym e) moment)) same e ∙ sym (moment_at-read date time day second dated timed)
  where
    some : (o : Option ℤ) → IsSome o → IfSome o (λ m. m ≡ z) → z ≡ seconds_of day second
        → o ≡ Some (seconds_of day second)
    some None is k e = cc
    some (Some x) is k e = ap (λ y. Some y) (k ∙ e)

-- A text has a form of two parts exactly if its parts have them.
fits_form-append : (front back text : List ℕ)
    → fits_form (front ++ back) text
    ≡ (fits_form front (take (length front) text) && fits_form back (drop (length front) text))
fits_form-append [] back text = refl
fits_form-append (p ∷ front) back [] = refl
fits_form-append (p ∷ front) back (c ∷ text) =
    ap (λ b. fits_character p c && b) (fits_form-append front back text)
    ∙ associated (fits_character p c) (fits_form front (take (length front) text))
    (fits_form back (drop (length front) text))
  where
    associated : (a b c : Bool) → (a && (b && c)) ≡ ((a && b) && c)
    associated true b c = refl
    associated false b c = refl

pub number_at-take : (n position : ℕ) (text : List ℕ) → position + 1 < n
    → number_at position (take n text) ≡ number_at position text
number_at-take n position text lt =
    let tens = get_or-take n text position 0 (omega arith) in
    let units = get_or-take n text (position + 1) 0 lt in
    rw (tens, units) refl

pub number_at-drop : (n position : ℕ) (text : List ℕ) → number_at position (drop n text) ≡ number_at (n + position) text
number_at-drop n position text =
    let next : n + (position + 1) ≡ n + position + 1 = omega arith in
    let tens = get_or-drop n text position 0 in
    let units = get_or-drop n text (position + 1) 0 ∙ ap (λ k. get_or text k 0) next in
    rw (tens, units) refl

-- A text has the form of a moment if its date and its time have their forms.
fits_form-parts : (text : List ℕ) → length text ≡ 19 → get_or text 10 0 ≡ 84
    → fits_form moment_form text
    ≡ (fits_form (codes "0000-00-00") (take 10 text) && fits_form (codes "00:00:00") (drop 11 text))
fits_form-parts text h mark =
    let after : drop 10 text ≡ get_or text 10 0 ∷ drop 11 text = drop_more text 10 0 (omega arith) in
    fits_form-append (codes "0000-00-00") (codes "T00:00:00") text
    ∙ ap (λ rest. fits_form (codes "0000-00-00") (take 10 text) && fits_form (codes "T00:00:00") rest)
    (after ∙ ap (λ c. c ∷ drop 11 text) mark)

-- The reading of a text is the moment of its date and its time.
assembled : (d t : Bool) (year month day hour minute second y m b h n s : ℕ) → year ≡ y → month ≡ m → day ≡ b
    → hour ≡ h → minute ≡ n → second ≡ s
    → option_and_then (λ x. option_map (seconds_of x)
    (cond t (cond (has_time hour minute second) (Some (hour * 3600 + minute * 60 + second)) None) None))
    (cond d (cond (has_day year month day) (Some (days_from_civil (pos year) month day)) None) None)
    ≡ cond ((d && t) && (has_day y m b && has_time h n s))
    (Some (seconds_of (days_from_civil (pos y) m b) (h * 3600 + n * 60 + s))) None
assembled d t year month day hour minute second y m b h n s e f g i j k =
    rw (e, f, g, i, j, k) (both d (has_day y m b) t (has_time h n s) _ _)
  where
    both : (d named t timed : Bool) (days : ℤ) (clock : ℕ)
        → option_and_then (λ x. option_map (seconds_of x) (cond t (cond timed (Some clock) None) None))
        (cond d (cond named (Some days) None) None)
        ≡ cond ((d && t) && (named && timed)) (Some (seconds_of days clock)) None
    both true true true true days clock = refl
    both true true true false days clock = refl
    both true true false timed days clock = refl
    both true false true timed days clock = refl
    both true false false timed days clock = refl
    both false named t timed days clock = refl

pub moment_reading-at : (text : List ℕ) → length text ≡ 19 → get_or text 10 0 ≡ 84
    → moment_at (take 10 text) (drop 11 text) ≡ moment_reading text
unfolding moment_at moment_reading date_reading time_reading
moment_reading-at text h mark =
    assembled (fits_form (codes "0000-00-00") (take 10 text)) (fits_form (codes "00:00:00") (drop 11 text)) _ _ _ _ _ _
    (year_in text) (number_at 5 text) (number_at 8 text) (number_at 11 text) (number_at 14 text) (number_at 17 text)
    year (number_at-take 10 5 text (omega arith)) (number_at-take 10 8 text (omega arith)) (number_at-drop 11 0 text)
    (number_at-drop 11 3 text) (number_at-drop 11 6 text)
    ∙ ap (λ b. cond (b && names_moment text) (Some (seconds_in text)) None) (sym (fits_form-parts text h mark))
  where
    year : year_in (take 10 text) ≡ year_in text
    year =
        let hundreds = number_at-take 10 0 text (omega arith) in
        let ones = number_at-take 10 2 text (omega arith) in
        omega (arith, hundreds, ones)

pub moment_reading-other_length : (text : List ℕ) → length text ≢ 19 → moment_reading text ≡ None
moment_reading-other_length text ne =
    moment_reading-other_form text (fits_form-other_length moment_form text ne)

pub moment_reading-unmarked : (text : List ℕ) → get_or text 10 0 ≢ 84 → moment_reading text ≡ None
moment_reading-unmarked text ne =
    moment_reading-other_form text
    (fits_form-other_position moment_form text 10 (omega arith) (ne_eqb (get_or text 10 0) 84 ne))

-- the rest from a position on, as a slice
pub drop-rest : (n : ℕ) (text : List ℕ) → drop n text ≡ take (length text - n) (drop n text)
drop-rest n text = sym (take_all (length text - n) (drop n text) (omega (arith, length-drop {A = ℕ})))

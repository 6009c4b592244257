-- Texts read as dates and times of day if and only if they have the form of them.
use Rattle.std.proofs.Common.{◌≡◌, ◌⊎◌, inl, inr, ℕ, ◌+◌, ◌-◌, ◌*◌, ◌/◌, ◌%◌, ◌<◌, ◌≤◌, true, false, ◌&&◌, ◌||◌}
use Rattle.std.proofs.Common.{nat_le, nat_lt, cond, eqb, leb, refl, sym, ap, ◌∙◌, subst, arith, Bool, List, []}
use Rattle.std.proofs.Common.{◌∷◌, ◌++◌}
use Rattle.std.proofs.Common.{length, take, drop, get_or, append-nil, append_assoc, length-take, length-drop, ℤ, pos}
use Rattle.std.specs.Prelude.{◌↔◌, Option, Some, None, codes, unwrap_or}
use Rattle.std.proofs.Math.Seq.{drop-cons}
use Rattle.std.proofs.lemmas.Bool.{and_parts, and_from, cond-true, eqb-true, le-leb, leb-true, ltb-true, lt-ltb}
use Rattle.std.proofs.lemmas.List.{take-append-drop}
use Rattle.jiff_core.specs.Calendar.{days_in_month, days_from_civil}
use Rattle.jiff_core.proofs.CalendarLemmas.{days_in_month_bounds}
use Rattle.lexical_forms.proofs.ReadingLemmas.{if-some}
use Rattle.portal_base.specs.MomentReading.{fits_form, fits_character, number_at, year_in, has_day, has_time}
use Rattle.portal_base.specs.MomentText.{two_digits, four_digits}
use Rattle.portal_base.proofs.FormLemmas.{fits_character-digit}
use Rattle.portal_base.specs.Calendar.{date_reading, day_in, time_reading, second_in, year_reading, yearmonth_reading}
use Rattle.portal_base.specs.Calendar.{has_month, moment_at}
use Rattle.portal_base.proofs.CalendarLemmas.{moment_at-parts, moment_at-read}
use Rattle.table_schema.specs.Stamp.{is_time_designator, is_zone, zoned_moment, stamp_reading}
use Rattle.table_schema.specs.Texts.{IsDateText, IsTimeText, IsStampText, IsYearText, IsYearMonthText}

-- ---- digits at the start of a text

fits_digit : (x : ℕ) → x < 10 → fits_character 48 (48 + x) ≡ true
fits_digit x lt =
    and_from (leb 48 (48 + x)) (leb (48 + x) 57) (le-leb 48 (48 + x) (omega arith)) (le-leb (48 + x) 57 (omega arith))

fits_two : (n : ℕ) (form text : List ℕ) → n < 100 → fits_form form text ≡ true
    → fits_form (48 ∷ 48 ∷ form) (two_digits n ++ text) ≡ true
fits_two n form text h fits =
    and_from (fits_character 48 (48 + n / 10)) (fits_character 48 (48 + n % 10) && fits_form form text)
    (fits_digit (n / 10) (omega arith))
    (and_from (fits_character 48 (48 + n % 10)) (fits_form form text) (fits_digit (n % 10) (omega arith)) fits)

fits_four : (n : ℕ) (form text : List ℕ) → n ≤ 9999 → fits_form form text ≡ true
    → fits_form (48 ∷ 48 ∷ 48 ∷ 48 ∷ form) (four_digits n ++ text) ≡ true
fits_four n form text h fits =
    fits_two (n / 100) (48 ∷ 48 ∷ form) (two_digits (n % 100) ++ text) (omega arith)
    (fits_two (n % 100) form text (omega arith) fits)

two_back : (n : ℕ) → n < 100 → (48 + n / 10 - 48) * 10 + (48 + n % 10 - 48) ≡ n
two_back n h = omega arith

four_back : (n century in_century : ℕ) → century ≡ n / 100 → in_century ≡ n % 100 → century * 100 + in_century ≡ n
four_back n century in_century e f = omega arith

-- a text that starts with two digits
record TwoIn (form text : List ℕ) : Type 0 where
  pub number : ℕ
  pub rest : List ℕ
  pub cut : text ≡ two_digits number ++ rest
  pub small : number < 100
  pub fits : fits_form form rest ≡ true

two_in : (form text : List ℕ) → fits_form (48 ∷ 48 ∷ form) text ≡ true → TwoIn form text
two_in form [] h = cc
two_in form (a ∷ []) h = absurd (never (and_parts (fits_character 48 a) false h).1)
  where
    never : false ≡ true → ⊥
    never e = cc
two_in form (a ∷ b ∷ rest) h =
    let outer = and_parts (fits_character 48 a) (fits_character 48 b && fits_form form rest) h in
    let inner = and_parts (fits_character 48 b) (fits_form form rest) outer.1 in
    let tens = fits_character-digit 48 a outer.0 refl in
    let units = fits_character-digit 48 b inner.0 refl in
    record {
      number = (a - 48) * 10 + (b - 48);
      rest = rest;
      cut = ap (λ n. n ∷ b ∷ rest) (upper a b tens.0 tens.1 units.0 units.1)
          ∙ ap (λ n. (48 + ((a - 48) * 10 + (b - 48)) / 10) ∷ n ∷ rest) (lower a b tens.0 tens.1 units.0 units.1);
      small = omega (arith, tens.0, tens.1, units.0, units.1);
      fits = inner.1;
    }
  where
    upper : (a b : ℕ) → 48 ≤ a → a ≤ 57 → 48 ≤ b → b ≤ 57 → a ≡ 48 + ((a - 48) * 10 + (b - 48)) / 10
    upper a b h k i j = omega arith

    lower : (a b : ℕ) → 48 ≤ a → a ≤ 57 → 48 ≤ b → b ≤ 57 → b ≡ 48 + ((a - 48) * 10 + (b - 48)) % 10
    lower a b h k i j = omega arith

record FourIn (form text : List ℕ) : Type 0 where
  pub number : ℕ
  pub rest : List ℕ
  pub cut : text ≡ four_digits number ++ rest
  pub small : number ≤ 9999
  pub fits : fits_form form rest ≡ true

four_in : (form text : List ℕ) → fits_form (48 ∷ 48 ∷ 48 ∷ 48 ∷ form) text ≡ true → FourIn form text
four_in form text h =
    let front = two_in (48 ∷ 48 ∷ form) text h in
    let back = two_in form front.rest front.fits in
    let century : front.number ≡ (front.number * 100 + back.number) / 100 =
    upper front.number back.number back.small in
    let in_century : back.number ≡ (front.number * 100 + back.number) % 100 =
    lower front.number back.number back.small in
    record {
      number = front.number * 100 + back.number;
      rest = back.rest;
      cut = front.cut ∙ ap (λ xs. two_digits front.number ++ xs) back.cut
          ∙ ap (λ n. two_digits n ++ (two_digits back.number ++ back.rest)) century
          ∙ ap (λ n. two_digits ((front.number * 100 + back.number) / 100) ++ (two_digits n ++ back.rest)) in_century;
      small = bound front.number back.number front.small back.small;
      fits = back.fits;
    }
  where
    upper : (a b : ℕ) → b < 100 → a ≡ (a * 100 + b) / 100
    upper a b h = omega arith

    lower : (a b : ℕ) → b < 100 → b ≡ (a * 100 + b) % 100
    lower a b h = omega arith

    bound : (a b : ℕ) → a < 100 → b < 100 → a * 100 + b ≤ 9999
    bound a b h k = omega arith

-- a text that starts with the character of the form
mark_in : (m : ℕ) (form text : List ℕ) → eqb m 48 ≡ false → fits_form (m ∷ form) text ≡ true
    → (rest : List ℕ) × (text ≡ m ∷ rest) × (fits_form form rest ≡ true)
mark_in m form [] other h = cc
mark_in m form (c ∷ rest) other h =
    let parts = and_parts (fits_character m c) (fits_form form rest) h in
    let same : eqb c m ≡ true = rw other at parts.0 in
    (rest, ap (λ n. n ∷ rest) (eqb-true c m same), parts.1)

nothing_in : (text : List ℕ) → fits_form [] text ≡ true → text ≡ []
nothing_in [] h = refl
nothing_in (c ∷ text) h = cc

-- ---- dates

abbrev date_form : ℕ → ℕ → ℕ → List ℕ
date_form year month date =
    four_digits year ++ codes "-" ++ two_digits month ++ codes "-" ++ two_digits date

abbrev named_day : ℕ → ℕ → ℕ → Option ℤ
named_day year month date =
    cond (has_day year month date) (Some (days_from_civil (pos year) month date)) None

fits_date : (y m d : ℕ) → y ≤ 9999 → m < 100 → d < 100 → fits_form (codes "0000-00-00") (date_form y m d) ≡ true
fits_date y m d year month date =
    fits_four y (codes "-00-00") (codes "-" ++ two_digits m ++ codes "-" ++ two_digits d) year
    (fits_two m (codes "-00") (codes "-" ++ two_digits d) month (fits_two d [] [] date refl))

day_in-form : (y m d : ℕ) → y ≤ 9999 → m < 100 → d < 100 → day_in (date_form y m d) ≡ named_day y m d
day_in-form y m d year month date =
    let in_year : year_in (date_form y m d) ≡ y =
    four_back y _ _ (two_back (y / 100) (omega arith)) (two_back (y % 100) (omega arith)) in
    let in_month : number_at 5 (date_form y m d) ≡ m = two_back m month in
    let in_date : number_at 8 (date_form y m d) ≡ d = two_back d date in
    ap (λ n. named_day n (number_at 5 (date_form y m d)) (number_at 8 (date_form y m d))) in_year
    ∙ ap (λ n. named_day y n (number_at 8 (date_form y m d))) in_month ∙ ap (λ n. named_day y m n) in_date

record DateIn (text : List ℕ) : Type 0 where
  pub year : ℕ
  pub month : ℕ
  pub date : ℕ
  pub cut : text ≡ date_form year month date
  pub four : year ≤ 9999
  pub in_month : month < 100
  pub in_date : date < 100

date_in : (text : List ℕ) → fits_form (codes "0000-00-00") text ≡ true → DateIn text
date_in text h =
    let year = four_in (codes "-00-00") text h in
    let dash = mark_in 45 (codes "00-00") year.rest refl year.fits in
    let month = two_in (codes "-00") dash.0 dash.2 in
    let dash_2 = mark_in 45 (codes "00") month.rest refl month.fits in
    let date = two_in [] dash_2.0 dash_2.2 in
    let end = nothing_in date.rest date.fits in
    record {
      year = year.number;
      month = month.number;
      date = date.number;
      cut = year.cut
          ∙ ap (λ xs. four_digits year.number ++ xs)
          (dash.1
          ∙ ap (λ (xs : List ℕ). 45 ∷ xs)
          (month.cut
          ∙ ap (λ xs. two_digits month.number ++ xs)
          (dash_2.1 ∙ ap (λ (xs : List ℕ). 45 ∷ xs) (date.cut ∙ ap (λ xs. two_digits date.number ++ xs) end))));
      four = year.small;
      in_month = month.small;
      in_date = date.small;
    }

read_date : (text : List ℕ) (z : ℤ) → date_reading text ≡ Some z → IsDateText text z
unfolding date_reading
read_date text z e =
    let fits = if-some (fits_form (codes "0000-00-00") text) (day_in text) z e in
    let found = date_in text fits.0 in
    let there = if-some (has_day found.year found.month found.date)
    (Some (days_from_civil (pos found.year) found.month found.date)) z
    (sym (ap day_in found.cut ∙ day_in-form found.year found.month found.date found.four found.in_month found.in_date)
    ∙ fits.1) in
    let same : days_from_civil (pos found.year) found.month found.date ≡ z = cc (there.1) in
    record {
      year = found.year;
      month = found.month;
      date = found.date;
      cut = found.cut;
      four = found.four;
      there = there.0;
      value = sym same;
    }

-- the parts of a day that the calendar has are numbers of two digits
named-bounds : (y m d : ℕ) → has_day y m d ≡ true → (m < 100) × (d < 100)
named-bounds y m d t =
    let last = and_parts (has_month m && nat_le 1 d) (nat_le d (days_in_month (pos y) m)) t in
    let first = and_parts (has_month m) (nat_le 1 d) last.0 in
    let month = and_parts (nat_le 1 m) (nat_le m 12) first.0 in
    let high = leb-true m 12 month.1 in
    let day = leb-true d (days_in_month (pos y) m) last.1 in
    (omega arith, omega (arith, days_in_month_bounds (pos y) m))

date_reads : (text : List ℕ) (z : ℤ) → IsDateText text z → date_reading text ≡ Some z
unfolding date_reading
date_reads text z h =
    let bounds = named-bounds h.year h.month h.date h.there in
    let form = fits_date h.year h.month h.date h.four bounds.0 bounds.1 in
    let day = day_in-form h.year h.month h.date h.four bounds.0 bounds.1 in
    ap (λ xs. cond (fits_form (codes "0000-00-00") xs) (day_in xs) None) h.cut ∙ cond-true _ _ _ form ∙ day
    ∙ cond-true _ _ _ h.there ∙ ap Some (sym h.value)

pub date_where_of_form : (text : List ℕ) (z : ℤ) → (date_reading text ≡ Some z) ↔ IsDateText text z
date_where_of_form text z = (read_date text z, date_reads text z)

-- ---- times of day

abbrev clock_form : ℕ → ℕ → ℕ → List ℕ
clock_form hour minute second =
    two_digits hour ++ codes ":" ++ two_digits minute ++ codes ":" ++ two_digits second

abbrev named_time : ℕ → ℕ → ℕ → Option ℕ
named_time hour minute second =
    cond (has_time hour minute second) (Some (hour * 3600 + minute * 60 + second)) None

fits_clock : (h m s : ℕ) → h < 100 → m < 100 → s < 100 → fits_form (codes "00:00:00") (clock_form h m s) ≡ true
fits_clock h m s hour minute second =
    fits_two h (codes ":00:00") (codes ":" ++ two_digits m ++ codes ":" ++ two_digits s) hour
    (fits_two m (codes ":00") (codes ":" ++ two_digits s) minute (fits_two s [] [] second refl))

second_in-form : (h m s : ℕ) → h < 100 → m < 100 → s < 100 → second_in (clock_form h m s) ≡ named_time h m s
second_in-form h m s hour minute second =
    let in_hour : number_at 0 (clock_form h m s) ≡ h = two_back h hour in
    let in_minute : number_at 3 (clock_form h m s) ≡ m = two_back m minute in
    let in_second : number_at 6 (clock_form h m s) ≡ s = two_back s second in
    ap (λ n. named_time n (number_at 3 (clock_form h m s)) (number_at 6 (clock_form h m s))) in_hour
    ∙ ap (λ n. named_time h n (number_at 6 (clock_form h m s))) in_minute ∙ ap (λ n. named_time h m n) in_second

record TimeIn (text : List ℕ) : Type 0 where
  pub hour : ℕ
  pub minute : ℕ
  pub second : ℕ
  pub cut : text ≡ clock_form hour minute second
  pub in_hour : hour < 100
  pub in_minute : minute < 100
  pub in_second : second < 100

time_in : (text : List ℕ) → fits_form (codes "00:00:00") text ≡ true → TimeIn text
time_in text h =
    let hour = two_in (codes ":00:00") text h in
    let colon = mark_in 58 (codes "00:00") hour.rest refl hour.fits in
    let minute = two_in (codes ":00") colon.0 colon.2 in
    let colon_2 = mark_in 58 (codes "00") minute.rest refl minute.fits in
    let second = two_in [] colon_2.0 colon_2.2 in
    let end = nothing_in second.rest second.fits in
    record {
      hour = hour.number;
      minute = minute.number;
      second = second.number;
      cut = hour.cut
          ∙ ap (λ xs. two_digits hour.number ++ xs)
          (colon.1
          ∙ ap (λ (xs : List ℕ). 58 ∷ xs)
          (minute.cut
          ∙ ap (λ xs. two_digits minute.number ++ xs)
          (colon_2.1 ∙ ap (λ (xs : List ℕ). 58 ∷ xs) (second.cut ∙ ap (λ xs. two_digits second.number ++ xs) end))));
      in_hour = hour.small;
      in_minute = minute.small;
      in_second = second.small;
    }

read_time : (text : List ℕ) (n : ℕ) → time_reading text ≡ Some n → IsTimeText text n
unfolding time_reading
read_time text n e =
    let fits = if-some (fits_form (codes "00:00:00") text) (second_in text) n e in
    let found = time_in text fits.0 in
    let there = if-some (has_time found.hour found.minute found.second)
    (Some (found.hour * 3600 + found.minute * 60 + found.second)) n
    (sym (ap second_in found.cut
    ∙ second_in-form found.hour found.minute found.second found.in_hour found.in_minute found.in_second) ∙ fits.1) in
    let same : found.hour * 3600 + found.minute * 60 + found.second ≡ n = cc (there.1) in
    let last = and_parts (nat_lt found.hour 24 && nat_lt found.minute 60) (nat_lt found.second 60) there.0 in
    let first = and_parts (nat_lt found.hour 24) (nat_lt found.minute 60) last.0 in
    record {
      hour = found.hour;
      minute = found.minute;
      second = found.second;
      cut = found.cut;
      hours = ltb-true found.hour 24 first.0;
      minutes = ltb-true found.minute 60 first.1;
      in_minute = ltb-true found.second 60 last.1;
      value = sym same;
    }

time_reads : (text : List ℕ) (n : ℕ) → IsTimeText text n → time_reading text ≡ Some n
unfolding time_reading
time_reads text n h =
    let hours = h.hours in
    let minutes = h.minutes in
    let in_minute = h.in_minute in
    let form = fits_clock h.hour h.minute h.second (omega arith) (omega arith) (omega arith) in
    let second = second_in-form h.hour h.minute h.second (omega arith) (omega arith) (omega arith) in
    let there : has_time h.hour h.minute h.second ≡ true =
    and_from (nat_lt h.hour 24 && nat_lt h.minute 60) (nat_lt h.second 60)
    (and_from (nat_lt h.hour 24) (nat_lt h.minute 60) (lt-ltb h.hour 24 h.hours) (lt-ltb h.minute 60 h.minutes))
    (lt-ltb h.second 60 h.in_minute) in
    ap (λ xs. cond (fits_form (codes "00:00:00") xs) (second_in xs) None) h.cut ∙ cond-true _ _ _ form ∙ second
    ∙ cond-true _ _ _ there ∙ ap Some (sym h.value)

pub time_where_of_form : (text : List ℕ) (n : ℕ) → (time_reading text ≡ Some n) ↔ IsTimeText text n
time_where_of_form text n = (read_time text n, time_reads text n)

-- ---- years and months

read_year : (text : List ℕ) (n : ℕ) → year_reading text ≡ Some n → IsYearText text n
unfolding year_reading
read_year text n e =
    let fits = if-some (fits_form (codes "0000") text) (Some (year_in text)) n e in
    let found = four_in [] text fits.0 in
    let year = found.number in
    let whole : text ≡ four_digits year =
    found.cut ∙ ap (λ xs. four_digits year ++ xs) (nothing_in found.rest found.fits) ∙ append-nil (four_digits year) in
    let small = found.small in
    let named : year_in (four_digits year) ≡ year =
    four_back year _ _ (two_back (year / 100) (omega arith)) (two_back (year % 100) (omega arith)) in
    let read : year_in text ≡ n = cc (fits.1) in
    let same : year ≡ n = sym named ∙ ap year_in (sym whole) ∙ read in
    subst (IsYearText text) same (record { cut = whole; four = found.small })

year_reads : (text : List ℕ) (n : ℕ) → IsYearText text n → year_reading text ≡ Some n
unfolding year_reading
year_reads text n h =
    let four = h.four in
    let form : fits_form (codes "0000") (four_digits n) ≡ true = fits_four n [] [] h.four refl in
    let named : year_in (four_digits n) ≡ n =
    four_back n _ _ (two_back (n / 100) (omega arith)) (two_back (n % 100) (omega arith)) in
    ap (λ xs. cond (fits_form (codes "0000") xs) (Some (year_in xs)) None) h.cut ∙ cond-true _ _ _ form
    ∙ ap Some named

pub year_where_of_form : (text : List ℕ) (n : ℕ) → (year_reading text ≡ Some n) ↔ IsYearText text n
year_where_of_form text n = (read_year text n, year_reads text n)

abbrev month_form : ℕ → ℕ → List ℕ
month_form year month = four_digits year ++ codes "-" ++ two_digits month

abbrev some_month : ℕ → ℕ → Option (ℕ × ℕ)
some_month year month = Some (year, month)

month_in-form : (y m : ℕ) → y ≤ 9999 → m < 100
    → (year_in (month_form y m) ≡ y) × (number_at 5 (month_form y m) ≡ m)
month_in-form y m year month =
    (four_back y _ _ (two_back (y / 100) (omega arith)) (two_back (y % 100) (omega arith)), two_back m month)

read_month : (text : List ℕ) (y m : ℕ) → yearmonth_reading text ≡ Some (y, m) → IsYearMonthText text y m
unfolding yearmonth_reading
read_month text y m e =
    let outer = if-some (fits_form (codes "0000-00") text && has_month (number_at 5 text))
    (some_month (year_in text) (number_at 5 text)) (y, m) e in
    let inner = and_parts (fits_form (codes "0000-00") text) (has_month (number_at 5 text)) outer.0 in
    let months = and_parts (nat_le 1 (number_at 5 text)) (nat_le (number_at 5 text) 12) inner.1 in
    let low = leb-true 1 (number_at 5 text) months.0 in
    let high = leb-true (number_at 5 text) 12 months.1 in
    let year = four_in (codes "-00") text inner.0 in
    let dash = mark_in 45 (codes "00") year.rest refl year.fits in
    let month = two_in [] dash.0 dash.2 in
    let whole : text ≡ month_form year.number month.number =
    year.cut ∙ ap (λ xs. four_digits year.number ++ xs)
    (dash.1
    ∙ ap (λ (xs : List ℕ). 45 ∷ xs)
    (month.cut ∙ ap (λ xs. two_digits month.number ++ xs) (nothing_in month.rest month.fits))) in
    let named = month_in-form year.number month.number year.small month.small in
    let found = read_pair (year_in text) (number_at 5 text) y m outer.1 in
    let same_year : year.number ≡ y = sym named.0 ∙ ap year_in (sym whole) ∙ found.0 in
    let same_month : month.number ≡ m = sym named.1 ∙ ap (number_at 5) (sym whole) ∙ found.1 in
    record {
      cut = whole ∙ ap (λ n. month_form n month.number) same_year ∙ ap (month_form y) same_month;
      four = subst (λ (n : ℕ). n ≤ 9999) same_year year.small;
      first = subst (λ (n : ℕ). 1 ≤ n) found.1 low;
      last = subst (λ (n : ℕ). n ≤ 12) found.1 high;
    }
  where
    read_pair : (a b c d : ℕ) → some_month a b ≡ Some (c, d) → (a ≡ c) × (b ≡ d)
    read_pair a b c d e =
        let both : ◌≡◌ {A = ℕ × ℕ} (a, b) (c, d) =
        ap (λ (o : Option (ℕ × ℕ)). unwrap_or o (a, b)) e in
        (ap (λ (x : ℕ × ℕ). x.0) both, ap (λ (x : ℕ × ℕ). x.1) both)

month_reads : (text : List ℕ) (y m : ℕ) → IsYearMonthText text y m → yearmonth_reading text ≡ Some (y, m)
unfolding yearmonth_reading
month_reads text y m h =
    let four = h.four in
    let high = h.last in
    let form : fits_form (codes "0000-00") (month_form y m) ≡ true =
    fits_four y (codes "-00") (codes "-" ++ two_digits m) h.four (fits_two m [] [] (omega arith) refl) in
    let named = month_in-form y m h.four (omega arith) in
    let there : has_month (number_at 5 (month_form y m)) ≡ true =
    ap has_month named.1 ∙ and_from (leb 1 m) (leb m 12) (le-leb 1 m h.first) (le-leb m 12 h.last) in
    ap (λ xs. cond (fits_form (codes "0000-00") xs && has_month (number_at 5 xs))
    (some_month (year_in xs) (number_at 5 xs)) None) h.cut
    ∙ cond-true _ _ _ (and_from _ _ form there) ∙ ap (λ n. some_month n (number_at 5 (month_form y m))) named.0
    ∙ ap (some_month y) named.1

pub month_where_of_form : (text : List ℕ) (y m : ℕ)
    → (yearmonth_reading text ≡ Some (y, m)) ↔ IsYearMonthText text y m
month_where_of_form text y m = (read_month text y m, month_reads text y m)

-- ---- date-times

is_zone-form : (zone : List ℕ) → is_zone zone ≡ true → (zone ≡ []) ⊎ (zone ≡ codes "Z")
is_zone-form [] h = inl refl
is_zone-form (c ∷ []) h = inr (ap (λ n. n ∷ []) (eqb-true c 90 h))
is_zone-form (c ∷ d ∷ cs) h = cc

time_mark-form : (c : ℕ) → is_time_designator c ≡ true → (c ∷ [] ≡ codes "T") ⊎ (c ∷ [] ≡ codes " ")
time_mark-form c h = by_mark (eqb c 84) refl h
  where
    by_mark : (b : Bool) → eqb c 84 ≡ b → (b || eqb c 32) ≡ true → (c ∷ [] ≡ codes "T") ⊎ (c ∷ [] ≡ codes " ")
    by_mark true e h = inl (ap (λ n. n ∷ []) (eqb-true c 84 e))
    by_mark false e h = inr (ap (λ n. n ∷ []) (eqb-true c 32 h))

time-length : (text : List ℕ) (n : ℕ) → IsTimeText text n → length text ≡ 8
time-length text n h = ap length h.cut

read_stamp : (text : List ℕ) (z : ℤ) → stamp_reading text ≡ Some z → IsStampText text z
unfolding stamp_reading
read_stamp text z e =
    let marked = if-some (is_time_designator (get_or text 10 0)) (zoned_moment (take 10 text) (drop 11 text)) z e in
    let zoned =
    if-some (is_zone (drop 8 (drop 11 text))) (moment_at (take 10 text) (take 8 (drop 11 text))) z marked.1 in
    let parts = moment_at-parts (take 10 text) (take 8 (drop 11 text)) z zoned.1 in
    let time = read_time (take 8 (drop 11 text)) parts.1 parts.3 in
    let long : length (take 8 (drop 11 text)) ≡ 8 = time-length (take 8 (drop 11 text)) parts.1 time in
    let room : 10 < length text =
    omega (arith, long, length-take {A = ℕ}, length-drop {A = ℕ}) in
    record {
      date = take 10 text;
      between = get_or text 10 0 ∷ [];
      time = take 8 (drop 11 text);
      zone = drop 8 (drop 11 text);
      day = parts.0;
      second = parts.1;
      cut = cut_at text room;
      dated = read_date (take 10 text) parts.0 parts.2;
      marked = time_mark-form (get_or text 10 0) marked.0;
      timed = time;
      zoned = is_zone-form (drop 8 (drop 11 text)) zoned.0;
      value = sym parts.4;
    }
  where
    cut_at : (xs : List ℕ) → 10 < length xs
        → xs ≡ take 10 xs ++ (get_or xs 10 0 ∷ []) ++ take 8 (drop 11 xs) ++ drop 8 (drop 11 xs)
    cut_at xs h =
        let tail : take 8 (drop 11 xs) ++ drop 8 (drop 11 xs) ≡ drop 11 xs = take-append-drop 8 (drop 11 xs) in
        sym (append_assoc (take 10 xs ++ (get_or xs 10 0 ∷ [])) (take 8 (drop 11 xs)) (drop 8 (drop 11 xs))
        ∙ ap (λ ys. take 10 xs ++ (get_or xs 10 0 ∷ []) ++ ys) tail
        ∙ append_assoc (take 10 xs) (get_or xs 10 0 ∷ []) (drop 11 xs)
        ∙ ap (λ ys. take 10 xs ++ ys) (sym (drop-cons xs 10 0 h))
        ∙ take-append-drop 10 xs)

zoned_at : (date time zone : List ℕ) (n : ℕ) → IsTimeText time n → (zone ≡ []) ⊎ (zone ≡ codes "Z")
    → zoned_moment date (time ++ zone) ≡ moment_at date time
zoned_at date time zone n h w =
    ap (λ xs. zoned_moment date (xs ++ zone)) h.cut ∙ by_zone w ∙ ap (moment_at date) (sym h.cut)
  where
    by_zone : (zone ≡ []) ⊎ (zone ≡ codes "Z")
        → zoned_moment date (clock_form h.hour h.minute h.second ++ zone)
        ≡ moment_at date (clock_form h.hour h.minute h.second)
    by_zone (inl e) = ap (λ zs. zoned_moment date (clock_form h.hour h.minute h.second ++ zs)) e
    by_zone (inr e) = ap (λ zs. zoned_moment date (clock_form h.hour h.minute h.second ++ zs)) e

-- the parts of a date-time, as they are read
stamp_at : (y m d mark : ℕ) (rest : List ℕ) → is_time_designator mark ≡ true
    → stamp_reading (date_form y m d ++ mark ∷ [] ++ rest) ≡ zoned_moment (date_form y m d) rest
unfolding stamp_reading
stamp_at y m d mark rest h = cond-true _ _ _ h

marked_at : (date between rest : List ℕ) (y m d : ℕ) → date ≡ date_form y m d
    → (between ≡ codes "T") ⊎ (between ≡ codes " ") → stamp_reading (date ++ between ++ rest) ≡ zoned_moment date rest
marked_at date between rest y m d e w =
    ap (λ xs. stamp_reading (xs ++ between ++ rest)) e ∙ by_mark w ∙ ap (λ xs. zoned_moment xs rest) (sym e)
  where
    by_mark : (between ≡ codes "T") ⊎ (between ≡ codes " ")
        → stamp_reading (date_form y m d ++ between ++ rest) ≡ zoned_moment (date_form y m d) rest
    by_mark (inl t) = ap (λ xs. stamp_reading (date_form y m d ++ xs ++ rest)) t ∙ stamp_at y m d 84 rest refl
    by_mark (inr t) = ap (λ xs. stamp_reading (date_form y m d ++ xs ++ rest)) t ∙ stamp_at y m d 32 rest refl

stamp_reads : (text : List ℕ) (z : ℤ) → IsStampText text z → stamp_reading text ≡ Some z
stamp_reads text z h =
    ap stamp_reading (h.cut ∙ append_assoc (h.date ++ h.between) h.time h.zone)
    ∙ marked_at h.date h.between (h.time ++ h.zone) h.dated.year h.dated.month h.dated.date h.dated.cut h.marked
    ∙ zoned_at h.date h.time h.zone h.second h.timed h.zoned
    ∙ moment_at-read h.date h.time h.day h.second (date_reads h.date h.day h.dated)
    (time_reads h.time h.second h.timed) ∙ ap Some (sym h.value)

pub stamp_where_of_form : (text : List ℕ) (z : ℤ) → (stamp_reading text ≡ Some z) ↔ IsStampText text z
stamp_where_of_form text z = (read_stamp text z, stamp_reads text z)

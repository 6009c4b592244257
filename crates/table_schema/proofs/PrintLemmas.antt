-- Printed dates, times and months read back as the same.
use Rattle.std.proofs.Common.{◌≡◌, ℕ, ◌+◌, ◌-◌, ◌*◌, ◌/◌, ◌%◌, ◌<◌, ◌≤◌, true, false, ◌&&◌, cond, leb, ltb}
use Rattle.std.proofs.Common.{refl, sym, ap, ◌∙◌, arith, Bool, List, [], ◌∷◌, ◌++◌, length, get_or, take, drop, ℤ}
use Rattle.std.proofs.Common.{pos, negsuc, ◌+ℤ◌, ◌-ℤ◌, ◌*ℤ◌, ◌≤ℤ◌, length-drop}
use Rattle.std.specs.Prelude.{Some, None, unsigned_abs, codes}
use Rattle.std.specs.List.{list_all}
use Rattle.std.specs.Str.{IsAscii, IsCharBoundary}
use Rattle.std.proofs.lemmas.Nat.{div-mul-add, mod-mul-add}
use Rattle.std.proofs.lemmas.List.{take_all, nil_from_length}
use Rattle.std.proofs.lemmas.Int.{ints}
use Rattle.std.proofs.lemmas.Bool.{and_parts, and_from, cond-true, le-leb, ltb-true}
use Rattle.std.proofs.lemmas.Bool.Decides.{nat_tests}
use Rattle.std.proofs.lemmas.Str.{IsCharBoundary-from_ascii}
use Rattle.portal_base.specs.Moment.{IsMoment, first_moment}
use Rattle.portal_base.specs.MomentReading.{fits_form, fits_character, moment_form, number_at, year_in}
use Rattle.portal_base.specs.MomentReading.{names_moment, seconds_in, moment_reading}
use Rattle.portal_base.specs.MomentText.{moment_text, clock_text, day_text, calendar_seconds}
use Rattle.portal_base.proofs.FormLemmas.{fits_form-at, fits_form-length}
use Rattle.portal_base.proofs.ReadingBack.{reading-moment_text}
use Rattle.portal_base.proofs.CalendarLemmas.{time_reading-bound, moment_at-parts, moment_at-read, moment_reading-at}
use Rattle.portal_base.proofs.CalendarLemmas.{IsMoment-seconds_of}
use Rattle.portal_base.specs.Calendar.{IsDay, date_reading, time_reading, yearmonth_reading, has_month, seconds_of}
use Rattle.table_schema.specs.Stamp.{stamp_reading, is_zone, is_time_designator}
use Rattle.table_schema.specs.Printed.{date_text, year_month_text}
use Rattle.lexical_forms.proofs.ReadingLemmas.{if-some}
use Rattle.lexical_forms.proofs.NumberTextLemmas.{IsAscii-cons, IsAscii-nil}

-- ---- moments, and their dates and times of day

-- the date and the time of day in the text of a moment
pub record Split (text : List ℕ) (seconds : ℤ) : Type 0 where
  pub day : ℤ
  pub second : ℕ
  pub date : date_reading (take 10 text) ≡ Some day
  pub time : time_reading (take 8 (drop 11 text)) ≡ Some second
  pub sum : seconds_of day second ≡ seconds
  pub mark : get_or text 10 0 ≡ 84
  pub long : length text ≡ 19

moment_reading-form : (text : List ℕ) (seconds : ℤ) → moment_reading text ≡ Some seconds
    → fits_form moment_form text ≡ true
unfolding moment_reading
moment_reading-form text seconds e =
    (and_parts (fits_form moment_form text) (names_moment text)
    (if-some (fits_form moment_form text && names_moment text) (Some (seconds_in text)) seconds e).0).0

moment_reading-Split : (text : List ℕ) (seconds : ℤ) → moment_reading text ≡ Some seconds → Split text seconds
moment_reading-Split text seconds e =
    let fits = moment_reading-form text seconds e in
    let long = fits_form-length moment_form text fits in
    let mark : get_or text 10 0 ≡ 84 =
    (let same = fits_form-at moment_form text 10 fits (omega arith) in grind (arith, nat_tests)) in
    let parts = moment_at-parts (take 10 text) (drop 11 text) seconds (moment_reading-at text long mark ∙ e) in
    let whole : take 8 (drop 11 text) ≡ drop 11 text =
    take_all 8 (drop 11 text) (omega (arith, long, length-drop {A = ℕ})) in
    record {
      day = parts.0;
      second = parts.1;
      date = parts.2;
      time = ap time_reading whole ∙ parts.3;
      sum = parts.4;
      mark = mark;
      long = long;
    }

pub moment_text-Split : (seconds : ℤ) → IsMoment seconds → Split (moment_text seconds) seconds
moment_text-Split seconds h = moment_reading-Split (moment_text seconds) seconds (reading-moment_text seconds h)

-- The text of a moment reads as a date-time.
pub stamp_reading-back : (seconds : ℤ) → IsMoment seconds → stamp_reading (moment_text seconds) ≡ Some seconds
unfolding stamp_reading
stamp_reading-back seconds h =
    let split = moment_text-Split seconds h in
    let text = moment_text seconds in
    let mark : is_time_designator (get_or text 10 0) ≡ true = rw split.mark refl in
    let ends : drop 8 (drop 11 text) ≡ [] =
    nil_from_length (drop 8 (drop 11 text)) (omega (arith, length-drop {A = ℕ}, split.long)) in
    let zone : is_zone (drop 8 (drop 11 text)) ≡ true = rw ends refl in
    cond-true _ _ _ mark ∙ cond-true _ _ _ zone
    ∙ moment_at-read (take 10 text) (take 8 (drop 11 text)) split.day split.second split.date split.time
    ∙ ap Some split.sum

same_day : (a b : ℤ) (s t : ℕ) → s < 86400 → t < 86400 → a *ℤ pos 86400 +ℤ pos s ≡ b *ℤ pos 86400 +ℤ pos t
    → (a ≡ b) × (s ≡ t)
same_day a b s t h k e = (omega (arith, ints), omega (arith, ints))

natural : (z : ℤ) → pos 0 ≤ℤ z → z ≡ pos (unsigned_abs z)
natural (pos n) h = refl
natural (negsuc n) h = absurd (omega (arith, ints))

calendar_seconds-of : (day : ℤ) (second : ℕ) → IsDay day
    → calendar_seconds (seconds_of day second) ≡ unsigned_abs (day +ℤ pos 719528) * 86400 + second
calendar_seconds-of day second h =
    let whole = natural (day +ℤ pos 719528) (omega (arith, ints)) in
    let total : seconds_of day second -ℤ first_moment ≡ pos (unsigned_abs (day +ℤ pos 719528) * 86400 + second) =
    omega (arith, ints) in
    ap unsigned_abs total

-- The text of a moment has the texts of its date and its time of day.
pub moment_text-of : (day : ℤ) (second : ℕ) → IsDay day → second < 86400
    → moment_text (seconds_of day second) ≡ date_text day ++ codes "T" ++ clock_text second
unfolding moment_text
moment_text-of day second h lt =
    let total = calendar_seconds-of day second h in
    let days : calendar_seconds (seconds_of day second) / 86400 ≡ unsigned_abs (day +ℤ pos 719528) =
    ap (λ n. n / 86400) total ∙ div-mul-add (unsigned_abs (day +ℤ pos 719528)) 86400 second lt in
    let rest : calendar_seconds (seconds_of day second) % 86400 ≡ second = ap (λ n. n % 86400) total
    ∙ mod-mul-add (unsigned_abs (day +ℤ pos 719528)) 86400 second lt in
    ap (λ n. day_text n ++ codes "T" ++ clock_text (calendar_seconds (seconds_of day second) % 86400)) days
    ∙ ap (λ n. date_text day ++ codes "T" ++ clock_text n) rest

read_back : (day : ℤ) (second : ℕ) → IsDay day → second < 86400
    → (date_reading (date_text day) ≡ Some day) × (time_reading (clock_text second) ≡ Some second)
read_back day second h lt =
    let moment = IsMoment-seconds_of day second h lt in
    let split = moment_text-Split (seconds_of day second) moment in
    let same = same_day split.day day split.second second (time_reading-bound _ split.second split.time) lt split.sum in
    let text = moment_text-of day second h lt in (
      ap (λ t. date_reading (take 10 t)) (sym text) ∙ split.date ∙ ap Some same.0,
      ap (λ t. time_reading (take 8 (drop 11 t))) (sym text) ∙ split.time ∙ ap Some same.1,
    )

-- A printed date reads as that date.
pub date_text-back : (day : ℤ) → IsDay day → date_reading (date_text day) ≡ Some day
date_text-back day h = (read_back day 0 h (omega arith)).0

-- A printed time of day reads as that time.
pub clock_text-back : (second : ℕ) → second < 86400 → time_reading (clock_text second) ≡ Some second
clock_text-back second h = (read_back (pos 0) second (omega (arith, ints), omega (arith, ints)) h).1

-- Two digits read as their number.
two_digits-back : (n : ℕ) → n < 100 → (48 + n / 10 - 48) * 10 + (48 + n % 10 - 48) ≡ n
two_digits-back n h = omega arith

-- A printed year and month reads as that year and month.
pub year_month_text-back : (year month : ℕ) → year ≤ 9999 → 1 ≤ month → month ≤ 12
    → yearmonth_reading (year_month_text year month) ≡ Some (year, month)
unfolding yearmonth_reading
year_month_text-back year month h low high =
    let form : fits_form (codes "0000-00") (year_month_text year month) ≡ true =
    and_from _ _ (digit (year / 100 / 10) (omega arith))
    (and_from _ _ (digit (year / 100 % 10) (omega arith))
    (and_from _ _ (digit (year % 100 / 10) (omega arith))
    (and_from _ _ (digit (year % 100 % 10) (omega arith))
    (and_from _ _ (digit (month / 10) (omega arith)) (and_from _ _ (digit (month % 10) (omega arith)) refl))))) in
    let century : number_at 0 (year_month_text year month) ≡ year / 100 = two_digits-back (year / 100) (omega arith) in
    let in_century : number_at 2 (year_month_text year month) ≡ year % 100 =
    two_digits-back (year % 100) (omega arith) in
    let month_at : number_at 5 (year_month_text year month) ≡ month = two_digits-back month (omega arith) in
    let named : year_in (year_month_text year month) ≡ year = omega (arith, century, in_century) in
    let there : has_month month ≡ true =
    and_from (leb 1 month) (leb month 12) (le-leb 1 month low) (le-leb month 12 high) in
    rw (form, month_at, there, named) refl
  where
    digit : (x : ℕ) → x < 10 → fits_character 48 (48 + x) ≡ true
    digit x lt = and_from (leb 48 (48 + x)) (leb (48 + x) 57) (le-leb 48 (48 + x) (omega arith))
        (le-leb (48 + x) 57 (omega arith))

-- ---- the texts of dates and times of day, as parts of the text of a moment

fits_form-IsAscii : (form text : List ℕ) → fits_form form text ≡ true → list_all (λ p. ltb p 128) form ≡ true
    → IsAscii text
fits_form-IsAscii [] [] h k = IsAscii-nil
fits_form-IsAscii [] (c ∷ text) h k = cc
fits_form-IsAscii (p ∷ form) [] h k = cc
fits_form-IsAscii (p ∷ form) (c ∷ text) h k =
    let fits = and_parts (fits_character p c) (fits_form form text) h in
    let low = and_parts (ltb p 128) (list_all (λ p. ltb p 128) form) k in
    IsAscii-cons c text (position p c fits.0 (ltb-true p 128 low.0)) (fits_form-IsAscii form text fits.1 low.1)
  where
    position : (p c : ℕ) → fits_character p c ≡ true → p < 128 → c < 128
    position p c h lt = grind (arith, nat_tests)

moment_reading-IsAscii : (text : List ℕ) (seconds : ℤ) → moment_reading text ≡ Some seconds
    → IsAscii text × (length text ≡ 19)
unfolding moment_reading
moment_reading-IsAscii text seconds e = by_form (fits_form moment_form text) refl e
  where
    by_form : (b : Bool) → fits_form moment_form text ≡ b
        → cond (b && names_moment text) (Some (seconds_in text)) None ≡ Some seconds → IsAscii text × (length text ≡ 19)
    by_form true fits h = (fits_form-IsAscii moment_form text fits refl, fits_form-length moment_form text fits)
    by_form false fits h = cc

-- The text of a moment may be split at these positions.
pub moment-boundary : (text : List ℕ) (seconds : ℤ) (position : ℕ) → moment_reading text ≡ Some seconds → position ≤ 19
    → IsCharBoundary text position
moment-boundary text seconds position e h =
    let ascii = moment_reading-IsAscii text seconds e in
    IsCharBoundary-from_ascii text position ascii.0 (omega (arith, ascii.1))

pub date-cut : (day moment : ℤ) (text : List ℕ) → IsDay day → moment ≡ day *ℤ pos 86400 → text ≡ moment_text moment
    → take 10 text ≡ date_text day
date-cut day moment text h same e =
    let start : moment ≡ seconds_of day 0 = omega (arith, ints) in
    ap (take 10) (e ∙ ap moment_text start ∙ moment_text-of day 0 h (omega arith))

pub time-cut : (second : ℕ) (moment : ℤ) (text : List ℕ) → second < 86400 → moment ≡ pos second
    → text ≡ moment_text moment → drop 11 text ≡ clock_text second
time-cut second moment text h same e =
    let start : moment ≡ seconds_of (pos 0) second = omega (arith, ints) in
    ap (drop 11) (e ∙ ap moment_text start ∙ moment_text-of (pos 0) second (omega (arith, ints), omega (arith, ints)) h)

-- The texts of dates and times of day are the printed ones.
use Rattle.std.proofs.Common.{◌≡◌, ℕ, ◌+◌, ◌*◌, ◌<◌, ◌≤◌, true, ◌&&◌, nat_le, refl, sym, ap, ◌∙◌, subst, arith}
use Rattle.std.proofs.Common.{List, take, drop, ℤ, pos}
use Rattle.std.specs.Prelude.{◌↔◌}
use Rattle.std.proofs.lemmas.Bool.{and_parts, leb-true}
use Rattle.jiff_core.specs.Calendar.{days_in_month, days_from_civil}
use Rattle.portal_base.specs.MomentReading.{has_day}
use Rattle.portal_base.specs.MomentText.{clock_text, moment_text}
use Rattle.portal_base.proofs.MomentTextLemmas.{parts_text}
use Rattle.portal_base.proofs.ReadingBack.{reading-parts, reading-only}
use Rattle.portal_base.specs.Calendar.{IsDay, has_month, seconds_of}
use Rattle.table_schema.specs.Printed.{date_text}
use Rattle.table_schema.specs.Texts.{IsDateText, IsTimeText}
use Rattle.portal_base.proofs.CalendarLemmas.{date_reading-IsDay, IsDay-from}
use Rattle.table_schema.proofs.PrintLemmas.{moment_text-of, date_text-back, clock_text-back}
use Rattle.table_schema.proofs.TextLemmas.{date_where_of_form, time_where_of_form}

-- the month and the day of the month that the calendar has
months-of : (y m d : ℕ) → has_day y m d ≡ true
    → ((1 ≤ m) × (m ≤ 12)) × ((1 ≤ d) × (d ≤ days_in_month (pos y) m))
months-of y m d t =
    let last = and_parts (has_month m && nat_le 1 d) (nat_le d (days_in_month (pos y) m)) t in
    let first = and_parts (has_month m) (nat_le 1 d) last.0 in
    let month = and_parts (nat_le 1 m) (nat_le m 12) first.0 in (
      (leb-true 1 m month.0, leb-true m 12 month.1),
      (leb-true 1 d first.1, leb-true d (days_in_month (pos y) m) last.1),
    )

-- a valid day and a valid time of day are printed as their parts
printed-parts : (y m d h n s second : ℕ) → y ≤ 9999 → has_day y m d ≡ true → h < 24 → n < 60 → s < 60
    → second ≡ h * 3600 + n * 60 + s
    → parts_text y m d h n s ≡ moment_text (seconds_of (days_from_civil (pos y) m d) second)
printed-parts y m d h n s second year there hour minute in_minute e =
    let parts = months-of y m d there in
    let read = reading-parts y m d h n s year parts.0 parts.1 hour minute in_minute in
    (reading-only _ (parts_text y m d h n s) read).1
    ∙ ap (λ k. moment_text (seconds_of (days_from_civil (pos y) m d) k)) (sym e)

date-printed : (text : List ℕ) (day : ℤ) → IsDateText text day → IsDay day × (text ≡ date_text day)
date-printed text day h =
    let within = date_reading-IsDay text day ((date_where_of_form text day).1 h) in
    let whole = printed-parts h.year h.month h.date 0 0 0 0 h.four h.there (omega arith) (omega arith) (omega arith)
    refl in
    let printed = whole ∙ ap (λ z. moment_text (seconds_of z 0)) (sym h.value)
    ∙ moment_text-of day 0 within (omega arith) in
    (within, h.cut ∙ ap (take 10) printed)

printed-date : (text : List ℕ) (day : ℤ) → IsDay day × (text ≡ date_text day) → IsDateText text day
printed-date text day h =
    subst (λ xs. IsDateText xs day) (sym h.1) ((date_where_of_form (date_text day) day).0 (date_text-back day h.0))

pub date_where_printed : (text : List ℕ) (day : ℤ) → IsDateText text day ↔ (IsDay day × (text ≡ date_text day))
date_where_printed text day = (date-printed text day, printed-date text day)

time-printed : (text : List ℕ) (second : ℕ) → IsTimeText text second → (second < 86400) × (text ≡ clock_text second)
time-printed text second h =
    let hours = h.hours in
    let minutes = h.minutes in
    let in_minute = h.in_minute in
    let value = h.value in
    let small : second < 86400 = omega arith in
    let whole = printed-parts 1970 1 1 h.hour h.minute h.second second
    (omega arith) refl hours minutes in_minute value in
    let printed = whole
    ∙ moment_text-of (days_from_civil (pos 1970) 1 1) second (IsDay-from 1970 1 1 (omega arith) refl) small in
    (small, h.cut ∙ ap (drop 11) printed)

printed-time : (text : List ℕ) (second : ℕ) → (second < 86400) × (text ≡ clock_text second) → IsTimeText text second
printed-time text second h =
    subst (λ xs. IsTimeText xs second) (sym h.1)
    ((time_where_of_form (clock_text second) second).0 (clock_text-back second h.0))

pub time_where_printed : (text : List ℕ) (second : ℕ)
    → IsTimeText text second ↔ ((second < 86400) × (text ≡ clock_text second))
time_where_printed text second = (time-printed text second, printed-time text second)

-- A date and time of day from the seconds since 1970.
use Rattle.std.proofs.Common.{List, ◌≡◌, ℕ, ◌<◌, refl, sym, ap, ◌∙◌, arith, ℤ, pos, ◌+ℤ◌, ◌*ℤ◌, w64, to_z, of_z}
use Rattle.std.proofs.lemmas.Int.{to_z-of_z}
use Rattle.jiff_core.specs.declared.civil.date.Date.{Date}
use Rattle.jiff_core.specs.declared.civil.datetime.DateTime.{DateTime}
use Rattle.jiff_core.specs.Calendar.{days_from_civil}
use Rattle.jiff_core.specs.Date.{epoch_day, IsYmd}
use Rattle.jiff_core.specs.DateTime.{civil_nanos, civil_seconds, IsCivilNanos}
use Rattle.jiff_core.specs.Time.{time_nanos}
use Rattle.jiff_core.proofs.CalendarLemmas.{day_count-epoch}
use Rattle.jiff_core.proofs.DateLemmas.{epoch_day_injective}
use Rattle.jiff_core.proofs.DateTimeLemmas.{civil_nanos-parts, civil_nanos-civil_seconds, civil_nanos_injective}
use Rattle.jiff_core.proofs.DateTimeLemmas.{time_nanos_injective}
use Rattle.jiff.specs.Names.{iso_datetime_text}
use Rattle.jiff_core.proofs.SignedLemmas.{signed_arith}
use Rattle.portal_base.specs.Moment.{IsMoment}
use Rattle.portal_base.specs.MomentText.{IsMomentText}

-- 1 January 1970 is day 0.
pub days_from_civil-1970 : days_from_civil (pos 1970) 1 1 ≡ pos 0
unfolding days_from_civil
days_from_civil-1970 = rw day_count-epoch refl

-- The seconds of a moment are in jiff's range, in nanoseconds.
pub IsCivilNanos-moment : (m : ℤ) → IsMoment m → IsCivilNanos (m *ℤ pos 1000000000)
IsCivilNanos-moment m h = (omega (arith, signed_arith), omega (arith, signed_arith))

-- A number of seconds with less than a second more has that number of whole seconds.
pub whole_seconds : (a b : ℤ) (s : ℕ) → s < 1000000000 → a *ℤ pos 1000000000 ≡ b *ℤ pos 1000000000 +ℤ pos s
    → (b ≡ a) × (s ≡ 0)
whole_seconds a b s lt e = (omega (arith, signed_arith), omega (arith, signed_arith))

-- The civil nanoseconds of 1970-01-01T00:00:00.
pub civil_nanos-start : (d : Date) (dt : DateTime) → IsYmd (pos 1970) (pos 1) (pos 1) d → dt.date ≡ d
    → time_nanos dt.time ≡ 0 → civil_nanos dt ≡ pos 0
civil_nanos-start d dt ymd e midnight =
    let month : d.month ≡ 1 = omega (arith, signed_arith, ymd.1) in
    let day : d.day ≡ 1 = omega (arith, signed_arith, ymd.2) in
    let zero : epoch_day d ≡ pos 0 =
    ap (λ y. days_from_civil y d.month d.day) ymd.0 ∙ ap (λ n. days_from_civil (pos 1970) n d.day) month
    ∙ ap (λ n. days_from_civil (pos 1970) 1 n) day ∙ days_from_civil-1970 in
    civil_nanos-parts dt ∙ ap (λ x. epoch_day x *ℤ pos 86400000000000 +ℤ pos (time_nanos dt.time)) e
    ∙ ap (λ z. z *ℤ pos 86400000000000 +ℤ pos (time_nanos dt.time)) zero
    ∙ ap (λ n. pos 0 *ℤ pos 86400000000000 +ℤ pos n) midnight

-- A date and time a number of nanoseconds after the start, if these are whole seconds.
pub civil_seconds-after : (m start nanos : ℤ) (at : DateTime) → start ≡ pos 0 → nanos ≡ m *ℤ pos 1000000000
    → civil_nanos at ≡ start +ℤ nanos → (civil_seconds at ≡ m) × (at.time.subsec_nanosecond ≡ 0)
civil_seconds-after m start nanos at zero n e =
    let below : at.time.subsec_nanosecond < 1000000000 = omega (arith, at.time.subsec_in) in
    let sum : start +ℤ nanos ≡ m *ℤ pos 1000000000 = omega (arith, signed_arith) in
    whole_seconds m (civil_seconds at) at.time.subsec_nanosecond below (sym sum ∙ sym e ∙ civil_nanos-civil_seconds at)

-- The seconds of a moment fit 64 bits.
pub FitsSigned-moment : (m : ℤ) → IsMoment m → to_z w64 (of_z w64 m) ≡ m
FitsSigned-moment m h = to_z-of_z w64 m (omega (arith, signed_arith))

-- Nanoseconds from the start.
pub zero_plus : (start nanos m : ℤ) → start ≡ pos 0 → nanos ≡ m *ℤ pos 1000000000 → start +ℤ nanos ≡ m *ℤ pos 1000000000
zero_plus start nanos m zero n = omega (arith, signed_arith)

-- A date and time of day without a fraction is determined by its seconds.
pub civil_nanos-whole : (at : DateTime) → at.time.subsec_nanosecond ≡ 0
    → civil_nanos at ≡ civil_seconds at *ℤ pos 1000000000 +ℤ pos 0
civil_nanos-whole at whole = civil_nanos-civil_seconds at ∙ ap (λ n. civil_seconds at *ℤ pos 1000000000 +ℤ pos n) whole

-- Two with the same seconds have the same text.
pub iso_datetime_text_same : (a b : DateTime) → civil_seconds a ≡ civil_seconds b → a.time.subsec_nanosecond ≡ 0
    → b.time.subsec_nanosecond ≡ 0 → iso_datetime_text a ≡ iso_datetime_text b
iso_datetime_text_same a b e whole_a whole_b =
    let nanos : civil_nanos a ≡ civil_nanos b = civil_nanos-whole a whole_a ∙ ap (λ z. z *ℤ pos 1000000000 +ℤ pos 0) e
    ∙ sym (civil_nanos-whole b whole_b) in
    let parts = civil_nanos_injective a b nanos in
    let d = epoch_day_injective a.date b.date parts.0 in
    let t = time_nanos_injective a.time b.time parts.1 in
    cc (d.0, d.1, d.2, t.0, t.1, t.2, t.3)

-- A moment has one text.
pub IsMomentText-unique : (m : ℤ) (t u : List ℕ) → IsMomentText m t → IsMomentText m u → t ≡ u
IsMomentText-unique m t u h k = h.3 ∙ iso_datetime_text_same h.0 k.0 (h.1 ∙ sym k.1) h.2 k.2 ∙ sym k.3

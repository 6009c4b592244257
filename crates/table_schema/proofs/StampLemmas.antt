-- Texts that aren't date-times: they are too short, or have another character before the time.
use Rattle.std.proofs.Common.{◌≡◌, ◌≢◌, ℕ, ◌<◌, true, false, cond, refl, arith, List, length, take, drop, get_or}
use Rattle.std.proofs.Common.{length-take, length-drop}
use Rattle.std.specs.Prelude.{None, codes}
use Rattle.portal_base.specs.Calendar.{time_reading, moment_at}
use Rattle.portal_base.specs.MomentReading.{fits_form}
use Rattle.portal_base.proofs.CalendarLemmas.{moment_at-no_time}
use Rattle.portal_base.proofs.FormLemmas.{fits_form-other_length}
use Rattle.table_schema.specs.Stamp.{is_zone, zoned_moment, is_time_designator, stamp_reading}

time_reading-short : (text : List ℕ) → length text < 8 → time_reading text ≡ None
unfolding time_reading
time_reading-short text h =
    let unfit : fits_form (codes "00:00:00") text ≡ false =
    fits_form-other_length (codes "00:00:00") text (let ne : length text ≢ 8 = omega arith in ne) in
    rw unfit refl

pub zoned_moment-short : (date time : List ℕ) → length time < 8 → zoned_moment date time ≡ None
zoned_moment-short date time h =
    let none : moment_at date (take 8 time) ≡ None =
    moment_at-no_time date (take 8 time) (time_reading-short (take 8 time) (omega (arith, length-take {A = ℕ}))) in
    elim (is_zone (drop 8 time)) as (λ b. cond b (moment_at date (take 8 time)) None ≡ None)
    [ true ↦ none | false ↦ refl ]

pub stamp_reading-short : (text : List ℕ) → length text < 19 → stamp_reading text ≡ None
unfolding stamp_reading
stamp_reading-short text h =
    let none = zoned_moment-short (take 10 text) (drop 11 text) (omega (arith, length-drop {A = ℕ})) in
    elim (is_time_designator (get_or text 10 0))
    as (λ b. cond b (zoned_moment (take 10 text) (drop 11 text)) None ≡ None) [ true ↦ none | false ↦ refl ]

pub stamp_reading-unmarked : (text : List ℕ) → is_time_designator (get_or text 10 0) ≡ false → stamp_reading text ≡ None
unfolding stamp_reading
stamp_reading-unmarked text h = rw h refl

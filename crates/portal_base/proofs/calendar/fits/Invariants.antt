use Rattle.std.proofs.Common.{◌≡◌, ℕ, ◌<◌, true, length, get_or}
use Rattle.portal_base.specs.MomentReading.{fits_character}
use Rattle.portal_base.proofs.calendar.fits.Given as goal

abbrev pub invariant-loop-position : goal.invariant-loop-position
invariant-loop-position l =
    (length l.text ≡ length l.form) × ((k : ℕ) → k < l.position
    → fits_character (get_or l.form k 0) (get_or l.text k 0) ≡ true)

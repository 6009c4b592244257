use Rattle.std.proofs.Common.{◌≡◌, ◌≢◌, ◌<◌, false, length, sym, arith, get_or}
use Rattle.portal_base.specs.MomentReading.{fits_character}
use Rattle.portal_base.proofs.FormLemmas.{fits_form-all, fits_form-other_position, fits_form-other_length}
use Rattle.portal_base.proofs.calendar.fits.Goals as goal

pub returns-then-text-form : goal.returns-then-text-form
returns-then-text-form c =
    sym (fits_form-other_length c.args.form.now c.args.text.now
    (let ne : length c.args.text.now ≢ length c.args.form.now = omega arith in ne))

pub returns-then-not-fits_character : goal.returns-then-not-fits_character
returns-then-not-fits_character c =
    let position = c.loop-position.position in
    let lt : position < length c.args.form.now = omega arith in
    let other : fits_character (get_or c.args.form.now position 0) (get_or c.args.text.now position 0) ≡ false = cc in
    sym (fits_form-other_position c.args.form.now c.args.text.now position lt other)

pub returns : goal.returns
returns c =
    sym (fits_form-all c.args.form.now c.args.text.now (c.loop-position.invariant.0)
    (λ k lt. c.loop-position.invariant.1 k (omega arith)))

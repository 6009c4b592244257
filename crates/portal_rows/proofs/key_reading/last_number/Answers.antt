use Rattle.std.proofs.Common.{◌≡◌, ◌∙◌, ◌+◌, ◌-◌, ap, arith, length, length-append, refl, sym}
use Rattle.portal_base.proofs.CalendarLemmas.{drop-rest}
use Rattle.portal_rows.specs.Readings.{digits_from}
use Rattle.portal_rows.specs.TableRows.{twenty_digits}
use Rattle.portal_rows.proofs.KeyLemmas.{last_number-read, length-twenty_digits}
use Rattle.portal_rows.proofs.key_reading.last_number.Goals as goal

pub returns-then-bytes-lt-DIGITS : goal.returns-then-bytes-lt-DIGITS
returns-then-bytes-lt-DIGITS c = λ front id small is.
    let long : length c.args.bytes.now ≡ length front + 20 =
    ap length is ∙ length-append front (twenty_digits id)
    ∙ ap (λ n. length front + n) (length-twenty_digits id small) in
    absurd (omega (arith, long))

pub returns : goal.returns
returns c = λ front id small is.
    let start = length c.args.bytes.now - 20 in
    c.number_of.ensures ∙ ap (digits_from 0) (sym (drop-rest start c.args.bytes.now))
    ∙ last_number-read c.args.bytes.now front id start small is refl

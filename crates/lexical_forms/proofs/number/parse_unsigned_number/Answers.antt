use Rattle.std.proofs.Common.{◌-◌, ◌∙◌, arith}
use Rattle.std.specs.Str.{chars}
use Rattle.lexical_forms.proofs.PartLemmas.{length-chars}
use Rattle.lexical_forms.proofs.ReadingLemmas.{reading-no_whole, no_fraction, no_exponent_read, empty_read}
use Rattle.lexical_forms.proofs.ReadingLemmas.{kept_exponent, number_read, unchanged, room_left}
use Rattle.lexical_forms.proofs.number.parse_unsigned_number.Goals as goal

pub returns-in_err-digits : goal.returns-in_err-digits
returns-in_err-digits c =
    record {
      value = c.from_residual.ensures ∙ reading-no_whole c.args.form (chars c.args.text.now)
          c.in_err-digits.ensures;
    }

pub take_fraction-requires-clause-room : goal.take_fraction-requires-clause-room
take_fraction-requires-clause-room c =
    let left = c.in_ok-digits.ensures.2 in
    let counted = c.in_ok-digits.ensures.1.counted in
    rw left (omega
    (arith, counted, room_left c.args.form (chars c.args.text.now), length-chars c.args.text.now c.utf8.text))

pub returns-in_err-all : goal.returns-in_err-all
returns-in_err-all c = record {
  value = c.from_residual-in_err-all.ensures ∙ no_fraction c.args.form (chars c.args.text.now)
      (chars c.in_ok-digits.rest.now) c.in_ok-digits.digits c.in_ok-digits.ensures c.in_err-all.ensures;
}

pub returns-in_err-exponent : goal.returns-in_err-exponent
returns-in_err-exponent c = record {
  value = c.from_residual-in_err-exponent.ensures ∙ no_exponent_read c.args.form (chars c.args.text.now)
      (chars c.in_ok-digits.rest.now) (chars c.in_ok-all.rest.now) c.in_ok-digits.digits c.in_ok-all.all
      c.in_ok-digits.ensures c.in_ok-all.ensures c.in_err-exponent.ensures;
}

pub returns-then-all-eq0 : goal.returns-then-all-eq0
returns-then-all-eq0 c = record {
  value = empty_read c.args.form (chars c.args.text.now) (chars c.in_ok-digits.rest.now) (chars c.in_ok-all.rest.now)
      c.in_ok-digits.digits c.in_ok-all.all c.in_ok-digits.ensures c.in_ok-all.ensures c.if-all-eq0.true;
}

pub returns : goal.returns
returns c = record {
  value = number_read c.args.form (chars c.args.text.now) (chars c.in_ok-digits.rest.now) (chars c.in_ok-all.rest.now)
      c.in_ok-digits.digits c.in_ok-all.all c.in_ok-exponent.exponent _ _ c.billionths.result c.in_ok-digits.ensures
      c.in_ok-all.ensures c.if-all-eq0.false c.in_ok-exponent.ensures
      (kept_exponent c.in_ok-exponent.exponent c.in_ok-exponent.ensures.1)
      (unchanged (c.in_ok-all.all.count - c.in_ok-digits.digits.count) (omega arith)) c.billionths.ensures;
}

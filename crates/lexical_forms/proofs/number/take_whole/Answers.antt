use Rattle.std.proofs.Common.{arith, rules}
use Rattle.std.specs.Str.{chars}
use Rattle.lexical_forms.proofs.PartLemmas.{WholeSoFar-digit, WholeSoFar-long, WholeSoFar-room, length-chars}
use Rattle.lexical_forms.proofs.number.take_whole.Goals as goal

pub push-requires-clause-room : goal.push-requires-clause-room
push-requires-clause-room c =
    omega (
      arith,
      WholeSoFar-room c.args.form c.loop-character.after_digit c.loop-character.digits
          (chars c.args.text.now) (chars c.loop-character.rest.now) (chars c.in-Some.after.now) c.in-Some.character
          c.in-Some.ensures.some c.loop-character.invariant.1,
      length-chars c.args.text.now c.utf8.text,
    )

pub returns-in_err-digits : goal.returns-in_err-digits
returns-in_err-digits c =
    let long = WholeSoFar-long c.args.form c.loop-character.after_digit c.loop-character.digits
    (chars c.args.text.now) (chars c.loop-character.rest.now) (chars c.in-Some.after.now) c.in-Some.character
    c.in-Some-digit_of.digit c.in-Some.ensures.some c.in-Some-digit_of.ensures.some.0
    c.in-Some-digit_of.ensures.some.1 c.in_err-digits.ensures c.loop-character.invariant.1 in
    rw c.from_residual.ensures long

pub loop-character-preserved-in_ok-digits : goal.loop-character-preserved-in_ok-digits
loop-character-preserved-in_ok-digits c = (
  search rules,
  WholeSoFar-digit c.args.form c.loop-character.after_digit c.loop-character.digits c.in_ok-digits.digits
      (chars c.args.text.now) (chars c.loop-character.rest.now) (chars c.in-Some.after.now) c.in-Some.character
      c.in-Some-digit_of.digit c.in-Some.ensures.some c.in-Some-digit_of.ensures.some.0
      c.in-Some-digit_of.ensures.some.1 c.in_ok-digits.ensures c.loop-character.invariant.1,
)

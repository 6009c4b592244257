use Rattle.std.proofs.Common.{arith, rules, inl, inr}
use Rattle.std.specs.Str.{chars}
use Rattle.lexical_forms.proofs.PartLemmas.{empty-text, filled-text, DigitsSoFar-start, DigitsSoFar-next}
use Rattle.lexical_forms.proofs.PartLemmas.{DigitsSoFar-large}
use Rattle.lexical_forms.proofs.number.digits_value.Goals as goal

pub returns-then-is_empty : goal.returns-then-is_empty
returns-then-is_empty c = inl (empty-text c.args.text.now c.is_empty.result c.is_empty.ensures c.if-is_empty.true)

pub loop-character-init : goal.loop-character-init
loop-character-init c = (
  search rules,
  DigitsSoFar-start (chars c.args.text.now)
      (filled-text c.args.text.now c.is_empty.result c.utf8.text c.is_empty.ensures c.if-is_empty.false),
)

pub returns-in_err-checked_mul : goal.returns-in_err-checked_mul
returns-in_err-checked_mul c =
    let large = DigitsSoFar-large c.loop-character.value c.in-Some.character c.in_ok-digit.digit
    (chars c.args.text.now) (chars c.loop-character.rest.now) (chars c.in-Some.after.now) c.in-Some.ensures.some
    c.in_ok-digit.ensures.some.1 (omega (arith, c.in_err-checked_mul.ensures)) c.loop-character.invariant.1 in
    rw c.from_residual-in_err-checked_mul.ensures (inr large)

pub returns-in_err-value : goal.returns-in_err-value
returns-in_err-value c =
    let large = DigitsSoFar-large c.loop-character.value c.in-Some.character c.in_ok-digit.digit
    (chars c.args.text.now) (chars c.loop-character.rest.now) (chars c.in-Some.after.now) c.in-Some.ensures.some
    c.in_ok-digit.ensures.some.1 (omega (arith, c.in_err-value.ensures, c.in_ok-checked_mul.ensures.1))
    c.loop-character.invariant.1 in
    rw c.from_residual-in_err-value.ensures (inr large)

pub loop-character-preserved : goal.loop-character-preserved
loop-character-preserved c = (
  search rules,
  DigitsSoFar-next c.loop-character.value c.in-Some.character c.in_ok-digit.digit c.in_ok-value.value
      (chars c.args.text.now) (chars c.loop-character.rest.now) (chars c.in-Some.after.now) c.in-Some.ensures.some
      c.in_ok-digit.ensures.some.0 c.in_ok-digit.ensures.some.1
      (omega (arith, c.in_ok-value.ensures.1, c.in_ok-checked_mul.ensures.1)) c.loop-character.invariant.1,
)

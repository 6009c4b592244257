use Rattle.std.proofs.Common.{sym, ◌∙◌, rules}
use Rattle.std.specs.Str.{chars}
use Rattle.lexical_forms.proofs.PartLemmas.{PlacesSoFar-more, PlacesSoFar-long}
use Rattle.lexical_forms.proofs.number.take_digits.Goals as goal

pub returns-in_err-digits : goal.returns-in_err-digits
returns-in_err-digits c =
    let long = PlacesSoFar-long c.args.before c.loop-character.digits (chars c.args.text.now)
    (chars c.loop-character.rest.now) (chars c.in-Some.after.now) c.in-Some.character c.in_ok-digit_of.field-0
    c.in-Some.ensures.some (sym c.is_exponent_mark.ensures ∙ c.if-is_exponent_mark.false)
    c.in_ok-digit_of.ensures.some.0 c.in_ok-digit_of.ensures.some.1 c.in_err-digits.ensures
    c.loop-character.invariant.1 in
    rw c.from_residual-in_err-digits.ensures long

pub loop-character-preserved : goal.loop-character-preserved
loop-character-preserved c = (
  search rules,
  PlacesSoFar-more c.args.before c.loop-character.digits c.in_ok-digits.digits (chars c.args.text.now)
      (chars c.loop-character.rest.now) (chars c.in-Some.after.now) c.in-Some.character c.in_ok-digit_of.field-0
      c.in-Some.ensures.some (sym c.is_exponent_mark.ensures ∙ c.if-is_exponent_mark.false)
      c.in_ok-digit_of.ensures.some.0 c.in_ok-digit_of.ensures.some.1 c.in_ok-digits.ensures
      c.loop-character.invariant.1,
)

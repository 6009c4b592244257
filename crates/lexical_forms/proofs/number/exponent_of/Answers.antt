use Rattle.std.proofs.Common.{◌≡◌, true, sym, ap, ◌∙◌, arith}
use Rattle.std.specs.Str.{chars}
use Rattle.lexical_forms.specs.Digits.{is_digits, is_negative, signed}
use Rattle.lexical_forms.specs.Number.{is_exponent_mark}
use Rattle.lexical_forms.proofs.ReadingLemmas.{some_exponent, negated, limited_in}
use Rattle.lexical_forms.proofs.number.exponent_of.Goals as goal

pub returns-then-is_negative : goal.returns-then-is_negative
returns-then-is_negative c =
    let n = c.in_ok-magnitude.field-0 in
    let after = chars c.in-Some.after.now in
    let mark : is_exponent_mark c.in-Some.character ≡ true = cc in
    let minus : is_negative after ≡ true = sym c.is_negative.ensures ∙ c.if-is_negative.true in
    let digits = sym (ap is_digits c.without_sign.ensures) ∙ c.in_ok-magnitude.ensures.0 in
    let number = c.in_ok-magnitude.ensures.1 ∙ ap limited_in c.without_sign.ensures in
    some_exponent (chars c.args.text.now) after c.in-Some.character n _ c.in-Some.ensures.some mark digits number
    (negated n (omega (arith, c.in_ok-magnitude.ensures.1)) ∙ ap (λ b. signed b n) (sym minus))

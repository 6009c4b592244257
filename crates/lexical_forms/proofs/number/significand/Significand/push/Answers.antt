use Rattle.std.proofs.Common.{◌+◌, ◌^◌, arith, refl, sym, subst, ltb, [], ◌∷◌}
use Rattle.lexical_forms.specs.Significand.{Adds}
use Rattle.lexical_forms.proofs.SignificandLemmas.{Adds-digit, IsLong-digit, Spells-more_zeros, Spells-zero}
use Rattle.lexical_forms.proofs.number.significand.Significand.push.Goals as goal

pub returns-in_err-value : goal.returns-in_err-value
returns-in_err-value c =
    subst (Adds c.args.self ((c.args.digit + 48) ∷ [])) (sym c.from_residual.ensures)
    (λ cs h. IsLong-digit c.args.self cs c.args.digit (omega arith) c.requires.digit
    (omega (arith, c.in_err-value.ensures.none)) h)

pub returns-in_ok-value : goal.returns-in_ok-value
returns-in_ok-value c =
    Adds-digit c.args.self c.args.digit (c.in_ok-value.field-0 + c.from.result) c.in_ok-value.field-0
    (ltb (c.in_ok-value.field-0 + c.from.result) (10 ^ 27)) c.then_some.result (omega arith) c.requires.digit
    c.in_ok-value.ensures.some.0 (omega arith) refl c.then_some.ensures

pub returns-then-self-eq0 : goal.returns-then-self-eq0
returns-then-self-eq0 c = λ cs h. Spells-zero c.args.self cs c.args.digit c.if-self-eq0.true c.if-digit-ne0.false h

pub returns-else-self-eq0 : goal.returns-else-self-eq0
returns-else-self-eq0 c = λ cs h. Spells-more_zeros c.args.self cs c.args.digit c.if-self-eq0.false
    c.if-digit-ne0.false h

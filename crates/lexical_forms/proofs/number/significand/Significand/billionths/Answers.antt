use Rattle.std.proofs.Common.{arith, sym, ◌∙◌}
use Rattle.std.proofs.lemmas.Int.{ints}
use Rattle.lexical_forms.proofs.SignificandLemmas.{moved, at_zeros, shifted-is, zeros_computed}
use Rattle.lexical_forms.proofs.number.significand.Significand.billionths.Goals as goal

pub returns-then-zeros-lt0 : goal.returns-then-zeros-lt0
returns-then-zeros-lt0 c = λ cs whole spells limited.
    let m = moved c.args.self cs whole c.args.exponent c.args.fraction_digits spells limited c.if-self-eq0.false
    (omega arith) c.requires.fraction.0 c.requires.fraction.1 in
    elim c.then-zeros-lt0.branch [
      | goal.then-zeros-lt0-via-then-zeros-lt0 w ↦
          sym (m.low
          (omega (arith, ints, c.requires.limits.0, c.requires.limits.1, c.from.ensures, w.if-zeros-lt0.true)))
      | goal.then-zeros-lt0-via-else-zeros-lt0+then-zeros-gt26 w ↦
          sym (m.high
          (omega (arith, ints, c.requires.limits.0, c.requires.limits.1, c.from.ensures, w.if-zeros-gt26.true)))
    ]

pub returns : goal.returns
returns c = λ cs whole spells limited.
    let m = moved c.args.self cs whole c.args.exponent c.args.fraction_digits spells limited c.if-self-eq0.false
    (omega arith) c.requires.fraction.0 c.requires.fraction.1 in
    let computed = zeros_computed c.args.exponent c.from.result c.args.fraction_digits c.args.self.zeros
    c.requires.limits.0 c.requires.limits.1 c.from.ensures (omega arith) c.requires.fraction.0 c.requires.fraction.1 in
    shifted-is c.shifted.result _ c.shifted.ensures.none c.shifted.ensures.some
    ∙ at_zeros c.args.self cs _ _ _ m computed c.if-zeros-lt0.false c.if-zeros-gt26.false

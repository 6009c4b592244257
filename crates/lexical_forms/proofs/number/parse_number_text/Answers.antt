use Rattle.std.proofs.Common.{arith}
use Rattle.std.specs.Str.{chars}
use Rattle.std.proofs.lemmas.Int.{ints}
use Rattle.lexical_forms.specs.Number.{parts_of}
use Rattle.lexical_forms.proofs.ReadingLemmas.{unsigned_reading-small}
use Rattle.lexical_forms.proofs.number.parse_number_text.Goals as goal

pub overflow_cast-result : goal.overflow_cast-result
overflow_cast-result c =
    let small = unsigned_reading-small c.args.form (parts_of c.args.form (chars c.without_sign.result.now))
    c.in_ok-billionths.billionths c.in_ok-billionths.ensures.value in
    omega (arith, ints)

pub overflow_sub-result : goal.overflow_sub-result
overflow_sub-result c =
    let small = unsigned_reading-small c.args.form (parts_of c.args.form (chars c.without_sign.result.now))
    c.in_ok-billionths.billionths c.in_ok-billionths.ensures.value in
    omega (arith, ints)

pub overflow_cast-result-else-is_negative : goal.overflow_cast-result-else-is_negative
overflow_cast-result-else-is_negative c =
    let small = unsigned_reading-small c.args.form (parts_of c.args.form (chars c.without_sign.result.now))
    c.in_ok-billionths.billionths c.in_ok-billionths.ensures.value in
    omega (arith, ints)

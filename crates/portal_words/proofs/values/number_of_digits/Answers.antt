use Rattle.std.proofs.Common.{◌≡◌, true, Some, None, cond, ap, sym, ◌∙◌}
use Rattle.std.specs.Result.{result_ok}
use Rattle.std.specs.Str.Parse.{digits_value}
use Rattle.portal_base.proofs.KindLemmas.{digits_parse}
use Rattle.portal_words.specs.Commands.{is_number}
use Rattle.portal_words.proofs.ValueLemmas.{number-digits}
use Rattle.portal_words.proofs.values.number_of_digits.Goals as goal

pub returns : goal.returns
returns c =
    let number : is_number c.args.value.now ≡ true = cc in
    c.ok.ensures.value
    ∙ ap result_ok (digits_parse c.args.value.now c.parse.result c.parse.ensures.value.0
    (number-digits c.args.value.now number))
    ∙ sym (ap (λ b. cond b (Some (digits_value 10 c.args.value.now)) None) number)

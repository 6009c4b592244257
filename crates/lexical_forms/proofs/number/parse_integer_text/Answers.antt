use Rattle.std.proofs.Common.{subst, ◌∙◌, List, ℕ}
use Rattle.std.specs.Prelude.{None}
use Rattle.std.specs.Str.{chars}
use Rattle.lexical_forms.specs.Significand.{IsDigitsValue}
use Rattle.lexical_forms.proofs.ReadingLemmas.{integer_text_reading-none}
use Rattle.lexical_forms.proofs.number.parse_integer_text.Goals as goal

pub returns-in_err-magnitude : goal.returns-in_err-magnitude
returns-in_err-magnitude c =
    c.from_residual.ensures ∙ integer_text_reading-none (chars c.args.text.now)
    (subst (λ (xs : List ℕ). IsDigitsValue xs None) c.without_sign.ensures c.in_err-magnitude.ensures)

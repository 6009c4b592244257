use Rattle.std.proofs.Common.{◌≡◌, ap, ◌∙◌, rules, string_bytes}
use Rattle.std.specs.Str.{chars}
use Rattle.lexical_forms.specs.Number.{number_reading, default_spelling}
use Rattle.lexical_forms.specs.NumberText.{number_text}
use Rattle.lexical_forms.proofs.NumberTextLemmas.{number_text-back}
use Rattle.lexical_forms.proofs.print.number_text.Goals as goal

pub returns-clause-back : goal.returns-clause-back
returns-clause-back c =
    let text : string_bytes c.push_fraction.new.text ≡ number_text c.args.billionths = search rules in
    ap (λ t. number_reading default_spelling (chars t)) text ∙ number_text-back c.args.billionths c.requires

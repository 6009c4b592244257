use Rattle.std.proofs.Common.{◌∙◌, ap}
use Rattle.std.specs.Prelude.{unwrap_or}
use Rattle.std.proofs.lemmas.Result.{on_ok_weaker}
use Rattle.packages.proofs.Reading.{OnOk-always, short_text_is_read}
use Rattle.packages.proofs.texts.read_text.Goals as goal

pub returns-clause-errors : goal.returns-clause-errors
returns-clause-errors c = OnOk-always c.copy_given.result c.in_ok-given.ensures.ok

pub returns-clause-text : goal.returns-clause-text
returns-clause-text c =
    on_ok_weaker c.copy_given.result
    (λ copied. copied ∙ ap (λ found. unwrap_or found c.args.text.now) c.in_ok-given.ensures.text
    ∙ short_text_is_read c.args.longest c.args.text.now c.args.key.now c.args.body.now)
    c.copy_given.ensures

-- The text is compared with the id of the number that it is parsed to.
use Rattle.std.proofs.Common.{ap, sym, ◌∙◌}
use Rattle.portal_base.specs.Id.{id_text}
use Rattle.dataset_answers.proofs.SoundLemmas.{id_of_parsed, parsed-id}
use Rattle.dataset_answers.proofs.sound.is_id.Goals as goal

pub returns-in-Ok : goal.returns-in-Ok
returns-in-Ok c = (
  λ holds. (c.as_u128.result, c.is_id_of.ensures.0 holds),
  λ is.
      c.is_id_of.ensures.1
      (id_of_parsed c.args.text.now c.in-Ok.uuid c.in-Ok.ensures.bytes is ∙ ap id_text (sym c.as_u128.ensures)),
)

pub returns-in-Err : goal.returns-in-Err
returns-in-Err c = (λ holds. absurd (cc), λ is. c.in-Err.ensures.ok.1 (parsed-id c.args.text.now is))

use Rattle.std.proofs.Common.{◌∙◌, sym}
use Rattle.http_front.proofs.TakenLemmas.{none_until_due}
use Rattle.http_front.proofs.reading.parse_buffer.Goals as goal

pub returns-then-not-is_due : goal.returns-then-not-is_due
returns-then-not-is_due c = (
  c.if-more.true,
  none_until_due c.args.buffer.now c.args.before c.requires.none
      (sym c.is_due.ensures.value ∙ c.if-not-is_due.true),
)

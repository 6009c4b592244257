use Rattle.std.proofs.Common.{arith, rules}
use Rattle.std.specs.Str.{chars}
use Rattle.lexical_forms.proofs.PartLemmas.{empty-text, filled-text, LimitedSoFar-start, LimitedSoFar-more}
use Rattle.lexical_forms.proofs.number.limited_value.Goals as goal

pub returns-then-is_empty : goal.returns-then-is_empty
returns-then-is_empty c = empty-text c.args.text.now c.is_empty.result c.is_empty.ensures c.if-is_empty.true

pub loop-character-init : goal.loop-character-init
loop-character-init c = (
  search rules,
  LimitedSoFar-start (chars c.args.text.now)
      (filled-text c.args.text.now c.is_empty.result c.utf8.text c.is_empty.ensures c.if-is_empty.false),
)

pub loop-character-preserved : goal.loop-character-preserved
loop-character-preserved c = (
  search rules,
  LimitedSoFar-more c.loop-character.value c.in-Some.character c.in_ok-digit.digit c.min-value.result
      (chars c.args.text.now) (chars c.loop-character.rest.now) (chars c.in-Some.after.now) c.in-Some.ensures.some
      c.in_ok-digit.ensures.some.0 c.in_ok-digit.ensures.some.1 (omega arith) c.loop-character.invariant.1,
)

use Rattle.std.proofs.Common.{sym, ap, ◌∙◌}
use Rattle.std.specs.Option.{option_copied}
use Rattle.sorted_pages.proofs.DirectionLemmas.{before_space-none, before_space-some, without_word-none}
use Rattle.sorted_pages.proofs.DirectionLemmas.{without_word-some}
use Rattle.sorted_pages.proofs.direction.without_word.Goals as goal

pub returns-in_err-front : goal.returns-in_err-front
returns-in_err-front c =
    ap option_copied c.from_residual.ensures
    ∙ sym (without_word-none c.args.word.now c.args.text.now c.in_err-front.ensures.cases)

pub returns-then-name-front : goal.returns-then-name-front
returns-then-name-front c =
    let split = c.in_ok-front.ensures.cases in
    before_space-some c.trim_end-name.result.now c.in_ok-front.front.now c.trim_end-name.ensures.trim
    c.if-name-front.true
    ∙ sym (without_word-some c.args.word.now c.args.text.now c.in_ok-front.front.now split.0 split.1.0 split.1.1
    split.2 split.3)

pub returns-else-name-front : goal.returns-else-name-front
returns-else-name-front c =
    let split = c.in_ok-front.ensures.cases in
    before_space-none c.trim_end-name.result.now c.in_ok-front.front.now c.trim_end-name.ensures.trim
    c.if-name-front.false
    ∙ sym (without_word-some c.args.word.now c.args.text.now c.in_ok-front.front.now split.0 split.1.0 split.1.1
    split.2 split.3)

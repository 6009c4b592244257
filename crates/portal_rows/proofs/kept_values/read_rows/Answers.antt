use Rattle.std.proofs.Common.{◌∙◌, ◌++◌, ap, sym, true≢false}
use Rattle.std.proofs.lemmas.Result.{IfOk-weaker}
use Rattle.portal_rows.proofs.KeptReading.{out_of_order, through_version, without_version}
use Rattle.portal_rows.proofs.kept_values.read_rows.Goals as goal

pub returns-then-not-are_in_order : goal.returns-then-not-are_in_order
returns-then-not-are_in_order c =
    out_of_order c.args.rows.now (λ up.
    true≢false (sym (c.are_in_order.ensures.1 up) ∙ c.if-not-are_in_order.true))

pub returns-then-are_version : goal.returns-then-are_version
returns-then-are_version c =
    IfOk-weaker c.read_after_version.result _ _ (λ found reads.
    through_version c.args.rows.now c.split_after.result.1.now
    (ap (λ l. l ++ c.split_after.result.1.now) (sym (c.are_version.ensures.0 c.if-are_version.true))
    ∙ c.split_after.ensures.whole) found reads) c.read_after_version.ensures

pub returns-else-are_version : goal.returns-else-are_version
returns-else-are_version c =
    without_version c.args.rows.now c.split_after.result.0.now c.split_after.result.1.now
    c.split_after.ensures.whole c.split_after.ensures.front c.split_after.ensures.back
    (λ alone. true≢false (sym (c.are_version.ensures.1 alone) ∙ c.if-are_version.false))

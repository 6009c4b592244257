use Rattle.std.proofs.Common.{◌∙◌, sym, true≢false}
use Rattle.harvest_rows.proofs.KeptLemmas.{out_of_order}
use Rattle.harvest_rows.proofs.kept_harvests.read_rows.Goals as goal

pub returns-else-are_in_order : goal.returns-else-are_in_order
returns-else-are_in_order c =
    out_of_order c.args.rows.now
    (λ up. true≢false (sym (c.are_in_order.ensures.1 up) ∙ c.if-are_in_order.false))

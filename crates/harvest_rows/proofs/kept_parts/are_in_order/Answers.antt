use Rattle.std.proofs.Common.{rules}
use Rattle.std.specs.Ordering.{is_lt}
use Rattle.std.proofs.lemmas.Fn.{always_returns_same}
use Rattle.portal_keeper.specs.Rows.{row_cmp}
use Rattle.harvest_rows.proofs.KindLemmas.{in_order-answer}
use Rattle.harvest_rows.proofs.kept_parts.are_in_order.Goals as goal

pub returns : goal.returns
returns c =
    in_order-answer c.args.rows.now c.is_sorted_by.result
    (c.is_sorted_by.ensures.cases (λ row next. is_lt (row_cmp row next))
    (always_returns_same _ _ _ (λ a r f called. search rules)))

use Rattle.std.proofs.Common.{arith}
use Rattle.portal_base.proofs.Removed.{AreApart-are_apart}
use Rattle.sorted_pages.proofs.SelectLemmas.{all_sorted}
use Rattle.sorted_pages.proofs.order.first_in_order.Goals as goal

pub returns-else-count-items : goal.returns-else-count-items
returns-else-count-items g c =
    all_sorted (g.O.Order.cmp c.args.order.now) (g.met.O.Order.total c.args.order.now) c.args.items.now
    c.put_in_order.new.items c.args.count
    (AreApart-are_apart (g.O.Order.cmp c.args.order.now) c.args.items.now c.requires) (omega arith)
    c.put_in_order.ensures.permutation c.put_in_order.ensures.sorted

-- An insertion at the index is an insertion in order.
use Rattle.portal_base.proofs.Inserted.{insert-prefix_len}
use Rattle.portal_base.proofs.ordered.put.Goals as goal

pub returns : goal.returns
returns g c =
    rw (c.insert.ensures.items, c.unwrap.ensures, c.insertion_index-index.ensures.index, c.as_slice.ensures.value)
    (insert-prefix_len g.T.Ordered.order c.args.item c.args.items.now.items)

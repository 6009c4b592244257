-- An insertion at the index is an insertion in order.
use Rattle.portal_base.proofs.Inserted.{inserted_if_ok}
use Rattle.portal_base.proofs.ordered.insert.Goals as goal

pub returns-clause-ok : goal.returns-clause-ok
returns-clause-ok g c =
    inserted_if_ok g.T.Ordered.order c.args.item c.args.items.now.items c.insert.new.self.items c.insert.result
    c.insertion_index-index.result (rw c.as_slice.ensures.value at c.insertion_index-index.ensures.index)
    c.insert.ensures.items

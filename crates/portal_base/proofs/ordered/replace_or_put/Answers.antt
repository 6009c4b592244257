-- An upsert keeps the order.
use Rattle.portal_base.proofs.Upserted.{IsAscending-upserted}
use Rattle.portal_base.proofs.ordered.replace_or_put.Goals as goal

pub returns-in-Ok-clause-ascending : goal.returns-in-Ok-clause-ascending
returns-in-Ok-clause-ascending g c =
    let up = IsAscending-upserted g.T.Ordered.order g.met.T.Ordered.total c.args.item c.args.items.now.items
    c.requires.ascending in
    rw c.replace.ensures.after (rw (rw c.as_slice.ensures.value at c.in-Ok.ensures.upserted) at up)

pub returns-in-Err-clause-ascending : goal.returns-in-Err-clause-ascending
returns-in-Err-clause-ascending g c =
    let up = IsAscending-upserted g.T.Ordered.order g.met.T.Ordered.total c.args.item c.args.items.now.items
    c.requires.ascending in
    rw (c.insert.ensures.items, c.unwrap.ensures)
    (rw (rw c.as_slice.ensures.value at c.in-Err.ensures.upserted) at up)

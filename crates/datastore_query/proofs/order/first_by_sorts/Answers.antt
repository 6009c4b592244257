use Rattle.std.proofs.Common.{◌∙◌, ap, sym, take}
use Rattle.datastore_query.proofs.RowLemmas.{unsorted}
use Rattle.datastore_query.proofs.order.first_by_sorts.Goals as goal

pub returns-then-is_empty : goal.returns-then-is_empty
returns-then-is_empty c =
    c.leading.ensures
    ∙ ap (take c.args.count)
    (unsorted c.args.sorts.now c.args.rows.now (sym c.is_empty.ensures ∙ c.if-is_empty.true) c.requires)

use Rattle.datastore_answers.proofs.RangeLemmas.{range_has_tables}
use Rattle.datastore_answers.proofs.table_index.tables_in.Goals as goal

pub returns : goal.returns
returns c =
    rw (c.find_range-from.ensures.from, c.find_range-from.ensures.to)
    (range_has_tables c.args.dataset.now c.args.tables.now c.requires)

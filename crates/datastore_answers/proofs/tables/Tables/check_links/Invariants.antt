use Rattle.std.proofs.Common.{◌≡◌, drop}
use Rattle.datastore_table.specs.Results.{in_turn}
use Rattle.datastore_answers.specs.Linked.{alone, link_checked}
use Rattle.datastore_answers.specs.Tables.{tables_in, tables_of}
use Rattle.datastore_answers.proofs.tables.Tables.check_links.Given as goal

abbrev pub invariant-loop-index : goal.invariant-loop-index
invariant-loop-index l =
    in_turn (link_checked (tables_in l.table.address.dataset (tables_of l.self)) l.table (alone l.batch.work)) 0
    l.table.table.schema.foreign tt
    ≡ in_turn (link_checked (tables_in l.table.address.dataset (tables_of l.self)) l.table (alone l.batch.work))
    l.index (drop l.index l.table.table.schema.foreign) tt

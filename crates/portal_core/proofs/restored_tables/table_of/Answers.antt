use Rattle.packages.specs.Shelf.{datasets_of}
use Rattle.portal_core.proofs.RestoredTable.{table-address, table-made, table-targets}
use Rattle.portal_core.proofs.restored_tables.table_of.Goals as goal

pub returns-in_default-clause-none : goal.returns-in_default-clause-none
returns-in_default-clause-none c =
    λ t is. (rw c.in_default.is at c.in_ok-address.ensures.none) t.address
    (table-address (datasets_of c.args.shelf.now) c.args.kept t is)

pub returns-in_default-targets_of-clause-none : goal.returns-in_default-targets_of-clause-none
returns-in_default-targets_of-clause-none c =
    λ t is. c.in_default-targets_of.ensures.none
    (table-targets (datasets_of c.args.shelf.now) c.args.kept c.in-Some.address c.requires.numbered
    (rw c.in-Some.is at c.in_ok-address.ensures.address) t is)

pub returns-in-Some-2-clause-table : goal.returns-in-Some-2-clause-table
returns-in-Some-2-clause-table c =
    table-made (datasets_of c.args.shelf.now) c.args.kept c.in-Some.address c.in-Some-targets_of.targets
    c.in-Some-2.table c.requires.numbered c.requires.kept (rw c.in-Some.is at c.in_ok-address.ensures.address)
    c.in-Some-targets_of.ensures.targets c.in-Some-targets_of.ensures.other
    (rw c.in-Some-2.is at c.in_ok-table.ensures.schema) (rw c.in-Some-2.is at c.in_ok-table.ensures.rows)
    (rw c.in-Some-2.is at c.in_ok-table.ensures.next_id) (rw c.in-Some-2.is at c.in_ok-table.ensures.valid)

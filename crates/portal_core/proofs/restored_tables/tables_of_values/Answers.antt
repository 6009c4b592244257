use Rattle.packages.specs.Shelf.{datasets_of}
use Rattle.portal_core.proofs.RestoredTables.{restored-if, unread-tables, unrestored-if}
use Rattle.portal_core.proofs.restored_tables.tables_of_values.Goals as goal

pub returns-in-Some-clause-tables : goal.returns-in-Some-clause-tables
returns-in-Some-clause-tables c =
    restored-if c.restore.result (datasets_of c.args.shelf.now) c.args.kept c.in-Some.tables
    (rw c.in-Some.is at c.in_ok-tables.ensures.tables) c.requires.kept c.requires.ascend c.restore.ensures.tables
    c.restore.ensures.consistent

pub returns-in-Some-clause-none : goal.returns-in-Some-clause-none
returns-in-Some-clause-none c =
    unrestored-if c.restore.result (datasets_of c.args.shelf.now) c.args.kept c.in-Some.tables c.requires.numbered
    (rw c.in-Some.is at c.in_ok-tables.ensures.tables) c.requires.ascend c.restore.ensures.exactly

pub returns-in-None-clause-none : goal.returns-in-None-clause-none
returns-in-None-clause-none c =
    unread-tables (datasets_of c.args.shelf.now) c.args.kept c.requires.numbered
    (rw c.in-None.is at c.in_ok-tables.ensures.none)

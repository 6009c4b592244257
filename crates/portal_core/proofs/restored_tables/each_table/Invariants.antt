use Rattle.std.proofs.Common.{◌≡◌, ◌++◌, List}
use Rattle.std.specs.List.{AllZip}
use Rattle.packages.specs.Shelf.{datasets_of}
use Rattle.portal_rows.specs.declared.kept_tables.KeptTable.{KeptTable}
use Rattle.portal_core.specs.Restored.{IsTableOf}
use Rattle.portal_core.proofs.restored_tables.each_table.Given as goal

abbrev pub invariant-loop-one : goal.invariant-loop-one
invariant-loop-one l =
    (done : List KeptTable)
    × (l.fn.kept ≡ done ++ l.one-iterator.rest.items)
    × AllZip (IsTableOf (datasets_of l.shelf)) done l.tables.items

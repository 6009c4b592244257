-- The row that says which rows a store has.
use Rattle.std.specs.Prelude.{codes}
use Rattle.portal_keeper.specs.declared.row.KeptRow.{KeptRow}
use Rattle.portal_keeper.specs.declared.row.RowKind.TheVariants as kind

-- The row of the version. A store has it exactly once, and the version is 1.
abbrev pub version_row : KeptRow
version_row = record { kind = kind.Version; key = codes "portal"; body = codes "1" }

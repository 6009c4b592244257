use Rattle.std.proofs.Common.{◌≡◌, ◌++◌, drop, flat_map, string_bytes}
use Rattle.portal_reports.specs.Tables.{table_line}
use Rattle.portal_reports.proofs.tables.push_tables.Given as goal

-- The lines so far and those to come are all of them.
abbrev pub invariant-loop-table : goal.invariant-loop-table
invariant-loop-table l =
    string_bytes l.text ++ flat_map (table_line l.dataset) (drop l.table-index l.tables)
    ≡ string_bytes l.fn.text ++ flat_map (table_line l.dataset) l.tables

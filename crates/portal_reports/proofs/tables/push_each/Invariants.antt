use Rattle.std.proofs.Common.{◌≡◌, ◌++◌, drop, flat_map, string_bytes}
use Rattle.visibility.specs.Viewer.{datasets_for}
use Rattle.datastore_answers.specs.Tables.{tables_of, tables_seen}
use Rattle.portal_reports.specs.Tables.{named_lines}
use Rattle.portal_reports.proofs.tables.push_each.Given as goal

-- The lines so far and those to come are all of them.
abbrev pub invariant-loop-name : goal.invariant-loop-name
invariant-loop-name l =
    let lines = named_lines (datasets_for l.viewer)
    (tables_seen (datasets_for l.viewer) (tables_of l.tables)) in
    string_bytes l.text ++ flat_map lines (drop l.name-index l.names)
    ≡ string_bytes l.fn.text ++ flat_map lines l.names

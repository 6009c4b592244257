use Rattle.std.proofs.Common.{◌≡◌, ◌++◌, drop, flat_map, map, string_bytes}
use Rattle.portal_reports.specs.Columns.{right}
use Rattle.portal_reports.proofs.columns.push_titles.Given as goal

-- The titles so far and those to come are all of them.
abbrev pub invariant-loop-title : goal.invariant-loop-title
invariant-loop-title l =
    string_bytes l.text ++ flat_map right (map (λ title. title.now) (drop l.title-index l.titles))
    ≡ string_bytes l.fn.text ++ flat_map right (map (λ title. title.now) l.titles)

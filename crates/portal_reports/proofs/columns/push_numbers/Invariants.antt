use Rattle.std.proofs.Common.{◌≡◌, ◌++◌, decimal, drop, flat_map, map, string_bytes}
use Rattle.portal_reports.specs.Columns.{right}
use Rattle.portal_reports.proofs.columns.push_numbers.Given as goal

-- The numbers so far and those to come are all of them.
abbrev pub invariant-loop-number : goal.invariant-loop-number
invariant-loop-number l =
    string_bytes l.text ++ flat_map right (map decimal (drop l.number-index l.numbers))
    ≡ string_bytes l.fn.text ++ flat_map right (map decimal l.numbers)

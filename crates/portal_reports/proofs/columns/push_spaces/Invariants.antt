use Rattle.std.proofs.Common.{◌≡◌, ◌++◌, ◌-◌, replicate, string_bytes}
use Rattle.portal_reports.proofs.columns.push_spaces.Given as goal

-- The spaces so far and those to come are all of them.
abbrev pub invariant-loop : goal.invariant-loop
invariant-loop l =
    string_bytes l.text ++ replicate (l.count - l.counter) 32 ≡ string_bytes l.fn.text ++ replicate l.count 32

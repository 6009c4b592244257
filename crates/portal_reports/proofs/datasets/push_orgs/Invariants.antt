use Rattle.std.proofs.Common.{◌≡◌, ◌++◌, drop, flat_map, string_bytes}
use Rattle.portal_reports.specs.Counts.{counted_line}
use Rattle.portal_reports.proofs.datasets.push_orgs.Given as goal

-- The lines so far and those to come are all of them.
abbrev pub invariant-loop-org : goal.invariant-loop-org
invariant-loop-org l =
    string_bytes l.text ++ flat_map (counted_line l.counts) (drop l.org-index l.orgs)
    ≡ string_bytes l.fn.text ++ flat_map (counted_line l.counts) l.orgs

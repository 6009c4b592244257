use Rattle.std.proofs.Common.{◌≡◌, ◌+◌, ◌-◌, ◌≤◌, length, true}
use Rattle.portal_lines.proofs.LineLemmas.{UnderWay}
use Rattle.portal_lines.proofs.lines.LineReader.next.Given as goal

-- part of a line came
abbrev pub invariant-loop-self : goal.invariant-loop-self
invariant-loop-self g l = record {
  under_way : UnderWay l.fn.self.buffered (g.S.Source.to_come l.fn.source) l.fn.self.received l.fn.self.longest
      l.self-inside.window (g.S.Source.to_come l.source) l.self-inside.received l.self-inside.partial.kept.items
      l.self-inside.partial.is_over;
  longest : l.self-inside.longest ≡ l.fn.self.longest;
  limit : l.self-inside.limit ≡ l.fn.self.limit;
  bound : length l.self-inside.partial.kept.items ≤ l.self-inside.longest + 1;
  counts : g.S.Source.faults l.fn.source ≤ g.S.Source.faults l.source;
  loan : g.S.Source.loan l.source ≡ g.S.Source.loan l.fn.source;
  spent : l.self-inside.has_failed ≡ true;
}

abbrev pub decreases-loop-self : goal.decreases-loop-self
decreases-loop-self g l = l.self-inside.limit + 1 - l.self-inside.received

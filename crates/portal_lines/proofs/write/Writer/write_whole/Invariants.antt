use Rattle.std.proofs.Common.{List, ◌++◌, ◌≤◌, ◌≡◌, ℕ, length}
use Rattle.portal_base.specs.Outside.{Takes}
use Rattle.portal_lines.proofs.write.Writer.write_whole.Given as goal

-- the device took the part of the piece before the rest
abbrev pub invariant-loop-rest : goal.invariant-loop-rest
invariant-loop-rest g l = record {
  front : List ℕ;
  splits : l.piece ≡ front ++ l.rest;
  takes : Takes (g.Self.Writer.taken l.fn.output) front (g.Self.Writer.taken l.output);
  to_come : g.Self.Writer.to_come l.output ≡ g.Self.Writer.to_come l.fn.output;
  counts : g.Self.Writer.faults l.fn.output ≤ g.Self.Writer.faults l.output;
}

abbrev pub decreases-loop-rest : goal.decreases-loop-rest
decreases-loop-rest g l = length l.rest

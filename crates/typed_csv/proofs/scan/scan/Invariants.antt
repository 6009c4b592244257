use Rattle.std.proofs.Common.{◌≡◌, take}
use Rattle.typed_csv.specs.Positions.{IsLastStart, position_after}
use Rattle.typed_csv.proofs.scan.scan.Given as goal

-- the position after the bytes so far, and the last position between two records among them
abbrev pub invariant-loop-index : goal.invariant-loop-index
invariant-loop-index l = record {
  position : l.position ≡ position_after l.fn.position (take l.index l.bytes);
  records_end : IsLastStart l.fn.position (take l.index l.bytes) l.records_end;
}

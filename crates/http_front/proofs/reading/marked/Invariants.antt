use Rattle.std.proofs.Common.{◌≡◌, map, take}
use Rattle.http_front.specs.Head.{marked_byte}
use Rattle.http_front.proofs.reading.marked.Given as goal

-- the bytes so far
abbrev pub invariant-loop-byte : goal.invariant-loop-byte
invariant-loop-byte l = l.marks.items ≡ map marked_byte (take l.byte-index l.bytes)

use Rattle.std.proofs.Common.{◌≡◌, ◌≤◌, ◌-◌, length}
use Rattle.portal_base.specs.Outside.{Gives}
use Rattle.httparse.specs.Grammar.{HasNoRequest}
use Rattle.http_front.specs.Head.{marked}
use Rattle.http_front.proofs.reading.read_head.Given as goal

-- The buffer came off the link, and begins with no head.
abbrev pub invariant-loop-alloc : goal.invariant-loop-alloc
invariant-loop-alloc g l = record {
  gives : Gives (g.K.Link.to_come l.fn.link) l.buffer.items (g.K.Link.to_come l.link);
  short : length l.buffer.items ≤ 16384;
  none : HasNoRequest (marked l.buffer.items);
  taken : g.K.Link.taken l.link ≡ g.K.Link.taken l.fn.link;
  counts : g.K.Link.faults l.fn.link ≤ g.K.Link.faults l.link;
}

abbrev pub decreases-loop-alloc : goal.decreases-loop-alloc
decreases-loop-alloc g l = 16384 - length l.buffer.items

use Rattle.std.proofs.Common.{◌≡◌, ◌≤◌, ◌+◌, ◌-◌, ◌++◌, List, ℕ, length}
use Rattle.portal_base.specs.Outside.{Gives}
use Rattle.http_front.proofs.fetch.drain.Given as goal

-- what came off the link was appended to the buffer
abbrev pub invariant-loop-link : goal.invariant-loop-link
invariant-loop-link g l = record {
  read : List ℕ;
  gives : Gives (g.K.Link.to_come l.fn.link) read (g.K.Link.to_come l.link);
  joined : l.buffer.items ≡ l.fn.buffer.items ++ read;
  taken : g.K.Link.taken l.link ≡ g.K.Link.taken l.fn.link;
  counts : g.K.Link.faults l.fn.link ≤ g.K.Link.faults l.link;
}

abbrev pub decreases-loop-link : goal.decreases-loop-link
decreases-loop-link g l = l.limit + 1 - length l.buffer.items

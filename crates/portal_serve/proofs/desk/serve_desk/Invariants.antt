use Rattle.std.proofs.Common.{◌≡◌, ◌≤◌, false}
use Rattle.portal_serve.proofs.Desking.{Counted}
use Rattle.portal_links.specs.Desk.{desk_trace}
use Rattle.portal_links.specs.Written.{link_trace}
use Rattle.portal_serve.proofs.desk.serve_desk.Given as goal

-- each turn so far served a link and had no fault, and none is out
abbrev pub invariant-loop : goal.invariant-loop
invariant-loop g l = record {
  home : g.L.Listener.is_out l.desk.listener ≡ false;
  served : Counted
      (λ peer. link_trace (g.L.Peer.Link.to_come peer) (g.L.Peer.Link.taken peer) (g.L.Peer.Link.faults peer))
      l.fn.tokens l.fn.portal.state l.counter
      (desk_trace (g.L.Listener.to_come l.fn.desk.listener) (g.L.Listener.taken_back l.fn.desk.listener)
      (g.L.Listener.count l.fn.desk.listener) (g.L.Listener.is_at_end l.fn.desk.listener)
      (g.L.Listener.faults l.fn.desk.listener) (g.C.Clock.given l.fn.desk.clock) (g.N.Nonces.given l.fn.desk.nonces))
      (desk_trace (g.L.Listener.to_come l.desk.listener) (g.L.Listener.taken_back l.desk.listener)
      (g.L.Listener.count l.desk.listener) (g.L.Listener.is_at_end l.desk.listener)
      (g.L.Listener.faults l.desk.listener) (g.C.Clock.given l.desk.clock) (g.N.Nonces.given l.desk.nonces))
      l.portal.state l.counter;
  keeps : g.P.Keeper.faults l.fn.portal.keeper ≤ g.P.Keeper.faults l.portal.keeper;
  quiet : g.L.Listener.faults l.desk.listener ≡ g.L.Listener.faults l.fn.desk.listener;
}

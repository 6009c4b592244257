-- A desk: the links that its listener gave are served one after another, and go back to it.
use Rattle.std.specs.Prelude.{◌≡◌, ◌⊎◌, ℕ, Bool, true, false, IsTrue, List, [], ◌∷◌, length, Result, Ok, OnOk, OnErr}
use Rattle.portal_base.specs.Outside.{Rose}
use Rattle.portal_base.specs.declared.outside.Failed.{Failed}
use Rattle.portal_links.specs.Desk.{DeskTrace, PassesLinks, Visit}
use Rattle.portal_links.specs.Tokens.{Digests}
use Rattle.portal_links.specs.Written.{LinkTrace}
use Rattle.portal_links.specs.declared.written.Served.{Served}
use Rattle.portal_state.specs.State.{State}
use Rattle.portal_serve.specs.Served.{Serves}

-- Links were served in order, each from the state that the one before it left. `trace` gives a link's trace.
abbrev pub ServesAll : {Peer : Type 0} → (Peer → LinkTrace) → Digests → State → List (Visit Peer) → State → Type 0
ServesAll trace digests state [] after = after ≡ state
ServesAll trace digests state (v ∷ visits) after = (middle : State) × (end : Served)
    × Serves digests state v.moment v.nonce (trace v.link) (trace v.back) end middle
    × ServesAll trace digests middle visits after

-- The desk served links, at most `limit` of them, and gave each of them back.
pub record ServesLinks {Peer : Type 0} (trace : Peer → LinkTrace) (digests : Digests) (state : State) (limit : ℕ)
    (old new : DeskTrace Peer) (after : State) : Type 0 where
  pub visits : List (Visit Peer)
  pub serves : ServesAll trace digests state visits after
  pub passes : PassesLinks limit visits old new

-- The next link was served, or there was none, and the listener had no fault. Or the listener failed.
pub record ServesNext {Peer : Type 0} (trace : Peer → LinkTrace) (digests : Digests) (state : State)
    (old new : DeskTrace Peer) (after : State) (result : Result Bool Failed) : Type 0 where
  pub served : ServesLinks trace digests state 1 old new after
  pub one : result ≡ Ok true → length served.visits ≡ 1
  pub ended : result ≡ Ok false → IsTrue new.is_at_end
  pub quiet : OnOk result (new.faults ≡ old.faults)
  pub failed : OnErr result (Rose old.faults new.faults)

-- A desk served its links to the end: its listener is at its end, or `limit` links were served, and the listener had no
-- fault meanwhile. Or it stopped where the listener failed.
pub record ServesDesk {Peer : Type 0} (trace : Peer → LinkTrace) (digests : Digests) (state : State) (limit : ℕ)
    (old new : DeskTrace Peer) (after : State) (result : Result Unit Failed) : Type 0 where
  pub served : ServesLinks trace digests state limit old new after
  pub ended : (let r : Result Unit Failed = Ok tt in result ≡ r) → IsTrue new.is_at_end ⊎ (length served.visits ≡ limit)
  pub quiet : OnOk result (new.faults ≡ old.faults)
  pub failed : OnErr result (Rose old.faults new.faults)

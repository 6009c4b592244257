-- Links that a desk served after others.
use Rattle.std.proofs.Common.{◌≡◌, ℕ, suc, ◌+◌, ◌≤◌, List, [], ◌∷◌, ◌++◌, length, Bool, true, false}
use Rattle.std.proofs.Common.{Result, Option, Ok, Err}
use Rattle.std.proofs.Common.{refl, sym, ap, subst, ◌∙◌, length-append, arith}
use Rattle.std.proofs.Common.{inl, inr}
use Rattle.std.specs.Prelude.{IsTrue, OnOk}
use Rattle.portal_base.specs.Counted.{next_count}
use Rattle.portal_base.specs.Outside.{GivesOne, Rose}
use Rattle.portal_base.specs.declared.outside.Failed.{Failed}
use Rattle.portal_links.proofs.Passing.{gives_one, passes_more, passes_none, passes_one, passes_within}
use Rattle.portal_links.specs.Desk.{DeskTrace, DrawsAll, GivesAll, TakesAll, Visit}
use Rattle.portal_links.specs.Tokens.{Digests}
use Rattle.portal_links.specs.Written.{LinkTrace}
use Rattle.portal_links.specs.declared.written.Served.{Served}
use Rattle.portal_state.specs.State.{State}
use Rattle.portal_serve.specs.Desk.{ServesAll, ServesLinks, ServesNext, ServesDesk}
use Rattle.portal_serve.specs.Served.{Serves}

serves_all_more : {Peer : Type 0} (trace : Peer → LinkTrace) (digests : Digests) (state middle after : State)
    (visits more : List (Visit Peer))
    → ServesAll trace digests state visits middle → ServesAll trace digests middle more after
    → ServesAll trace digests state (visits ++ more) after
serves_all_more trace digests state middle after [] more first second =
    subst (λ s. ServesAll trace digests s more after) first second
serves_all_more trace digests state middle after (v ∷ visits) more first second =
    (first.0, first.1, first.2, serves_all_more trace digests first.0 middle after visits more first.3 second)

-- what served links, and their count
abbrev pub Counted : {Peer : Type 0} → (Peer → LinkTrace) → Digests → State → ℕ → DeskTrace Peer → DeskTrace Peer
    → State → ℕ → Type 0
Counted trace digests state limit old new after count =
    (s : ServesLinks trace digests state limit old new after) × (length s.visits ≡ count)

-- no link was served, and nothing but the count of faults changed
pub serves_none : {Peer : Type 0} (trace : Peer → LinkTrace) (digests : Digests) (state : State) (limit : ℕ)
    (old new : DeskTrace Peer) → new.to_come ≡ old.to_come → new.taken_back ≡ old.taken_back → new.count ≡ old.count
    → new.moments ≡ old.moments → new.nonces ≡ old.nonces → Counted trace digests state limit old new state 0
serves_none trace digests state limit old new to_come taken_back count moments nonces = (
  record {
    visits = [];
    serves = refl;
    passes = passes_none limit old new to_come taken_back count moments nonces;
  },
  refl,
)

-- one link was served
pub serves_one : {Peer : Type 0} (trace : Peer → LinkTrace) (digests : Digests) (state after : State) (end : Served)
    (old new : DeskTrace Peer) (v : Visit Peer)
    → Serves digests state v.moment v.nonce (trace v.link) (trace v.back) end after
    → GivesAll old.to_come (v.link ∷ []) new.to_come → TakesAll old.taken_back (v.back ∷ []) new.taken_back
    → new.count ≡ next_count old.count → DrawsAll old.moments (v.moment ∷ []) new.moments
    → DrawsAll old.nonces (v.nonce ∷ []) new.nonces → Counted trace digests state 1 old new after 1
serves_one trace digests state after end old new v serves came back count clock numbers = (
  record {
    visits = v ∷ [];
    serves = (after, end, serves, refl);
    passes = passes_one old new v came back count clock numbers;
  },
  refl,
)

-- links were served, and then others
pub serves_more : {Peer : Type 0} (trace : Peer → LinkTrace) (digests : Digests) (state middle after : State)
    (first second limit m n : ℕ) (a b c : DeskTrace Peer)
    → m + n ≤ limit → Counted trace digests state first a b middle m → Counted trace digests middle second b c after n
    → Counted trace digests state limit a c after (m + n)
serves_more trace digests state middle after first second limit m n a b c both xs ys =
    let x = xs.0 in
    let y = ys.0 in
    let total : length (x.visits ++ y.visits) ≡ length x.visits + length y.visits = length-append x.visits y.visits in (
      record {
        visits = x.visits ++ y.visits;
        serves = serves_all_more trace digests state middle after x.visits y.visits x.serves y.serves;
        passes = passes_more first second limit x.visits y.visits a b c (omega (arith, both, xs.1, ys.1)) x.passes y.passes;
      },
      omega (arith, total, xs.1, ys.1),
    )

-- a greater limit
pub serves_within : {Peer : Type 0} (trace : Peer → LinkTrace) (digests : Digests) (state after : State)
    (first limit m : ℕ) (a b : DeskTrace Peer) → m ≤ limit → Counted trace digests state first a b after m
    → Counted trace digests state limit a b after m
serves_within trace digests state after first limit m a b within xs =
    let x = xs.0 in (
      record {
        visits = x.visits;
        serves = x.serves;
        passes = passes_within first limit x.visits a b (omega (arith, within, xs.1)) x.passes;
      },
      xs.1,
    )

-- ---- one turn of a desk

-- the listener failed
pub next_failed : {Peer : Type 0} (trace : Peer → LinkTrace) (digests : Digests) (state : State)
    (old new : DeskTrace Peer) (fault : Failed) → new.to_come ≡ old.to_come → new.taken_back ≡ old.taken_back
    → new.count ≡ old.count → new.moments ≡ old.moments → new.nonces ≡ old.nonces → Rose old.faults new.faults
    → ServesNext trace digests state old new state (Err fault)
next_failed trace digests state old new fault to_come taken_back count moments nonces rose = record {
  served = (serves_none trace digests state 1 old new to_come taken_back count moments nonces).0;
  one = λ is. absurd (cc);
  ended = λ is. absurd (cc);
  quiet = tt;
  failed = rose;
}

-- there was no link
pub next_none : {Peer : Type 0} (trace : Peer → LinkTrace) (digests : Digests) (state : State)
    (old new : DeskTrace Peer) → new.to_come ≡ old.to_come → new.taken_back ≡ old.taken_back
    → new.count ≡ old.count → new.moments ≡ old.moments → new.nonces ≡ old.nonces → IsTrue new.is_at_end
    → new.faults ≡ old.faults → ServesNext trace digests state old new state (Ok false)
next_none trace digests state old new to_come taken_back count moments nonces at_end quiet = record {
  served = (serves_none trace digests state 1 old new to_come taken_back count moments nonces).0;
  one = λ is. absurd (cc);
  ended = λ is. at_end;
  quiet = quiet;
  failed = tt;
}

-- a link was served; between, the listener had these still to come, these taken back, and this count
pub next_one : {Peer : Type 0} (trace : Peer → LinkTrace) (digests : Digests) (state after : State) (end : Served)
    (old new : DeskTrace Peer) (v : Visit Peer) (to_come taken_back : Option (List Peer)) (count : ℕ)
    → Serves digests state v.moment v.nonce (trace v.link) (trace v.back) end after
    → GivesOne old.to_come v.link to_come → new.to_come ≡ to_come
    → taken_back ≡ old.taken_back → TakesAll taken_back (v.back ∷ []) new.taken_back
    → count ≡ old.count → new.count ≡ next_count count
    → DrawsAll old.moments (v.moment ∷ []) new.moments → DrawsAll old.nonces (v.nonce ∷ []) new.nonces
    → new.faults ≡ old.faults → ServesNext trace digests state old new after (Ok true)
next_one trace digests state after end old new v to_come taken_back count serves gave left kept back same one clock
    numbers quiet =
    let served = serves_one trace digests state after end old new v serves
    (subst (λ o. GivesAll old.to_come (v.link ∷ []) o) (sym left) (gives_one old.to_come to_come v.link gave))
    (subst (λ o. TakesAll o (v.back ∷ []) new.taken_back) kept back) (one ∙ ap next_count same) clock numbers in
    record { served = served.0; one = λ is. served.1; ended = λ is. absurd (cc); quiet = quiet; failed = tt }

-- ---- the turns of a desk

-- a turn that ended well had no fault
turn_quiet : {P : Type 0} (result : Result Bool Failed) (b : Bool) → result ≡ Ok b → OnOk result P → P
turn_quiet (Ok x) b is quiet = quiet
turn_quiet (Err fault) b is quiet = absurd (cc)

-- there was no further link
pub desk_ends : {Peer : Type 0} (trace : Peer → LinkTrace) (digests : Digests) (first state after : State)
    (limit m : ℕ) (a b c : DeskTrace Peer) (result : Result Bool Failed) → result ≡ Ok false → suc m ≤ limit
    → b.faults ≡ a.faults → Counted trace digests first m a b state m
    → ServesNext trace digests state b c after result
    → ServesDesk trace digests first limit a c after (Ok tt)
desk_ends trace digests first state after limit m a b c result none more quiet so_far next =
    let within : m + length next.served.visits ≤ limit = omega (arith, more, next.served.passes.few) in
    record {
      served = (serves_more trace digests first state after m 1 limit m (length next.served.visits) a b c within so_far
          (next.served, refl)).0;
      ended = λ is. inl (next.ended none);
      quiet = turn_quiet result false none next.quiet ∙ quiet;
      failed = tt;
    }

-- the listener failed
pub desk_fails : {Peer : Type 0} (trace : Peer → LinkTrace) (digests : Digests) (first state after : State)
    (limit m : ℕ) (a b c : DeskTrace Peer) (fault : Failed) → suc m ≤ limit → b.faults ≡ a.faults
    → Counted trace digests first m a b state m
    → ServesNext trace digests state b c after (Err fault) → ServesDesk trace digests first limit a c after (Err fault)
desk_fails trace digests first state after limit m a b c fault more quiet so_far next =
    let within : m + length next.served.visits ≤ limit = omega (arith, more, next.served.passes.few) in
    record {
      served = (serves_more trace digests first state after m 1 limit m (length next.served.visits) a b c within so_far
          (next.served, refl)).0;
      ended = λ is. absurd (cc);
      quiet = tt;
      failed = subst (λ n. Rose n c.faults) quiet next.failed;
    }

-- one link more had no fault
pub goes_on_quiet : {Peer : Type 0} (trace : Peer → LinkTrace) (digests : Digests) (state after : State) (faults : ℕ)
    (b c : DeskTrace Peer) (result : Result Bool Failed) → result ≡ Ok true → b.faults ≡ faults
    → ServesNext trace digests state b c after result → c.faults ≡ faults
goes_on_quiet trace digests state after faults b c result one quiet next =
    turn_quiet result true one next.quiet ∙ quiet

-- one link more
pub desk_goes_on : {Peer : Type 0} (trace : Peer → LinkTrace) (digests : Digests) (first state after : State)
    (m : ℕ) (a b c : DeskTrace Peer) (result : Result Bool Failed) → result ≡ Ok true
    → Counted trace digests first m a b state m → ServesNext trace digests state b c after result
    → Counted trace digests first (m + 1) a c after (m + 1)
desk_goes_on trace digests first state after m a b c result one so_far next =
    serves_more trace digests first state after m 1 (m + 1) m 1 a b c (omega arith) so_far (next.served, next.one one)

-- as many links as the limit were served
pub desk_is_full : {Peer : Type 0} (trace : Peer → LinkTrace) (digests : Digests) (first after : State)
    (limit m : ℕ) (a b : DeskTrace Peer) → m ≡ limit → b.faults ≡ a.faults
    → Counted trace digests first m a b after m → ServesDesk trace digests first limit a b after (Ok tt)
desk_is_full trace digests first after limit m a b full quiet so_far =
    let all = serves_within trace digests first after m limit m a b (omega (arith, full)) so_far in
    record { served = all.0; ended = λ is. inr (all.1 ∙ full); quiet = quiet; failed = tt }

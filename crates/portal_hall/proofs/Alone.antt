-- What a seat with all the room knows: no other seat has any, so it has seen all of the history and owns each index of it.
use Rattle.std.proofs.Common.{◌≡◌, ◌≢◌, ℕ, ◌<◌, length, ap, sym, ◌∙◌, arith}
use Rattle.std.proofs.lemmas.Bool.Decides.{nat_tests}
use mathlib.Core.Logic.{dite}
use mathlib.Core.Option.{some}
use native.Mathlib.Decide.{dec_le}
use lib.ListN.{get_elem?}
use Rattle.atomic_table.specs.Table as table
use Rattle.portal_hall.specs.History.{Step, times, once_below}
use Rattle.portal_hall.specs.declared.board.View.{View}
use Rattle.portal_hall.specs.Turns.{Slot, Kept, OwnsEachIndex}
use Rattle.portal_hall.proofs.Sums.{both_at_most, one_counts}
use Rattle.portal_hall.proofs.Prefixes.{begins_whole}

below_once : (x n : ℕ) → x < n → once_below x n ≡ 1
below_once x n lt = grind (arith, nat_tests)

module _ {M E C R : Type 0} (core : M → C) (faults : M → ℕ) (works : C → E → Step C R) (opening : M) (seats : ℕ) where
  abbrev V : Type 0
  V = View M E

  abbrev St : Type 0
  St = table.State (Slot M E) V

  abbrev Rule : St → Type 0
  Rule = Kept core faults works opening seats

  -- where a pass has all the room, no other has any
  pub others_none : (s : St) (r : Rule s) (id : ℕ) (v : V) → get_elem? s.views id ≡ some v → v.room ≡ seats
      → (j : ℕ) (u : V) → j ≢ id → get_elem? s.views j ≡ some u → u.room ≡ 0
  others_none s r id v at all j u ne b =
      let both = both_at_most (λ (v : V). v.room) s.views id j v u (λ e. ne (sym e)) at b in
      let rooms = r.rooms in omega arith

  -- with all the seats, its own indexes are those of the history
  pub own_places : (s : St) (r : Rule s) (id : ℕ) (v : V) → get_elem? s.views id ≡ some v → v.room ≡ seats → (x : ℕ)
      → times x v.own ≡ once_below x (length r.log)
  own_places s r id v at all x =
      sym (one_counts (λ (u : V). times x u.own) s.views id v at
      (λ j u ne b. ap (times x) ((r.each j u b).without_room (others_none s r id v at all j u ne b)).2))
      ∙ r.indexes x

  -- with all the seats, all of the history is seen
  pub sees_all : (s : St) (r : Rule s) (id : ℕ) (v : V) → get_elem? s.views id ≡ some v → v.room ≡ seats
      → r.log ≡ v.seen
  sees_all s r id v at all =
      let f = r.each id v at in
      dite (dec_le (length r.log) (length v.seen)) (λ le. begins_whole v.seen r.log f.seen le)
      (λ more.
      let one : once_below (length v.seen) (length r.log) ≡ 1 = below_once (length v.seen) (length r.log)
      (omega arith) in
      let here = own_places s r id v at all (length v.seen) in
      let lt = f.own (length v.seen) (omega arith) in
      absurd (omega arith))

  pub owns_all : (s : St) (r : Rule s) (id : ℕ) (v : V) → get_elem? s.views id ≡ some v → 0 < v.room → OwnsEachIndex v
  owns_all s r id v at room whole x =
      let all : v.room ≡ seats = whole ∙ ((r.each id v at).named room).1 in
      own_places s r id v at all x ∙ ap (λ l. once_below x (length l)) (sees_all s r id v at all)

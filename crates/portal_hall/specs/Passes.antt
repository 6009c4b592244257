-- What callers know of a hall, of its passes and of the outcome of an act.
use Rattle.std.specs.Prelude.{◌≡◌, ◌⊎◌, ℕ, ◌+◌, ◌^◌, ◌<◌, ◌≤◌, List, [], ◌∷◌, ◌++◌, length, take, slice_get}
use Rattle.std.specs.Prelude.{Some, None}
use Rattle.portal_base.specs.Outside.{Rose}
use Rattle.atomic_table.specs.declared.shared.Seat.{Seat}
use Rattle.portal_hall.specs.History.{Step, Begins, times, once_below, replay, Accepts, Refuses}
use Rattle.portal_hall.specs.Turns.{Slot, OwnsEachIndex, IsReplayed, own_after}
use Rattle.portal_hall.specs.declared.board.View.{View}
use Rattle.portal_hall.specs.declared.board.HeldMachine.{HeldMachine}
use Rattle.portal_hall.specs.declared.board.Stage.TheVariants.{Resting, Acting}
use Rattle.portal_hall.specs.declared.acted.Acted.{Acted}
use Rattle.portal_hall.specs.declared.acted.Acted.TheVariants.{Done, OutOfMemory}
use Rattle.portal_hall.specs.declared.pass.Pass.{Pass}
use Rattle.portal_hall.specs.declared.hall.Hall.{Hall}

module _ {M E R : Type 0} where
  -- the machine that the hall was opened with
  abbrev pub opening : Hall M E R → M
  opening hall = hall.table.shared.key.0.value

  -- the count of the hall's seats
  abbrev pub seats_of : Hall M E R → ℕ
  seats_of hall = hall.table.shared.key.1

  -- the seat is one of this hall's, and between two calls
  pub record Rests (hall : Hall M E R) (seat : Seat (Slot M E) (View M E)) : Type 0 where
    pub table : seat.table_id ≡ hall.table.shared.table_id
    pub hand : seat.me.1 ≡ []
    pub stage : seat.me.0.stage ≡ Resting
    pub named : seat.me.0.opening ≡ Some (opening hall)
    pub seats_is : seat.me.0.seats ≡ seats_of hall
    pub some_room : 0 < seat.me.0.room

module _ {M E R : Type 0} where
  -- the count of the hall's seats that the pass has
  abbrev pub room_of : Pass M E R → ℕ
  room_of pass = pass.room

  -- the prefix of the hall's history that the pass has seen
  abbrev pub seen : Pass M E R → List E
  seen pass = pass.seat.me.0.seen

  -- the indexes in the history of the events that the pass's calls added
  abbrev pub own : Pass M E R → List ℕ
  own pass = pass.seat.me.0.own

  -- a count of faults that the machine has reached
  abbrev pub mark : Pass M E R → ℕ
  mark pass = pass.seat.me.0.mark

  -- A pass with all the seats owns each index of what it has seen, once. So no other pass adds an event while it keeps
  -- all the seats.
  abbrev pub OwnsAll : Hall M E R → Pass M E R → Type 0
  OwnsAll hall pass = room_of pass ≡ seats_of hall → (x : ℕ) → times x (own pass) ≡ once_below x (length (seen pass))

  -- the pass is one of this hall's
  pub record IsPassOf (hall : Hall M E R) (pass : Pass M E R) : Type 0 where
    pub seat : Rests hall pass.seat
    pub room : pass.room ≡ pass.seat.me.0.room

-- The outcome of an act whose event was accepted, at index k of the history.
pub record IsEntry {C E R : Type 0} (step : C → E → Step C R) (core : C) (before after : List E) (event : E)
    (reply : R) (front k : ℕ)
    : Type 0 where
  pub index : front ≡ k + 1
  pub later : length before ≤ k
  pub recorded : slice_get after k ≡ Some event
  pub answer : Accepts step (replay step core (take k after)) event reply

-- The event wasn't accepted, or the machine was out of memory, or there was a fault and the count of faults rose.
abbrev pub IsRefusal : {C E R : Type 0} → (C → E → Step C R) → (R → Type 0) → (R → Type 0) → C → E → R → ℕ → ℕ → Type 0
IsRefusal step IsOutOfMemory IsFault core event reply before after = Refuses step core event reply
    ⊎ (IsOutOfMemory reply ⊎ (IsFault reply × Rose before after))

module _ {M E R : Type 0} where
  -- the count of events that the act added to the history
  abbrev pub events_of : Acted M E R → ℕ
  events_of (Done reply front (Some k)) = 1
  events_of (Done reply front None) = 0
  events_of (OutOfMemory event) = 0

  -- what the act of an event added to the history
  abbrev pub added_by : Acted M E R → E → List E
  added_by (Done reply front (Some k)) event = event ∷ []
  added_by (Done reply front None) event = []
  added_by (OutOfMemory back) event = []

  -- if the event was accepted, the fact holds of the reply, the front and the index
  abbrev pub IfEntry : Acted M E R → (R → ℕ → ℕ → Type 0) → Type 0
  IfEntry (Done reply front (Some k)) P = P reply front k
  IfEntry (Done reply front None) P = Unit {0}
  IfEntry (OutOfMemory event) P = Unit {0}

  -- if the event wasn't accepted, the fact holds of the reply and the front
  abbrev pub IfNoEntry : Acted M E R → (R → ℕ → Type 0) → Type 0
  IfNoEntry (Done reply front (Some k)) P = Unit {0}
  IfNoEntry (Done reply front None) P = P reply front
  IfNoEntry (OutOfMemory event) P = Unit {0}

  -- if the history couldn't grow, the fact holds of the event that is returned
  abbrev pub IfOutOfMemory : Acted M E R → (E → Type 0) → Type 0
  IfOutOfMemory (Done reply front entry) P = Unit {0}
  IfOutOfMemory (OutOfMemory event) P = P event

module _ {M E C R : Type 0} (core : M → C) (faults : M → ℕ) (step : C → E → Step C R) where
  -- The seat has the turn, and this was the content of the slot.
  pub record Begun (hall : Hall M E R) (before after : Seat (Slot M E) (View M E)) (held : HeldMachine M E) : Type 0 where
    pub same : (after.table_id ≡ before.table_id) × (after.id ≡ before.id)
    pub ticket : (t : ℕ) ×
        (after.me ≡ (
          record before.me.0 { stage = Acting t; seen = held.history.items; mark = faults held.machine },
          (0, None) ∷ [],
        ))
    pub seen : Begins before.me.0.seen held.history.items
    pub mark : before.me.0.mark ≤ faults held.machine
    pub replayed : IsReplayed core faults step (opening hall) held
    pub alone : before.me.0.room ≡ before.me.0.seats → held.history.items ≡ before.me.0.seen

  -- The turn was passed on, and this is the content of the slot.
  pub record Ended (k : ℕ) (before after : Seat (Slot M E) (View M E)) (held : HeldMachine M E) : Type 0 where
    pub same : (after.table_id ≡ before.table_id) × (after.id ≡ before.id)
    pub after_is : after.me
        ≡ (
          record before.me.0 {
            stage = Resting;
            seen = held.history.items;
            own = own_after k before.me.0;
            mark = faults held.machine;
          },
          [],
        )
    pub all : OwnsEachIndex after.me.0

  -- The seat has the turn, and may return this to the slot, with k events more.
  pub record MayEnd (hall : Hall M E R) (k : ℕ) (seat : Seat (Slot M E) (View M E)) (held : HeldMachine M E) : Type 0 where
    pub table : seat.table_id ≡ hall.table.shared.table_id
    pub hand : seat.me.1 ≡ (0, None) ∷ []
    pub ticket : (t : ℕ) × (seat.me.0.stage ≡ Acting t)
    pub named : seat.me.0.opening ≡ Some (opening hall)
    pub some_room : 0 < seat.me.0.room
    pub few : k ≤ 1
    pub longer_by : (more : List E) × (held.history.items ≡ seat.me.0.seen ++ more) × (length more ≡ k)
    pub short : length held.history.items < 2 ^ 64
    pub mark : seat.me.0.mark ≤ faults held.machine
    pub replayed : IsReplayed core faults step (opening hall) held

-- The rule of the hall's table, and the effect of each step on it.
-- Three words are used: the next ticket to be drawn, the ticket whose turn it is, both modulo 2^64, and the length of the
-- history. The slot has the machine and the history. While a seat has the turn, that seat holds them.
use Rattle.std.specs.Prelude.{◌≡◌, ◌≢◌, ℕ, ◌+◌, ◌-◌, ◌%◌, ◌^◌, ◌<◌, ◌≤◌, max, nat_lt, if◌then◌else◌}
use Rattle.std.specs.Prelude.{List, [], ◌∷◌, ◌++◌, length, replicate, sum_by, Option, Some, None, IfSome}
use mathlib.Core.Option.{none, some}
use mathlib.Core.Option as maybe
use lib.ListN.{get_elem?}
use Rattle.atomic_table.specs.Table as table
use Rattle.portal_hall.specs.History.{Step, Begins, times, once_below, replay, IsLegal}
use Rattle.portal_hall.specs.declared.board.HeldMachine.{HeldMachine}
use Rattle.portal_hall.specs.declared.board.View.{View}
use Rattle.portal_hall.specs.declared.board.Stage.{Stage}
use Rattle.portal_hall.specs.declared.board.Stage.TheVariants.{Resting, Waiting, Acting}

-- the seat's ticket is t
abbrev pub HasTicket : Stage → ℕ → Type 0
HasTicket Resting t = ⊥
HasTicket (Waiting x) t = x ≡ t
HasTicket (Acting x) t = x ≡ t

-- the two have no ticket in common
abbrev pub Apart : Stage → Stage → Type 0
Apart a b = (t : ℕ) → HasTicket a t → HasTicket b t → ⊥

-- the count of tickets of the seat: 1 or 0
abbrev pub tickets_of : Stage → ℕ
tickets_of Resting = 0
tickets_of (Waiting _) = 1
tickets_of (Acting _) = 1

abbrev pub Slot : Type 0 → Type 0 → Type 0
Slot M E = Option (HeldMachine M E)

abbrev pub Me : Type 0 → Type 0 → Type 0
Me M E = table.Me (Slot M E) (View M E)

-- the indexes of the words that are used
abbrev pub next_index : ℕ
next_index = 8

abbrev pub served_index : ℕ
served_index = 24

abbrev pub length_index : ℕ
length_index = 40

-- The words of the table. The others are unused and 0, so that the used ones are on cache lines of their own.
abbrev pub words_of : ℕ → ℕ → ℕ → List ℕ
words_of next served events =
    replicate 8 0 ++ next ∷ replicate 15 0 ++ served ∷ replicate 15 0 ++ events ∷ replicate 7 0

-- the count of tickets that are drawn and not yet served
abbrev pub tickets_out : {M E : Type 0} → List (View M E) → ℕ
tickets_out views = sum_by (λ v. tickets_of v.stage) views

-- the pass's own indexes after k more events
abbrev pub own_after : {M E : Type 0} → ℕ → View M E → List ℕ
own_after k v = if nat_lt 0 k then v.own ++ length v.seen ∷ [] else v.own

-- the view that has seen all of the held history, after k more events
abbrev pub moved : {M E : Type 0} → (M → ℕ) → ℕ → View M E → HeldMachine M E → View M E
moved faults k v held = record v { seen = held.history.items; own = own_after k v; mark = faults held.machine }

-- the longer of two lists
abbrev pub longer : {E : Type 0} → List E → List E → List E
longer xs ys = if nat_lt (length xs) (length ys) then ys else xs

module _ {M E : Type 0} (served out : ℕ) (log : List E) (top : ℕ) (turn : maybe.Option ℕ) (seat : ℕ) where
  -- A ticket is at least the one that is served, and below the next one to be drawn. The seat that has the turn has seen
  -- all of the history.
  abbrev pub StageFits : View M E → Stage → Type 0
  StageFits v Resting = Unit {0}
  StageFits v (Waiting t) = (served ≤ t) × (t < served + out)
  StageFits v (Acting t) = (t ≡ served) × (0 < out) × (turn ≡ some seat) × (v.seen ≡ log) × (v.mark ≡ top)

-- what the rule requires of one view
pub record Fits {M E : Type 0} (served out : ℕ) (log : List E) (top : ℕ) (turn : maybe.Option ℕ) (opening : M)
    (seats : ℕ)
    (seat : ℕ) (v : View M E) : Type 0 where
  pub seen : Begins v.seen log
  pub mark : v.mark ≤ top
  pub stage : StageFits served out log top turn seat v v.stage
  pub own : (x : ℕ) → 0 < times x v.own → x < length v.seen
  pub left : Begins v.left_seen v.seen
  pub right : Begins v.right_seen v.seen
  pub named : 0 < v.room → (v.opening ≡ Some opening) × (v.seats ≡ seats)
  pub without_room : v.room ≡ 0 → (v.stage ≡ Resting) × (v.seen ≡ []) × (v.own ≡ []) × (v.mark ≡ 0)

module _ {M E C R : Type 0} (core : M → C) (faults : M → ℕ) (step : C → E → Step C R) where
  -- the history is legal, and the machine's core is its replay
  abbrev pub IsReplayed : M → HeldMachine M E → Type 0
  IsReplayed opening held = IsLegal step (core opening) held.history.items
      × (core held.machine ≡ replay step (core opening) held.history.items)

  -- the slot has the machine with the history so far, or the seat that has the turn holds them
  abbrev pub SlotFits : ℕ → List E → ℕ → M → List (View M E) → List (maybe.Option (Slot M E)) → maybe.Option ℕ → Type 0
  SlotFits served log top opening views homes none = (held : HeldMachine M E) × (homes ≡ some (Some held) ∷ [])
      × (held.history.items ≡ log) × (top ≤ faults held.machine) × IsReplayed opening held
  SlotFits served log top opening views homes (some seat) = (homes ≡ none ∷ [])
      × ((v : View M E) × (get_elem? views seat ≡ some v) × (v.stage ≡ Acting served))

  pub record Kept (opening : M) (seats : ℕ) (s : table.State (Slot M E) (View M E)) : Type 0 where
    pub served : ℕ
    pub log : List E
    pub top : ℕ
    pub turn : maybe.Option ℕ
    pub words : s.words ≡ words_of ((served + tickets_out s.views) % 2 ^ 64) (served % 2 ^ 64) (length log)
    pub each : (j : ℕ) (v : View M E) → get_elem? s.views j ≡ some v
        → Fits served (tickets_out s.views) log top turn opening seats j v
    pub apart : (j k : ℕ) (v w : View M E) → j ≢ k → get_elem? s.views j ≡ some v → get_elem? s.views k ≡ some w
        → Apart v.stage w.stage
    pub rooms : sum_by (λ v. v.room) s.views ≡ seats
    pub few : seats ≤ 64
    pub indexes : (x : ℕ) → sum_by (λ v. times x v.own) s.views ≡ once_below x (length log)
    pub slot : SlotFits served log top opening s.views s.homes turn

  -- The seat got the turn, with the machine and the history, and has seen all of the history. With all the seats it had
  -- seen all of it before.
  abbrev pub HasTurn : Me M E → ℕ → Me M E → Type 0
  HasTurn m t m' = (held : HeldMachine M E) × (m'.1 ≡ (0, Some held) ∷ [])
      × (m'.0 ≡ record m.0 { stage = Acting t; seen = held.history.items; mark = faults held.machine })
      × Begins m.0.seen held.history.items × (m.0.mark ≤ faults held.machine) × IfSome m.0.opening (λ o. IsReplayed o held)
      × (m.0.room ≡ m.0.seats → held.history.items ≡ m.0.seen)

  -- the ticket that is served was read
  abbrev pub looked : table.Step (Slot M E) → Me M E → ℕ → Me M E → Type 0
  looked st m found m' = (t : ℕ) → m.0.stage ≡ Waiting t
      → (found ≡ t % 2 ^ 64 → HasTurn m t m') × (found ≢ t % 2 ^ 64 → m' ≡ m)

  -- the seat has now seen the history that it holds
  abbrev pub lengthened : table.Step (Slot M E) → Me M E → ℕ → Me M E → Type 0
  lengthened st m found m' = (held : HeldMachine M E) → m.1 ≡ (0, Some held) ∷ []
      → m' ≡ (moved faults st.first m.0 held, m.1)

module _ {M E : Type 0} where
  -- a ticket was drawn
  abbrev pub drew : table.Step (Slot M E) → Me M E → ℕ → Me M E → Type 0
  drew st m found m' = (t : ℕ) × (found ≡ t % 2 ^ 64) × (m' ≡ (record m.0 { stage = Waiting t }, m.1))

  -- A view with all the seats owns each index of the history, once.
  abbrev pub OwnsEachIndex : View M E → Type 0
  OwnsEachIndex v = v.room ≡ v.seats → (x : ℕ) → times x v.own ≡ once_below x (length v.seen)

  -- the slot was filled again, and the turn passed on
  abbrev pub passed : table.Step (Slot M E) → Me M E → ℕ → Me M E → Type 0
  passed st m found m' = (m' ≡ (record m.0 { stage = Resting }, [])) × OwnsEachIndex m'.0

  -- Nothing changes. The rule says this of a view to which another was joined.
  abbrev pub checked : table.Step (Slot M E) → Me M E → ℕ → Me M E → Type 0
  checked st m found m' = (m' ≡ m) × Begins m.0.left_seen m.0.seen × Begins m.0.right_seen m.0.seen × OwnsEachIndex m.0
      × ((x : ℕ) → times x m.0.own ≤ 1) × (m.0.room ≤ 64)

  -- the view of the first seat
  abbrev pub starting : (M → ℕ) → M → ℕ → View M E
  starting faults opening seats = record {
    opening = Some opening;
    seats = seats;
    stage = Resting;
    seen = [];
    own = [];
    mark = faults opening;
    room = seats;
    left_seen = [];
    right_seen = [];
  }

  -- the rest of a view that gives this count of seats away, and the view that gets them
  abbrev pub kept_of : ℕ → View M E → View M E
  kept_of room v = record v { room = v.room - room }

  abbrev pub given_of : ℕ → View M E → View M E
  given_of room v = record v { own = []; room = room; left_seen = []; right_seen = [] }

  -- the view to which two views were joined
  abbrev pub joined : View M E → View M E → View M E
  joined v w = record v {
    seen = longer v.seen w.seen;
    own = v.own ++ w.own;
    mark = max v.mark w.mark;
    room = v.room + w.room;
    left_seen = v.seen;
    right_seen = w.seen;
  }

  -- a view that knows nothing
  abbrev pub empty_view : View M E
  empty_view = record {
    opening = None;
    seats = 0;
    stage = Resting;
    seen = [];
    own = [];
    mark = 0;
    room = 0;
    left_seen = [];
    right_seen = [];
  }

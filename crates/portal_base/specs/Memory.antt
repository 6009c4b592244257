-- Devices in memory, which fail at planned calls.
use Rattle.std.specs.Prelude.{◌≡◌, ◌↔◌, ℕ, ◌-◌, ◌==◌, ◌||◌, ◌&&◌, not, nat_lt, if◌then◌else◌}
use Rattle.std.specs.Prelude.{Bool, true, false, IsTrue, refl}
use Rattle.std.specs.Prelude.{List, [], ◌∷◌, ◌++◌, length, take, drop, Option, Some, None, option_map}
use Rattle.std.specs.List.{find, list_any}
use Rattle.std.specs.Str.{bytes_eq}
use Rattle.portal_base.specs.Counted.{next_count}
use Rattle.portal_base.specs.declared.outside.FetchFault.{FetchFault}
use Rattle.portal_base.specs.declared.outside.FetchFault.TheVariants.{Failed, Missing, TooLong}

-- the numbers of the calls that fail, counted from 1, and the counts of calls and of faults so far
pub record Plan : Type 0 where
  pub failing : List ℕ
  pub calls : ℕ
  pub faults : ℕ

-- whether the next call fails
abbrev pub is_failing : Plan → Bool
is_failing plan = list_any (λ number. number == next_count plan.calls) plan.failing

abbrev pub after_call : Plan → Plan
after_call plan = record plan { calls = next_count plan.calls }

abbrev pub after_fault : Plan → Plan
after_fault plan = record plan { calls = next_count plan.calls; faults = next_count plan.faults }

-- the next call, which fails as planned
abbrev pub after_next : Plan → Plan
after_next plan = if is_failing plan then after_fault plan else after_call plan

-- a source in memory: the bytes still to come
pub record SourceState : Type 0 where
  pub to_come : List ℕ
  pub plan : Plan

-- A read into a slice of `room` bytes takes off as many bytes as fit, unless it fails.
abbrev pub after_read : SourceState → ℕ → SourceState
after_read s room = if is_failing s.plan
    then record s { plan = after_fault s.plan }
    else record { to_come = drop room s.to_come; plan = after_call s.plan }

-- a buffer: the bytes taken, and the number of bytes that still fit
pub record BufferState : Type 0 where
  pub taken : List ℕ
  pub room : ℕ

-- a sink in memory: the bytes taken, and the number of bytes that still fit
pub record SinkState : Type 0 where
  pub taken : List ℕ
  pub room : ℕ
  pub plan : Plan

-- A write is refused if it fails as planned or there is no room.
abbrev pub refuses : SinkState → Bool
refuses s = is_failing s.plan || (s.room == 0)

-- A write takes as many bytes as fit, unless it is refused.
abbrev pub after_write : SinkState → List ℕ → SinkState
after_write s piece = if refuses s
    then record s { plan = after_fault s.plan }
    else record { taken = s.taken ++ take s.room piece; room = s.room - length piece; plan = after_call s.plan }

-- a link in memory: the bytes still to come, the bytes taken, and the number of bytes that still fit
pub record LinkState : Type 0 where
  pub to_come : List ℕ
  pub taken : List ℕ
  pub room : ℕ
  pub plan : Plan

-- the link as a source, and as a sink
abbrev pub source_state : LinkState → SourceState
source_state w = record { to_come = w.to_come; plan = w.plan }

abbrev pub sink_state : LinkState → SinkState
sink_state w = record { taken = w.taken; room = w.room; plan = w.plan }

-- A link is read as a source is, and keeps the bytes taken.
abbrev pub after_link_read : LinkState → ℕ → LinkState
after_link_read w room = let s = after_read (source_state w) room in record w { to_come = s.to_come; plan = s.plan }

-- A link is written to as a sink is, and keeps the bytes still to come.
abbrev pub after_link_write : LinkState → List ℕ → LinkState
after_link_write w piece = let s = after_write (sink_state w) piece in
    record w { taken = s.taken; room = s.room; plan = s.plan }

-- a fetcher in memory: the bytes at each location
pub record FetcherState : Type 0 where
  pub held : List (List ℕ × List ℕ)
  pub plan : Plan

-- whether there are bytes at the location
abbrev pub is_held : List ℕ → List (List ℕ × List ℕ) → Bool
is_held location held = list_any (λ entry. bytes_eq entry.0 location) held

-- whether all locations are different
abbrev pub are_distinct : List (List ℕ × List ℕ) → Bool
are_distinct [] = true
are_distinct (entry ∷ rest) = not (is_held entry.0 rest) && are_distinct rest

-- the bytes at the location
abbrev pub bytes_at : List (List ℕ × List ℕ) → List ℕ → Option (List ℕ)
bytes_at held location = option_map (λ entry. entry.1) (find (λ entry. bytes_eq entry.0 location) held)

-- why a fetch of these bytes fails, if it does
abbrev pub fault_of : Option (List ℕ) → ℕ → Option FetchFault
fault_of None limit = Some Missing
fault_of (Some bytes) limit = if nat_lt limit (length bytes) then Some TooLong else None

-- A fetch that fails as planned does not depend on the contents.
abbrev pub fetch_fault : FetcherState → List ℕ → ℕ → Option FetchFault
fetch_fault f location limit = if is_failing f.plan then Some Failed else fault_of (bytes_at f.held location) limit

abbrev pub after_fetch : FetcherState → FetcherState
after_fetch f = record f { plan = after_next f.plan }

-- a listener in memory: the links still to come, those taken back, and whether one is out
pub record ListenerState : Type 0 where
  pub to_come : List LinkState
  pub taken_back : List LinkState
  pub is_out : Bool
  pub plan : Plan

-- The next link is out, if there is one, unless the call fails.
abbrev pub after_accept : ListenerState → ListenerState
after_accept d = if is_failing d.plan
    then record d { plan = after_fault d.plan }
    else record d { to_come = drop 1 d.to_come; is_out = nat_lt 0 (length d.to_come); plan = after_call d.plan }

abbrev pub after_finish : ListenerState → LinkState → ListenerState
after_finish d link = record d { taken_back = d.taken_back ++ link ∷ []; is_out = false }

abbrev pub is_empty : List LinkState → Bool
is_empty [] = true
is_empty (link ∷ links) = false

pub ends_where_empty : (links : List LinkState) → IsTrue (is_empty links) ↔ (links ≡ [])
ends_where_empty [] = (λ _. refl, λ _. refl)
ends_where_empty (link ∷ links) = (λ h. cc, λ e. cc)

-- Parts of a run: the lines that were processed, and what passed the devices meanwhile.
use Rattle.std.specs.Prelude.{◌≡◌, ◌⊎◌, ℕ, ◌+◌, ◌≤◌, ℤ, List, [], ◌∷◌, ◌++◌, length, filter, Some}
use Rattle.std.specs.Str.Lines.{lines}
use Rattle.portal_lines.specs.PartialLines.{HasNoFeed}
use Rattle.portal_lines.specs.Lines.{ReaderState, TakesLine, FindsEnd}
use Rattle.std.specs.List.{All}
use Rattle.portal_base.specs.Outside.{Gives, Holdings, Takes, IsAtEnd}
use Rattle.portal_serve.specs.Rounds.{PoolTrace, RoundsPassed}
use Rattle.portal_links.specs.Desk.{DrawsAll}
use Rattle.portal_serve.specs.Run.{Begins, DeviceTrace, IsWhole, StageTrace, stage_trace_of}
use Rattle.portal_serve.specs.Script.{script_lines, is_nonempty}
use Rattle.portal_state.specs.State.{State}
use Rattle.portal_serve.specs.Transcript.{AllowsRounds, AreDrawn, Drawn, drawn, script_state, state_after, written_for}

-- Lines, processed from a state, drew this, wrote these bytes and left that state. Each round is one that the documents and
-- the state before it allow, and went to its end.
pub record Processes (held : Holdings) (state : State) (script : List (List ℕ)) (d : Drawn) (written : List ℕ)
    (after : State) : Type 0 where
  pub are_drawn : AreDrawn script d
  pub allowed : AllowsRounds held (script_state state d) script
  pub ended : All IsWhole d.rounds
  pub output : written_for (script_state state d) script ≡ written
  pub leaves : state_after (script_state state d) script ≡ after

-- What passed output, the clock and the nonces: the bytes that were written, and the moments and nonces that were drawn.
pub record StagePassed (old new : StageTrace) : Type 0 where
  pub written : List ℕ
  pub moments : List ℤ
  pub nonces : List ℕ
  pub output : Takes old.taken written new.taken
  pub clock : DrawsAll old.moments moments new.moments
  pub numbers : DrawsAll old.nonces nonces new.nonces

-- The lines were processed: what they write and draw passed.
pub record ProcessesLines {F : Type 0} (state : State) (script : List (List ℕ)) (after : State) (old new : StageTrace)
    (pool pool_after : PoolTrace F) : Type 0 where
  pub passed : StagePassed old new
  pub fetched : RoundsPassed pool pool_after
  pub processes : Processes pool.held state script (drawn passed.moments passed.nonces fetched.rounds) passed.written
      after

-- Lines were begun: what they draw was drawn, and output took some prefix of what they write. Each round is one that the
-- documents and the state before it allow. The state is as before, or the one that they leave.
pub record BeginsLines {F : Type 0} (state : State) (script : List (List ℕ)) (after : State) (old new : StageTrace)
    (pool pool_after : PoolTrace F) : Type 0 where
  pub passed : StagePassed old new
  pub fetched : RoundsPassed pool pool_after
  pub are_drawn : AreDrawn script (drawn passed.moments passed.nonces fetched.rounds)
  pub allowed : AllowsRounds pool.held (script_state state (drawn passed.moments passed.nonces fetched.rounds)) script
  pub begins : Begins passed.written
      (written_for (script_state state (drawn passed.moments passed.nonces fetched.rounds)) script)
  pub leaves : (after ≡ state)
      ⊎ (after ≡ state_after (script_state state (drawn passed.moments passed.nonces fetched.rounds)) script)

-- Processing the lines stopped before they were begun, or after.
abbrev pub StopsLines : {F : Type 0} → State → List (List ℕ) → State → StageTrace → StageTrace → PoolTrace F → PoolTrace F
    → Type 0
StopsLines state script after old new pool pool_after =
    BeginsLines state [] after old new pool pool_after ⊎ BeginsLines state script after old new pool pool_after

-- the line, unless it is empty
abbrev pub unless_empty : List ℕ → List (List ℕ)
unless_empty line = filter is_nonempty (line ∷ [])

-- One line was taken from input and processed.
pub record TakesTurn {F : Type 0} (state after : State) (before : ReaderState) (reading : ReaderState)
    (old new : DeviceTrace) (pool pool_after : PoolTrace F) : Type 0 where
  pub line : List ℕ
  pub takes : TakesLine before old.to_come line reading new.to_come
  pub processes : ProcessesLines state (unless_empty line) after (stage_trace_of old) (stage_trace_of new) pool pool_after

-- No line is left, and nothing else passed.
pub record EndsTurn {F : Type 0} (state after : State) (before : ReaderState) (reading : ReaderState)
    (old new : DeviceTrace) (pool pool_after : PoolTrace F) : Type 0 where
  pub finds : FindsEnd before old.to_come reading new.to_come
  pub same_state : after ≡ state
  pub same_trace : stage_trace_of new ≡ stage_trace_of old
  pub same_pool : pool_after ≡ pool

-- Whatever comes after the front, its lines come after those of the front.
abbrev pub EndsAll : List ℕ → Type 0
EndsAll front = (more : List ℕ) → lines (front ++ more) ≡ lines front ++ lines more

-- The turn stopped. Input gave some bytes. Of all bytes in the buffer the first ones are those of the lines that were
-- begun, at most `limit` lines, with their ends.
pub record StopsTurn {F : Type 0} (limit : ℕ) (state after : State) (before : ReaderState) (reading : ReaderState)
    (old new : DeviceTrace) (pool pool_after : PoolTrace F) : Type 0 where
  pub bytes : List ℕ
  pub gives : Gives old.to_come bytes new.to_come
  pub counts : reading.received ≡ before.received + length bytes
  pub front : List ℕ
  pub remaining : List ℕ
  pub splits : before.buffered ++ bytes ≡ front ++ remaining
  pub ended : EndsAll front ⊎ ((remaining ≡ []) × IsAtEnd new.to_come)
  pub few : length (script_lines front) ≤ limit
  pub begun : BeginsLines state (script_lines front) after (stage_trace_of old) (stage_trace_of new) pool pool_after

-- The turn stopped where input failed: no line was begun, and none was complete.
pub record FailsTurn {F : Type 0} (state after : State) (before : ReaderState) (reading : ReaderState)
    (old new : DeviceTrace) (pool pool_after : PoolTrace F) : Type 0 where
  pub stops : StopsTurn 0 state after before reading old new pool pool_after
  pub unended : HasNoFeed stops.remaining

-- The run so far on an observable input: the front of the whole that was processed, the bytes in the buffer and the
-- bytes to come.
pub record Running {F : Type 0} (first : State) (whole : List ℕ) (old new : DeviceTrace) (pool pool_after : PoolTrace F)
    (state : State) (reading : ReaderState) : Type 0 where
  pub front : List ℕ
  pub rest : List ℕ
  pub passed : StagePassed (stage_trace_of old) (stage_trace_of new)
  pub fetched : RoundsPassed pool pool_after
  pub input : new.to_come ≡ Some rest
  pub splits : whole ≡ front ++ (reading.buffered ++ rest)
  pub received : reading.received + length rest ≡ length whole
  pub ended : EndsAll front ⊎ (reading.buffered ++ rest ≡ [])
  pub processes : Processes pool.held first (script_lines front) (drawn passed.moments passed.nonces fetched.rounds)
      passed.written state

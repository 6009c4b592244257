-- What passes the devices when a script is played.
use Rattle.std.specs.Prelude.{◌≡◌, ◌⊎◌, ℕ, ℤ, ◌+◌, ◌^◌, ◌<◌, ◌≤◌, List, [], ◌++◌, filter, length, take, Option, Some}
use Rattle.std.specs.Prelude.{IsSome}
use Rattle.std.specs.List.{All}
use Rattle.portal_base.specs.Outside.{Holdings, Takes}
use Rattle.portal_links.specs.Desk.{DrawsAll}
use Rattle.portal_lines.specs.PartialLines.{HasNoFeed}
use Rattle.portal_serve.specs.Script.{script_lines}
use Rattle.portal_state.specs.State.{State}
use Rattle.portal_serve.specs.Rounds.{PoolTrace, RoundDone, RoundsPassed}
use Rattle.portal_serve.specs.Transcript.{AllowsRounds, AreDrawn, Drawn, drawn, is_round_line, script_state}
use Rattle.portal_serve.specs.Transcript.{state_after, written_for}

-- the limit of bytes that input may give
abbrev pub input_limit : ℕ
input_limit = 2 ^ 40

-- the part is a prefix of the whole
abbrev pub Begins : List ℕ → List ℕ → Type 0
Begins part whole = (rest : List ℕ) × (part ++ rest ≡ whole)

-- what is written for the lines of a script from a state, with what they draw
abbrev pub transcript_of : State → List ℕ → Drawn → List ℕ
transcript_of state script d = written_for (script_state state d) (script_lines script)

-- the round went to its end
abbrev pub IsWhole : RoundDone → Type 0
IsWhole d = IsSome d.report

-- the rounds that these first lines of a script draw
abbrev pub rounds_of : List (List ℕ) → List RoundDone → List RoundDone
rounds_of first rounds = take (length (filter is_round_line first)) rounds

-- The trace of the devices before or after a call: the bytes that input has still to give, those that output took, the
-- moments and the nonces that were given.
pub record DeviceTrace : Type 0 where
  pub to_come : Option (List ℕ)
  pub taken : Option (List ℕ)
  pub moments : Option (List ℤ)
  pub nonces : Option (List ℕ)

-- the trace of output, the clock and the nonces
pub record StageTrace : Type 0 where
  pub taken : Option (List ℕ)
  pub moments : Option (List ℤ)
  pub nonces : Option (List ℕ)

abbrev pub stage_trace : Option (List ℕ) → Option (List ℤ) → Option (List ℕ) → StageTrace
stage_trace taken moments nonces = record { taken = taken; moments = moments; nonces = nonces }

abbrev pub device_trace : Option (List ℕ) → Option (List ℕ) → Option (List ℤ) → Option (List ℕ) → DeviceTrace
device_trace to_come taken moments nonces = record {
  to_come = to_come;
  taken = taken;
  moments = moments;
  nonces =
      nonces;
}

abbrev pub stage_trace_of : DeviceTrace → StageTrace
stage_trace_of d = stage_trace d.taken d.moments d.nonces

-- the same with the bytes that input has still to give
abbrev pub with_input : Option (List ℕ) → StageTrace → DeviceTrace
with_input to_come o = device_trace to_come o.taken o.moments o.nonces

-- What passed the devices in a run on an observable input: the bytes that were read of the whole and those that were
-- left, the bytes written, and the moments and nonces drawn.
pub record Passed (whole : List ℕ) (old new : DeviceTrace) : Type 0 where
  pub read : List ℕ
  pub rest : List ℕ
  pub written : List ℕ
  pub moments : List ℤ
  pub nonces : List ℕ
  pub input : new.to_come ≡ Some rest
  pub splits : whole ≡ read ++ rest
  pub output : Takes old.taken written new.taken
  pub clock : DrawsAll old.moments moments new.moments
  pub numbers : DrawsAll old.nonces nonces new.nonces

-- Input was read to its end, of at most 2^40 bytes. As many moments, nonces and rounds were drawn as the script's lines
-- draw. Each round is one that the documents and the state before it allow, and went to its end. Output took the
-- transcript of the script, and this is the state in which it ends.
pub record PlaysAll {F : Type 0} (state : State) (whole : List ℕ) (after : State) (old new : DeviceTrace)
    (pool pool_after : PoolTrace F) : Type 0 where
  pub passed : Passed whole old new
  pub fetched : RoundsPassed pool pool_after
  pub at_end : passed.rest ≡ []
  pub small : length whole ≤ input_limit
  pub are_drawn : AreDrawn (script_lines whole) (drawn passed.moments passed.nonces fetched.rounds)
  pub allowed : AllowsRounds pool.held (script_state state (drawn passed.moments passed.nonces fetched.rounds))
      (script_lines whole)
  pub ended : All IsWhole fetched.rounds
  pub transcript : passed.written ≡ transcript_of state whole (drawn passed.moments passed.nonces fetched.rounds)
  pub leaves : after
      ≡ state_after (script_state state (drawn passed.moments passed.nonces fetched.rounds)) (script_lines whole)

-- Processing the lines stopped. They were processed but for the last ones, at most `limit`, which were begun. As much was
-- drawn as all of them draw. Each round is one that the documents and the state before it allow, and those of the
-- processed lines went to their end. What was written is what the processed ones write, and some prefix of what the begun
-- ones write. The state is the one after the processed ones, or after all.
pub record Stops (limit : ℕ) (held : Holdings) (state : State) (script : List (List ℕ)) (d : Drawn) (written : List ℕ)
    (after : State) : Type 0 where
  pub processed : List (List ℕ)
  pub begun : List (List ℕ)
  pub splits : script ≡ processed ++ begun
  pub few : length begun ≤ limit
  pub are_drawn : AreDrawn script d
  pub allowed : AllowsRounds held (script_state state d) script
  pub ended : All IsWhole (rounds_of processed d.rounds)
  pub holds : Begins (written_for (script_state state d) processed) written
  pub begins : Begins written (written_for (script_state state d) script)
  pub leaves : (after ≡ state_after (script_state state d) processed) ⊎ (after ≡ state_after (script_state state d) script)

-- The run stopped at a position in the script. The lines before it were processed, but for at most `limit` of them that
-- were begun. Input may have been read further.
pub record PlaysPart {F : Type 0} (limit : ℕ) (state : State) (whole : List ℕ) (after : State) (old new : DeviceTrace)
    (pool pool_after : PoolTrace F) : Type 0 where
  pub passed : Passed whole old new
  pub fetched : RoundsPassed pool pool_after
  -- the bytes before the position, and those that were read after it
  pub front : List ℕ
  pub remaining : List ℕ
  pub splits : passed.read ≡ front ++ remaining
  pub first_lines : script_lines whole ≡ script_lines front ++ script_lines (remaining ++ passed.rest)
  pub stops : Stops limit pool.held state (script_lines front) (drawn passed.moments passed.nonces fetched.rounds)
      passed.written after

-- The run stopped where input failed, and each complete line was processed: none of the bytes that were read after the
-- position is a line feed.
pub record PlaysRead {F : Type 0} (state : State) (whole : List ℕ) (after : State) (old new : DeviceTrace)
    (pool pool_after : PoolTrace F) : Type 0 where
  pub part : PlaysPart 0 state whole after old new pool pool_after
  pub unended : HasNoFeed part.remaining

-- Input gave more than 2^40 bytes of the whole: what it still has to give is that much shorter.
abbrev pub GaveTooMuch : List ℕ → Option (List ℕ) → Type 0
GaveTooMuch whole left = (rest : List ℕ) × (left ≡ Some rest) × (input_limit + length rest < length whole)

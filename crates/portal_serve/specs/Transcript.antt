-- The transcript of a script: what is written for its lines, processed in order from a state.
use Rattle.std.specs.Prelude.{◌≡◌, ⊤, ℕ, ℤ, List, [], ◌∷◌, ◌++◌, Bool, true, false, length, filter, Option, Some, None}
use Rattle.std.specs.Prelude.{Result, Ok, Err, decimal}
use Rattle.action_api.specs.Reply.{reply_text}
use Rattle.action_api.specs.Request.{request_for}
use Rattle.action_api.specs.declared.early.Early.{Early}
use Rattle.portal_serve.specs.RequestOutcome.{RequestOutcome, outcome_of_request}
use Rattle.portal_base.specs.Outside.{Holdings}
use Rattle.portal_serve.specs.Rounds.{IsRoundOf, RoundDone, round_line, with_harvest}
use Rattle.portal_serve.specs.Script.{ScriptCall, ScriptLine, Call, Round, parsed_line}
use Rattle.portal_state.specs.Harvest.{harvest_of}
use Rattle.portal_state.specs.State.{State}
use Rattle.portal_events.specs.declared.event.Reply.{Reply}

-- the line asks for a call
abbrev pub asks_for_call : Result ScriptLine Early → Bool
asks_for_call (Ok (Call call)) = true
asks_for_call (Ok (Round workers)) = false
asks_for_call (Err early) = false

-- the line asks for a round
abbrev pub asks_for_round : Result ScriptLine Early → Bool
asks_for_round (Ok (Call call)) = false
asks_for_round (Ok (Round workers)) = true
asks_for_round (Err early) = false

abbrev pub is_call_line : List ℕ → Bool
is_call_line line = asks_for_call (parsed_line line)

abbrev pub is_round_line : List ℕ → Bool
is_round_line line = asks_for_round (parsed_line line)

-- what the lines of a script draw: moments and nonces, and what rounds did
pub record Drawn : Type 0 where
  pub moments : List ℤ
  pub nonces : List ℕ
  pub rounds : List RoundDone

abbrev pub drawn : List ℤ → List ℕ → List RoundDone → Drawn
drawn moments nonces rounds = record { moments = moments; nonces = nonces; rounds = rounds }

-- A line that asks for a call draws one moment and one nonce, whatever its reply, also where no action has the name. A line
-- that asks for a round draws what the round did. No other line draws. As many were drawn as the lines of the script draw.
pub record AreDrawn (script : List (List ℕ)) (d : Drawn) : Type 0 where
  pub moments : length d.moments ≡ length (filter is_call_line script)
  pub nonces : length d.nonces ≡ length (filter is_call_line script)
  pub rounds : length d.rounds ≡ length (filter is_round_line script)

-- The state of playing a script: the portal's state, and what is still to be drawn.
pub record ScriptState : Type 0 where
  pub state : State
  pub to_come : Drawn

abbrev pub script_state : State → Drawn → ScriptState
script_state state d = record { state = state; to_come = d }

-- the state of playing after one line, and what is written for the line
pub record Turn : Type 0 where
  pub after : ScriptState
  pub written : List ℕ

-- a line of the transcript: the status, a space, the text, a line feed
abbrev pub line_of : ℕ × List ℕ → List ℕ
line_of text = decimal text.0 ++ 32 ∷ (text.1 ++ 10 ∷ [])

-- the line for a reply, or an early fault, to a call of the action of that name
abbrev pub reply_line : Option (List ℕ) → Result Reply Early → List ℕ
reply_line action reply = line_of (reply_text action reply)

-- the line for a line that asks for nothing, with no help
abbrev pub early_line : Early → List ℕ
early_line early = reply_line None (Err early)

-- the outcome of a call of this size, with the moment and the nonce that were drawn for it
abbrev pub outcome_of_call : State → ScriptCall → ℕ → ℤ → ℕ → RequestOutcome
outcome_of_call state call size moment nonce =
    outcome_of_request state call.caller size moment nonce (request_for call.action call.body)

abbrev pub turn_of_reply : ScriptCall → RequestOutcome → Drawn → Turn
turn_of_reply call outcome left = record {
  after = script_state outcome.state left;
  written = reply_line (Some call.action) outcome.reply;
}

-- the state of playing stays, and nothing is written
abbrev pub no_turn : State → Drawn → Turn
no_turn state left = record { after = script_state state left; written = [] }

-- A call takes the next moment and the next nonce. Without any left nothing is written, which doesn't come where as
-- many were drawn as the script has lines that draw.
abbrev pub turn_of_call : State → ScriptCall → ℕ → List ℤ → List ℕ → List RoundDone → Turn
turn_of_call state call size [] nonces rounds = no_turn state (drawn [] nonces rounds)
turn_of_call state call size (m ∷ moments) [] rounds = no_turn state (drawn (m ∷ moments) [] rounds)
turn_of_call state call size (m ∷ moments) (n ∷ nonces) rounds =
    turn_of_reply call (outcome_of_call state call size m n) (drawn moments nonces rounds)

-- A round line takes what the next round did: the sources and datasets are those that the round left, and its line is
-- written. It takes no moment and no nonce.
abbrev pub turn_of_round : State → List ℤ → List ℕ → List RoundDone → Turn
turn_of_round state moments nonces [] = no_turn state (drawn moments nonces [])
turn_of_round state moments nonces (d ∷ rounds) =
    record { after = script_state (with_harvest d.left state) (drawn moments nonces rounds); written = round_line d }

-- a line that asks for nothing draws nothing and changes nothing
abbrev pub turn_of : ScriptState → Result ScriptLine Early → ℕ → Turn
turn_of s (Err early) size = record { after = s; written = early_line early }
turn_of s (Ok (Call call)) size = turn_of_call s.state call size s.to_come.moments s.to_come.nonces s.to_come.rounds
turn_of s (Ok (Round workers)) size = turn_of_round s.state s.to_come.moments s.to_come.nonces s.to_come.rounds

abbrev pub turn : ScriptState → List ℕ → Turn
turn s line = turn_of s (parsed_line line) (length line)

-- the state of playing after these lines
abbrev pub script_state_after : ScriptState → List (List ℕ) → ScriptState
script_state_after script_state [] = script_state
script_state_after script_state (line ∷ lines) = script_state_after (turn script_state line).after lines

-- what is written for these lines
abbrev pub written_for : ScriptState → List (List ℕ) → List ℕ
written_for script_state [] = []
written_for script_state (line ∷ lines) = (turn script_state line).written ++ written_for (turn script_state line).after
    lines

-- the portal's state after these lines
abbrev pub state_after : ScriptState → List (List ℕ) → State
state_after script_state lines = (script_state_after script_state lines).state

-- ---- the rounds of a script

-- The round that a line draws is one that the documents and the state before the line allow.
abbrev pub AllowsRound : Holdings → State → Result ScriptLine Early → List RoundDone → Type 0
AllowsRound held state (Ok (Round workers)) (d ∷ rounds) = IsRoundOf held (harvest_of state) d
AllowsRound held state (Ok (Round workers)) [] = ⊤
AllowsRound held state (Ok (Call call)) rounds = ⊤
AllowsRound held state (Err early) rounds = ⊤

-- So is each round that these lines draw.
abbrev pub AllowsRounds : Holdings → ScriptState → List (List ℕ) → Type 0
AllowsRounds held s [] = ⊤
AllowsRounds held s (line ∷ lines) =
    AllowsRound held s.state (parsed_line line) s.to_come.rounds × AllowsRounds held (turn s line).after lines

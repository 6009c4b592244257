-- A script: its lines, and the call or the round that a line asks for.
use Rattle.std.specs.Prelude.{ℕ, ℤ, pos, negsuc, List, [], Bool, ◌&&◌, nat_le, nat_lt, length, filter, codes, Option, Some}
use Rattle.std.specs.Prelude.{None, Result, Ok, Err, is_some, option_map, option_and_then, ok_or, if◌then◌else◌}
use Rattle.std.specs.Option.{option_map_or}
use Rattle.std.specs.Result.{result_map_both}
use Rattle.std.specs.Str.Lines.{lines}
use Rattle.portal_base.specs.Json.{json_reading, member_of}
use Rattle.portal_base.specs.Kinds.{text_in}
use Rattle.portal_base.specs.declared.caller.Caller.{Caller}
use Rattle.portal_base.specs.declared.caller.Caller.TheVariants.{Anonymous, Named}
use Rattle.portal_base.specs.declared.json_value.Json.{Json, Map, out-Json}
use Rattle.portal_base.specs.declared.json_value.Json.TheOpen.{Json-F}
use Rattle.action_api.specs.Request.{early_of, if_dictionary}
use Rattle.action_api.specs.declared.early.Early.{Early}
use Rattle.action_api.specs.declared.early.Early.TheVariants.{TooLong, NotJson}

-- The most bytes of a script's line without its end: 256 KiB, as many as those of a call's body.
abbrev pub longest_line : ℕ
longest_line = 262144

abbrev pub is_nonempty : List ℕ → Bool
is_nonempty line = nat_lt 0 (length line)

-- The lines of a script: those of the text (a line feed ends a line, a carriage return before it is dropped, the
-- last may lack its line feed), but for the empty ones.
abbrev pub script_lines : List ℕ → List (List ℕ)
script_lines bytes = filter is_nonempty (lines bytes)

-- The call that a line asks for, before its user and its action are looked up.
pub record ScriptCall : Type 0 where
  pub caller : Caller
  pub action : List ℕ
  pub body : Json

-- What a line asks for: a call, or a round of harvests by this number of workers.
pub data ScriptLine : Type 0 where
  Call : ScriptCall → ScriptLine
  Round : ℕ → ScriptLine

-- ---- the members of a line
--
-- A line is a JSON object (RFC 8259) with these members. Other members say nothing.

-- `action`, the action's name: a text
abbrev pub action_in : Json → Option (List ℕ)
action_in json = option_and_then text_in (member_of (codes "action") json)

-- `as`, the user who calls: a text. Without it the caller is anonymous.
abbrev pub caller_in : Json → Option Caller
caller_in json =
    option_map_or (λ user. option_map Named (text_in user)) (member_of (codes "as") json) (Some Anonymous)

-- `body`, the body of the call: an object. Without it the body is empty.
abbrev pub body_in : Json → Result Json Early
body_in json = option_map_or if_dictionary (member_of (codes "body") json) (Ok (Map []))

-- the most workers of a round
abbrev pub most_workers : ℕ
most_workers = 16

abbrev pub workers_counted : ℤ → Option ℕ
workers_counted (pos n) = if nat_le 1 n && nat_le n most_workers then Some n else None
workers_counted (negsuc n) = None

abbrev pub workers_of : Json-F Json → Option ℕ
workers_of (Json-F.Whole z) = workers_counted z
workers_of other = None

abbrev pub workers_of_value : Json → Option ℕ
workers_of_value value = workers_of (out-Json value)

-- `round`, the number of workers of a round: a whole number from 1 to 16
abbrev pub workers_in : Json → Option ℕ
workers_in json = option_and_then workers_of_value (member_of (codes "round") json)

-- ---- what a line asks for

-- the first early fault, or the value of all steps
infixl 10 ◌>>=◌
abbrev pub ◌>>=◌ : {A B : Type 0} → Result A Early → (A → Result B Early) → Result B Early
Ok x >>= next = next x
Err early >>= next = Err early

-- the call of an object with these members
abbrev pub call_of_json : Json → Result ScriptCall Early
call_of_json json = do
  action ← ok_or (action_in json) NotJson
  caller ← ok_or (caller_in json) NotJson
  body ← body_in json
  Ok (record { caller = caller; action = action; body = body })

abbrev pub round_of_json : Json → Result ScriptLine Early
round_of_json json = do
  workers ← ok_or (workers_in json) NotJson
  Ok (Round workers)

abbrev pub call_line_of_json : Json → Result ScriptLine Early
call_line_of_json json = do
  call ← call_of_json json
  Ok (Call call)

-- what an object with these members asks for: a call if it has `action`, and otherwise a round
abbrev pub line_of_json : Json → Result ScriptLine Early
line_of_json json =
    if is_some (member_of (codes "action") json) then call_line_of_json json else round_of_json json

-- the line, where it isn't too long
abbrev pub if_short : List ℕ → Result (List ℕ) Early
if_short line = if nat_lt longest_line (length line) then Err TooLong else Ok line

-- the JSON value of a line, where it is JSON and each of its numbers is an `i64` or a `u64`
abbrev pub json_of_line : List ℕ → Result Json Early
json_of_line line = result_map_both (λ json. json) early_of (json_reading line)

-- What a line asks for, or else its first fault: it is too long, it is no JSON, it is JSON of another form.
abbrev pub parsed_line : List ℕ → Result ScriptLine Early
parsed_line line = do
  short ← if_short line
  json ← json_of_line short
  line_of_json json

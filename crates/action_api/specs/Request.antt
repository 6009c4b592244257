-- The request of an action's name and a body, or why there is none. The length of the body is tried first, then
-- whether it is JSON (RFC 8259) and a dictionary, then whether an action has the name.
use Rattle.std.specs.Prelude.{ℕ, List, nat_lt, length, Option, Some, None, is_some, Result, Ok, Err, if◌then◌else◌}
use Rattle.portal_base.specs.Json.{json_reading}
use Rattle.portal_base.specs.Kinds.{dictionary_in}
use Rattle.portal_base.specs.declared.json_value.Json.{Json}
use Rattle.portal_base.specs.declared.json_value.JsonFault.{JsonFault}
use Rattle.portal_base.specs.declared.json_value.JsonFault.TheVariants as fault
use Rattle.portal_calls.specs.Action.{action_named}
use Rattle.portal_calls.specs.declared.action.Action.{Action}
use Rattle.portal_calls.specs.declared.call.Request.{Request}
use Rattle.portal_calls.specs.Body.{longest_body}
use Rattle.action_api.specs.declared.early.Early.{Early}
use Rattle.action_api.specs.declared.early.Early.TheVariants.{TooLong, NotJson, Fraction, UnknownAction, OutOfMemory}

-- the early fault for bytes that are no JSON value
abbrev pub early_of : JsonFault → Early
early_of fault.NotJson = NotJson
early_of fault.Fraction = Fraction
early_of fault.OutOfMemory = OutOfMemory

-- the body, where it is a dictionary
abbrev pub if_dictionary : Json → Result Json Early
if_dictionary json = if is_some (dictionary_in json) then Ok json else Err NotJson

abbrev pub body_of : Result Json JsonFault → Result Json Early
body_of (Ok json) = if_dictionary json
body_of (Err why) = Err (early_of why)

-- the body that the bytes are read as, or its early fault
abbrev pub body_reading : List ℕ → Result Json Early
body_reading bytes = if nat_lt longest_body (length bytes) then Err TooLong else body_of (json_reading bytes)

abbrev pub request_for_action : List ℕ → Json → Option Action → Result Request Early
request_for_action name body None = Err (UnknownAction name)
request_for_action name body (Some action) = Ok (record { action = action; body = body })

-- the request for the action of that name, with a body
abbrev pub request_for : List ℕ → Json → Result Request Early
request_for name body = request_for_action name body (action_named name)

abbrev pub request_for_body : List ℕ → Result Json Early → Result Request Early
request_for_body name (Ok body) = request_for name body
request_for_body name (Err early) = Err early

-- The request for the action of that name, with a body of these bytes.
abbrev pub request_of : List ℕ → List ℕ → Result Request Early
request_of name bytes = request_for_body name (body_reading bytes)

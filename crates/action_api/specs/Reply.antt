-- The rendering of a reply, or of an early fault: its status and its JSON (CKAN 2.10, "Making an API request").
use Rattle.std.specs.Prelude.{ℕ, Bool, List, [], ◌∷◌, ◌++◌, true, false, codes, Option, Some, None, option_and_then, Result}
use Rattle.std.specs.Prelude.{Ok, Err}
use Rattle.portal_base.specs.Json.{json_text}
use Rattle.portal_base.specs.declared.json_value.Json.{Json, Map, Null, Text, Truth}
use Rattle.portal_calls.specs.Action.{action_name, action_named}
use Rattle.portal_calls.specs.declared.action.Action.{Action}
use Rattle.portal_events.specs.declared.event.Refusal.{Refusal}
use Rattle.portal_events.specs.declared.event.Refusal.TheVariants.{NotFound, NotAuthorized, Validation, NameInUse}
use Rattle.portal_events.specs.declared.event.Refusal.TheVariants.{KeeperFault, OutOfMemory}
use Rattle.portal_events.specs.declared.event.Reply.{Reply}
use Rattle.portal_events.specs.declared.event.Reply.TheVariants.{Accepted, Shown, Refused, Harvest}
use Rattle.portal_events.specs.Reply.{is_of_call}
use Rattle.action_api.specs.Error.{refusal_dictionary, early_dictionary}
use Rattle.action_api.specs.declared.early.Early.{Early}
use Rattle.action_api.specs.declared.early.Early.TheVariants.{TooLong, NotJson, Fraction, UnknownAction}
use Rattle.action_api.specs.declared.early.Early.TheVariants.{OutOfMemory as no_memory}

-- The reply is one to a call, or there is none for an early fault. Only these have texts. What follows says something of
-- the answer to a step of a harvest too, only so that it says something of every reply.
abbrev pub has_text : Result Reply Early → Bool
has_text (Ok reply) = is_of_call reply
has_text (Err early) = true

-- ---- help

-- the action of that name, where there is a name and an action has it
abbrev pub known_action : Option (List ℕ) → Option Action
known_action action = option_and_then action_named action

abbrev pub help_of_action : Option Action → List ℕ
help_of_action None = []
help_of_action (Some action) = codes "/api/3/action/help_show?name=" ++ action_name action

-- The location of the help on the action of that name. It is the empty text where no action has the name.
abbrev pub help_of : Option (List ℕ) → List ℕ
help_of action = help_of_action (known_action action)

-- each refusal but out of memory has help
abbrev pub refusal_help : Option (List ℕ) → Refusal → List ℕ
refusal_help action (NotFound kind) = help_of action
refusal_help action (NotAuthorized right) = help_of action
refusal_help action (Validation faults) = help_of action
refusal_help action (NameInUse key) = help_of action
refusal_help action KeeperFault = help_of action
refusal_help action OutOfMemory = []

-- of the early faults, those of a body that can't be read have help
abbrev pub early_help : Option (List ℕ) → Early → List ℕ
early_help action TooLong = []
early_help action NotJson = help_of action
early_help action Fraction = help_of action
early_help action (UnknownAction name) = []
early_help action no_memory = []

abbrev pub reply_help : Option (List ℕ) → Result Reply Early → List ℕ
reply_help action (Ok (Accepted value)) = help_of action
reply_help action (Ok (Shown value)) = help_of action
reply_help action (Ok (Refused refusal)) = refusal_help action refusal
reply_help action (Ok (Harvest answer)) = help_of action
reply_help action (Err early) = early_help action early

-- ---- statuses (RFC 9110, section 15; 507 of RFC 4918)

abbrev pub refusal_status : Refusal → ℕ
refusal_status (NotFound kind) = 404
refusal_status (NotAuthorized right) = 403
refusal_status (Validation faults) = 409
refusal_status (NameInUse key) = 409
refusal_status KeeperFault = 503
refusal_status OutOfMemory = 507

abbrev pub early_status : Early → ℕ
early_status TooLong = 413
early_status NotJson = 400
early_status Fraction = 400
early_status (UnknownAction name) = 400
early_status no_memory = 507

abbrev pub reply_status : Result Reply Early → ℕ
reply_status (Ok (Accepted value)) = 200
reply_status (Ok (Shown value)) = 200
reply_status (Ok (Refused refusal)) = refusal_status refusal
reply_status (Ok (Harvest answer)) = 200
reply_status (Err early) = early_status early

-- ---- dictionaries

abbrev pub success_dictionary : List ℕ → Json → Json
success_dictionary help value =
    Map ((codes "help", Text help) ∷ (codes "result", value) ∷ (codes "success", Truth true) ∷ [])

abbrev pub failure_dictionary : List ℕ → Json → Json
failure_dictionary help error =
    Map ((codes "error", error) ∷ (codes "help", Text help) ∷ (codes "success", Truth false) ∷ [])

-- the JSON of a reply with this text at `help`
abbrev pub json_with_help : List ℕ → Result Reply Early → Json
json_with_help help (Ok (Accepted value)) = success_dictionary help value
json_with_help help (Ok (Shown value)) = success_dictionary help value
json_with_help help (Ok (Refused refusal)) = failure_dictionary help (refusal_dictionary refusal)
json_with_help help (Ok (Harvest answer)) = success_dictionary help Null
json_with_help help (Err early) = failure_dictionary help (early_dictionary early)

abbrev pub reply_json : Option (List ℕ) → Result Reply Early → Json
reply_json action reply = json_with_help (reply_help action reply) reply

-- The status of a reply, or of an early fault, to a call of the action of that name, and its JSON as text.
abbrev pub reply_text : Option (List ℕ) → Result Reply Early → ℕ × List ℕ
reply_text action reply = (reply_status reply, json_text (reply_json action reply))

-- Replies, their refusals, which replies may depend on what a caller doesn't see, and which tell of a change.
use Rattle.std.specs.Prelude.{Bool, true, false}
use Rattle.harvest_sources.specs.Steps.{is_accepted}
use Rattle.portal_calls.specs.declared.answer.Denial.{Denial}
use Rattle.portal_calls.specs.declared.answer.Denial.TheVariants as denial
use Rattle.portal_events.specs.declared.event.Refusal.{Refusal}
use Rattle.portal_events.specs.declared.event.Refusal.TheVariants.{NotFound, NotAuthorized, Validation, NameInUse}
use Rattle.portal_events.specs.declared.event.Refusal.TheVariants.{KeeperFault, OutOfMemory}
use Rattle.portal_events.specs.declared.event.Reply.{Reply}
use Rattle.portal_events.specs.declared.event.Reply.TheVariants.{Accepted, Shown, Refused, Harvest}

-- a denial as the refusal of a reply
abbrev pub refusal_of : Denial → Refusal
refusal_of (denial.NotFound kind) = NotFound kind
refusal_of (denial.NotAuthorized right) = NotAuthorized right
refusal_of (denial.Validation faults) = Validation faults

-- the refusal is that the name or the id is in use
abbrev pub is_name_in_use_refusal : Refusal → Bool
is_name_in_use_refusal (NotFound kind) = false
is_name_in_use_refusal (NotAuthorized right) = false
is_name_in_use_refusal (Validation faults) = false
is_name_in_use_refusal (NameInUse key) = true
is_name_in_use_refusal KeeperFault = false
is_name_in_use_refusal OutOfMemory = false

-- The reply is that a name or an id is in use. It is the only one that may depend on what its caller doesn't see.
abbrev pub is_name_in_use : Reply → Bool
is_name_in_use (Accepted json) = false
is_name_in_use (Shown json) = false
is_name_in_use (Refused refusal) = is_name_in_use_refusal refusal
is_name_in_use (Harvest answer) = false

-- the reply is that a change was made, or that a step of a harvest was accepted
abbrev pub is_change : Reply → Bool
is_change (Accepted json) = true
is_change (Shown json) = false
is_change (Refused refusal) = false
is_change (Harvest answer) = is_accepted answer

-- the reply is one to a call, and none to a step of a harvest
abbrev pub is_of_call : Reply → Bool
is_of_call (Accepted json) = true
is_of_call (Shown json) = true
is_of_call (Refused refusal) = true
is_of_call (Harvest answer) = false

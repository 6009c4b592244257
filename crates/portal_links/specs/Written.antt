-- What is read off a link, and what is written to it: a reply, or the text of a fault.
use Rattle.std.specs.Prelude.{◌≡◌, ℕ, Bool, List, [], codes, Option, Some, None, Ok, Err}
use Rattle.action_api.specs.Error.{bad_request, error_dictionary}
use Rattle.action_api.specs.Query.{is_reading_action}
use Rattle.action_api.specs.Reply.{failure_dictionary, reply_text}
use Rattle.action_api.specs.declared.early.Early.TheVariants as early
use Rattle.http_front.specs.Response.{response_bytes}
use Rattle.http_front.specs.declared.fault.FrontFault.{FrontFault}
use Rattle.http_front.specs.declared.fault.FrontFault.TheVariants.{BadHead, NoLength, TooLong, NoRoute, Method}
use Rattle.http_front.specs.declared.fault.FrontFault.TheVariants.{EndedEarly, LinkFault, OutOfMemory}
use Rattle.http_front.specs.declared.incoming.Incoming.{Incoming}
use Rattle.portal_base.specs.Json.{json_text}
use Rattle.portal_base.specs.Outside.{Rose, Takes, TakesPrefix}
use Rattle.portal_base.specs.declared.json_value.Json.{Json}
use Rattle.portal_events.specs.declared.event.Refusal.TheVariants.{KeeperFault}
use Rattle.portal_events.specs.declared.event.Reply.TheVariants.{Refused}
use Rattle.portal_links.specs.Asked.{name_in}
use Rattle.portal_links.specs.declared.written.FixedReply.{FixedReply}
use Rattle.portal_links.specs.declared.written.Served.{Served}
use Rattle.portal_links.specs.declared.written.Served.TheVariants as served

-- ---- texts

-- the status and the text of a reply that is a constant of the program
abbrev pub fixed_text : FixedReply → ℕ × List ℕ
fixed_text r = (r.status, r.text.now)

-- the text of a failure with this error and with no help, since no action is known
abbrev pub error_text : Json → List ℕ
error_text error = json_text (failure_dictionary [] error)

-- the status and the text of the reply where memory runs out
abbrev pub memory_text : ℕ × List ℕ
memory_text = reply_text None (Err early.OutOfMemory)

-- the status and the text of the reply that the store failed to keep the change of the request
abbrev pub store_text : Incoming → ℕ × List ℕ
store_text incoming = reply_text (Some (name_in incoming)) (Ok (Refused KeeperFault))

-- the status and the text of a fault's reply, if it has one
abbrev pub fault_text : FrontFault → Option (ℕ × List ℕ)
fault_text BadHead = Some (400, error_text (bad_request (codes "Bad request head")))
fault_text NoLength = Some (411, error_text (bad_request (codes "Length required")))
fault_text TooLong = Some (reply_text None (Err early.TooLong))
fault_text NoRoute = Some (404, error_text (error_dictionary (codes "Not Found Error") (codes "No such page")))
fault_text Method = Some (405, error_text (bad_request (codes "Method not allowed")))
fault_text OutOfMemory = Some memory_text
fault_text EndedEarly = None
fault_text LinkFault = None

-- ---- the link

-- the trace of a link: the bytes still to come, the bytes taken, and the count of faults
pub record LinkTrace : Type 0 where
  pub to_come : Option (List ℕ)
  pub taken : Option (List ℕ)
  pub faults : ℕ

abbrev pub link_trace : Option (List ℕ) → Option (List ℕ) → ℕ → LinkTrace
link_trace to_come taken faults = record { to_come = to_come; taken = taken; faults = faults }

-- The response with this status and text was written; or some prefix of it, where the link failed.
abbrev pub Writes : ℕ × List ℕ → LinkTrace → LinkTrace → Served → Type 0
Writes text old new (served.Replied status) =
    (status ≡ text.0) × Takes old.taken (response_bytes text.0 text.1) new.taken
Writes text old new served.EndedEarly = ⊥
Writes text old new served.LinkFault =
    Rose old.faults new.faults × TakesPrefix old.taken (response_bytes text.0 text.1) new.taken

-- nothing was written
abbrev pub WritesNothing : FrontFault → LinkTrace → LinkTrace → Served → Type 0
WritesNothing BadHead old new end = ⊥
WritesNothing NoLength old new end = ⊥
WritesNothing TooLong old new end = ⊥
WritesNothing NoRoute old new end = ⊥
WritesNothing Method old new end = ⊥
WritesNothing OutOfMemory old new end = ⊥
WritesNothing EndedEarly old new end = (end ≡ served.EndedEarly) × (new.taken ≡ old.taken)
WritesNothing LinkFault old new end =
    (end ≡ served.LinkFault) × (new.taken ≡ old.taken) × Rose old.faults new.faults

abbrev pub WritesFault : FrontFault → Option (ℕ × List ℕ) → LinkTrace → LinkTrace → Served → Type 0
WritesFault fault (Some text) old new end = Writes text old new end
WritesFault fault None old new end = WritesNothing fault old new end

-- the answer says whether the action of that name only reads
abbrev pub IsReadingAnswer : List ℕ → Option Bool → Type 0
IsReadingAnswer name answer = answer ≡ is_reading_action name

-- The answer that a reply gives to a step, or the fault that it tells of.
use Rattle.std.specs.Prelude.{Result, Ok, Err}
use Rattle.harvest_sources.specs.declared.step.StepReply.{StepReply}
use Rattle.portal_events.specs.declared.event.Refusal.{Refusal}
use Rattle.portal_events.specs.declared.event.Refusal.TheVariants as refusal
use Rattle.portal_events.specs.declared.event.Reply.{Reply}
use Rattle.portal_events.specs.declared.event.Reply.TheVariants.{Accepted, Shown, Refused, Harvest}
use Rattle.harvest_pool.specs.declared.report.RoundFault.{RoundFault}
use Rattle.harvest_pool.specs.declared.report.RoundFault.TheVariants.{Keeper, OutOfMemory}

-- a step is refused for a fault of the machine, or for want of memory
abbrev pub fault_of : Refusal → RoundFault
fault_of (refusal.NotFound kind) = OutOfMemory
fault_of (refusal.NotAuthorized right) = OutOfMemory
fault_of (refusal.Validation faults) = OutOfMemory
fault_of (refusal.NameInUse key) = OutOfMemory
fault_of refusal.KeeperFault = Keeper
fault_of refusal.OutOfMemory = OutOfMemory

abbrev pub answer_of : Reply → Result StepReply RoundFault
answer_of (Accepted json) = Err OutOfMemory
answer_of (Shown json) = Err OutOfMemory
answer_of (Refused why) = Err (fault_of why)
answer_of (Harvest answer) = Ok answer

-- The refusal of a denial is neither that a name or an id is in use, nor that the store failed or memory ran out.
use Rattle.std.proofs.Common.{◌≡◌, ◌≢◌, false, refl}
use Rattle.portal_events.specs.Reply.{is_name_in_use, refusal_of}
use Rattle.portal_calls.specs.declared.answer.Denial.{Denial}
use Rattle.portal_calls.specs.declared.answer.Denial.TheVariants.{NotFound, NotAuthorized, Validation}
use Rattle.portal_events.specs.declared.event.Refusal.TheVariants.{KeeperFault, OutOfMemory}
use Rattle.portal_events.specs.declared.event.Reply.TheVariants as reply

-- the refusal of a denial is not that a name or an id is in use
pub quiet-refusal : (denial : Denial) → is_name_in_use (reply.Refused (refusal_of denial)) ≡ false
quiet-refusal (NotFound kind) = refl
quiet-refusal (NotAuthorized right) = refl
quiet-refusal (Validation faults) = refl

-- nor that the store failed
pub refusal_kept : (denial : Denial) → reply.Refused (refusal_of denial) ≢ reply.Refused KeeperFault
refusal_kept (NotFound kind) = λ is. absurd (cc)
refusal_kept (NotAuthorized right) = λ is. absurd (cc)
refusal_kept (Validation faults) = λ is. absurd (cc)

-- nor that memory ran out
pub refusal_there : (denial : Denial) → reply.Refused (refusal_of denial) ≢ reply.Refused OutOfMemory
refusal_there (NotFound kind) = λ is. absurd (cc)
refusal_there (NotAuthorized right) = λ is. absurd (cc)
refusal_there (Validation faults) = λ is. absurd (cc)

use Rattle.std.proofs.Common.{◌≡◌, map, take}
use Rattle.action_api.specs.Error.{fault_member}
use Rattle.action_api.proofs.errors.fault_members.Given as goal

-- the faults so far have their members
abbrev pub invariant-loop-fault : goal.invariant-loop-fault
invariant-loop-fault l = l.members.items ≡ map fault_member (take l.fault-index l.faults)

-- How a load ends, and the status for its end.
use Rattle.std.specs.Prelude.{Result, Ok, Err}
use Rattle.portal_load.specs.declared.stop.CallFault.{CallFault}
use Rattle.portal_load.specs.declared.stop.CallFault.TheVariants as call_fault
use Rattle.portal_load.specs.declared.stop.LoadStop.{LoadStop}
use Rattle.portal_load.specs.declared.stop.LoadStop.TheVariants as stop
use Rattle.portal_serve.specs.declared.calls.CallStop.{CallStop}
use Rattle.portal_serve.specs.declared.calls.CallStop.TheVariants as call_stop
use Rattle.portal_status.specs.declared.status.Status.{Status}
use Rattle.portal_status.specs.declared.status.Status.TheVariants as status

-- the fault of a call whose line was not written whole
abbrev pub fault_for_stop : CallStop → CallFault
fault_for_stop call_stop.WriteFault = call_fault.WriteFault
fault_for_stop call_stop.KeeperFault = call_fault.KeeperFault
fault_for_stop call_stop.OutOfMemory = call_fault.OutOfMemory

-- why a load stops at a call that isn't granted
abbrev pub stop_for_fault : CallFault → LoadStop
stop_for_fault call_fault.Refused = stop.Refused
stop_for_fault call_fault.WriteFault = stop.WriteFault
stop_for_fault call_fault.KeeperFault = stop.KeeperFault
stop_for_fault call_fault.OutOfMemory = stop.OutOfMemory

-- the status for the end of a load
abbrev pub status_for_load : Result Unit LoadStop → Status
status_for_load (Ok loaded) = status.Done
status_for_load (Err stop.ReadFault) = status.ReadFault
status_for_load (Err stop.WriteFault) = status.WriteFault
status_for_load (Err stop.KeeperFault) = status.KeeperFault
status_for_load (Err stop.OutOfMemory) = status.OutOfMemory
status_for_load (Err (stop.DataFault text)) = status.DataFault text
status_for_load (Err stop.Refused) = status.Refused

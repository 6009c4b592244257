-- The statuses of a run whose store isn't opened.
use Rattle.portal_status.specs.declared.status.Status.{Status}
use Rattle.portal_status.specs.declared.status.Status.TheVariants as status
use Rattle.portal_store.specs.declared.fault.StoreFault.{StoreFault}
use Rattle.portal_store.specs.declared.fault.StoreFault.TheVariants.{Failed, OutOfMemory}

abbrev pub status_for_fault : StoreFault → Status
status_for_fault Failed = status.KeeperFault
status_for_fault OutOfMemory = status.OutOfMemory

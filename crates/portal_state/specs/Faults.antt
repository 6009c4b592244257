-- The faults of a keeper, as those of a portal that opens or acts.
use Rattle.portal_keeper.specs.declared.change.KeepFault.{KeepFault}
use Rattle.portal_keeper.specs.declared.change.KeepFault.TheVariants.{Failed, OutOfMemory}
use Rattle.portal_state.specs.declared.act_fault.ActFault.{ActFault}
use Rattle.portal_state.specs.declared.act_fault.ActFault.TheVariants as act
use Rattle.portal_state.specs.declared.opening.OpenFault.{OpenFault}
use Rattle.portal_state.specs.declared.opening.OpenFault.TheVariants as opening

abbrev pub act_fault : KeepFault → ActFault
act_fault Failed = act.Keeper
act_fault OutOfMemory = act.OutOfMemory

abbrev pub open_fault : KeepFault → OpenFault
open_fault Failed = opening.Keeper
open_fault OutOfMemory = opening.OutOfMemory

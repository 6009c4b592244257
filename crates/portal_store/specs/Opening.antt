-- What opening a store gives.
use Rattle.std.specs.Prelude.{[]}
use Rattle.sqlite.specs.declared.error.Error.{Error}
use Rattle.sqlite.specs.declared.error.Error.TheVariants.{SqliteFailure}
use Rattle.sqlite.specs.declared.error.ErrorCode.TheVariants as code
use Rattle.portal_keeper.specs.Memory.{MemoryState}
use Rattle.portal_store.specs.declared.fault.StoreFault.{StoreFault}
use Rattle.portal_store.specs.declared.fault.StoreFault.TheVariants.{Failed, OutOfMemory}

-- a keeper in memory without rows, whose plan has no failing call
abbrev pub empty_memory : MemoryState
empty_memory = record { rows = []; plan = record { failing = []; calls = 0; faults = 0 } }

-- the fault for an error of SQLite: want of memory has its own, and every other cause is a failure
abbrev pub open_fault : Error → StoreFault
open_fault (SqliteFailure code.OutOfMemory) = OutOfMemory
open_fault _ = Failed

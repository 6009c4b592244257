-- The faults of the keeper over SQLite, and their count.
use Rattle.std.specs.Prelude.{ℕ, Result, Ok, Err}
use Rattle.sqlite.specs.declared.error.Error.{Error}
use Rattle.sqlite.specs.declared.error.Error.TheVariants.{SqliteFailure}
use Rattle.sqlite.specs.declared.error.ErrorCode.TheVariants as code
use Rattle.portal_base.specs.Counted.{next_count}
use Rattle.portal_keeper.specs.declared.change.KeepFault.{KeepFault}
use Rattle.portal_keeper.specs.declared.change.KeepFault.TheVariants.{Failed, OutOfMemory}

-- the fault for an error of SQLite: want of memory has its own, and every other cause is a failure
abbrev pub fault_of : Error → KeepFault
fault_of (SqliteFailure code.OutOfMemory) = OutOfMemory
fault_of _ = Failed

-- the count of faults after a call: one more after a failure, up to the maximum of a `u64`
abbrev pub faults_after : {T : Type 0} → ℕ → Result T KeepFault → ℕ
faults_after faults (Ok _) = faults
faults_after faults (Err Failed) = next_count faults
faults_after faults (Err OutOfMemory) = faults

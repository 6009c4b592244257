-- The location of the store, by the value of a variable of the environment.
use Rattle.std.specs.Prelude.{Option, Some, None, Result, Ok, Err}
use Rattle.std.specs.declared.env.VarError.{VarError}
use Rattle.std.specs.declared.env.VarError.TheVariants as variable
use Rattle.portal_store.specs.declared.fault.StoreFault.{StoreFault}
use Rattle.portal_store.specs.declared.fault.StoreFault.TheVariants.{Failed, OutOfMemory}

-- The value, if the variable is set. A value that isn't UTF-8 is a failure.
abbrev pub location_in : {T : Type 0} → Result T VarError → Result (Option T) StoreFault
location_in (Ok value) = Ok (Some value)
location_in (Err variable.NotPresent) = Ok None
location_in (Err variable.NotUnicode) = Err Failed
location_in (Err variable.OutOfMemory) = Err OutOfMemory

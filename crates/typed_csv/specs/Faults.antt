-- The results of calls that read, and the errors that aren't of what is read.
use Rattle.std.specs.Prelude.{◌≡◌, ⊤, Result, Ok, Err}
use Rattle.typed_csv.specs.declared.fault.LoadFault.{LoadFault}
use Rattle.typed_csv.specs.declared.fault.LoadFault.TheVariants as fault

-- The error is that of the reading, unless memory ran out.
abbrev pub IsRefused : {Y : Type 0} → LoadFault → Result Y LoadFault → Type 0
IsRefused fault.OutOfMemory reading = ⊤
IsRefused other reading = reading ≡ Err other

-- The result, seen through the view, is that of the reading, unless memory ran out.
abbrev pub Gives : {X Y : Type 0} → (X → Y) → Result X LoadFault → Result Y LoadFault → Type 0
Gives view (Ok x) reading = reading ≡ Ok (view x)
Gives view (Err other) reading = IsRefused other reading

-- The error is that of the source or of memory, and not of what is read.
abbrev pub IsOutside : LoadFault → Type 0
IsOutside fault.ReadFault = ⊤
IsOutside fault.TooLong = ⊤
IsOutside fault.OutOfMemory = ⊤
IsOutside other = ⊥

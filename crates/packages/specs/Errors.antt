-- The error of a key's value: a message, or none.
use Rattle.std.specs.Prelude.{ℕ, List, [], ◌∷◌, Bool, true, false, Option, Some, None, Result, Ok, Err}
use Rattle.portal_base.specs.declared.kinds.KindFault.{KindFault}
use Rattle.portal_base.specs.declared.kinds.KindFault.TheVariants.{Missing}
use Rattle.portal_base.specs.Kinds.{message_of}

-- the message, unless the rule holds
abbrev pub message_unless : Bool → List ℕ → Option (List ℕ)
message_unless true message = None
message_unless false message = Some message

-- the first of two errors
abbrev pub or_error : Option (List ℕ) → Option (List ℕ) → Option (List ℕ)
or_error None other = other
or_error (Some message) other = Some message

-- the error of the first faulty item
abbrev pub first_error : {A : Type 0} → (A → Option (List ℕ)) → List A → Option (List ℕ)
first_error error_of [] = None
first_error error_of (item ∷ items) = or_error (error_of item) (first_error error_of items)

-- the error of a value, if it is present; a value of the wrong kind has the message of that
abbrev pub optional_error : {A : Type 0} → (A → Option (List ℕ)) → Result (Option A) KindFault → Option (List ℕ)
optional_error rules (Ok None) = None
optional_error rules (Ok (Some value)) = rules value
optional_error rules (Err fault) = Some (message_of fault)

-- a value that has to be present
abbrev pub required : {A : Type 0} → Result (Option A) KindFault → Result (Option A) KindFault
required (Ok None) = Err Missing
required (Ok (Some value)) = Ok (Some value)
required (Err fault) = Err fault

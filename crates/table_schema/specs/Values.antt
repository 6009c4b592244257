-- The values of a descriptor's keys that are specific to descriptors. Those that every body has are in portal_base.
use Rattle.std.specs.Prelude.{◌≡◌, ℕ, Bool, true, false, if◌then◌else◌, List, [], ◌∷◌, Option, Some, None, option_map}
use Rattle.std.specs.Prelude.{Result, Ok, Err, ℤ}
use Rattle.portal_base.specs.Kinds.{list_in, text_in}
use Rattle.portal_base.specs.declared.json_value.Json.{Json, out-Json}
use Rattle.portal_base.specs.declared.json_value.Json.TheOpen.{Json-F}
use Rattle.table_schema.specs.declared.fault.SchemaFault.{SchemaFault}
use Rattle.table_schema.specs.declared.fault.SchemaFault.TheVariants.{OutOfMemory}

infixl 10 ◌>>=◌
abbrev pub ◌>>=◌ : {A B : Type 0} → Option A → (A → Option B) → Option B
None >>= f = None
(Some x) >>= f = f x

infixl 10 ◌>>>◌
abbrev pub ◌>>>◌ : {A B : Type 0} → Result A SchemaFault → (A → Result B SchemaFault) → Result B SchemaFault
(Err fault) >>> f = Err fault
(Ok x) >>> f = f x

-- the value, or this error if there is none
abbrev pub or_fault : {A : Type 0} → SchemaFault → Option A → Result A SchemaFault
or_fault fault None = Err fault
or_fault fault (Some x) = Ok x

abbrev pub is_map_in : Json-F Json → Bool
is_map_in (Json-F.Map entries) = true
is_map_in other = false

abbrev pub is_map : Json → Bool
is_map value = is_map_in (out-Json value)

abbrev pub dictionary_in : Json → Option Json
dictionary_in value = if is_map value then Some value else None

abbrev pub truth_of : Json-F Json → Option Bool
truth_of (Json-F.Truth b) = Some b
truth_of other = None

abbrev pub truth_in : Json → Option Bool
truth_in value = truth_of (out-Json value)

abbrev pub whole_of : Json-F Json → Option ℤ
whole_of (Json-F.Whole z) = Some z
whole_of other = None

abbrev pub whole_in : Json → Option ℤ
whole_in value = whole_of (out-Json value)

-- the values that the items read as, if all of them are readable
abbrev pub all_of : {A : Type 0} → (Json → Option A) → List Json → Option (List A)
all_of read [] = Some []
all_of read (item ∷ items) = read item >>= λ x. option_map (λ xs. x ∷ xs) (all_of read items)

-- a list of texts
abbrev pub texts_in : Json → Option (List (List ℕ))
texts_in value = list_in value >>= all_of text_in

-- a text, or a list of texts
abbrev pub names_of : Json-F Json → Option (List (List ℕ))
names_of (Json-F.Text text) = Some (text ∷ [])
names_of (Json-F.List items) = all_of text_in items
names_of other = None

abbrev pub names_in : Json → Option (List (List ℕ))
names_in value = names_of (out-Json value)

-- the value that a JSON value reads as, or the default if it is absent
abbrev pub or_default : {A : Type 0} → (Json → Option A) → A → Option Json → Option A
or_default read otherwise None = Some otherwise
or_default read otherwise (Some value) = read value

-- the value that a JSON value reads as, if it is present
abbrev pub optional : {A : Type 0} → (Json → Option A) → Option Json → Option (Option A)
optional read None = Some None
optional read (Some value) = option_map Some (read value)

-- The error is that of the reading, unless memory ran out.
abbrev pub IsRefused : {Y : Type 0} → SchemaFault → Result Y SchemaFault → Type 0
IsRefused OutOfMemory reading = Unit {0}
IsRefused fault reading = reading ≡ Err fault

-- The result, seen through the view, is that of the reading, unless memory ran out.
abbrev pub Gives : {X Y : Type 0} → (X → Y) → Result X SchemaFault → Result Y SchemaFault → Type 0
Gives view (Ok x) reading = reading ≡ Ok (view x)
Gives view (Err fault) reading = IsRefused fault reading

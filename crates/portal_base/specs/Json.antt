-- JSON values (RFC 8259) without fractions: their data, their text, and the value of a text.
use Rattle.std.specs.Prelude.{◌≡◌, ◌≤◌, ◌<◌, ◌^◌, ℕ, ℤ, pos, negsuc, List, [], ◌∷◌, map, Option, Some, None}
use Rattle.std.specs.Prelude.{option_map, option_and_then, Result, Ok, Err, if◌then◌else◌, bytes_eq, ⊤}
use Rattle.std.specs.Ordering.{nat_cmp}
use Rattle.std.specs.declared.cmp.Ordering.TheVariants.{Less}
use Rattle.std.specs.Cmp.Lexicographic.{slice_cmp}
use Rattle.std.specs.Str.{is_utf8}
use Rattle.serde_json.specs.Data.{Num, unsigned, negative, float, Data, null, boolean, number, string, array, object}
use Rattle.serde_json.specs.Data.{Items, no_items, item, Members, no_members, member, depth}
use Rattle.serde_json.specs.Find.{as_integer, of_integer}
use Rattle.serde_json.specs.Read.{read, max_depth}
use Rattle.serde_json.specs.View.{items_of}
use Rattle.serde_json.specs.Written.{compact_text}
use Rattle.portal_base.specs.declared.json_value.Json as json
use Rattle.portal_base.specs.declared.json_value.Json.{Json, fold-Json, out-Json}
use Rattle.portal_base.specs.declared.json_value.Json.TheOpen.{Json-F}
use Rattle.portal_base.specs.declared.json_value.JsonFault.{JsonFault}
use Rattle.portal_base.specs.declared.json_value.JsonFault.TheVariants.{NotJson, Fraction}

abbrev pub members_of : List (List ℕ × Data) → Members
members_of [] = no_members
members_of (m ∷ ms) = member m.0 m.1 (members_of ms)

-- the data of one level, whose inner values are data already
abbrev pub data_step : Json-F Data → Data
data_step Json-F.Null = null
data_step (Json-F.Truth b) = boolean b
data_step (Json-F.Whole z) = number (of_integer z)
data_step (Json-F.Text s) = string s
data_step (Json-F.List ds) = array (items_of ds)
data_step (Json-F.Map ms) = object (members_of ms)

-- the data of a value
abbrev pub data_of : Json → Data
data_of = fold-Json Data data_step

abbrev pub items_data : List Json → Items
items_data js = items_of (map data_of js)

abbrev pub members_data : List (List ℕ × Json) → Members
members_data es = members_of (map (λ e. (e.0, data_of e.1)) es)

-- The text without white space (RFC 8259, section 2). A map keeps the order of its entries.
abbrev pub json_text : Json → List ℕ
json_text j = compact_text (data_of j)

-- The value of some data, if each number is an integer.
abbrev mutual
  pub json_of : Data → Option Json
  json_of null = Some json.Null
  json_of (boolean b) = Some (json.Truth b)
  json_of (number n) = option_map json.Whole (as_integer n)
  json_of (string s) = Some (json.Text s)
  json_of (array ds) = option_map json.List (list_of ds)
  json_of (object ms) = option_map json.Map (entries_of ms)

  pub list_of : Items → Option (List Json)
  list_of no_items = Some []
  list_of (item d ds) = option_and_then (λ j. option_map (λ js. j ∷ js) (list_of ds)) (json_of d)

  pub entries_of : Members → Option (List (List ℕ × Json))
  entries_of no_members = Some []
  entries_of (member k d ms) = option_and_then (λ j. option_map (λ es. (k, j) ∷ es) (entries_of ms)) (json_of d)

abbrev pub or_fault : {A : Type 0} → JsonFault → Option A → Result A JsonFault
or_fault fault None = Err fault
or_fault fault (Some a) = Ok a

-- what the data of a text is read as; a text without data is not JSON
abbrev pub reading_of : Option Data → Result Json JsonFault
reading_of None = Err NotJson
reading_of (Some d) = or_fault Fraction (json_of d)

-- What bytes are read as. They are JSON if they are UTF-8 and one value of the grammar (RFC 8259), of at most 127
-- levels.
abbrev pub json_reading : List ℕ → Result Json JsonFault
json_reading bytes = if is_utf8 bytes then reading_of (read bytes) else Err NotJson

-- the value of the first entry with that key
abbrev pub first_of : List ℕ → List (List ℕ × Json) → Option Json
first_of key [] = None
first_of key (e ∷ es) = if bytes_eq key e.0 then Some e.1 else first_of key es

abbrev pub member_in : List ℕ → Json-F Json → Option Json
member_in key Json-F.Null = None
member_in key (Json-F.Truth b) = None
member_in key (Json-F.Whole z) = None
member_in key (Json-F.Text s) = None
member_in key (Json-F.List js) = None
member_in key (Json-F.Map es) = first_of key es

-- the value of a map's first entry with that key
abbrev pub member_of : List ℕ → Json → Option Json
member_of key j = member_in key (out-Json j)

-- ---- values that are read back as they were written

-- below zero, and an `i64`
abbrev pub IsNegative : ℤ → Type 0
IsNegative (pos n) = ⊥
IsNegative (negsuc n) = n < 2 ^ 63

-- an `i64` or a `u64`
abbrev pub Fits : Num → Type 0
Fits (unsigned n) = n < 2 ^ 64
Fits (negative z) = IsNegative z
Fits (float x) = ⊤

-- the key comes before each of these members' keys, by bytes
abbrev pub Precedes : List ℕ → Members → Type 0
Precedes k no_members = ⊤
Precedes k (member l d ms) = (slice_cmp nat_cmp k l ≡ Less) × Precedes k ms

-- Each number fits 64 bits, and the keys of each object strictly ascend by bytes.
abbrev mutual
  pub IsOrderly : Data → Type 0
  IsOrderly null = ⊤
  IsOrderly (boolean b) = ⊤
  IsOrderly (number n) = Fits n
  IsOrderly (string s) = ⊤
  IsOrderly (array ds) = ItemsAreOrderly ds
  IsOrderly (object ms) = MembersAreOrderly ms

  pub ItemsAreOrderly : Items → Type 0
  ItemsAreOrderly no_items = ⊤
  ItemsAreOrderly (item d ds) = IsOrderly d × ItemsAreOrderly ds

  pub MembersAreOrderly : Members → Type 0
  MembersAreOrderly no_members = ⊤
  MembersAreOrderly (member k d ms) = Precedes k ms × IsOrderly d × MembersAreOrderly ms

-- The data is orderly and has at most 127 levels.
abbrev pub IsReadable : Json → Type 0
IsReadable j = IsOrderly (data_of j) × (depth (data_of j) ≤ max_depth)

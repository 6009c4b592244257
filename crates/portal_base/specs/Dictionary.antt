-- Dictionaries that are made of their members, with keys that ascend by bytes.
use Rattle.std.specs.Prelude.{ℕ, pos, List, [], ◌∷◌, Bool, true, false, ◌&&◌, ⊤}
use Rattle.std.specs.Borrow.{Bor}
use Rattle.std.specs.Ordering.{nat_cmp}
use Rattle.std.specs.declared.cmp.Ordering.{Ordering}
use Rattle.std.specs.declared.cmp.Ordering.TheVariants.{Less, Equal, Greater}
use Rattle.std.specs.Cmp.Lexicographic.{slice_cmp}
use Rattle.serde_json.specs.Data.{Data, null, boolean, number, string, array, object, Members, no_members, member}
use Rattle.portal_base.specs.MomentText.{moment_text}
use Rattle.portal_base.specs.Json.{Precedes, IsOrderly}
use Rattle.portal_base.specs.declared.json_value.Json.{Json}
use Rattle.portal_base.specs.declared.json_value.Json as json
use Rattle.portal_base.specs.declared.dictionary.Value.{Value}
use Rattle.portal_base.specs.declared.dictionary.Value.TheVariants as value

-- the JSON value of a member
abbrev pub value_json : Value → Json
value_json (value.Truth truth) = json.Truth truth
value_json (value.Whole n) = json.Whole (pos n)
value_json (value.Static text) = json.Text text.now
value_json (value.Str text) = json.Text text.now
value_json (value.Text text) = json.Text text.now
value_json (value.Moment moment) = json.Text (moment_text moment)
value_json (value.List list) = json.List list
value_json (value.Json j) = j

-- the key and the JSON value of a member
abbrev pub member_json : Bor (List ℕ) × Value → List ℕ × Json
member_json m = (m.0.now, value_json m.1)

abbrev pub is_less : Ordering → Bool
is_less Less = true
is_less Equal = false
is_less Greater = false

-- whether the key comes before each of these members' keys, by bytes
abbrev pub precedes : List ℕ → List (List ℕ × Json) → Bool
precedes key [] = true
precedes key (m ∷ ms) = is_less (slice_cmp nat_cmp key m.0) && precedes key ms

-- whether the keys strictly ascend by bytes
abbrev pub keys_ascend : List (List ℕ × Json) → Bool
keys_ascend [] = true
keys_ascend (m ∷ ms) = precedes m.0 ms && keys_ascend ms

-- The keys strictly ascend by bytes.
abbrev pub KeysAscend : Members → Type 0
KeysAscend no_members = ⊤
KeysAscend (member k d ms) = Precedes k ms × KeysAscend ms

-- The data is an object whose keys strictly ascend by bytes.
abbrev pub IsAscending : Data → Type 0
IsAscending null = ⊥
IsAscending (boolean b) = ⊥
IsAscending (number n) = ⊥
IsAscending (string s) = ⊥
IsAscending (array ds) = ⊥
IsAscending (object ms) = KeysAscend ms

-- Each value is orderly.
abbrev pub ValuesAreOrderly : Members → Type 0
ValuesAreOrderly no_members = ⊤
ValuesAreOrderly (member k d ms) = IsOrderly d × ValuesAreOrderly ms

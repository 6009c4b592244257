-- Values that can be read back from their own texts, and the parts of such values.
use Rattle.std.proofs.Common.{◌≡◌, ℕ, suc, ◌≤◌, ℤ, Bool, true, false, cond, List, [], ◌∷◌}
use Rattle.std.proofs.Common.{Some, refl, ap, ◌∙◌, subst, arith, rules}
use Rattle.std.specs.Prelude.{option_and_then}
use Rattle.std.specs.Str.{bytes_eq}
use Rattle.serde_json.specs.Data.{null, boolean, number, string, array, object, depth, items_depth, members_depth}
use Rattle.serde_json.specs.Find.{of_integer}
use Rattle.portal_base.specs.Dictionary.{keys_ascend, ValuesAreOrderly}
use Rattle.portal_base.specs.Json.{Fits, IsOrderly, IsReadable, ItemsAreOrderly, MembersAreOrderly, data_of, first_of}
use Rattle.portal_base.specs.Json.{items_data, member_in, member_of, members_data}
use Rattle.portal_base.specs.Kinds.{dictionary_in, dictionary_of, list_in, list_of, text_in, text_of}
use Rattle.portal_base.specs.declared.json_value.Json as json
use Rattle.portal_base.specs.declared.json_value.Json.{Json, out-Json, the_lemmas}
use Rattle.portal_base.specs.declared.json_value.Json.TheOpen.{Json-F}
use Rattle.portal_base.proofs.DictionaryLemmas.{map_is_orderly}
use Rattle.portal_rows.specs.Readings.{text_member}

-- ---- values by their kinds

pub out-Null : out-Json json.Null ≡ Json-F.Null
out-Null = search (rules, the_lemmas)

pub out-Truth : (b : Bool) → out-Json (json.Truth b) ≡ Json-F.Truth b
out-Truth b = search (rules, the_lemmas)

pub out-Whole : (z : ℤ) → out-Json (json.Whole z) ≡ Json-F.Whole z
out-Whole z = search (rules, the_lemmas)

pub out-Text : (text : List ℕ) → out-Json (json.Text text) ≡ Json-F.Text text
out-Text text = search (rules, the_lemmas)

pub out-List : (items : List Json) → out-Json (json.List items) ≡ Json-F.List items
out-List items = search (rules, the_lemmas)

pub out-Map : (entries : List (List ℕ × Json)) → out-Json (json.Map entries) ≡ Json-F.Map entries
out-Map entries = search (rules, the_lemmas)

pub text_in-Text : (text : List ℕ) → text_in (json.Text text) ≡ Some text
text_in-Text text = ap text_of (out-Text text)

pub list_in-List : (items : List Json) → list_in (json.List items) ≡ Some items
list_in-List items = ap list_of (out-List items)

-- ---- orderly values of few levels

pub data_of-List : (items : List Json) → data_of (json.List items) ≡ array (items_data items)
data_of-List items = search (rules, the_lemmas)

data_of-Map : (entries : List (List ℕ × Json)) → data_of (json.Map entries) ≡ object (members_data entries)
data_of-Map entries = search (rules, the_lemmas)

pub data_of-Null : data_of json.Null ≡ null
data_of-Null = search (rules, the_lemmas)

pub data_of-Truth : (b : Bool) → data_of (json.Truth b) ≡ boolean b
data_of-Truth b = search (rules, the_lemmas)

pub data_of-Whole : (z : ℤ) → data_of (json.Whole z) ≡ number (of_integer z)
data_of-Whole z = search (rules, the_lemmas)

pub data_of-Text : (text : List ℕ) → data_of (json.Text text) ≡ string text
data_of-Text text = search (rules, the_lemmas)

-- The value is orderly, and has at most so many levels of lists and dictionaries.
pub record IsWithin (levels : ℕ) (value : Json) : Type 0 where
  pub orderly : IsOrderly (data_of value)
  pub shallow : depth (data_of value) ≤ levels

pub readable : (levels : ℕ) (value : Json) → levels ≤ 127 → IsWithin levels value → IsReadable value
readable levels value few within = (within.orderly, omega (arith, within.shallow))

pub deeper : (levels more : ℕ) (value : Json) → levels ≤ more → IsWithin levels value → IsWithin more value
deeper levels more value le within =
    record { orderly = within.orderly; shallow = omega (arith, within.shallow) }

pub within-Null : (levels : ℕ) → IsWithin levels json.Null
within-Null levels = record { orderly = rw data_of-Null tt; shallow = rw data_of-Null (omega arith) }

pub within-Truth : (levels : ℕ) (b : Bool) → IsWithin levels (json.Truth b)
within-Truth levels b = record { orderly = rw data_of-Truth tt; shallow = rw data_of-Truth (omega arith) }

pub within-Text : (levels : ℕ) (text : List ℕ) → IsWithin levels (json.Text text)
within-Text levels text = record { orderly = rw data_of-Text tt; shallow = rw data_of-Text (omega arith) }

pub within-Whole : (levels : ℕ) (z : ℤ) → Fits (of_integer z) → IsWithin levels (json.Whole z)
within-Whole levels z fits = record { orderly = rw data_of-Whole fits; shallow = rw data_of-Whole (omega arith) }

-- each value of the list is within so many levels
abbrev pub AreWithin : ℕ → List Json → Type 0
AreWithin levels [] = Unit {0}
AreWithin levels (value ∷ values) = IsWithin levels value × AreWithin levels values

items_within : (levels : ℕ) (values : List Json) → AreWithin levels values
    → ItemsAreOrderly (items_data values) × (items_depth (items_data values) ≤ levels)
items_within levels [] all = (tt, omega arith)
items_within levels (value ∷ values) all =
    let rest = items_within levels values all.1 in
    ((all.0.orderly, rest.0), omega (arith, all.0.shallow, rest.1))

pub within-List : (levels : ℕ) (values : List Json) → AreWithin levels values
    → IsWithin (suc levels) (json.List values)
within-List levels values all =
    let items = items_within levels values all in
    record { orderly = rw data_of-List items.0; shallow = rw data_of-List (omega (arith, items.1)) }

-- each value of the dictionary is within so many levels
abbrev pub EntriesAreWithin : ℕ → List (List ℕ × Json) → Type 0
EntriesAreWithin levels [] = Unit {0}
EntriesAreWithin levels (entry ∷ entries) = IsWithin levels entry.1 × EntriesAreWithin levels entries

entries_within : (levels : ℕ) (entries : List (List ℕ × Json)) → EntriesAreWithin levels entries
    → ValuesAreOrderly (members_data entries) × (members_depth (members_data entries) ≤ levels)
entries_within levels [] all = (tt, omega arith)
entries_within levels (entry ∷ entries) all =
    let rest = entries_within levels entries all.1 in
    ((all.0.orderly, rest.0), omega (arith, all.0.shallow, rest.1))

pub within-Map : (levels : ℕ) (entries : List (List ℕ × Json)) → keys_ascend entries ≡ true
    → EntriesAreWithin levels entries → IsWithin (suc levels) (json.Map entries)
within-Map levels entries ascend all =
    let values = entries_within levels entries all in
    record {
      orderly = map_is_orderly entries ascend values.0;
      shallow = rw data_of-Map (omega (arith, values.1));
    }

-- ---- members of a dictionary

pub member_of-Map : (key : List ℕ) (entries : List (List ℕ × Json)) (value : Json) → first_of key entries ≡ Some value
    → member_of key (json.Map entries) ≡ Some value
member_of-Map key entries value e = ap (member_in key) (out-Map entries) ∙ e

pub text_member-Map : (key : List ℕ) (entries : List (List ℕ × Json)) (text : List ℕ)
    → first_of key entries ≡ Some (json.Text text) → text_member key (json.Map entries) ≡ Some text
text_member-Map key entries text e =
    ap (option_and_then text_in) (member_of-Map key entries (json.Text text) e) ∙ text_in-Text text

pub dictionary_in-Map : (entries : List (List ℕ × Json)) → dictionary_in (json.Map entries) ≡ Some entries
dictionary_in-Map entries = ap dictionary_of (out-Map entries)

map_back : (value : Json) (entries : List (List ℕ × Json)) → out-Json value ≡ Json-F.Map entries
    → value ≡ json.Map entries
map_back value entries e = search (rules, the_lemmas)

-- A value that has entries is the dictionary of them.
pub dictionary_is : (value : Json) (entries : List (List ℕ × Json)) → dictionary_in value ≡ Some entries
    → value ≡ json.Map entries
dictionary_is value entries e = by (out-Json value) refl e
  where
    by : (v : Json-F Json) → out-Json value ≡ v → dictionary_of v ≡ Some entries → value ≡ json.Map entries
    by Json-F.Null is h = absurd (cc)
    by (Json-F.Truth b) is h = absurd (cc)
    by (Json-F.Whole z) is h = absurd (cc)
    by (Json-F.Text text) is h = absurd (cc)
    by (Json-F.List items) is h = absurd (cc)
    by (Json-F.Map others) is h =
        let same : others ≡ entries = cc in
        map_back value others is ∙ ap json.Map same

-- The entries of an orderly dictionary are orderly.
pub entries_orderly : (value : Json) (entries : List (List ℕ × Json)) → dictionary_in value ≡ Some entries
    → IsOrderly (data_of value) → MembersAreOrderly (members_data entries)
entries_orderly value entries e orderly =
    let opened : IsOrderly (data_of (json.Map entries)) =
    subst (λ (v : Json). IsOrderly (data_of v)) (dictionary_is value entries e) orderly in
    rw data_of-Map at opened

first_orderly : (key : List ℕ) (entries : List (List ℕ × Json)) (value : Json)
    → MembersAreOrderly (members_data entries) → first_of key entries ≡ Some value → IsOrderly (data_of value)
first_orderly key [] value orderly e = absurd (cc)
first_orderly key (entry ∷ entries) value orderly e =
    by (bytes_eq key entry.0) e (first_orderly key entries value orderly.2)
  where
    by : (b : Bool) → cond b (Some entry.1) (first_of key entries) ≡ Some value
        → (first_of key entries ≡ Some value → IsOrderly (data_of value)) → IsOrderly (data_of value)
    by true h rest = let same : entry.1 ≡ value = cc in subst (λ (v : Json). IsOrderly (data_of v)) same orderly.1
    by false h rest = rest h

-- A member of an orderly dictionary is orderly.
pub member_orderly : (key : List ℕ) (dictionary value : Json) → IsOrderly (data_of dictionary)
    → member_of key dictionary ≡ Some value → IsOrderly (data_of value)
member_orderly key dictionary value orderly e = by (out-Json dictionary) refl e
  where
    by : (v : Json-F Json) → out-Json dictionary ≡ v → member_in key v ≡ Some value → IsOrderly (data_of value)
    by Json-F.Null is h = absurd (cc)
    by (Json-F.Truth b) is h = absurd (cc)
    by (Json-F.Whole z) is h = absurd (cc)
    by (Json-F.Text text) is h = absurd (cc)
    by (Json-F.List items) is h = absurd (cc)
    by (Json-F.Map entries) is h =
        first_orderly key entries value (entries_orderly dictionary entries (ap dictionary_of is) orderly) h

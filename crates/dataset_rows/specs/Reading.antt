-- The dataset that is read of a JSON value. A key that is absent, or that has a value of another kind, is read as a
-- default. So a dataset is read of any value, and its own row shows whether the value was that of a dataset.
use Rattle.std.specs.Prelude.{ℕ, ◌^◌, pos, nat_lt, Bool, false, if◌then◌else◌, List, [], codes, map, ℤ}
use Rattle.std.specs.Prelude.{Option, option_map, option_and_then, unwrap_or}
use Rattle.std.specs.Str.{bytes_eq}
use Rattle.serde_json.specs.Read.{read}
use Rattle.portal_base.specs.Json.{json_of, member_of}
use Rattle.portal_base.specs.Kinds.{text_in, list_in}
use Rattle.portal_base.specs.MomentReading.{moment_reading}
use Rattle.portal_base.specs.declared.json_value.Json.{Json, out-Json}
use Rattle.portal_base.specs.declared.json_value.Json.TheOpen.{Json-F}
use Rattle.packages.specs.Package.{fresh_package}
use Rattle.packages.specs.Reading.{blank_resource}
use Rattle.packages.specs.declared.package.Package.{Package}
use Rattle.packages.specs.declared.package.Resource.{Resource}
use Rattle.packages.specs.declared.package.State.{State}
use Rattle.packages.specs.declared.package.State.TheVariants.{Draft, Active, Deleted}

-- the JSON value of a text, if it has one
unfoldable pub json_read : List ℕ → Option Json
json_read bytes = option_and_then json_of (read bytes)

-- ---- values by kind

-- a text
unfoldable pub text_or_empty : Json → List ℕ
text_or_empty value = unwrap_or (text_in value) []

-- the items of a list
abbrev pub items_or_none : Json → List Json
items_or_none value = unwrap_or (list_in value) []

-- a truth value
abbrev pub truth_of_level : Json-F Json → Bool
truth_of_level (Json-F.Truth b) = b
truth_of_level other = false

abbrev pub truth_or_false : Json → Bool
truth_or_false value = truth_of_level (out-Json value)

-- a number that is a `u32`
abbrev pub number_of_level : Json-F Json → ℕ
number_of_level (Json-F.Whole (pos n)) = if nat_lt n (2 ^ 32) then n else 0
number_of_level other = 0

abbrev pub number_or_zero : Json → ℕ
number_or_zero value = number_of_level (out-Json value)

-- the state with this name; by default active
abbrev pub state_named : List ℕ → State
state_named text =
    if bytes_eq text (codes "draft") then Draft else if bytes_eq text (codes "deleted") then Deleted else Active

-- ---- the values of keys

-- what the value of a key is read as, or this if the key is absent
abbrev pub at_key : {A : Type 0} → (Json → A) → A → List ℕ → Json → A
at_key read_value absent key row = unwrap_or (option_map read_value (member_of key row)) absent

unfoldable pub text_of : List ℕ → Json → List ℕ
text_of key row = at_key text_or_empty [] key row

unfoldable pub items_of : List ℕ → Json → List Json
items_of key row = at_key items_or_none [] key row

unfoldable pub truth_of : List ℕ → Json → Bool
truth_of key row = at_key truth_or_false false key row

unfoldable pub number_of : List ℕ → Json → ℕ
number_of key row = at_key number_or_zero 0 key row

-- 1970-01-01T00:00:00 by default
unfoldable pub moment_of : List ℕ → Json → ℤ
moment_of key row = unwrap_or (moment_reading (text_of key row)) (pos 0)

-- ---- a resource

-- the resource with some keys of the value: those of what it is called
abbrev pub with_labels : Json → Resource → Resource
with_labels value start = record start {
  name = text_of (codes "name") value;
  description = text_of (codes "description") value;
}

-- those of its file
abbrev pub with_file : Json → Resource → Resource
with_file value start = record start {
  url = text_of (codes "url") value;
  format = text_of (codes "format") value;
  mimetype = text_of (codes "mimetype") value;
}

-- the resource that is read of a value
unfoldable pub resource_in : Json → Resource
resource_in value = with_file value (with_labels value (blank_resource (number_of (codes "number") value)))

-- ---- a dataset

-- the dataset with some keys of the row: those of people
abbrev pub with_people : Json → Package → Package
with_people row start = record start {
  author = text_of (codes "author") row;
  creator = text_of (codes "creator") row;
  maintainer = text_of (codes "maintainer") row;
}

-- those of its names
abbrev pub with_names : Json → Package → Package
with_names row start = record start {
  name = text_of (codes "name") row;
  owner_org = text_of (codes "owner_org") row;
  title = text_of (codes "title") row;
}

-- those of its origin
abbrev pub with_origin : Json → Package → Package
with_origin row start = record start {
  iri = text_of (codes "iri") row;
  source = text_of (codes "source") row;
  url = text_of (codes "url") row;
}

-- its license, notes and version
abbrev pub with_notes : Json → Package → Package
with_notes row start = record start {
  license_id = text_of (codes "license_id") row;
  notes = text_of (codes "notes") row;
  version = text_of (codes "version") row;
}

-- those of texts
abbrev pub with_texts : Json → Package → Package
with_texts row start = with_notes row (with_origin row (with_names row (with_people row start)))

-- those of lists
abbrev pub with_lists : Json → Package → Package
with_lists row start = record start {
  resources = map resource_in (items_of (codes "resources") row);
  tags = map text_or_empty (items_of (codes "tags") row);
}

-- those of single values
abbrev pub with_values : Json → Package → Package
with_values row start = record start {
  created = moment_of (codes "created") row;
  modified = moment_of (codes "modified") row;
  next_resource = number_of (codes "next_resource") row;
  private = truth_of (codes "private") row;
  state = state_named (text_of (codes "state") row);
}

-- the dataset with that id that is read of a row's value
unfoldable pub dataset_in : List ℕ → Json → Package
dataset_in id row = with_values row (with_lists row (with_texts row (fresh_package id [] [] [] [] (pos 0))))

-- the dataset that is read of a row, if its body is JSON
abbrev pub dataset_read : List ℕ → List ℕ → Option Package
dataset_read id body = option_map (dataset_in id) (json_read body)

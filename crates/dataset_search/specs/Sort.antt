-- The text of a sort (CKAN 2.10, package_search). Commas divide its parts. Each part is a field's name, with or without
-- a direction after it. White space is Unicode's White_Space.
use Rattle.std.specs.Prelude.{ℕ, Bool, true, false, if◌then◌else◌, List, [], ◌∷◌, ◌++◌, codes, fold, map, Option, Some, None}
use Rattle.std.specs.Prelude.{option_map}
use Rattle.std.specs.List.{list_any, slice_split}
use Rattle.std.specs.Str.{bytes_eq, trim}
use Rattle.portal_base.specs.Kinds.{is_comma}
use Rattle.sorted_pages.specs.Direction.{DirectedName, directed}
use Rattle.sorted_pages.specs.declared.direction.Direction.{Direction}
use Rattle.sorted_pages.specs.declared.direction.Direction.TheVariants.{Descending}
use Rattle.dataset_search.specs.declared.sort.SortField.{SortField}
use Rattle.dataset_search.specs.declared.sort.SortField.TheVariants.{Created, Modified, Name, Score, Title}
use Rattle.dataset_search.specs.declared.sort.SortKey.{SortKey}

-- ---- one part

-- the field with the name
abbrev pub field_named : List ℕ → Option SortField
field_named name =
    if bytes_eq name (codes "name") then Some Name
    else if bytes_eq name (codes "title") then Some Title
    else if bytes_eq name (codes "title_string") then Some Title
    else if bytes_eq name (codes "metadata_modified") then Some Modified
    else if bytes_eq name (codes "metadata_created") then Some Created
    else if bytes_eq name (codes "score") then Some Score
    else None

abbrev pub key_on : Direction → SortField → SortKey
key_on direction field = record { field = field; direction = direction }

abbrev pub key_named : DirectedName → Option SortKey
key_named part = option_map (key_on part.direction) (field_named part.name)

-- the field and the direction of a part, if it names a field
abbrev pub key_reading : List ℕ → Option SortKey
key_reading part = key_named (directed (trim part))

-- ---- all parts

abbrev pub before_keys : SortKey → Option (List SortKey) → Option (List SortKey)
before_keys key keys = option_map (λ others. key ∷ others) keys

-- the keys of the parts, if each was read
abbrev pub all_keys : List (Option SortKey) → Option (List SortKey)
all_keys [] = Some []
all_keys (None ∷ parts) = None
all_keys (Some key ∷ parts) = before_keys key (all_keys parts)

abbrev pub is_same_field : SortField → SortField → Bool
is_same_field Name Name = true
is_same_field Title Title = true
is_same_field Modified Modified = true
is_same_field Created Created = true
is_same_field Score Score = true
is_same_field field other = false

-- one of the keys is on the field
abbrev pub has_field : SortField → List SortKey → Bool
has_field field keys = list_any (λ (key : SortKey). is_same_field key.field field) keys

abbrev pub with_key : List SortKey → SortKey → List SortKey
with_key keys key = if has_field key.field keys then keys else keys ++ key ∷ []

-- the first key of each field; a field that is named again decides nothing
abbrev pub deciding : List SortKey → List SortKey
deciding keys = fold with_key [] keys

-- by default the last modified dataset comes first
abbrev pub default_sort : List SortKey
default_sort = key_on Descending Modified ∷ []

-- The keys of a sort's text, none if it can't be read. The empty text means the default.
abbrev pub sort_reading : List ℕ → Option (List SortKey)
sort_reading [] = Some default_sort
sort_reading (c ∷ cs) = option_map deciding (all_keys (map key_reading (slice_split is_comma (c ∷ cs))))

-- The resources that bodies give, and the errors of these. The keys are those of CKAN 2.10's `resource_create`. The
-- bounds and messages are the portal's own.
use Rattle.std.specs.Prelude.{ℕ, ◌+◌, nat_le, List, [], ◌∷◌, ◌++◌, length, codes, Bool, false, not, if◌then◌else◌}
use Rattle.std.specs.Prelude.{decimal}
use Rattle.std.specs.Prelude.{Option, Some, None, is_some, option_map, option_and_then, unwrap_or, find}
use Rattle.std.specs.List.{list_any}
use Rattle.std.specs.Str.{bytes_eq}
use Rattle.portal_base.specs.declared.json_value.Json.{Json}
use Rattle.portal_base.specs.declared.kinds.KindFault.TheVariants.{NotDictionary}
use Rattle.portal_base.specs.KeyErrors.{KeyError, with_rule_errors, found_value}
use Rattle.portal_base.specs.Kinds.{dictionary_in, list_at, message_of, text_at}
use Rattle.packages.specs.Named.{resource_address}
use Rattle.packages.specs.Texts.{text_given, text_or, short_text_error}
use Rattle.packages.specs.Errors.{first_error, message_unless, or_error, optional_error}
use Rattle.packages.specs.declared.package.Package.{Package}
use Rattle.packages.specs.declared.package.Resource.{Resource}

-- ---- one resource

-- a key with its error, or none
abbrev pub KeyCheck : Type 0
KeyCheck = List ℕ × Option (List ℕ)

-- the keys of a resource's body, in the order in which a dataset's body is checked
abbrev pub resource_checks : Json → List KeyCheck
resource_checks body =
    (codes "name", short_text_error 2000 (codes "name") body)
    ∷ (codes "url", short_text_error 2000 (codes "url") body)
    ∷ (codes "format", short_text_error 2000 (codes "format") body)
    ∷ (codes "mimetype", short_text_error 2000 (codes "mimetype") body)
    ∷ (codes "description", short_text_error 20000 (codes "description") body)
    ∷ []

-- the errors of a single resource's body: each faulty key, in the order of the keys
abbrev pub resource_errors : Json → List KeyError
resource_errors body = with_rule_errors (resource_checks body) []

-- the resource of this number that a body gives; texts are empty by default
abbrev pub resource_for : ℕ → Json → Resource
resource_for number body = record {
  number = number;
  name = text_or [] (codes "name") body;
  url = text_or [] (codes "url") body;
  format = text_or [] (codes "format") body;
  description = text_or [] (codes "description") body;
  mimetype = text_or [] (codes "mimetype") body;
}

-- ---- ids

-- the number of the dataset's resource with that id
abbrev pub number_of_id : Package → List ℕ → Option ℕ
number_of_id dataset id =
    option_map (λ resource. resource.number)
    (find (λ resource. bytes_eq (resource_address dataset.id resource.number) id) dataset.resources)

abbrev pub is_same : List ℕ → Option (List ℕ) → Bool
is_same id None = false
is_same id (Some given) = bytes_eq given id

-- the item has the id
abbrev pub has_id : List ℕ → Json → Bool
has_id id item = is_same id (text_given (codes "id") item)

-- An id has to be that of a resource of the old dataset, and no item before may have it.
abbrev pub resource_id_error : Package → List Json → List ℕ → Option (List ℕ)
resource_id_error old before id =
    or_error (message_unless (is_some (number_of_id old id)) (codes "Resource does not belong to the dataset"))
    (message_unless (not (list_any (has_id id) before)) (codes "Repeated resource"))

-- the ids of a new dataset's resources are ignored
abbrev pub id_error : Option Package → List Json → Json → Option (List ℕ)
id_error None before item = None
id_error (Some old) before item = optional_error (resource_id_error old before) (text_at (codes "id") item)

-- ---- the list of resources

-- the error of a key, after the key
abbrev pub prefixed_error : KeyCheck → Option (List ℕ)
prefixed_error rule = option_map (λ message. rule.0 ++ (codes ": " ++ message)) rule.1

-- the error of an item after those before: that of its first faulty key; the id is checked last
abbrev pub item_error : Option Package → List Json → Json → Option (List ℕ)
item_error old before item =
    if is_some (dictionary_in item)
    then or_error (first_error prefixed_error (resource_checks item))
    (prefixed_error (codes "id", id_error old before item))
    else Some (message_of NotDictionary)

-- the message for the item at that position, from 1
abbrev pub with_position : ℕ → List ℕ → List ℕ
with_position position message = codes "resource " ++ (decimal position ++ (codes ": " ++ message))

-- the error of the first faulty item, after those before
abbrev pub items_error : Option Package → List Json → List Json → Option (List ℕ)
items_error old before [] = None
items_error old before (item ∷ items) =
    or_error (option_map (with_position (length before + 1)) (item_error old before item))
    (items_error old (before ++ item ∷ []) items)

abbrev pub resources_error : Option Package → List Json → Option (List ℕ)
resources_error old items =
    if nat_le (length items) 200 then items_error old [] items else Some (codes "More than 200 resources")

abbrev pub resources_key_error : Option Package → Json → Option (List ℕ)
resources_key_error old body = optional_error (resources_error old) (list_at (codes "resources") body)

-- ---- numbers

-- the number of the old dataset's resource that the item keeps
abbrev pub kept_number : Option Package → Json → Option ℕ
kept_number None item = None
kept_number (Some old) item = option_and_then (number_of_id old) (text_given (codes "id") item)

-- The number of the item's resource: the one that it keeps, or else the next number, which no resource had.
abbrev pub number_for : Option Package → ℕ → Json → ℕ
number_for old next item = unwrap_or (kept_number old item) next

-- the next number after the item
abbrev pub next_after_item : Option Package → ℕ → Json → ℕ
next_after_item old next item = if is_some (kept_number old item) then next else next + 1

-- the items' resources, in the order of the list; new ones are numbered from the next number on
abbrev pub numbered : Option Package → ℕ → List Json → List Resource
numbered old next [] = []
numbered old next (item ∷ items) =
    resource_for (number_for old next item) item ∷ numbered old (next_after_item old next item) items

-- the next number after all items
abbrev pub next_after_items : Option Package → ℕ → List Json → ℕ
next_after_items old next [] = next
next_after_items old next (item ∷ items) = next_after_items old (next_after_item old next item) items

-- the items of the list, if the list is present
abbrev pub resources_given : Json → Option (List Json)
resources_given body = found_value (list_at (codes "resources") body)

abbrev pub resources_or : List Resource → Option Package → ℕ → Json → List Resource
resources_or kept old next body = unwrap_or (option_map (numbered old next) (resources_given body)) kept

abbrev pub next_or : Option Package → ℕ → Json → ℕ
next_or old next body = unwrap_or (option_map (next_after_items old next) (resources_given body)) next

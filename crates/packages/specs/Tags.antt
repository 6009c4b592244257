-- The tags that a dataset's body gives, and the errors of these.
use Rattle.std.specs.Prelude.{ℕ, ◌+◌, ◌-◌, nat_le, List, [], ◌∷◌, length, codes, cond, if◌then◌else◌, is_some}
use Rattle.std.specs.Prelude.{Option, Some, option_map, unwrap_or}
use Rattle.std.specs.Ordering.{nat_cmp}
use Rattle.std.specs.Cmp.Lexicographic.{slice_cmp}
use Rattle.std.specs.List.{filter_map}
use Rattle.portal_base.specs.declared.json_value.Json.{Json}
use Rattle.portal_base.specs.declared.kinds.KindFault.TheVariants.{NotDictionary}
use Rattle.portal_base.specs.KeyErrors.{found_value}
use Rattle.portal_base.specs.Kinds.{dictionary_in, is_among, list_at, message_of, text_at}
use Rattle.portal_base.specs.Ordered.{inserted}
use Rattle.portal_base.specs.Tag.{has_tag_length, has_tag_characters}
use Rattle.packages.specs.Texts.{text_given}
use Rattle.packages.specs.Errors.{required, first_error, message_unless, or_error, optional_error}

-- ---- sets of texts

-- the ascending list with the text, which isn't repeated
abbrev pub text_added : List ℕ → List (List ℕ) → List (List ℕ)
text_added text texts = cond (is_among texts text) texts (inserted (slice_cmp nat_cmp) text texts)

-- the set of the texts, as an ascending list
abbrev pub text_set : List (List ℕ) → List (List ℕ)
text_set [] = []
text_set (text ∷ texts) = text_added text (text_set texts)

-- ---- one tag

abbrev pub tag_name_error : List ℕ → Option (List ℕ)
tag_name_error text =
    or_error (message_unless (has_tag_length text) (codes "Tag must have 2 to 100 characters"))
    (message_unless (has_tag_characters text) (codes "Tag holds a character that is not allowed"))

-- the error of a tag's dictionary
abbrev pub tag_error : Json → Option (List ℕ)
tag_error item =
    if is_some (dictionary_in item) then optional_error tag_name_error (required (text_at (codes "name") item))
    else Some (message_of NotDictionary)

-- ---- the list of tags

-- the texts at the key `name` of the tags' dictionaries
abbrev pub tag_names : List Json → List (List ℕ)
tag_names items = filter_map (text_given (codes "name")) items

-- the count of tags: each name counts once, and so does each item without a name
abbrev pub tag_count : List Json → ℕ
tag_count items = length (text_set (tag_names items)) + (length items - length (tag_names items))

abbrev pub tags_error : List Json → Option (List ℕ)
tags_error items =
    if nat_le (tag_count items) 100 then first_error tag_error items else Some (codes "More than 100 tags")

abbrev pub tags_key_error : Json → Option (List ℕ)
tags_key_error body = optional_error tags_error (list_at (codes "tags") body)

-- the tags of the body, without repeats, ordered by bytes; and else these
abbrev pub tags_or : List (List ℕ) → Json → List (List ℕ)
tags_or kept body =
    unwrap_or (option_map (λ items. text_set (tag_names items)) (found_value (list_at (codes "tags") body))) kept

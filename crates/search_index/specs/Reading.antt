-- The items of a query's text. White space divides them, unless it is in double quotes.
use Rattle.std.specs.Prelude.{ℕ, ◌-◌, ◌==◌, Bool, true, false, not, ◌&&◌, if◌then◌else◌, nat_eq, zero, suc}
use Rattle.std.specs.Prelude.{List, [], ◌∷◌}
use Rattle.std.specs.Prelude.{length, map, take, Option, Some, None, encode_utf8_all, unwrap_or}
use Rattle.std.specs.List.{ends_with, filter_map}
use Rattle.std.specs.Str.{chars}
use Rattle.search_index.specs.Cut.{after_first, after_item, after_sign, begins_with, first_item, from, is_minus}
use Rattle.search_index.specs.Cut.{is_nonblank, is_quote, named_field, opens_quote, until, value_text}
use Rattle.search_index.specs.Terms.{has_words, term, word_terms}
use Rattle.search_index.specs.declared.field.Field.{Field}
use Rattle.search_index.specs.declared.field.Field.TheVariants.{Anywhere}
use Rattle.search_index.specs.declared.item.Item.{Item}
use Rattle.search_index.specs.declared.item.Test.{Test}
use Rattle.search_index.specs.declared.item.Test.TheVariants.{Term, Prefix}

-- ---- the item of a text

abbrev pub is_empty : List ℕ → Bool
is_empty text = length text == 0

-- The terms of a value: those of its words, or the one of the whole value. An empty value has one only as a prefix.
abbrev pub terms_of_value : Field → List ℕ → Bool → List (List ℕ)
terms_of_value field value is_prefix =
    if has_words field then word_terms field value
    else if is_empty value && not is_prefix then []
    else term field value ∷ []

-- the tests for these terms, the last of which is a prefix
abbrev pub prefix_tests : List (List ℕ) → List Test
prefix_tests [] = []
prefix_tests (t ∷ []) = Prefix t ∷ []
prefix_tests (t ∷ u ∷ us) = Term t ∷ prefix_tests (u ∷ us)

abbrev pub tests_of : List (List ℕ) → Bool → List Test
tests_of terms is_prefix = if is_prefix then prefix_tests terms else map Term terms

-- Without tests an item is dropped.
abbrev pub item_of_tests : Bool → List Test → Option Item
item_of_tests is_excluding [] = None
item_of_tests is_excluding (test ∷ tests) = Some (record { is_excluding = is_excluding; tests = test ∷ tests })

-- the item that asks for this value in this field
abbrev pub item_of_value : Bool → Field → List ℕ → Bool → Option Item
item_of_value is_excluding field value is_prefix =
    item_of_tests is_excluding
    (tests_of (terms_of_value field (encode_utf8_all value) is_prefix) is_prefix)

-- the value between double quotes, the second of which may be lacking
abbrev pub quoted_value : List ℕ → List ℕ
quoted_value text = until is_quote (after_first text)

-- the field of a text; one that names none means all fields that have words
abbrev pub field_of : List ℕ → Field
field_of body = unwrap_or (named_field body) Anywhere

abbrev pub is_starred : List ℕ → Bool
is_starred value = ends_with nat_eq value (42 ∷ [])

abbrev pub without_last : List ℕ → List ℕ
without_last value = take (length value - 1) value

-- the item of a value without double quotes; an asterisk at its end makes it a prefix
abbrev pub unquoted_item : Bool → Field → List ℕ → Option Item
unquoted_item is_excluding field value =
    if is_starred value then item_of_value is_excluding field (without_last value) true
    else item_of_value is_excluding field value false

-- the item of a text without its sign
abbrev pub item_of_body : Bool → List ℕ → Option Item
item_of_body is_excluding body =
    if opens_quote body then item_of_value is_excluding (field_of body) (quoted_value (value_text body)) false
    else unquoted_item is_excluding (field_of body) (value_text body)

-- The item that a text is, unless it is dropped. A plus or a minus may be before it. The minus excludes.
abbrev pub item_of_text : List ℕ → Option Item
item_of_text text = item_of_body (begins_with is_minus text) (after_sign text)

-- ---- all items

-- the texts of the items, as many as there are but at most this count
abbrev pub item_texts_within : ℕ → List ℕ → List (List ℕ)
item_texts_within zero text = []
item_texts_within (suc n) [] = []
item_texts_within (suc n) (c ∷ cs) =
    first_item (c ∷ cs) ∷ item_texts_within n (from is_nonblank (after_item (c ∷ cs)))

-- the texts of the items
abbrev pub item_texts : List ℕ → List (List ℕ)
item_texts text = item_texts_within (length text) (from is_nonblank text)

-- the items of a query's text
abbrev pub items_of : List ℕ → List Item
items_of text = filter_map item_of_text (item_texts (chars text))

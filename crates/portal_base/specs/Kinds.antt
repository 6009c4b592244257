-- The values of a body's keys by their kinds, and the faults of values of other kinds.
use Rattle.std.specs.Prelude.{ℕ, ℤ, pos, negsuc, neg_ℤ, ◌==◌, nat_le, Bool, true, false, ◌&&◌, ◌||◌, if◌then◌else◌}
use Rattle.std.specs.Prelude.{List, [], ◌∷◌, ◌++◌, length, reverse, map, filter, codes, Option, Some, None, option_map}
use Rattle.std.specs.Prelude.{option_and_then, Result, Ok, Err}
use Rattle.std.specs.Char.{is_ascii_digit}
use Rattle.std.specs.List.{list_all, list_any, slice_split}
use Rattle.std.specs.Str.{bytes_eq}
use Rattle.std.specs.Str.Parse.{digits_value}
use Rattle.std.specs.Fmt.{decimal}
use Rattle.portal_base.specs.Json.{member_of}
use Rattle.portal_base.specs.declared.json_value.Json.{Json, out-Json}
use Rattle.portal_base.specs.declared.json_value.Json.TheOpen.{Json-F}
use Rattle.portal_base.specs.declared.kinds.KindFault.{KindFault}
use Rattle.portal_base.specs.declared.kinds.KindFault.TheVariants.{Missing, NotText, NotWholeFromZero, NotWhole}
use Rattle.portal_base.specs.declared.kinds.KindFault.TheVariants.{NotTruth, NotTexts, NotList, NotDictionary, Longer}

-- ---- keys that are present

abbrev pub is_null_in : Json-F Json → Bool
is_null_in Json-F.Null = true
is_null_in other = false

-- a key with the value null counts as absent
abbrev pub non_null : Option Json → Option Json
non_null None = None
non_null (Some value) = if is_null_in (out-Json value) then None else Some value

-- the value of a dictionary's key, if the key is present
abbrev pub present : List ℕ → Json → Option Json
present key body = non_null (member_of key body)

-- ---- texts, lists and dictionaries

abbrev pub text_of : Json-F Json → Option (List ℕ)
text_of (Json-F.Text text) = Some text
text_of other = None

-- a text
abbrev pub text_in : Json → Option (List ℕ)
text_in value = text_of (out-Json value)

abbrev pub list_of : Json-F Json → Option (List Json)
list_of (Json-F.List items) = Some items
list_of other = None

-- the items of a list
abbrev pub list_in : Json → Option (List Json)
list_in value = list_of (out-Json value)

abbrev pub dictionary_of : Json-F Json → Option (List (List ℕ × Json))
dictionary_of (Json-F.Map entries) = Some entries
dictionary_of other = None

-- the entries of a dictionary
abbrev pub dictionary_in : Json → Option (List (List ℕ × Json))
dictionary_in value = dictionary_of (out-Json value)

-- ---- whole numbers

-- 1 to 18 decimal digits of ASCII
abbrev pub is_digits : List ℕ → Bool
is_digits text = nat_le 1 (length text) && nat_le (length text) 18 && list_all is_ascii_digit text

-- the number of such digits
abbrev pub digits_spelled : List ℕ → Option ℕ
digits_spelled text = if is_digits text then Some (digits_value 10 text) else None

abbrev pub negated : ℕ → ℤ
negated n = neg_ℤ (pos n)

-- the whole number of a text: `-` or nothing, and 1 to 18 digits
abbrev pub whole_spelled : List ℕ → Option ℤ
whole_spelled [] = None
whole_spelled (c ∷ cs) =
    if c == 45 then option_map negated (digits_spelled cs) else option_map pos (digits_spelled (c ∷ cs))

abbrev pub whole_of : Json-F Json → Option ℤ
whole_of (Json-F.Whole z) = Some z
whole_of (Json-F.Text text) = whole_spelled text
whole_of other = None

-- a whole number, or a text that spells one
abbrev pub whole_in : Json → Option ℤ
whole_in value = whole_of (out-Json value)

-- ---- truth values

-- the text is in the list
abbrev pub is_among : List (List ℕ) → List ℕ → Bool
is_among texts text = list_any (λ t. bytes_eq t text) texts

abbrev pub texts_of_true : List (List ℕ)
texts_of_true = codes "true" ∷ codes "True" ∷ codes "1" ∷ []

abbrev pub texts_of_false : List (List ℕ)
texts_of_false = codes "false" ∷ codes "False" ∷ codes "0" ∷ []

-- the truth value of a text
abbrev pub truth_spelled : List ℕ → Option Bool
truth_spelled text =
    if is_among texts_of_true text then Some true else if is_among texts_of_false text then Some false else None

abbrev pub truth_of : Json-F Json → Option Bool
truth_of (Json-F.Truth b) = Some b
truth_of (Json-F.Text text) = truth_spelled text
truth_of other = None

-- a truth value, or a text that spells one
abbrev pub truth_in : Json → Option Bool
truth_in value = truth_of (out-Json value)

-- ---- lists of texts

-- a space or a tab
abbrev pub is_blank : ℕ → Bool
is_blank c = (c == 32) || (c == 9)

-- without the blanks at the start
abbrev pub trimmed_start : List ℕ → List ℕ
trimmed_start [] = []
trimmed_start (c ∷ cs) = if is_blank c then trimmed_start cs else c ∷ cs

-- without the blanks at the end
abbrev pub trimmed_end : List ℕ → List ℕ
trimmed_end text = reverse (trimmed_start (reverse text))

-- without the blanks at both ends
abbrev pub trimmed : List ℕ → List ℕ
trimmed text = trimmed_end (trimmed_start text)

abbrev pub is_comma : ℕ → Bool
is_comma c = c == 44

abbrev pub is_nonempty : List ℕ → Bool
is_nonempty text = nat_le 1 (length text)

-- the parts without the blanks at both ends; empty ones are dropped
abbrev pub kept_parts : List (List ℕ) → List (List ℕ)
kept_parts parts = filter is_nonempty (map trimmed parts)

-- the texts between the commas of a text
abbrev pub texts_spelled : List ℕ → List (List ℕ)
texts_spelled text = kept_parts (slice_split is_comma text)

-- what the items are read as, if all can be read
abbrev pub all_of : {A : Type 0} → (Json → Option A) → List Json → Option (List A)
all_of read [] = Some []
all_of read (item ∷ items) = option_and_then (λ x. option_map (λ xs. x ∷ xs) (all_of read items)) (read item)

abbrev pub texts_of : Json-F Json → Option (List (List ℕ))
texts_of (Json-F.Text text) = Some (texts_spelled text)
texts_of (Json-F.List items) = all_of text_in items
texts_of other = None

-- a list of texts, unchanged, or the parts of one text
abbrev pub texts_in : Json → Option (List (List ℕ))
texts_in value = texts_of (out-Json value)

-- ---- keys of a body

-- what was read, or this fault
abbrev pub or_fault : {A : Type 0} → KindFault → Option A → Result A KindFault
or_fault fault None = Err fault
or_fault fault (Some x) = Ok x

-- what a value is read as, if it is present
abbrev pub kind_at : {A : Type 0} → (Json → Option A) → KindFault → Option Json → Result (Option A) KindFault
kind_at read fault None = Ok None
kind_at read fault (Some value) = or_fault fault (option_map Some (read value))

abbrev pub text_at : List ℕ → Json → Result (Option (List ℕ)) KindFault
text_at key body = kind_at text_in NotText (present key body)

abbrev pub whole_at : List ℕ → Json → Result (Option ℤ) KindFault
whole_at key body = kind_at whole_in NotWhole (present key body)

abbrev pub truth_at : List ℕ → Json → Result (Option Bool) KindFault
truth_at key body = kind_at truth_in NotTruth (present key body)

abbrev pub texts_at : List ℕ → Json → Result (Option (List (List ℕ))) KindFault
texts_at key body = kind_at texts_in NotTexts (present key body)

abbrev pub list_at : List ℕ → Json → Result (Option (List Json)) KindFault
list_at key body = kind_at list_in NotList (present key body)

abbrev pub dictionary_at : List ℕ → Json → Result (Option (List (List ℕ × Json))) KindFault
dictionary_at key body = kind_at dictionary_in NotDictionary (present key body)

-- the number, if it is not negative
abbrev pub from_zero : ℤ → Option ℕ
from_zero (pos n) = Some n
from_zero (negsuc n) = None

-- a whole number that is not negative
abbrev pub count_in : Json → Option ℕ
count_in value = option_and_then from_zero (whole_in value)

abbrev pub count_at : List ℕ → Json → Result (Option ℕ) KindFault
count_at key body = kind_at count_in NotWholeFromZero (present key body)

-- a text of at most `longest` bytes of UTF-8
abbrev pub within_limit : ℕ → Option (List ℕ) → Result (Option (List ℕ)) KindFault
within_limit longest None = Ok None
within_limit longest (Some text) = if nat_le (length text) longest then Ok (Some text) else Err (Longer longest)

abbrev pub bounded_by : ℕ → Result (Option (List ℕ)) KindFault → Result (Option (List ℕ)) KindFault
bounded_by longest (Err fault) = Err fault
bounded_by longest (Ok found) = within_limit longest found

-- the text of a key, of at most `longest` bytes of UTF-8
abbrev pub short_text_at : ℕ → List ℕ → Json → Result (Option (List ℕ)) KindFault
short_text_at longest key body = bounded_by longest (text_at key body)

-- the value of a required key
abbrev pub required : {A : Type 0} → Option A → Result A KindFault
required found = or_fault Missing found

-- ---- messages

-- the message of a fault
abbrev pub message_of : KindFault → List ℕ
message_of Missing = codes "Missing value"
message_of NotText = codes "Must be text"
message_of NotWholeFromZero = codes "Must be a whole number from 0"
message_of NotWhole = codes "Must be a whole number"
message_of NotTruth = codes "Must be a truth value"
message_of NotTexts = codes "Must be a list of texts"
message_of NotList = codes "Must be a list"
message_of NotDictionary = codes "Must be a dictionary"
message_of (Longer longest) = codes "Longer than " ++ decimal longest ++ codes " bytes"

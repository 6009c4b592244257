-- The text of a sort. Commas separate its parts. Each part is a name, in double quotes or not, with or without a
-- direction after it. White space is Unicode's White_Space.
use Rattle.std.specs.Prelude.{ℕ, ◌+◌, ◌-◌, ◌==◌, nat_le, Bool, false, ◌&&◌, ◌||◌, not, if◌then◌else◌}
use Rattle.std.specs.Prelude.{List, [], ◌∷◌, fold, length, take, drop, slice_index, Option, Some, None}
use Rattle.std.specs.Prelude.{option_map}
use Rattle.std.specs.List.{list_any}
use Rattle.std.specs.Str.{trim}
use Rattle.sorted_pages.specs.Direction.{DirectedName, directed}
use Rattle.datastore_query.specs.declared.sort.SortName.{SortName}

-- ---- parts

abbrev pub is_quote : ℕ → Bool
is_quote c = c == 34

-- The text after this byte is between double quotes.
abbrev pub quoted_after : Bool → ℕ → Bool
quoted_after quoted c = if is_quote c then not quoted else quoted

abbrev pub is_end : Bool → ℕ → Bool
is_end quoted c = (c == 44) && not quoted

-- the position of the first comma outside double quotes
abbrev pub comma_from : Bool → List ℕ → Option ℕ
comma_from quoted [] = None
comma_from quoted (c ∷ cs) =
    if is_end quoted c then Some 0 else option_map (λ n. n + 1) (comma_from (quoted_after quoted c) cs)

abbrev pub prepended : ℕ → List (List ℕ) → List (List ℕ)
prepended c [] = (c ∷ []) ∷ []
prepended c (part ∷ parts) = (c ∷ part) ∷ parts

-- the parts between the commas outside double quotes
abbrev pub parts_from : Bool → List ℕ → List (List ℕ)
parts_from quoted [] = [] ∷ []
parts_from quoted (c ∷ cs) =
    if is_end quoted c then [] ∷ parts_from false cs else prepended c (parts_from (quoted_after quoted c) cs)

-- the parts of a text; the empty text has none
abbrev pub parts_of : List ℕ → List (List ℕ)
parts_of [] = []
parts_of (c ∷ cs) = parts_from false (c ∷ cs)

-- a double quote is left open
abbrev pub is_unclosed : List ℕ → Bool
is_unclosed text = fold quoted_after false text

-- ---- one part

-- the text between the first and the last byte
abbrev pub inner : List ℕ → List ℕ
inner text = take (length text - 2) (drop 1 text)

-- The text begins and ends with a double quote and has no other.
abbrev pub is_between_quotes : List ℕ → Bool
is_between_quotes text =
    nat_le 2 (length text) && (is_quote (slice_index text 0)
    && (is_quote (slice_index text (length text - 1)) && not (list_any is_quote (inner text))))

-- the name, without the double quotes that it may have around it
abbrev pub name_of : List ℕ → List ℕ
name_of text = if is_between_quotes text then inner text else text

abbrev pub named : DirectedName → SortName
named part = record { name = name_of part.name; direction = part.direction }

abbrev pub is_empty_text : List ℕ → Bool
is_empty_text text = length text == 0

-- The name and the direction of a part, unless the part is empty or leaves a double quote open.
abbrev pub part_reading : List ℕ → Option SortName
part_reading part =
    if is_empty_text (trim part) || is_unclosed part then None else Some (named (directed (trim part)))

-- Names, and the first fault of a text that is no name.
use Rattle.std.specs.Prelude.{ℕ, ◌==◌, nat_le, nat_eq, Bool, not, is_none, ◌&&◌, ◌||◌, if◌then◌else◌, List, length}
use Rattle.std.specs.Prelude.{Option, Some, None, codes, ◌++◌}
use Rattle.std.specs.Fmt.{decimal}
use Rattle.std.specs.List.{list_all, enumerate_from, starts_with}
use Rattle.std.specs.Str.{bytes_eq, chars}
use Rattle.portal_base.specs.declared.name.NameFault.{NameFault}
use Rattle.portal_base.specs.declared.name.NameFault.TheVariants.{Length, Character, Reserved, OutOfMemory}

-- an ASCII letter in lower case, a digit, `-` or `_`
abbrev pub is_name_character : ℕ → Bool
is_name_character c = (nat_le 97 c && nat_le c 122) || (nat_le 48 c && nat_le c 57) || (c == 45) || (c == 95)

-- a hexadecimal digit in lower case
abbrev pub is_hexadecimal_digit : ℕ → Bool
is_hexadecimal_digit c = (nat_le 48 c && nat_le c 57) || (nat_le 97 c && nat_le c 102)

-- the characters that an id (RFC 9562, section 4) may have at a position, counted from 0
abbrev pub is_id_character : ℕ → ℕ → Bool
is_id_character position c =
    if (position == 8) || (position == 13) || (position == 18) || (position == 23) then c == 45
    else is_hexadecimal_digit c

-- an id may have each character at its position
abbrev pub has_id_characters : List ℕ → Bool
has_id_characters text = list_all (λ p. is_id_character p.0 p.1) (enumerate_from 0 text)

-- the form of an id: digits in groups of 8, 4, 4, 4 and 12
abbrev pub is_id_shaped : List ℕ → Bool
is_id_shaped text = (length text == 36) && has_id_characters text

-- an address of the portal
abbrev pub is_portal_address : List ℕ → Bool
is_portal_address text =
    bytes_eq text (codes "new") || bytes_eq text (codes "edit") || bytes_eq text (codes "search")

-- reserved for the portal's own addresses, for what it writes into harvested texts, or for ids
abbrev pub is_reserved : List ℕ → Bool
is_reserved text = is_portal_address text || starts_with nat_eq text (codes "hv-") || is_id_shaped text

-- 2 to `longest` characters (Unicode scalar values)
abbrev pub has_name_length : List ℕ → ℕ → Bool
has_name_length text longest = nat_le 2 (length (chars text)) && nat_le (length (chars text)) longest

-- all characters are allowed in names
abbrev pub has_name_characters : List ℕ → Bool
has_name_characters text = list_all is_name_character (chars text)

-- the first fault of a text as a name of at most `longest` characters
abbrev pub name_fault : List ℕ → ℕ → Option NameFault
name_fault text longest =
    if not (has_name_length text longest) then Some Length
    else if not (has_name_characters text) then Some Character
    else if is_reserved text then Some Reserved
    else None

-- whether the text is a name of at most `longest` characters
abbrev pub is_name : List ℕ → ℕ → Bool
is_name text longest = is_none (name_fault text longest)

-- whether the text is a name of any length
abbrev pub is_some_name : List ℕ → Bool
is_some_name text = nat_le 2 (length (chars text)) && has_name_characters text && not (is_reserved text)

-- the message for a text that is no name of at most `longest` characters
abbrev pub name_fault_message : ℕ → NameFault → List ℕ
name_fault_message longest Length = codes "Name must have 2 to " ++ decimal longest ++ codes " characters"
name_fault_message longest Character = codes "Name may hold only lower-case ASCII letters, digits, - and _"
name_fault_message longest Reserved = codes "That name is reserved"
name_fault_message longest OutOfMemory = codes "Want of memory"

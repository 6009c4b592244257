-- The classes of characters of RDF 1.1 N-Triples, section 7. A blank node's label may hold `:`, as in the
-- recommendation of 2014.
use Rattle.std.specs.Prelude.{ℕ, ◌==◌, nat_le, nat_lt, Bool, not, ◌&&◌, ◌||◌, List, [], ◌∷◌}
use Rattle.std.specs.List.{list_any}

-- in one of the ranges, whose ends belong to them
abbrev pub within : List (ℕ × ℕ) → ℕ → Bool
within ranges c = list_any (λ range. nat_le range.0 c && nat_le c range.1) ranges

abbrev pub is_digit : ℕ → Bool
is_digit c = nat_le 48 c && nat_le c 57

abbrev pub is_letter : ℕ → Bool
is_letter c = (nat_le 65 c && nat_le c 90) || (nat_le 97 c && nat_le c 122)

-- PN_CHARS_BASE
abbrev pub pn_chars_base : List (ℕ × ℕ)
pn_chars_base =
    (65, 90) ∷ (97, 122) ∷ (0xC0, 0xD6) ∷ (0xD8, 0xF6) ∷ (0xF8, 0x2FF) ∷ (0x370, 0x37D) ∷ (0x37F, 0x1FFF)
    ∷ (0x200C, 0x200D) ∷ (0x2070, 0x218F) ∷ (0x2C00, 0x2FEF) ∷ (0x3001, 0xD7FF) ∷ (0xF900, 0xFDCF)
    ∷ (0xFDF0, 0xFFFD) ∷ (0x1_0000, 0xE_FFFF) ∷ []

unfoldable pub is_pn_chars_base : ℕ → Bool
is_pn_chars_base c = within pn_chars_base c

-- PN_CHARS_U
unfoldable pub is_pn_chars_u : ℕ → Bool
is_pn_chars_u c = is_pn_chars_base c || (c == 95) || (c == 58)

-- what PN_CHARS has beside PN_CHARS_U, `-` and digits
abbrev pub pn_chars_more : List (ℕ × ℕ)
pn_chars_more = (0xB7, 0xB7) ∷ (0x300, 0x36F) ∷ (0x203F, 0x2040) ∷ []

-- PN_CHARS
unfoldable pub is_pn_chars : ℕ → Bool
is_pn_chars c = is_pn_chars_u c || (c == 45) || is_digit c || within pn_chars_more c

-- what IRIREF may hold unescaped: no character up to the space, and none of `<>"{}|^` and the backquote and backslash
unfoldable pub is_iri_character : ℕ → Bool
is_iri_character c =
    nat_lt 32 c
    && not (c == 60) && not (c == 62) && not (c == 34) && not (c == 123) && not (c == 125) && not (c == 124)
    && not (c == 94) && not (c == 96) && not (c == 92)

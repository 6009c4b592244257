-- Tags: texts of 2 to 100 characters, each a letter, a mark, a number, a space, `-`, `_` or `.`.
use Rattle.std.specs.Prelude.{ℕ, ◌==◌, nat_le, Bool, ◌&&◌, ◌||◌, List, length}
use Rattle.std.specs.List.{list_all}
use Rattle.std.specs.Str.{chars}
use Rattle.portal_base.specs.Characters.{is_word_character}

unfoldable pub is_tag_character : ℕ → Bool
is_tag_character c = c == 32 || c == 45 || c == 95 || c == 46 || is_word_character c

-- 2 to 100 characters (Unicode scalar values)
abbrev pub has_tag_length : List ℕ → Bool
has_tag_length text = nat_le 2 (length (chars text)) && nat_le (length (chars text)) 100

-- all characters are allowed in tags
abbrev pub has_tag_characters : List ℕ → Bool
has_tag_characters text = list_all is_tag_character (chars text)

abbrev pub is_tag : List ℕ → Bool
is_tag text = has_tag_length text && has_tag_characters text

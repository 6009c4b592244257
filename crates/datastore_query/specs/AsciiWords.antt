-- Words of ASCII texts as bytes. No public clause cites this.
use Rattle.std.specs.Prelude.{ℕ, Bool, false, ◌&&◌, not, List, [], ◌∷◌, map}
use Rattle.std.specs.Char.{is_ascii_alphanumeric, is_ascii_digit, to_ascii_lowercase}
use Rattle.std.specs.Str.{bytes_eq}
use Rattle.portal_base.specs.Tokens.{has_character}

-- a byte between words
abbrev pub is_between_ascii_words : ℕ → Bool
is_between_ascii_words byte = not (is_ascii_alphanumeric byte)

-- the word isn't empty, and in lower case it is this token
abbrev pub is_token_of : List ℕ → List ℕ → Bool
is_token_of token word = has_character word && bytes_eq (map to_ascii_lowercase word) token

abbrev pub starts_with_digit : List ℕ → Bool
starts_with_digit [] = false
starts_with_digit (byte ∷ bytes) = is_ascii_digit byte

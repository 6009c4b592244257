-- Locations with a scheme, which are no files of the host, and those that are elsewhere.
use Rattle.std.specs.Prelude.{ℕ, ◌==◌, Bool, false, ◌&&◌, ◌||◌, List, [], ◌∷◌, take, is_none, Option, Some, None, position}
use Rattle.std.specs.Char.{is_ascii_alphabetic, is_ascii_alphanumeric}
use Rattle.std.specs.List.{list_all}
use Rattle.http_front.specs.Location.{loopback_endpoint}

-- a letter, a digit, `+`, `-` or `.`
abbrev pub is_scheme_byte : ℕ → Bool
is_scheme_byte b = is_ascii_alphanumeric b || b == 43 || b == 45 || b == 46

abbrev pub begins_with_letter : List ℕ → Bool
begins_with_letter [] = false
begins_with_letter (first ∷ rest) = is_ascii_alphabetic first

-- a scheme (RFC 3986, section 3.1): only such bytes, of which the first is a letter
abbrev pub is_scheme : List ℕ → Bool
is_scheme text = begins_with_letter text && list_all is_scheme_byte text

-- the text before the colon at this position is a scheme
abbrev pub has_scheme_before : List ℕ → Option ℕ → Bool
has_scheme_before location None = false
has_scheme_before location (Some colon) = is_scheme (take colon location)

-- the location begins with a scheme and a colon
abbrev pub has_scheme : List ℕ → Bool
has_scheme location = has_scheme_before location (position (λ b. b == 58) location)

-- the location has a scheme and isn't that of a server on this machine
abbrev pub is_elsewhere : List ℕ → Bool
is_elsewhere location = has_scheme location && is_none (loopback_endpoint location)

-- The names that fields may have. Table Schema v1 ("name") asks for a text; the limits here are the portal's own.
use Rattle.std.specs.Prelude.{ℕ, ◌==◌, nat_le, Bool, false, ◌&&◌, not, List, [], ◌∷◌, length}
use Rattle.std.specs.List.{list_any}
use Rattle.std.specs.Str.{chars}
use Rattle.std.specs.Char.{is_whitespace}
use Rattle.lexical_forms.specs.Digits.{is_empty}

-- the text starts with white space (Unicode's White_Space)
abbrev pub begins_with_space : List ℕ → Bool
begins_with_space [] = false
begins_with_space (c ∷ cs) = is_whitespace c

-- the text ends with white space
abbrev pub ends_with_space : List ℕ → Bool
ends_with_space [] = false
ends_with_space (c ∷ []) = is_whitespace c
ends_with_space (c ∷ d ∷ cs) = ends_with_space (d ∷ cs)

abbrev pub begins_with_underscore : List ℕ → Bool
begins_with_underscore [] = false
begins_with_underscore (c ∷ cs) = c == 95

-- The name isn't empty, neither starts nor ends with white space, doesn't start with `_`, contains no double quote,
-- and has at most 63 bytes.
abbrev pub is_field_name : List ℕ → Bool
is_field_name name =
    not (is_empty name) && nat_le (length name) 63
    && not (begins_with_space (chars name)) && not (ends_with_space (chars name))
    && not (begins_with_underscore name) && not (list_any (λ c. c == 34) name)

-- The fields of a head (RFC 9110, sections 5.1, 8.6 and 11.6.2; RFC 9112, section 6).
use Rattle.std.specs.Prelude.{ℕ, Bool, false, not, ◌||◌, ◌==◌, List, codes}
use Rattle.std.specs.Prelude.{Option, Some, None, option_map, if◌then◌else◌}
use Rattle.std.specs.List.{find, list_any, list_all}
use Rattle.std.specs.Option.{option_and_then}
use Rattle.std.specs.Str.{str_eq_ignore_ascii_case, is_utf8}
use Rattle.portal_base.specs.Kinds.{digits_spelled}
use Rattle.http_front.specs.Head.{Pairs}

-- whether the field has this name; case is ignored
abbrev pub is_named : List ℕ → List ℕ × List ℕ → Bool
is_named name field = str_eq_ignore_ascii_case field.0 name

-- the value of the first field of this name
abbrev pub first_named : List ℕ → Pairs → Option (List ℕ)
first_named name fields = option_map (λ field. field.1) (find (is_named name) fields)

abbrev pub has_named : List ℕ → Pairs → Bool
has_named name fields = list_any (is_named name) fields

-- whether both are a number of 1 to 18 digits, and the same
abbrev pub is_same_number : Option ℕ → Option ℕ → Bool
is_same_number None b = false
is_same_number (Some m) None = false
is_same_number (Some m) (Some n) = m == n

-- whether the field is no Content-Length, or its value and the first one are the same number of 1 to 18 digits
abbrev pub agrees : List ℕ → List ℕ × List ℕ → Bool
agrees first field = not (is_named (codes "content-length") field)
    || is_same_number (digits_spelled first) (digits_spelled field.1)

-- the first Content-Length
abbrev pub length_text : Pairs → Option (List ℕ)
length_text fields = first_named (codes "content-length") fields

abbrev pub disagree : Option (List ℕ) → Pairs → Bool
disagree None fields = false
disagree (Some first) fields = not (list_all (agrees first) fields)

-- a Content-Length isn't 1 to 18 digits, or two differ
abbrev pub has_bad_length : Pairs → Bool
has_bad_length fields = disagree (length_text fields) fields

-- the length of the body, if a Content-Length gives it
abbrev pub length_given : Pairs → Option ℕ
length_given fields = option_and_then digits_spelled (length_text fields)

-- the token, if it is UTF-8
abbrev pub text_of : Option (List ℕ) → Option (List ℕ)
text_of None = None
text_of (Some value) = if is_utf8 value then Some value else None

-- the value of the first Authorization, if it is UTF-8
abbrev pub token_of : Pairs → Option (List ℕ)
token_of fields = text_of (first_named (codes "authorization") fields)

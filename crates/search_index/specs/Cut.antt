-- Where the parts of a query's text end. Texts are lists of characters here.
use Rattle.std.specs.Prelude.{ℕ, ◌==◌, Bool, false, not, ◌&&◌, ◌||◌, cond, if◌then◌else◌, nat_eq}
use Rattle.std.specs.Prelude.{List, [], ◌∷◌, length, take, drop, ◌-◌, find, Option, Some, None, is_some}
use Rattle.std.specs.Char.{is_whitespace}
use Rattle.std.specs.List.{starts_with}
use Rattle.search_index.specs.Terms.{field_prefix}
use Rattle.search_index.specs.declared.cut.Mark.{Mark}
use Rattle.search_index.specs.declared.cut.Mark.TheVariants.{Blank, Nonblank, Quote}
use Rattle.search_index.specs.declared.field.Field.{Field}
use Rattle.search_index.specs.declared.field.Field.TheVariants.{Title, Notes, Name, Organization, Tags, ResFormat}

-- ---- characters

abbrev pub is_quote : ℕ → Bool
is_quote c = c == 34

abbrev pub is_nonblank : ℕ → Bool
is_nonblank c = not (is_whitespace c)

abbrev pub is_minus : ℕ → Bool
is_minus c = c == 45

abbrev pub is_sign : ℕ → Bool
is_sign c = (c == 43) || is_minus c

abbrev pub is_mark : Mark → ℕ → Bool
is_mark Blank = is_whitespace
is_mark Nonblank = is_nonblank
is_mark Quote = is_quote

-- ---- ends

abbrev pub begins_with : (ℕ → Bool) → List ℕ → Bool
begins_with is_one [] = false
begins_with is_one (c ∷ cs) = is_one c

-- the text before the first such character, or all of it
abbrev pub until : (ℕ → Bool) → List ℕ → List ℕ
until is_one [] = []
until is_one (c ∷ cs) = cond (is_one c) [] (c ∷ until is_one cs)

-- the text from the first such character on
abbrev pub from : (ℕ → Bool) → List ℕ → List ℕ
from is_one [] = []
from is_one (c ∷ cs) = cond (is_one c) (c ∷ cs) (from is_one cs)

abbrev pub after_first : List ℕ → List ℕ
after_first [] = []
after_first (c ∷ cs) = cs

-- ---- the parts of an item

-- the text after the sign that it may begin with
abbrev pub after_sign : List ℕ → List ℕ
after_sign [] = []
after_sign (c ∷ cs) = cond (is_sign c) cs (c ∷ cs)

-- the fields that a query can name
abbrev pub named_fields : List Field
named_fields = Name ∷ Title ∷ Notes ∷ Tags ∷ Organization ∷ ResFormat ∷ []

-- the field whose name and colon the text begins with
abbrev pub named_field : List ℕ → Option Field
named_field text = find (λ field. starts_with nat_eq text (field_prefix field)) named_fields

abbrev pub after_field : Option Field → List ℕ → List ℕ
after_field None text = text
after_field (Some field) text = drop (length (field_prefix field)) text

-- the text after the field's name and colon, if it begins with these
abbrev pub value_text : List ℕ → List ℕ
value_text text = after_field (named_field text) text

-- The text begins with a field, and its value with a double quote.
abbrev pub opens_quote : List ℕ → Bool
opens_quote text = is_some (named_field text) && begins_with is_quote (value_text text)

-- what follows a value in double quotes, whose second quote may be lacking
abbrev pub after_quoted : List ℕ → List ℕ
after_quoted text = after_first (from is_quote (after_first text))

-- what follows the first item, which begins at the text's first character
abbrev pub after_body : List ℕ → List ℕ
after_body text = if opens_quote text then after_quoted (value_text text) else from is_whitespace text

abbrev pub after_item : List ℕ → List ℕ
after_item text = after_body (after_sign text)

abbrev pub first_item : List ℕ → List ℕ
first_item text = take (length text - length (after_item text)) text

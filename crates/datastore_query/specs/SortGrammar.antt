-- The grammar of a sort's text. Commas divide its parts, but not within double quotes. A part names a column, in double
-- quotes or not, and a direction if it likes; white space (Unicode's White_Space) may stand around it:
--
--     sort   = [ part *( "," part ) ]
--     part   = *white [ name [ 1*white ( "asc" / "desc" ) ] ] *white
--     name   = quoted / bare
--     quoted = %x22 *( any byte but %x22 ) %x22
use Rattle.std.specs.Prelude.{◌≡◌, ℕ, ◌==◌, Bool, false, true, ◌&&◌, not, List, [], ◌∷◌, ◌++◌}
use Rattle.std.specs.Prelude.{Option, Some, None}
use Rattle.std.specs.List.{list_any}
use Rattle.std.specs.Str.{trim}
use Rattle.sorted_pages.specs.declared.direction.Direction.{Direction}
use Rattle.sorted_pages.specs.Direction.{IsDirected}
use Rattle.datastore_query.specs.declared.sort.SortName.{SortName}
use Rattle.datastore_query.specs.SortText.{is_quote}

-- ---- double quotes

-- a byte that is neither a comma nor a double quote
abbrev pub is_plain : ℕ → Bool
is_plain c = not (is_quote c) && not (c == 44)

-- no double quote is among the bytes
abbrev pub HasNoQuote : List ℕ → Type 0
HasNoQuote text = list_any is_quote text ≡ false

-- Commas stand within double quotes alone, and each double quote that opens is closed.
pub data IsClosed : List ℕ → Type 0 where
  nothing : IsClosed []
  plain : (c : ℕ) (rest : List ℕ) → is_plain c ≡ true → IsClosed rest → IsClosed (c ∷ rest)
  quoted : (inside rest : List ℕ) → HasNoQuote inside → IsClosed rest → IsClosed (34 ∷ inside ++ 34 ∷ rest)

-- The same, and then a double quote that is left open.
pub data IsOpen : List ℕ → Type 0 where
  opened : (before inside : List ℕ) → IsClosed before → HasNoQuote inside → IsOpen (before ++ 34 ∷ inside)

-- ---- one part

-- The text is the name in double quotes, or the name alone.
pub data IsName : List ℕ → List ℕ → Type 0 where
  in_quotes : (name : List ℕ) → HasNoQuote name → IsName (34 ∷ name ++ 34 ∷ []) name
  bare : (name : List ℕ) → ((inside : List ℕ) → HasNoQuote inside → name ≡ 34 ∷ inside ++ 34 ∷ [] → ⊥)
      → IsName name name

-- What a part with no open double quote names. White space alone names nothing.
pub data IsPart (part : List ℕ) : Option SortName → Type 0 where
  blank : trim part ≡ [] → IsPart part None
  naming : (text name : List ℕ) (direction : Direction) → (trim part ≡ [] → ⊥) → IsDirected (trim part) text direction
      → IsName text name → IsPart part (Some (record { name = name; direction = direction }))

-- ---- all parts

-- What the parts of a text name. A part that leaves a double quote open is the last, and names nothing.
pub data AreParts : List ℕ → List (Option SortName) → Type 0 where
  last_part : (part : List ℕ) (named : Option SortName) → IsClosed part → IsPart part named → AreParts part (named ∷ [])
  open_part : (part : List ℕ) → IsOpen part → AreParts part (None ∷ [])
  next_part : (part rest : List ℕ) (named : Option SortName) (others : List (Option SortName)) → IsClosed part
      → IsPart part named → AreParts rest others → AreParts (part ++ 44 ∷ rest) (named ∷ others)

-- What the parts of a sort's text name. The empty text has none.
pub data AreSortParts : List ℕ → List (Option SortName) → Type 0 where
  no_parts : AreSortParts [] []
  some_parts : (c : ℕ) (cs : List ℕ) (named : List (Option SortName)) → AreParts (c ∷ cs) named
      → AreSortParts (c ∷ cs) named

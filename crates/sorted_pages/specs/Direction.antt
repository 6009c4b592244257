-- The direction of a sort: the word for it at the end of a text, and an order that is turned by it. White space is
-- Unicode's White_Space.
use Rattle.std.specs.Prelude.{◌≡◌, ℕ, ◌<◌, ◌-◌, nat_lt, nat_le, ◌&&◌, if◌then◌else◌, List, ◌++◌, codes, length, take}
use Rattle.std.specs.Prelude.{drop, Option, Some, None}
use Rattle.std.specs.Str.{bytes_eq, trim_end}
use Rattle.std.specs.Cmp.{IsTotalOrder}
use Rattle.std.specs.Ordering.{flip_args}
use Rattle.std.specs.declared.cmp.Ordering.{Ordering}
use Rattle.std.proofs.lemmas.Cmp.{back_total}
use Rattle.sorted_pages.specs.declared.direction.Direction.{Direction}
use Rattle.sorted_pages.specs.declared.direction.Direction.TheVariants.{Ascending, Descending}

-- ---- the word at the end of a text

-- a text without the direction at its end, and the direction
pub record DirectedName : Type 0 where
  pub name : List ℕ
  pub direction : Direction

abbrev pub if_shorter : List ℕ → List ℕ → Option (List ℕ)
if_shorter name front = if nat_lt (length name) (length front) then Some name else None

abbrev pub before_space : List ℕ → Option (List ℕ)
before_space front = if_shorter (trim_end front) front

-- the text before the word, if the text ends with white space and the word; the white space is trimmed
abbrev pub without_word : List ℕ → List ℕ → Option (List ℕ)
without_word word text =
    if nat_le (length word) (length text) && bytes_eq (drop (length text - length word) text) word
    then before_space (take (length text - length word) text)
    else None

abbrev pub or_ascending : List ℕ → Option (List ℕ) → DirectedName
or_ascending text None = record { name = text; direction = Ascending }
or_ascending text (Some name) = record { name = name; direction = Ascending }

abbrev pub or_descending : List ℕ → Option (List ℕ) → DirectedName
or_descending text None = or_ascending text (without_word (codes "asc") text)
or_descending text (Some name) = record { name = name; direction = Descending }

-- the text without the `asc` or `desc` at its end, and the direction
abbrev pub directed : List ℕ → DirectedName
directed text = or_descending text (without_word (codes "desc") text)

-- ---- the same, as a grammar

-- The text is the name, white space and the word.
pub record IsBeforeWord (word text name : List ℕ) : Type 0 where
  pub front : List ℕ
  pub whole : text ≡ front ++ word
  pub trimmed : name ≡ trim_end front
  pub white : length name < length front

-- The text is what names a key, with or without a direction after it. Without one, items ascend.
pub data IsDirected (text : List ℕ) : List ℕ → Direction → Type 0 where
  descending : (name : List ℕ) → IsBeforeWord (codes "desc") text name → IsDirected text name Descending
  ascending : (name : List ℕ) → IsBeforeWord (codes "asc") text name → IsDirected text name Ascending
  undirected : ((name : List ℕ) → IsBeforeWord (codes "desc") text name → ⊥)
      → ((name : List ℕ) → IsBeforeWord (codes "asc") text name → ⊥) → IsDirected text text Ascending

-- ---- an order in a direction

abbrev pub turned : {X : Type 0} → Direction → (X → X → Ordering) → X → X → Ordering
turned Ascending cmp = cmp
turned Descending cmp = flip_args cmp

pub turned_total : {X : Type 0} (direction : Direction) {cmp : X → X → Ordering} → IsTotalOrder cmp
    → IsTotalOrder (turned direction cmp)
turned_total Ascending o = o
turned_total Descending o = back_total o

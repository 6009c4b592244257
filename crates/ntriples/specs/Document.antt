-- Documents of RDF 1.1 N-Triples, sections 2 and 7: bytes that are cut into lines, each UTF-8 and of the grammar.
use Rattle.std.specs.Prelude.{◌≡◌, ℕ, ◌+◌, ◌==◌, if◌then◌else◌, Bool, true, false, ◌||◌, ◌&&◌, List, [], ◌∷◌, ◌++◌}
use Rattle.std.specs.Prelude.{length, drop, Option, Some, None, ⊤}
use Rattle.std.specs.Str.{is_utf8, chars}
use Rattle.ntriples.specs.declared.fault.NtFault.{NtFault}
use Rattle.ntriples.specs.declared.fault.NtFault.TheVariants.{Line, OutOfMemory}
use Rattle.ntriples.specs.declared.term.Triple.{Triple}
use Rattle.ntriples.specs.Grammar.{IsLine}

-- EOL: a carriage return and a line feed, or one of them
abbrev pub is_line_end : ℕ → Bool
is_line_end b = (b == 10) || (b == 13)

abbrev pub begins_with_feed : List ℕ → Bool
begins_with_feed [] = false
begins_with_feed (b ∷ bs) = b == 10

abbrev pub onto_first : ℕ → List (List ℕ) → List (List ℕ)
onto_first b [] = (b ∷ []) ∷ []
onto_first b (l ∷ ls) = (b ∷ l) ∷ ls

-- The lines without their ends; the last is what follows the last line end, and may be empty. The line feed after
-- a carriage return ends no line of its own.
unfoldable pub lines : List ℕ → List (List ℕ)
lines [] = [] ∷ []
lines (b ∷ bs) =
    if is_line_end b then [] ∷ (if (b == 13) && begins_with_feed bs then drop 1 (lines bs) else lines bs)
    else onto_first b (lines bs)

-- the bytes are a line of this triple, or of none: UTF-8 whose characters are of the form
pub record IsLineOf (bytes : List ℕ) (t : Option Triple) : Type 0 where
  pub utf8 : is_utf8 bytes ≡ true
  pub form : IsLine (chars bytes) t

abbrev pub given : Option Triple → List Triple
given None = []
given (Some t) = t ∷ []

-- each of the lines is of the form, and these are their triples in order
abbrev pub HaveTriples : List (List ℕ) → List Triple → Type 0
HaveTriples [] ts = ts ≡ []
HaveTriples (l ∷ ls) ts =
    (t : Option Triple) × (later : List Triple) × IsLineOf l t × HaveTriples ls later × (ts ≡ given t ++ later)

-- the bytes are a document of these triples
abbrev pub IsDocument : List ℕ → List Triple → Type 0
IsDocument bytes ts = HaveTriples (lines bytes) ts

-- the lines before the line of this number, counted from 1, are of the form, and that one is of none
pub record IsFirstBadLine (bytes : List ℕ) (number : ℕ) : Type 0 where
  pub before : List (List ℕ)
  pub bad : List ℕ
  pub following : List (List ℕ)
  pub cut : lines bytes ≡ before ++ bad ∷ following
  pub good : (ts : List Triple) × HaveTriples before ts
  pub malformed : (t : Option Triple) → IsLineOf bad t → ⊥
  pub counted : number ≡ length before + 1

-- why bytes are not read
abbrev pub IsFault : List ℕ → NtFault → Type 0
IsFault bytes (Line number) = IsFirstBadLine bytes number
IsFault bytes OutOfMemory = ⊤

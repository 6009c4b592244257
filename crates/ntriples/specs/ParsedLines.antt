-- How lines are read, each by the functions that read its productions.
use Rattle.std.specs.Prelude.{◌≡◌, ℕ, ◌+◌, ◌==◌, ◌&&◌, if◌then◌else◌, List, [], ◌∷◌, ◌++◌, length, drop, Option, Some}
use Rattle.std.specs.Prelude.{None, IsSome, ⊤}
use Rattle.std.specs.Str.{is_utf8, chars}
use Rattle.ntriples.specs.declared.fault.NtFault.{NtFault}
use Rattle.ntriples.specs.declared.fault.NtFault.TheVariants.{Line, OutOfMemory}
use Rattle.ntriples.specs.declared.term.Triple.{Triple}
use Rattle.ntriples.specs.Reading.{◌>>=◌}
use Rattle.ntriples.specs.Parsing.{line}
use Rattle.ntriples.specs.Document.{begins_with_feed, lines, given}

-- what follows the first line
abbrev pub lines_after : Option (List ℕ) → List (List ℕ)
lines_after None = []
lines_after (Some rest) = lines rest

-- what follows a line end, from it on, or nothing at the end of the bytes
abbrev pub after_end : List ℕ → Option (List ℕ)
after_end [] = None
after_end (b ∷ bs) = if (b == 13) && begins_with_feed bs then Some (drop 1 bs) else Some bs

-- what a line stands for: a triple or none, where it is UTF-8 and of the grammar
unfoldable pub line_of : List ℕ → Option (Option Triple)
line_of bytes = if is_utf8 bytes then line (chars bytes) else None

-- the triples of the lines in order, where each is a line
unfoldable pub triples_of : List (List ℕ) → Option (List Triple)
triples_of [] = Some []
triples_of (l ∷ ls) = do
  t ← line_of l
  ts ← triples_of ls
  Some (given t ++ ts)

-- reading the lines of the bytes gives these triples
abbrev pub IsParsed : List ℕ → List Triple → Type 0
IsParsed bytes ts = triples_of (lines bytes) ≡ Some ts

-- reading gives the lines before the line of this number, counted from 1, and not that one
pub record IsFirstUnparsed (bytes : List ℕ) (number : ℕ) : Type 0 where
  pub before : List (List ℕ)
  pub bad : List ℕ
  pub following : List (List ℕ)
  pub cut : lines bytes ≡ before ++ bad ∷ following
  pub good : IsSome (triples_of before)
  pub malformed : line_of bad ≡ None
  pub counted : number ≡ length before + 1

-- why reading stops
abbrev pub IsParseFault : List ℕ → NtFault → Type 0
IsParseFault bytes (Line number) = IsFirstUnparsed bytes number
IsParseFault bytes OutOfMemory = ⊤

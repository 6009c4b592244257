-- What the first word of the command line needs, before the words are read.
use Rattle.std.specs.Prelude.{ℕ, Bool, false, ◌||◌, List, [], ◌∷◌, codes}
use Rattle.std.specs.Str.{bytes_eq}

-- the first word is `serve`
abbrev pub is_serve : List (List ℕ) → Bool
is_serve [] = false
is_serve (word ∷ words) = bytes_eq word (codes "serve")

-- the first word names a command that always runs in real time: `load`, `harvest` or `serve`
abbrev pub is_timed : List (List ℕ) → Bool
is_timed [] = false
is_timed (word ∷ words) = bytes_eq word (codes "load") || bytes_eq word (codes "harvest") || bytes_eq word (codes "serve")

-- Lines of columns. A column has a width, counted in bytes, which are the characters of an ASCII text. A shorter text is
-- filled up with spaces, and a longer one isn't cut.
use Rattle.std.specs.Prelude.{ℕ, ◌-◌, List, [], ◌∷◌, ◌++◌, length, replicate}
use Rattle.std.specs.List.{flat_map}

-- the spaces that fill the text up
abbrev pub fill : ℕ → List ℕ → List ℕ
fill width text = replicate (width - length text) 32

-- the text at the left of its column
abbrev pub left : ℕ → List ℕ → List ℕ
left width text = text ++ fill width text

-- the text at the right of a column of 10 places
abbrev pub right : List ℕ → List ℕ
right text = fill 10 text ++ text

-- a line: the first text in a column of this width, and the others in columns of 10 places
abbrev pub line : ℕ → List ℕ → List (List ℕ) → List ℕ
line width first others = left width first ++ flat_map right others ++ 10 ∷ []

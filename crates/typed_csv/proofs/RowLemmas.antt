-- The cells of a row, in order.
use Rattle.std.proofs.Common.{◌≡◌, ◌⊎◌, inl, inr, ℕ, refl, ap, sym, List, [], ◌∷◌, ◌++◌, append_assoc, All, arith}
use Rattle.std.proofs.lemmas.Bool.Decides.{nat_tests}
use Rattle.std.proofs.lemmas.List.{append-nil}
use Rattle.std.proofs.lemmas.List.Elements.{All-append, All-cons, All-nil}
use Rattle.std.specs.Prelude.{Option, Result, Ok, Err, IfOk}
use Rattle.table_schema.specs.Field.{FieldValue}
use Rattle.table_schema.specs.Printed.{IsValue}
use Rattle.table_schema.specs.declared.cell.Cell.{Cell}
use Rattle.typed_csv.specs.declared.row.BadCell.{BadCell}
use Rattle.typed_csv.specs.Records.{text_in}
use Rattle.typed_csv.specs.Rows.{and_then, cell_or_bad, cells_reading, first_of, joined, rank_of}

-- ---- two parts of a row

-- cells followed by others, or the bad cell that is tried first
abbrev pub followed_by : Result (List Cell) BadCell → Result (List Cell) BadCell → Result (List Cell) BadCell
followed_by (Ok cells) (Ok rest) = Ok (cells ++ rest)
followed_by (Ok cells) (Err bad) = Err bad
followed_by (Err bad) (Ok rest) = Err bad
followed_by (Err bad) (Err later) = Err (first_of bad later)

first_of-first_of : (a b c : BadCell) → first_of a (first_of b c) ≡ first_of (first_of a b) c
first_of-first_of a b c = grind (arith, nat_tests)

followed_by-next : (read : Result (List Cell) BadCell) (cell : Result Cell BadCell) (rest : Result (List Cell) BadCell)
    → followed_by read (joined cell rest) ≡ followed_by (and_then read cell) rest
followed_by-next (Ok cells) (Ok cell) (Ok rest) = ap Ok (sym (append_assoc cells (cell ∷ []) rest))
followed_by-next (Ok cells) (Ok cell) (Err later) = refl
followed_by-next (Ok cells) (Err bad) (Ok rest) = refl
followed_by-next (Ok cells) (Err bad) (Err later) = refl
followed_by-next (Err first) (Ok cell) (Ok rest) = refl
followed_by-next (Err first) (Ok cell) (Err later) = refl
followed_by-next (Err first) (Err bad) (Ok rest) = refl
followed_by-next (Err first) (Err bad) (Err later) = ap Err (first_of-first_of first bad later)

followed_by-none : (read : Result (List Cell) BadCell) → followed_by read (Ok []) ≡ read
followed_by-none (Ok cells) = ap Ok (append-nil cells)
followed_by-none (Err bad) = refl

followed_by-nothing : (rest : Result (List Cell) BadCell) → rest ≡ followed_by (Ok []) rest
followed_by-nothing (Ok cells) = refl
followed_by-nothing (Err bad) = refl

-- ---- the loop over fields and their columns

pub cells-start : (width : ℕ) (texts : List (List ℕ)) (fields later : List FieldValue)
    (columns others : List (Option ℕ)) (cells : List Cell) → later ≡ fields → others ≡ columns → cells ≡ []
    → cells_reading width texts fields columns ≡ followed_by (Ok cells) (cells_reading width texts later others)
cells-start width texts fields later columns others cells first second none =
    rw first (rw second (rw none (followed_by-nothing (cells_reading width texts fields columns))))

pub cells-next : (width : ℕ) (texts : List (List ℕ)) (fields later : List FieldValue)
    (columns others : List (Option ℕ)) (field : FieldValue) (column : Option ℕ) (read : Result (List Cell) BadCell)
    (cell : Result Cell BadCell) → fields ≡ field ∷ later → columns ≡ column ∷ others
    → cell ≡ cell_or_bad field (rank_of width column) (text_in texts column)
    → followed_by read (cells_reading width texts fields columns)
    ≡ followed_by (and_then read cell) (cells_reading width texts later others)
cells-next width texts fields later columns others field column read cell more next is =
    rw more (rw next
    (rw is (followed_by-next read (cell_or_bad field (rank_of width column) (text_in texts column))
    (cells_reading width texts later others))))

pub cells-end : (width : ℕ) (texts : List (List ℕ)) (fields : List FieldValue) (columns : List (Option ℕ))
    (read : Result (List Cell) BadCell) → (fields ≡ []) ⊎ (columns ≡ [])
    → followed_by read (cells_reading width texts fields columns) ≡ read
cells-end width texts [] columns read none = followed_by-none read
cells-end width texts (field ∷ fields) [] read none = followed_by-none read
cells-end width texts (field ∷ fields) (column ∷ columns) read (inl none) = cc
cells-end width texts (field ∷ fields) (column ∷ columns) read (inr none) = cc

pub values-next : (read : Result (List Cell) BadCell) (cell : Result Cell BadCell)
    → IfOk read (λ cells. All IsValue cells) → IfOk cell IsValue
    → IfOk (and_then read cell) (λ cells. All IsValue cells)
values-next (Ok cells) (Ok cell) all one =
    All-append IsValue cells (cell ∷ []) all (All-cons IsValue cell [] one (All-nil IsValue))
values-next (Ok cells) (Err bad) all one = tt
values-next (Err first) (Ok cell) all one = tt
values-next (Err first) (Err bad) all one = tt

-- The cells of a row, and the bad cell that its error names, by the indices of fields.
use Rattle.std.proofs.Common.{◌≡◌, ◌∙◌, ◌<◌, ◌≤◌, ◌↔◌, ℕ, zero, suc, true, false, Bool, refl, ap, sym, subst, List}
use Rattle.std.proofs.Common.{[], ◌∷◌, length, nat_lt, arith}
use Rattle.std.proofs.lemmas.Bool.Decides.{nat_tests}
use Rattle.std.proofs.lemmas.List.{nil_from_length}
use Rattle.std.specs.Prelude.{if◌then◌else◌, Option, Some, Result, Ok, Err, slice_get}
use Rattle.portal_base.specs.declared.text.Text.{Text}
use Rattle.table_schema.specs.Field.{FieldValue}
use Rattle.table_schema.specs.Reading.{Fails, Reads, cell_reading}
use Rattle.table_schema.specs.declared.cell.Cell.{Cell}
use Rattle.table_schema.specs.declared.cell.CellFault.{CellFault}
use Rattle.typed_csv.specs.declared.row.BadCell.{BadCell}
use Rattle.typed_csv.specs.Laws.{AreCellsOf, IsBadAt, IsFirstBad}
use Rattle.typed_csv.specs.Records.{text_in}
use Rattle.typed_csv.specs.Rows.{cell_or_bad, cells_reading, first_of, joined, rank_of}

-- ---- one field

-- the same as `cell_or_bad`, by the reading of the text
abbrev tagged : FieldValue → ℕ → Result Cell CellFault → Result Cell BadCell
tagged field rank (Ok cell) = Ok cell
tagged field rank (Err fault) = Err (record { rank = rank; name = field.name; fault = fault })

tagged-ok : (field : FieldValue) (rank : ℕ) (read : Result Cell CellFault) (cell : Cell)
    → tagged field rank read ≡ Ok cell → read ≡ Ok cell
tagged-ok field rank (Ok given) cell e = cc
tagged-ok field rank (Err fault) cell e = cc

tagged-err : (field : FieldValue) (rank : ℕ) (read : Result Cell CellFault) (bad : BadCell)
    → tagged field rank read ≡ Err bad → (read ≡ Err bad.fault) × (bad.name ≡ field.name) × (bad.rank ≡ rank)
tagged-err field rank (Ok given) bad e = cc
tagged-err field rank (Err fault) bad e = (cc, cc, cc)

tagged-fails : (field : FieldValue) (rank : ℕ) (read : Result Cell CellFault) (bad : BadCell) → read ≡ Err bad.fault
    → bad.name ≡ field.name → bad.rank ≡ rank → tagged field rank read ≡ Err bad
tagged-fails field rank read bad e name at = rw e (rw (← name, ← at) refl)

reads-cell : (field : FieldValue) (rank : ℕ) (text : List ℕ) (cell : Cell) → cell_or_bad field rank text ≡ Ok cell
    → Reads field text cell
reads-cell field rank text cell e = tagged-ok field rank (cell_reading field text) cell e

cell-reads : (field : FieldValue) (rank : ℕ) (text : List ℕ) (cell : Cell) → Reads field text cell
    → cell_or_bad field rank text ≡ Ok cell
cell-reads field rank text cell e = ap (tagged field rank) e

-- ---- the first index, and the later ones

bad-here : (width : ℕ) (texts : List (List ℕ)) (field : FieldValue) (fields : List FieldValue) (column : Option ℕ)
    (columns : List (Option ℕ)) (bad : BadCell)
    → cell_or_bad field (rank_of width column) (text_in texts column) ≡ Err bad
    → IsBadAt width texts (field ∷ fields) (column ∷ columns) 0 bad
bad-here width texts field fields column columns bad e =
    let reported = tagged-err field (rank_of width column) (cell_reading field (text_in texts column)) bad e in
    record {
      field = field;
      column = column;
      at_index = refl;
      is_read = refl;
      fails = reported.0;
      name = reported.1;
      rank = reported.2;
    }

here-bad : (width : ℕ) (texts : List (List ℕ)) (field : FieldValue) (fields : List FieldValue) (column : Option ℕ)
    (columns : List (Option ℕ)) (bad : BadCell) → IsBadAt width texts (field ∷ fields) (column ∷ columns) 0 bad
    → cell_or_bad field (rank_of width column) (text_in texts column) ≡ Err bad
here-bad width texts field fields column columns bad h =
    let same : h.field ≡ field = cc (h.at_index) in
    let from : h.column ≡ column = cc (h.is_read) in
    let fails =
    subst (λ f. Fails f (text_in texts column) bad.fault) same
    (subst (λ c. Fails h.field (text_in texts c) bad.fault) from h.fails) in
    tagged-fails field (rank_of width column) (cell_reading field (text_in texts column)) bad fails
    (h.name ∙ ap (λ (f : FieldValue). f.name) same) (h.rank ∙ ap (rank_of width) from)

bad-up : (width : ℕ) (texts : List (List ℕ)) (field : FieldValue) (fields : List FieldValue) (column : Option ℕ)
    (columns : List (Option ℕ)) (index : ℕ) (bad : BadCell) → IsBadAt width texts fields columns index bad
    → IsBadAt width texts (field ∷ fields) (column ∷ columns) (suc index) bad
bad-up width texts field fields column columns index bad h =
    record {
      field = h.field;
      column = h.column;
      at_index = h.at_index;
      is_read = h.is_read;
      fails = h.fails;
      name = h.name;
      rank = h.rank;
    }

bad-down : (width : ℕ) (texts : List (List ℕ)) (field : FieldValue) (fields : List FieldValue) (column : Option ℕ)
    (columns : List (Option ℕ)) (index : ℕ) (bad : BadCell)
    → IsBadAt width texts (field ∷ fields) (column ∷ columns) (suc index) bad
    → IsBadAt width texts fields columns index bad
bad-down width texts field fields column columns index bad h =
    record {
      field = h.field;
      column = h.column;
      at_index = h.at_index;
      is_read = h.is_read;
      fails = h.fails;
      name = h.name;
      rank = h.rank;
    }

-- ---- cells

joined-ok : (one : Result Cell BadCell) (rest : Result (List Cell) BadCell) (cells : List Cell)
    → joined one rest ≡ Ok cells
    → (cell : Cell) × (later : List Cell) × (one ≡ Ok cell) × (rest ≡ Ok later) × (cells ≡ cell ∷ later)
joined-ok (Ok cell) (Ok later) cells e = (cell, later, refl, refl, cc)
joined-ok (Ok cell) (Err bad) cells e = cc
joined-ok (Err first) (Ok later) cells e = cc
joined-ok (Err first) (Err bad) cells e = cc

-- If a record has cells, none is bad.
none-bad : (width : ℕ) (texts : List (List ℕ)) (fields : List FieldValue) (columns : List (Option ℕ))
    (cells : List Cell) → cells_reading width texts fields columns ≡ Ok cells → (index : ℕ) (bad : BadCell)
    → IsBadAt width texts fields columns index bad → ⊥
none-bad width texts [] columns cells e index bad h = cc (h.at_index)
none-bad width texts (field ∷ fields) [] cells e index bad h = cc (h.is_read)
none-bad width texts (field ∷ fields) (column ∷ columns) cells e zero bad h =
    let parts = joined-ok (cell_or_bad field (rank_of width column) (text_in texts column))
    (cells_reading width texts fields columns) cells e in
    cc (here-bad width texts field fields column columns bad h, parts.2)
none-bad width texts (field ∷ fields) (column ∷ columns) cells e (suc index) bad h =
    let parts = joined-ok (cell_or_bad field (rank_of width column) (text_in texts column))
    (cells_reading width texts fields columns) cells e in
    none-bad width texts fields columns parts.1 parts.3 index bad
    (bad-down width texts field fields column columns index bad h)

cells-more : (texts : List (List ℕ)) (field : FieldValue) (fields : List FieldValue) (column : Option ℕ)
    (columns : List (Option ℕ)) (cell : Cell) (cells : List Cell) → Reads field (text_in texts column) cell
    → AreCellsOf texts fields columns cells → AreCellsOf texts (field ∷ fields) (column ∷ columns) (cell ∷ cells)
cells-more texts field fields column columns cell cells reads h = (ap suc h.0, each)
  where
    each : (index : ℕ) (f : FieldValue) (c : Option ℕ) (x : Cell) → slice_get (field ∷ fields) index ≡ Some f
        → slice_get (column ∷ columns) index ≡ Some c → slice_get (cell ∷ cells) index ≡ Some x
        → Reads f (text_in texts c) x
    each zero f c x at_index is_read here =
        let same : field ≡ f = cc in
        let from : column ≡ c = cc in
        let it : cell ≡ x = cc in
        subst (λ y. Reads f (text_in texts c) y) it
        (subst (λ g. Reads g (text_in texts c) cell) same
        (subst (λ d. Reads field (text_in texts d) cell) from reads))
    each (suc index) f c x at_index is_read here = h.1 index f c x at_index is_read here

cells-of : (width : ℕ) (texts : List (List ℕ)) (fields : List FieldValue) (columns : List (Option ℕ))
    (cells : List Cell) → length fields ≡ length columns → cells_reading width texts fields columns ≡ Ok cells
    → AreCellsOf texts fields columns cells
cells-of width texts [] columns cells long e =
    let none : [] ≡ cells = cc in
    (ap length (sym none), λ index field column cell at_index is_read here. cc)
cells-of width texts (field ∷ fields) [] cells long e = absurd (omega arith)
cells-of width texts (field ∷ fields) (column ∷ columns) cells long e =
    let parts = joined-ok (cell_or_bad field (rank_of width column) (text_in texts column))
    (cells_reading width texts fields columns) cells e in
    let rest = cells-of width texts fields columns parts.1 (omega arith) parts.3 in
    subst (λ cs. AreCellsOf texts (field ∷ fields) (column ∷ columns) cs) (sym parts.4)
    (cells-more texts field fields column columns parts.0 parts.1
    (reads-cell field (rank_of width column) (text_in texts column) parts.0 parts.2) rest)

of-cells : (width : ℕ) (texts : List (List ℕ)) (fields : List FieldValue) (columns : List (Option ℕ))
    (cells : List Cell) → length fields ≡ length columns → AreCellsOf texts fields columns cells
    → cells_reading width texts fields columns ≡ Ok cells
of-cells width texts [] columns cells long h = ap Ok (sym (nil_from_length cells h.0))
of-cells width texts (field ∷ fields) [] cells long h = absurd (omega arith)
of-cells width texts (field ∷ fields) (column ∷ columns) [] long h = absurd (omega arith)
of-cells width texts (field ∷ fields) (column ∷ columns) (cell ∷ cells) long h =
    let one : cell_or_bad field (rank_of width column) (text_in texts column) ≡ Ok cell =
    cell-reads field (rank_of width column) (text_in texts column) cell
    (h.1 zero field column cell refl refl refl) in
    let rest : cells_reading width texts fields columns ≡ Ok cells =
    of-cells width texts fields columns cells (omega arith) (omega arith, λ index. h.1 (suc index)) in
    ap (λ o. joined o (cells_reading width texts fields columns)) one ∙ ap (joined (Ok cell)) rest

pub schema-order : (width : ℕ) (texts : List (List ℕ)) (fields : List FieldValue) (columns : List (Option ℕ))
    (cells : List Cell) → length fields ≡ length columns
    → (cells_reading width texts fields columns ≡ Ok cells) ↔ AreCellsOf texts fields columns cells
schema-order width texts fields columns cells long =
    (cells-of width texts fields columns cells long, of-cells width texts fields columns cells long)

-- ---- the bad cell that is tried first

neither : (read : Result Cell BadCell) (cell : Cell) (bad : BadCell) → read ≡ Ok cell → read ≡ Err bad → ⊥
neither read cell bad one other = cc

same-bad : (read : Result Cell BadCell) (bad other : BadCell) → read ≡ Err bad → read ≡ Err other → bad ≡ other
same-bad read bad other one two = cc

-- The first bad cell of the later fields, if the first field has a cell.
first-later : (width : ℕ) (texts : List (List ℕ)) (field : FieldValue) (fields : List FieldValue) (column : Option ℕ)
    (columns : List (Option ℕ)) (cell : Cell) (bad : BadCell)
    → cell_or_bad field (rank_of width column) (text_in texts column) ≡ Ok cell
    → IsFirstBad width texts fields columns bad → IsFirstBad width texts (field ∷ fields) (column ∷ columns) bad
first-later width texts field fields column columns cell bad e h =
    (suc h.0, bad-up width texts field fields column columns h.0 bad h.1, each)
  where
    each : (later : ℕ) (other : BadCell) → IsBadAt width texts (field ∷ fields) (column ∷ columns) later other
        → (bad.rank ≤ other.rank) × (bad.rank ≡ other.rank → suc h.0 ≤ later)
    each zero other g =
        absurd (neither (cell_or_bad field (rank_of width column) (text_in texts column)) cell other e
        (here-bad width texts field fields column columns other g))
    each (suc later) other g = let r =
        h.2 later other (bad-down width texts field fields column columns later other g) in
        (r.0, λ same. omega (arith, r.1 same))

first-here : (width : ℕ) (texts : List (List ℕ)) (field : FieldValue) (fields : List FieldValue) (column : Option ℕ)
    (columns : List (Option ℕ)) (cells : List Cell) (bad : BadCell)
    → cell_or_bad field (rank_of width column) (text_in texts column) ≡ Err bad
    → cells_reading width texts fields columns ≡ Ok cells
    → IsFirstBad width texts (field ∷ fields) (column ∷ columns) bad
first-here width texts field fields column columns cells bad e none =
    (0, bad-here width texts field fields column columns bad e, each)
  where
    each : (later : ℕ) (other : BadCell) → IsBadAt width texts (field ∷ fields) (column ∷ columns) later other
        → (bad.rank ≤ other.rank) × (bad.rank ≡ other.rank → 0 ≤ later)
    each zero other g =
        let same : bad.rank ≡ other.rank =
        ap (λ (b : BadCell). b.rank)
        (same-bad (cell_or_bad field (rank_of width column) (text_in texts column)) bad other e
        (here-bad width texts field fields column columns other g)) in
        (omega arith, λ equal. omega arith)
    each (suc later) other g =
        absurd (none-bad width texts fields columns cells none later other
        (bad-down width texts field fields column columns later other g))

both-later : (width : ℕ) (texts : List (List ℕ)) (field : FieldValue) (fields : List FieldValue) (column : Option ℕ)
    (columns : List (Option ℕ)) (bad later : BadCell)
    → cell_or_bad field (rank_of width column) (text_in texts column) ≡ Err bad
    → IsFirstBad width texts fields columns later → later.rank < bad.rank
    → IsFirstBad width texts (field ∷ fields) (column ∷ columns) later
both-later width texts field fields column columns bad later e h lower =
    (suc h.0, bad-up width texts field fields column columns h.0 later h.1, each)
  where
    each : (index : ℕ) (other : BadCell) → IsBadAt width texts (field ∷ fields) (column ∷ columns) index other
        → (later.rank ≤ other.rank) × (later.rank ≡ other.rank → suc h.0 ≤ index)
    each zero other g =
        let same : bad.rank ≡ other.rank =
        ap (λ (b : BadCell). b.rank)
        (same-bad (cell_or_bad field (rank_of width column) (text_in texts column)) bad other e
        (here-bad width texts field fields column columns other g)) in
        (omega arith, λ equal. omega arith)
    each (suc index) other g = let r =
        h.2 index other (bad-down width texts field fields column columns index other g) in
        (r.0, λ same. omega (arith, r.1 same))

both-here : (width : ℕ) (texts : List (List ℕ)) (field : FieldValue) (fields : List FieldValue) (column : Option ℕ)
    (columns : List (Option ℕ)) (bad later : BadCell)
    → cell_or_bad field (rank_of width column) (text_in texts column) ≡ Err bad
    → IsFirstBad width texts fields columns later → bad.rank ≤ later.rank
    → IsFirstBad width texts (field ∷ fields) (column ∷ columns) bad
both-here width texts field fields column columns bad later e h no_higher =
    (0, bad-here width texts field fields column columns bad e, each)
  where
    each : (index : ℕ) (other : BadCell) → IsBadAt width texts (field ∷ fields) (column ∷ columns) index other
        → (bad.rank ≤ other.rank) × (bad.rank ≡ other.rank → 0 ≤ index)
    each zero other g =
        let same : bad.rank ≡ other.rank =
        ap (λ (b : BadCell). b.rank)
        (same-bad (cell_or_bad field (rank_of width column) (text_in texts column)) bad other e
        (here-bad width texts field fields column columns other g)) in
        (omega arith, λ equal. omega arith)
    each (suc index) other g = let r =
        h.2 index other (bad-down width texts field fields column columns index other g) in
        (omega (arith, r.0), λ same. omega arith)

first-of-both : (width : ℕ) (texts : List (List ℕ)) (field : FieldValue) (fields : List FieldValue)
    (column : Option ℕ) (columns : List (Option ℕ)) (bad later : BadCell)
    → cell_or_bad field (rank_of width column) (text_in texts column) ≡ Err bad
    → IsFirstBad width texts fields columns later
    → IsFirstBad width texts (field ∷ fields) (column ∷ columns) (first_of bad later)
first-of-both width texts field fields column columns bad later e h = by (nat_lt later.rank bad.rank) refl
  where
    by : (b : Bool) → nat_lt later.rank bad.rank ≡ b
        → IsFirstBad width texts (field ∷ fields) (column ∷ columns) (if b then later else bad)
    by true test = both-later width texts field fields column columns bad later e h (grind (arith, nat_tests))
    by false test = both-here width texts field fields column columns bad later e h (grind (arith, nat_tests))

first-step : (width : ℕ) (texts : List (List ℕ)) (field : FieldValue) (fields : List FieldValue) (column : Option ℕ)
    (columns : List (Option ℕ)) (one : Result Cell BadCell) (rest : Result (List Cell) BadCell) (bad : BadCell)
    → cell_or_bad field (rank_of width column) (text_in texts column) ≡ one
    → cells_reading width texts fields columns ≡ rest
    → ((later : BadCell) → cells_reading width texts fields columns ≡ Err later
    → IsFirstBad width texts fields columns later) → joined one rest ≡ Err bad
    → IsFirstBad width texts (field ∷ fields) (column ∷ columns) bad
first-step width texts field fields column columns (Ok cell) (Ok cells) bad one rest after e = cc
first-step width texts field fields column columns (Ok cell) (Err later) bad one rest after e =
    first-later width texts field fields column columns cell bad one (after bad (rest ∙ e))
first-step width texts field fields column columns (Err first) (Ok cells) bad one rest after e =
    let same : first ≡ bad = cc in
    first-here width texts field fields column columns cells bad (one ∙ ap Err same) rest
first-step width texts field fields column columns (Err first) (Err later) bad one rest after e =
    let same : first_of first later ≡ bad = cc in
    subst (λ b. IsFirstBad width texts (field ∷ fields) (column ∷ columns) b) same
    (first-of-both width texts field fields column columns first later one (after later rest))

reported-first : (width : ℕ) (texts : List (List ℕ)) (fields : List FieldValue) (columns : List (Option ℕ))
    (bad : BadCell) → cells_reading width texts fields columns ≡ Err bad → IsFirstBad width texts fields columns bad
reported-first width texts [] columns bad e = cc
reported-first width texts (field ∷ fields) [] bad e = cc
reported-first width texts (field ∷ fields) (column ∷ columns) bad e =
    first-step width texts field fields column columns
    (cell_or_bad field (rank_of width column) (text_in texts column)) (cells_reading width texts fields columns)
    bad refl refl (reported-first width texts fields columns) e

-- ---- there is at most one such cell

abbrev made : ℕ → Text → CellFault → BadCell
made rank name fault = record { rank = rank; name = name; fault = fault }

same-parts : (bad other : BadCell) → bad.rank ≡ other.rank → bad.name ≡ other.name → bad.fault ≡ other.fault
    → bad ≡ other
same-parts bad other rank name fault =
    ap (λ r. made r bad.name bad.fault) rank ∙ ap (λ n. made other.rank n bad.fault) name
    ∙ ap (made other.rank other.name) fault

same-at : (width : ℕ) (texts : List (List ℕ)) (fields : List FieldValue) (columns : List (Option ℕ)) (index : ℕ)
    (bad other : BadCell) → IsBadAt width texts fields columns index bad
    → IsBadAt width texts fields columns index other → bad ≡ other
same-at width texts fields columns index bad other h g =
    let same : g.field ≡ h.field = cc (g.at_index, h.at_index) in
    let from : g.column ≡ h.column = cc (g.is_read, h.is_read) in
    let fails : Fails h.field (text_in texts h.column) other.fault =
    subst (λ f. Fails f (text_in texts h.column) other.fault) same
    (subst (λ c. Fails g.field (text_in texts c) other.fault) from g.fails) in
    let one : Err bad.fault ≡ Err other.fault = sym h.fails ∙ fails in
    let fault : bad.fault ≡ other.fault = cc in
    let name : bad.name ≡ other.name = h.name ∙ ap (λ (f : FieldValue). f.name) (sym same) ∙ sym g.name in
    let rank : bad.rank ≡ other.rank = h.rank ∙ ap (rank_of width) (sym from) ∙ sym g.rank in
    same-parts bad other rank name fault

one-first : (width : ℕ) (texts : List (List ℕ)) (fields : List FieldValue) (columns : List (Option ℕ))
    (bad other : BadCell) → IsFirstBad width texts fields columns bad → IsFirstBad width texts fields columns other
    → bad ≡ other
one-first width texts fields columns bad other h g =
    let after = h.2 g.0 other g.1 in
    let before = g.2 h.0 bad h.1 in
    let same : g.0 ≡ h.0 = omega arith in
    same-at width texts fields columns h.0 bad other h.1
    (subst (λ index. IsBadAt width texts fields columns index other) same g.1)

first-reported : (width : ℕ) (texts : List (List ℕ)) (fields : List FieldValue) (columns : List (Option ℕ))
    (bad : BadCell) (read : Result (List Cell) BadCell) → cells_reading width texts fields columns ≡ read
    → IsFirstBad width texts fields columns bad → read ≡ Err bad
first-reported width texts fields columns bad (Ok cells) e h =
    absurd (none-bad width texts fields columns cells e h.0 bad h.1)
first-reported width texts fields columns bad (Err reported) e h =
    ap Err (one-first width texts fields columns reported bad (reported-first width texts fields columns reported e) h)

pub first-bad : (width : ℕ) (texts : List (List ℕ)) (fields : List FieldValue) (columns : List (Option ℕ))
    (bad : BadCell) → (cells_reading width texts fields columns ≡ Err bad) ↔ IsFirstBad width texts fields columns bad
first-bad width texts fields columns bad = (
  reported-first width texts fields columns bad,
  first-reported width texts fields columns bad
      (cells_reading width texts fields columns) refl,
)

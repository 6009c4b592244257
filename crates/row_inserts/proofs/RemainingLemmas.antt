-- The remaining pieces after a piece that waits, by the first of the remaining rows.
use Rattle.std.proofs.Common.{◌≡◌, ℕ, true, false, List, [], ◌∷◌, ◌++◌, map, refl, sym, ap, ◌∙◌, arith, true≢false}
use Rattle.std.proofs.Common.{Option, Some, None, Ok}
use Rattle.std.specs.Prelude.{if◌then◌else◌}
use Rattle.std.proofs.lemmas.Bool.{or_from}
use Rattle.std.proofs.lemmas.Bool.Decides.{nat_tests}
use Rattle.std.proofs.lemmas.List.{length_push}
use Rattle.portal_base.specs.declared.json_value.Json.{Json}
use Rattle.table_schema.specs.Field.{FieldValue}
use Rattle.table_schema.specs.declared.cell.Cell.{Cell}
use Rattle.typed_csv.specs.Rows.{Rows}
use Rattle.typed_csv.specs.Rows as rows
use Rattle.typed_csv.specs.declared.fault.LoadFault.{LoadFault}
use Rattle.row_inserts.specs.Inserts.{before, fit, is_empty, is_full, pieces_after, pieces_of_rows, sent_pieces}
use Rattle.row_inserts.specs.Inserts.{complete_pieces}
use Rattle.row_inserts.specs.Records.{record_of}
use Rattle.row_inserts.proofs.CutLemmas.{first_piece, goes_in, goes_on, goes_with, last_one}
use Rattle.row_inserts.proofs.SizeLemmas.{size_more}

-- ---- a piece that is full

full_some : (resource : List ℕ) (piece : List Json) → is_full resource piece ≡ true → is_empty piece ≡ false
full_some resource [] full = absurd (true≢false (sym full))
full_some resource (first ∷ piece) full = refl

-- No record fits with it.
full_alone : (resource : List ℕ) (piece : List Json) (next : Json) → is_full resource piece ≡ true
    → fit resource (piece ++ next ∷ []) ≡ false
full_alone resource [] next full = absurd (true≢false (sym full))
full_alone resource (first ∷ piece) next full =
    let longer = length_push (first ∷ piece) next in
    let larger = size_more resource (first ∷ piece) next in
    grind (arith, nat_tests)

module _ (resource : List ℕ) (fields : List FieldValue) where
  sent_before : (piece first : List Json) (pieces more : List (List Json)) (fault : Option LoadFault)
      → pieces ≡ first ∷ more
      → sent_pieces resource (piece ∷ pieces) fault ≡ piece ∷ sent_pieces resource pieces fault
  sent_before piece first pieces more None are = refl
  sent_before piece first pieces more (Some why) are = rw are refl

  -- ---- by the rows

  -- The piece takes the first row.
  pub put_remaining : (piece : List Json) (cells : List Cell) (more : Rows)
      → goes_with resource piece (record_of fields cells) ≡ true
      → pieces_of_rows resource fields piece (rows.before (Ok cells) more)
      ≡ pieces_of_rows resource fields (piece ++ record_of fields cells ∷ []) more
  put_remaining piece cells more goes =
      ap (λ ps. record { pieces = sent_pieces resource ps more.fault; fault = more.fault })
      (goes_in resource piece (record_of fields cells) (map (record_of fields) more.rows) goes)

  -- The first row starts another piece.
  pub next_remaining : (piece : List Json) (cells : List Cell) (more : Rows)
      → goes_with resource piece (record_of fields cells) ≡ false
      → pieces_of_rows resource fields piece (rows.before (Ok cells) more)
      ≡ before piece (pieces_of_rows resource fields (record_of fields cells ∷ []) more)
  next_remaining piece cells more stays =
      let next = record_of fields cells in
      let records = map (record_of fields) more.rows in
      let first = first_piece resource (next ∷ []) records refl in
      ap (λ ps. record { pieces = ps; fault = more.fault })
      (ap (λ ps. sent_pieces resource ps more.fault) (goes_on resource piece next records stays)
      ∙ sent_before piece (next ∷ first.0) (pieces_after resource (next ∷ []) records) first.1 more.fault
      first.2)

  full_sent : (piece records : List Json) (fault : Option LoadFault) → is_full resource piece ≡ true
      → sent_pieces resource (pieces_after resource piece records) fault
      ≡ piece ∷ sent_pieces resource (pieces_after resource [] records) fault
  full_sent piece [] None full = last_one resource piece (full_some resource piece full)
  full_sent piece [] (Some why) full =
      ap (complete_pieces resource) (last_one resource piece (full_some resource piece full))
      ∙ ap (λ b. if b then piece ∷ [] else []) full
  full_sent piece (next ∷ records) fault full =
      let first = first_piece resource (next ∷ []) records refl in
      ap (λ ps. sent_pieces resource ps fault)
      (goes_on resource piece next records
      (or_from (is_empty piece) (fit resource (piece ++ next ∷ [])) (full_some resource piece full)
      (full_alone resource piece next full)))
      ∙ sent_before piece (next ∷ first.0) (pieces_after resource (next ∷ []) records) first.1 fault first.2

  -- A full piece is sent whatever follows.
  pub full_remaining : (piece : List Json) (more : Rows) → is_full resource piece ≡ true
      → pieces_of_rows resource fields piece more ≡ before piece (pieces_of_rows resource fields [] more)
  full_remaining piece more full =
      ap (λ ps. record { pieces = ps; fault = more.fault })
      (full_sent piece (map (record_of fields) more.rows) more.fault full)

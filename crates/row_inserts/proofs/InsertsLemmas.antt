-- The results of `Inserts`, by the results of its loader and of the piece that waits.
use Rattle.std.proofs.Common.{◌≡◌, ◌↔◌, ◌≤◌, ◌<◌, ◌^◌, ℕ, true, false, List, [], ◌∷◌, ◌++◌, refl, sym, ap}
use Rattle.std.proofs.Common.{subst, ◌∙◌, inl, inr, arith, Option, Some, None, option_map, Result, Ok, Err}
use Rattle.std.proofs.lemmas.Bool.{cases_lt}
use Rattle.std.proofs.lemmas.List.{length-append}
use Rattle.portal_base.specs.declared.json_value.Json.{Json}
use Rattle.portal_base.proofs.OutsideLemmas.{Gives-append}
use Rattle.table_schema.specs.Field.{FieldValue}
use Rattle.table_schema.specs.declared.cell.Cell.{Cell}
use Rattle.typed_csv.specs.LoaderValue.{LoaderValue}
use Rattle.typed_csv.specs.LoaderValue as loading
use Rattle.typed_csv.specs.ReaderValue.{IsCounted}
use Rattle.typed_csv.specs.Rows.{Rows}
use Rattle.typed_csv.specs.Rows as rows
use Rattle.typed_csv.specs.declared.fault.LoadFault.{LoadFault}
use Rattle.typed_csv.specs.declared.fault.LoadFault.TheVariants as fault
use Rattle.row_inserts.specs.InsertsValue.{Answers, inserts_value}
use Rattle.row_inserts.specs.Inserts.{Pieces, before, is_full, pieces_of_rows}
use Rattle.row_inserts.specs.Piece.{IsInsertOf, PieceValue, Puts, piece_with}
use Rattle.row_inserts.specs.Records.{columns_of, record_of}
use Rattle.row_records.specs.Records as row
use Rattle.row_inserts.specs.declared.piece.Insert.{Insert}
use Rattle.row_records.specs.declared.columns.Column.{Column}
use Rattle.row_inserts.proofs.RemainingLemmas.{full_remaining, next_remaining, put_remaining}
use Rattle.row_inserts.proofs.CutLemmas.{goes_with}

-- ---- one call after others

-- More bytes were received.
pub counted_on : (observed mid left : Option (List ℕ)) (given now then : ℕ)
    → IsCounted observed given mid now → IsCounted mid now left then → IsCounted observed given left then
counted_on observed mid left given now then p q =
    (p.0 ++ q.0, Gives-append observed mid left p.0 q.0 p.1 q.1, omega (arith, p.2, q.2, length-append p.0 q.0))

-- A loader that returns no error received no more bytes than a source may give.
pub within_still : {X : Type 0} (x : X) (answer : Result X LoadFault) (given : ℕ) → answer ≡ Ok x
    → ((answer ≡ Err fault.Spent → ⊥) → ((answer ≡ Err fault.TooLong) ↔ (2 ^ 40 < given))) → given ≤ 2 ^ 40
within_still {X} x answer given is limit =
    let good : answer ≡ Err fault.Spent → ⊥ = λ e. cc in
    let short : answer ≡ Err fault.TooLong → ⊥ = λ e. cc in
    elim (cases_lt (2 ^ 40) given) [ inl more ↦ absurd (short ((limit good).1 more)) | inr less ↦ less ]

-- The record of a row is that by the loader's fields.
pub record_is : (made : Json) (given cells : List Cell) (columns : List Column) (begun fields : List FieldValue)
    → made ≡ row.record_of columns given → given ≡ cells → columns ≡ columns_of begun → fields ≡ begun
    → made ≡ record_of fields cells
record_is made given cells columns begun fields is same at_columns at_fields =
    is ∙ ap (row.record_of columns) same
    ∙ ap (λ cols. row.record_of cols cells) (at_columns ∙ ap columns_of (sym at_fields))

-- ---- the remaining pieces, if they are observable

module _ (resource : List ℕ) (fields : List FieldValue) (piece : List Json) where
  observed_put : (cells : List Cell) (old new : Option Rows) → old ≡ option_map (rows.before (Ok cells)) new
      → goes_with resource piece (record_of fields cells) ≡ true
      → option_map (pieces_of_rows resource fields piece) old
      ≡ option_map (pieces_of_rows resource fields (piece ++ record_of fields cells ∷ [])) new
  observed_put cells old None observed goes = ap (option_map (pieces_of_rows resource fields piece)) observed
  observed_put cells old (Some more) observed goes =
      ap (option_map (pieces_of_rows resource fields piece)) observed
      ∙ ap Some (put_remaining resource fields piece cells more goes)

  observed_next : (cells : List Cell) (old new : Option Rows) → old ≡ option_map (rows.before (Ok cells)) new
      → goes_with resource piece (record_of fields cells) ≡ false
      → option_map (pieces_of_rows resource fields piece) old
      ≡ option_map (before piece) (option_map (pieces_of_rows resource fields (record_of fields cells ∷ [])) new)
  observed_next cells old None observed stays = ap (option_map (pieces_of_rows resource fields piece)) observed
  observed_next cells old (Some more) observed stays =
      ap (option_map (pieces_of_rows resource fields piece)) observed
      ∙ ap Some (next_remaining resource fields piece cells more stays)

  observed_full : (old : Option Rows) → is_full resource piece ≡ true
      → option_map (pieces_of_rows resource fields piece) old
      ≡ option_map (before piece) (option_map (pieces_of_rows resource fields []) old)
  observed_full None full = refl
  observed_full (Some more) full = ap Some (full_remaining resource fields piece more full)

-- ---- the results

module _ {S : Type 0} where
  -- the remaining pieces after a changed piece, with a loader of the same fields
  same_remaining : (loader loader' : LoaderValue S) (piece piece' : PieceValue) → loader'.fields ≡ loader.fields
      → piece' ≡ piece
      → option_map (pieces_of_rows piece.resource loader.fields piece.records) loader'.remaining
      ≡ (inserts_value loader' piece' false).remaining
  same_remaining loader loader' piece piece' same is =
      ap (λ fs. option_map (pieces_of_rows piece.resource fs piece.records) loader'.remaining) (sym same)
      ∙ ap (λ (p : PieceValue). option_map (pieces_of_rows p.resource loader'.fields p.records) loader'.remaining)
      (sym is)

  -- The row waits with the others.
  pub remaining_put : (loader loader' : LoaderValue S) (piece piece' : PieceValue) (cells : List Cell) (added : Json)
      → loading.Answers loader.remaining (Ok (Some cells)) loader'.remaining → loader'.fields ≡ loader.fields
      → added ≡ record_of loader.fields cells → Puts piece added None piece'
      → (inserts_value loader piece false).remaining ≡ (inserts_value loader' piece' false).remaining
  remaining_put loader loader' piece piece' cells added observed same is put =
      let goes = subst (λ j. goes_with piece.resource piece.records j ≡ true) is put.0 in
      observed_put piece.resource loader.fields piece.records cells loader.remaining loader'.remaining observed goes
      ∙ same_remaining loader loader'
      (piece_with piece.resource (piece.records ++ record_of loader.fields cells ∷ [])) piece' same
      (put.1 ∙ ap (λ j. piece_with piece.resource (piece.records ++ j ∷ [])) is)

  module _ (resource : List ℕ) (observed : Option Pieces) (loader : LoaderValue S) (piece : PieceValue)
      (named : piece.resource ≡ resource) (is_observed : observed ≡ (inserts_value loader piece false).remaining) where
    given_insert : (insert : Insert) (new : Option Pieces) → IsInsertOf piece.resource piece.records insert
        → (inserts_value loader piece false).remaining ≡ option_map (before piece.records) new
        → Answers resource observed (Ok (Some insert)) new
    given_insert insert new is begins =
        (piece.records, subst (λ r. IsInsertOf r piece.records insert) named is, is_observed ∙ begins)

    -- The row starts the next insert.
    pub answers_next : (loader' : LoaderValue S) (piece' : PieceValue) (cells : List Cell) (added : Json)
        (insert : Insert)
        → loading.Answers loader.remaining (Ok (Some cells)) loader'.remaining → loader'.fields ≡ loader.fields
        → added ≡ record_of loader.fields cells → Puts piece added (Some insert) piece'
        → Answers resource observed (Ok (Some insert)) (inserts_value loader' piece' false).remaining
    answers_next loader' piece' cells added insert rows_observed same is put =
        let stays = subst (λ j. goes_with piece.resource piece.records j ≡ false) is put.0 in
        given_insert insert (inserts_value loader' piece' false).remaining put.1
        (observed_next piece.resource loader.fields piece.records cells loader.remaining loader'.remaining
        rows_observed stays
        ∙ ap (option_map (before piece.records))
        (same_remaining loader loader' (piece_with piece.resource (record_of loader.fields cells ∷ [])) piece' same
        (put.2 ∙ ap (λ j. piece_with piece.resource (j ∷ [])) is)))

    -- No row fits a full piece.
    pub answers_full : (piece' : PieceValue) (insert : Insert) → is_full piece.resource piece.records ≡ true
        → IsInsertOf piece.resource piece.records insert → piece' ≡ piece_with piece.resource []
        → Answers resource observed (Ok (Some insert)) (inserts_value loader piece' false).remaining
    answers_full piece' insert full is taken =
        given_insert insert (inserts_value loader piece' false).remaining is
        (observed_full piece.resource loader.fields piece.records loader.remaining full
        ∙ ap (option_map (before piece.records))
        (same_remaining loader loader (piece_with piece.resource []) piece' refl taken))

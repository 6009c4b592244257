-- Records that are split into pieces: the pieces are those of the law, and there are no others.
use Rattle.std.proofs.Common.{◌≡◌, ◌⊎◌, ◌↔◌, ℕ, Bool, true, false, ◌||◌, List, [], ◌∷◌, ◌++◌, All}
use Rattle.std.proofs.Common.{refl, sym, ap, subst, ◌∙◌, inl, inr, arith, append_assoc, append-nil, true≢false}
use Rattle.std.specs.Prelude.{flat_map, if◌then◌else◌}
use Rattle.std.proofs.lemmas.Bool.{cases_Bool, or_from, or_right}
use Rattle.std.proofs.lemmas.List.Elements.{All-nil, All-cons, All-head, All-tail}
use Rattle.portal_base.specs.declared.json_value.Json.{Json}
use Rattle.row_inserts.specs.Inserts.{fit, is_empty, pieces_after}
use Rattle.row_inserts.specs.Laws.{AreCut, AreFilled, IsPiece}
use Rattle.row_inserts.proofs.SizeLemmas.{fit_less}

pub some_after : (piece : List Json) (added : Json) → is_empty (piece ++ added ∷ []) ≡ false
some_after [] added = refl
some_after (first ∷ piece) added = refl

-- the records of the pieces, in order
abbrev all_of : List (List Json) → List Json
all_of pieces = flat_map (λ piece. piece) pieces

module _ (resource : List ℕ) where
  -- whether a piece takes the next record
  abbrev pub goes_with : List Json → Json → Bool
  goes_with piece next = is_empty piece || fit resource (piece ++ next ∷ [])

  -- ---- one record

  pub goes_in : (piece : List Json) (next : Json) (records : List Json) → goes_with piece next ≡ true
      → pieces_after resource piece (next ∷ records) ≡ pieces_after resource (piece ++ next ∷ []) records
  goes_in piece next records goes =
      ap (λ b. if b then pieces_after resource (piece ++ next ∷ []) records
      else piece ∷ pieces_after resource (next ∷ []) records) goes

  pub goes_on : (piece : List Json) (next : Json) (records : List Json) → goes_with piece next ≡ false
      → pieces_after resource piece (next ∷ records) ≡ piece ∷ pieces_after resource (next ∷ []) records
  goes_on piece next records stays =
      ap (λ b. if b then pieces_after resource (piece ++ next ∷ []) records
      else piece ∷ pieces_after resource (next ∷ []) records) stays

  pub last_one : (piece : List Json) → is_empty piece ≡ false → pieces_after resource piece [] ≡ piece ∷ []
  last_one piece some = ap (λ b. if b then [] else piece ∷ []) some

  -- ---- the pieces are those of the law

  -- The first piece starts with the records that waited.
  pub first_piece : (piece records : List Json) → is_empty piece ≡ false
      → (rest : List Json) × (more : List (List Json)) × (pieces_after resource piece records ≡ (piece ++ rest) ∷ more)
  first_piece piece [] some = ([], [], last_one piece some ∙ ap (λ p. p ∷ []) (sym (append-nil piece)))
  first_piece piece (next ∷ records) some =
      elim (cases_Bool (goes_with piece next)) [
        | inl goes ↦
            let on = first_piece (piece ++ next ∷ []) records (some_after piece next) in (
              next ∷ on.0,
              on.1,
              goes_in piece next records goes ∙ on.2 ∙ ap (λ p. p ∷ on.1) (append_assoc piece (next ∷ []) on.0),
            )
        | inr stays ↦ (
          [],
          pieces_after resource (next ∷ []) records,
          goes_on piece next records stays
              ∙ ap (λ p. p ∷ pieces_after resource (next ∷ []) records) (sym (append-nil piece)),
        )
      ]

  all_records_after : (piece records : List Json) → is_empty piece ≡ false
      → all_of (pieces_after resource piece records) ≡ piece ++ records
  all_records_after piece [] some = ap all_of (last_one piece some)
  all_records_after piece (next ∷ records) some =
      elim (cases_Bool (goes_with piece next)) [
        | inl goes ↦
            ap all_of (goes_in piece next records goes)
            ∙ all_records_after (piece ++ next ∷ []) records (some_after piece next)
            ∙ append_assoc piece (next ∷ []) records
        | inr stays ↦
            ap all_of (goes_on piece next records stays)
            ∙ ap (λ rs. piece ++ rs) (all_records_after (next ∷ []) records refl)
      ]

  -- One record alone is a piece.
  alone : (added : Json) → IsPiece resource (added ∷ [])
  alone added = (refl, inr refl)

  -- A piece with a record that fits is a piece.
  with_next : (piece : List Json) (next : Json) → is_empty piece ≡ false → goes_with piece next ≡ true
      → IsPiece resource (piece ++ next ∷ [])
  with_next piece next some goes =
      (some_after piece next, inl (subst (λ b. (b || fit resource (piece ++ next ∷ [])) ≡ true) some goes))

  pieces_are : (piece records : List Json) → IsPiece resource piece
      → All (IsPiece resource) (pieces_after resource piece records)
  pieces_are piece [] is =
      subst (All (IsPiece resource)) (sym (last_one piece is.0))
      (All-cons (IsPiece resource) piece [] is (All-nil (IsPiece resource)))
  pieces_are piece (next ∷ records) is =
      elim (cases_Bool (goes_with piece next)) [
        | inl goes ↦
            subst (All (IsPiece resource)) (sym (goes_in piece next records goes))
            (pieces_are (piece ++ next ∷ []) records (with_next piece next is.0 goes))
        | inr stays ↦
            subst (All (IsPiece resource)) (sym (goes_on piece next records stays))
            (All-cons (IsPiece resource) piece (pieces_after resource (next ∷ []) records) is
            (pieces_are (next ∷ []) records (alone next)))
      ]

  -- a piece without room for a record, followed by the pieces that start with that record
  filled_before : (piece : List Json) (next : Json) (rest : List Json) (pieces more : List (List Json))
      → fit resource (piece ++ next ∷ []) ≡ false → pieces ≡ (next ∷ rest) ∷ more → AreFilled resource pieces
      → AreFilled resource (piece ∷ pieces)
  filled_before piece next rest pieces more stays are filled =
      subst (λ ps. AreFilled resource (piece ∷ ps)) (sym are) (stays, subst (AreFilled resource) are filled)

  filled_after : (piece records : List Json) → is_empty piece ≡ false
      → AreFilled resource (pieces_after resource piece records)
  filled_after piece [] some = subst (AreFilled resource) (sym (last_one piece some)) tt
  filled_after piece (next ∷ records) some =
      elim (cases_Bool (goes_with piece next)) [
        | inl goes ↦
            subst (AreFilled resource) (sym (goes_in piece next records goes))
            (filled_after (piece ++ next ∷ []) records (some_after piece next))
        | inr stays ↦
            let first = first_piece (next ∷ []) records refl in
            subst (AreFilled resource) (sym (goes_on piece next records stays))
            (filled_before piece next first.0 (pieces_after resource (next ∷ []) records) first.1
            (subst (λ b. (b || fit resource (piece ++ next ∷ [])) ≡ false) some stays) first.2
            (filled_after (next ∷ []) records refl))
      ]

  cut : (records : List Json) → AreCut resource records (pieces_after resource [] records)
  cut [] = record { all_records = refl; are_pieces = All-nil (IsPiece resource); filled = tt }
  cut (first ∷ records) = record {
    all_records = all_records_after (first ∷ []) records refl;
    are_pieces = pieces_are (first ∷ []) records (alone first);
    filled = filled_after (first ∷ []) records refl;
  }

  -- ---- there are no others

  -- The first records of those that fit also fit.
  fit_front : (front after : List Json) → fit resource (front ++ after) ≡ true → fit resource front ≡ true
  fit_front front [] fits = subst (λ rs. fit resource rs ≡ true) (append-nil front) fits
  fit_front front (next ∷ after) fits =
      fit_less resource front next
      (fit_front (front ++ next ∷ []) after
      (subst (λ rs. fit resource rs ≡ true) (sym (append_assoc front (next ∷ []) after)) fits))

  -- Records that fit are in one piece.
  filling : (piece some records : List Json) → is_empty piece ≡ false
      → (some ≡ []) ⊎ (fit resource (piece ++ some) ≡ true)
      → pieces_after resource piece (some ++ records) ≡ pieces_after resource (piece ++ some) records
  filling piece [] records is fits = ap (λ p. pieces_after resource p records) (sym (append-nil piece))
  filling piece (next ∷ some) records is (inl none) = cc
  filling piece (next ∷ some) records is (inr fits) =
      let further : fit resource ((piece ++ next ∷ []) ++ some) ≡ true =
      subst (λ rs. fit resource rs ≡ true) (sym (append_assoc piece (next ∷ []) some)) fits in
      goes_in piece next (some ++ records)
      (or_right (is_empty piece) (fit resource (piece ++ next ∷ [])) (fit_front (piece ++ next ∷ []) some further))
      ∙ filling (piece ++ next ∷ []) some records (some_after piece next) (inr further)
      ∙ ap (λ p. pieces_after resource p records) (append_assoc piece (next ∷ []) some)

  -- A piece has one record, or they fit.
  one_or_fit : (first : Json) (others : List Json) → IsPiece resource (first ∷ others)
      → (others ≡ []) ⊎ (fit resource (first ∷ others) ≡ true)
  one_or_fit first [] is = inl refl
  one_or_fit first (next ∷ others) (some, inl fits) = inr fits
  one_or_fit first (next ∷ others) (some, inr one) = absurd (omega arith)

  onward : (piece : List Json) (pieces : List (List Json)) → is_empty piece ≡ false → All (IsPiece resource) pieces
      → AreFilled resource (piece ∷ pieces) → pieces_after resource piece (all_of pieces) ≡ piece ∷ pieces
  onward piece [] some are filled = last_one piece some
  onward piece ([] ∷ pieces) some are filled =
      absurd (true≢false (All-head (IsPiece resource) [] pieces are).0)
  onward piece ((first ∷ others) ∷ pieces) some are filled =
      let is = All-head (IsPiece resource) (first ∷ others) pieces are in
      goes_on piece first (others ++ all_of pieces)
      (or_from (is_empty piece) (fit resource (piece ++ first ∷ [])) some filled.0)
      ∙ ap (λ ps. piece ∷ ps)
      (filling (first ∷ []) others (all_of pieces) refl (one_or_fit first others is)
      ∙ onward (first ∷ others) pieces refl (All-tail (IsPiece resource) (first ∷ others) pieces are) filled.1)

  all_cut : (pieces : List (List Json)) → All (IsPiece resource) pieces → AreFilled resource pieces
      → pieces_after resource [] (all_of pieces) ≡ pieces
  all_cut [] are filled = refl
  all_cut ([] ∷ pieces) are filled = absurd (true≢false (All-head (IsPiece resource) [] pieces are).0)
  all_cut ((first ∷ others) ∷ pieces) are filled =
      filling (first ∷ []) others (all_of pieces) refl
      (one_or_fit first others (All-head (IsPiece resource) (first ∷ others) pieces are))
      ∙ onward (first ∷ others) pieces refl (All-tail (IsPiece resource) (first ∷ others) pieces are) filled

  pub cut_alone : (records : List Json) (pieces : List (List Json))
      → (pieces_after resource [] records ≡ pieces) ↔ AreCut resource records pieces
  cut_alone records pieces = (
    λ e. subst (AreCut resource records) e (cut records),
    λ is. ap (pieces_after resource []) (sym is.all_records) ∙ all_cut pieces is.are_pieces is.filled,
  )

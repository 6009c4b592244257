-- Records that are split into pieces, by the pieces alone, for the laws.
use Rattle.std.specs.Prelude.{◌≡◌, ◌⊎◌, ℕ, true, false, List, [], ◌∷◌, ◌++◌, length, take, All, flat_map}
use Rattle.portal_base.specs.declared.json_value.Json.{Json}
use Rattle.row_inserts.specs.Inserts.{fit, is_empty}

-- The records of one insert: they fit together, or there is only one.
abbrev pub IsPiece : List ℕ → List Json → Type 0
IsPiece resource piece = (is_empty piece ≡ false) × ((fit resource piece ≡ true) ⊎ (length piece ≡ 1))

-- Each piece has no room for the first record of the next one.
abbrev pub AreFilled : List ℕ → List (List Json) → Type 0
AreFilled resource [] = Unit {0}
AreFilled resource (piece ∷ []) = Unit {0}
AreFilled resource (piece ∷ next ∷ pieces) =
    (fit resource (piece ++ take 1 next) ≡ false) × AreFilled resource (next ∷ pieces)

-- The pieces are these records in order, split as late as possible.
pub record AreCut (resource : List ℕ) (records : List Json) (pieces : List (List Json)) : Type 0 where
  pub all_records : flat_map (λ piece. piece) pieces ≡ records
  pub are_pieces : All (IsPiece resource) pieces
  pub filled : AreFilled resource pieces

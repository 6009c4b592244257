-- The length of the body of a piece's insert with one more record.
use Rattle.std.proofs.Common.{◌≡◌, ◌↔◌, ◌≤◌, ◌<◌, ◌^◌, ℕ, ◌+◌, Bool, true, false, List, [], ◌∷◌, ◌++◌, length}
use Rattle.std.proofs.Common.{refl, sym}
use Rattle.std.proofs.Common.{◌∙◌, subst, ap, arith, true≢false, Option, Some, None, IfSome, IsTrue, SomeIff}
use Rattle.std.proofs.Common.{inl, inr, le_trans}
use Rattle.std.proofs.lemmas.Bool.{cases_lt}
use Rattle.portal_base.specs.Json.{json_text}
use Rattle.portal_base.specs.declared.json_value.Json.{Json}
use Rattle.row_inserts.specs.Inserts.{insert_size, is_empty}
use Rattle.row_inserts.specs.Piece.{PieceValue, piece_with}
use Rattle.row_inserts.proofs.SizeLemmas.{size_alone, size_after}

-- ---- whether there are records

pub empty_by : (records : List Json) (empty : Bool) → (IsTrue empty ↔ (records ≡ [])) → is_empty records ≡ empty
empty_by [] empty is = sym (is.1 refl)
empty_by (first ∷ records) true is = let none : first ∷ records ≡ [] = is.0 refl in cc
empty_by (first ∷ records) false is = refl

-- ---- the size with one more record

size_with_none : (resource : List ℕ) (records : List Json) (added : Json) (size : ℕ)
    → size ≡ insert_size resource records → is_empty records ≡ true
    → insert_size resource (records ++ added ∷ []) ≡ size + length (json_text added)
size_with_none resource [] added size is none = size_alone resource added
    ∙ ap (λ n. n + length (json_text added)) (sym is)
size_with_none resource (first ∷ records) added size is none = absurd (true≢false (sym none))

-- The first record.
pub size_first : (piece : PieceValue) (resource : List ℕ) (records : List Json) (added : Json) (size : ℕ) (empty : Bool)
    → piece_with resource records ≡ piece → size ≡ insert_size resource records
    → (IsTrue empty ↔ (records ≡ [])) → empty ≡ true
    → insert_size piece.resource (piece.records ++ added ∷ []) ≡ size + length (json_text added)
size_first piece resource records added size empty same is empty_is none =
    subst (λ p. insert_size p.resource (p.records ++ added ∷ []) ≡ size + length (json_text added)) same
    (size_with_none resource records added size is (empty_by records empty empty_is ∙ none))

-- A record after others.
pub size_next : (piece : PieceValue) (resource : List ℕ) (records : List Json) (added : Json) (size : ℕ) (empty : Bool)
    → piece_with resource records ≡ piece → size ≡ insert_size resource records
    → (IsTrue empty ↔ (records ≡ [])) → empty ≡ false
    → insert_size piece.resource (piece.records ++ added ∷ []) ≡ size + 1 + length (json_text added)
size_next piece resource records added size empty same is empty_is some =
    subst (λ p. insert_size p.resource (p.records ++ added ∷ []) ≡ size + 1 + length (json_text added)) same
    (size_after resource records added (empty_by records empty empty_is ∙ some)
    ∙ ap (λ n. n + 1 + length (json_text added)) (sym is))

-- ---- a sum that may be too large

pub sum_is : (sum : Option ℕ) (whole total : ℕ) → SomeIff sum (whole < 2 ^ 64) whole → total ≡ whole
    → IfSome sum (λ size. size ≡ total)
sum_is None whole total observed is = tt
sum_is (Some size) whole total observed is = observed.1 ∙ sym is

large_by : (part whole : ℕ) → (part < 2 ^ 64 → ⊥) → part ≤ whole → 2 ^ 64 ≤ whole
large_by part whole large within =
    elim (cases_lt part (2 ^ 64)) [ inl less ↦ absurd (large less) | inr more ↦ le_trans more within ]

-- a first part of the sum that is too large
pub part_large : (size more total : ℕ) → (size + 1 < 2 ^ 64 → ⊥) → total ≡ size + 1 + more → 2 ^ 64 ≤ total
part_large size more total large is = large_by (size + 1) total large (omega arith)

pub sum_large : (sum : Option ℕ) (whole total : ℕ) → SomeIff sum (whole < 2 ^ 64) whole → total ≡ whole → sum ≡ None
    → 2 ^ 64 ≤ total
sum_large None whole total observed is none = large_by whole total observed (omega arith)
sum_large (Some size) whole total observed is none = cc

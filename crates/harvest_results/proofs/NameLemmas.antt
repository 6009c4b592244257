-- The name of a harvested dataset tells the name of its source, since only hexadecimal digits follow its last hyphen.
use Rattle.std.proofs.Common.{◌≡◌, ℕ, zero, suc, ◌/◌, ◌%◌, ◌==◌, ◌&&◌, not, Bool, true, List, [], ◌∷◌, ◌++◌, refl}
use Rattle.std.proofs.Common.{sym, subst, inl, inr, arith, append_assoc, slice_index, ◌∙◌, true≢false}
use Rattle.std.specs.Prelude.{codes, take}
use Rattle.std.proofs.lemmas.Bool.{and_parts}
use Rattle.hex.specs.Hex.{encode_lower, encode_with, lower_digits}
use Rattle.portal_base.proofs.Unique.{IsIn}
use Rattle.sha2.specs.Sha256.{sha256}
use Rattle.harvest_records.specs.Names.{harvested_name}
use Rattle.harvest_results.proofs.JobIdLemmas.{same_before}

-- none of the bytes is a hyphen
abbrev has_no_hyphen : List ℕ → Bool
has_no_hyphen [] = true
has_no_hyphen (b ∷ bs) = not (b == 45) && has_no_hyphen bs

no_hyphen_at : (bs : List ℕ) (k : ℕ) → has_no_hyphen bs ≡ true → 45 ≡ slice_index bs k → ⊥
no_hyphen_at [] k all e = omega arith
no_hyphen_at (b ∷ bs) zero all e =
    let parts = and_parts (not (b == 45)) (has_no_hyphen bs) all in
    true≢false (sym (subst (λ n. not (n == 45) ≡ true) (sym e) parts.0))
no_hyphen_at (b ∷ bs) (suc k) all e =
    no_hyphen_at bs k (and_parts (not (b == 45)) (has_no_hyphen bs) all).1 e

hex_no_hyphen : (bs : List ℕ) → IsIn 45 (encode_lower bs) → ⊥
unfolding encode_with
hex_no_hyphen [] m = m
hex_no_hyphen (b ∷ bs) (inl e) = no_hyphen_at lower_digits (b / 16) refl e
hex_no_hyphen (b ∷ bs) (inr (inl e)) = no_hyphen_at lower_digits (b % 16) refl e
hex_no_hyphen (b ∷ bs) (inr (inr m)) = hex_no_hyphen bs m

pub harvested_name-source : (source other iri another : List ℕ)
    → harvested_name source iri ≡ harvested_name other another → source ≡ other
unfolding harvested_name
harvested_name-source source other iri another e =
    let one : List ℕ = encode_lower (take 20 (sha256 iri)) in
    let two : List ℕ = encode_lower (take 20 (sha256 another)) in
    let same : codes "hv-" ++ source ≡ codes "hv-" ++ other =
    same_before 45 (codes "hv-" ++ source) (codes "hv-" ++ other) one two (hex_no_hyphen (take 20 (sha256 iri)))
    (hex_no_hyphen (take 20 (sha256 another)))
    (sym (append_assoc (codes "hv-" ++ source) (45 ∷ []) one) ∙ e
    ∙ append_assoc (codes "hv-" ++ other) (45 ∷ []) two) in
    cc

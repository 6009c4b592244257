-- Different numbers have different ids.
use Rattle.std.proofs.Common.{◌≡◌, ℕ, zero, suc, ◌<◌, ◌^◌, Some, refl, sym, ap, ◌∙◌, arith, inl}
use Rattle.std.specs.Prelude.{All}
use Rattle.std.specs.Int.{to_be_bytes, from_be_bytes, bytes_high_first, byte_at, w128}
use Rattle.std.proofs.lemmas.List.Elements.{All-nil, All-cons}
use Rattle.uuid.specs.Text.{lower, parsed}
use Rattle.uuid.proofs.RoundTrips.{parses_hyphenated}
use Rattle.uuid.proofs.OrderLemmas.{from_be_bytes-to_be_bytes_16}
use Rattle.portal_base.specs.Id.{id_text}

byte_at_bound : (position n : ℕ) → byte_at position n < 256
byte_at_bound zero n = omega arith
byte_at_bound (suc position) n = omega arith

-- Each byte is below 256.
pub All-bytes_high_first : (count n : ℕ) → All (λ b. b < 256) (bytes_high_first count n)
All-bytes_high_first zero n = All-nil _
All-bytes_high_first (suc count) n = All-cons (λ b. b < 256) (byte_at count n) (bytes_high_first count n)
    (byte_at_bound count n) (All-bytes_high_first count n)

-- An id parses to the bytes of its number.
pub parsed-id_text : (n : ℕ) → parsed (id_text n) ≡ Some (to_be_bytes w128 n)
parsed-id_text n = sym (parses_hyphenated lower (to_be_bytes w128 n) (inl refl) refl (All-bytes_high_first 16 n))

pub id_text_injective : (m n : ℕ) → m < 2 ^ 128 → n < 2 ^ 128 → id_text m ≡ id_text n → m ≡ n
id_text_injective m n fits_m fits_n e =
    let read : Some (to_be_bytes w128 m) ≡ Some (to_be_bytes w128 n) = sym (parsed-id_text m) ∙ ap parsed e
    ∙ parsed-id_text n in
    let bytes : to_be_bytes w128 m ≡ to_be_bytes w128 n = cc in
    sym (from_be_bytes-to_be_bytes_16 m fits_m) ∙ ap (from_be_bytes w128) bytes ∙ from_be_bytes-to_be_bytes_16 n fits_n

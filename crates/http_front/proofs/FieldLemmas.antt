-- Digits are ASCII, and the test of UTF-8.
use Rattle.std.proofs.Common.{◌≡◌, ℕ, ◌<◌, List, [], ◌∷◌, Bool, true, false, ◌&&◌, All, arith, rules, refl}
use Rattle.std.specs.Prelude.{None}
use Rattle.std.specs.Char.{is_ascii_digit}
use Rattle.std.specs.List.{list_all}
use Rattle.std.specs.Str.{IsUtf8, is_utf8}
use Rattle.std.proofs.lemmas.List.Elements.{All-cons}
use Rattle.std.proofs.lemmas.Str.{IsUtf8-from_ascii, IsUtf8-from_is_utf8, is_utf8-from_IsUtf8}
use Rattle.std.proofs.lemmas.Str.Ascii.{IsAscii-from_all}
use Rattle.portal_base.specs.Kinds.{is_digits, digits_spelled}
use Rattle.portal_base.proofs.KindLemmas.{digits_parts}

digit_small : (b : ℕ) → is_ascii_digit b ≡ true → b < 128
digit_small b h = grind arith

both : (a b : Bool) → (a && b) ≡ true → (a ≡ true) × (b ≡ true)
both true true h = (refl, refl)
both true false h = absurd (cc)
both false b h = absurd (cc)

all_small : (bytes : List ℕ) → list_all is_ascii_digit bytes ≡ true → All (λ b. b < 128) bytes
all_small [] h = search rules
all_small (b ∷ bs) h =
    let p = both (is_ascii_digit b) (list_all is_ascii_digit bs) h in
    All-cons (λ c. c < 128) b bs (digit_small b p.0) (all_small bs p.1)

digits_text : (bytes : List ℕ) → is_digits bytes ≡ true → IsUtf8 bytes
digits_text bytes e =
    IsUtf8-from_ascii bytes (IsAscii-from_all bytes (all_small bytes (digits_parts bytes e).2))

pub not_digits : (bytes : List ℕ) → ¬ (IsUtf8 bytes) → digits_spelled bytes ≡ None
not_digits bytes h = cases (is_digits bytes) refl
  where
    cases : (t : Bool) → is_digits bytes ≡ t → digits_spelled bytes ≡ None
    cases true e = absurd (h (digits_text bytes e))
    cases false e = rw e refl

pub is_text : (bytes : List ℕ) → IsUtf8 bytes → is_utf8 bytes ≡ true
is_text bytes h = is_utf8-from_IsUtf8 bytes h

pub is_no_text : (bytes : List ℕ) → ¬ (IsUtf8 bytes) → is_utf8 bytes ≡ false
is_no_text bytes h = cases (is_utf8 bytes) refl
  where
    cases : (t : Bool) → is_utf8 bytes ≡ t → is_utf8 bytes ≡ false
    cases true e = absurd (h (IsUtf8-from_is_utf8 bytes e))
    cases false e = e

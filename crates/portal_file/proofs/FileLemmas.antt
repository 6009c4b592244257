-- The test for UTF-8 and what it tests.
use Rattle.std.proofs.Common.{◌≡◌, ℕ, Bool, true, false, List, refl}
use Rattle.std.specs.Prelude.{IsUtf8}
use Rattle.std.specs.Str.{is_utf8}
use Rattle.std.proofs.lemmas.Str.{IsUtf8-from_is_utf8, is_utf8-from_IsUtf8}

pub utf8_true : (bytes : List ℕ) → IsUtf8 bytes → is_utf8 bytes ≡ true
utf8_true = is_utf8-from_IsUtf8

pub utf8_false : (bytes : List ℕ) → ¬ IsUtf8 bytes → is_utf8 bytes ≡ false
utf8_false bytes other = cases (is_utf8 bytes) refl
  where
    cases : (b : Bool) → is_utf8 bytes ≡ b → b ≡ false
    cases true e = absurd (other (IsUtf8-from_is_utf8 bytes e))
    cases false e = refl

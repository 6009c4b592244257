-- Names in lists, and the digits of numbers.
use Rattle.std.proofs.Common.{◌≡◌, ℕ, ◌≤◌, length, Bool, true, false, ◌&&◌, ltb, leb, List, refl}
use Rattle.std.proofs.Common.{arith, leb-true, le-leb}
use Rattle.std.specs.Char.{is_ascii_digit}
use Rattle.std.specs.List.{list_all}
use borrow.Author.Tests.{ltb-true}
use Rattle.portal_base.specs.Kinds.{is_digits}
use Rattle.portal_words.specs.Commands.{is_number}

-- A number is digits, of which 64 bits hold every text of so few.
pub number-digits : (text : List ℕ) → is_number text ≡ true → is_digits text ≡ true
number-digits text e =
    parts (ltb 0 (length text)) (leb (length text) 10) (list_all is_ascii_digit text) refl refl refl e
  where
    parts : (a b c : Bool) → ltb 0 (length text) ≡ a → leb (length text) 10 ≡ b → list_all is_ascii_digit text ≡ c
        → (a && b && c) ≡ true → is_digits text ≡ true
    parts true true true some few digits h =
        let short : length text ≤ 10 = leb-true (length text) 10 few in
        let one = ltb-true 0 (length text) some in
        rw (le-leb 1 (length text) (omega arith), le-leb (length text) 18 (omega arith), digits) refl
    parts true true false some few digits h = absurd (cc)
    parts true false c some few digits h = absurd (cc)
    parts false b c some few digits h = absurd (cc)

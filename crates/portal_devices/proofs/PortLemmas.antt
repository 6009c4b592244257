-- The digits of a port.
use Rattle.std.proofs.Common.{◌≡◌, ◌≤◌, ℕ, length, Bool, true, false, ◌&&◌, ltb, leb, List}
use Rattle.std.proofs.Common.{refl, arith, leb-true, le-leb}
use Rattle.std.specs.Char.{is_ascii_digit}
use Rattle.std.specs.List.{list_all}
use borrow.Author.Tests.{ltb-true}
use Rattle.portal_base.specs.Kinds.{is_digits}
use Rattle.portal_devices.specs.Port.{is_port_number}

-- A port's number has at most 5 digits, so it fits 64 bits.
pub port-digits : (text : List ℕ) → is_port_number text ≡ true → is_digits text ≡ true
port-digits text e =
    parts (ltb 0 (length text)) (leb (length text) 5) (list_all is_ascii_digit text) refl refl refl e
  where
    parts : (a b c : Bool) → ltb 0 (length text) ≡ a → leb (length text) 5 ≡ b → list_all is_ascii_digit text ≡ c
        → (a && b && c) ≡ true → is_digits text ≡ true
    parts true true true some few digits h =
        let short : length text ≤ 5 = leb-true (length text) 5 few in
        let one = ltb-true 0 (length text) some in
        rw (le-leb 1 (length text) (omega arith), le-leb (length text) 18 (omega arith), digits) refl
    parts true true false some few digits h = absurd (cc)
    parts true false c some few digits h = absurd (cc)
    parts false b c some few digits h = absurd (cc)

-- The escapes of case files.
use Rattle.std.specs.Prelude.{ℕ, Bool, nat_le, ◌==◌, ◌+◌, ◌-◌, ◌&&◌, if◌then◌else◌, Option, Some, None}

-- the byte that a letter after the backslash stands for
abbrev pub byte_of_letter : ℕ → Option ℕ
byte_of_letter letter =
    if letter == 110 then Some 10
    else if letter == 114 then Some 13
    else if letter == 116 then Some 9
    else if letter == 115 then Some 32
    else if letter == 92 then Some 92
    else None

-- whether a byte stands from the first to the last
abbrev pub is_from : ℕ → ℕ → ℕ → Bool
is_from first last byte = nat_le first byte && nat_le byte last

-- the value of a hexadecimal digit: 0 to 9, A to F, a to f
abbrev pub value_of_digit : ℕ → Option ℕ
value_of_digit digit =
    if is_from 48 57 digit then Some (digit - 48)
    else if is_from 65 70 digit then Some (digit - 65 + 10)
    else if is_from 97 102 digit then Some (digit - 97 + 10)
    else None

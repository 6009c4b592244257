-- The port that a text names.
use Rattle.std.specs.Prelude.{ℕ, nat_le, nat_lt, Bool, ◌&&◌, if◌then◌else◌, List}
use Rattle.std.specs.Prelude.{length, Option, Some, None, option_and_then}
use Rattle.std.specs.Char.{is_ascii_digit}
use Rattle.std.specs.List.{list_all}
use Rattle.std.specs.Str.Parse.{digits_value}

-- 1 to 5 decimal digits of ASCII, which may begin with zeros
abbrev pub is_port_number : List ℕ → Bool
is_port_number text = nat_lt 0 (length text) && nat_le (length text) 5 && list_all is_ascii_digit text

-- the number that they spell
abbrev pub port_number : List ℕ → Option ℕ
port_number text = if is_port_number text then Some (digits_value 10 text) else None

-- a port (RFC 9293, section 3.1) that can be listened at: 16 bits, and not 0
abbrev pub port_of : ℕ → Option ℕ
port_of number = if nat_lt 0 number && nat_le number 65535 then Some number else None

-- the port that a text names
abbrev pub port_in : List ℕ → Option ℕ
port_in text = option_and_then port_of (port_number text)

-- Positions in a record, between two bytes (RFC 4180, section 2).
use Rattle.std.specs.Prelude.{◌≡◌, ◌≤◌, ◌<◌, ℕ, Bool, true, false, ◌==◌, ◌||◌, if◌then◌else◌, List, [], ◌∷◌, length}
use Rattle.std.specs.Prelude.{take, drop, Option, Some, None}
use Rattle.typed_csv.specs.declared.scan.Position.{Position}
use Rattle.typed_csv.specs.declared.scan.Position.TheVariants as position

-- the position after a byte that isn't a quote, or after a quote that has no meaning there
abbrev pub unquoted_position : ℕ → Position
unquoted_position byte =
    if byte == 44 then position.FieldStart
    else if (byte == 13) || (byte == 10) then position.RecordStart
    else position.Unquoted

-- A quote at the start of a field opens quotes, and a quote after another one in quotes continues them.
abbrev pub next_position : Position → ℕ → Position
next_position position.Quoted byte = if byte == 34 then position.AfterQuote else position.Quoted
next_position position.Unquoted byte = unquoted_position byte
next_position position.RecordStart byte = if byte == 34 then position.Quoted else unquoted_position byte
next_position position.FieldStart byte = if byte == 34 then position.Quoted else unquoted_position byte
next_position position.AfterQuote byte = if byte == 34 then position.Quoted else unquoted_position byte

abbrev pub position_after : Position → List ℕ → Position
position_after start [] = start
position_after start (byte ∷ bytes) = position_after (next_position start byte) bytes

-- the position is between two records
abbrev pub is_start : Position → Bool
is_start position.RecordStart = true
is_start other = false

-- a position after one or more of the bytes is between two records
abbrev pub has_start : Position → List ℕ → Bool
has_start start [] = false
has_start start (byte ∷ bytes) = is_start (next_position start byte) || has_start (next_position start byte) bytes

-- The count is that of the bytes up to the last position between two records, if there is one after a byte.
abbrev pub IsLastStart : Position → List ℕ → Option ℕ → Type 0
IsLastStart start bytes None = has_start start bytes ≡ false
IsLastStart start bytes (Some count) =
    (count ≤ length bytes) × (position_after start (take count bytes) ≡ position.RecordStart)
    × (has_start position.RecordStart (drop count bytes) ≡ false)

-- The bytes have no complete record, or are too few to decide whether they start with a byte order mark.
abbrev pub IsIncomplete : Bool → List ℕ → Type 0
IsIncomplete true held = length held < 3
IsIncomplete false held = has_start position.RecordStart held ≡ false

-- Ids: the text of a UUID (RFC 9562, section 4), in lower case.
use Rattle.std.specs.Prelude.{ℕ, List}
use Rattle.std.specs.Int.{to_be_bytes, w128}
use Rattle.uuid.specs.Text.{hyphenated_text, lower}

-- The 128 bits of the number, as 32 hexadecimal digits in groups of 8, 4, 4, 4 and 12 with `-` between them.
abbrev pub id_text : ℕ → List ℕ
id_text number = hyphenated_text lower (to_be_bytes w128 number)

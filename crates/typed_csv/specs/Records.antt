-- The records of a text of CSV (RFC 4180), as the crate `csv` reads them with its default settings, except that their
-- widths may differ. A record is a list of fields.
use Rattle.std.specs.Prelude.{ℕ, Bool, List, [], Option, Some, None, unwrap_or}
use Rattle.std.specs.List.{list_all}
use Rattle.std.specs.Str.{is_utf8}
use Rattle.csv.specs.Reading.{default_config, records, strip_bom}
use Rattle.csv.specs.Records.{field_at}

-- The records of a text, without a byte order mark at its start. An empty line isn't a record.
abbrev pub records_of : List ℕ → List (List (List ℕ))
records_of text = records default_config (strip_bom text)

-- each field of a record is UTF-8
abbrev pub is_text : List (List ℕ) → Bool
is_text fields = list_all is_utf8 fields

-- the field at an index, counted from 0, or the empty text if there is none
abbrev pub text_at : List (List ℕ) → ℕ → List ℕ
text_at fields index = unwrap_or (field_at fields index) []

-- the text in a column, or the empty text if there is no column
abbrev pub text_in : List (List ℕ) → Option ℕ → List ℕ
text_in fields None = []
text_in fields (Some column) = text_at fields column

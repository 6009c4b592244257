-- Rows whose body is the text of a JSON value.
use Rattle.std.specs.Prelude.{ℕ, List}
use Rattle.portal_base.specs.Json.{json_text}
use Rattle.portal_base.specs.declared.json_value.Json.{Json}
use Rattle.portal_keeper.specs.declared.row.KeptRow.{KeptRow}
use Rattle.portal_keeper.specs.declared.row.RowKind.{RowKind}

-- the row of this kind and key whose body is the text of the value
abbrev pub json_row : RowKind → List ℕ → Json → KeptRow
json_row kind key value = record { kind = kind; key = key; body = json_text value }

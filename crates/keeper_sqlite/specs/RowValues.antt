-- The rows of the table: the number of a kind, a key and a body.
use Rattle.std.specs.Prelude.{◌≢◌, pos, [], ◌∷◌, IsUtf8}
use Rattle.sqlite.specs.Order.{Row}
use Rattle.sqlite.specs.declared.types.Value.TheVariants.{Int, Text}
use Rattle.portal_keeper.specs.Rows.{kind_number}
use Rattle.portal_keeper.specs.declared.row.KeptRow.{KeptRow}

-- the values of a kept row, in the order of the columns `kind`, `name` and `body`
abbrev pub values_of : KeptRow → Row
values_of row = Int (pos (kind_number row.kind)) ∷ Text row.key ∷ Text row.body ∷ []

-- The values are those of no kept row, whose key and body are UTF-8.
abbrev pub IsForeign : Row → Type 0
IsForeign values = (row : KeptRow) → IsUtf8 row.key → IsUtf8 row.body → values ≢ values_of row

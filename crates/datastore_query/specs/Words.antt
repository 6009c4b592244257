-- Words: which rows have each word of a query as a token of a cell.
use Rattle.std.specs.Prelude.{ℕ, Bool, List, flat_map}
use Rattle.std.specs.List.{list_all, list_any}
use Rattle.std.specs.Str.{bytes_eq}
use Rattle.portal_base.specs.Tokens.{tokens}
use Rattle.table_schema.specs.declared.cell.Cell.{Cell}
use Rattle.table_schema.specs.Printed.{cell_text}
use Rattle.datastore_table.specs.declared.row.Row.{Row}

abbrev pub cell_tokens : Cell → List (List ℕ)
cell_tokens c = tokens (cell_text c)

-- the tokens of a row's printed cells; its `_id` is not among them
abbrev pub row_tokens : Row → List (List ℕ)
row_tokens row = flat_map cell_tokens row.cells

abbrev pub has_word : List (List ℕ) → List ℕ → Bool
has_word found word = list_any (λ token. bytes_eq token word) found

-- each of these words is a token of the row
abbrev pub has_words : List (List ℕ) → Row → Bool
has_words words row = list_all (has_word (row_tokens row)) words

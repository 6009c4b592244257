-- When a row passes the filters of a query, and when it has the query's words.
use Rattle.std.specs.Prelude.{◌≡◌, ℕ, true, List, [], ◌∷◌, ◌++◌, All, Contains, pos}
use Rattle.std.specs.Str.{chars}
use Rattle.portal_base.specs.Characters.{is_word_character}
use Rattle.portal_base.specs.Tokens.{folded, is_between_words}
use Rattle.table_schema.specs.declared.cell.Cell.{Cell}
use Rattle.table_schema.specs.declared.cell.Cell.TheVariants as cell
use Rattle.table_schema.specs.Printed.{cell_text}
use Rattle.datastore_table.specs.declared.row.Row.{Row}
use Rattle.datastore_table.specs.Cells.{cell_at}
use Rattle.datastore_query.specs.declared.column.Column.{Column}
use Rattle.datastore_query.specs.declared.column.Column.TheVariants as column
use Rattle.datastore_query.specs.declared.filter.Filter.{Filter}

-- ---- filters

-- the row's value in the column: its `_id` as a whole number, or its cell
abbrev pub value_at : Column → Row → Cell
value_at column.Id row = cell.Int (pos row.id)
value_at (column.Field index) row = cell_at row.cells index

-- In the column of each filter, the row has one of the filter's values. Null is a value like others. A filter without
-- values lets no row pass.
abbrev pub PassesFilters : List Filter → Row → Type 0
PassesFilters filters row =
    (filter : Filter) → Contains filters filter → Contains filter.values (value_at filter.column row)

-- ---- words

-- what can stand before a word: nothing, or characters that end with one between words
pub data IsBeforeWord : List ℕ → Type 0 where
  nothing : IsBeforeWord []
  ending : (front : List ℕ) (c : ℕ) → is_between_words c ≡ true → IsBeforeWord (front ++ c ∷ [])

-- what can stand after a word: nothing, or characters that begin with one between words
pub data IsAfterWord : List ℕ → Type 0 where
  nothing : IsAfterWord []
  beginning : (c : ℕ) (rest : List ℕ) → is_between_words c ≡ true → IsAfterWord (c ∷ rest)

-- The characters have this word: letters, marks and numbers, as many as stand together.
pub record HaveWord (characters word : List ℕ) : Type 0 where
  pub before : List ℕ
  pub after : List ℕ
  pub whole : characters ≡ before ++ (word ++ after)
  pub some : word ≡ [] → ⊥
  pub each : All (λ c. is_word_character c ≡ true) word
  pub starts : IsBeforeWord before
  pub ends : IsAfterWord after

-- The text of one of the row's cells has a word of which this is the case folding.
pub record HasWord (row : Row) (token : List ℕ) : Type 0 where
  pub at : Cell
  pub among : Contains row.cells at
  pub word : List ℕ
  pub has : HaveWord (chars (cell_text at)) word
  pub folds : folded word ≡ token

-- The row has each of these words.
abbrev pub HasWords : List (List ℕ) → Row → Type 0
HasWords words row = (word : List ℕ) → Contains words word → HasWord row word

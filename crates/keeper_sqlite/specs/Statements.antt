-- The statements of the keeper over SQLite: three that change the database, with their parameters, and the selection of
-- all rows. The table has a row for each kept row, and orders names by their bytes (the collation BINARY).
use Rattle.std.specs.Prelude.{ℕ, pos, List, [], ◌∷◌, map, codes}
use Rattle.sqlite.specs.Order.{Row}
use Rattle.sqlite.specs.declared.types.Value.TheVariants.{Int, Text}
use Rattle.portal_keeper.specs.Rows.{kind_number}
use Rattle.portal_keeper.specs.declared.change.Change.{Change}
use Rattle.portal_keeper.specs.declared.change.Change.TheVariants.{Put, Remove}
use Rattle.keeper_sqlite.specs.RowValues.{values_of}

-- a statement, and the values that are bound to its parameters
pub record BoundStatement : Type 0 where
  pub text : List ℕ
  pub params : Row

unfoldable pub make_text : List ℕ
make_text =
    codes "CREATE TABLE IF NOT EXISTS kept (kind INTEGER NOT NULL, name TEXT NOT NULL, body TEXT NOT NULL, PRIMARY KEY (kind, name)) STRICT"

unfoldable pub put_text : List ℕ
put_text =
    codes "INSERT INTO kept (kind, name, body) VALUES (?1, ?2, ?3) ON CONFLICT (kind, name) DO UPDATE SET body = excluded.body"

unfoldable pub remove_text : List ℕ
remove_text = codes "DELETE FROM kept WHERE kind = ?1 AND name = ?2"

-- all rows, ascending by kind and name
unfoldable pub select_text : List ℕ
select_text = codes "SELECT kind, name, body FROM kept ORDER BY kind, name"

-- the statement that makes the table where it isn't there
abbrev pub make_table : BoundStatement
make_table = record { text = make_text; params = [] }

-- the statement of a change
abbrev pub statement_of : Change → BoundStatement
statement_of (Put row) = record { text = put_text; params = values_of row }
statement_of (Remove kind key) = record { text = remove_text; params = Int (pos (kind_number kind)) ∷ Text key ∷ [] }

-- the statements of a list of changes: first the table is made, and then there is one for each change, in their order
abbrev pub statements_of : List Change → List BoundStatement
statements_of changes = make_table ∷ map statement_of changes

-- The form of the keeper's table (SQLite, "CREATE TABLE" and "STRICT Tables"): three strict columns that are never NULL
-- and compare by their bytes, and a key of the first two. Rules that only refuse rows, as CHECK, are no part of it.
use Rattle.std.specs.Prelude.{ℕ, Bool, true, false, not, ◌&&◌, ◌||◌, nat_eq, List, [], ◌∷◌, Result, Ok, Err, codes}
use Rattle.std.specs.Cmp.Lexicographic.{pointwise}
use Rattle.std.specs.List.{list_any}
use Rattle.sqlite.specs.Collation.{Collation}
use Rattle.sqlite.specs.Collation.TheVariants.{Binary}
use Rattle.sqlite.specs.Compile.{table_defined_by}
use Rattle.sqlite.specs.Kind.{Kind}
use Rattle.sqlite.specs.Kind.TheVariants.{Integer, Text}
use Rattle.sqlite.specs.Schema.{Schema}
use Rattle.sqlite.specs.Table.{Table}
use Rattle.sqlite_resolve.specs.declared.error.CompileError.{CompileError}
use Rattle.sqlite_schema.specs.Names.{same_name}
use Rattle.sqlite_schema.specs.declared.schema.Column.{Column}
use Rattle.sqlite_schema.specs.declared.schema.View.{View}

-- the name of the table; names are the same without the case of ASCII letters
abbrev pub is_kept_name : List ℕ → Bool
is_kept_name name = same_name name (codes "kept")

abbrev pub is_integer : Kind → Bool
is_integer Integer = true
is_integer _ = false

abbrev pub is_text : Kind → Bool
is_text Text = true
is_text _ = false

abbrev pub is_binary : Collation → Bool
is_binary Binary = true
is_binary _ = false

-- a column of this name that takes values of its type alone, never NULL, and compares by bytes
abbrev pub is_plain_column : List ℕ → Column → Bool
is_plain_column name column =
    same_name column.name name && column.is_strict && column.not_null && is_binary column.collation

abbrev pub is_integer_column : List ℕ → Column → Bool
is_integer_column name column = is_plain_column name column && is_integer column.kind

abbrev pub is_text_column : List ℕ → Column → Bool
is_text_column name column = is_plain_column name column && is_text column.kind

-- the columns `kind`, `name` and `body`
abbrev pub has_columns : List Column → Bool
has_columns (kind ∷ name ∷ body ∷ []) =
    is_integer_column (codes "kind") kind && is_text_column (codes "name") name && is_text_column (codes "body") body
has_columns _ = false

-- the places of the key: those of the columns `kind` and `name`, counted from 1
abbrev pub is_key : List ℕ → Bool
is_key places = pointwise nat_eq places (1 ∷ 2 ∷ [])

-- the key is the only rule on several columns
abbrev pub has_key : List (List ℕ) → Bool
has_key (places ∷ []) = is_key places
has_key _ = false

-- a table of this form, whatever its name
abbrev pub has_form : Table → Bool
has_form table =
    has_columns table.columns && is_key table.primary && has_key table.uniques

-- a table of the keeper's name in another form
abbrev pub is_other_table : Table → Bool
is_other_table table = is_kept_name table.name && not (has_form table)

-- a view of the keeper's name
abbrev pub is_kept_view : View → Bool
is_kept_view view = is_kept_name view.name

-- Whether the keeper's name is taken: by a table in another form, or by a view.
abbrev pub is_name_taken : Schema → Bool
is_name_taken schema = list_any is_other_table schema.tables || list_any is_kept_view schema.views

abbrev pub is_form : Result Table CompileError → Bool
is_form (Ok table) = has_form table
is_form (Err _) = false

-- whether the text of a statement defines a table of this form
abbrev pub defines_form : List ℕ → Bool
defines_form text = is_form (table_defined_by text)

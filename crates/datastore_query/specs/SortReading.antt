-- What a sort's text is read as: the columns that rows are sorted by, or an error.
use Rattle.std.specs.Prelude.{◌≡◌, ℕ, List, [], ◌∷◌, ◌++◌, Contains, codes, map, Option, Some, None}
use Rattle.std.specs.Prelude.{Result, Ok, Err}
use Rattle.table_schema.specs.Field.{FieldValue}
use Rattle.datastore_query.specs.declared.column.Column.{Column}
use Rattle.datastore_query.specs.declared.sort.Sort.{Sort}
use Rattle.datastore_query.specs.declared.sort.SortName.{SortName}
use Rattle.datastore_query.specs.Column.{column_of, no_field_error}
use Rattle.datastore_query.specs.Sort.{sort_of}
use Rattle.datastore_query.specs.SortGrammar.{AreSortParts}

-- The part names a column, if it can be read.
pub data NamesColumn (fields : List FieldValue) : Option SortName → Type 0 where
  unreadable : NamesColumn fields None
  names : (part : SortName) (on : Column) → column_of fields part.name ≡ Some on → NamesColumn fields (Some part)

abbrev pub AllNameColumns : List FieldValue → List (Option SortName) → Type 0
AllNameColumns fields [] = Unit {0}
AllNameColumns fields (part ∷ parts) = NamesColumn fields part × AllNameColumns fields parts

-- What the parts are read as: the column of each part with its direction, or an error. The error names the first name
-- that no column has. If each name has a column, a part can't be read.
pub data IsSortReading (fields : List FieldValue) (parts : List (Option SortName)) : Result (List Sort) (List ℕ) → Type 0
  where
    each_read : (read : List Sort) → map (sort_of fields) parts ≡ map Some read → IsSortReading fields parts (Ok read)
    no_field : (before after : List (Option SortName)) (part : SortName) → parts ≡ before ++ Some part ∷ after
        → AllNameColumns fields before → column_of fields part.name ≡ None
        → IsSortReading fields parts (Err (no_field_error part.name))
    not_readable : AllNameColumns fields parts → Contains parts None
        → IsSortReading fields parts (Err (codes "Sort is not readable"))

-- What a sort's text is read as: its parts are what the grammar says, and they are read by these rules.
pub record IsSortText (fields : List FieldValue) (text : List ℕ) (read : Result (List Sort) (List ℕ)) : Type 0 where
  pub parts : List (Option SortName)
  pub named : AreSortParts text parts
  pub reading : IsSortReading fields parts read

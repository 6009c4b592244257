-- The report of tables: a line for each table of a dataset.
use Rattle.std.specs.Prelude.{ℕ, List, [], ◌∷◌, ◌++◌, map, find, length, codes, decimal, Option, Some, None}
use Rattle.std.specs.List.{flat_map}
use Rattle.packages.specs.Named.{is_named, resource_address}
use Rattle.packages.specs.Tags.{text_set}
use Rattle.packages.specs.declared.package.Package.{Package}
use Rattle.datastore_answers.specs.Tables.{tables_in}
use Rattle.datastore_answers.specs.declared.resource_table.ResourceTable.{ResourceTable}
use Rattle.portal_reports.specs.Columns.{line}

abbrev pub tables_header : List ℕ
tables_header = line 60 (codes "table") (codes "rows" ∷ codes "columns" ∷ [])

-- a table's line: its address by the name of its dataset, and the counts of its rows and of its schema's fields
abbrev pub table_line : Package → ResourceTable → List ℕ
table_line dataset t =
    line 60 (resource_address dataset.name t.address.number)
    (map decimal (length t.table.rows ∷ length t.table.schema.fields ∷ []))

-- the lines of the dataset's tables, in the tables' order
abbrev pub dataset_lines : List ResourceTable → Option Package → List ℕ
dataset_lines tables None = []
dataset_lines tables (Some dataset) = flat_map (table_line dataset) (tables_in dataset.id tables)

-- the lines of the tables of the dataset of this name
abbrev pub named_lines : List Package → List ResourceTable → List ℕ → List ℕ
named_lines datasets tables name = dataset_lines tables (find (is_named name) datasets)

-- The report on these datasets and tables: the datasets by name, and the tables of each by number, as a state has them.
abbrev pub tables_text : List Package → List ResourceTable → List ℕ
tables_text datasets tables =
    tables_header ++ flat_map (named_lines datasets tables) (text_set (map (λ d. d.name) datasets))

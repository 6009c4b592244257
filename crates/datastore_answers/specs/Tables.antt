-- The tables of resources.
use Rattle.std.specs.Prelude.{ℕ, ◌==◌, List, Bool, not, ◌||◌, map, filter, find, Option}
use Rattle.std.specs.List.{list_any}
use Rattle.std.specs.Str.{bytes_eq}
use Rattle.packages.specs.declared.package.Package.{Package}
use Rattle.packages.specs.declared.package.Resource.{Resource}
use Rattle.visibility.specs.TableSummary.{is_among}
use Rattle.datastore_answers.specs.declared.resource_table.ResourceTable.{ResourceTable}

-- The tables, ascending by their addresses, and whether there is room for one more without allocation.
pub record Stored : Type 0 where
  pub tables : List ResourceTable
  pub room : Bool

-- the table, whatever memory it has ready
abbrev pub without_room : ResourceTable → ResourceTable
without_room t = record t { table = record t.table { room = 0 } }

-- the tables, whatever memory they have ready
abbrev pub tables_of : Stored → List ResourceTable
tables_of stored = map without_room stored.tables

-- the tables of the dataset with this id
abbrev pub tables_in : List ℕ → List ResourceTable → List ResourceTable
tables_in dataset tables = filter (λ t. bytes_eq t.address.dataset dataset) tables

-- of a dataset's tables, the one of the resource with this number
abbrev pub table_at : ℕ → List ResourceTable → Option ResourceTable
table_at number beside = find (λ t. t.address.number == number) beside

-- The tables. Of this dataset's, only those of these resources stay.
abbrev pub tables_kept : List ℕ → List Resource → List ResourceTable → List ResourceTable
tables_kept dataset resources tables =
    filter (λ t. not (bytes_eq t.address.dataset dataset) || is_among resources t.address.number) tables

-- ---- what a caller sees

-- the table belongs to one of the datasets
abbrev pub is_table_among : List Package → ResourceTable → Bool
is_table_among datasets t = list_any (λ d. bytes_eq t.address.dataset d.id) datasets

-- the tables of the datasets that the caller sees, each with all its rows
abbrev pub tables_seen : List Package → List ResourceTable → List ResourceTable
tables_seen datasets tables = filter (is_table_among datasets) tables

-- Consistent tables: what holds of the tables of resources at all times on their order, rows and references.
use Rattle.std.specs.Prelude.{◌≡◌, ℕ, ◌+◌, ◌==◌, Bool, true, false, ◌&&◌, ◌||◌, not, List, [], ◌∷◌, Option, Some, None}
use Rattle.std.specs.Prelude.{All, IsTrue, slice_get}
use Rattle.std.specs.List.{list_all}
use Rattle.portal_base.specs.Ordered.{IsAscending}
use Rattle.table_schema.specs.declared.foreign.Foreign.{Foreign}
use Rattle.table_schema.specs.Written.{IsDescribed}
use Rattle.datastore_table.specs.Meets.{IsTable}
use Rattle.datastore_table.specs.References.{is_self}
use Rattle.datastore_answers.specs.Linked.{AreLinked}
use Rattle.datastore_answers.specs.Resolution.{refers_to_key}
use Rattle.datastore_answers.specs.Order.{table_cmp}
use Rattle.datastore_answers.specs.Tables.{table_at, tables_in}
use Rattle.datastore_answers.specs.declared.resource_table.ResourceTable.{ResourceTable}

-- ---- the tables that foreign keys reference

-- The referenced table exists, and the foreign key names its whole key in order, with equal kinds.
abbrev pub is_fitted : ResourceTable → Foreign → Option ResourceTable → Bool
is_fitted t foreign None = false
is_fitted t foreign (Some target) =
    refers_to_key t.table.schema.fields target.table.schema.fields foreign.fields target.table.schema.key foreign.target

-- another resource of the dataset, whose table the foreign key fits
abbrev pub is_another : List ResourceTable → ResourceTable → Foreign → Option ℕ → Bool
is_another beside t foreign None = false
is_another beside t foreign (Some number) =
    not (number == t.address.number) && is_fitted t foreign (table_at number beside)

-- Each of the table's foreign keys to other tables, from the key with this index on, references such a resource.
abbrev pub links_found : List ResourceTable → ResourceTable → ℕ → List Foreign → Bool
links_found beside t index [] = true
links_found beside t index (foreign ∷ foreigns) =
    (is_self foreign || is_another beside t foreign (slice_get t.targets index))
    && links_found beside t (index + 1) foreigns

-- this holds of all tables
abbrev pub are_found : List ResourceTable → Bool
are_found tables =
    list_all (λ t. links_found (tables_in t.address.dataset tables) t 0 t.table.schema.foreign) tables

-- The table has one target for each foreign key. A reference to the table itself has the table's own number.
abbrev pub own_resolved : ℕ → List Foreign → List ℕ → Bool
own_resolved own [] [] = true
own_resolved own (foreign ∷ foreigns) (number ∷ numbers) =
    (not (is_self foreign) || number == own) && own_resolved own foreigns numbers
own_resolved own foreigns numbers = false

-- this holds of all tables
abbrev pub are_resolved : List ResourceTable → Bool
are_resolved tables = list_all (λ t. own_resolved t.address.number t.table.schema.foreign t.targets) tables

-- ---- consistency

-- The tables ascend by their addresses. The schema of each is the one that its own descriptor reads as, its rows meet
-- the schema, and it keeps no memory ready between calls. Each foreign key references the table itself or an existing
-- table of the same dataset, whose key it names, and each reference in a row finds its row.
pub record AreConsistent (tables : List ResourceTable) : Type 0 where
  pub ascending : IsAscending table_cmp tables
  pub described : All (λ (t : ResourceTable). IsDescribed t.table.schema) tables
  pub unready : All (λ (t : ResourceTable). t.table.room ≡ 0) tables
  pub valid : All (λ (t : ResourceTable). IsTable t.table.schema t.table.rows t.table.next_id) tables
  pub resolved : IsTrue (are_resolved tables)
  pub found : IsTrue (are_found tables)
  pub linked : AreLinked tables

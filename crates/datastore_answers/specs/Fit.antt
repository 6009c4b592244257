-- Changes of the tables of resources that can be made, given the caller's view, and that the caller has the right to
-- make.
use Rattle.std.specs.Prelude.{◌≡◌, ℕ, List, true, false, Some, None, Ok, slice_get}
use Rattle.std.specs.List.{Contains}
use Rattle.portal_base.specs.declared.json_value.Json.{Json}
use Rattle.packages.specs.Named.{Located}
use Rattle.table_schema.specs.Field.{SchemaValue}
use Rattle.table_schema.specs.Written.{IsDescribed}
use Rattle.datastore_table.specs.declared.method.Method.{Method}
use Rattle.datastore_table.specs.declared.method.Method.TheVariants as method
use Rattle.visibility.specs.CallView.{CallView}
use Rattle.visibility.specs.Visibility.{may_edit_in}
use Rattle.datastore_answers.specs.TableAnswers.{address_of, tables_beside}
use Rattle.datastore_answers.specs.Changed.{TableChange, put_into}
use Rattle.datastore_answers.specs.Changed as change
use Rattle.datastore_answers.specs.Described.{empty_table}
use Rattle.datastore_answers.specs.Linked.{put_among}
use Rattle.datastore_answers.specs.Resolution.{resolved_targets}
use Rattle.datastore_answers.specs.Restrict.{delete_among, is_referenced}
use Rattle.datastore_answers.specs.Tables.{table_at}
use Rattle.datastore_answers.specs.Errors.{delete_rows_error, put_error}
use Rattle.datastore_answers.specs.declared.address.Address.{Address}
use Rattle.datastore_answers.specs.declared.resource_table.ResourceTable.{ResourceTable}

-- The table at the address exists. The caller sees its dataset and may edit it.
pub record IsOwn (view : CallView) (tables : List ResourceTable) (address : Address) : Type 0 where
  pub placed : Located
  pub is_present : Contains view.datasets placed.dataset
  pub here : address ≡ address_of placed
  pub own : may_edit_in view.people view.caller placed.dataset ≡ true
  pub table : ResourceTable
  pub exists : table_at placed.resource.number (tables_beside placed tables) ≡ Some table

-- The resource at the address exists. The caller sees its dataset and may edit it.
pub record IsOwnResource (view : CallView) (address : Address) : Type 0 where
  pub placed : Located
  pub is_present : Contains view.datasets placed.dataset
  pub named : slice_get placed.dataset.resources placed.position ≡ Some placed.resource
  pub here : address ≡ address_of placed
  pub own : may_edit_in view.people view.caller placed.dataset ≡ true

-- A new table, with records in it, of a resource without a table. Its schema is the one that its own descriptor reads
-- as. Its foreign keys reference tables of the dataset, and each reference of its rows finds its row there.
pub record IsFitCreate (view : CallView) (tables : List ResourceTable) (t : ResourceTable) : Type 0 where
  pub own : IsOwnResource view t.address
  pub none : table_at own.placed.resource.number (tables_beside own.placed tables) ≡ None
  pub schema : SchemaValue
  pub described : IsDescribed schema
  pub targets : List ℕ
  pub resolved : resolved_targets own.placed (tables_beside own.placed tables) schema ≡ Ok targets
  pub records : List Json
  pub taken : put_error (put_among (tables_beside own.placed tables) method.Insert records
      (empty_table (address_of own.placed) schema targets)) ≡ None
  pub made : t ≡ put_into method.Insert records (empty_table (address_of own.placed) schema targets)

-- The table accepts the batch, and its references to other tables find their rows afterwards.
pub record IsFitPut (view : CallView) (tables : List ResourceTable) (address : Address) (how : Method)
    (records : List Json) : Type 0 where
  pub own : IsOwn view tables address
  pub taken : put_error (put_among (tables_beside own.placed tables) how records own.table) ≡ None

-- The rows with these `_id`s can be deleted: no row that stays references one of them, in this table or in another.
pub record IsFitDeleteRows (view : CallView) (tables : List ResourceTable) (address : Address)
    (ids : List ℕ) : Type 0 where
  pub own : IsOwn view tables address
  pub keeps_references : delete_rows_error
      (delete_among (tables_beside own.placed tables) own.placed.resource.number ids own.table) ≡ None

-- The table can be deleted: no table of another resource of the dataset references it.
pub record IsFitRemove (view : CallView) (tables : List ResourceTable) (address : Address) : Type 0 where
  pub own : IsOwn view tables address
  pub unreferenced : is_referenced own.placed.resource.number (tables_beside own.placed tables) ≡ false

abbrev pub IsFitTable : CallView → List ResourceTable → TableChange → Type 0
IsFitTable view tables (change.Create t) = IsFitCreate view tables t
IsFitTable view tables (change.Remove address) = IsFitRemove view tables address
IsFitTable view tables (change.Put address how records) = IsFitPut view tables address how records
IsFitTable view tables (change.DeleteRows address ids) = IsFitDeleteRows view tables address ids

-- A new table with the records in it, and its result among the tables of the dataset.
use Rattle.std.proofs.Common.{◌≡◌, ℕ, ◌+◌, Bool, true, false, ◌&&◌, ◌||◌, not, List, [], ◌∷◌, Option, Some, None, Ok}
use Rattle.std.proofs.Common.{Err, refl, sym, ap, ◌∙◌, ◌⊎◌, inl, inr}
use Rattle.std.specs.List.{list_all}
use Rattle.portal_base.specs.Ordered.{IsAscending}
use Rattle.portal_base.specs.declared.json_value.Json.{Json}
use Rattle.table_schema.specs.declared.foreign.Foreign.{Foreign}
use Rattle.datastore_table.specs.Batch.{Written, worked_on}
use Rattle.datastore_table.specs.Put.{put_records}
use Rattle.datastore_table.specs.References.{is_broken, is_self}
use Rattle.datastore_table.specs.Results.{◌>>>◌}
use Rattle.datastore_table.specs.Rows.{row_cmp}
use Rattle.datastore_table.specs.declared.fault.TableFault.{TableFault}
use Rattle.datastore_table.specs.declared.fault.TableFault.TheVariants.{OutOfMemory}
use Rattle.datastore_table.specs.declared.method.Method.{Method}
use Rattle.datastore_table.specs.declared.row.Row.{Row}
use Rattle.datastore_answers.specs.Linked.{alone, holds_in, links_checked, links_hold, put_among, target_of}
use Rattle.datastore_answers.specs.Tables.{without_room, tables_in}
use Rattle.datastore_answers.specs.declared.resource_table.ResourceTable.{ResourceTable}
use Rattle.datastore_answers.proofs.LinkLemmas.{put_result}

-- ---- a table without rows

holds-none : (target : Option ResourceTable) (foreign : Foreign) (rows : List Row) → rows ≡ []
    → holds_in target foreign rows ≡ true
holds-none None foreign rows none = refl
holds-none (Some target) foreign rows none =
    ap (list_all (λ row. not (is_broken foreign.fields target.table.schema.key target.table.rows row))) none

-- none of its references is broken
pub empty_table-linked : (beside : List ResourceTable) (t : ResourceTable) (index : ℕ) (foreigns : List Foreign)
    → t.table.rows ≡ [] → links_hold beside t index foreigns ≡ true
empty_table-linked beside t index [] none = refl
empty_table-linked beside t index (foreign ∷ foreigns) none =
    by (is_self foreign) (holds_in (target_of beside t index) foreign t.table.rows)
    (links_hold beside t (index + 1) foreigns)
    (holds-none (target_of beside t index) foreign t.table.rows none)
    (empty_table-linked beside t (index + 1) foreigns none)
  where
    by : (self held rest : Bool) → held ≡ true → rest ≡ true → ((self || held) && rest) ≡ true
    by true held rest h r = r
    by false held rest h r = rw h r

-- ---- with the records in it

-- The result of the batch on the new table is that among the dataset's tables, if its references are checked.
pub filled-result : (ts : List ResourceTable) (old new : ResourceTable) (how : Method) (records : List Json)
    (work : Written) → without_room new ≡ without_room old → old.table.rows ≡ [] → IsAscending row_cmp work.changed
    → IsAscending row_cmp new.table.rows
    → put_records how records new.table ≡ Ok (worked_on new.table.rows work)
    → put_among (tables_in old.address.dataset ts) how records (without_room old)
    ≡ (links_checked (tables_in new.address.dataset ts) new (alone work)
    >>> λ _. Ok (worked_on new.table.rows work))
filled-result ts old new how records work same none changed rows made =
    let empty : new.table.rows ≡ [] = ap (λ (t : ResourceTable). t.table.rows) same ∙ none in
    ap (λ (t : ResourceTable). put_among (tables_in t.address.dataset ts) how records t) (sym same)
    ∙ put_result (tables_in new.address.dataset ts) new how records work changed rows
    (empty_table-linked (tables_in new.address.dataset ts) new 0 new.table.schema.foreign empty) made

-- What the new table refuses is refused among the dataset's tables too.
pub filled-refused : (beside : List ResourceTable) (old new : ResourceTable) (how : Method) (records : List Json)
    (why : TableFault) → without_room new ≡ without_room old
    → (why ≡ OutOfMemory) ⊎ (put_records how records new.table ≡ Err why)
    → (why ≡ OutOfMemory) ⊎ (put_among beside how records (without_room old) ≡ Err why)
filled-refused beside old new how records why same (inl none) = inl none
filled-refused beside old new how records why same (inr is) =
    inr (ap (λ (t : ResourceTable). put_among beside how records t) (sym same)
    ∙ ap (λ r. r >>> λ worked. (links_checked beside new worked >>> λ _. Ok worked)) is)

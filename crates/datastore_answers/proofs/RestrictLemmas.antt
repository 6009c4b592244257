-- The references to a table and to its rows among the tables of its dataset.
use Rattle.std.proofs.Common.{◌≡◌, ◌∙◌, Bool, true, false, ◌||◌, cond, List, [], ◌∷◌, ℕ, map, refl, sym, ap}
use Rattle.std.proofs.Common.{Option, Some, None, Result, Ok, Err, ◌⊎◌, inl, inr}
use Rattle.std.specs.Prelude.{IfOk, option_map}
use Rattle.std.specs.Str.{bytes_eq}
use Rattle.portal_base.specs.Ordered.{found}
use Rattle.datastore_table.specs.Batch.{RemovalValue, delete_checked, removed_keys}
use Rattle.datastore_table.specs.Results.{◌>>>◌}
use Rattle.datastore_table.specs.declared.fault.TableFault.{TableFault}
use Rattle.datastore_table.specs.declared.fault.TableFault.TheVariants.{OutOfMemory}
use Rattle.datastore_table.specs.declared.row.Row.{Row}
use Rattle.datastore_answers.specs.Order.{at_address}
use Rattle.datastore_answers.specs.Plan.{IsRemovalAt}
use Rattle.datastore_answers.specs.Restrict.{delete_at, delete_for, delete_own, is_referenced, refers_to}
use Rattle.datastore_answers.specs.Restrict.{table_restrict, tables_restrict}
use Rattle.datastore_answers.specs.Tables.{Stored, without_room, tables_in, tables_of}
use Rattle.datastore_answers.specs.declared.address.Address.{Address}
use Rattle.datastore_answers.specs.declared.resource_table.ResourceTable.{ResourceTable}
use Rattle.datastore_answers.proofs.TableLemmas.{table_found}

-- The memory that the dataset's tables have ready changes nothing of what they reference.
pub any_in : (dataset : List ℕ) (number : ℕ) (ts : List ResourceTable)
    → is_referenced number (tables_in dataset ts) ≡ is_referenced number (tables_in dataset (map without_room ts))
any_in dataset number [] = refl
any_in dataset number (t ∷ ts) = by (bytes_eq t.address.dataset dataset) (any_in dataset number ts)
  where
    by : (b : Bool)
        → is_referenced number (tables_in dataset ts) ≡ is_referenced number (tables_in dataset (map without_room ts))
        → is_referenced number (cond b (t ∷ tables_in dataset ts) (tables_in dataset ts))
        ≡ is_referenced number (cond b (without_room t ∷ tables_in dataset (map without_room ts))
        (tables_in dataset (map without_room ts)))
    by true rest = ap (λ r. refers_to number t || r) rest
    by false rest = rest

-- ---- rows that are deleted

-- The memory that tables have ready changes nothing.
pub keeps_references-without_room : (keys : List Row) (dataset : List ℕ) (number : ℕ) (ts : List ResourceTable)
    → tables_restrict keys number (tables_in dataset (map without_room ts))
    ≡ tables_restrict keys number (tables_in dataset ts)
keeps_references-without_room keys dataset number [] = refl
keeps_references-without_room keys dataset number (t ∷ ts) =
    by (bytes_eq t.address.dataset dataset) (keeps_references-without_room keys dataset number ts)
  where
    by : (b : Bool)
        → tables_restrict keys number (tables_in dataset (map without_room ts))
        ≡ tables_restrict keys number (tables_in dataset ts)
        → tables_restrict keys number
        (cond b (without_room t ∷ tables_in dataset (map without_room ts)) (tables_in dataset (map without_room ts)))
        ≡ tables_restrict keys number (cond b (t ∷ tables_in dataset ts) (tables_in dataset ts))
    by true rest = ap (λ r. table_restrict keys number t >>> λ _. r) rest
    by false rest = rest

-- A removal that was prepared on the table found at an address was prepared at that address.
pub removal-at : (result : Result RemovalValue TableFault) (address : Address) (ids : List ℕ) (u : ResourceTable)
    (ts : List ResourceTable) → found (at_address address) ts ≡ Some u → IfOk result (λ r. r.ids ≡ ids)
    → IfOk result (λ r. r.keys ≡ removed_keys u.table.schema.key ids u.table.rows)
    → IfOk result (λ r. delete_checked ids u.table ≡ Ok tt) → IfOk result (λ r. IsRemovalAt address ids r ts)
removal-at (Ok r) address ids u ts exists same keys keeps_references = record {
  delete_rows = record { table = u; exists = exists; keeps_references = keeps_references };
  rows = same;
  keys = keys;
}
removal-at (Err f) address ids u ts exists same keys keeps_references = tt

-- What the table itself refuses is refused among the dataset's tables too.
pub delete_rows-refused : (address : Address) (ts : List ResourceTable) (ids : List ℕ) (why : TableFault)
    → (why ≡ OutOfMemory) ⊎ (delete_own ids (found (at_address address) ts) ≡ Err why)
    → (why ≡ OutOfMemory) ⊎ (delete_at (tables_in address.dataset (map without_room ts)) address.number ids ≡ Err why)
delete_rows-refused address ts ids why (inl none) = inl none
delete_rows-refused address ts ids why (inr is) =
    inr (ap (delete_for (tables_in address.dataset (map without_room ts)) address.number ids)
    (sym (table_found address ts))
    ∙ by (found (at_address address) ts) is)
  where
    by : (o : Option ResourceTable) → delete_own ids o ≡ Err why
        → delete_for (tables_in address.dataset (map without_room ts)) address.number ids (option_map without_room o)
        ≡ Err why
    by None e = e
    by (Some t) e =
        ap (λ r. r >>> λ _. tables_restrict (removed_keys t.table.schema.key ids t.table.rows) address.number
        (tables_in address.dataset (map without_room ts))) e

-- If the table itself allows a deletion, its result depends on the references of the dataset's other tables.
pub delete_rows-there : (before after : Stored) (address : Address) (ids : List ℕ) (removal : RemovalValue)
    → tables_of after ≡ tables_of before → IsRemovalAt address ids removal after.tables
    → delete_at (tables_in address.dataset (tables_of before)) address.number ids
    ≡ tables_restrict removal.keys address.number (tables_in address.dataset after.tables)
delete_rows-there before after address ids removal same at =
    let ts = after.tables in
    let u = at.delete_rows.table in
    ap (λ l. delete_at (tables_in address.dataset l) address.number ids) (sym same)
    ∙ ap (delete_for (tables_in address.dataset (map without_room ts)) address.number ids)
    (sym (table_found address ts) ∙ ap (option_map without_room) at.delete_rows.exists)
    ∙ ap (λ r. r >>> λ _. tables_restrict (removed_keys u.table.schema.key ids u.table.rows) address.number
    (tables_in address.dataset (map without_room ts))) at.delete_rows.keeps_references
    ∙ ap (λ keys. tables_restrict keys address.number (tables_in address.dataset (map without_room ts))) (sym at.keys)
    ∙ keeps_references-without_room removal.keys address.dataset address.number ts

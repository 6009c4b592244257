-- Batches that are prepared on a table, and their results among the tables of the dataset.
use Rattle.std.proofs.Common.{◌≡◌, ℕ, true, List, Option, Some, None, Result, Ok, Err, sym}
use Rattle.std.proofs.Common.{ap, ◌∙◌, subst, map, ◌==◌, ◌⊎◌, inl, inr}
use Rattle.std.specs.Prelude.{IfOk, IsSome, option_map}
use Rattle.std.specs.Str.{bytes_eq}
use Rattle.std.proofs.lemmas.Option.{same_Some}
use Rattle.std.proofs.lemmas.Slice.Eq.{bytes_eq-Decides}
use Rattle.portal_base.specs.Ordered.{IsAscending, found}
use Rattle.portal_base.specs.declared.json_value.Json.{Json}
use Rattle.portal_base.proofs.Filtered.{IsIn-filter, list_all-IsIn}
use Rattle.packages.proofs.FindLemmas.{IsIn-find}
use Rattle.datastore_table.specs.Batch.{BatchValue, IsReady, Written, worked_on}
use Rattle.datastore_table.specs.Put.{Worked, put_records}
use Rattle.datastore_table.specs.Results.{◌>>>◌}
use Rattle.datastore_table.specs.Rows.{row_cmp}
use Rattle.datastore_table.specs.declared.fault.TableFault.{TableFault}
use Rattle.datastore_table.specs.declared.fault.TableFault.TheVariants.{OutOfMemory}
use Rattle.datastore_table.specs.declared.method.Method.{Method}
use Rattle.datastore_answers.specs.Linked.{AreLinked, alone, is_linked, links_checked, put_at}
use Rattle.datastore_answers.specs.Linked.{put_for, put_own}
use Rattle.datastore_answers.specs.Order.{at_address}
use Rattle.datastore_answers.specs.Plan.{IsBatchAt}
use Rattle.datastore_answers.specs.Tables.{Stored, without_room, table_at, tables_in, tables_of}
use Rattle.datastore_answers.specs.Errors.{put_error}
use Rattle.datastore_answers.specs.declared.address.Address.{Address}
use Rattle.datastore_answers.specs.declared.resource_table.ResourceTable.{ResourceTable}
use Rattle.datastore_answers.proofs.LinkLemmas.{put_result}
use Rattle.datastore_answers.proofs.TableLemmas.{table_found}

-- A batch that was prepared on the table found at an address was prepared at that address.
pub batch-at : (result : Result BatchValue TableFault) (address : Address) (method : Method) (records : List Json)
    (u : ResourceTable) (ts : List ResourceTable) → found (at_address address) ts ≡ Some u
    → IfOk result (λ b. b.schema ≡ u.table.schema) → IfOk result (λ b. IsAscending row_cmp b.work.changed)
    → IfOk result (λ b. IsAscending row_cmp u.table.rows)
    → IfOk result (λ b. put_records method records u.table ≡ Ok (worked_on u.table.rows b.work))
    → IfOk result (λ b. IsReady b u.table) → IfOk result (λ b. IsBatchAt address method records b ts)
batch-at (Ok b) address method records u ts exists schema changed rows made ready = record {
  put = record { table = u; exists = exists; ready = ready; made = made };
  schema = schema;
  changed = changed;
  rows = rows;
}
batch-at (Err f) address method records u ts exists schema changed rows made ready = tt

-- A table that is found among its dataset's tables is found at its address.
pub some-found : (address : Address) (ts : List ResourceTable)
    → IsSome (table_at address.number (tables_in address.dataset (map without_room ts)))
    → IsSome (found (at_address address) ts)
some-found address ts some =
    by (found (at_address address) ts) (subst IsSome (sym (table_found address ts)) some)
  where
    by : (o : Option ResourceTable) → IsSome (option_map without_room o) → IsSome o
    by None none = none
    by (Some t) some = some

-- What the table itself refuses is refused among the dataset's tables too.
pub own-refused : (address : Address) (ts : List ResourceTable) (method : Method) (records : List Json)
    (why : TableFault) → put_own method records (found (at_address address) ts) ≡ Err why
    → put_at (tables_in address.dataset (map without_room ts)) address.number method records ≡ Err why
own-refused address ts method records why refused =
    ap (put_for (tables_in address.dataset (map without_room ts)) method records) (sym (table_found address ts))
    ∙ by (found (at_address address) ts) refused
  where
    by : (o : Option ResourceTable) → put_own method records o ≡ Err why
        → put_for (tables_in address.dataset (map without_room ts)) method records (option_map without_room o) ≡ Err why
    by None is = is
    by (Some t) is =
        ap (λ r. r >>> λ worked. (links_checked (tables_in address.dataset (map without_room ts))
        (without_room t) worked
        >>> λ _. Ok worked)) is

-- If the references of all tables hold, those of each table hold.
linked-found : (ts : List ResourceTable) (dataset : List ℕ) (number : ℕ) (t : ResourceTable) → AreLinked ts
    → table_at number (tables_in dataset ts) ≡ Some t
    → (t.address.dataset ≡ dataset) × (is_linked (tables_in dataset ts) t ≡ true)
linked-found ts dataset number t linked there =
    let among = IsIn-find (λ u. u.address.number == number) t (tables_in dataset ts) there in
    let in_dataset = IsIn-filter (λ u. bytes_eq u.address.dataset dataset) t ts among.0 in
    let same : t.address.dataset ≡ dataset = (bytes_eq-Decides t.address.dataset dataset).0 in_dataset.1 in (
      same,
      subst (λ d. is_linked (tables_in d ts) t ≡ true) same
          (list_all-IsIn (λ u. is_linked (tables_in u.address.dataset ts) u) ts linked t in_dataset.0),
    )

-- The result of a batch that the table accepts depends, among the dataset's tables, on its references to them.
pub batch-result : (ts : List ResourceTable) (dataset : List ℕ) (number : ℕ) (method : Method) (records : List Json)
    (t : ResourceTable) (work : Written) → table_at number (tables_in dataset ts) ≡ Some t → AreLinked ts
    → IsAscending row_cmp work.changed → IsAscending row_cmp t.table.rows
    → put_records method records t.table ≡ Ok (worked_on t.table.rows work)
    → put_at (tables_in dataset ts) number method records
    ≡ (links_checked (tables_in t.address.dataset ts) t (alone work) >>> λ _. Ok (worked_on t.table.rows work))
batch-result ts dataset number method records t work there linked changed rows made =
    let found_linked = linked-found ts dataset number t linked there in
    ap (put_for (tables_in dataset ts) method records) there
    ∙ put_result (tables_in dataset ts) t method records work changed rows found_linked.1 made
    ∙ ap (λ d. links_checked (tables_in d ts) t (alone work) >>> λ _. Ok (worked_on t.table.rows work))
    (sym found_linked.0)

pub refused-among : (address : Address) (ts : List ResourceTable) (method : Method) (records : List Json)
    (why : TableFault) → (why ≡ OutOfMemory) ⊎ (put_own method records (found (at_address address) ts) ≡ Err why)
    → (why ≡ OutOfMemory)
    ⊎ (put_at (tables_in address.dataset (map without_room ts)) address.number method records ≡ Err why)
refused-among address ts method records why (inl none) = inl none
refused-among address ts method records why (inr is) = inr (own-refused address ts method records why is)

-- The same for the table at an address, if preparing the batch left the tables unchanged.
pub result-there : (before after : Stored) (address : Address) (method : Method) (records : List Json)
    (batch : BatchValue) (u : ResourceTable) → tables_of after ≡ tables_of before → AreLinked (tables_of before)
    → IsBatchAt address method records batch after.tables → Some u ≡ found (at_address address) after.tables
    → Some (without_room u) ≡ table_at address.number (tables_in address.dataset (tables_of after))
    → put_at (tables_in address.dataset (tables_of before)) address.number method records
    ≡ (links_checked (tables_in u.address.dataset (tables_of after)) u (alone batch.work)
    >>> λ _. Ok (worked_on u.table.rows batch.work))
result-there before after address method records batch u same linked at exists there =
    let here : at.put.table ≡ u = same_Some at.put.table u (sym at.put.exists ∙ sym exists) in
    let made : put_records method records u.table ≡ Ok (worked_on u.table.rows batch.work) =
    subst (λ (t : ResourceTable). put_records method records t.table ≡ Ok (worked_on t.table.rows batch.work)) here
    at.put.made in
    let rows : IsAscending row_cmp u.table.rows =
    subst (λ (t : ResourceTable). IsAscending row_cmp t.table.rows) here at.rows in
    batch-result (tables_of before) address.dataset address.number method records (without_room u) batch.work
    (ap (λ ts. table_at address.number (tables_in address.dataset ts)) (sym same) ∙ sym there) linked at.changed rows
    made
    ∙ ap (λ ts. links_checked (tables_in u.address.dataset ts) u (alone batch.work)
    >>> λ _. Ok (worked_on u.table.rows batch.work)) (sym same)

-- A broken reference refuses the batch.
pub links-refused : (r : Result Worked TableFault) (checked : Result (Unit {0}) TableFault) (worked : Worked)
    (why : TableFault) → r ≡ (checked >>> λ _. Ok worked) → (why ≡ OutOfMemory) ⊎ (checked ≡ Err why)
    → (why ≡ OutOfMemory) ⊎ (r ≡ Err why)
links-refused r checked worked why is (inl none) = inl none
links-refused r checked worked why is (inr e) = inr (is ∙ ap (λ c. c >>> λ _. Ok worked) e)

-- If all references hold, the batch is accepted.
pub links-held : (r : Result Worked TableFault) (checked : Result (Unit {0}) TableFault) (worked : Worked)
    → r ≡ (checked >>> λ _. Ok worked) → checked ≡ Ok tt → put_error r ≡ None
links-held r checked worked is e = ap put_error (is ∙ ap (λ c. c >>> λ _. Ok worked) e)

-- The entries of a change of a table make it, save for a batch.
use Rattle.std.proofs.Common.{◌≡◌, ℕ, ◌==◌, Bool, true, false, not, cond, List, [], ◌∷◌, ◌++◌, None, map, refl, sym, ap}
use Rattle.std.proofs.Common.{ap₂, ◌∙◌, ◌⊎◌, inl, inr, if◌then◌else◌, arith}
use Rattle.std.specs.List.{list_any}
use Rattle.std.specs.Ordering.{is_eq, is_lt}
use Rattle.std.proofs.lemmas.Bool.Decides.{nat_tests}
use Rattle.std.proofs.lemmas.Cmp.{tied_itself}
use Rattle.std.proofs.lemmas.List.Elements.{filter_agree}
use Rattle.portal_base.specs.Ordered.{IsAscending, dropped, found, inserted, upserted}
use Rattle.portal_base.proofs.Inserted.{list_any-same}
use Rattle.portal_base.proofs.Unique.{IsIn, unique}
use Rattle.portal_base.proofs.Upserted.{upserted-none}
use Rattle.packages.proofs.FindLemmas.{find-none}
use Rattle.datastore_table.specs.Batch.{cut_rows, is_among}
use Rattle.datastore_table.specs.Rows.{row_cmp, row_cmp_total, rows_after}
use Rattle.datastore_table.specs.declared.row.Row.{Row}
use Rattle.datastore_table.proofs.Merged.{IsApart, IsAscending-merged, IsIn-merged, merged-IsIn}
use Rattle.datastore_table.proofs.RowLemmas.{same_id}
use Rattle.datastore_answers.specs.Changed.{with_table_at, without_rows}
use Rattle.datastore_answers.specs.Order.{address_cmp, at_address, is_at, table_cmp, table_cmp_total}
use Rattle.datastore_answers.specs.declared.address.Address.{Address}
use Rattle.datastore_answers.specs.declared.resource_table.ResourceTable.{ResourceTable}
use Rattle.portal_state.specs.State.{State}
use Rattle.portal_state.proofs.Keeping.{first_unused}
use Rattle.portal_state.specs.Entries.{DropRow, DropTable, PutRow, changed_by, row_at_id, rows_of, state_after}
use Rattle.portal_state.specs.Entries.{table_of, with_head, with_row, without_row}
use Rattle.portal_state.specs.EntriesOf.{drops_of_table, head_of, ids_of, puts_of_table}
use Rattle.portal_state.proofs.DropLemmas.{all_dropped, all_dropped-filter, map-agree_in, map-same}
use Rattle.portal_state.proofs.StateLemmas.{with_tables}

-- ---- the table at an address

-- Changes that agree on the table at the address make the same of the tables.
pub with_table_at-agree : (a : Address) (f g : ResourceTable → ResourceTable) (ts : List ResourceTable)
    → ((t : ResourceTable) → IsIn t ts → is_at a t ≡ true → f t ≡ g t) → with_table_at a f ts ≡ with_table_at a g ts
with_table_at-agree a f g ts same =
    map-agree_in (λ t. if is_at a t then f t else t) (λ t. if is_at a t then g t else t) ts
    (λ t m. by t (is_at a t) refl (same t m))
  where
    by : (t : ResourceTable) (b : Bool) → is_at a t ≡ b → (is_at a t ≡ true → f t ≡ g t)
        → (if b then f t else t) ≡ (if b then g t else t)
    by t true is alike = alike is
    by t false is alike = refl

-- A change that leaves the table at the address as it is changes nothing.
pub with_table_at-same : (a : Address) (f : ResourceTable → ResourceTable) (ts : List ResourceTable)
    → ((t : ResourceTable) → IsIn t ts → is_at a t ≡ true → f t ≡ t) → with_table_at a f ts ≡ ts
with_table_at-same a f ts same =
    map-same (λ t. if is_at a t then f t else t) ts (λ t m. by t (is_at a t) refl (same t m))
  where
    by : (t : ResourceTable) (b : Bool) → is_at a t ≡ b → (is_at a t ≡ true → f t ≡ t) → (if b then f t else t) ≡ t
    by t true is alike = alike is
    by t false is alike = refl

-- Nor does a change at an address where there is no table.
with_table_at-none : (a : Address) (f : ResourceTable → ResourceTable) (ts : List ResourceTable)
    → found (at_address a) ts ≡ None → with_table_at a f ts ≡ ts
with_table_at-none a f ts none =
    map-same (λ t. if is_at a t then f t else t) ts
    (λ t m. ap (λ b. if b then f t else t) (find-none (is_at a) t ts none m))

-- A table at the address is still there after the change.
abbrev pub StaysAt : Address → (ResourceTable → ResourceTable) → Type 0
StaysAt a f = (t : ResourceTable) → is_at a t ≡ true → is_at a (f t) ≡ true

-- Two changes of the table at an address are one.
pub with_table_at-twice : (a : Address) (f g : ResourceTable → ResourceTable) → StaysAt a f
    → (ts : List ResourceTable) → with_table_at a g (with_table_at a f ts) ≡ with_table_at a (λ t. g (f t)) ts
with_table_at-twice a f g stays [] = refl
with_table_at-twice a f g stays (t ∷ ts) =
    ap₂ (λ (u : ResourceTable) (us : List ResourceTable). u ∷ us) (by (is_at a t) refl)
    (with_table_at-twice a f g stays ts)
  where
    by : (b : Bool) → is_at a t ≡ b
        → (if is_at a (if b then f t else t) then g (if b then f t else t) else (if b then f t else t))
        ≡ (if b then g (f t) else t)
    by true is = ap (λ c. if c then g (f t) else f t) (stays t is)
    by false is = ap (λ c. if c then g t else t) is

-- A table that goes goes whatever was changed of it.
dropped-with_table_at : (a : Address) (f : ResourceTable → ResourceTable) → StaysAt a f → (ts : List ResourceTable)
    → dropped (at_address a) (with_table_at a f ts) ≡ dropped (at_address a) ts
dropped-with_table_at a f stays [] = refl
dropped-with_table_at a f stays (t ∷ ts) = by (is_at a t) refl (dropped-with_table_at a f stays ts)
  where
    now : List ResourceTable
    now = dropped (at_address a) (with_table_at a f ts)

    was : List ResourceTable
    was = dropped (at_address a) ts

    by : (b : Bool) → is_at a t ≡ b → now ≡ was
        → cond (not (is_at a (if b then f t else t))) ((if b then f t else t) ∷ now) now ≡ cond (not b) (t ∷ was) was
    by true is rest = ap (λ c. cond (not c) (f t ∷ now) now) (stays t is) ∙ rest
    by false is rest = ap (λ c. cond (not c) (t ∷ now) now) is ∙ ap (λ l. t ∷ l) rest

-- ---- a table that is added

-- A change of the inserted table is made before or after its insertion.
inserted-with_table_at : (t : ResourceTable) (f : ResourceTable → ResourceTable) → (f t).address ≡ t.address
    → (ts : List ResourceTable) → found (at_address t.address) ts ≡ None
    → with_table_at t.address f (inserted table_cmp t ts) ≡ inserted table_cmp (f t) ts
inserted-with_table_at t f keeps [] none =
    ap (λ b. (if b then f t else t) ∷ []) (ap is_eq (tied_itself table_cmp_total t))
inserted-with_table_at t f keeps (u ∷ us) none =
    let apart = first_unused (is_at t.address) u us none in
    by apart.0 (is_lt (table_cmp u t)) refl (inserted-with_table_at t f keeps us apart.1)
    (with_table_at-none t.address f us apart.1)
  where
    below : is_lt (table_cmp u (f t)) ≡ is_lt (table_cmp u t)
    below = ap (λ (a : Address). is_lt (address_cmp u.address a)) keeps

    by : is_at t.address u ≡ false → (b : Bool) → is_lt (table_cmp u t) ≡ b
        → with_table_at t.address f (inserted table_cmp t us) ≡ inserted table_cmp (f t) us
        → with_table_at t.address f us ≡ us
        → with_table_at t.address f (cond b (u ∷ inserted table_cmp t us) (t ∷ u ∷ us))
        ≡ cond (is_lt (table_cmp u (f t))) (u ∷ inserted table_cmp (f t) us) (f t ∷ u ∷ us)
    by other true is more same =
        ap₂ (λ b (l : List ResourceTable). (if b then f u else u) ∷ l) other more
        ∙ sym (ap (λ b. cond b (u ∷ inserted table_cmp (f t) us) (f t ∷ u ∷ us)) (below ∙ is))
    by other false is more same =
        ap (λ b. (if b then f t else t) ∷ (if is_at t.address u then f u else u) ∷ with_table_at t.address f us)
        (ap is_eq (tied_itself table_cmp_total t))
        ∙ ap₂ (λ b (l : List ResourceTable). f t ∷ (if b then f u else u) ∷ l) other same
        ∙ sym (ap (λ b. cond b (u ∷ inserted table_cmp (f t) us) (f t ∷ u ∷ us)) (below ∙ is))

upserted-with_table_at : (t : ResourceTable) (f : ResourceTable → ResourceTable) → (f t).address ≡ t.address
    → (ts : List ResourceTable) → found (at_address t.address) ts ≡ None
    → with_table_at t.address f (upserted table_cmp t ts) ≡ upserted table_cmp (f t) ts
upserted-with_table_at t f keeps ts none =
    ap (with_table_at t.address f) (upserted-none table_cmp t ts none)
    ∙ inserted-with_table_at t f keeps ts none
    ∙ sym (upserted-none table_cmp (f t) ts (ap (λ (a : Address). found (at_address a) ts) keeps ∙ none))

-- ---- rows that are put

-- the table with these rows, each in place of the one of its `_id`
abbrev pub with_rows : List Row → ResourceTable → ResourceTable
with_rows rows t = record t { table = record t.table { rows = rows_after rows t.table.rows } }

pub state_after-rows : (a : Address) (rows : List Row) (state : State)
    → state_after (map (PutRow a) rows) state ≡ with_tables (with_table_at a (with_rows rows) state.tables) state
state_after-rows a [] state =
    ap (λ (ts : List ResourceTable). with_tables ts state)
    (sym (with_table_at-same a (with_rows []) state.tables (λ t m is. refl)))
state_after-rows a (row ∷ rows) state =
    state_after-rows a rows (changed_by (PutRow a row) state)
    ∙ ap (λ (ts : List ResourceTable). with_tables ts state)
    (with_table_at-twice a (with_row row) (with_rows rows) (λ t is. is) state.tables)

-- Rows in order that are put where there are none are those rows.
rows_after-none : (rows : List Row) → IsAscending row_cmp rows → rows_after rows [] ≡ rows
rows_after-none rows up =
    unique row_cmp row_cmp_total (rows_after rows []) rows (IsAscending-merged row_cmp row_cmp_total rows [] tt) up
    (λ z m. by z (IsIn-merged row_cmp z rows [] m)) (λ z m. merged-IsIn row_cmp z rows [] up m)
  where
    by : (z : Row) → IsIn z rows ⊎ (IsIn z [] × IsApart row_cmp z rows) → IsIn z rows
    by z (inl m) = m
    by z (inr was) = absurd was.0

-- A new table: its rows ascend, and it keeps no memory ready.
pub record IsNew (t : ResourceTable) (tables : List ResourceTable) : Type 0 where
  pub none : found (at_address t.address) tables ≡ None
  pub rows : IsAscending row_cmp t.table.rows
  pub room : t.table.room ≡ 0

pub state_after-new : (t : ResourceTable) (state : State) → IsNew t state.tables
    → state_after (puts_of_table t) state ≡ with_tables (upserted table_cmp t state.tables) state
state_after-new t state new =
    state_after-rows t.address t.table.rows (with_tables (with_head (head_of t) state.tables) state)
    ∙ ap (λ (ts : List ResourceTable). with_tables ts state)
    (ap (λ (rows : List Row). with_table_at t.address (with_rows t.table.rows)
    (upserted table_cmp (table_of (head_of t) rows) state.tables)) (ap rows_of new.none)
    ∙ upserted-with_table_at (table_of (head_of t) []) (with_rows t.table.rows) refl state.tables new.none
    ∙ ap (λ (u : ResourceTable). upserted table_cmp u state.tables) whole)
  where
    whole : with_rows t.table.rows (table_of (head_of t) []) ≡ t
    whole =
        ap₂ (λ (rows : List Row) (room : ℕ). record t { table = record t.table { rows = rows; room = room } })
        (rows_after-none t.table.rows new.rows) (sym new.room)

-- ---- rows that are dropped

-- the table without the rows of these `_id`s
abbrev pub without_each : List ℕ → ResourceTable → ResourceTable
without_each ids t = record t { table = record t.table { rows = all_dropped row_at_id ids t.table.rows } }

pub all_dropped-rows : (ids : List ℕ) (rows : List Row) → all_dropped row_at_id ids rows ≡ cut_rows ids rows
all_dropped-rows ids rows =
    all_dropped-filter row_at_id ids rows
    ∙ filter_agree (λ (row : Row). not (list_any (λ i. is_eq (row_at_id i row)) ids))
    (λ (row : Row). not (is_among ids row.id))
    (λ row. ap not (list_any-same (λ i. is_eq (row_at_id i row)) (λ i. i == row.id)
    (λ i. same_id row.id i ∙ turned row.id i) ids)) rows
  where
    turned : (a b : ℕ) → (a == b) ≡ (b == a)
    turned a b = grind (arith, nat_tests)

without_each-is : (ids : List ℕ) (t : ResourceTable) → without_each ids t ≡ without_rows ids t
without_each-is ids t =
    ap (λ (rows : List Row). record t { table = record t.table { rows = rows } }) (all_dropped-rows ids t.table.rows)

pub state_after-drops : (a : Address) (ids : List ℕ) (state : State)
    → state_after (map (DropRow a) ids) state ≡ with_tables (with_table_at a (without_each ids) state.tables) state
state_after-drops a [] state =
    ap (λ (ts : List ResourceTable). with_tables ts state)
    (sym (with_table_at-same a (without_each []) state.tables (λ t m is. refl)))
state_after-drops a (id ∷ ids) state =
    state_after-drops a ids (changed_by (DropRow a id) state)
    ∙ ap (λ (ts : List ResourceTable). with_tables ts state)
    (with_table_at-twice a (without_row id) (without_each ids) (λ t is. is) state.tables)

pub state_after-delete_rows : (a : Address) (ids : List ℕ) (state : State)
    → state_after (map (DropRow a) ids) state ≡ with_tables (with_table_at a (without_rows ids) state.tables) state
state_after-delete_rows a ids state =
    state_after-drops a ids state
    ∙ ap (λ (ts : List ResourceTable). with_tables ts state)
    (with_table_at-agree a (without_each ids) (without_rows ids) state.tables (λ t m is. without_each-is ids t))

-- ---- a table that is dropped

rows-and-table_dropped : (a : Address) (ids : List ℕ) (state : State)
    → state_after (map (DropRow a) ids ++ DropTable a ∷ []) state
    ≡ with_tables (dropped (at_address a) state.tables) state
rows-and-table_dropped a [] state = refl
rows-and-table_dropped a (id ∷ ids) state =
    rows-and-table_dropped a ids (changed_by (DropRow a id) state)
    ∙ ap (λ (ts : List ResourceTable). with_tables ts state)
    (dropped-with_table_at a (without_row id) (λ t is. is) state.tables)

pub state_after-drops_of_table : (t : ResourceTable) (state : State)
    → state_after (drops_of_table t) state ≡ with_tables (dropped (at_address t.address) state.tables) state
state_after-drops_of_table t state = rows-and-table_dropped t.address (ids_of t.table.rows) state

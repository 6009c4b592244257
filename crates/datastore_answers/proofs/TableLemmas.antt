-- Tables by their addresses: which one is found, and the tables after the one at an index is changed.
use Rattle.std.proofs.Common.{◌≡◌, ℕ, zero, suc, ◌<◌, Bool, true, false, not, ◌&&◌, cond, List, [], ◌∷◌, length}
use Rattle.std.proofs.Common.{get_or}
use Rattle.std.proofs.Common.{Some, None, Ok, refl, sym, ap, subst, ◌∙◌, map, if◌then◌else◌, ◌==◌}
use Rattle.std.specs.Prelude.{slice_get, slice_set, option_map}
use Rattle.std.specs.Cmp.{unsigned_tied}
use Rattle.std.specs.Ordering.{is_eq, is_lt, nat_cmp, ordering_then}
use Rattle.std.specs.declared.cmp.Ordering.{Ordering}
use Rattle.std.specs.declared.cmp.Ordering.TheVariants.{Less, Equal, Greater}
use Rattle.std.specs.Cmp.Lexicographic.{slice_cmp}
use Rattle.std.specs.Str.{bytes_eq}
use Rattle.std.proofs.lemmas.Map.Text.{is_eq-slice_cmp}
use Rattle.portal_base.specs.Ordered.{IsAscending, IsBelowAll, dropped, found, inserted, upserted}
use Rattle.portal_base.proofs.Removed.{is_eq_true, none_above}
use Rattle.std.proofs.lemmas.Option.{same_Some, slice_get-get_or}
use Rattle.packages.proofs.FindLemmas.{IsIn-find}
use Rattle.portal_base.specs.declared.json_value.Json.{Json}
use Rattle.datastore_table.specs.Batch.{Written, cut_rows, worked_on}
use Rattle.datastore_table.specs.Put.{put_records}
use Rattle.datastore_table.specs.Rows.{rows_after}
use Rattle.datastore_table.specs.Table.{TableValue}
use Rattle.datastore_table.specs.declared.method.Method.{Method}
use Rattle.datastore_answers.specs.Changed.{without_rows, put_into, with_table_at, with_worked}
use Rattle.datastore_answers.specs.Order.{IsKey-at_address, at_address, is_at, table_cmp, table_cmp_total}
use Rattle.datastore_answers.specs.Tables.{without_room, table_at, tables_in}
use Rattle.datastore_answers.specs.declared.address.Address.{Address}
use Rattle.datastore_answers.specs.declared.resource_table.ResourceTable.{ResourceTable}

-- some table at an address, with nothing else in it
abbrev pub at : Address → ResourceTable
at address = record {
  address = address;
  targets = [];
  table = record {
    schema = record { fields = []; key = []; foreign = []; missing = [] };
    rows = [];
    next_id = 1;
    room = 0;
  };
}

-- ---- the table that is found

is_eq-ordering_then : (r s : Ordering) → is_eq (ordering_then r s) ≡ (is_eq r && is_eq s)
is_eq-ordering_then Less s = refl
is_eq-ordering_then Equal s = refl
is_eq-ordering_then Greater s = refl

-- A table is at an address just if both parts are equal.
pub is_at-parts : (address : Address) (t : ResourceTable)
    → is_at address t ≡ (bytes_eq t.address.dataset address.dataset && (t.address.number == address.number))
is_at-parts address t =
    is_eq-ordering_then (slice_cmp nat_cmp t.address.dataset address.dataset)
    (nat_cmp t.address.number address.number)
    ∙ ap (λ b. b && is_eq (nat_cmp t.address.number address.number))
    (is_eq-slice_cmp t.address.dataset address.dataset)
    ∙ ap (λ b. bytes_eq t.address.dataset address.dataset && b)
    (unsigned_tied t.address.number address.number)

-- The table found at an address is the one found among its dataset's tables.
pub table_found : (address : Address) (ts : List ResourceTable)
    → option_map without_room (found (at_address address) ts)
    ≡ table_at address.number (tables_in address.dataset (map without_room ts))
table_found address [] = refl
table_found address (t ∷ ts) =
    by (bytes_eq t.address.dataset address.dataset) (t.address.number == address.number) (is_at-parts address t)
    refl refl (table_found address ts)
  where
    by : (b c : Bool)
        → is_at address t ≡ (bytes_eq t.address.dataset address.dataset && (t.address.number == address.number))
        → bytes_eq t.address.dataset address.dataset ≡ b → (t.address.number == address.number) ≡ c
        → option_map without_room (found (at_address address) ts)
        ≡ table_at address.number (tables_in address.dataset (map without_room ts))
        → option_map without_room (cond (is_at address t) (Some t) (found (at_address address) ts))
        ≡ table_at address.number
        (cond (bytes_eq t.address.dataset address.dataset)
        (without_room t ∷ tables_in address.dataset (map without_room ts))
        (tables_in address.dataset (map without_room ts)))
    by true true is e f rest = rw (is, e, f) refl
    by true false is e f rest = rw (is, e, f) rest
    by false c is e f rest = rw (is, e) rest

-- ---- the table that is changed

-- No table after the one at an address is at that address too,
others_stay : (address : Address) (make : ResourceTable → ResourceTable) (ts : List ResourceTable)
    → found (at_address address) ts ≡ None → with_table_at address make (map without_room ts) ≡ map without_room ts
others_stay address make [] none = refl
others_stay address make (t ∷ ts) none = by (is_at address t) refl none (others_stay address make ts)
  where
    by : (b : Bool) → is_at address t ≡ b → cond b (Some t) (found (at_address address) ts) ≡ None
        → (found (at_address address) ts ≡ None → with_table_at address make (map without_room ts)
        ≡ map without_room ts)
        → (if is_at address t then make (without_room t) else without_room t)
        ∷ with_table_at address make (map without_room ts)
        ≡ without_room t ∷ map without_room ts
    by true is gone rest = absurd (cc)
    by false is gone rest = rw (is, rest gone) refl

-- and none before it is.
before_apart : (address : Address) (t u : ResourceTable) → table_cmp t u ≡ Less → is_at address u ≡ true
    → is_at address t ≡ false
before_apart address t u below there =
    let key : at_address address t ≡ table_cmp t u =
    key_of (is_eq_true (at_address address u) there) in
    ap is_eq (key ∙ below)
  where
    key_of : at_address address u ≡ Equal → at_address address t ≡ table_cmp t u
    key_of here = IsKey-at_address address u t here

below_there : (t u d : ResourceTable) (ts : List ResourceTable) (index : ℕ) → IsBelowAll table_cmp t ts
    → slice_get ts index ≡ Some u → table_cmp t u ≡ Less
below_there t u d [] index below there = absurd (cc)
below_there t u d (v ∷ vs) zero below there = let same : v ≡ u = cc in subst (λ w. table_cmp t w ≡ Less) same below.0
below_there t u d (v ∷ vs) (suc index) below there = below_there t u d vs index below.1 there

-- Setting the table at an index changes the table at its address, and no other.
pub with_table_at-set : (address : Address) (make : ResourceTable → ResourceTable) (t u : ResourceTable)
    (ts : List ResourceTable) (index : ℕ) → IsAscending table_cmp ts → slice_get ts index ≡ Some t
    → is_at address t ≡ true → without_room u ≡ make (without_room t)
    → map without_room (slice_set ts index u) ≡ with_table_at address make (map without_room ts)
with_table_at-set address make t u [] index up there here made = absurd (cc)
with_table_at-set address make t u (v ∷ vs) zero up there here made =
    let same : v ≡ t = cc in
    let is_there : is_at address v ≡ true = ap (is_at address) same ∙ here in
    let rest = others_stay address make vs
    (none_above table_cmp table_cmp_total (at_address address) (IsKey-at_address address) v vs
    (is_eq_true (at_address address v) is_there) up.0) in
    rw (is_there, rest) (ap (λ w. w ∷ map without_room vs) (made ∙ ap (λ w. make (without_room w)) (sym same)))
with_table_at-set address make t u (v ∷ vs) (suc index) up there here made =
    let before : is_at address v ≡ false =
    before_apart address v t (below_there v t t vs index up.0 there) here in
    rw before (ap (λ w. without_room v ∷ w) (with_table_at-set address make t u vs index up.1 there here made))

-- Replacing a table by one at its own address keeps the order.
pub IsAscending-set : (t u : ResourceTable) (ts : List ResourceTable) (index : ℕ) → IsAscending table_cmp ts
    → slice_get ts index ≡ Some t → u.address ≡ t.address → IsAscending table_cmp (slice_set ts index u)
IsAscending-set t u [] index up there same = absurd (cc)
IsAscending-set t u (v ∷ vs) zero up there same =
    let same_table : v ≡ t = cc in
    let like : u.address ≡ v.address = cc in
    (above vs like up.0, up.1)
  where
    above : (ws : List ResourceTable) → u.address ≡ v.address → IsBelowAll table_cmp v ws → IsBelowAll table_cmp u ws
    above [] like below = tt
    above (w ∷ ws) like below =
        (subst (λ a. table_cmp (record u { address = a }) w ≡ Less) (sym like) below.0, above ws like below.1)
IsAscending-set t u (v ∷ vs) (suc index) up there same =
    (below vs index up.0 there, IsAscending-set t u vs index up.1 there same)
  where
    below : (ws : List ResourceTable) (n : ℕ) → IsBelowAll table_cmp v ws → slice_get ws n ≡ Some t
        → IsBelowAll table_cmp v (slice_set ws n u)
    below [] n under exists = absurd (cc)
    below (w ∷ ws) zero under exists =
        let same_table : w ≡ t = cc in
        let like : u.address ≡ w.address = cc in
        (subst (λ a. table_cmp v (record u { address = a }) ≡ Less) (sym like) under.0, under.1)
    below (w ∷ ws) (suc n) under exists = (under.0, below ws n under.1 exists)

-- ---- the memory that tables have ready doesn't change the order

pub inserted_without_room : (t : ResourceTable) (ts : List ResourceTable)
    → map without_room (inserted table_cmp t ts) ≡ inserted table_cmp (without_room t) (map without_room ts)
inserted_without_room t [] = refl
inserted_without_room t (u ∷ us) = by (is_lt (table_cmp u t)) (inserted_without_room t us)
  where
    by : (b : Bool) → map without_room (inserted table_cmp t us)
        ≡ inserted table_cmp (without_room t) (map without_room us)
        → map without_room (cond b (u ∷ inserted table_cmp t us) (t ∷ u ∷ us))
        ≡ cond b (without_room u ∷ inserted table_cmp (without_room t) (map without_room us))
        (without_room t ∷ without_room u ∷ map without_room us)
    by true rest = ap (λ l. without_room u ∷ l) rest
    by false rest = refl

pub dropped_without_room : (address : Address) (ts : List ResourceTable)
    → map without_room (dropped (at_address address) ts) ≡ dropped (at_address address) (map without_room ts)
dropped_without_room address [] = refl
dropped_without_room address (t ∷ ts) = by (not (is_at address t)) (dropped_without_room address ts)
  where
    by : (b : Bool) → map without_room (dropped (at_address address) ts)
        ≡ dropped (at_address address) (map without_room ts)
        → map without_room (cond b (t ∷ dropped (at_address address) ts) (dropped (at_address address) ts))
        ≡ cond b (without_room t ∷ dropped (at_address address) (map without_room ts))
        (dropped (at_address address) (map without_room ts))
    by true rest = ap (λ l. without_room t ∷ l) rest
    by false rest = rest

pub placed_without_room : (t : ResourceTable) (ts : List ResourceTable)
    → map without_room (upserted table_cmp t ts) ≡ upserted table_cmp (without_room t) (map without_room ts)
placed_without_room t ts =
    inserted_without_room t (dropped (at_address t.address) ts)
    ∙ ap (inserted table_cmp (without_room t)) (dropped_without_room t.address ts)

-- ---- the table at an index

-- The table found at an address is the one read at its index.
pub read-there : (address : Address) (ts : List ResourceTable) (index : ℕ) (t u : ResourceTable)
    → found (at_address address) ts ≡ Some t → found (at_address address) ts ≡ slice_get ts index
    → index < length ts → u ≡ get_or ts index u → u ≡ t
read-there address ts index t u exists there within read =
    let got : slice_get ts index ≡ Some (get_or ts index u) = slice_get-get_or ts index u within in
    read ∙ same_Some (get_or ts index u) t (sym got ∙ sym there ∙ exists)

-- It is at the address.
pub there-at : (address : Address) (ts : List ResourceTable) (t : ResourceTable)
    → found (at_address address) ts ≡ Some t → is_at address t ≡ true
there-at address ts t exists = (IsIn-find (is_at address) t ts exists).1

-- ---- the table after a commit

pub without_room-delete_rows : (t : ResourceTable) (ids : List ℕ) (new : TableValue) → new.rows
    ≡ cut_rows ids t.table.rows
    → new.next_id ≡ t.table.next_id → new.schema ≡ t.table.schema
    → without_room (record t { table = new }) ≡ without_rows ids (without_room t)
without_room-delete_rows t ids new rows next schema = rw (rows, next, schema) refl

pub without_room-put : (t : ResourceTable) (method : Method) (records : List Json) (work : Written) (new : TableValue)
    → new.rows ≡ rows_after work.changed t.table.rows → new.next_id ≡ work.next_id → new.schema ≡ t.table.schema
    → put_records method records t.table ≡ Ok (worked_on t.table.rows work)
    → without_room (record t { table = new }) ≡ put_into method records (without_room t)
without_room-put t method records work new rows next schema made =
    rw (rows, next, schema) (sym (ap (with_worked (without_room t)) made))

-- ---- a table that gets more memory ready

-- Nothing else of the tables changes.
pub without_room-set : (t u : ResourceTable) (ts : List ResourceTable) (index : ℕ) → slice_get ts index ≡ Some t
    → without_room u ≡ without_room t → map without_room (slice_set ts index u) ≡ map without_room ts
without_room-set t u [] index there same = absurd (cc)
without_room-set t u (v ∷ vs) zero there same =
    let same_table : v ≡ t = cc in ap (λ w. w ∷ map without_room vs) (same ∙ ap without_room (sym same_table))
without_room-set t u (v ∷ vs) (suc index) there same = ap (λ w. without_room v ∷ w)
    (without_room-set t u vs index there same)

-- It is found at its address.
pub found-set : (address : Address) (t u : ResourceTable) (ts : List ResourceTable) (index : ℕ)
    → IsAscending table_cmp ts → slice_get ts index ≡ Some t → is_at address t ≡ true → is_at address u ≡ true
    → found (at_address address) (slice_set ts index u) ≡ Some u
found-set address t u [] index up there here new = absurd (cc)
found-set address t u (v ∷ vs) zero up there here new =
    ap (λ b. cond b (Some u) (found (at_address address) vs)) new
found-set address t u (v ∷ vs) (suc index) up there here new =
    ap (λ b. cond b (Some v) (found (at_address address) (slice_set vs index u)))
    (before_apart address v t (below_there v t t vs index up.0 there) here)
    ∙ found-set address t u vs index up.1 there here new

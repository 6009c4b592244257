-- A store of rows: its index leads to each row, also after a change.
use Rattle.std.proofs.Common.{◌≡◌, ◌∙◌, ◌⊎◌, inl, inr, ℕ, zero, suc, ◌+◌, ◌*◌, ◌≤◌, Bool, true, false, ◌&&◌, not}
use Rattle.std.proofs.Common.{List, []}
use Rattle.std.proofs.Common.{◌∷◌}
use Rattle.std.proofs.Common.{◌++◌, ◌<◌, ◌==◌, ap, refl, subst, sym, arith, slice_get, get_or, Some, if◌then◌else◌}
use Rattle.std.proofs.Common.{drop, drop-cons, length}
use Rattle.std.proofs.lemmas.Bool.Decides.{nat_tests}
use Rattle.std.proofs.lemmas.Cmp.{tied_itself}
use Rattle.std.specs.Cmp.{nat_cmp_total}
use Rattle.std.specs.List.{Contains, list_all}
use Rattle.std.specs.Ordering.{is_eq, nat_cmp}
use Rattle.lexical_forms.specs.Digits.{is_empty}
use Rattle.portal_base.specs.Ordered.{upserted}
use Rattle.portal_base.proofs.Filtered.{IsIn-filter}
use Rattle.portal_base.proofs.Upserted.{IsIn-upserted}
use Rattle.portal_base.proofs.Unique.{IsIn, IsIn-get_or}
use Rattle.table_schema.specs.Field.{FieldValue, SchemaValue}
use Rattle.table_schema.specs.declared.cell.Cell.{Cell}
use Rattle.digest_index.specs.Index.{IndexState, IsUnder, Enters, Leaves, first_under, further_under}
use Rattle.datastore_table.specs.declared.row.Row.{Row}
use Rattle.datastore_table.specs.declared.store.RowStore.{RowStore}
use Rattle.datastore_table.specs.Batch.{cut_rows, is_among}
use Rattle.datastore_table.specs.Cells.{cells_at}
use Rattle.datastore_table.specs.Index.{EntersAt, EntersRow, IsIndexed, IsIndexedAt, IsLedTo}
use Rattle.datastore_table.specs.Index.{IsLeft, IsSound, IsStoreOf, IsSearchable, IsUniquelyIndexed, LeavesAll, LeavesRow}
use Rattle.datastore_table.specs.Index.{column_lists_of, digest_of, unique_column_lists}
use Rattle.datastore_table.specs.Meets.{keeps_self_reference, is_numbered, IsTable, keys_apart, meets_schema, row_meets}
use Rattle.datastore_table.specs.Meets.{uniques_apart}
use Rattle.datastore_table.specs.Rows.{row_cmp}
use Rattle.datastore_table.proofs.ReferenceLemmas.{found-any}
use Rattle.datastore_table.proofs.KeptLemmas.{met-parts, restorable-table}
use Rattle.datastore_table.proofs.KeyLemmas.{not_true, true_false}

-- ---- the lists of columns

pub in_right : {X : Type 0} (z : X) (xs ys : List X) → IsIn z ys → IsIn z (xs ++ ys)
in_right z [] ys m = m
in_right z (x ∷ xs) ys m = inr (in_right z xs ys m)

key_in : (schema : SchemaValue) → is_empty schema.key ≡ false → IsIn schema.key (column_lists_of schema)
key_in schema some =
    subst (λ b. IsIn schema.key ((if b then [] else schema.key ∷ []) ++ unique_column_lists 0 schema.fields)) (sym some)
    (inl refl)

unique_in : (from column : ℕ) (fields : List FieldValue) (field : FieldValue) → slice_get fields column ≡ Some field
    → field.constraints.unique ≡ true → IsIn ((from + column) ∷ []) (unique_column_lists from fields)
unique_in from column [] field at unique = absurd (cc)
unique_in from zero (f ∷ fields) field at unique =
    let same : f ≡ field = cc in
    let own : f.constraints.unique ≡ true = ap (λ (x : FieldValue). x.constraints.unique) same ∙ unique in
    let here : from + 0 ≡ from = omega arith in
    subst (λ b. IsIn ((from + 0) ∷ []) (if b then (from ∷ []) ∷ unique_column_lists (from + 1) fields
    else unique_column_lists (from + 1) fields)) (sym own) (inl (ap (λ k. k ∷ []) here))
unique_in from (suc column) (f ∷ fields) field at unique =
    let step : from + 1 + column ≡ from + suc column = omega arith in
    let later : IsIn ((from + suc column) ∷ []) (unique_column_lists (from + 1) fields) =
    subst (λ k. IsIn (k ∷ []) (unique_column_lists (from + 1) fields)) step
    (unique_in (from + 1) column fields field at unique) in
    by f.constraints.unique later
  where
    by : (b : Bool) → IsIn ((from + suc column) ∷ []) (unique_column_lists (from + 1) fields)
        → IsIn ((from + suc column) ∷ []) (if b then (from ∷ []) ∷ unique_column_lists (from + 1) fields
        else unique_column_lists (from + 1) fields)
    by true m = inr m
    by false m = m

pub key_indexed : (schema : SchemaValue) (rows : List Row) (index : IndexState ℕ)
    → IsIndexed (column_lists_of schema) rows index
    → is_empty schema.key ≡ false → IsIndexedAt schema.key rows index
key_indexed schema rows index indexed some = indexed schema.key (key_in schema some)

pub unique_indexed : (schema : SchemaValue) (rows : List Row) (index : IndexState ℕ)
    → IsIndexed (column_lists_of schema) rows index → IsUniquelyIndexed schema.fields rows index
unique_indexed schema rows index indexed column field at unique =
    indexed (column ∷ [])
    (in_right (column ∷ []) (if is_empty schema.key then [] else schema.key ∷ []) (unique_column_lists 0 schema.fields)
    (subst (λ k. IsIn (k ∷ []) (unique_column_lists 0 schema.fields)) (zero_add column)
    (unique_in 0 column schema.fields field at unique)))
  where
    zero_add : (k : ℕ) → 0 + k ≡ k
    zero_add k = omega arith

-- A table's rows are found by its index.
pub searchable : (schema : SchemaValue) (store : RowStore) (next_id : ℕ) → IsStoreOf schema store next_id
    → IsSearchable schema store.rows.items store.index
searchable schema store next_id whole =
    let met = met-parts schema store.rows.items whole.table.meets in
    let indexed : IsIndexed (column_lists_of schema) store.rows.items store.index =
    subst (λ cs. IsIndexed cs store.rows.items store.index) whole.column_lists whole.sound.indexed in
    record {
      keyed = record {
        ascending = whole.table.numbered.ascending;
        apart = met.keys;
        indexed = key_indexed schema store.rows.items store.index indexed;
      };
      uniques = met.uniques;
      unique = unique_indexed schema store.rows.items store.index indexed;
    }

-- ---- changes

-- The index leads to the remaining rows.
pub delete_indexed : (column_lists : List (List ℕ)) (ids : List ℕ) (rows : List Row) (old new : IndexState ℕ)
    → IsIndexed column_lists rows old → LeavesAll old new ids → IsIndexed column_lists (cut_rows ids rows) new
delete_indexed column_lists ids rows old new indexed leaves columns m row n full =
    let stays = IsIn-filter (λ (r : Row). not (is_among ids r.id)) row rows n in
    leaves.kept _ row.id (not_true (is_among ids row.id) stays.1) (indexed columns m row stays.0 full)

like_itself : (a b : Row) → a.id ≡ b.id → is_eq (row_cmp a b) ≡ true
like_itself a b same = ap (λ i. is_eq (nat_cmp a.id i)) (sym same) ∙ ap is_eq (tied_itself nat_cmp_total a.id)

-- After a row's entries were replaced, the index leads to it and to all others.
pub put_indexed : (column_lists : List (List ℕ)) (w : Row) (rows : List Row) (old mid new : IndexState ℕ)
    → IsIndexed column_lists rows old → LeavesRow old mid w.id → EntersRow mid new column_lists w
    → IsIndexed column_lists (upserted row_cmp w rows) new
put_indexed column_lists w rows old mid new indexed leaves enters columns m row n = by (IsIn-upserted row_cmp w row rows n)
  where
    other : is_eq (row_cmp row w) ≡ false → row.id ≡ w.id → ⊥
    other apart same = true_false (is_eq (row_cmp row w)) (like_itself row w same) apart

    by : (row ≡ w) ⊎ (IsIn row rows × (is_eq (row_cmp row w) ≡ false)) → IsLedTo columns new row
    by (inl same) = subst (λ (r : Row). IsLedTo columns new r) (sym same) (enters.led columns m)
    by (inr k) = λ full.
        enters.kept _ row.id (leaves.kept _ row.id (other k.1) (indexed columns m row k.0 full))

-- What an index has after one number was entered or removed.
pub entered_one : (old new : IndexState ℕ) (digest id : ℕ) → Enters old new digest id → IsUnder new digest id
entered_one old new digest id enters = (enters.under digest id).1 (inr (refl, refl))

pub entered_kept : (old new : IndexState ℕ) (digest id : ℕ) → Enters old new digest id → (d i : ℕ) → IsUnder old d i
    → IsUnder new d i
entered_kept old new digest id enters d i under = (enters.under d i).1 (inl under)

pub left_one : (old new : IndexState ℕ) (digest id : ℕ) → Leaves old new digest id → LeavesRow old new id
left_one old new digest id leaves = record {
  kept = λ d i other under. (leaves.under d i).1 (under, λ both. other both.1);
  there = λ d i under. ((leaves.under d i).0 under).0;
  room = leaves.room;
}

pub left_gone : (old new : IndexState ℕ) (digest id : ℕ) → Leaves old new digest id → IsUnder new digest id → ⊥
left_gone old new digest id leaves under = ((leaves.under digest id).0 under).1 (refl, refl)

-- ---- one more item of a list

-- the rest of a list, and the rest after its first item
pub rest_of : {X : Type 0} (xs : List X) (k : ℕ) (x : X) → k < length xs → x ≡ get_or xs k x
    → drop k xs ≡ x ∷ drop (k + 1) xs
rest_of xs k x lt is =
    drop-cons xs k x lt ∙ ap (λ y. y ∷ drop (suc k) xs) (sym is) ∙ ap (λ n. x ∷ drop n xs) (step k)
  where
    step : (n : ℕ) → suc n ≡ n + 1
    step n = omega arith

-- An item of the rest is its first item, or comes after it.
pub split_rest : {X : Type 0} (xs : List X) (k : ℕ) (x z : X) → k < length xs → x ≡ get_or xs k x
    → IsIn z (drop k xs) → (z ≡ x) ⊎ IsIn z (drop (k + 1) xs)
split_rest xs k x z lt is m = subst (λ ys. IsIn z ys) (rest_of xs k x lt is) m

-- the index leads to the rows, except those of the rest
abbrev pub IsLedTill : List (List ℕ) → List Row → List Row → IndexState ℕ → Type 0
IsLedTill column_lists rest rows index =
    (columns : List ℕ) → IsIn columns column_lists → (row : Row) → IsIn row rows
    → IsIn row rest ⊎ IsLedTo columns index row

pub enter_more : (column_lists : List (List ℕ)) (rows : List Row) (k : ℕ) (row : Row) (old new : IndexState ℕ)
    → k < length rows
    → row ≡ get_or rows k row → IsLedTill column_lists (drop k rows) rows old → EntersRow old new column_lists row
    → IsLedTill column_lists (drop (k + 1) rows) rows new
enter_more column_lists rows k row old new lt is led enters columns m r n = by (led columns m r n)
  where
    by : IsIn r (drop k rows) ⊎ IsLedTo columns old r → IsIn r (drop (k + 1) rows) ⊎ IsLedTo columns new r
    by (inl rest) = split (split_rest rows k row r lt is rest)
      where
        split : (r ≡ row) ⊎ IsIn r (drop (k + 1) rows) → IsIn r (drop (k + 1) rows) ⊎ IsLedTo columns new r
        split (inl same) = inr (subst (λ (x : Row). IsLedTo columns new x) (sym same) (enters.led columns m))
        split (inr later) = inl later
    by (inr there) = inr (λ full. enters.kept _ r.id (there full))

times_more : (a b : ℕ) → suc a * b ≡ a * b + b
times_more a b = omega arith

pub room_more : (rows : List Row) (k : ℕ) (row : Row) (lists old new : ℕ) → k < length rows → row ≡ get_or rows k row
    → length (drop k rows) * lists ≤ old → old ≤ new + lists → length (drop (k + 1) rows) * lists ≤ new
room_more rows k row lists old new lt is room step =
    let count : length (drop k rows) ≡ suc (length (drop (k + 1) rows)) = ap length (rest_of rows k row lt is) in
    let product : length (drop k rows) * lists ≡ length (drop (k + 1) rows) * lists + lists =
    ap (λ n. n * lists) count ∙ times_more (length (drop (k + 1) rows)) lists in
    omega (arith, room, product, step)

-- There is room for the first of some rows.
pub room_first : (rows : List Row) (k : ℕ) (row : Row) (lists room : ℕ) → k < length rows → row ≡ get_or rows k row
    → length (drop k rows) * lists ≤ room → lists ≤ room
room_first rows k row lists room lt is fits =
    let count : length (drop k rows) ≡ suc (length (drop (k + 1) rows)) = ap length (rest_of rows k row lt is) in
    let product : length (drop k rows) * lists ≡ length (drop (k + 1) rows) * lists + lists =
    ap (λ n. n * lists) count ∙ times_more (length (drop (k + 1) rows)) lists in
    omega (arith, fits, product)

-- The room that is left after one of the rows for which there was room.
pub room_left : (ready left lists old mid new : ℕ) → left + 1 ≡ ready → ready * lists ≤ old → old ≤ mid
    → mid ≤ new + lists → left * lists ≤ new
room_left ready left lists old mid new one fits leaves enters =
    let count : ready ≡ suc left = omega (arith, one) in
    let product : ready * lists ≡ left * lists + lists = ap (λ n. n * lists) count ∙ times_more left lists in
    omega (arith, fits, product, leaves, enters)

pub room_of_one : (ready lists old mid : ℕ) → 1 ≤ ready → ready * lists ≤ old → old ≤ mid → lists ≤ mid
room_of_one ready lists old mid some fits leaves =
    let product : 1 * lists ≤ ready * lists = grind arith in
    omega (arith, fits, product, leaves)

pub leave_next : (ids : List ℕ) (k id : ℕ) (old mid new : IndexState ℕ) → k < length ids → id ≡ get_or ids k id
    → LeavesAll old mid ids → LeavesRow mid new id → LeavesAll old new ids
leave_next ids k id old mid new lt is so_far leaves = record {
  kept = λ d i apart candidate.
      leaves.kept d i (λ same. true_false (is_among ids i) (among i same) apart) (so_far.kept d i apart candidate);
  room = omega (arith, so_far.room, leaves.room);
}
  where
    among : (i : ℕ) → i ≡ id → is_among ids i ≡ true
    among i same =
        found-any (λ j. j == i) id ids (IsIn-get_or id ids k lt (sym is)) (eq_test id i (sym same))
      where
        eq_test : (a b : ℕ) → a ≡ b → (a == b) ≡ true
        eq_test a b h = grind (arith, nat_tests)

-- the item at an index, whatever the default past the end
pub item_at : (xs : List ℕ) (k d e : ℕ) → k < length xs → get_or xs k d ≡ get_or xs k e
item_at [] k d e lt = absurd (omega arith)
item_at (x ∷ xs) zero d e lt = refl
item_at (x ∷ xs) (suc k) d e lt = item_at xs k d e (omega (arith, lt))

pub leave_next_at : (ids : List ℕ) (k : ℕ) (old mid new : IndexState ℕ) → k < length ids → LeavesAll old mid ids
    → LeavesRow mid new (get_or ids k 0) → LeavesAll old new ids
leave_next_at ids k old mid new lt so_far leaves =
    leave_next ids k (get_or ids k 0) old mid new lt (item_at ids k 0 (get_or ids k 0) lt) so_far leaves

-- the index leads to the row, except by the lists of columns of the rest
abbrev pub IsLedButBy : List (List ℕ) → List (List ℕ) → Row → IndexState ℕ → Type 0
IsLedButBy column_lists rest row index =
    (columns : List ℕ) → IsIn columns column_lists → IsIn columns rest ⊎ IsLedTo columns index row

pub led_more : (column_lists : List (List ℕ)) (k : ℕ) (columns : List ℕ) (row : Row) (old new : IndexState ℕ)
    → k < length column_lists
    → columns ≡ get_or column_lists k columns → IsLedButBy column_lists (drop k column_lists) row old
    → EntersAt old new columns row
    → IsLedButBy column_lists (drop (k + 1) column_lists) row new
led_more column_lists k columns row old new lt is led enters p m = by (led p m)
  where
    by : IsIn p (drop k column_lists) ⊎ IsLedTo p old row → IsIn p (drop (k + 1) column_lists) ⊎ IsLedTo p new row
    by (inl rest) = split (split_rest column_lists k columns p lt is rest)
      where
        split : (p ≡ columns) ⊎ IsIn p (drop (k + 1) column_lists)
            → IsIn p (drop (k + 1) column_lists) ⊎ IsLedTo p new row
        split (inl same) = inr (subst (λ (q : List ℕ). IsLedTo q new row) (sym same) enters.led)
        split (inr later) = inl later
    by (inr there) = inr (λ full. enters.kept _ row.id (there full))

pub leaves_through : (old mid new : IndexState ℕ) (id : ℕ) → LeavesRow old mid id → LeavesRow mid new id
    → LeavesRow old new id
leaves_through old mid new id first second = record {
  kept = λ d i other candidate. second.kept d i other (first.kept d i other candidate);
  there = λ d i candidate. first.there d i (second.there d i candidate);
  room = omega (arith, first.room, second.room);
}

-- the entries of these cells are removed, except for the lists of columns of the rest
abbrev pub IsGoneBut : List (List ℕ) → List (List ℕ) → List Cell → ℕ → IndexState ℕ → Type 0
IsGoneBut column_lists rest cells id index =
    (columns : List ℕ) → IsIn columns column_lists
    → IsIn columns rest ⊎ (IsUnder index (digest_of columns (cells_at columns cells)) id → ⊥)

pub gone_more : (column_lists : List (List ℕ)) (k : ℕ) (columns : List ℕ) (cells : List Cell) (id : ℕ) (old new : IndexState ℕ)
    → k < length column_lists → columns ≡ get_or column_lists k columns
    → IsGoneBut column_lists (drop k column_lists) cells id old
    → LeavesRow old new id → (IsUnder new (digest_of columns (cells_at columns cells)) id → ⊥)
    → IsGoneBut column_lists (drop (k + 1) column_lists) cells id new
gone_more column_lists k columns cells id old new lt is gone leaves here p m = by (gone p m)
  where
    by : IsIn p (drop k column_lists) ⊎ (IsUnder old (digest_of p (cells_at p cells)) id → ⊥)
        → IsIn p (drop (k + 1) column_lists) ⊎ (IsUnder new (digest_of p (cells_at p cells)) id → ⊥)
    by (inl rest) = split (split_rest column_lists k columns p lt is rest)
      where
        split : (p ≡ columns) ⊎ IsIn p (drop (k + 1) column_lists)
            → IsIn p (drop (k + 1) column_lists) ⊎ (IsUnder new (digest_of p (cells_at p cells)) id → ⊥)
        split (inl same) =
            inr (subst (λ (q : List ℕ). IsUnder new (digest_of q (cells_at q cells)) id → ⊥) (sym same) here)
        split (inr later) = inl later
    by (inr away) = inr (λ candidate. away (leaves.there _ id candidate))

pub left_still : (column_lists : List (List ℕ)) (rows : List Row) (i id : ℕ) (old new : IndexState ℕ) → LeavesRow old new id
    → IsLeft column_lists rows i old → IsLeft column_lists rows i new
left_still column_lists rows i id old new leaves left row at columns m candidate =
    left row at columns m (leaves.there _ i candidate)

-- the entries of the items are removed, except those of the rest
abbrev pub IsLeftBut : {X : Type 0} → (X → ℕ) → List (List ℕ) → List Row → List X → List X → IndexState ℕ → Type 0
IsLeftBut {X} id_of column_lists rows items rest index =
    (x : X) → IsIn x items → IsIn x rest ⊎ IsLeft column_lists rows (id_of x) index

pub left_more : {X : Type 0} (id_of : X → ℕ) (column_lists : List (List ℕ)) (rows : List Row) (items : List X) (k : ℕ)
    (x : X) (old new : IndexState ℕ) → k < length items → x ≡ get_or items k x
    → IsLeftBut id_of column_lists rows items (drop k items) old → LeavesRow old new (id_of x)
    → IsLeft column_lists rows (id_of x) new → IsLeftBut id_of column_lists rows items (drop (k + 1) items) new
left_more {X} id_of column_lists rows items k x old new lt is left leaves here y m = by (left y m)
  where
    by : IsIn y (drop k items) ⊎ IsLeft column_lists rows (id_of y) old
        → IsIn y (drop (k + 1) items) ⊎ IsLeft column_lists rows (id_of y) new
    by (inl rest) = split (split_rest items k x y lt is rest)
      where
        split : (y ≡ x) ⊎ IsIn y (drop (k + 1) items)
            → IsIn y (drop (k + 1) items) ⊎ IsLeft column_lists rows (id_of y) new
        split (inl same) = inr (subst (λ z. IsLeft column_lists rows (id_of z) new) (sym same) here)
        split (inr later) = inl later
    by (inr away) = inr (left_still column_lists rows (id_of y) (id_of x) old new leaves away)

-- ---- all of a list

drop_end : {X : Type 0} (xs : List X) (k : ℕ) → length xs ≤ k → drop k xs ≡ []
drop_end [] zero le = refl
drop_end [] (suc k) le = refl
drop_end (x ∷ xs) zero le = absurd (omega (arith, le))
drop_end (x ∷ xs) (suc k) le = drop_end xs k (omega (arith, le))

-- At the end of the list the rest is empty, so all items are done.
pub all_but_end : {X : Type 0} (P : X → Type 0) (items : List X) (k : ℕ) → length items ≤ k
    → ((x : X) → IsIn x items → IsIn x (drop k items) ⊎ P x) → (x : X) → IsIn x items → P x
all_but_end P items k le all x m = by (all x m)
  where
    by : IsIn x (drop k items) ⊎ P x → P x
    by (inl rest) = absurd (subst (λ xs. IsIn x xs) (drop_end items k le) rest)
    by (inr holds) = holds

pub entered_all : (column_lists : List (List ℕ)) (k : ℕ) (row : Row) (old new : IndexState ℕ)
    → length column_lists ≤ k → k ≤ length column_lists → IsLedButBy column_lists (drop k column_lists) row new
    → ((d i : ℕ) → IsUnder old d i → IsUnder new d i) → old.room ≤ new.room + k → EntersRow old new column_lists row
entered_all column_lists k row old new le within led kept room = record {
  led = λ p m. by p (led p m);
  kept = kept;
  room = omega (arith, le, within, room);
}
  where
    by : (p : List ℕ) → IsIn p (drop k column_lists) ⊎ IsLedTo p new row → IsLedTo p new row
    by p (inl rest) = absurd (subst (λ ys. IsIn p ys) (drop_end column_lists k le) rest)
    by p (inr there) = there

-- ---- the same

pub indexed_same : (column_lists : List (List ℕ)) (was rows : List Row) (old new : IndexState ℕ) → rows ≡ was
    → ((d : ℕ) → first_under d new ≡ first_under d old) → new.further ≡ old.further
    → IsIndexed column_lists was old → IsIndexed column_lists rows new
indexed_same column_lists was rows old new same under further indexed columns m row n full =
    by (indexed columns m row (subst (λ rs. IsIn row rs) same n) full)
  where
    d : ℕ
    d = digest_of columns (cells_at columns row.cells)

    by : IsUnder old d row.id → IsUnder new d row.id
    by (inl there) = inl (under d ∙ there)
    by (inr among) = inr (subst (λ es. Contains (further_under d es) row.id) (sym further) among)

-- ---- restored rows

both : (a b : Bool) → a ≡ true → b ≡ true → (a && b) ≡ true
both a b h k = rw (h, k) refl

-- A store of rows that passed the checks of a table is that table's store.
pub restored_store : (schema : SchemaValue) (rows : List Row) (store : RowStore) (next_id : ℕ)
    → is_numbered rows next_id ≡ true → list_all (row_meets schema) rows ≡ true
    → (keys_apart schema.key rows && (uniques_apart 0 schema.fields rows
    && list_all (keeps_self_reference schema.key rows) schema.foreign)) ≡ true
    → store.rows.items ≡ rows → IsSound store → store.column_lists.items ≡ column_lists_of schema
    → IsStoreOf schema store next_id
restored_store schema rows store next_id numbered met related same sound column_lists = record {
  table = subst (λ (r : List Row). IsTable schema r next_id) (sym same)
      (restorable-table schema rows next_id
      (both (is_numbered rows next_id) (meets_schema schema rows) numbered
      (both (list_all (row_meets schema) rows) (keys_apart schema.key rows && (uniques_apart 0 schema.fields rows
      && list_all (keeps_self_reference schema.key rows) schema.foreign)) met related)));
  sound = sound;
  column_lists = column_lists;
}

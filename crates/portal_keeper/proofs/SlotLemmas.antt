-- The rows of slots, while slots are made, written to and dropped.
use Rattle.std.proofs.Common.{◌≡◌, ℕ, Bool, true, false, not, cond, List, [], ◌∷◌, ◌++◌, Option, Some, None, refl, sym}
use Rattle.std.proofs.Common.{ap, ◌∙◌, subst}
use Rattle.std.specs.Prelude.{is_some, is_ok, Result, Ok, Err, OnOk, OnErr, map}
use Rattle.std.specs.declared.cmp.Ordering.{Ordering}
use Rattle.std.specs.declared.cmp.Ordering.TheVariants.{Less, Equal, Greater}
use Rattle.std.specs.Ordering.{is_eq, is_lt, ordering_reverse, match_ordering}
use Rattle.std.specs.BTreeMap.{is_at, insert_entry}
use Rattle.std.specs.Map.{keys_of, lookup, remove_entry}
use Rattle.std.specs.List.{AllByRecursion, All}
use Rattle.std.specs.List.Sorted.{IsStrictlySortedBy}
use Rattle.std.proofs.lemmas.Cmp.{tied_itself, tied_back}
use Rattle.std.proofs.lemmas.List.Elements.{All-nil, All-cons, All-head, All-tail}
use Rattle.portal_base.specs.Ordered.{IsBelowAll, inserted, dropped, upserted}
use Rattle.portal_base.proofs.Inserted.{IsBelowAll-trans}
use Rattle.portal_base.proofs.Removed.{none_above, inserted_front}
use Rattle.portal_base.proofs.Upserted.{dropped-none}
use Rattle.portal_keeper.specs.declared.change.Change.{Change}
use Rattle.portal_keeper.specs.declared.row.KeptRow.{KeptRow}
use Rattle.portal_keeper.specs.declared.slots.RowKey.{RowKey}
use Rattle.portal_keeper.specs.declared.slots.SlotWrite.{SlotWrite}
use Rattle.portal_keeper.specs.Rows.{row_cmp, row_cmp_total, row_at, IsKey-row_at, AreInOrder}
use Rattle.portal_keeper.specs.Changed.{changed_rows, rows_after}
use Rattle.portal_keeper.specs.Slots.{SlotList, slot_cmp, slot_cmp_total, slot_rows, slot_row_and, row_of}
use Rattle.portal_keeper.specs.Slots.{HasSlot, change_of_body}
use Rattle.portal_keeper.proofs.RowLemmas.{same_key, in_order-rows_after}

-- ---- slots without a body

-- A slot that is made without a body adds no row.
pub slot_rows-made : (key : RowKey) (slots : SlotList) → lookup (is_at (slot_cmp key)) slots ≡ None
    → slot_rows (insert_entry slot_cmp slots key None) ≡ slot_rows slots
slot_rows-made key [] none = refl
slot_rows-made key (slot ∷ slots) none =
    by (slot_cmp key slot.0) none (slot_rows-made key slots)
  where
    by : (r : Ordering) → cond (is_eq r) (Some slot.1) (lookup (is_at (slot_cmp key)) slots) ≡ None
        → (lookup (is_at (slot_cmp key)) slots ≡ None
        → slot_rows (insert_entry slot_cmp slots key None) ≡ slot_rows slots)
        → slot_rows (match_ordering r ((key, None) ∷ slot ∷ slots) ((slot.0, None) ∷ slots)
        (slot ∷ insert_entry slot_cmp slots key None))
        ≡ slot_row_and slot.0 slot.1 (slot_rows slots)
    by Less none go = refl
    by Equal none go = absurd (cc)
    by Greater none go = ap (slot_row_and slot.0 slot.1) (go none)

-- A slot without a body that is dropped drops no row.
pub slot_rows-dropped : (test : RowKey → Bool) (slots : SlotList) → lookup test slots ≡ Some None
    → slot_rows (remove_entry test slots) ≡ slot_rows slots
slot_rows-dropped test [] empty = absurd (cc)
slot_rows-dropped test (slot ∷ slots) empty = by (test slot.0) empty (slot_rows-dropped test slots)
  where
    by : (b : Bool) → cond b (Some slot.1) (lookup test slots) ≡ Some None
        → (lookup test slots ≡ Some None → slot_rows (remove_entry test slots) ≡ slot_rows slots)
        → slot_rows (cond b slots (slot ∷ remove_entry test slots)) ≡ slot_row_and slot.0 slot.1 (slot_rows slots)
    by true empty go =
        let none : slot.1 ≡ None = cc in ap (λ body. slot_row_and slot.0 body (slot_rows slots)) (sym none)
    by false empty go = ap (slot_row_and slot.0 slot.1) (go empty)

-- ---- a write

-- A row below the keys of all slots is below their rows.
below-slot_rows : (row : KeptRow) (key : RowKey) (slots : SlotList)
    → ((other : RowKey) (body : List ℕ) → slot_cmp key other ≡ Less → row_cmp row (row_of other body) ≡ Less)
    → AllByRecursion (λ other. slot_cmp key other ≡ Less) (keys_of slots) → IsBelowAll row_cmp row (slot_rows slots)
below-slot_rows row key [] less below = tt
below-slot_rows row key (slot ∷ slots) less below =
    by slot.1 (below-slot_rows row key slots less below.1)
  where
    by : (body : Option (List ℕ)) → IsBelowAll row_cmp row (slot_rows slots)
        → IsBelowAll row_cmp row (slot_row_and slot.0 body (slot_rows slots))
    by None go = go
    by (Some body) go = (less slot.0 body below.0, go)

-- No row is dropped at a key below all rows.
dropped-front : (key : RowKey) (rows : List KeptRow) → IsBelowAll row_cmp (row_of key []) rows
    → dropped (row_at key.kind key.key) rows ≡ rows
dropped-front key rows below =
    dropped-none (row_at key.kind key.key) rows
    (none_above row_cmp row_cmp_total (row_at key.kind key.key) (IsKey-row_at key.kind key.key) (row_of key []) rows
    (tied_itself row_cmp_total (row_of key [])) below)

-- A row is below what a row of the same key is below.
same_below : (key : RowKey) (body : List ℕ) (rows : List KeptRow) → IsBelowAll row_cmp (row_of key []) rows
    → IsBelowAll row_cmp (row_of key body) rows
same_below key body [] below = tt
same_below key body (row ∷ rows) below = (below.0, same_below key body rows below.1)

-- A change at a key below all rows adds its row in front, if it has one.
changed-front : (key : RowKey) (body : Option (List ℕ)) (rows : List KeptRow)
    → IsBelowAll row_cmp (row_of key []) rows
    → changed_rows (change_of_body key body) rows ≡ slot_row_and key body rows
changed-front key None rows below = dropped-front key rows below
changed-front key (Some body) rows below =
    ap (inserted row_cmp (row_of key body)) (dropped-front key rows below)
    ∙ inserted_front row_cmp row_cmp_total (row_of key body) rows (same_below key body rows below)

-- A first row below the key stays.
dropped-after : (key : RowKey) (row : KeptRow) (rows : List KeptRow) → row_at key.kind key.key row ≡ Less
    → dropped (row_at key.kind key.key) (row ∷ rows) ≡ row ∷ dropped (row_at key.kind key.key) rows
dropped-after key row rows below =
    ap (λ r. cond (not (is_eq r)) (row ∷ dropped (row_at key.kind key.key) rows)
    (dropped (row_at key.kind key.key) rows)) below

changed-after : (key : RowKey) (body : Option (List ℕ)) (row : KeptRow) (rows : List KeptRow)
    → row_at key.kind key.key row ≡ Less
    → changed_rows (change_of_body key body) (row ∷ rows) ≡ row ∷ changed_rows (change_of_body key body) rows
changed-after key None row rows below = dropped-after key row rows below
changed-after key (Some body) row rows below =
    ap (inserted row_cmp (row_of key body)) (dropped-after key row rows below)
    ∙ ap (λ r. cond (is_lt r)
    (row ∷ inserted row_cmp (row_of key body) (dropped (row_at key.kind key.key) rows))
    (row_of key body ∷ row ∷ dropped (row_at key.kind key.key) rows)) below

-- A first row of the key goes.
dropped-here : (key : RowKey) (row : KeptRow) (rows : List KeptRow) → row_at key.kind key.key row ≡ Equal
    → dropped (row_at key.kind key.key) (row ∷ rows) ≡ dropped (row_at key.kind key.key) rows
dropped-here key row rows here =
    ap (λ r. cond (not (is_eq r)) (row ∷ dropped (row_at key.kind key.key) rows)
    (dropped (row_at key.kind key.key) rows)) here

changed-here : (key : RowKey) (body : Option (List ℕ)) (row : KeptRow) (rows : List KeptRow)
    → row_at key.kind key.key row ≡ Equal
    → changed_rows (change_of_body key body) (row ∷ rows) ≡ changed_rows (change_of_body key body) rows
changed-here key None row rows here = dropped-here key row rows here
changed-here key (Some body) row rows here = ap (inserted row_cmp (row_of key body)) (dropped-here key row rows here)

-- The rows after a write are those after its change.
pub slot_rows-written : (key : RowKey) (body : Option (List ℕ)) (slots : SlotList)
    → IsStrictlySortedBy slot_cmp (keys_of slots)
    → slot_rows (insert_entry slot_cmp slots key body) ≡ changed_rows (change_of_body key body) (slot_rows slots)
unfolding IsStrictlySortedBy
slot_rows-written key None [] up = refl
slot_rows-written key (Some body) [] up = refl
slot_rows-written key body (slot ∷ slots) up =
    by (slot_rows-written key body slots up.1) (slot_cmp key slot.0) refl
  where
    rest : IsBelowAll row_cmp (row_of slot.0 []) (slot_rows slots)
    rest = below-slot_rows (row_of slot.0 []) slot.0 slots (λ other body less. less) up.0

    by : slot_rows (insert_entry slot_cmp slots key body) ≡ changed_rows (change_of_body key body) (slot_rows slots)
        → (r : Ordering) → slot_cmp key slot.0 ≡ r
        → slot_rows (match_ordering r ((key, body) ∷ slot ∷ slots) ((slot.0, body) ∷ slots)
        (slot ∷ insert_entry slot_cmp slots key body))
        ≡ changed_rows (change_of_body key body) (slot_row_and slot.0 slot.1 (slot_rows slots))
    by go Less e = sym (changed-front key body (slot_row_and slot.0 slot.1 (slot_rows slots)) (below slot.1))
      where
        under : IsBelowAll row_cmp (row_of key []) (slot_rows slots)
        under = IsBelowAll-trans row_cmp row_cmp_total (row_of key []) (row_of slot.0 []) (slot_rows slots) e rest

        below : (its_body : Option (List ℕ))
            → IsBelowAll row_cmp (row_of key []) (slot_row_and slot.0 its_body (slot_rows slots))
        below None = under
        below (Some its_body) = (e, under)
    by go Equal e = written slot.1
      where
        same : slot.0 ≡ key
        same =
            let parts = same_key key.kind key.key slot.0.kind slot.0.key e in
            λ i. record { kind = sym parts.0 i; key = sym parts.1 i }

        in_place : slot_row_and slot.0 body (slot_rows slots) ≡ changed_rows (change_of_body key body) (slot_rows slots)
        in_place =
            ap (λ k. slot_row_and k body (slot_rows slots)) same
            ∙ sym (changed-front key body (slot_rows slots)
            (subst (λ k. IsBelowAll row_cmp (row_of k []) (slot_rows slots)) same rest))

        written : (its_body : Option (List ℕ)) → slot_row_and slot.0 body (slot_rows slots)
            ≡ changed_rows (change_of_body key body) (slot_row_and slot.0 its_body (slot_rows slots))
        written None = in_place
        written (Some its_body) =
            in_place ∙ sym (changed-here key body (row_of slot.0 its_body) (slot_rows slots)
            (tied_back slot_cmp_total key slot.0 e))
    by go Greater e = written slot.1
      where
        below : slot_cmp slot.0 key ≡ Less
        below = slot_cmp_total.antisymm slot.0 key ∙ ap ordering_reverse e

        written : (its_body : Option (List ℕ))
            → slot_row_and slot.0 its_body (slot_rows (insert_entry slot_cmp slots key body))
            ≡ changed_rows (change_of_body key body) (slot_row_and slot.0 its_body (slot_rows slots))
        written None = go
        written (Some its_body) =
            ap (λ rows. row_of slot.0 its_body ∷ rows) go
            ∙ sym (changed-after key body (row_of slot.0 its_body) (slot_rows slots) below)

-- ---- the last of the given rows

-- What stands after a row of an ordered list is above it.
after_row : (given : List KeptRow) (row : KeptRow) (rows : List KeptRow) → AreInOrder ((given ++ row ∷ []) ++ rows)
    → IsBelowAll row_cmp row rows
after_row [] row rows up = up.0
after_row (first ∷ given) row rows up = after_row given row rows up.1

++-moved : (given : List KeptRow) (row : KeptRow) (rows : List KeptRow)
    → given ++ row ∷ rows ≡ (given ++ row ∷ []) ++ rows
++-moved [] row rows = refl
++-moved (first ∷ given) row rows = ap (λ l. first ∷ l) (++-moved given row rows)

-- If the last of the given rows is put among the others, the rows stay the same.
pub moved-row : (given : List KeptRow) (row : KeptRow) (rows : List KeptRow) → AreInOrder ((given ++ row ∷ []) ++ rows)
    → given ++ upserted row_cmp row rows ≡ (given ++ row ∷ []) ++ rows
moved-row given row rows up =
    ap (λ l. given ++ l)
    (changed-front (record { kind = row.kind; key = row.key }) (Some row.body) rows (under rows (after_row given row rows up)))
    ∙ ++-moved given row rows
  where
    under : (rows : List KeptRow) → IsBelowAll row_cmp row rows
        → IsBelowAll row_cmp (row_of (record { kind = row.kind; key = row.key }) []) rows
    under [] below = tt
    under (next ∷ rows) below = (below.0, under rows below.1)

-- ---- no slots

++-nothing : (rows : List KeptRow) → rows ++ [] ≡ rows
++-nothing [] = refl
++-nothing (row ∷ rows) = ap (λ l. row ∷ l) (++-nothing rows)

pub and_no_slots : (rows : List KeptRow) (slots : SlotList) → slots ≡ [] → rows ++ slot_rows slots ≡ rows
and_no_slots rows slots none = ap (λ l. rows ++ slot_rows l) none ∙ ++-nothing rows

-- What is not there is none.
pub none_from_absent : {X : Type 0} (o : Option X) → is_some o ≡ false → o ≡ None
none_from_absent None absent = refl
none_from_absent (Some x) absent = absurd (cc)

-- What holds on Ok holds of a call that gave Ok.
pub from_ok : {T E P : Type 0} (r : Result T E) (x : T) → r ≡ Ok x → OnOk r P → P
from_ok (Ok y) x is holds = holds
from_ok (Err e) x is holds = absurd (cc)

pub on_ok : {T E P : Type 0} (r : Result T E) → is_ok r ≡ true → OnOk r P → P
on_ok (Ok x) is holds = holds
on_ok (Err e) is holds = absurd (cc)

-- The keys of writes have slots exactly if the writes have.
pub slots_of_writes : (slots : SlotList) (writes : List SlotWrite)
    → All (HasSlot slots) (map (λ write. write.key) writes) → All (λ write. HasSlot slots write.key) writes
slots_of_writes slots [] all = All-nil (λ write. HasSlot slots write.key)
slots_of_writes slots (write ∷ writes) all =
    All-cons (λ write. HasSlot slots write.key) write writes
    (All-head (HasSlot slots) write.key (map (λ write. write.key) writes) all)
    (slots_of_writes slots writes (All-tail (HasSlot slots) write.key (map (λ write. write.key) writes) all))

-- ---- the order of a keeper's rows

-- If no given row is left, the rows of the slots are in order.
pub settled_in_order : (given rows before : List KeptRow) → given ≡ [] → given ++ rows ≡ before → AreInOrder before
    → AreInOrder rows
settled_in_order given rows before none same up =
    subst AreInOrder (sym (ap (λ l. l ++ rows) (sym none) ∙ same)) up

-- They are so after changes, and after none.
pub changed_in_order : {T E : Type 0} (r : Result T E) (changes : List Change) (old new : List KeptRow)
    → OnOk r (new ≡ rows_after changes old) → OnErr r (new ≡ old) → AreInOrder old → AreInOrder new
changed_in_order (Ok x) changes old new changed same up =
    subst AreInOrder (sym changed) (in_order-rows_after changes old up)
changed_in_order (Err e) changes old new changed same up = subst AreInOrder (sym same) up

-- The slots of a keeper in memory: at each kind and key that has one there is a body, or none yet. So a slot can be made
-- before its row is put.
use Rattle.std.specs.Prelude.{ℕ, List, [], ◌∷◌, Option, Some, None, IsSome}
use Rattle.std.specs.declared.cmp.Ordering.{Ordering}
use Rattle.std.specs.Cmp.{IsTotalOrder, nat_cmp_total}
use Rattle.std.specs.BTreeMap.{is_at}
use Rattle.std.specs.Map.{lookup}
use Rattle.std.proofs.lemmas.Cmp.{on_total, then_total, nat_list_cmp_total}
use Rattle.portal_keeper.specs.declared.change.Change.{Change}
use Rattle.portal_keeper.specs.declared.change.Change.TheVariants.{Put, Remove}
use Rattle.portal_keeper.specs.declared.row.KeptRow.{KeptRow}
use Rattle.portal_keeper.specs.declared.slots.RowKey.{RowKey}
use Rattle.portal_keeper.specs.declared.slots.SlotWrite.{SlotWrite}
use Rattle.portal_keeper.specs.Rows.{kind_number, key_cmp}

-- the order of kinds and keys
abbrev pub slot_cmp : RowKey → RowKey → Ordering
slot_cmp key other = key_cmp key.kind key.key other.kind other.key

pub slot_cmp_total : IsTotalOrder slot_cmp
slot_cmp_total =
    then_total (on_total (λ key. kind_number key.kind) nat_cmp_total) (on_total (λ key. key.key) nat_list_cmp_total)

-- the slots, in order
abbrev pub SlotList : Type 0
SlotList = List (RowKey × Option (List ℕ))

-- the row of a kind and key with this body
abbrev pub row_of : RowKey → List ℕ → KeptRow
row_of key body = record { kind = key.kind; key = key.key; body = body }

-- the row of a slot, if it has a body, and then these rows
abbrev pub slot_row_and : RowKey → Option (List ℕ) → List KeptRow → List KeptRow
slot_row_and key None rows = rows
slot_row_and key (Some body) rows = row_of key body ∷ rows

-- the rows of the slots that have a body
abbrev pub slot_rows : SlotList → List KeptRow
slot_rows [] = []
slot_rows (slot ∷ slots) = slot_row_and slot.0 slot.1 (slot_rows slots)

-- There is a slot at the kind and key.
abbrev pub HasSlot : SlotList → RowKey → Type 0
HasSlot slots key = IsSome (lookup (is_at (slot_cmp key)) slots)

-- the change that a write to a slot makes
abbrev pub change_of_body : RowKey → Option (List ℕ) → Change
change_of_body key None = Remove key.kind key.key
change_of_body key (Some body) = Put (row_of key body)

abbrev pub change_of : SlotWrite → Change
change_of write = change_of_body write.key write.body

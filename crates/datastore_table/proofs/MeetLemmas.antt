-- Rows that meet a schema, and `_id`s that ascend.
use Rattle.std.proofs.Common.{◌≡◌, ◌≢◌, ◌∙◌, ◌<◌, ◌≤◌, ℕ, Bool, true, false, ◌&&◌, List, [], ◌∷◌, length, refl, ap, sym}
use Rattle.std.proofs.Common.{arith}
use Rattle.std.proofs.Common.{nat_lt, nat_le}
use Rattle.std.proofs.lemmas.Bool.Decides.{nat_tests}
use Rattle.std.specs.Cmp.{nat_cmp_is}
use Rattle.std.specs.declared.cmp.Ordering.TheVariants.{Less}
use Rattle.portal_base.specs.Ordered.{IsAscending, IsBelowAll}
use Rattle.table_schema.specs.Field.{FieldValue}
use Rattle.table_schema.specs.declared.cell.Cell.{Cell}
use Rattle.datastore_table.specs.declared.row.Row.{Row}
use Rattle.datastore_table.specs.Meets.{are_accepted, ascend_from, is_accepted, is_numbered}
use Rattle.datastore_table.specs.Rows.{row_cmp}
use Rattle.datastore_table.specs.Table.{AreWithin, IsNumbered}
use Rattle.datastore_table.proofs.RowLemmas.{both_hold}

pub accepted_length : (fields : List FieldValue) (cells : List Cell) → length fields ≢ length cells
    → are_accepted fields cells ≡ false
accepted_length [] [] n = absurd (n refl)
accepted_length [] (c ∷ cells) n = refl
accepted_length (field ∷ fields) [] n = refl
accepted_length (field ∷ fields) (c ∷ cells) n =
    ap (λ b. is_accepted field c && b) (accepted_length fields cells (λ h. n (omega (arith, h))))
    ∙ and_false (is_accepted field c)
  where
    and_false : (b : Bool) → (b && false) ≡ false
    and_false true = refl
    and_false false = refl

lt_from : (a b : ℕ) → nat_lt a b ≡ true → a < b
lt_from a b h = grind (arith, nat_tests)

le_from : (a b : ℕ) → nat_le a b ≡ true → a ≤ b
le_from a b h = grind (arith, nat_tests)

-- the parts of what ascends
ascends : (low next_id : ℕ) (row : Row) (rows : List Row) → ascend_from low next_id (row ∷ rows) ≡ true
    → (low < row.id) × (row.id < next_id) × (ascend_from row.id next_id rows ≡ true)
ascends low next_id row rows h =
    let both = both_hold (nat_lt low row.id && nat_lt row.id next_id) (ascend_from row.id next_id rows) h in
    let sides = both_hold (nat_lt low row.id) (nat_lt row.id next_id) both.0 in
    (lt_from low row.id sides.0, lt_from row.id next_id sides.1, both.1)

below_rows : (row : Row) (low next_id : ℕ) (rows : List Row) → row.id ≤ low → ascend_from low next_id rows ≡ true
    → IsBelowAll row_cmp row rows
below_rows row low next_id [] le h = tt
below_rows row low next_id (r ∷ rows) le h =
    let parts = ascends low next_id r rows h in
    let lt : row.id < r.id = omega (arith, parts.0) in
    (sym (nat_cmp_is row.id r.id Less lt), below_rows row r.id next_id rows (omega (arith, lt)) parts.2)

ascending_rows : (low next_id : ℕ) (rows : List Row) → ascend_from low next_id rows ≡ true → IsAscending row_cmp rows
ascending_rows low next_id [] h = tt
ascending_rows low next_id (row ∷ rows) h =
    let parts = ascends low next_id row rows h in
    (below_rows row row.id next_id rows (omega arith) parts.2, ascending_rows row.id next_id rows parts.2)

within_rows : (low next_id : ℕ) (rows : List Row) → ascend_from low next_id rows ≡ true → AreWithin next_id rows
within_rows low next_id [] h = tt
within_rows low next_id (row ∷ rows) h =
    let parts = ascends low next_id row rows h in
    (omega (arith, parts.0), parts.1, within_rows row.id next_id rows parts.2)

pub numbered_from : (rows : List Row) (next_id : ℕ) → is_numbered rows next_id ≡ true → IsNumbered rows next_id
numbered_from rows next_id h =
    let both = both_hold (nat_le 1 next_id) (ascend_from 0 next_id rows) h in
    record {
      ascending = ascending_rows 0 next_id rows both.1;
      within = within_rows 0 next_id rows both.1;
      next = le_from 1 next_id both.0;
    }

-- Rows that are kept by their `_id` are found and written as those of a list.
use Rattle.std.proofs.Common.{◌≡◌, ◌∙◌, ℕ, ◌==◌, not, cond, List, [], ◌∷◌, Some}
use Rattle.std.proofs.Common.{ap, arith, refl, subst, sym}
use Rattle.std.specs.BTreeMap.{insert_entry, is_at}
use Rattle.std.specs.Map.{lookup}
use Rattle.std.specs.Cmp.{nat_cmp_total}
use Rattle.std.specs.Ordering.{is_eq, is_lt, match_ordering, nat_cmp, ordering_reverse}
use Rattle.std.specs.declared.cmp.Ordering.{Ordering}
use Rattle.std.specs.declared.cmp.Ordering.TheVariants.{Less, Equal, Greater}
use Rattle.std.proofs.lemmas.Bool.Decides.{nat_tests}
use Rattle.std.proofs.lemmas.Cmp.{tied_itself}
use Rattle.std.proofs.lemmas.Map.Lookups.{exact_unsigned}
use Rattle.portal_base.specs.Ordered.{IsAscending, IsBelowAll, IsKey-field, dropped, inserted, upserted}
use Rattle.portal_base.proofs.Removed.{inserted_front, none_above}
use Rattle.portal_base.proofs.Upserted.{IsAscending-upserted, dropped-none}
use Rattle.datastore_table.specs.declared.row.Row.{Row}
use Rattle.datastore_table.specs.Rows.{row_at, row_cmp, row_cmp_total}
use Rattle.datastore_table.specs.WrittenRows.{AreById, AreKeyedById, rows_in}
use Rattle.datastore_table.proofs.RowLemmas.{same_id}

-- ---- look-ups

-- The row that is kept under an `_id` is the row with this `_id`.
pub kept_at : (id : ℕ) (entries : List (ℕ × Row)) → AreKeyedById entries
    → lookup (is_at (nat_cmp id)) entries ≡ row_at id (rows_in entries)
kept_at id [] keyed = refl
kept_at id (entry ∷ entries) keyed =
    ap (λ b. cond b (Some entry.1) (lookup (is_at (nat_cmp id)) entries))
    (ap (λ k. is_eq (nat_cmp id k)) keyed.0 ∙ same_id id entry.1.id ∙ turned id entry.1.id)
    ∙ ap (λ o. cond (entry.1.id == id) (Some entry.1) o) (kept_at id entries keyed.1)
  where
    turned : (a b : ℕ) → (a == b) ≡ (b == a)
    turned a b = grind (arith, nat_tests)

-- ---- a row that is written

below_through : (a b : Row) (rows : List Row) → row_cmp a b ≡ Less → IsBelowAll row_cmp b rows
    → IsBelowAll row_cmp a rows
below_through a b [] less below = tt
below_through a b (row ∷ rows) less below =
    (row_cmp_total.trans a b row less below.0, below_through a b rows less below.1)

below_alike : (a b : Row) (rows : List Row) → row_cmp a b ≡ Equal → IsBelowAll row_cmp b rows
    → IsBelowAll row_cmp a rows
below_alike a b [] same below = tt
below_alike a b (row ∷ rows) same below =
    (row_cmp_total.congr a b row same ∙ below.0, below_alike a b rows same below.1)

-- A row that is below all others comes before them.
upserted_below : (row : Row) (rows : List Row) → IsBelowAll row_cmp row rows → upserted row_cmp row rows ≡ row ∷ rows
upserted_below row rows below =
    ap (inserted row_cmp row)
    (dropped-none (λ y. row_cmp y row) rows
    (none_above row_cmp row_cmp_total (λ y. row_cmp y row) (IsKey-field (λ (r : Row). r.id) nat_cmp_total row.id) row
    rows (tied_itself row_cmp_total row) below))
    ∙ inserted_front row_cmp row_cmp_total row rows below

-- The rows after an entry was put are those after the row was put among them.
pub put_rows : (row : Row) (entries : List (ℕ × Row)) → AreKeyedById entries → IsAscending row_cmp (rows_in entries)
    → rows_in (insert_entry nat_cmp entries row.id row) ≡ upserted row_cmp row (rows_in entries)
put_rows row [] keyed up = refl
put_rows row (entry ∷ entries) keyed up =
    by (nat_cmp row.id entry.0) refl (put_rows row entries keyed.1 up.1)
  where
    first : Row
    first = entry.1

    others : List Row
    others = rows_in entries

    without : List Row
    without = dropped (λ y. row_cmp y row) others

    compared : row_cmp row first ≡ nat_cmp row.id entry.0
    compared = ap (nat_cmp row.id) (sym keyed.0)

    turned : (r : Ordering) → nat_cmp row.id entry.0 ≡ r → row_cmp first row ≡ ordering_reverse r
    turned r e = row_cmp_total.antisymm first row ∙ ap ordering_reverse (compared ∙ e)

    -- the rows without one that is like the first row, or with it
    left : (r : Ordering) → row_cmp first row ≡ r
        → dropped (λ y. row_cmp y row) (first ∷ others) ≡ cond (not (is_eq r)) (first ∷ without) without
    left r e = ap (λ o. cond (not (is_eq o)) (first ∷ without) without) e

    by : (r : Ordering) → nat_cmp row.id entry.0 ≡ r
        → rows_in (insert_entry nat_cmp entries row.id row) ≡ upserted row_cmp row others
        → rows_in (match_ordering r ((row.id, row) ∷ entry ∷ entries) ((entry.0, row) ∷ entries)
        (entry ∷ insert_entry nat_cmp entries row.id row)) ≡ upserted row_cmp row (first ∷ others)
    by Less e more =
        let less : row_cmp row first ≡ Less = compared ∙ e in
        sym (upserted_below row (first ∷ others) (less, below_through row first others less up.0))
    by Equal e more =
        sym
        (ap (inserted row_cmp row) (left Equal (turned Equal e))
        ∙ upserted_below row others (below_alike row first others (compared ∙ e) up.0))
    by Greater e more =
        ap (λ (rows : List Row). first ∷ rows) more
        ∙ sym
        (ap (inserted row_cmp row) (left Less (turned Greater e))
        ∙ ap (λ o. cond (is_lt o) (first ∷ inserted row_cmp row without) (row ∷ first ∷ without)) (turned Greater e))

put_keyed : (row : Row) (entries : List (ℕ × Row)) → AreKeyedById entries
    → AreKeyedById (insert_entry nat_cmp entries row.id row)
put_keyed row [] keyed = (refl, tt)
put_keyed row (entry ∷ entries) keyed = by (nat_cmp row.id entry.0) refl (put_keyed row entries keyed.1)
  where
    by : (r : Ordering) → nat_cmp row.id entry.0 ≡ r → AreKeyedById (insert_entry nat_cmp entries row.id row)
        → AreKeyedById (match_ordering r ((row.id, row) ∷ entry ∷ entries) ((entry.0, row) ∷ entries)
        (entry ∷ insert_entry nat_cmp entries row.id row))
    by Less e more = (refl, keyed)
    by Equal e more = (sym (exact_unsigned row.id entry.0 e), keyed.1)
    by Greater e more = (keyed.0, more)

-- The entries still have each row under its `_id`.
pub put_by_id : (row : Row) (entries : List (ℕ × Row)) → AreById entries
    → AreById (insert_entry nat_cmp entries row.id row)
put_by_id row entries by_id = record {
  keyed = put_keyed row entries by_id.keyed;
  ascending = subst (IsAscending row_cmp) (sym (put_rows row entries by_id.keyed by_id.ascending))
      (IsAscending-upserted row_cmp row_cmp_total row (rows_in entries) by_id.ascending);
}

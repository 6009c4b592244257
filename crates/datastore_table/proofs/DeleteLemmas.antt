-- Deleted rows and remaining rows.
use Rattle.std.proofs.Common.{◌≡◌, ℕ, Bool, true, false, ◌&&◌, ◌||◌, not, cond, List, [], ◌∷◌, filter, find, refl, ap}
use Rattle.std.specs.List.{list_any}
use Rattle.datastore_table.specs.declared.row.Row.{Row}
use Rattle.datastore_table.specs.Batch.{cut_rows, is_among, refers_to}
use Rattle.datastore_table.specs.Put.{id_of}
use Rattle.datastore_table.proofs.RowLemmas.{find-same}

pub any-filter : {X : Type 0} (p q : X → Bool) (xs : List X)
    → list_any p (filter q xs) ≡ list_any (λ x. q x && p x) xs
any-filter p q [] = refl
any-filter {X} p q (x ∷ xs) = by (any-filter p q xs) (q x)
  where
    by : list_any p (filter q xs) ≡ list_any (λ y. q y && p y) xs → (b : Bool)
        → list_any p (cond b (x ∷ filter q xs) (filter q xs)) ≡ ((b && p x) || list_any (λ y. q y && p y) xs)
    by more true = ap (λ b. p x || b) more
    by more false = more

-- One of the remaining rows passes the test.
pub any_staying : (p : Row → Bool) (ids : List ℕ) (rows : List Row)
    → list_any p (cut_rows ids rows) ≡ list_any (λ row. not (is_among ids row.id) && p row) rows
any_staying p ids rows = any-filter p (λ row. not (is_among ids row.id)) rows

-- If no row is deleted, all rows remain.
pub delete-nothing : (rows : List Row) → cut_rows [] rows ≡ rows
delete-nothing [] = refl
delete-nothing (row ∷ rows) = ap (λ rest. row ∷ rest) (delete-nothing rows)

-- The first key that a remaining row refers to.
pub first_staying : (columns ids : List ℕ) (keys rows : List Row)
    → id_of (find (λ key. list_any (refers_to columns key) (cut_rows ids rows)) keys)
    ≡ id_of (find (λ key. list_any (λ row. not (is_among ids row.id) && refers_to columns key row) rows) keys)
first_staying columns ids keys rows =
    ap id_of (find-same (λ key. list_any (refers_to columns key) (cut_rows ids rows))
    (λ key. list_any (λ row. not (is_among ids row.id) && refers_to columns key row) rows)
    (λ key. any_staying (refers_to columns key) ids rows) keys)

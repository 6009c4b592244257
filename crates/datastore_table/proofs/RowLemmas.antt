-- What is found among the current rows, of which some were written.
use Rattle.std.proofs.Common.{◌≡◌, ◌∙◌, ap, ℕ, Bool, true, false, ◌&&◌, ◌||◌, not, List, Option, Some, None, find, refl}
use Rattle.std.proofs.Common.{if◌then◌else◌, ◌==◌}
use Rattle.std.proofs.Common.{cond, sym, ap₂, arith, [], ◌∷◌}
use Rattle.std.proofs.lemmas.Bool.Decides.{nat_tests}
use Rattle.std.specs.Cmp.{unsigned_tied}
use Rattle.std.specs.Option.{option_or}
use Rattle.std.specs.List.{list_any}
use Rattle.std.specs.Ordering.{is_eq, nat_cmp}
use Rattle.portal_base.specs.Ordered.{IsAscending}
use Rattle.portal_base.proofs.Inserted.{list_any-same}
use Rattle.lexical_forms.specs.Digits.{is_empty}
use Rattle.table_schema.specs.declared.cell.Cell.{Cell}
use Rattle.datastore_table.specs.declared.row.Row.{Row}
use Rattle.datastore_table.specs.Cells.{has_null, is_null}
use Rattle.datastore_table.specs.References.{key_exists}
use Rattle.datastore_table.specs.Rows.{earlier, has_cells, has_id, has_like, is_taken, row_at, row_cmp, row_with}
use Rattle.datastore_table.specs.Rows.{row_cmp_total, rows_after, takes_cell}
use Rattle.datastore_table.proofs.Merged.{find-merged, list_any-merged}

pub find-same : {X : Type 0} (p q : X → Bool) → ((x : X) → p x ≡ q x) → (xs : List X) → find p xs ≡ find q xs
find-same p q e [] = refl
find-same p q e (x ∷ xs) = ap₂ (λ b o. cond b (Some x) o) (e x) (find-same p q e xs)

find-none : {X : Type 0} (p : X → Bool) → ((x : X) → p x ≡ false) → (xs : List X) → find p xs ≡ None
find-none p e [] = refl
find-none p e (x ∷ xs) = ap (λ b. cond b (Some x) (find p xs)) (e x) ∙ find-none p e xs

pub find_current : (columns : List ℕ) (cells : List Cell) (written rows : List Row)
    → IsAscending row_cmp written → IsAscending row_cmp rows
    → (is_empty columns || has_null cells) ≡ false
    → row_with columns cells (rows_after written rows)
    ≡ earlier row_cmp (find (has_cells columns cells) written)
    (find (λ row. has_cells columns cells row && not (has_like written row)) rows)
find_current columns cells written rows uw ur some =
    ap (λ b. if b then None else find (has_cells columns cells) (rows_after written rows)) some
    ∙ find-merged row_cmp row_cmp_total (has_cells columns cells) written rows uw ur

pub any_current : (p : Row → Bool) (written rows : List Row) → IsAscending row_cmp written → IsAscending row_cmp rows
    → list_any p (rows_after written rows)
    ≡ (list_any p written || list_any (λ row. p row && not (has_like written row)) rows)
any_current p written rows uw ur = list_any-merged row_cmp row_cmp_total p written rows uw ur

-- Where nothing was written, no row is replaced.
pub none_replaced : (p : Row → Bool) (rows : List Row)
    → list_any (λ row. p row && not (has_like [] row)) rows ≡ list_any p rows
none_replaced p rows = list_any-same (λ row. p row && not (has_like [] row)) p (λ row. and_true (p row)) rows
  where
    and_true : (b : Bool) → (b && true) ≡ b
    and_true true = refl
    and_true false = refl

either_current : (p : Row → Bool) (written rows : List Row) → IsAscending row_cmp written → IsAscending row_cmp rows
    → list_any p (rows_after written rows)
    ≡ (list_any (λ row. p row && not (has_like [] row)) written
    || list_any (λ row. p row && not (has_like written row)) rows)
either_current p written rows uw ur =
    any_current p written rows uw ur
    ∙ ap (λ b. b || list_any (λ row. p row && not (has_like written row)) rows) (sym (none_replaced p written))

pub taken_current : (except : Option ℕ) (column : ℕ) (c : Cell) (written rows : List Row)
    → IsAscending row_cmp written → IsAscending row_cmp rows
    → is_taken except column c (rows_after written rows)
    ≡ (not (is_null c) && (list_any (λ row. takes_cell except column c row && not (has_like [] row)) written
    || list_any (λ row. takes_cell except column c row && not (has_like written row)) rows))
taken_current except column c written rows uw ur =
    ap (λ b. not (is_null c) && b) (either_current (takes_cell except column c) written rows uw ur)

pub exists_current : (key : List ℕ) (cells : List Cell) (written rows : List Row)
    → IsAscending row_cmp written → IsAscending row_cmp rows
    → key_exists key cells (rows_after written rows)
    ≡ (list_any (λ row. has_cells key cells row && not (has_like [] row)) written
    || list_any (λ row. has_cells key cells row && not (has_like written row)) rows)
exists_current key cells written rows uw ur = either_current (has_cells key cells) written rows uw ur

pub same_id : (a b : ℕ) → is_eq (nat_cmp a b) ≡ (a == b)
same_id a b = unsigned_tied a b

-- Rows with the same `_id` are alike.
has_like-at : (id : ℕ) (z a : Row) (ws : List Row) → find (has_id id) ws ≡ Some a → has_id id z ≡ true
    → has_like ws z ≡ true
has_like-at id z a [] found at = absurd (cc)
has_like-at id z a (w ∷ ws) found at = by (λ f. has_like-at id z a ws f at) (has_id id w) refl found
  where
    by : (find (has_id id) ws ≡ Some a → has_like ws z ≡ true) → (b : Bool) → has_id id w ≡ b
        → cond b (Some w) (find (has_id id) ws) ≡ Some a → has_like (w ∷ ws) z ≡ true
    by more true e f =
        let like : is_eq (row_cmp z w) ≡ true = grind (arith, nat_tests, unsigned_tied) in
        ap (λ b. b || has_like ws z) like
    by more false e f = ap (λ b. is_eq (row_cmp z w) || b) (more f) ∙ or_true (is_eq (row_cmp z w))
      where
        or_true : (b : Bool) → (b || true) ≡ true
        or_true true = refl
        or_true false = refl

pub unlike-at : (id : ℕ) (z : Row) (ws : List Row) → find (has_id id) ws ≡ None → has_id id z ≡ true
    → has_like ws z ≡ false
unlike-at id z [] none at = refl
unlike-at id z (w ∷ ws) none at = by (λ f. unlike-at id z ws f at) (has_id id w) refl none
  where
    by : (find (has_id id) ws ≡ None → has_like ws z ≡ false) → (b : Bool) → has_id id w ≡ b
        → cond b (Some w) (find (has_id id) ws) ≡ None → has_like (w ∷ ws) z ≡ false
    by more true e f = absurd (cc)
    by more false e f =
        let unlike : is_eq (row_cmp z w) ≡ false = grind (arith, nat_tests, unsigned_tied) in
        ap (λ b. b || has_like ws z) unlike ∙ more f

pub apart-test : (id : ℕ) (ws : List Row) (z : Row) → (has_id id z ≡ true → has_like ws z ≡ false)
    → (has_id id z && not (has_like ws z)) ≡ has_id id z
apart-test id ws z apart = by (has_id id z) refl
  where
    by : (b : Bool) → has_id id z ≡ b → (has_id id z && not (has_like ws z)) ≡ has_id id z
    by true e = ap (λ c. has_id id z && not c) (apart e) ∙ and_true (has_id id z)
      where
        and_true : (c : Bool) → (c && true) ≡ c
        and_true true = refl
        and_true false = refl
    by false e = ap (λ c. c && not (has_like ws z)) e ∙ sym e

-- The current row with an `_id` is the written row, or otherwise the earlier row.
pub current_at : (id : ℕ) (written rows : List Row) → IsAscending row_cmp written → IsAscending row_cmp rows
    → row_at id (rows_after written rows) ≡ option_or (row_at id written) (row_at id rows)
current_at id written rows uw ur =
    find-merged row_cmp row_cmp_total (has_id id) written rows uw ur ∙ by (find (has_id id) written) refl
  where
    q : Row → Bool
    q = λ row. has_id id row && not (has_like written row)

    by : (o : Option Row) → find (has_id id) written ≡ o
        → earlier row_cmp (find (has_id id) written) (find q rows) ≡ option_or (row_at id written) (row_at id rows)
    by None e =
        rw e (find-same q (has_id id) (λ z. apart-test id written z (unlike-at id z written e)) rows)
    by (Some a) e =
        let gone : find q rows ≡ None = find-none q (λ z. hidden z (has_id id z) refl) rows in
        rw (e, gone) refl
      where
        hidden : (z : Row) (b : Bool) → has_id id z ≡ b → q z ≡ false
        hidden z true h = ap (λ c. has_id id z && not c) (has_like-at id z a written e h) ∙ and_false (has_id id z)
          where
            and_false : (c : Bool) → (c && false) ≡ false
            and_false true = refl
            and_false false = refl
        hidden z false h = ap (λ c. c && not (has_like written z)) h

pub both_hold : (a b : Bool) → (a && b) ≡ true → (a ≡ true) × (b ≡ true)
both_hold true b h = (refl, h)
both_hold false b h = absurd (cc)

pub not_both : (a b : Bool) → (a && b) ≡ false → a ≡ true → b ≡ false
not_both true b h t = h
not_both false b h t = absurd (cc)

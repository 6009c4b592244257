-- Keys and unique values stay distinct.
use Rattle.std.proofs.Common.{◌≡◌, ◌∙◌, ◌⊎◌, inl, inr, ℕ, ◌+◌, Bool, true, false, ◌||◌, not, List, [], ◌∷◌}
use Rattle.std.proofs.Common.{find, filter, Option, Some, None, Result, Ok, ap, ap₂, refl, subst, sym}
use Rattle.std.proofs.Common.{slice_get, rules, arith, zero, suc, add-zero}
use Rattle.std.proofs.lemmas.Cmp.{tied_itself}
use Rattle.std.specs.List.{list_any}
use Rattle.std.specs.declared.cmp.Ordering.TheVariants.{Less, Equal}
use Rattle.portal_base.specs.Ordered.{IsAscending, upserted}
use Rattle.std.specs.Ordering.{is_eq, nat_cmp}
use Rattle.std.proofs.lemmas.Cmp.{nat_cmp_total}
use Rattle.portal_base.proofs.Filtered.{IsIn-filter}
use Rattle.portal_base.proofs.Inserted.{both_false}
use Rattle.portal_base.proofs.Upserted.{IsIn-upserted}
use Rattle.portal_base.proofs.Unique.{IsIn, below_in}
use Rattle.table_schema.specs.Order.{same_cell}
use Rattle.table_schema.specs.declared.cell.Cell.{Cell}
use Rattle.table_schema.specs.declared.cell.Cell.TheVariants as cell
use Rattle.datastore_table.specs.declared.row.Row.{Row}
use Rattle.lexical_forms.specs.Digits.{is_empty}
use Rattle.portal_base.specs.declared.json_value.Json.{Json}
use Rattle.table_schema.specs.Field.{FieldValue}
use Rattle.table_schema.specs.Reading.{null_reading}
use Rattle.datastore_table.specs.Cells.{cell_at, cells_at, has_null, is_null, same_cells}
use Rattle.datastore_table.specs.Meets.{are_apart, has_cell_of, has_key_of}
use Rattle.datastore_table.specs.Put.{id_of, row_id, written_row}
use Rattle.datastore_table.specs.Record.{field_reading, read_or_null, value_or_null}
use Rattle.datastore_table.specs.Results.{◌>>>◌, each_ok}
use Rattle.datastore_table.specs.Rows.{has_cells, row_cmp, row_cmp_total, row_with}
use Rattle.datastore_table.proofs.Merged.{found-least, found-nothing}
use Rattle.datastore_table.proofs.ResultLemmas.{bound-ok}
use Rattle.datastore_table.proofs.RowLemmas.{both_hold}

-- ---- equal cells

pub same_cell-is : (a b : Cell) → same_cell a b ≡ true → a ≡ b
same_cell-is a b h = search rules

pub same_cell-itself : (a : Cell) → same_cell a a ≡ true
same_cell-itself a = search rules

pub cells-is : (xs ys : List Cell) → same_cells xs ys ≡ true → xs ≡ ys
cells-is [] [] h = refl
cells-is [] (y ∷ ys) h = absurd (cc)
cells-is (x ∷ xs) [] h = absurd (cc)
cells-is (x ∷ xs) (y ∷ ys) h =
    let parts = both_hold (same_cell x y) (same_cells xs ys) h in
    ap₂ (λ a rest. a ∷ rest) (same_cell-is x y parts.0) (cells-is xs ys parts.1)

pub cells-itself : (xs : List Cell) → same_cells xs xs ≡ true
cells-itself [] = refl
cells-itself (x ∷ xs) = rw (same_cell-itself x, cells-itself xs) refl

-- ---- rows of which no two are alike

-- Two rows that are alike are the same row.
abbrev pub AreOne : (Row → Row → Bool) → List Row → Type 0
AreOne like rows = (a b : Row) → IsIn a rows → IsIn b rows → like a b ≡ true → a.id ≡ b.id

pub true_false : {A : Type 0} (b : Bool) → b ≡ true → b ≡ false → A
true_false b t f = absurd (cc)

pub any-in : (p : Row → Bool) (rows : List Row) → list_any p rows ≡ false → (b : Row) → IsIn b rows → p b ≡ false
any-in p [] none b m = absurd m
any-in p (row ∷ rows) none b (inl e) = ap p e ∙ (both_false (p row) (list_any p rows) none).0
any-in p (row ∷ rows) none b (inr m) = any-in p rows (both_false (p row) (list_any p rows) none).1 b m

pub in-any : (p : Row → Bool) (rows : List Row) → ((b : Row) → IsIn b rows → p b ≡ false) → list_any p rows ≡ false
in-any p [] none = refl
in-any p (row ∷ rows) none =
    ap (λ t. t || list_any p rows) (none row (inl refl)) ∙ in-any p rows (λ b m. none b (inr m))

pub not_true : (b : Bool) → not b ≡ true → b ≡ false
not_true true h = absurd (cc)
not_true false h = refl

pub are_one : (like : Row → Row → Bool) → ((a b : Row) → like a b ≡ true → like b a ≡ true) → (rows : List Row)
    → are_apart like rows ≡ true → AreOne like rows
are_one like turned [] h a b m n l = absurd m
are_one like turned (row ∷ rows) h a b (inl e) (inl f) l = ap (λ (r : Row). r.id) (e ∙ sym f)
are_one like turned (row ∷ rows) h a b (inl e) (inr n) l =
    let parts = both_hold (not (list_any (like row) rows)) (are_apart like rows) h in
    true_false (like a b) l
    (ap (λ r. like r b) e ∙ any-in (like row) rows (not_true (list_any (like row) rows) parts.0) b n)
are_one like turned (row ∷ rows) h a b (inr m) (inl f) l =
    let parts = both_hold (not (list_any (like row) rows)) (are_apart like rows) h in
    true_false (like b a) (turned a b l)
    (ap (λ r. like r a) f ∙ any-in (like row) rows (not_true (list_any (like row) rows) parts.0) a m)
are_one like turned (row ∷ rows) h a b (inr m) (inr n) l =
    are_one like turned rows (both_hold (not (list_any (like row) rows)) (are_apart like rows) h).1 a b m n l

pub below_other : (x b : Row) → row_cmp x b ≡ Less → x.id ≡ b.id → ⊥
below_other x b less same =
    let tied : row_cmp x b ≡ Equal = ap (λ i. nat_cmp x.id i) (sym same) ∙ tied_itself nat_cmp_total x.id in
    cc

pub one_apart : (like : Row → Row → Bool) (rows : List Row) → IsAscending row_cmp rows → AreOne like rows
    → are_apart like rows ≡ true
one_apart like [] up one = refl
one_apart like (row ∷ rows) up one =
    let none : list_any (like row) rows ≡ false =
    in-any (like row) rows (λ b m. by b m (like row b) refl) in
    let rest = one_apart like rows up.1 (λ a b m n l. one a b (inr m) (inr n) l) in
    rw (none, rest) refl
  where
    by : (b : Row) → IsIn b rows → (t : Bool) → like row b ≡ t → like row b ≡ false
    by b m true l = absurd (below_other row b (below_in row_cmp row b rows up.0 m) (one row b (inl refl) (inr m) l))
    by b m false l = l

-- A new row that is like no other row keeps the rows distinct.
pub one-placed : (like : Row → Row → Bool) → ((a b : Row) → like a b ≡ true → like b a ≡ true) → (row : Row)
    (rows : List Row) → AreOne like rows → ((b : Row) → IsIn b rows → like row b ≡ true → b.id ≡ row.id)
    → AreOne like (upserted row_cmp row rows)
one-placed like turned row rows one new a b m n l =
    by (IsIn-upserted row_cmp row a rows m) (IsIn-upserted row_cmp row b rows n) l
  where
    by : (a ≡ row) ⊎ (IsIn a rows × (is_eq (row_cmp a row) ≡ false))
        → (b ≡ row) ⊎ (IsIn b rows × (is_eq (row_cmp b row) ≡ false)) → like a b ≡ true → a.id ≡ b.id
    by (inl e) (inl f) h = ap (λ (r : Row). r.id) (e ∙ sym f)
    by (inl e) (inr k) h =
        ap (λ (r : Row). r.id) e ∙ sym (new b k.0 (ap (λ r. like r b) (sym e) ∙ h))
    by (inr k) (inl f) h =
        new a k.0 (turned a row (ap (like a) (sym f) ∙ h)) ∙ ap (λ (r : Row). r.id) (sym f)
    by (inr k) (inr j) h = one a b k.0 j.0 h

-- A deletion keeps the rows distinct.
pub one-filter : (like : Row → Row → Bool) (keeps : Row → Bool) (rows : List Row) → AreOne like rows
    → AreOne like (filter keeps rows)
one-filter like keeps rows one a b m n l =
    one a b (IsIn-filter keeps a rows m).0 (IsIn-filter keeps b rows n).0 l

-- ---- keys

pub key_turned : (key : List ℕ) (a b : Row) → has_key_of key a b ≡ true → has_key_of key b a ≡ true
key_turned key a b h =
    let same : cells_at key b.cells ≡ cells_at key a.cells = cells-is (cells_at key b.cells) (cells_at key a.cells) h in
    ap (same_cells (cells_at key a.cells)) same ∙ cells-itself (cells_at key a.cells)

pub cell_turned : (column : ℕ) (a b : Row) → has_cell_of column a b ≡ true → has_cell_of column b a ≡ true
cell_turned column a b h =
    let parts = both_hold (not (is_null (cell_at a.cells column)))
    (same_cell (cell_at b.cells column) (cell_at a.cells column)) h in
    let same : cell_at b.cells column ≡ cell_at a.cells column =
    same_cell-is (cell_at b.cells column) (cell_at a.cells column) parts.1 in
    let some : not (is_null (cell_at b.cells column)) ≡ true = ap (λ c. not (is_null c)) same ∙ parts.0 in
    rw (some, same) (same_cell-itself (cell_at a.cells column))

-- A written row that replaces the row with its key, or has a key that no row has, is like no other row.
pub key_new : (key : List ℕ) (cells : List Cell) (next_id : ℕ) (rows : List Row) → IsAscending row_cmp rows
    → AreOne (has_key_of key) rows → is_empty key ≡ false → has_null (cells_at key cells) ≡ false
    → (b : Row) → IsIn b rows
    → has_key_of key (written_row (row_id (id_of (row_with key (cells_at key cells) rows)) next_id) cells) b ≡ true
    → b.id ≡ row_id (id_of (row_with key (cells_at key cells) rows)) next_id
key_new key cells next_id rows up one some full b m like = by (find (has_cells key own) rows) refl
  where
    own : List Cell
    own = cells_at key cells

    is_found : row_with key own rows ≡ find (has_cells key own) rows
    is_found = rw (some, full) refl

    by : (o : Option Row) → find (has_cells key own) rows ≡ o → b.id ≡ row_id (id_of (row_with key own rows)) next_id
    by None e = true_false (has_cells key own b) like (found-nothing (has_cells key own) rows e b m)
    by (Some r) e =
        let first = found-least row_cmp row_cmp_total (has_cells key own) r rows up e in
        let same : cells_at key r.cells ≡ own = cells-is (cells_at key r.cells) own first.passes in
        let alike : has_key_of key r b ≡ true = ap (λ cs. has_cells key cs b) same ∙ like in
        sym (one r b first.is_there m alike) ∙ sym (ap (λ x. row_id (id_of x) next_id) (is_found ∙ e))

-- ---- the key of a record's cells

pub each-at : {A B E : Type 0} (f : ℕ → A → Result B E) (n : ℕ) (xs : List A) (ys : List B) → each_ok f n xs ≡ Ok ys
    → (p : ℕ) (x : A) → slice_get xs p ≡ Some x → (y : B) × (slice_get ys p ≡ Some y) × (f (n + p) x ≡ Ok y)
each-at f n [] ys h p x at = absurd (cc)
each-at {A} {B} {E} f n (a ∷ xs) ys h zero x at =
    let one = bound-ok (f n a) (λ y. each_ok f (n + 1) xs >>> λ rest. Ok (y ∷ rest)) ys h in
    let rest = bound-ok (each_ok f (n + 1) xs) (λ more. Ok (one.0 ∷ more)) ys one.2 in
    let same : (one.0 ∷ rest.0) ≡ ys = cc in
    let here : a ≡ x = cc in (
      one.0,
      subst (λ zs. slice_get zs 0 ≡ Some one.0) same refl,
      subst (λ z. f (n + 0) z ≡ Ok one.0) here (ap (λ k. f k a) (add-zero n) ∙ one.1),
    )
each-at {A} {B} {E} f n (a ∷ xs) ys h (suc p) x at =
    let one = bound-ok (f n a) (λ y. each_ok f (n + 1) xs >>> λ rest. Ok (y ∷ rest)) ys h in
    let rest = bound-ok (each_ok f (n + 1) xs) (λ more. Ok (one.0 ∷ more)) ys one.2 in
    let same : (one.0 ∷ rest.0) ≡ ys = cc in
    let later = each-at f (n + 1) xs rest.0 rest.1 p x at in
    let step : n + 1 + p ≡ n + suc p = omega arith in
    (later.0, subst (λ zs. slice_get zs (suc p) ≡ Some later.0) same later.1, ap (λ k. f k x) (sym step) ∙ later.2)

pub none-at : {A B E : Type 0} (f : ℕ → A → Result B E) (n : ℕ) (xs : List A) (ys : List B) → each_ok f n xs ≡ Ok ys
    → (p : ℕ) → slice_get xs p ≡ None → slice_get ys p ≡ None
none-at {A} {B} {E} f n [] ys h p at =
    let same : [] ≡ ys = cc in
    subst (λ zs. slice_get zs p ≡ None) same refl
none-at f n (a ∷ xs) ys h zero at = absurd (cc)
none-at f n (a ∷ xs) ys h (suc p) at =
    let one = bound-ok (f n a) (λ y. each_ok f (n + 1) xs >>> λ rest. Ok (y ∷ rest)) ys h in
    let rest = bound-ok (each_ok f (n + 1) xs) (λ more. Ok (one.0 ∷ more)) ys one.2 in
    let same : (one.0 ∷ rest.0) ≡ ys = cc in
    subst (λ zs. slice_get zs (suc p) ≡ None) same (none-at f (n + 1) xs rest.0 rest.1 p at)

null_read : (field : FieldValue) (c : Cell) → null_reading field.constraints.required ≡ Ok c → is_null c ≡ true
null_read field c h = by field.constraints.required h
  where
    by : (b : Bool) → null_reading b ≡ Ok c → is_null c ≡ true
    by true e = absurd (cc)
    by false e = let same : cell.Null ≡ c = cc in subst (λ x. is_null x ≡ true) same refl

-- If a field keeps no cell and its cell isn't Null, that cell is in the record's key.
pub read_key : (field : FieldValue) (keep : Option Cell) (value : Option Json) (c : Cell)
    → (value ≡ None → keep ≡ None) → field_reading field keep value ≡ Ok c → is_null c ≡ false
    → value_or_null field value ≡ c
read_key field keep (Some value) c none h some = ap read_or_null h
read_key field (Some k) None c none h some = absurd (cc (none refl))
read_key field None None c none h some = true_false (is_null c) (null_read field c h) some

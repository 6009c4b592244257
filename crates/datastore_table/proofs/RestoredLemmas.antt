-- Of two rows that are alike, one is a further number of the index.
use Rattle.std.proofs.Common.{◌≡◌, ◌∙◌, ◌⊎◌, inl, inr, ℕ, ◌==◌, Bool, true, false, ◌&&◌, ◌||◌, not, List, [], ◌∷◌}
use Rattle.std.proofs.Common.{Option, Some, None, ap, cond, map, refl, subst, sym, arith}
use Rattle.std.proofs.lemmas.Bool.Decides.{nat_tests}
use Rattle.std.specs.List.{Contains, list_all, list_any}
use Rattle.std.specs.Option.{option_map_or}
use Rattle.portal_base.specs.Ordered.{IsAscending}
use Rattle.portal_base.proofs.Inserted.{both_false}
use Rattle.portal_base.proofs.Unique.{Contains-IsIn, IsIn, IsIn-Contains}
use Rattle.table_schema.specs.Field.{SchemaValue}
use Rattle.table_schema.specs.declared.cell.Cell.{Cell}
use Rattle.table_schema.specs.Order.{same_cell}
use Rattle.digest_index.specs.Index.{IndexState, IsUnder, entries_under, first_under, further_under}
use Rattle.digest_index.specs.declared.Further.{Further}
use Rattle.datastore_table.specs.declared.row.Row.{Row}
use Rattle.datastore_table.specs.Cells.{cell_at, cells_at, has_null_at, is_null}
use Rattle.datastore_table.specs.Index.{IsIndexedAt, IsLedTo, digest_of, is_twice}
use Rattle.datastore_table.specs.Meets.{are_accepted, are_apart, has_cell_of, has_key_of, row_meets}
use Rattle.datastore_table.specs.Rows.{has_id, row_at, row_cmp, row_cmp_total}
use Rattle.datastore_table.proofs.ApartLemmas.{any_map}
use Rattle.datastore_table.proofs.LookupLemmas.{at_own}
use Rattle.datastore_table.proofs.ReferenceLemmas.{any-found, found-any}
use Rattle.datastore_table.proofs.KeyLemmas.{are_one, cell_turned, cells-is, key_turned, not_true, one_apart}
use Rattle.datastore_table.proofs.KeyLemmas.{same_cell-is, true_false}
use Rattle.datastore_table.proofs.Merged.{found-least}
use Rattle.datastore_table.proofs.RowLemmas.{both_hold}

none_in : {X : Type 0} (p : X → Bool) (xs : List X) → list_any p xs ≡ false → (x : X) → IsIn x xs → p x ≡ false
none_in p [] none x m = absurd m
none_in p (y ∷ ys) none x (inl e) = ap p e ∙ (both_false (p y) (list_any p ys) none).0
none_in p (y ∷ ys) none x (inr m) = none_in p ys (both_false (p y) (list_any p ys) none).1 x m

other_id : (a b : ℕ) → not (a == b) ≡ true → a ≡ b → ⊥
other_id a b h = grind (arith, nat_tests)

same_or_other : (a b : ℕ) → (a ≡ b) ⊎ (not (a == b) ≡ true)
same_or_other a b = by (a == b) refl
  where
    by : (t : Bool) → (a == b) ≡ t → (a ≡ b) ⊎ (not (a == b) ≡ true)
    by true h = inl (grind (arith, nat_tests))
    by false h = inr (ap not h)

-- one of two rows is in the list
abbrev pub IsColliding : List ℕ → Row → Row → Type 0
IsColliding colliding a b = Contains colliding a.id ⊎ Contains colliding b.id

-- If of any two alike rows one is in the list, and no row of that list is like another row, no two rows are
-- alike.
pub apart_colliding : (like : Row → Row → Bool) → ((a b : Row) → like a b ≡ true → like b a ≡ true) → (rows : List Row)
    (colliding : List ℕ) → IsAscending row_cmp rows
    → ((a b : Row) → IsIn a rows → IsIn b rows → like a b ≡ true → (a.id ≡ b.id → ⊥) → IsColliding colliding a b)
    → not (list_any (is_twice like rows) colliding) ≡ are_apart like rows
apart_colliding like turned rows colliding up pairs = by (list_any (is_twice like rows) colliding) refl
  where
    twice : (a b : Row) → IsIn a rows → IsIn b rows → like a b ≡ true → not (b.id == a.id) ≡ true
        → is_twice like rows a.id ≡ true
    twice a b m n l other =
        ap (λ o. option_map_or (λ (row : Row). list_any (λ (x : Row). not (x.id == row.id) && like row x) rows) o false)
        (at_own a rows up m)
        ∙ found-any (λ (x : Row). not (x.id == a.id) && like a x) b rows n (rw (other, l) refl)

    differ : (a b : Row) → not (b.id == a.id) ≡ true → a.id ≡ b.id → ⊥
    differ a b h same = other_id b.id a.id h (sym same)

    turned_id : (a b : ℕ) → not (b == a) ≡ true → not (a == b) ≡ true
    turned_id a b h = grind (arith, nat_tests)

    seen : (r : Row) → IsIn r rows → is_twice like rows r.id ≡ true → are_apart like rows ≡ true → ⊥
    seen r m h apart =
        let other = any-found (λ (x : Row). not (x.id == r.id) && like r x) rows
        (sym (ap (λ o. option_map_or
        (λ (row : Row). list_any (λ (x : Row). not (x.id == row.id) && like row x) rows) o false)
        (at_own r rows up m)) ∙ h) in
        let parts = both_hold (not (other.0.id == r.id)) (like r other.0) other.2 in
        differ r other.0 parts.0 (are_one like turned rows apart r other.0 m other.1 parts.1)

    not_apart : (b : Bool) → are_apart like rows ≡ b → (b ≡ true → ⊥) → false ≡ are_apart like rows
    not_apart true e never = absurd (never refl)
    not_apart false e never = sym e

    found : (id : ℕ) → is_twice like rows id ≡ true → are_apart like rows ≡ true → ⊥
    found id h apart = by_row (row_at id rows) refl h
      where
        by_row : (o : Option Row) → row_at id rows ≡ o → option_map_or
            (λ (row : Row). list_any (λ (x : Row). not (x.id == row.id) && like row x) rows) o false ≡ true → ⊥
        by_row None e t = cc
        by_row (Some r) e t =
            let m = (found-least row_cmp row_cmp_total (has_id id) r rows up e).is_there in
            seen r m (ap (λ o. option_map_or
            (λ (row : Row). list_any (λ (x : Row). not (x.id == row.id) && like row x) rows) o false)
            (at_own r rows up m) ∙ t) apart

    by : (b : Bool) → list_any (is_twice like rows) colliding ≡ b → not b ≡ are_apart like rows
    by true e =
        let there = any-found (is_twice like rows) colliding e in
        not_apart (are_apart like rows) refl (λ yes. found there.0 there.2 yes)
    by false e = sym (one_apart like rows up one)
      where
        free : (a b : Row) → IsIn a rows → IsIn b rows → like a b ≡ true → not (b.id == a.id) ≡ true
            → Contains colliding a.id → ⊥
        free a b m n l other there =
            true_false (is_twice like rows a.id) (twice a b m n l other)
            (none_in (is_twice like rows) colliding e a.id (IsIn-Contains a.id colliding there))

        one : (a b : Row) → IsIn a rows → IsIn b rows → like a b ≡ true → a.id ≡ b.id
        one a b m n l = pick (same_or_other b.id a.id)
          where
            pick : (b.id ≡ a.id) ⊎ (not (b.id == a.id) ≡ true) → a.id ≡ b.id
            pick (inl same) = sym same
            pick (inr other) = absurd (beside (pairs a b m n l (differ a b other)))
              where
                beside : IsColliding colliding a b → ⊥
                beside (inl there) = free a b m n l other there
                beside (inr there) = free b a n m (turned a b l) (turned_id a.id b.id other) there

-- the further numbers of all digests
abbrev pub further_numbers : IndexState ℕ → List ℕ
further_numbers index = map (λ (e : Further ℕ). e.number) index.further

further_in : (d n : ℕ) (es : List (Further ℕ)) → IsIn n (further_under d es)
    → IsIn n (map (λ (e : Further ℕ). e.number) es)
further_in d n [] m = m
further_in d n (e ∷ es) m = by (e.digest == d) (λ rest. further_in d n es rest) m
  where
    by : (b : Bool) → (IsIn n (further_under d es) → IsIn n (map (λ (f : Further ℕ). f.number) es))
        → IsIn n (map (λ (f : Further ℕ). f.number) (cond b (e ∷ entries_under d es) (entries_under d es)))
        → (n ≡ e.number) ⊎ IsIn n (map (λ (f : Further ℕ). f.number) es)
    by true more (inl same) = inl same
    by true more (inr rest) = inr (more rest)
    by false more rest = inr (more rest)

-- A further number of a digest is one of all.
further_there : (d n : ℕ) (index : IndexState ℕ) → Contains (further_under d index.further) n
    → Contains (further_numbers index) n
further_there d n index m =
    Contains-IsIn n (further_numbers index)
    (further_in d n index.further (IsIn-Contains n (further_under d index.further) m))

-- Of two rows with equal cells, one is a further number.
pub colliding_pair : (columns : List ℕ) (index : IndexState ℕ) (a b : Row) → IsLedTo columns index a → IsLedTo columns index b
    → has_null_at columns a.cells ≡ false → cells_at columns b.cells ≡ cells_at columns a.cells
    → has_null_at columns b.cells ≡ false → (a.id ≡ b.id → ⊥) → IsColliding (further_numbers index) a b
colliding_pair columns index a b one other full same also differ =
    by (one full) (subst (λ cs. IsUnder index (digest_of columns cs) b.id) same (other also))
  where
    d : ℕ
    d = digest_of columns (cells_at columns a.cells)

    ids : (x y : ℕ) → first_under d index ≡ Some x → first_under d index ≡ Some y → x ≡ y
    ids x y h k = cc

    by : IsUnder index d a.id → IsUnder index d b.id → IsColliding (further_numbers index) a b
    by (inl h) (inl k) = absurd (differ (ids a.id b.id h k))
    by (inr there) k = inl (further_there d a.id index there)
    by (inl h) (inr there) = inr (further_there d b.id index there)

-- ---- keys

in_all : {X : Type 0} (p : X → Bool) (xs : List X) → list_all p xs ≡ true → (x : X) → IsIn x xs → p x ≡ true
in_all p [] all x m = absurd m
in_all p (y ∷ ys) all x (inl e) = ap p e ∙ (both_hold (p y) (list_all p ys) all).0
in_all p (y ∷ ys) all x (inr m) = in_all p ys (both_hold (p y) (list_all p ys) all).1 x m

pub keys_colliding : (schema : SchemaValue) (rows : List Row) (index : IndexState ℕ) → IsAscending row_cmp rows
    → list_all (row_meets schema) rows ≡ true → IsIndexedAt schema.key rows index
    → not (list_any (λ (e : Further ℕ). is_twice (has_key_of schema.key) rows e.number) index.further)
    ≡ are_apart (has_key_of schema.key) rows
keys_colliding schema rows index up met indexed =
    ap not (sym (any_map (λ (e : Further ℕ). e.number) (is_twice (has_key_of schema.key) rows) index.further))
    ∙ apart_colliding (has_key_of schema.key) (key_turned schema.key) rows (further_numbers index) up
    (λ a b m n l differ. colliding_pair schema.key index a b (indexed a m) (indexed b n) (full a m)
    (cells-is (cells_at schema.key b.cells) (cells_at schema.key a.cells) l) (full b n) differ)
  where
    full : (r : Row) → IsIn r rows → has_null_at schema.key r.cells ≡ false
    full r m =
        not_true (has_null_at schema.key r.cells)
        (both_hold (are_accepted schema.fields r.cells) (not (has_null_at schema.key r.cells))
        (in_all (row_meets schema) rows met r m)).1

-- ---- unique fields

pub cells_colliding : (column : ℕ) (rows : List Row) (index : IndexState ℕ) → IsAscending row_cmp rows
    → IsIndexedAt (column ∷ []) rows index
    → not (list_any (λ (e : Further ℕ). is_twice (has_cell_of column) rows e.number) index.further)
    ≡ are_apart (has_cell_of column) rows
cells_colliding column rows index up indexed =
    ap not (sym (any_map (λ (e : Further ℕ). e.number) (is_twice (has_cell_of column) rows) index.further))
    ∙ apart_colliding (has_cell_of column) (cell_turned column) rows (further_numbers index) up
    (λ a b m n l differ.
    let parts = both_hold (not (is_null (cell_at a.cells column)))
    (same_cell (cell_at b.cells column) (cell_at a.cells column)) l in
    let same : cell_at b.cells column ≡ cell_at a.cells column =
    same_cell-is (cell_at b.cells column) (cell_at a.cells column) parts.1 in
    let some : is_null (cell_at a.cells column) ≡ false = not_true (is_null (cell_at a.cells column)) parts.0 in
    colliding_pair (column ∷ []) index a b (indexed a m) (indexed b n) (alone (cell_at a.cells column) some)
    (ap (λ c. c ∷ []) same) (alone (cell_at b.cells column) (ap is_null same ∙ some)) differ)
  where
    alone : (c : Cell) → is_null c ≡ false → (is_null c || false) ≡ false
    alone c h = ap (λ b. b || false) h

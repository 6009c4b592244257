-- Rows that are found by their `_id` and by the index.
use Rattle.std.proofs.Common.{◌≡◌, ◌∙◌, ◌+◌, ◌==◌, inl, inr, ℕ, zero, suc, Bool, true, false, ◌&&◌, ◌||◌, not}
use Rattle.std.proofs.Common.{cond, List, [], ◌∷◌, Option, Some, None, find, ap, refl, subst, sym, arith, slice_get}
use Rattle.std.proofs.Common.{if◌then◌else◌, is_some, IfSome, IfNone, IsTrue, Contains}
use Rattle.std.proofs.lemmas.Bool.Decides.{nat_tests}
use Rattle.std.proofs.lemmas.Cmp.{tied_itself}
use Rattle.std.proofs.lemmas.Option.{slice_get-get_or, slice_get_within, get_or_from_slice_get}
use Rattle.std.specs.Cmp.{nat_cmp_total}
use Rattle.std.specs.List.{list_any, prefix_len}
use Rattle.std.specs.Option.{option_map_or}
use Rattle.std.specs.Ordering.{is_eq, is_lt, nat_cmp}
use Rattle.lexical_forms.specs.Digits.{is_empty}
use Rattle.portal_base.specs.Ordered.{IsAscending, found}
use Rattle.portal_base.proofs.Inserted.{both_false, list_any-same}
use Rattle.portal_base.proofs.Upserted.{upserted_at, inserted_at}
use Rattle.portal_base.proofs.Unique.{IsIn, IsIn-Contains}
use Rattle.table_schema.specs.declared.cell.Cell.{Cell}
use Rattle.table_schema.specs.Field.{FieldValue}
use Rattle.table_schema.specs.Order.{same_cell}
use Rattle.digest_index.specs.Index.{IndexState, IsUnder}
use Rattle.datastore_table.specs.declared.row.Row.{Row}
use Rattle.datastore_table.specs.Cells.{cell_at, cells_at, has_null, has_null_at, is_null}
use Rattle.datastore_table.specs.Index.{IsAlone, IsIndexedAt, IsKeyed, digest_of, has_cells_at, is_other_unwritten}
use Rattle.datastore_table.specs.Index.{only, unwritten}
use Rattle.datastore_table.specs.Meets.{are_apart, has_cell_of, has_key_of, keys_apart, uniques_apart}
use Rattle.datastore_table.specs.Put.{written_row}
use Rattle.datastore_table.specs.References.{refers}
use Rattle.datastore_table.specs.Rows.{has_cells, has_id, has_like, is_other, row_at, row_cmp, row_cmp_total}
use Rattle.datastore_table.specs.Rows.{takes_cell}
use Rattle.datastore_table.proofs.ApartLemmas.{any_map}
use Rattle.datastore_table.proofs.ReferenceLemmas.{found-any}
use Rattle.datastore_table.proofs.KeyLemmas.{are_one, cell_turned, cells-is, in-any, key_turned}
use Rattle.datastore_table.proofs.KeyLemmas.{not_true, same_cell-is}
use Rattle.datastore_table.proofs.Merged.{IsLeast, find-least, found-least, found-nothing, is_some-find}
use Rattle.datastore_table.proofs.RowLemmas.{both_hold, find-same, same_id}

-- ---- by an `_id`

-- The row with an `_id` comes right after the rows with a lower one.
pub at_index : (id : ℕ) (rows : List Row) → IsAscending row_cmp rows → (index : ℕ)
    → index ≡ prefix_len (λ row. is_lt (nat_cmp row.id id)) rows → row_at id rows ≡ only id (slice_get rows index)
at_index id rows up index is = by (slice_get rows index) refl
  where
    x : Row
    x = written_row id []

    seen : row_at id rows ≡ found (λ y. row_cmp y x) rows
    seen = find-same (has_id id) (λ y. is_eq (row_cmp y x)) (λ y. sym (same_id y.id id)) rows

    other : (b : Bool) → b ≡ false → b ≡ true → ⊥
    other b f t = cc

    by : (o : Option Row) → slice_get rows index ≡ o → row_at id rows ≡ only id o
    by None e =
        seen ∙ (inserted_at row_cmp row_cmp_total x rows up index is
        (λ lt. let there = slice_get-get_or rows index x lt in absurd (cc))).0
    by (Some r) e = by_id (has_id id r) refl
      where
        by_id : (b : Bool) → has_id id r ≡ b → row_at id rows ≡ only id (Some r)
        by_id true h =
            seen ∙ (upserted_at row_cmp row_cmp_total x rows up index is (slice_get_within rows index r e) r
            (sym (get_or_from_slice_get rows index r r e)) (same_id r.id id ∙ h)).0 ∙ e ∙ rw h refl
        by_id false h =
            seen ∙ (inserted_at row_cmp row_cmp_total x rows up index is
            (λ lt. ap (λ y. is_eq (row_cmp y x)) (get_or_from_slice_get rows index r x e) ∙ same_id r.id id ∙ h)).0
            ∙ rw h refl

-- Each row of the list is found by its `_id`.
pub at_own : (row : Row) (rows : List Row) → IsAscending row_cmp rows → IsIn row rows → row_at row.id rows ≡ Some row
at_own row rows up m =
    find-least row_cmp (has_id row.id) row rows up m (itself row.id)
    (λ z n same. ap (λ i. is_lt (nat_cmp i row.id)) (by_id z.id row.id same)
    ∙ ap is_lt (tied_itself nat_cmp_total row.id))
  where
    itself : (a : ℕ) → (a == a) ≡ true
    itself a = grind (arith, nat_tests)

    by_id : (a b : ℕ) → (a == b) ≡ true → a ≡ b
    by_id a b h = grind (arith, nat_tests)

pub has_row_is : (id : ℕ) (rows : List Row)
    → is_some (row_at id rows) ≡ list_any (λ (row : Row). is_eq (nat_cmp id row.id)) rows
has_row_is id rows =
    sym (is_some-find (has_id id) rows)
    ∙ list_any-same (has_id id) (λ (row : Row). is_eq (nat_cmp id row.id)) (λ row. turned row.id id ∙ sym (same_id id row.id))
    rows
  where
    turned : (a b : ℕ) → (a == b) ≡ (b == a)
    turned a b = grind (arith, nat_tests)

-- ---- by an index

true_false : {A : Type 0} (b : Bool) → b ≡ true → b ≡ false → A
true_false b t f = absurd (cc)

-- The only row that has the cells is found.
found_alone : (columns : List ℕ) (cells : List Cell) (rows : List Row) → IsAscending row_cmp rows
    → IsAlone columns cells rows → (row : Row) → IsIn row rows → has_cells columns cells row ≡ true
    → find (has_cells columns cells) rows ≡ Some row
found_alone columns cells rows up alone row m has =
    find-least row_cmp (has_cells columns cells) row rows up m has
    (λ z n also. ap (λ i. is_lt (nat_cmp i row.id)) (alone z row n m also has)
    ∙ ap is_lt (tied_itself nat_cmp_total row.id))

-- If the row with an `_id` has the cells, it is the row that is found.
pub found_by : (columns : List ℕ) (cells : List Cell) (rows : List Row) → IsAscending row_cmp rows
    → IsAlone columns cells rows → (id : ℕ) → has_cells_at columns cells rows id ≡ true
    → row_at id rows ≡ find (has_cells columns cells) rows
found_by columns cells rows up alone id h = by (row_at id rows) refl h
  where
    by : (o : Option Row) → row_at id rows ≡ o → option_map_or (has_cells columns cells) o false ≡ true
        → row_at id rows ≡ find (has_cells columns cells) rows
    by None e has = absurd (cc)
    by (Some r) e has =
        e ∙ sym (found_alone columns cells rows up alone r
        (found-least row_cmp row_cmp_total (has_id id) r rows up e).is_there has)

-- If no candidate has the cells, no row has them.
pub found_none : (columns : List ℕ) (cells : List Cell) (rows : List Row) (index : IndexState ℕ) → IsAscending row_cmp rows
    → has_null cells ≡ false → IsIndexedAt columns rows index
    → ((id : ℕ) → IsUnder index (digest_of columns cells) id → has_cells_at columns cells rows id ≡ false)
    → find (has_cells columns cells) rows ≡ None
found_none columns cells rows index up full indexed none = by (find (has_cells columns cells) rows) refl
  where
    by : (o : Option Row) → find (has_cells columns cells) rows ≡ o → find (has_cells columns cells) rows ≡ None
    by None e = e
    by (Some r) e =
        let least = found-least row_cmp row_cmp_total (has_cells columns cells) r rows up e in
        let same : cells_at columns r.cells ≡ cells = cells-is (cells_at columns r.cells) cells least.passes in
        let own : has_null_at columns r.cells ≡ false =
        sym (any_map (cell_at r.cells) is_null columns) ∙ ap has_null same ∙ full in
        let led = subst (λ cs. IsUnder index (digest_of columns cs) r.id) same (indexed r least.is_there own) in
        let has : has_cells_at columns cells rows r.id ≡ true =
        ap (λ o. option_map_or (has_cells columns cells) o false) (at_own r rows up least.is_there) ∙ least.passes in
        true_false (has_cells_at columns cells rows r.id) has (none r.id led)

-- ---- at most one

pub alone_key : (key : List ℕ) (cells : List Cell) (rows : List Row) → keys_apart key rows ≡ true
    → is_empty key ≡ false → IsAlone key cells rows
alone_key key cells rows apart some a b m n has also =
    let were : are_apart (has_key_of key) rows ≡ true =
    ap (λ t. t || are_apart (has_key_of key) rows) (sym some) ∙ apart in
    let same : cells_at key a.cells ≡ cells = cells-is (cells_at key a.cells) cells has in
    are_one (has_key_of key) (key_turned key) rows were a b m n (ap (λ cs. has_cells key cs b) same ∙ also)

unique_at : (from column : ℕ) (fields : List FieldValue) (field : FieldValue) (rows : List Row)
    → uniques_apart from fields rows ≡ true → slice_get fields column ≡ Some field → field.constraints.unique ≡ true
    → are_apart (has_cell_of (from + column)) rows ≡ true
unique_at from column [] field rows apart at unique = absurd (cc)
unique_at from zero (f ∷ fields) field rows apart at unique =
    let parts = both_hold (not f.constraints.unique || are_apart (has_cell_of from) rows)
    (uniques_apart (from + 1) fields rows) apart in
    let same : f ≡ field = cc in
    let own : f.constraints.unique ≡ true = ap (λ (x : FieldValue). x.constraints.unique) same ∙ unique in
    let here : from + 0 ≡ from = omega arith in
    ap (λ k. are_apart (has_cell_of k) rows) here
    ∙ ap (λ t. not t || are_apart (has_cell_of from) rows) (sym own) ∙ parts.0
unique_at from (suc column) (f ∷ fields) field rows apart at unique =
    let parts = both_hold (not f.constraints.unique || are_apart (has_cell_of from) rows)
    (uniques_apart (from + 1) fields rows) apart in
    let step : from + suc column ≡ from + 1 + column = omega arith in
    ap (λ k. are_apart (has_cell_of k) rows) step
    ∙ unique_at (from + 1) column fields field rows parts.1 at unique

one_cell : (column : ℕ) (c : Cell) (a : Row) → has_cells (column ∷ []) (c ∷ []) a ≡ true
    → same_cell (cell_at a.cells column) c ≡ true
one_cell column c a h = (both_hold (same_cell (cell_at a.cells column) c) true h).0

pub alone_unique : (column : ℕ) (c : Cell) (fields : List FieldValue) (field : FieldValue) (rows : List Row)
    → uniques_apart 0 fields rows ≡ true → slice_get fields column ≡ Some field → field.constraints.unique ≡ true
    → is_null c ≡ false → IsAlone (column ∷ []) (c ∷ []) rows
alone_unique column c fields field rows apart at unique some a b m n has also =
    let were : are_apart (has_cell_of column) rows ≡ true =
    ap (λ k. are_apart (has_cell_of k) rows) (zero_add column) ∙ unique_at 0 column fields field rows apart at unique in
    let same : cell_at a.cells column ≡ c = same_cell-is (cell_at a.cells column) c (one_cell column c a has) in
    let like : has_cell_of column a b ≡ true = rw (same, some) (one_cell column c b also) in
    are_one (has_cell_of column) (cell_turned column) rows were a b m n like
  where
    zero_add : (k : ℕ) → k ≡ 0 + k
    zero_add k = omega arith

-- No rows are found by any index.
pub none_keyed : (key : List ℕ) (index : IndexState ℕ) → IsKeyed key [] index
none_keyed key index = record { ascending = tt; apart = by (is_empty key); indexed = λ some row m. absurd m }
  where
    by : (b : Bool) → (b || true) ≡ true
    by true = refl
    by false = refl

-- ---- rows that no written row replaces

nothing : (p : Row → Bool) (rows : List Row) → ((z : Row) → IsIn z rows → p z ≡ false) → find p rows ≡ None
nothing p [] fails = refl
nothing p (row ∷ rows) fails =
    ap (λ b. cond b (Some row) (find p rows)) (fails row (inl refl)) ∙ nothing p rows (λ z m. fails z (inr m))

like_same : (written : List Row) (a b : Row) → a.id ≡ b.id → has_like written a ≡ has_like written b
like_same written a b same = ap (λ i. list_any (λ (other : Row). is_eq (nat_cmp i other.id)) written) same

-- If at most one row has the cells, a search that skips replaced rows finds that row or none.
pub find_unwritten : (columns : List ℕ) (cells : List Cell) (written rows : List Row) → IsAscending row_cmp rows
    → IsAlone columns cells rows
    → find (λ row. has_cells columns cells row && not (has_like written row)) rows
    ≡ unwritten written (find (has_cells columns cells) rows)
find_unwritten columns cells written rows up alone = by (find (has_cells columns cells) rows) refl
  where
    p : Row → Bool
    p = has_cells columns cells

    q : Row → Bool
    q = λ row. p row && not (has_like written row)

    by : (o : Option Row) → find p rows ≡ o → find q rows ≡ unwritten written o
    by None e = nothing q rows (λ z m. ap (λ b. b && not (has_like written z)) (found-nothing p rows e z m))
    by (Some r) e = each (has_like written r) refl
      where
        least : IsLeast row_cmp p rows r
        least = found-least row_cmp row_cmp_total p r rows up e

        hidden : has_like written r ≡ true → (z : Row) → IsIn z rows → (b : Bool) → p z ≡ b → q z ≡ false
        hidden like z m false fails = ap (λ b. b && not (has_like written z)) fails
        hidden like z m true passes =
            let same : has_like written z ≡ true =
            like_same written z r (alone z r m least.is_there passes least.passes) ∙ like in
            rw (passes, same) refl

        each : (b : Bool) → has_like written r ≡ b → find q rows ≡ (if b then None else Some r)
        each true like = nothing q rows (λ z m. hidden like z m (p z) refl)
        each false like =
            find-least row_cmp q r rows up least.is_there (rw (least.passes, like) refl)
            (λ z n also. least.least z n (both_hold (p z) (not (has_like written z)) also).0)

pub any_unwritten : (except : Option ℕ) (column : ℕ) (c : Cell) (written rows : List Row) → IsAscending row_cmp rows
    → IsAlone (column ∷ []) (c ∷ []) rows
    → list_any (λ row. takes_cell except column c row && not (has_like written row)) rows
    ≡ is_other_unwritten except written (find (has_cells (column ∷ []) (c ∷ [])) rows)
any_unwritten except column c written rows up alone = by (find p rows) refl
  where
    p : Row → Bool
    p = has_cells (column ∷ []) (c ∷ [])

    q : Row → Bool
    q = λ row. takes_cell except column c row && not (has_like written row)

    unlike : (z : Row) → same_cell (cell_at z.cells column) c ≡ false → q z ≡ false
    unlike z fails = rw fails (by_other (is_other except z))
      where
        by_other : (b : Bool) → ((b && false) && not (has_like written z)) ≡ false
        by_other true = refl
        by_other false = refl

    other_same : (o : Option ℕ) (a b : Row) → a.id ≡ b.id → is_other o a ≡ is_other o b
    other_same None a b same = refl
    other_same (Some i) a b same = ap (λ k. not (k == i)) same

    passes_one : (z : Row) → same_cell (cell_at z.cells column) c ≡ true → p z ≡ true
    passes_one z h = ap (λ b. b && true) h

    by : (o : Option Row) → find p rows ≡ o → list_any q rows ≡ is_other_unwritten except written o
    by None e = in-any q rows (λ z m. each z m (same_cell (cell_at z.cells column) c) refl)
      where
        each : (z : Row) → IsIn z rows → (b : Bool) → same_cell (cell_at z.cells column) c ≡ b → q z ≡ false
        each z m true h = true_false (p z) (passes_one z h) (found-nothing p rows e z m)
        each z m false h = unlike z h
    by (Some r) e = each (is_other_unwritten except written (Some r)) refl
      where
        least : IsLeast row_cmp p rows r
        least = found-least row_cmp row_cmp_total p r rows up e

        has : same_cell (cell_at r.cells column) c ≡ true
        has = one_cell column c r least.passes

        alike : (z : Row) → IsIn z rows → same_cell (cell_at z.cells column) c ≡ true
            → q z ≡ is_other_unwritten except written (Some r)
        alike z m h =
            let same : z.id ≡ r.id = alone z r m least.is_there (passes_one z h) least.passes in
            rw (h, other_same except z r same, like_same written z r same) (by_other (is_other except r))
          where
            by_other : (b : Bool) → ((b && true) && not (has_like written r)) ≡ (b && not (has_like written r))
            by_other true = refl
            by_other false = refl

        none : is_other_unwritten except written (Some r) ≡ false → (z : Row) → IsIn z rows → (b : Bool)
            → same_cell (cell_at z.cells column) c ≡ b → q z ≡ false
        none free z m true h = alike z m h ∙ free
        none free z m false h = unlike z h

        each : (b : Bool) → is_other_unwritten except written (Some r) ≡ b → list_any q rows ≡ b
        each true taken = found-any q r rows least.is_there (alike r least.is_there has ∙ taken)
        each false free = in-any q rows (λ z m. none free z m (same_cell (cell_at z.cells column) c) refl)

-- The same for the test whether a row has the cells.
pub any_apart : (columns : List ℕ) (cells : List Cell) (written rows : List Row) → IsAscending row_cmp rows
    → IsAlone columns cells rows
    → list_any (λ row. has_cells columns cells row && not (has_like written row)) rows
    ≡ is_some (unwritten written (find (has_cells columns cells) rows))
any_apart columns cells written rows up alone =
    is_some-find (λ row. has_cells columns cells row && not (has_like written row)) rows
    ∙ ap is_some (find_unwritten columns cells written rows up alone)

-- ---- rows that refer

-- A row that refers by some columns has no Null in them.
pub refers_full : (columns : List ℕ) (row : Row) → refers columns row ≡ true
    → has_null (cells_at columns row.cells) ≡ false
refers_full columns row h =
    any_map (cell_at row.cells) is_null columns
    ∙ (both_false (is_empty columns) (has_null_at columns row.cells)
    (not_true (is_empty columns || has_null_at columns row.cells) h)).1

-- If there is no key, a row that refers has the key of no row.
pub none_without_key : (key columns : List ℕ) (row : Row) (written rows : List Row) → is_empty key ≡ true
    → refers columns row ≡ true
    → list_any (λ (other : Row). has_cells key (cells_at columns row.cells) other && not (has_like written other)) rows
    ≡ false
none_without_key [] [] row written rows none h = absurd (cc)
none_without_key [] (column ∷ columns) row written rows none h =
    in-any (λ (other : Row). has_cells [] (cells_at (column ∷ columns) row.cells) other && not (has_like written other))
    rows (λ z m. refl)
none_without_key (k ∷ key) columns row written rows none h = absurd (cc)

-- ---- a search's result

passes : {X : Type 0} (test : X → Bool) (x : X) (xs : List X) → find test xs ≡ Some x → test x ≡ true
passes test x [] h = absurd (cc)
passes {X} test x (y ∷ ys) h = by (test y) refl h (passes test x ys)
  where
    by : (b : Bool) → test y ≡ b → cond b (Some y) (find test ys) ≡ Some x → (find test ys ≡ Some x → test x ≡ true)
        → test x ≡ true
    by true is e go = let same : x ≡ y = cc in ap test same ∙ is
    by false is e go = go e

pub find_IfSome : {X : Type 0} (test : X → Bool) (xs : List X) (r : Option X) → r ≡ find test xs
    → IfSome r (λ x. IsTrue (test x))
find_IfSome test xs None is = tt
find_IfSome test xs (Some x) is = passes test x xs (sym is)

pub find_IfNone : {X : Type 0} (test : X → Bool) (xs : List X) (r : Option X) → r ≡ find test xs
    → IfNone r ((x : X) → Contains xs x → test x ≡ false)
find_IfNone test xs None is = λ x m. found-nothing test xs (sym is) x (IsIn-Contains x xs m)
find_IfNone test xs (Some x) is = tt

pub IfNone_from : {X : Type 0} (r : Option X) (A B : Type 0) → IfNone r A → (A → B) → IfNone r B
IfNone_from None A B a f = f a
IfNone_from (Some x) A B a f = tt

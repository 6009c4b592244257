-- Rows whose references by a foreign key hold after a batch or a removal.
use Rattle.std.proofs.Common.{◌≡◌, ◌∙◌, ◌⊎◌, inl, inr, ℕ, zero, suc, ◌+◌, ◌==◌, Bool, true, false, ◌&&◌, ◌||◌, not}
use Rattle.std.proofs.Common.{List, [], ◌∷◌, filter, find, Option, Some, None, Result, Ok, Err, refl, sym, ap, subst}
use Rattle.std.proofs.Common.{slice_get, arith, add-zero, if◌then◌else◌, cond}
use Rattle.std.specs.List.{list_all, list_any}
use Rattle.portal_base.specs.Ordered.{IsAscending}
use Rattle.portal_base.specs.declared.json_value.Json.{Json}
use Rattle.portal_base.proofs.Filtered.{IsIn-filter, IsIn-list_all, filter-IsIn, list_all-IsIn}
use Rattle.portal_base.proofs.Unique.{IsIn, below_in}
use Rattle.packages.proofs.FindLemmas.{IsIn-map, find-none}
use Rattle.datastore_table.specs.Batch.{cut_rows, is_among, key_row, referred_checked, referred_fault, refers_to}
use Rattle.datastore_table.specs.Batch.{removed_keys}
use Rattle.datastore_table.specs.Cells.{cells_at}
use Rattle.datastore_table.specs.Put.{Worked, begun, put_records}
use Rattle.datastore_table.specs.References.{foreign_checked, is_broken, is_broken_at, key_exists, refers, written_checked}
use Rattle.datastore_table.specs.Results.{in_turn}
use Rattle.datastore_table.specs.Rows.{has_cells, row_at, row_cmp}
use Rattle.datastore_table.specs.Table.{IsNumbered, TableValue}
use Rattle.datastore_table.specs.declared.fault.TableFault.{TableFault}
use Rattle.datastore_table.specs.declared.fault.TableFault.TheVariants as fault
use Rattle.datastore_table.specs.declared.method.Method.{Method}
use Rattle.datastore_table.specs.declared.row.Row.{Row}
use Rattle.datastore_table.proofs.ReferenceLemmas.{KeepsKeys, Stems, any-found, found-any, put_record-holds, put_record-stems}
use Rattle.datastore_table.proofs.KeyLemmas.{below_other, cells-is, cells-itself, true_false}
use Rattle.datastore_table.proofs.NumberLemmas.{put_record-numbered}
use Rattle.datastore_table.proofs.PutLemmas.{put_records-keeps}
use Rattle.datastore_table.proofs.ResultLemmas.{bound-ok}
use Rattle.datastore_answers.proofs.ReferenceLemmas.{zero_add}
use Rattle.datastore_answers.proofs.KeepLemmas.{number_is, number_itself}

-- ---- results in turn

-- If all checks in turn pass, the check at each index passes.
in_turn-at : {A : Type 0} (f : ℕ → A → Unit {0} → Result (Unit {0}) TableFault) (n : ℕ) (xs : List A)
    (u : Unit {0}) → in_turn f n xs tt ≡ Ok u → (index : ℕ) (x : A) → slice_get xs index ≡ Some x
    → (v : Unit {0}) × (f (n + index) x tt ≡ Ok v)
in_turn-at f n [] u h index x slot = absurd (cc)
in_turn-at {A} f n (y ∷ ys) u h zero x slot =
    let first = bound-ok (f n y tt) (in_turn f (n + 1) ys) u h in
    let same : y ≡ x = cc in
    (first.0, subst (λ z. f (n + 0) z tt ≡ Ok first.0) same (ap (λ k. f k y tt) (add-zero n) ∙ first.1))
in_turn-at {A} f n (y ∷ ys) u h (suc index) x slot =
    let first = bound-ok (f n y tt) (in_turn f (n + 1) ys) u h in
    let rest = in_turn-at f (n + 1) ys u first.2 index x slot in
    let step : n + 1 + index ≡ n + suc index = omega arith in
    (rest.0, ap (λ k. f k x tt) (sym step) ∙ rest.1)

pub in_turn-first : {A : Type 0} (f : ℕ → A → Unit {0} → Result (Unit {0}) TableFault) (xs : List A) (u : Unit {0})
    → in_turn f 0 xs tt ≡ Ok u → (index : ℕ) (x : A) → slice_get xs index ≡ Some x
    → (v : Unit {0}) × (f index x tt ≡ Ok v)
in_turn-first f xs u h index x slot =
    let at = in_turn-at f 0 xs u h index x slot in
    (at.0, ap (λ k. f k x tt) (sym (zero_add index)) ∙ at.1)

-- ---- a row that was written

unbroken_at : (indices key : List ℕ) (target changed : List Row) (n id : ℕ) (u : Unit {0})
    → written_checked indices key target changed n id tt ≡ Ok u
    → is_broken_at indices key target (row_at id changed) ≡ false
unbroken_at indices key target changed n id u h = by (is_broken_at indices key target (row_at id changed)) h
  where
    by : (b : Bool) → (if b then Err (fault.Foreign n) else Ok tt) ≡ Ok u → b ≡ false
    by true s = absurd (cc)
    by false s = refl

-- The reference of each written row holds.
written-held : (indices key : List ℕ) (target changed : List Row) (n : ℕ) (written : List ℕ) (u : Unit {0})
    → in_turn (written_checked indices key target changed) n written tt ≡ Ok u → (id : ℕ)
    → list_any (λ i. i == id) written ≡ true → is_broken_at indices key target (row_at id changed) ≡ false
written-held indices key target changed n [] u h id among = absurd (cc)
written-held indices key target changed n (i ∷ is) u h id among =
    by (written-held indices key target changed (n + 1) is u first.2 id) (i == id) refl among
  where
    first : (v : Unit {0}) × (written_checked indices key target changed n i tt ≡ Ok v)
        × (in_turn (written_checked indices key target changed) (n + 1) is v ≡ Ok u)
    first = bound-ok (written_checked indices key target changed n i tt)
        (in_turn (written_checked indices key target changed) (n + 1) is) u h

    by : (list_any (λ j. j == id) is ≡ true → is_broken_at indices key target (row_at id changed) ≡ false)
        → (b : Bool) → (i == id) ≡ b → (b || list_any (λ j. j == id) is) ≡ true
        → is_broken_at indices key target (row_at id changed) ≡ false
    by rest true same s =
        ap (λ k. is_broken_at indices key target (row_at k changed)) (sym (number_is i id same))
        ∙ unbroken_at indices key target changed n i first.0 first.1
    by rest false other s = rest s

-- The row found by an `_id` is the row with it.
row-at : (rows : List Row) (r : Row) → IsIn r rows → IsAscending row_cmp rows → row_at r.id rows ≡ Some r
row-at [] r m up = absurd m
row-at (x ∷ xs) r (inl same) up =
    ap (λ b. cond b (Some x) (row_at r.id xs)) (ap (λ (y : Row). x.id == y.id) same ∙ number_itself x.id)
    ∙ ap Some (sym same)
row-at (x ∷ xs) r (inr m) up = by (x.id == r.id) refl (row-at xs r m up.1)
  where
    by : (b : Bool) → (x.id == r.id) ≡ b → row_at r.id xs ≡ Some r → row_at r.id (x ∷ xs) ≡ Some r
    by true e rest =
        absurd (below_other x r (below_in row_cmp x r xs up.0 m) (number_is x.id r.id e))
    by false e rest = ap (λ b. cond b (Some x) (row_at r.id xs)) e ∙ rest

-- If the references of the old rows hold and those of the written rows were checked, the references of all rows hold.
pub rows-held : (indices key : List ℕ) (target old rows : List Row) (written : List ℕ) (u : Unit {0})
    → IsAscending row_cmp rows
    → ((r : Row) → IsIn r rows → IsIn r old ⊎ (list_any (λ i. i == r.id) written ≡ true))
    → list_all (λ row. not (is_broken indices key target row)) old ≡ true
    → foreign_checked indices key target rows written ≡ Ok u
    → list_all (λ row. not (is_broken indices key target row)) rows ≡ true
rows-held indices key target old rows written u up stems were checked =
    IsIn-list_all (λ row. not (is_broken indices key target row)) rows (λ r m. by r m (stems r m))
  where
    by : (r : Row) → IsIn r rows → IsIn r old ⊎ (list_any (λ i. i == r.id) written ≡ true)
        → not (is_broken indices key target r) ≡ true
    by r m (inl was) = list_all-IsIn (λ row. not (is_broken indices key target row)) old were r was
    by r m (inr among) =
        ap not
        (ap (is_broken_at indices key target) (sym (row-at rows r m up))
        ∙ written-held indices key target rows 1 written u checked r.id among)

-- ---- the referenced rows

-- If every key that existed still exists, the references hold as before.
pub held-on : (indices key : List ℕ) (target after rows : List Row) → KeepsKeys key target after
    → list_all (λ row. not (is_broken indices key target row)) rows ≡ true
    → list_all (λ row. not (is_broken indices key after row)) rows ≡ true
held-on indices key target after rows holds were =
    IsIn-list_all (λ row. not (is_broken indices key after row)) rows
    (λ r m. by (refers indices r) (key_exists key (cells_at indices r.cells) target)
    (key_exists key (cells_at indices r.cells) after)
    (holds (cells_at indices r.cells)) (list_all-IsIn (λ row. not (is_broken indices key target row)) rows were r m))
  where
    by : (a b c : Bool) → (b ≡ true → c ≡ true) → not (a && not b) ≡ true → not (a && not c) ≡ true
    by false b c on s = refl
    by true true c on s = ap (λ x. not (not x)) (on refl)
    by true false c on s = absurd (cc)

-- ---- a batch

record AtWork (schema_key : List ℕ) (old : List Row) (work : Worked) : Type 0 where
  pub numbered : IsNumbered work.rows work.next_id
  pub stems : Stems old work
  pub holds : KeepsKeys schema_key old work.rows

-- After a batch, each row is an old one or was written, and every key that existed still exists.
pub put-keeps : (method : Method) (records : List Json) (table : TableValue) (after : Worked)
    → IsNumbered table.rows table.next_id → put_records method records table ≡ Ok after
    → IsNumbered after.rows after.next_id × Stems table.rows after × KeepsKeys table.schema.key table.rows after.rows
put-keeps method records table after numbered h =
    let start : AtWork table.schema.key table.rows (begun table.rows table.next_id) = record {
      numbered = numbered;
      stems = λ r m. inl m;
      holds = λ cells held. held;
    } in
    let kept = put_records-keeps method records table after (AtWork table.schema.key table.rows)
    (λ number given work next at e. record {
      numbered = put_record-numbered method table.schema number given work next at.numbered e;
      stems = put_record-stems method table.schema number given work next table.rows at.stems e;
      holds = put_record-holds method table.schema number given work next table.rows at.numbered at.holds e;
    })
    start h in
    (kept.1.numbered, kept.1.stems, kept.1.holds)

-- ---- a removal

none_referred : (o : Option Row) (u : Unit {0}) → referred_fault o ≡ Ok u → o ≡ None
none_referred None u h = refl
none_referred (Some row) u h = absurd (cc)

-- Rows that reference none of the deleted rows keep their references.
pub delete_rows-held_on : (indices key ids : List ℕ) (target rows : List Row) (u : Unit {0})
    → list_all (λ row. not (is_broken indices key target row)) rows ≡ true
    → referred_checked indices (removed_keys key ids target) rows ≡ Ok u
    → list_all (λ row. not (is_broken indices key (cut_rows ids target) row)) rows ≡ true
delete_rows-held_on indices key ids target rows u were checked =
    IsIn-list_all (λ row. not (is_broken indices key stay row)) rows (λ r m. each r m (refers indices r) refl)
  where
    stay : List Row
    stay = cut_rows ids target

    none : find (λ k. list_any (refers_to indices k) rows) (removed_keys key ids target) ≡ None
    none = none_referred (find (λ k. list_any (refers_to indices k) rows) (removed_keys key ids target)) u checked

    stays : (r : Row) → IsIn r rows → refers indices r ≡ true → (k : Row) → IsIn k target
        → has_cells key (cells_at indices r.cells) k ≡ true → (b : Bool) → is_among ids k.id ≡ b
        → key_exists key (cells_at indices r.cells) stay ≡ true
    stays r m ref k at has true e =
        let gone : IsIn (key_row key k) (removed_keys key ids target) =
        IsIn-map (key_row key) k (filter (λ (row : Row). is_among ids row.id) target)
        (filter-IsIn (λ (row : Row). is_among ids row.id) k target at e) in
        let unreferenced : list_any (refers_to indices (key_row key k)) rows ≡ false =
        find-none (λ q. list_any (refers_to indices q) rows) (key_row key k) (removed_keys key ids target) none gone in
        let same : cells_at key k.cells ≡ cells_at indices r.cells =
        cells-is (cells_at key k.cells) (cells_at indices r.cells) has in
        let here : refers_to indices (key_row key k) r ≡ true =
        rw (ref, same) (cells-itself (cells_at indices r.cells)) in
        true_false (list_any (refers_to indices (key_row key k)) rows)
        (found-any (refers_to indices (key_row key k)) r rows m here) unreferenced
    stays r m ref k at has false e =
        found-any (has_cells key (cells_at indices r.cells)) k stay
        (filter-IsIn (λ (row : Row). not (is_among ids row.id)) k target at (ap not e)) has

    held_of : (b c : Bool) → b ≡ true → not (b && not c) ≡ true → c ≡ true
    held_of true true t s = refl
    held_of true false t s = absurd (cc)
    held_of false c t s = absurd (cc)

    each : (r : Row) → IsIn r rows → (b : Bool) → refers indices r ≡ b → not (is_broken indices key stay r) ≡ true
    each r m false e = ap (λ b. not (b && not (key_exists key (cells_at indices r.cells) stay))) e
    each r m true e =
        let held : key_exists key (cells_at indices r.cells) target ≡ true =
        held_of (refers indices r) (key_exists key (cells_at indices r.cells) target) e
        (list_all-IsIn (λ row. not (is_broken indices key target row)) rows were r m) in
        let some = any-found (has_cells key (cells_at indices r.cells)) target held in
        rw (e, stays r m e some.0 some.1 some.2 (is_among ids some.0.id) refl) refl

-- The rows that are left keep their references.
pub delete_rows-held_own : (p : Row → Bool) (ids : List ℕ) (rows : List Row) → list_all p rows ≡ true
    → list_all p (cut_rows ids rows) ≡ true
delete_rows-held_own p ids rows were =
    IsIn-list_all p (cut_rows ids rows)
    (λ r m. list_all-IsIn p rows were r (IsIn-filter (λ (row : Row). not (is_among ids row.id)) r rows m).0)

-- A batch and a removal keep the self references of a table.
use Rattle.std.proofs.Common.{◌≡◌, ◌∙◌, ◌<◌, ◌⊎◌, inl, inr, ℕ, ◌+◌, ◌==◌, Bool, true, false, ◌&&◌, ◌||◌, not, List, []}
use Rattle.std.proofs.Common.{◌∷◌, ◌++◌}
use Rattle.std.proofs.Common.{map, filter, find, Option, Some, None, Result, Ok, Err, ap, refl, subst, sym, arith}
use Rattle.std.proofs.Common.{if◌then◌else◌}
use Rattle.std.proofs.lemmas.Bool.Decides.{nat_tests}
use Rattle.std.proofs.lemmas.List.Folds.{list_any-append}
use Rattle.std.specs.List.{list_all, list_any}
use Rattle.std.specs.Ordering.{is_eq, is_lt, nat_cmp}
use Rattle.std.proofs.lemmas.Cmp.{tied_itself}
use Rattle.std.specs.Cmp.{unsigned_tied}
use Rattle.portal_base.specs.declared.json_value.Json.{Json}
use Rattle.portal_base.specs.Ordered.{IsAscending, upserted}
use Rattle.portal_base.proofs.Filtered.{IsIn-filter, filter-IsIn}
use Rattle.portal_base.proofs.Upserted.{IsIn-upserted, upserted-IsIn, upserted-IsIn_other}
use Rattle.portal_base.proofs.Unique.{IsIn, below_in}
use Rattle.table_schema.specs.declared.cell.Cell.{Cell}
use Rattle.table_schema.specs.declared.foreign.Foreign.{Foreign}
use Rattle.table_schema.specs.Field.{SchemaValue}
use Rattle.datastore_table.specs.declared.fault.TableFault.{TableFault}
use Rattle.datastore_table.specs.declared.fault.TableFault.TheVariants as fault
use Rattle.datastore_table.specs.declared.method.Method.{Method}
use Rattle.datastore_table.specs.declared.row.Row.{Row}
use Rattle.datastore_table.specs.Batch.{cut_rows, is_among, key_row, referred_checked, referred_fault, refers_to}
use Rattle.datastore_table.specs.Batch.{removed_keys}
use Rattle.datastore_table.specs.Batch.{self_reference_restricted}
use Rattle.datastore_table.specs.Cells.{cells_at, same_cells}
use Rattle.datastore_table.specs.Meets.{keeps_self_reference}
use Rattle.datastore_table.specs.Put.{Worked, id_of, kept_cells, put_record, row_id, validated_record, with_cells}
use Rattle.datastore_table.specs.Put.{written_row}
use Rattle.datastore_table.specs.Record.{key_of}
use Rattle.datastore_table.specs.References.{foreign_checked, is_broken, is_broken_at, key_exists, is_self, refers}
use Rattle.datastore_table.specs.References.{self_reference_checked}
use Rattle.datastore_table.specs.References.{written_checked}
use Rattle.datastore_table.specs.Results.{in_turn}
use Rattle.datastore_table.specs.Rows.{has_cells, has_id, row_at, row_cmp, row_cmp_total, row_with}
use Rattle.datastore_table.specs.Table.{AreWithin, IsNumbered}
use Rattle.datastore_table.proofs.ApartLemmas.{found-with, keeps_none, own_key}
use Rattle.datastore_table.proofs.KeyLemmas.{below_other, cells-is, cells-itself, true_false}
use Rattle.datastore_table.proofs.Merged.{find-least, found-nothing}
use Rattle.datastore_table.proofs.PutLemmas.{validated_against-parts}
use Rattle.datastore_table.proofs.ResultLemmas.{bound-ok}
use Rattle.datastore_table.proofs.RowLemmas.{both_hold}

-- ---- rows by their tests

pub any-found : {X : Type 0} (p : X → Bool) (xs : List X) → list_any p xs ≡ true → (x : X) × IsIn x xs × (p x ≡ true)
any-found p [] h = absurd (cc)
any-found {X} p (x ∷ xs) h = by (any-found p xs) (p x) refl h
  where
    by : (list_any p xs ≡ true → (y : X) × IsIn y xs × (p y ≡ true)) → (b : Bool) → p x ≡ b
        → (b || list_any p xs) ≡ true → (y : X) × IsIn y (x ∷ xs) × (p y ≡ true)
    by more true e s = (x, inl refl, e)
    by more false e s = let rest = more s in (rest.0, inr rest.1, rest.2)

pub found-any : {X : Type 0} (p : X → Bool) (x : X) (xs : List X) → IsIn x xs → p x ≡ true → list_any p xs ≡ true
found-any p x [] m h = absurd m
found-any p x (y ∷ ys) (inl e) h = ap (λ b. b || list_any p ys) (ap p (sym e) ∙ h)
found-any p x (y ∷ ys) (inr m) h = ap (λ b. p y || b) (found-any p x ys m h) ∙ or_true (p y)
  where
    or_true : (b : Bool) → (b || true) ≡ true
    or_true true = refl
    or_true false = refl

all-in : {X : Type 0} (p : X → Bool) (xs : List X) → ((x : X) → IsIn x xs → p x ≡ true) → list_all p xs ≡ true
all-in p [] all = refl
all-in p (x ∷ xs) all = rw (all x (inl refl), all-in p xs (λ y m. all y (inr m))) refl

in-all : {X : Type 0} (p : X → Bool) (xs : List X) → list_all p xs ≡ true → (x : X) → IsIn x xs → p x ≡ true
in-all p [] h x m = absurd m
in-all p (y ∷ ys) h x (inl e) = ap p e ∙ (both_hold (p y) (list_all p ys) h).0
in-all p (y ∷ ys) h x (inr m) = in-all p ys (both_hold (p y) (list_all p ys) h).1 x m

within-in : (n : ℕ) (rows : List Row) → AreWithin n rows → (r : Row) → IsIn r rows → r.id < n
within-in n [] within r m = absurd m
within-in n (row ∷ rows) within r (inl e) = subst (λ (x : Row). x.id < n) (sym e) within.1
within-in n (row ∷ rows) within r (inr m) = within-in n rows within.2 r m

-- Two rows with the same `_id` are the same row.
same-row : (rows : List Row) → IsAscending row_cmp rows → (a b : Row) → IsIn a rows → IsIn b rows → a.id ≡ b.id → a ≡ b
same-row [] up a b m n e = absurd m
same-row (row ∷ rows) up a b (inl i) (inl j) e = i ∙ sym j
same-row (row ∷ rows) up a b (inl i) (inr n) e =
    absurd (below_other row b (below_in row_cmp row b rows up.0 n) (ap (λ (r : Row). r.id) (sym i) ∙ e))
same-row (row ∷ rows) up a b (inr m) (inl j) e =
    absurd (below_other row a (below_in row_cmp row a rows up.0 m) (ap (λ (r : Row). r.id) (sym j) ∙ sym e))
same-row (row ∷ rows) up a b (inr m) (inr n) e = same-row rows up.1 a b m n e

id_same : (a b : ℕ) → is_eq (nat_cmp a b) ≡ true → a ≡ b
id_same a b h = grind (arith, nat_tests, unsigned_tied)

id_itself : (a : ℕ) → (a == a) ≡ true
id_itself a = grind (arith, nat_tests)

id_is : (a b : ℕ) → (a == b) ≡ true → a ≡ b
id_is a b h = grind (arith, nat_tests)

-- The row that is found by an `_id` is the one in the list.
at-in : (rows : List Row) (r : Row) → IsIn r rows → IsAscending row_cmp rows → row_at r.id rows ≡ Some r
at-in rows r m up =
    find-least row_cmp (has_id r.id) r rows up m (id_itself r.id)
    (λ z n t. least z n t)
  where
    least : (z : Row) → IsIn z rows → has_id r.id z ≡ true → is_lt (row_cmp z r) ≡ false
    least z n t =
        let same : z ≡ r = same-row rows up z r n m (id_is z.id r.id t) in
        ap is_lt (ap (λ x. row_cmp x r) same ∙ tied_itself row_cmp_total r)

-- ---- what a record keeps

-- Each row was there before, or one of the records wrote it.
abbrev pub Stems : List Row → Worked → Type 0
Stems old work = (r : Row) → IsIn r work.rows → IsIn r old ⊎ (list_any (λ i. i == r.id) work.written ≡ true)

-- A key that a row had is still the key of a row.
abbrev pub KeepsKeys : List ℕ → List Row → List Row → Type 0
KeepsKeys key old rows = (cells : List Cell) → key_exists key cells old ≡ true → key_exists key cells rows ≡ true

stems-write : (old : List Row) (work : Worked) (id : Option ℕ) (cells : List Cell) → Stems old work
    → Stems old (with_cells id cells work)
stems-write old work id cells stems r m =
    by (IsIn-upserted row_cmp (written_row (row_id id work.next_id) cells) r work.rows m)
  where
    own : ℕ
    own = row_id id work.next_id

    ends : (b c : Bool) → c ≡ true → (b || (c || false)) ≡ true
    ends true c h = refl
    ends false c h = rw h refl

    goes_on : (b c : Bool) → b ≡ true → (b || c) ≡ true
    goes_on b c h = rw h refl

    rest : IsIn r old ⊎ (list_any (λ i. i == r.id) work.written ≡ true)
        → IsIn r old ⊎ (list_any (λ i. i == r.id) (work.written ++ own ∷ []) ≡ true)
    rest (inl n) = inl n
    rest (inr w) = inr (list_any-append (λ i. i == r.id) work.written (own ∷ []) ∙ goes_on _ _ w)

    by : (r ≡ written_row own cells) ⊎ (IsIn r work.rows × (is_eq (row_cmp r (written_row own cells)) ≡ false))
        → IsIn r old ⊎ (list_any (λ i. i == r.id) (work.written ++ own ∷ []) ≡ true)
    by (inl e) =
        inr (list_any-append (λ i. i == r.id) work.written (own ∷ [])
        ∙ ends (list_any (λ i. i == r.id) work.written) (own == r.id)
        (ap (λ (x : Row). own == x.id) e ∙ id_itself own))
    by (inr n) = rest (stems r n.0)

alike_work : (p q : Worked) → ◌≡◌ {A = Result Worked TableFault} (Ok p) (Ok q) → p ≡ q
alike_work p q e = cc

pub put_record-stems : (method : Method) (schema : SchemaValue) (number : ℕ) (given : Json) (work after : Worked)
    (old : List Row) → Stems old work → put_record method schema number given work ≡ Ok after → Stems old after
put_record-stems method schema number given work after old stems h =
    let validated = bound-ok (validated_record method schema number given work.rows)
    (λ (t : Option ℕ × List Cell). Ok (with_cells t.0 t.1 work)) after h in
    subst (Stems old) (alike_work (with_cells validated.0.0 validated.0.1 work) after validated.2)
    (stems-write old work validated.0.0 validated.0.1 stems)

-- A row that replaces another has its key.
holds-write : (key : List ℕ) (work : Worked) (own : List Cell) (cells : List Cell) → IsNumbered work.rows work.next_id
    → own ≡ cells_at key cells → (id : Option ℕ) → id ≡ id_of (row_with key own work.rows)
    → KeepsKeys key work.rows (upserted row_cmp (written_row (row_id id work.next_id) cells) work.rows)
holds-write key work own cells numbered is_own id named lookup_key held =
    let some = any-found (has_cells key lookup_key) work.rows held in
    by some.0 some.1 some.2 (is_eq (row_cmp some.0 row)) refl
  where
    row : Row
    row = written_row (row_id id work.next_id) cells

    there : IsIn row (upserted row_cmp row work.rows)
    there = upserted-IsIn row_cmp row work.rows

    taken : (r : Row) → IsIn r work.rows → has_cells key lookup_key r ≡ true → r.id ≡ row.id → (o : Option Row)
        → row_with key own work.rows ≡ o → has_cells key lookup_key row ≡ true
    taken r m has same None e =
        let next : row.id ≡ work.next_id = ap (λ i. row_id i work.next_id) (named ∙ ap id_of e) in
        let lt : r.id < work.next_id = within-in work.next_id work.rows numbered.within r m in
        absurd (omega (arith, lt, same, next))
    taken r m has same (Some first) e =
        let found = found-with key own work.rows first numbered.ascending e in
        let id_first : row.id ≡ first.id = ap (λ i. row_id i work.next_id) (named ∙ ap id_of e) in
        let one : r ≡ first = same-row work.rows numbered.ascending r first m found.0 (same ∙ id_first) in
        let has_lookup_key : cells_at key r.cells ≡ lookup_key = cells-is (cells_at key r.cells) lookup_key has in
        let has_own : cells_at key first.cells ≡ own = cells-is (cells_at key first.cells) own found.1 in
        let equal : cells_at key cells ≡ lookup_key =
        sym is_own ∙ sym has_own ∙ ap (λ (x : Row). cells_at key x.cells) (sym one) ∙ has_lookup_key in
        ap (same_cells (cells_at key cells)) (sym equal) ∙ cells-itself (cells_at key cells)

    by : (r : Row) → IsIn r work.rows → has_cells key lookup_key r ≡ true → (b : Bool) → is_eq (row_cmp r row) ≡ b
        → key_exists key lookup_key (upserted row_cmp row work.rows) ≡ true
    by r m has true e =
        found-any (has_cells key lookup_key) row (upserted row_cmp row work.rows) there
        (taken r m has (id_same r.id row.id e) (row_with key own work.rows) refl)
    by r m has false e =
        found-any (has_cells key lookup_key) r (upserted row_cmp row work.rows)
        (upserted-IsIn_other row_cmp row r work.rows m e) has

pub put_record-holds : (method : Method) (schema : SchemaValue) (number : ℕ) (given : Json) (work after : Worked)
    (old : List Row) → IsNumbered work.rows work.next_id → KeepsKeys schema.key old work.rows
    → put_record method schema number given work ≡ Ok after → KeepsKeys schema.key old after.rows
put_record-holds method schema number given work after old numbered holds h =
    let own = key_of schema given in
    let row = row_with schema.key own work.rows in
    let validated = bound-ok (validated_record method schema number given work.rows)
    (λ (t : Option ℕ × List Cell). Ok (with_cells t.0 t.1 work)) after h in
    let parts = validated_against-parts method schema number given row work.rows validated.0 validated.1 in
    let is_own : own ≡ cells_at schema.key validated.0.1 =
    own_key number schema.fields (kept_cells method row) given validated.0.1 parts.cells schema.key parts.key
    (keeps_none method schema.key own work.rows) in
    let now = holds-write schema.key work own validated.0.1 numbered is_own validated.0.0 parts.id in
    subst (λ (w : Worked). KeepsKeys schema.key old w.rows)
    (alike_work (with_cells validated.0.0 validated.0.1 work) after validated.2)
    (λ cells held. now cells (holds cells held))

-- ---- the self references after a batch

-- A check in turn checked each record.
checked-each : {A : Type 0} (p : A → Bool) (f : ℕ → A → Unit {0} → Result (Unit {0}) TableFault)
    → ((n : ℕ) (x : A) (u : Unit {0}) → f n x tt ≡ Ok u → p x ≡ true) → (n : ℕ) (xs : List A) (u : Unit {0})
    → in_turn f n xs tt ≡ Ok u → (x : A) → IsIn x xs → p x ≡ true
checked-each p f says n [] u h x m = absurd m
checked-each p f says n (y ∷ ys) u h x (inl e) =
    let first = bound-ok (f n y tt) (in_turn f (n + 1) ys) u h in
    ap p e ∙ says n y first.0 first.1
checked-each p f says n (y ∷ ys) u h x (inr m) =
    let first = bound-ok (f n y tt) (in_turn f (n + 1) ys) u h in
    checked-each p f says (n + 1) ys u first.2 x m

in-written : (id : ℕ) (written : List ℕ) → list_any (λ i. i == id) written ≡ true → IsIn id written
in-written id [] h = absurd (cc)
in-written id (i ∷ written) h = by (in-written id written) (i == id) refl h
  where
    by : (list_any (λ j. j == id) written ≡ true → IsIn id written) → (b : Bool) → (i == id) ≡ b
        → (b || list_any (λ j. j == id) written) ≡ true → IsIn id (i ∷ written)
    by more true e s = inl (sym (id_is i id e))
    by more false e s = inr (more s)

held_at : (columns key : List ℕ) (rows changed : List Row) (n id : ℕ) (u : Unit {0})
    → written_checked columns key rows changed n id tt ≡ Ok u
    → not (is_broken_at columns key rows (row_at id changed)) ≡ true
held_at columns key rows changed n id u h = by (is_broken_at columns key rows (row_at id changed)) h
  where
    by : (b : Bool) → (if b then Err (fault.Foreign n) else Ok tt) ≡ Ok u → not b ≡ true
    by true s = absurd (cc)
    by false s = refl

self_held : (key : List ℕ) (old rows : List Row) (written : List ℕ) → IsAscending row_cmp rows
    → ((r : Row) → IsIn r rows → IsIn r old ⊎ (list_any (λ i. i == r.id) written ≡ true)) → KeepsKeys key old rows
    → (n : ℕ) (foreign : Foreign) (u : Unit {0}) → keeps_self_reference key old foreign ≡ true
    → self_reference_checked key rows written n foreign tt ≡ Ok u → keeps_self_reference key rows foreign ≡ true
self_held key old rows written up stems holds n foreign u was h = by (is_self foreign) was h
  where
    columns : List ℕ
    columns = foreign.fields

    of_old : (r : Row) → (a b c : Bool) → (b ≡ true → c ≡ true) → not (a && not b) ≡ true → not (a && not c) ≡ true
    of_old r false b c on s = refl
    of_old r true true c on s = ap (λ x. not (not x)) (on refl)
    of_old r true false c on s = absurd (cc)

    each : list_all (λ row. not (is_broken columns key old row)) old ≡ true
        → foreign_checked columns key rows rows written ≡ Ok u → (r : Row) → IsIn r rows
        → IsIn r old ⊎ (list_any (λ i. i == r.id) written ≡ true) → not (is_broken columns key rows r) ≡ true
    each were checked r m (inl k) =
        of_old r (refers columns r) (key_exists key (cells_at columns r.cells) old)
        (key_exists key (cells_at columns r.cells) rows) (holds (cells_at columns r.cells))
        (in-all (λ row. not (is_broken columns key old row)) old were r k)
    each were checked r m (inr w) =
        ap (λ o. not (is_broken_at columns key rows o)) (sym (at-in rows r m up))
        ∙ checked-each (λ id. not (is_broken_at columns key rows (row_at id rows)))
        (written_checked columns key rows rows)
        (held_at columns key rows rows) 1 written u checked r.id (in-written r.id written w)

    by : (b : Bool) → (not b || list_all (λ row. not (is_broken columns key old row)) old) ≡ true
        → (if b then foreign_checked columns key rows rows written else Ok tt) ≡ Ok u
        → (not b || list_all (λ row. not (is_broken columns key rows row)) rows) ≡ true
    by true were checked =
        all-in (λ row. not (is_broken columns key rows row)) rows (λ r m. each were checked r m (stems r m))
    by false were checked = refl

pub self_references-held : (key : List ℕ) (old rows : List Row) (written : List ℕ) → IsAscending row_cmp rows
    → ((r : Row) → IsIn r rows → IsIn r old ⊎ (list_any (λ i. i == r.id) written ≡ true)) → KeepsKeys key old rows
    → (n : ℕ) (foreigns : List Foreign) (u : Unit {0}) → list_all (keeps_self_reference key old) foreigns ≡ true
    → in_turn (self_reference_checked key rows written) n foreigns tt ≡ Ok u
    → list_all (keeps_self_reference key rows) foreigns ≡ true
self_references-held key old rows written up stems holds n [] u were h = refl
self_references-held key old rows written up stems holds n (foreign ∷ foreigns) u were h =
    let parts = both_hold (keeps_self_reference key old foreign) (list_all (keeps_self_reference key old) foreigns)
    were in
    let first = bound-ok (self_reference_checked key rows written n foreign tt)
    (in_turn (self_reference_checked key rows written) (n + 1) foreigns)
    u h in
    rw (
      self_held key old rows written up stems holds n foreign first.0 parts.0 first.1,
      self_references-held key old rows written up stems holds (n + 1) foreigns u parts.1 first.2,
    ) refl

-- ---- the self references after a removal

pub in-map : {A B : Type 0} (f : A → B) (x : A) (xs : List A) → IsIn x xs → IsIn (f x) (map f xs)
in-map f x [] m = absurd m
in-map f x (y ∷ ys) (inl e) = inl (ap f e)
in-map f x (y ∷ ys) (inr m) = inr (in-map f x ys m)

none_referred : (o : Option Row) (u : Unit {0}) → referred_fault o ≡ Ok u → o ≡ None
none_referred None u h = refl
none_referred (Some row) u h = absurd (cc)

delete_held : (key ids : List ℕ) (rows : List Row) (n : ℕ) (foreign : Foreign) (u : Unit {0})
    → keeps_self_reference key rows foreign ≡ true
    → self_reference_restricted (removed_keys key ids rows) (cut_rows ids rows) n foreign tt ≡ Ok u
    → keeps_self_reference key (cut_rows ids rows) foreign ≡ true
delete_held key ids rows n foreign u was h = by (is_self foreign) was h
  where
    columns : List ℕ
    columns = foreign.fields

    stay : List Row
    stay = cut_rows ids rows

    -- The row that is referred to remains, since no deleted row is referred to.
    stays : (r : Row) → IsIn r stay → refers columns r ≡ true
        → find (λ k. list_any (refers_to columns k) stay) (removed_keys key ids rows) ≡ None
        → (k : Row) → IsIn k rows → has_cells key (cells_at columns r.cells) k ≡ true → (b : Bool)
        → is_among ids k.id ≡ b → key_exists key (cells_at columns r.cells) stay ≡ true
    stays r m ref none k at has true e =
        let gone : IsIn (key_row key k) (removed_keys key ids rows) =
        in-map (key_row key) k (filter (λ (row : Row). is_among ids row.id) rows)
        (filter-IsIn (λ (row : Row). is_among ids row.id) k rows at e) in
        let unreferred : list_any (refers_to columns (key_row key k)) stay ≡ false =
        found-nothing (λ q. list_any (refers_to columns q) stay) (removed_keys key ids rows) none
        (key_row key k) gone in
        let same : cells_at key k.cells ≡ cells_at columns r.cells =
        cells-is (cells_at key k.cells) (cells_at columns r.cells) has in
        let here : refers_to columns (key_row key k) r ≡ true =
        rw (ref, same) (cells-itself (cells_at columns r.cells)) in
        true_false (list_any (refers_to columns (key_row key k)) stay)
        (found-any (refers_to columns (key_row key k)) r stay m here) unreferred
    stays r m ref none k at has false e =
        found-any (has_cells key (cells_at columns r.cells)) k stay
        (filter-IsIn (λ (row : Row). not (is_among ids row.id)) k rows at (ap not e)) has

    each : list_all (λ row. not (is_broken columns key rows row)) rows ≡ true
        → find (λ k. list_any (refers_to columns k) stay) (removed_keys key ids rows) ≡ None → (r : Row) → IsIn r stay
        → (b : Bool) → refers columns r ≡ b → not (is_broken columns key stay r) ≡ true
    each were none r m false e = ap (λ b. not (b && not (key_exists key (cells_at columns r.cells) stay))) e
    each were none r m true e =
        let at = (IsIn-filter (λ (row : Row). not (is_among ids row.id)) r rows m).0 in
        let held : key_exists key (cells_at columns r.cells) rows ≡ true =
        unbroken (refers columns r) (key_exists key (cells_at columns r.cells) rows) e
        (in-all (λ row. not (is_broken columns key rows row)) rows were r at) in
        let some = any-found (has_cells key (cells_at columns r.cells)) rows held in
        rw (e, stays r m e none some.0 some.1 some.2 (is_among ids some.0.id) refl) refl
      where
        unbroken : (b c : Bool) → b ≡ true → not (b && not c) ≡ true → c ≡ true
        unbroken true true t s = refl
        unbroken true false t s = absurd (cc)
        unbroken false c t s = absurd (cc)

    by : (b : Bool) → (not b || list_all (λ row. not (is_broken columns key rows row)) rows) ≡ true
        → (if b then referred_checked columns (removed_keys key ids rows) stay else Ok tt) ≡ Ok u
        → (not b || list_all (λ row. not (is_broken columns key stay row)) stay) ≡ true
    by true were checked =
        all-in (λ row. not (is_broken columns key stay row)) stay
        (λ r m. each were (none_referred (find (λ k. list_any (refers_to columns k) stay) (removed_keys key ids rows)) u
        checked) r m (refers columns r) refl)
    by false were checked = refl

pub delete-held : (key ids : List ℕ) (rows : List Row) (n : ℕ) (foreigns : List Foreign) (u : Unit {0})
    → list_all (keeps_self_reference key rows) foreigns ≡ true
    → in_turn (self_reference_restricted (removed_keys key ids rows) (cut_rows ids rows)) n foreigns tt ≡ Ok u
    → list_all (keeps_self_reference key (cut_rows ids rows)) foreigns ≡ true
delete-held key ids rows n [] u were h = refl
delete-held key ids rows n (foreign ∷ foreigns) u were h =
    let parts = both_hold (keeps_self_reference key rows foreign) (list_all (keeps_self_reference key rows) foreigns)
    were in
    let first = bound-ok (self_reference_restricted (removed_keys key ids rows) (cut_rows ids rows) n foreign tt)
    (in_turn (self_reference_restricted (removed_keys key ids rows) (cut_rows ids rows)) (n + 1) foreigns) u h in
    rw (
      delete_held key ids rows n foreign first.0 parts.0 first.1,
      delete-held key ids rows (n + 1) foreigns u parts.1 first.2,
    ) refl

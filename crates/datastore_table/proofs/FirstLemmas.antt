-- The first key that has the cells of a row, or that one of some rows refers to.
use Rattle.std.proofs.Common.{◌≡◌, ◌∙◌, ◌⊎◌, inl, inr, ◌<◌, ◌≤◌, ℕ, ◌+◌, ◌++◌, ◌==◌, Bool, true, false, ◌&&◌, ◌||◌, not, cond}
use Rattle.std.proofs.Common.{List, [], ◌∷◌, Option, Some, None, find, filter, map, ap, refl, subst, sym, arith, drop}
use Rattle.std.proofs.Common.{if◌then◌else◌, length, get_or, take}
use Rattle.std.proofs.lemmas.Bool.Decides.{nat_tests}
use Rattle.std.proofs.lemmas.List.Folds.{list_any-append}
use Rattle.std.proofs.lemmas.List.{take_more}
use Rattle.std.specs.Cmp.{IsTotalOrder}
use Rattle.std.specs.List.{list_any}
use Rattle.std.specs.Ordering.{is_lt, nat_cmp, ordering_reverse}
use Rattle.std.specs.declared.cmp.Ordering.{Ordering}
use Rattle.lexical_forms.specs.Digits.{is_empty}
use Rattle.portal_base.specs.Ordered.{IsAscending, IsBelowAll}
use Rattle.portal_base.proofs.Filtered.{IsAscending-filter}
use Rattle.portal_base.proofs.Unique.{IsIn, IsIn-Contains, below_in}
use Rattle.table_schema.specs.declared.cell.Cell.{Cell}
use Rattle.digest_index.specs.Index.{IndexState, IsUnder, entries_under, first_under, further_under}
use Rattle.digest_index.specs.declared.Further.{Further}
use Rattle.datastore_table.specs.declared.row.Row.{Row}
use Rattle.datastore_table.specs.Batch.{is_among, key_row, refers_to, removed_keys}
use Rattle.datastore_table.specs.Cells.{cells_at, has_null_at}
use Rattle.datastore_table.specs.Index.{digest_of}
use Rattle.datastore_table.specs.Keys.{is_key_at, is_key_of, is_key_under, only_key, AreFound, EntersKey, IsLedToKey}
use Rattle.datastore_table.specs.Put.{id_of}
use Rattle.datastore_table.specs.References.{refers}
use Rattle.datastore_table.specs.Rows.{earlier, has_id, row_at, row_cmp, row_cmp_total}
use Rattle.datastore_table.proofs.ApartLemmas.{any_map}
use Rattle.datastore_table.proofs.KeyLemmas.{cells-is}
use Rattle.datastore_table.proofs.LookupLemmas.{at_own}
use Rattle.datastore_table.proofs.Merged.{IsLeast, find-least, find-nothing, found-least, found-nothing}
use Rattle.datastore_table.proofs.ReferenceLemmas.{found-any}
use Rattle.datastore_table.proofs.RowLemmas.{both_hold, find-same}
use Rattle.datastore_table.proofs.StoreLemmas.{rest_of, split_rest}

or_true : (b : Bool) → (b || true) ≡ true
or_true true = refl
or_true false = refl

or_false : (b : Bool) → (b || false) ≡ b
or_false true = refl
or_false false = refl

and_false : (b : Bool) → (b && false) ≡ false
and_false true = refl
and_false false = refl

-- ---- the first of two

-- The first item that passes one of two tests is the lesser of those that pass each.
pub find-either : {X : Type 0} (cmp : X → X → Ordering) (o : IsTotalOrder cmp) (p q : X → Bool) (xs : List X)
    → IsAscending cmp xs → find (λ x. p x || q x) xs ≡ earlier cmp (find p xs) (find q xs)
find-either cmp o p q [] up = refl
find-either {X} cmp o p q (x ∷ xs) up = by (p x) (q x) (find-either cmp o p q xs up.1)
  where
    first : (r : Option X) → find q xs ≡ r → earlier cmp (Some x) r ≡ Some x
    first None e = refl
    first (Some b) e =
        ap (λ t. if t then Some b else Some x)
        (ap is_lt (o.antisymm b x ∙ ap ordering_reverse
        (below_in cmp x b xs up.0 (found-least cmp o q b xs up.1 e).is_there)))

    second : (r : Option X) → find p xs ≡ r → earlier cmp r (Some x) ≡ Some x
    second None e = refl
    second (Some a) e =
        ap (λ t. if t then Some x else Some a)
        (ap is_lt (below_in cmp x a xs up.0 (found-least cmp o p a xs up.1 e).is_there))

    alike : (t : Bool) → (if t then Some x else Some x) ≡ Some x
    alike true = refl
    alike false = refl

    by : (a b : Bool) → find (λ y. p y || q y) xs ≡ earlier cmp (find p xs) (find q xs)
        → cond (a || b) (Some x) (find (λ y. p y || q y) xs)
        ≡ earlier cmp (cond a (Some x) (find p xs)) (cond b (Some x) (find q xs))
    by true true more = sym (alike (is_lt (cmp x x)))
    by true false more = sym (first (find q xs) refl)
    by false true more = sym (second (find p xs) refl)
    by false false more = more

pub id_of-earlier : (a b : Option Row) → earlier nat_cmp (id_of a) (id_of b) ≡ id_of (earlier row_cmp a b)
id_of-earlier None b = refl
id_of-earlier (Some a) None = refl
id_of-earlier (Some a) (Some b) = by (is_lt (nat_cmp b.id a.id))
  where
    by : (t : Bool) → (if t then Some b.id else Some a.id) ≡ id_of (if t then Some b else Some a)
    by true = refl
    by false = refl

-- The first key that passes the test of one of some items, and of one more item.
pub find_more : {X : Type 0} (test : X → Row → Bool) (keys : List Row) → IsAscending row_cmp keys → (xs : List X) (k : ℕ)
    (x : X) → k < length xs → get_or xs k x ≡ x
    → earlier nat_cmp (id_of (find (λ key. list_any (λ y. test y key) (take k xs)) keys)) (id_of (find (test x) keys))
    ≡ id_of (find (λ key. list_any (λ y. test y key) (take (k + 1) xs)) keys)
find_more {X} test keys up xs k x lt is =
    id_of-earlier (find one keys) (find (test x) keys)
    ∙ ap id_of (sym (find-either row_cmp row_cmp_total one (test x) keys up)
    ∙ find-same (λ key. one key || test x key) (λ key. list_any (λ y. test y key) (take (k + 1) xs)) each keys)
  where
    one : Row → Bool
    one = λ key. list_any (λ y. test y key) (take k xs)

    longer : take (k + 1) xs ≡ take k xs ++ x ∷ []
    longer = take_more xs k x lt ∙ ap (λ y. take k xs ++ y ∷ []) is

    each : (key : Row) → (one key || test x key) ≡ list_any (λ y. test y key) (take (k + 1) xs)
    each key =
        ap (λ b. one key || b) (sym (or_false (test x key)))
        ∙ sym (list_any-append (λ y. test y key) (take k xs) (x ∷ []))
        ∙ sym (ap (list_any (λ y. test y key)) longer)

find-same_in : (p q : Row → Bool) (xs : List Row) → ((x : Row) → IsIn x xs → p x ≡ q x) → find p xs ≡ find q xs
find-same_in p q [] e = refl
find-same_in p q (x ∷ xs) e =
    ap (λ b. cond b (Some x) (find p xs)) (e x (inl refl))
    ∙ ap (cond (q x) (Some x)) (find-same_in p q xs (λ z m. e z (inr m)))

-- ---- by an `_id`

-- The key with an `_id` is the only one with it.
pub key_at_is : (columns : List ℕ) (cells : List Cell) (id : ℕ) (keys : List Row) → IsAscending row_cmp keys
    → find (is_key_at columns cells id) keys ≡ only_key columns cells (row_at id keys)
key_at_is columns cells id keys up = by (row_at id keys) refl
  where
    p : Row → Bool
    p = is_key_of columns cells

    q : Row → Bool
    q = is_key_at columns cells id

    same_id : (a b : ℕ) → (a == b) ≡ true → a ≡ b
    same_id a b h = grind (arith, nat_tests)

    by : (o : Option Row) → row_at id keys ≡ o → find q keys ≡ only_key columns cells o
    by None e = find-nothing q keys (λ z m. ap (λ b. b && p z) (found-nothing (has_id id) keys e z m))
    by (Some r) e = each (p r) refl
      where
        least : IsLeast row_cmp (has_id id) keys r
        least = found-least row_cmp row_cmp_total (has_id id) r keys up e

        only : (z : Row) → IsIn z keys → has_id id z ≡ true → z ≡ r
        only z m h =
            let own : row_at id keys ≡ Some z =
            ap (λ i. row_at i keys) (sym (same_id z.id id h)) ∙ at_own z keys up m in
            cc

        none : p r ≡ false → (z : Row) → IsIn z keys → (b : Bool) → has_id id z ≡ b → q z ≡ false
        none fails z m true h =
            ap (λ b. has_id id z && b) (ap p (only z m h) ∙ fails) ∙ and_false (has_id id z)
        none fails z m false h = ap (λ b. b && p z) h

        each : (b : Bool) → p r ≡ b → find q keys ≡ (if b then Some r else None)
        each true has =
            find-least row_cmp q r keys up least.is_there (rw (least.passes, has) refl)
            (λ z m also. least.least z m (both_hold (has_id id z) (p z) also).0)
        each false fails = find-nothing q keys (λ z m. none fails z m (has_id id z) refl)

-- ---- by the cells

filled : (columns : List ℕ) (cells : List Cell) → is_empty columns ≡ false → is_empty (cells_at columns cells) ≡ false
filled [] cells some = absurd (cc)
filled (column ∷ columns) cells some = refl

-- The first key that has the cells is the first among the candidates.
pub first_found : (columns : List ℕ) (cells : List Cell) (keys : List Row) (index : IndexState ℕ) → AreFound keys index
    → is_empty columns ≡ false
    → earlier nat_cmp
    (id_of (find (is_key_under columns cells (first_under (digest_of [] (cells_at columns cells)) index)) keys))
    (id_of (find (λ key. list_any (λ (e : Further ℕ). is_key_at columns cells e.number key)
    (entries_under (digest_of [] (cells_at columns cells)) index.further)) keys))
    ≡ id_of (find (is_key_of columns cells) keys)
first_found columns cells keys index found some =
    id_of-earlier (find under keys) (find among keys)
    ∙ ap id_of (sym (find-either row_cmp row_cmp_total under among keys found.ascending)
    ∙ find-same_in (λ key. under key || among key) p keys (λ key m. each key m (p key) refl))
  where
    own : List Cell
    own = cells_at columns cells

    p : Row → Bool
    p = is_key_of columns cells

    beside : List (Further ℕ)
    beside = entries_under (digest_of [] own) index.further

    under : Row → Bool
    under = is_key_under columns cells (first_under (digest_of [] own) index)

    among : Row → Bool
    among = λ key. list_any (λ (e : Further ℕ). is_key_at columns cells e.number key) beside

    itself : (a : ℕ) → (a == a) ≡ true
    itself a = grind (arith, nat_tests)

    unfit : (key : Row) → p key ≡ false → (id : ℕ) → is_key_at columns cells id key ≡ false
    unfit key fails id = ap (λ b. has_id id key && b) fails ∙ and_false (has_id id key)

    none_under : (key : Row) → p key ≡ false → (o : Option ℕ) → is_key_under columns cells o key ≡ false
    none_under key fails None = refl
    none_under key fails (Some id) = unfit key fails id

    none_among : (key : Row) → p key ≡ false → (es : List (Further ℕ))
        → list_any (λ (e : Further ℕ). is_key_at columns cells e.number key) es ≡ false
    none_among key fails [] = refl
    none_among key fails (e ∷ es) =
        ap (λ b. b || list_any (λ (f : Further ℕ). is_key_at columns cells f.number key) es) (unfit key fails e.number)
        ∙ none_among key fails es

    fit : (key : Row) → p key ≡ true → is_key_at columns cells key.id key ≡ true
    fit key has = rw (itself key.id, has) refl

    candidate : (key : Row) → IsIn key keys → p key ≡ true → IsUnder index (digest_of [] own) key.id
    candidate key m has =
        let same : own ≡ key.cells = cells-is own key.cells has in
        subst (λ cs. IsUnder index (digest_of [] cs) key.id) (sym same)
        (found.led key m (ap is_empty (sym same) ∙ filled columns cells some))

    there : (key : Row) → p key ≡ true → IsUnder index (digest_of [] own) key.id → (under key || among key) ≡ true
    there key has (inl e) =
        ap (λ b. b || among key) (ap (λ o. is_key_under columns cells o key) e ∙ fit key has)
    there key has (inr m) =
        ap (λ b. under key || b)
        (sym (any_map (λ (e : Further ℕ). e.number) (λ id. is_key_at columns cells id key) beside)
        ∙ found-any (λ id. is_key_at columns cells id key) key.id (further_under (digest_of [] own) index.further)
        (IsIn-Contains key.id (further_under (digest_of [] own) index.further) m) (fit key has))
        ∙ or_true (under key)

    each : (key : Row) → IsIn key keys → (b : Bool) → p key ≡ b → (under key || among key) ≡ p key
    each key m true has = there key has (candidate key m has) ∙ sym has
    each key m false fails =
        ap (λ b. b || among key) (none_under key fails (first_under (digest_of [] own) index))
        ∙ none_among key fails beside ∙ sym fails

-- ---- by a row that refers

joined : (a b c : Bool) → (a && (b && c)) ≡ ((a && b) && c)
joined true b c = refl
joined false b c = refl

-- The key that a remaining row refers to is the one that has its cells.
pub referred_first : (columns ids : List ℕ) (row : Row) (keys : List Row)
    → (not (is_among ids row.id) && refers columns row) ≡ true
    → find (λ key. not (is_among ids row.id) && refers_to columns key row) keys
    ≡ find (is_key_of columns row.cells) keys
referred_first columns ids row keys h =
    find-same (λ key. not (is_among ids row.id) && refers_to columns key row) (is_key_of columns row.cells)
    (λ key. joined (not (is_among ids row.id)) (refers columns row) (is_key_of columns row.cells key)
    ∙ ap (λ b. b && is_key_of columns row.cells key) h) keys

pub referred_none : (columns ids : List ℕ) (row : Row) (keys : List Row)
    → (not (is_among ids row.id) && refers columns row) ≡ false
    → find (λ key. not (is_among ids row.id) && refers_to columns key row) keys ≡ None
referred_none columns ids row keys h =
    find-nothing (λ key. not (is_among ids row.id) && refers_to columns key row) keys
    (λ key m. joined (not (is_among ids row.id)) (refers columns row) (is_key_of columns row.cells key)
    ∙ ap (λ b. b && is_key_of columns row.cells key) h)

pub referred_some : (columns ids : List ℕ) (row : Row) → (not (is_among ids row.id) && refers columns row) ≡ true
    → is_empty columns ≡ false
referred_some columns ids row h =
    by (is_empty columns) (has_null_at columns row.cells)
    (both_hold (not (is_among ids row.id)) (refers columns row) h).1
  where
    by : (a b : Bool) → not (a || b) ≡ true → a ≡ false
    by true b t = absurd (cc)
    by false b t = refl

-- ---- the index of keys

pub key_entered : (keys : List Row) (k : ℕ) (key : Row) (old new : IndexState ℕ) → k < length keys → key ≡ get_or keys k key
    → ((z : Row) → IsIn z keys → IsIn z (drop k keys) ⊎ IsLedToKey old z) → EntersKey old new key
    → (z : Row) → IsIn z keys → IsIn z (drop (k + 1) keys) ⊎ IsLedToKey new z
key_entered keys k key old new lt is led enters z m = by (led z m)
  where
    by : IsIn z (drop k keys) ⊎ IsLedToKey old z → IsIn z (drop (k + 1) keys) ⊎ IsLedToKey new z
    by (inl rest) = split (split_rest keys k key z lt is rest)
      where
        split : (z ≡ key) ⊎ IsIn z (drop (k + 1) keys) → IsIn z (drop (k + 1) keys) ⊎ IsLedToKey new z
        split (inl same) = inr (subst (λ (x : Row). IsLedToKey new x) (sym same) enters.led)
        split (inr later) = inl later
    by (inr there) = inr (λ some. enters.kept _ z.id (there some))

pub key_room : (keys : List Row) (k : ℕ) (key : Row) (old new : ℕ) → k < length keys → key ≡ get_or keys k key
    → length (drop k keys) ≤ old → old ≤ new + 1 → length (drop (k + 1) keys) ≤ new
key_room keys k key old new lt is room step = omega (arith, ap length (rest_of keys k key lt is))

-- ---- the keys of deleted rows

below_keys : (key : List ℕ) (row : Row) (rows : List Row) → IsBelowAll row_cmp row rows
    → IsBelowAll row_cmp (key_row key row) (map (key_row key) rows)
below_keys key row [] below = tt
below_keys key row (r ∷ rows) below = (below.0, below_keys key row rows below.1)

keys_ascend : (key : List ℕ) (rows : List Row) → IsAscending row_cmp rows
    → IsAscending row_cmp (map (key_row key) rows)
keys_ascend key [] up = tt
keys_ascend key (row ∷ rows) up = (below_keys key row rows up.0, keys_ascend key rows up.1)

pub removed_ascend : (key ids : List ℕ) (rows : List Row) → IsAscending row_cmp rows
    → IsAscending row_cmp (removed_keys key ids rows)
removed_ascend key ids rows up =
    keys_ascend key (filter (λ row. is_among ids row.id) rows)
    (IsAscending-filter row_cmp (λ row. is_among ids row.id) rows up)

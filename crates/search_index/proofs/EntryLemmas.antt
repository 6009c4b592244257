-- The entries of an index, by the rows of its table.
use Rattle.std.proofs.Common.{◌≡◌, ◌∙◌, ◌<◌, ◌≤◌, ℕ, zero, suc, ◌+◌, Bool, true, false, cond, List, [], ◌∷◌, ◌++◌}
use Rattle.std.proofs.Common.{refl, sym, subst, ap, ap₂, length, arith, Option, Some, None, slice_set}
use Rattle.std.specs.Prelude.{map, filter, not, IfNone, IfSome}
use Rattle.std.specs.Ordering.{is_eq, is_lt, nat_cmp}
use Rattle.std.proofs.lemmas.List.{length-set}
use Rattle.portal_base.specs.Ordered.{dropped, inserted, upserted}
use Rattle.packages.specs.Shelf.{ShelfState, number_cmp, with_package}
use Rattle.packages.specs.Shelf as shelves
use Rattle.packages.specs.declared.package.Package.{Package}
use Rattle.search_index.specs.Demands.{Means, meets}
use Rattle.search_index.specs.Index.{Entry, IndexState, StandsFor, at_number, entries_from, entry_cmp, entry_of, with_terms}
use Rattle.search_index.specs.Index.{numbers_selected, without_number}
use Rattle.search_index.specs.Items.{matches}
use Rattle.search_index.specs.Terms.{terms_of}
use Rattle.search_index.specs.declared.demands.Demands.{Demands}
use Rattle.search_index.specs.declared.item.Item.{Item}

-- the rows of a table
abbrev pub Rows : Type 0
Rows = List (Option (List (List ℕ)))

not_equal : (n m : ℕ) → m < n → is_eq (nat_cmp n m) ≡ false
not_equal n m lt = grind (arith, lt)

not_equal_above : (n m : ℕ) → n < m → is_eq (nat_cmp n m) ≡ false
not_equal_above n m lt = grind (arith, lt)

equal : (n m : ℕ) → m ≡ n → is_eq (nat_cmp n m) ≡ true
equal n m same = grind (arith, same)

not_less : (n m : ℕ) → m < n → is_lt (nat_cmp n m) ≡ false
not_less n m lt = grind (arith, lt)

less : (n m : ℕ) → n < m → is_lt (nat_cmp n m) ≡ true
less n m lt = grind (arith, lt)

kept : {X : Type 0} (b : Bool) (x : X) (xs ys : List X) → b ≡ false → xs ≡ ys → cond (not b) (x ∷ xs) xs ≡ x ∷ ys
kept b x xs ys e same = rw e (ap (λ z. x ∷ z) same)

-- Nothing is dropped at a number before the first row.
none_dropped : (n m : ℕ) (rows : Rows) → m < n → dropped (at_number m) (entries_from n rows) ≡ entries_from n rows
none_dropped n m [] lt = refl
none_dropped n m (None ∷ rows) lt = none_dropped (n + 1) m rows (omega (arith, lt))
none_dropped n m (Some t ∷ rows) lt =
    kept (is_eq (nat_cmp n m)) (n, t) (dropped (at_number m) (entries_from (n + 1) rows)) (entries_from (n + 1) rows)
    (not_equal n m lt) (none_dropped (n + 1) m rows (omega (arith, lt)))

-- Nothing is dropped at a number after the last row.
pub none_dropped_past : (n m : ℕ) (rows : Rows) → n + length rows ≤ m
    → dropped (at_number m) (entries_from n rows) ≡ entries_from n rows
none_dropped_past n m [] past = refl
none_dropped_past n m (None ∷ rows) past = none_dropped_past (n + 1) m rows (omega (arith, past))
none_dropped_past n m (Some t ∷ rows) past =
    kept (is_eq (nat_cmp n m)) (n, t) (dropped (at_number m) (entries_from (n + 1) rows)) (entries_from (n + 1) rows)
    (not_equal_above n m (omega (arith, past))) (none_dropped_past (n + 1) m rows (omega (arith, past)))

put_first : (n m : ℕ) (terms : List (List ℕ)) (rows : Rows) → m < n
    → inserted entry_cmp (m, terms) (entries_from n rows) ≡ (m, terms) ∷ entries_from n rows
put_first n m terms [] lt = refl
put_first n m terms (None ∷ rows) lt = put_first (n + 1) m terms rows (omega (arith, lt))
put_first n m terms (Some t ∷ rows) lt = rw (not_less n m lt) refl

-- Terms that are set in a row are upserted.
pub entered : (n k m : ℕ) (terms : List (List ℕ)) (rows : Rows) → m ≡ n + k → k < length rows
    → entries_from n (slice_set rows k (Some terms)) ≡ upserted entry_cmp (m, terms) (entries_from n rows)
entered n k m terms [] at within = absurd (omega (arith, within))
entered n zero m terms (None ∷ rows) at within =
    sym (ap (inserted entry_cmp (m, terms)) (none_dropped (n + 1) m rows (omega (arith, at)))
    ∙ put_first (n + 1) m terms rows (omega (arith, at)) ∙ ap (λ z. (z, terms) ∷ entries_from (n + 1) rows) here)
  where
    here : m ≡ n
    here = omega (arith, at)
entered n zero m terms (Some t ∷ rows) at within =
    sym (ap (inserted entry_cmp (m, terms)) (gone ∙ none_dropped (n + 1) m rows (omega (arith, at)))
    ∙ put_first (n + 1) m terms rows (omega (arith, at)) ∙ ap (λ z. (z, terms) ∷ entries_from (n + 1) rows) here)
  where
    here : m ≡ n
    here = omega (arith, at)

    gone : dropped (at_number m) ((n, t) ∷ entries_from (n + 1) rows)
        ≡ dropped (at_number m) (entries_from (n + 1) rows)
    gone =
        ap (λ b. cond (not b) ((n, t) ∷ dropped (at_number m) (entries_from (n + 1) rows))
        (dropped (at_number m) (entries_from (n + 1) rows))) (equal n m here)
entered n (suc k) m terms (None ∷ rows) at within =
    entered (n + 1) k m terms rows (omega (arith, at)) (omega (arith, within))
entered n (suc k) m terms (Some t ∷ rows) at within =
    ap (λ z. (n, t) ∷ z) (entered (n + 1) k m terms rows (omega (arith, at)) (omega (arith, within)))
    ∙ sym (ap (inserted entry_cmp (m, terms))
    (kept (is_eq (nat_cmp n m)) (n, t) (dropped (at_number m) (entries_from (n + 1) rows)) _
    (not_equal_above n m (omega (arith, at))) refl)
    ∙ rw (less n m (omega (arith, at))) refl)

-- A row that is cleared is dropped.
pub cleared : (n k m : ℕ) (rows : Rows) → m ≡ n + k → k < length rows
    → entries_from n (slice_set rows k None) ≡ dropped (at_number m) (entries_from n rows)
cleared n k m [] at within = absurd (omega (arith, within))
cleared n zero m (None ∷ rows) at within = sym (none_dropped (n + 1) m rows (omega (arith, at)))
cleared n zero m (Some t ∷ rows) at within = sym (gone ∙ none_dropped (n + 1) m rows (omega (arith, at)))
  where
    here : m ≡ n
    here = omega (arith, at)

    gone : dropped (at_number m) ((n, t) ∷ entries_from (n + 1) rows)
        ≡ dropped (at_number m) (entries_from (n + 1) rows)
    gone =
        ap (λ b. cond (not b) ((n, t) ∷ dropped (at_number m) (entries_from (n + 1) rows))
        (dropped (at_number m) (entries_from (n + 1) rows))) (equal n m here)
cleared n (suc k) m (None ∷ rows) at within =
    cleared (n + 1) k m rows (omega (arith, at)) (omega (arith, within))
cleared n (suc k) m (Some t ∷ rows) at within =
    ap (λ z. (n, t) ∷ z) (cleared (n + 1) k m rows (omega (arith, at)) (omega (arith, within)))
    ∙ sym (kept (is_eq (nat_cmp n m)) (n, t) (dropped (at_number m) (entries_from (n + 1) rows)) _
    (not_equal_above n m (omega (arith, at))) refl)

-- An empty row more changes no entries.
pub empty_row_added : (n : ℕ) (rows : Rows) → entries_from n (rows ++ None ∷ []) ≡ entries_from n rows
empty_row_added n [] = refl
empty_row_added n (None ∷ rows) = empty_row_added (n + 1) rows
empty_row_added n (Some t ∷ rows) = ap (λ z. (n, t) ∷ z) (empty_row_added (n + 1) rows)

-- ---- the entries of a shelf

map_inserted : (e : ℕ × Package) (es : List (ℕ × Package))
    → inserted entry_cmp (entry_of e) (map entry_of es) ≡ map entry_of (inserted number_cmp e es)
map_inserted e [] = refl
map_inserted e (f ∷ es) = by (is_lt (nat_cmp f.0 e.0)) (map_inserted e es)
  where
    by : (b : Bool) → inserted entry_cmp (entry_of e) (map entry_of es) ≡ map entry_of (inserted number_cmp e es)
        → cond b (entry_of f ∷ inserted entry_cmp (entry_of e) (map entry_of es))
        (entry_of e ∷ entry_of f ∷ map entry_of es)
        ≡ map entry_of (cond b (f ∷ inserted number_cmp e es) (e ∷ f ∷ es))
    by true more = ap (λ z. entry_of f ∷ z) more
    by false more = refl

pub map_dropped : (n : ℕ) (es : List (ℕ × Package))
    → dropped (at_number n) (map entry_of es) ≡ map entry_of (dropped (shelves.at_number n) es)
map_dropped n [] = refl
map_dropped n (f ∷ es) = by (is_eq (nat_cmp f.0 n)) (map_dropped n es)
  where
    by : (b : Bool) → dropped (at_number n) (map entry_of es) ≡ map entry_of (dropped (shelves.at_number n) es)
        → cond (not b) (entry_of f ∷ dropped (at_number n) (map entry_of es)) (dropped (at_number n) (map entry_of es))
        ≡ map entry_of (cond (not b) (f ∷ dropped (shelves.at_number n) es) (dropped (shelves.at_number n) es))
    by true more = more
    by false more = ap (λ z. entry_of f ∷ z) more

pub map_upserted : (n : ℕ) (d : Package) (es : List (ℕ × Package))
    → upserted entry_cmp (entry_of (n, d)) (map entry_of es) ≡ map entry_of (upserted number_cmp (n, d) es)
map_upserted n d es =
    ap (inserted entry_cmp (entry_of (n, d))) (map_dropped n es) ∙ map_inserted (n, d) (dropped (shelves.at_number n) es)

-- ---- indexes that stand for shelves

pub stands_with : (n : ℕ) (terms : List (List ℕ)) (index changed : IndexState) → changed ≡ with_terms n terms index
    → (shelf : ShelfState) (d : Package) → terms ≡ terms_of d → StandsFor index shelf
    → StandsFor changed (with_package n d shelf)
stands_with n terms index changed is shelf d same stands =
    ap (λ (i : IndexState). i.entries) is
    ∙ ap₂ (λ (t : List (List ℕ)) es. upserted entry_cmp (n, t) es) same stands
    ∙ map_upserted n d shelf.entries

pub stands_without : (n : ℕ) (index changed : IndexState) → changed ≡ without_number n index → (shelf : ShelfState)
    → StandsFor index shelf → StandsFor changed (shelves.without_number n shelf)
stands_without n index changed is shelf stands =
    ap (λ (i : IndexState). i.entries) is ∙ ap (dropped (at_number n)) stands ∙ map_dropped n shelf.entries

-- ---- what is found

-- The numbers of the entries that pass are those of the datasets whose terms do.
pub found_among : (test : List (List ℕ) → Bool) (keeps : Package → Bool) → ((d : Package) → test (entry_of (0, d)).1 ≡ keeps d)
    → (es : List (ℕ × Package))
    → map (λ e. e.0) (filter (λ e. test e.1) (map entry_of es)) ≡ map (λ e. e.0) (filter (λ e. keeps e.1) es)
found_among test keeps same [] = refl
found_among test keeps same (f ∷ es) = by (test (entry_of f).1) (keeps f.1) (same f.1) (found_among test keeps same es)
  where
    rest : List ℕ
    rest = map (λ e. e.0) (filter (λ e. test e.1) (map entry_of es))

    by : (a b : Bool) → a ≡ b → rest ≡ map (λ e. e.0) (filter (λ e. keeps e.1) es)
        → map (λ e. e.0) (cond a (entry_of f ∷ filter (λ e. test e.1) (map entry_of es))
        (filter (λ e. test e.1) (map entry_of es)))
        ≡ map (λ e. e.0) (cond b (f ∷ filter (λ e. keeps e.1) es) (filter (λ e. keeps e.1) es))
    by true true e more = ap (λ z. f.0 ∷ z) more
    by false false e more = more
    by true false e more = absurd (cc)
    by false true e more = absurd (cc)

-- ---- the value of a table of rows

-- the index that these rows make
abbrev pub index_with : List Entry → ℕ → IndexState
index_with entries room = record { entries = entries; room = room }

abbrev pub index_of : Rows → IndexState
index_of rows = index_with (entries_from 0 rows) (length rows)

pub row_entered : (m : ℕ) (row : Option (List (List ℕ))) (rows : Rows) (index : IndexState) → index_of rows ≡ index
    → m < index.room → IfSome row (λ terms. index_of (slice_set rows m row) ≡ with_terms m terms index)
row_entered m None rows index is within = tt
row_entered m (Some terms) rows index is within =
    ap₂ index_with
    (entered 0 m m terms rows (omega arith) (subst (λ (v : IndexState). m < v.room) (sym is) within))
    (length-set rows m (Some terms))
    ∙ ap (with_terms m terms) is

pub row_cleared : (m : ℕ) (row : Option (List (List ℕ))) (rows : Rows) (index : IndexState) → index_of rows ≡ index
    → m < index.room → IfNone row (index_of (slice_set rows m row) ≡ without_number m index)
row_cleared m None rows index is within =
    ap₂ index_with (cleared 0 m m rows (omega arith) (subst (λ (v : IndexState). m < v.room) (sym is) within))
    (length-set rows m None)
    ∙ ap (without_number m) is
row_cleared m (Some terms) rows index is within = tt

pub row_past : (m : ℕ) (rows : Rows) (index : IndexState) → index_of rows ≡ index → length rows ≤ m
    → index ≡ without_number m index
row_past m rows index is past =
    sym is ∙ ap (λ e. index_with e (length rows)) (sym (none_dropped_past 0 m rows (omega (arith, past))))
    ∙ ap (without_number m) is

-- ---- the numbers that a walk over the rows selects

pub selected_are : (demands : Demands) (n : ℕ) (rows : Rows)
    → numbers_selected demands n rows ≡ map (λ e. e.0) (filter (λ e. meets demands e.1) (entries_from n rows))
selected_are demands n [] = refl
selected_are demands n (None ∷ rows) = selected_are demands (n + 1) rows
selected_are demands n (Some terms ∷ rows) = by (meets demands terms) (selected_are demands (n + 1) rows)
  where
    by : (b : Bool)
        → numbers_selected demands (n + 1) rows
        ≡ map (λ e. e.0) (filter (λ e. meets demands e.1) (entries_from (n + 1) rows))
        → (cond b (n ∷ []) [] ++ numbers_selected demands (n + 1) rows)
        ≡ map (λ e. e.0) (cond b ((n, terms) ∷ filter (λ e. meets demands e.1) (entries_from (n + 1) rows))
        (filter (λ e. meets demands e.1) (entries_from (n + 1) rows)))
    by true more = ap (λ z. n ∷ z) more
    by false more = more

-- Where the rows stand for a shelf, they are the numbers of the datasets that match.
pub found_are : (demands : Demands) (items : List Item) → Means demands items → (rows : Rows)
    (shelf : List (ℕ × Package)) → entries_from 0 rows ≡ map entry_of shelf
    → numbers_selected demands 0 rows ≡ map (λ e. e.0) (filter (λ e. matches items e.1) shelf)
found_are demands items means rows shelf stands =
    selected_are demands 0 rows
    ∙ ap (λ es. map (λ e. e.0) (filter (λ e. meets demands e.1) es)) stands
    ∙ found_among (meets demands) (matches items) (λ d. means (terms_of d)) shelf

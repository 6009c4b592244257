-- Distinct rows: the map has the digests of the first rows, and a repeated column makes no difference.
use Rattle.std.proofs.Common.{◌≡◌, ◌∙◌, ℕ, Bool, true, false, ◌||◌, ◌&&◌, cond, List, [], ◌∷◌, ◌++◌, Option, Some, None}
use Rattle.std.proofs.Common.{ap, append_assoc, append-nil, fold, map, refl, sym}
use mathlib.Core.Path.{fun_ext}
use Rattle.std.specs.Hash.DefaultHasher as sip
use Rattle.std.specs.Prelude.{is_some, nat_eq}
use Rattle.std.specs.List.{list_all, list_any}
use Rattle.std.proofs.lemmas.List.{map-append}
use Rattle.std.proofs.lemmas.List.Elements.{All-head, All-push, All-tail, All-weaker}
use Rattle.table_schema.specs.declared.cell.Cell.{Cell}
use Rattle.table_schema.specs.Order.{same_cell}
use Rattle.datastore_table.specs.declared.row.Row.{Row}
use Rattle.datastore_table.specs.Cells.{same_cells}
use Rattle.datastore_table.proofs.ApartLemmas.{any_map}
use Rattle.datastore_table.proofs.KeyLemmas.{cells-is}
use Rattle.datastore_query.specs.declared.column.Column.{Column}
use Rattle.datastore_query.specs.Column.{column_cell, projected}
use Rattle.datastore_query.specs.Distinct.{HaveDigests, are_alike, row_digest, with_cell}
use Rattle.datastore_query.specs.Query.{firsts, with_first}
use Rattle.datastore_query.specs.Repeats.{columns_once, is_same_column}
use Rattle.datastore_query.proofs.DecidingLemmas.{one_column}

abbrev HasDigest : List Column → (ℕ → Option ℕ) → Row → Type 0
HasDigest columns by_digest row = is_some (by_digest (row_digest columns row)) ≡ true

-- No row is like one whose digest isn't in the map.
pub not_kept : (columns : List Column) (first : List Row) (by_digest : ℕ → Option ℕ) (row : Row)
    → HaveDigests columns first by_digest → by_digest (row_digest columns row) ≡ None
    → list_any (are_alike columns row) first ≡ false
not_kept columns [] by_digest row all none = refl
not_kept columns (other ∷ first) by_digest row all none =
    by (are_alike columns row other) refl
    ∙ not_kept columns first by_digest row (All-tail (HasDigest columns by_digest) other first all) none
  where
    by : (b : Bool) → are_alike columns row other ≡ b
        → (are_alike columns row other || list_any (are_alike columns row) first)
        ≡ list_any (are_alike columns row) first
    by false e = ap (λ b. b || list_any (are_alike columns row) first) e
    by true e =
        let same : projected columns row ≡ projected columns other =
        cells-is (projected columns row) (projected columns other) e in
        let free : by_digest (row_digest columns other) ≡ None =
        ap (λ (cells : List Cell). by_digest (sip.finish (fold with_cell sip.initial cells))) (sym same) ∙ none in
        let held : is_some (by_digest (row_digest columns other)) ≡ true =
        All-head (HasDigest columns by_digest) other first all in
        absurd (cc (ap is_some free, held))

-- The digest of the row that is added is put in the map.
pub digests_put : (columns : List Column) (first : List Row) (by_digest put : ℕ → Option ℕ) (row : Row) (digest index : ℕ)
    → digest ≡ row_digest columns row → ((q : ℕ) → put q ≡ cond (nat_eq digest q) (Some index) (by_digest q))
    → put digest ≡ Some index → HaveDigests columns first by_digest → HaveDigests columns (first ++ row ∷ []) put
digests_put columns first by_digest put row digest index is each there all =
    All-push (HasDigest columns put) first row
    (All-weaker (HasDigest columns by_digest) (HasDigest columns put) still first all)
    (ap (λ d. is_some (put d)) (sym is) ∙ ap is_some there)
  where
    by : (b : Bool) (old : Option ℕ) → is_some old ≡ true → is_some (cond b (Some index) old) ≡ true
    by true old e = refl
    by false old e = e

    still : (r : Row) → HasDigest columns by_digest r → HasDigest columns put r
    still r e =
        ap is_some (each (row_digest columns r))
        ∙ by (nat_eq digest (row_digest columns r)) (by_digest (row_digest columns r)) e

-- ---- rows in place of their cells

firsts_on-map : {A B : Type 0} (f : A → B) (like : B → B → Bool) (kept xs : List A)
    → map f (fold (with_first (λ a b. like (f a) (f b))) kept xs) ≡ fold (with_first like) (map f kept) (map f xs)
firsts_on-map f like kept [] = refl
firsts_on-map {A} {B} f like kept (x ∷ xs) =
    by (list_any (λ y. like (f x) (f y)) kept) refl (firsts_on-map f like kept xs)
    (firsts_on-map f like (kept ++ x ∷ []) xs)
  where
    by : (b : Bool) → list_any (λ y. like (f x) (f y)) kept ≡ b
        → map f (fold (with_first (λ a c. like (f a) (f c))) kept xs) ≡ fold (with_first like) (map f kept) (map f xs)
        → map f (fold (with_first (λ a c. like (f a) (f c))) (kept ++ x ∷ []) xs)
        ≡ fold (with_first like) (map f (kept ++ x ∷ [])) (map f xs)
        → map f (fold (with_first (λ a c. like (f a) (f c))) (cond b kept (kept ++ x ∷ [])) xs)
        ≡ fold (with_first like)
        (cond (list_any (like (f x)) (map f kept)) (map f kept) (map f kept ++ f x ∷ [])) (map f xs)
    by true e same more =
        let there : list_any (like (f x)) (map f kept) ≡ true = any_map f (like (f x)) kept ∙ e in
        same ∙ ap (λ b. fold (with_first like) (cond b (map f kept) (map f kept ++ f x ∷ [])) (map f xs)) (sym there)
    by false e same more =
        let there : list_any (like (f x)) (map f kept) ≡ false = any_map f (like (f x)) kept ∙ e in
        more ∙ ap (λ ys. fold (with_first like) ys (map f xs)) (map-append f kept (x ∷ []))
        ∙ ap (λ b. fold (with_first like) (cond b (map f kept) (map f kept ++ f x ∷ [])) (map f xs)) (sym there)

-- ---- repeated columns

all_firsts_on : {A : Type 0} (like : A → A → Bool) → ((a b : A) → like a b ≡ true → a ≡ b) → (p : A → Bool)
    (kept xs : List A) → list_all p (fold (with_first like) kept xs) ≡ list_all p (kept ++ xs)
all_firsts_on like exact p kept [] = ap (list_all p) (sym (append-nil kept))
all_firsts_on {A} like exact p kept (x ∷ xs) =
    by (list_any (like x) kept) refl (all_firsts_on like exact p kept xs)
    (all_firsts_on like exact p (kept ++ x ∷ []) xs)
  where
    again : (b c : Bool) → (b && c) ≡ (b && (b && c))
    again true c = refl
    again false c = refl

    under : (a b c : Bool) → (b && c) ≡ c → (b && (a && c)) ≡ (a && c)
    under true b c e = e
    under false true c e = refl
    under false false c e = refl

    -- an item that is there already changes nothing
    there : (ys : List A) → list_any (like x) ys ≡ true → (p x && list_all p (ys ++ xs)) ≡ list_all p (ys ++ xs)
    there [] e = absurd (cc)
    there (y ∷ ys) e = at (like x y) refl (there ys)
      where
        at : (b : Bool) → like x y ≡ b
            → (list_any (like x) ys ≡ true → (p x && list_all p (ys ++ xs)) ≡ list_all p (ys ++ xs))
            → (p x && (p y && list_all p (ys ++ xs))) ≡ (p y && list_all p (ys ++ xs))
        at true same more =
            ap (λ a. p a && (p y && list_all p (ys ++ xs))) (exact x y same)
            ∙ sym (again (p y) (list_all p (ys ++ xs)))
        at false same more =
            under (p y) (p x) (list_all p (ys ++ xs))
            (more (ap (λ b. b || list_any (like x) ys) (sym same) ∙ e))

    within : (ys : List A) → list_all p (ys ++ x ∷ xs) ≡ (p x && list_all p (ys ++ xs))
    within [] = refl
    within (y ∷ ys) = ap (λ b. p y && b) (within ys) ∙ swap (p y) (p x) (list_all p (ys ++ xs))
      where
        swap : (a b c : Bool) → (a && (b && c)) ≡ (b && (a && c))
        swap true true c = refl
        swap true false c = refl
        swap false true c = refl
        swap false false c = refl

    by : (b : Bool) → list_any (like x) kept ≡ b
        → list_all p (fold (with_first like) kept xs) ≡ list_all p (kept ++ xs)
        → list_all p (fold (with_first like) (kept ++ x ∷ []) xs) ≡ list_all p ((kept ++ x ∷ []) ++ xs)
        → list_all p (fold (with_first like) (cond b kept (kept ++ x ∷ [])) xs) ≡ list_all p (kept ++ x ∷ xs)
    by true e same more = same ∙ sym (there kept e) ∙ sym (within kept)
    by false e same more = more ∙ ap (list_all p) (append_assoc kept (x ∷ []) xs)

cells-all : (columns : List Column) (a b : Row)
    → are_alike columns a b ≡ list_all (λ column. same_cell (column_cell column a) (column_cell column b)) columns
cells-all [] a b = refl
cells-all (column ∷ columns) a b =
    ap (λ c. same_cell (column_cell column a) (column_cell column b) && c) (cells-all columns a b)

alike-once : (columns : List Column) (a b : Row) → are_alike (columns_once columns) a b ≡ are_alike columns a b
alike-once columns a b =
    cells-all (columns_once columns) a b
    ∙ all_firsts_on is_same_column one_column
    (λ column. same_cell (column_cell column a) (column_cell column b)) [] columns
    ∙ sym (cells-all columns a b)

-- The first rows by the cells in each column once are the first ones by the cells in all columns.
pub firsts_once : (columns : List Column) (rows : List Row)
    → firsts (are_alike (columns_once columns)) rows ≡ firsts (are_alike columns) rows
firsts_once columns rows =
    ap (λ (like : Row → Row → Bool). firsts like rows) (fun_ext (λ a. fun_ext (λ b. alike-once columns a b)))

-- The cells of the first rows are the first ones of the cells.
pub firsts_cells : (columns : List Column) (rows : List Row)
    → map (projected columns) (firsts (are_alike columns) rows) ≡ firsts same_cells (map (projected columns) rows)
firsts_cells columns rows = firsts_on-map (projected columns) same_cells [] rows

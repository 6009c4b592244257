-- The datasets at the numbers that a search finds.
use Rattle.std.proofs.Common.{◌≡◌, ◌∙◌, ℕ, ◌+◌, ◌<◌, Bool, true, false, not, ◌&&◌, cond, List, [], ◌∷◌, ◌++◌}
use Rattle.std.proofs.Common.{Some, refl, sym, ap, ap₂, subst, inl, inr, get_or, length, take, map}
use Rattle.std.specs.Prelude.{filter, is_some, IsSome}
use Rattle.std.specs.List.{All}
use Rattle.std.specs.List.Sorted.{IsPermutation}
use Rattle.std.specs.Option.{option_map_or}
use Rattle.std.specs.declared.cmp.Ordering.{Ordering}
use Rattle.std.specs.declared.cmp.Ordering.TheVariants.{Less, Equal}
use Rattle.std.specs.Ordering.{is_eq, is_lt, nat_cmp}
use Rattle.std.proofs.lemmas.Bool.{or_right}
use Rattle.std.proofs.lemmas.List.{append-nil}
use Rattle.std.proofs.lemmas.List.Elements.{All-map, filter_more}
use Rattle.std.proofs.lemmas.List.Sorted.{IsPermutation-cons, IsPermutation-middle, IsPermutation-refl, IsPermutation-trans}
use Rattle.std.proofs.lemmas.Map.Text.{is_eq-slice_cmp}
use Rattle.std.proofs.lemmas.Slice.Eq.{bytes_eq-Decides}
use Rattle.std.specs.Str.{bytes_eq}
use Rattle.portal_base.specs.Ordered.{IsAscending, ascending, inserted}
use Rattle.portal_base.proofs.Filtered.{IsAscending-filter, IsIn-filter}
use Rattle.portal_base.proofs.Unique.{IsIn, below_in}
use Rattle.portal_base.proofs.Upserted.{All-each}
use Rattle.packages.specs.Named.{is_named}
use Rattle.packages.specs.Order.{dataset_cmp}
use Rattle.packages.specs.Shelf.{IsValidShelf, ShelfState, datasets_at, datasets_of, number_cmp, package_at}
use Rattle.packages.specs.declared.package.Package.{Package}
use Rattle.packages.proofs.EntryLemmas.{nat_cmp-same, package_at-IsIn}
use Rattle.packages.proofs.FindLemmas.{map-IsIn, none-list_any}
use Rattle.visibility.specs.Viewer.{ViewerState, datasets_for}
use Rattle.visibility.specs.Visibility.{sees_in}
use Rattle.visibility.proofs.ViewLemmas.{filter_both}
use Rattle.search_index.specs.Index.{numbers_found}
use Rattle.search_index.specs.Items.{matches}
use Rattle.search_index.specs.Reading.{items_of}
use Rattle.search_index.specs.declared.item.Item.{Item}
use Rattle.dataset_search.specs.Found.{found, is_found, numbers_matching, numbers_with, takes}
use Rattle.dataset_search.specs.Order.{have_distinct_names, name_cmp}
use Rattle.dataset_search.specs.declared.search.Search.{Search}

-- ---- numbers one after another

-- One number more is among those that are kept if its dataset passes.
numbers-more : (test : Package → Bool) (shelf : ShelfState) (numbers : List ℕ) (i : ℕ) (d : Package)
    → i < length numbers → package_at (get_or numbers i 0) shelf ≡ Some d
    → numbers_with test shelf (take (i + 1) numbers)
    ≡ numbers_with test shelf (take i numbers) ++ cond (test d) (get_or numbers i 0 ∷ []) []
numbers-more test shelf numbers i d within there =
    filter_more (λ number. option_map_or test (package_at number shelf) false) numbers i 0 within
    ∙ ap (λ o. numbers_with test shelf (take i numbers) ++ cond (option_map_or test o false) (get_or numbers i 0 ∷ []) [])
    there

pub numbers-taken : (test : Package → Bool) (shelf : ShelfState) (numbers : List ℕ) (i : ℕ) (d : Package) (passes : Bool)
    (before pushed after : List ℕ) → i < length numbers → package_at (get_or numbers i 0) shelf ≡ Some d
    → before ≡ numbers_with test shelf (take i numbers) → passes ≡ test d → passes ≡ true
    → pushed ≡ before ++ get_or numbers i 0 ∷ [] → after ≡ pushed
    → after ≡ numbers_with test shelf (take (i + 1) numbers)
numbers-taken test shelf numbers i d passes before pushed after within there so_far is keeps added same =
    same ∙ added ∙ ap (λ (ns : List ℕ). ns ++ get_or numbers i 0 ∷ []) so_far
    ∙ sym (numbers-more test shelf numbers i d within there
    ∙ ap (λ b. numbers_with test shelf (take i numbers) ++ cond b (get_or numbers i 0 ∷ []) []) (sym is ∙ keeps))

-- Else it isn't.
pub numbers-left : (test : Package → Bool) (shelf : ShelfState) (numbers : List ℕ) (i : ℕ) (d : Package) (passes : Bool)
    (before after : List ℕ) → i < length numbers → package_at (get_or numbers i 0) shelf ≡ Some d
    → before ≡ numbers_with test shelf (take i numbers) → passes ≡ test d → passes ≡ false → after ≡ before
    → after ≡ numbers_with test shelf (take (i + 1) numbers)
numbers-left test shelf numbers i d passes before after within there so_far is fails same =
    same ∙ so_far
    ∙ sym (numbers-more test shelf numbers i d within there
    ∙ ap (λ b. numbers_with test shelf (take i numbers) ++ cond b (get_or numbers i 0 ∷ []) []) (sym is ∙ fails)
    ∙ append-nil (numbers_with test shelf (take i numbers)))

-- ---- the datasets at the numbers of entries

-- the shelf has each of the entries
abbrev pub HasEntries : ShelfState → List (ℕ × Package) → Type 0
HasEntries shelf es = (e : ℕ × Package) → IsIn e es → package_at e.0 shelf ≡ Some e.1

-- It has its own entries.
pub own-entries : (shelf : ShelfState) → IsAscending number_cmp shelf.entries → HasEntries shelf shelf.entries
own-entries shelf up = λ e m. package_at-IsIn e.0 e.1 shelf.entries up m

filtered-entries : (shelf : ShelfState) (p : ℕ × Package → Bool) (es : List (ℕ × Package)) → HasEntries shelf es
    → HasEntries shelf (filter p es)
filtered-entries shelf p es has = λ e m. has e (IsIn-filter p e es m).0

entries-exist : (shelf : ShelfState) (es : List (ℕ × Package)) → HasEntries shelf es
    → All (λ number. IsSome (package_at number shelf)) (map (λ e. e.0) es)
entries-exist shelf es has =
    All-map (λ number. IsSome (package_at number shelf)) (λ e. e.0) es
    (All-each (λ e. IsSome (package_at e.0 shelf)) es (λ e m. ap is_some (has e m)))

datasets_at-entries : (shelf : ShelfState) (es : List (ℕ × Package)) → HasEntries shelf es
    → datasets_at shelf (map (λ e. e.0) es) ≡ map (λ e. e.1) es
datasets_at-entries shelf [] has = refl
datasets_at-entries shelf (e ∷ es) has =
    rw (has e (inl refl)) (ap (λ ds. e.1 ∷ ds) (datasets_at-entries shelf es (λ f m. has f (inr m))))

numbers_with-entries : (test : Package → Bool) (shelf : ShelfState) (es : List (ℕ × Package)) → HasEntries shelf es
    → numbers_with test shelf (map (λ e. e.0) es) ≡ map (λ e. e.0) (filter (λ e. test e.1) es)
numbers_with-entries test shelf [] has = refl
numbers_with-entries test shelf (e ∷ es) has =
    ap (λ o. cond (option_map_or test o false) (e.0 ∷ numbers_with test shelf (map (λ f. f.0) es))
    (numbers_with test shelf (map (λ f. f.0) es))) (has e (inl refl))
    ∙ by (test e.1) (numbers_with-entries test shelf es (λ f m. has f (inr m)))
  where
    by : (b : Bool) → numbers_with test shelf (map (λ f. f.0) es) ≡ map (λ f. f.0) (filter (λ f. test f.1) es)
        → cond b (e.0 ∷ numbers_with test shelf (map (λ f. f.0) es)) (numbers_with test shelf (map (λ f. f.0) es))
        ≡ map (λ f. f.0) (cond b (e ∷ filter (λ f. test f.1) es) (filter (λ f. test f.1) es))
    by true more = ap (λ ns. e.0 ∷ ns) more
    by false more = more

-- ---- filters

pub map-filtered : {X Y : Type 0} (f : X → Y) (p : Y → Bool) (xs : List X)
    → map f (filter (λ x. p (f x)) xs) ≡ filter p (map f xs)
map-filtered f p [] = refl
map-filtered {X} f p (x ∷ xs) = by (p (f x)) (map-filtered f p xs)
  where
    by : (b : Bool) → map f (filter (λ y. p (f y)) xs) ≡ filter p (map f xs)
        → map f (cond b (x ∷ filter (λ y. p (f y)) xs) (filter (λ y. p (f y)) xs))
        ≡ cond b (f x ∷ filter p (map f xs)) (filter p (map f xs))
    by true more = ap (λ ys. f x ∷ ys) more
    by false more = more

-- what is kept of two lists that begin alike
front-permutes : {X : Type 0} (p : X → Bool) (x : X) (xs ys : List X) → IsPermutation (filter p xs) (filter p ys)
    → IsPermutation (filter p (x ∷ xs)) (filter p (x ∷ ys))
front-permutes {X} p x xs ys moved = by (p x)
  where
    by : (b : Bool) → IsPermutation (cond b (x ∷ filter p xs) (filter p xs)) (cond b (x ∷ filter p ys) (filter p ys))
    by true = IsPermutation-cons x (filter p xs) (filter p ys) moved
    by false = moved

exchanged-permutes : {X : Type 0} (p : X → Bool) (x y : X) (xs : List X)
    → IsPermutation (filter p (x ∷ y ∷ xs)) (filter p (y ∷ x ∷ xs))
exchanged-permutes {X} p x y xs = by (p x) (p y)
  where
    kept : List X
    kept = filter p xs

    by : (a b : Bool)
        → IsPermutation (cond a (x ∷ cond b (y ∷ kept) kept) (cond b (y ∷ kept) kept))
        (cond b (y ∷ cond a (x ∷ kept) kept) (cond a (x ∷ kept) kept))
    by true true = IsPermutation-middle (x ∷ []) y kept
    by true false = IsPermutation-refl (x ∷ kept)
    by false true = IsPermutation-refl (y ∷ kept)
    by false false = IsPermutation-refl kept

filter-inserted-permutes : {X : Type 0} (cmp : X → X → Ordering) (p : X → Bool) (x : X) (xs : List X)
    → IsPermutation (filter p (x ∷ xs)) (filter p (inserted cmp x xs))
filter-inserted-permutes cmp p x [] = IsPermutation-refl (filter p (x ∷ []))
filter-inserted-permutes {X} cmp p x (y ∷ ys) = by (is_lt (cmp y x)) (filter-inserted-permutes cmp p x ys)
  where
    by : (b : Bool) → IsPermutation (filter p (x ∷ ys)) (filter p (inserted cmp x ys))
        → IsPermutation (filter p (x ∷ y ∷ ys)) (filter p (cond b (y ∷ inserted cmp x ys) (x ∷ y ∷ ys)))
    by true more =
        IsPermutation-trans (filter p (x ∷ y ∷ ys)) (filter p (y ∷ x ∷ ys)) (filter p (y ∷ inserted cmp x ys))
        (exchanged-permutes p x y ys) (front-permutes p y (x ∷ ys) (inserted cmp x ys) more)
    by false more = IsPermutation-refl (filter p (x ∷ y ∷ ys))

-- What is kept of the sorted list is what is kept of the list, in another order.
pub filter-ascending-permutes : {X : Type 0} (cmp : X → X → Ordering) (p : X → Bool) (xs : List X)
    → IsPermutation (filter p xs) (filter p (ascending cmp xs))
filter-ascending-permutes cmp p [] = IsPermutation-refl []
filter-ascending-permutes cmp p (x ∷ xs) =
    IsPermutation-trans (filter p (x ∷ xs)) (filter p (x ∷ ascending cmp xs))
    (filter p (inserted cmp x (ascending cmp xs)))
    (front-permutes p x xs (ascending cmp xs) (filter-ascending-permutes cmp p xs))
    (filter-inserted-permutes cmp p x (ascending cmp xs))

-- ---- names

-- no two entries have datasets of one name
abbrev HasDistinctNames : List (ℕ × Package) → Type 0
HasDistinctNames es = (x y : ℕ × Package) → IsIn x es → IsIn y es → x.1.name ≡ y.1.name → x.0 ≡ y.0

name_named : (d : Package) → is_named d.name d ≡ true
name_named d = or_right (bytes_eq d.id d.name) (bytes_eq d.name d.name) ((bytes_eq-Decides d.name d.name).1 refl)

valid-names : (shelf : ShelfState) → IsValidShelf shelf → HasDistinctNames shelf.entries
valid-names shelf valid = λ x y m n same.
    valid.apart x.1.name x.0 y.0 x.1 y.1 (own-entries shelf valid.numbers x m) (own-entries shelf valid.numbers y n)
    (name_named x.1) (ap (λ t. is_named t y.1) same ∙ name_named y.1)

fails : (b : Bool) → (b ≡ true → ⊥) → b ≡ false
fails true not = absurd (not refl)
fails false not = refl

names-apart : (es : List (ℕ × Package)) → IsAscending number_cmp es → HasDistinctNames es
    → have_distinct_names (map (λ e. e.1) es) ≡ true
names-apart [] up apart = refl
names-apart (x ∷ xs) up apart =
    ap₂ (λ a b. not a && b) (none-list_any (λ d. is_eq (name_cmp d x.1)) (map (λ e. e.1) xs) other)
    (names-apart xs up.1 (λ y z m n. apart y z (inr m) (inr n)))
  where
    later : (e : ℕ × Package) → IsIn e xs → e.1.name ≡ x.1.name → ⊥
    later e m same =
        let number : e.0 ≡ x.0 = apart e x (inr m) (inl refl) same in
        let below : nat_cmp x.0 e.0 ≡ Less = below_in number_cmp x e xs up.0 m in
        let equal : nat_cmp x.0 e.0 ≡ Equal = ap (nat_cmp x.0) number ∙ nat_cmp-same x.0 in
        absurd (cc)

    other : (d : Package) → IsIn d (map (λ e. e.1) xs) → is_eq (name_cmp d x.1) ≡ false
    other d m =
        let w = map-IsIn (λ e. e.1) d xs m in
        fails (is_eq (name_cmp d x.1))
        (λ like. later w.0 w.1
        (ap (λ f. f.name) (sym w.2) ∙ (bytes_eq-Decides d.name x.1.name).0 (sym (is_eq-slice_cmp d.name x.1.name) ∙ like)))

-- ---- what a search finds, by two tests of which the one is tried first

-- the entries of the shelf that pass both
abbrev found-entries : (Package → Bool) → (Package → Bool) → ShelfState → List (ℕ × Package)
found-entries first test shelf = filter (λ e. test e.1) (filter (λ e. first e.1) shelf.entries)

first-entries : (first : Package → Bool) (shelf : ShelfState) → IsValidShelf shelf
    → HasEntries shelf (filter (λ e. first e.1) shelf.entries)
first-entries first shelf valid =
    filtered-entries shelf (λ e. first e.1) shelf.entries (own-entries shelf valid.numbers)

module _ (first test : Package → Bool) (shelf : ShelfState) (valid : IsValidShelf shelf) where
  has-found : HasEntries shelf (found-entries first test shelf)
  has-found =
      filtered-entries shelf (λ e. test e.1) (filter (λ e. first e.1) shelf.entries) (first-entries first shelf valid)

  found-numbers : numbers_with test shelf (map (λ e. e.0) (filter (λ e. first e.1) shelf.entries))
      ≡ map (λ e. e.0) (found-entries first test shelf)
  found-numbers = numbers_with-entries test shelf (filter (λ e. first e.1) shelf.entries) (first-entries first shelf valid)

  found-datasets : datasets_at shelf (map (λ e. e.0) (found-entries first test shelf))
      ≡ map (λ e. e.1) (found-entries first test shelf)
  found-datasets = datasets_at-entries shelf (found-entries first test shelf) has-found

  module _ (numbers : List ℕ)
      (are : numbers ≡ numbers_with test shelf (map (λ e. e.0) (filter (λ e. first e.1) shelf.entries))) where
    pub found-exist : All (λ number. IsSome (package_at number shelf)) numbers
    found-exist =
        subst (All (λ number. IsSome (package_at number shelf))) (sym (are ∙ found-numbers))
        (entries-exist shelf (found-entries first test shelf) has-found)

    datasets-are : datasets_at shelf numbers ≡ map (λ e. e.1) (found-entries first test shelf)
    datasets-are = ap (datasets_at shelf) (are ∙ found-numbers) ∙ found-datasets

    -- They are the datasets that pass both tests, in another order.
    pub found-permutes : (left right : Package → Bool)
        → ((d : Package) → (left d && right d) ≡ (test d && first d))
        → IsPermutation (datasets_at shelf numbers) (filter left (filter right (datasets_of shelf)))
    found-permutes left right same =
        subst (λ ds. IsPermutation ds (filter left (filter right (datasets_of shelf))))
        (sym (datasets-are ∙ kept))
        (subst (λ ds. IsPermutation (filter both (map (λ e. e.1) shelf.entries)) ds)
        (sym (filter_both left right both (λ d. sym (same d)) (datasets_of shelf)))
        (filter-ascending-permutes dataset_cmp both (map (λ e. e.1) shelf.entries)))
      where
        both : Package → Bool
        both d = test d && first d

        kept : map (λ e. e.1) (found-entries first test shelf) ≡ filter both (map (λ e. e.1) shelf.entries)
        kept =
            map-filtered (λ e. e.1) test (filter (λ e. first e.1) shelf.entries)
            ∙ ap (filter test) (map-filtered (λ e. e.1) first shelf.entries)
            ∙ filter_both test first both (λ d. refl) (map (λ e. e.1) shelf.entries)

    -- No two of them have one name.
    pub found-names : have_distinct_names (datasets_at shelf numbers) ≡ true
    found-names =
        ap have_distinct_names datasets-are
        ∙ names-apart (found-entries first test shelf)
        (IsAscending-filter number_cmp (λ e. test e.1) (filter (λ e. first e.1) shelf.entries)
        (IsAscending-filter number_cmp (λ e. first e.1) shelf.entries valid.numbers))
        (λ x y m n. valid-names shelf valid x y (of_shelf x m) (of_shelf y n))
      where
        of_shelf : (e : ℕ × Package) → IsIn e (found-entries first test shelf) → IsIn e shelf.entries
        of_shelf e m =
            (IsIn-filter (λ f. first f.1) e shelf.entries
            (IsIn-filter (λ f. test f.1) e (filter (λ f. first f.1) shelf.entries) m).0).0

-- ---- what a search finds

abbrev pub searched : Search → List Item
searched search = items_of search.q ++ items_of search.fq

-- it takes the dataset, and the viewer sees it
abbrev pub wanted : Search → ViewerState → Package → Bool
wanted search viewer = λ dataset. takes search dataset && sees_in viewer.people viewer.caller dataset

-- Each number that is found by the texts has a dataset.
pub matching-exist : (search : Search) (shelf : ShelfState) → IsValidShelf shelf → (q fq numbers : List ℕ) → q ≡ search.q
    → fq ≡ search.fq → numbers ≡ numbers_found (items_of q ++ items_of fq) shelf
    → All (λ number. IsSome (package_at number shelf)) numbers
matching-exist search shelf valid q fq numbers same also are =
    let first : Package → Bool = matches (items_of q ++ items_of fq) in
    subst (All (λ number. IsSome (package_at number shelf))) (sym are)
    (entries-exist shelf (filter (λ e. first e.1) shelf.entries) (first-entries first shelf valid))

-- They are the numbers that match both texts of the search.
pub matching-are : (search : Search) (shelf : ShelfState) (q fq numbers : List ℕ) → q ≡ search.q → fq ≡ search.fq
    → numbers ≡ numbers_found (items_of q ++ items_of fq) shelf → numbers ≡ numbers_matching search shelf
matching-are search shelf q fq numbers same also are =
    are ∙ ap₂ (λ (s t : List ℕ). numbers_found (items_of s ++ items_of t) shelf) same also

-- The numbers among these that the search takes are those that it finds.
pub taken-are : (search : Search) (viewer : ViewerState) (shelf : ShelfState) (q fq numbers taken : List ℕ)
    → q ≡ search.q → fq ≡ search.fq → numbers ≡ numbers_found (items_of q ++ items_of fq) shelf
    → taken ≡ numbers_with (wanted search viewer) shelf numbers
    → taken ≡ numbers_with (wanted search viewer) shelf (numbers_found (searched search) shelf)
taken-are search viewer shelf q fq numbers taken same also are is =
    is ∙ ap (numbers_with (wanted search viewer) shelf) (matching-are search shelf q fq numbers same also are)

tests-exchanged : (a b c : Bool) → ((a && b) && c) ≡ ((b && c) && a)
tests-exchanged true true true = refl
tests-exchanged true true false = refl
tests-exchanged true false c = refl
tests-exchanged false true true = refl
tests-exchanged false true false = refl
tests-exchanged false false c = refl

pub found-for : (search : Search) (viewer : ViewerState) (shelf : ShelfState) → IsValidShelf shelf
    → viewer.datasets ≡ datasets_of shelf → (numbers : List ℕ)
    → numbers ≡ numbers_with (wanted search viewer) shelf (numbers_found (searched search) shelf)
    → IsPermutation (datasets_at shelf numbers) (found search (datasets_for viewer))
found-for search viewer shelf valid same numbers are =
    subst
    (λ ds. IsPermutation (datasets_at shelf numbers)
    (filter (is_found search) (filter (sees_in viewer.people viewer.caller) ds)))
    (sym same)
    (found-permutes (matches (searched search)) (wanted search viewer) shelf valid numbers are (is_found search)
    (sees_in viewer.people viewer.caller)
    (λ d. tests-exchanged (matches (searched search) d) (takes search d) (sees_in viewer.people viewer.caller d)))

-- What a search finds, in the words of its texts and flags, and the order of it.
use Rattle.std.proofs.Common.{◌≡◌, ◌≢◌, ◌∙◌, Bool, true, false, cond, not, ◌&&◌, ◌||◌, List, [], ◌∷◌, ◌++◌, refl, sym, ap, ap₂}
use Rattle.std.proofs.Common.{ℕ, drop, length, map, take}
use Rattle.std.specs.Prelude.{◌↔◌, Contains, IsFalse, IsPermutation, IsTrue, filter}
use Rattle.std.specs.List.{list_any}
use Rattle.std.specs.Ordering.{is_eq}
use Rattle.std.proofs.lemmas.List.{length-map}
use Rattle.std.proofs.lemmas.List.Folds.{list_all-append}
use Rattle.std.proofs.lemmas.List.Sorted.{Contains-permutation, IsPermutation-sym, length_permutation}
use Rattle.packages.specs.Order.{dataset_cmp}
use Rattle.packages.specs.Shelf.{ShelfState, datasets_of}
use Rattle.packages.specs.declared.package.Package.{Package}
use Rattle.packages.specs.declared.package.State.{State}
use Rattle.packages.specs.declared.package.State.TheVariants.{Active, Deleted, Draft}
use Rattle.portal_base.specs.Ordered.{IsAscending, ascending, inserted}
use Rattle.portal_base.proofs.Filtered.{IsIn-filter, filter-IsIn, filter-all, filter-inserted}
use Rattle.portal_base.proofs.Inserted.{AreApart, IsAscending-ascending, both_false}
use Rattle.portal_base.proofs.Removed.{AreApart-are_apart}
use Rattle.portal_base.proofs.Sorted.{AreApart-permutation}
use Rattle.portal_base.proofs.Unique.{Contains-IsIn, IsIn, IsIn-Contains, IsIn-ascending, ascending-IsIn, unique}
use Rattle.search_index.specs.Items.{matches, selects}
use Rattle.search_index.specs.Reading.{items_of}
use Rattle.search_index.specs.Terms.{terms_of}
use Rattle.sorted_pages.proofs.SelectLemmas.{ascending-length}
use Rattle.dataset_search.specs.Found.{found, is_found, numbers_matching, page, takes, takes_state}
use Rattle.dataset_search.specs.Order.{have_distinct_names, name_cmp, name_cmp_total, search_cmp, search_cmp_total}
use Rattle.dataset_search.specs.declared.search.Search.{Search}
use Rattle.dataset_search.proofs.FindLemmas.{filter-ascending-permutes, map-filtered}
use Rattle.dataset_search.proofs.PageLemmas.{apart-search}

-- ---- what is found

both : (a b : Bool) → (a && b) ≡ true → (a ≡ true) × (b ≡ true)
both true b e = (refl, e)
both false b e = absurd (cc)

found-passes : (search : Search) (datasets : List Package) (dataset : Package)
    → Contains (found search datasets) dataset → Contains datasets dataset × IsTrue (is_found search dataset)
found-passes search datasets dataset m =
    let parts = IsIn-filter (is_found search) dataset datasets (IsIn-Contains dataset (found search datasets) m) in
    (Contains-IsIn dataset datasets parts.0, parts.1)

found-takes : (search : Search) (datasets : List Package) (dataset : Package) → Contains (found search datasets) dataset
    → IsTrue (takes search dataset)
found-takes search datasets dataset m =
    (both (matches (items_of search.q ++ items_of search.fq) dataset) (takes search dataset)
    (found-passes search datasets dataset m).1).1

matches-both : (search : Search) (dataset : Package) → matches (items_of search.q ++ items_of search.fq) dataset
    ≡ (matches (items_of search.q) dataset && matches (items_of search.fq) dataset)
matches-both search dataset =
    list_all-append (selects (terms_of dataset)) (items_of search.q) (items_of search.fq)

pub found-means : (search : Search) (datasets : List Package) (dataset : Package)
    → Contains (found search datasets) dataset
    ↔ (Contains datasets dataset × IsTrue (matches (items_of search.q) dataset)
    × IsTrue (matches (items_of search.fq) dataset) × IsTrue (takes search dataset))
found-means search datasets dataset = (
  λ m.
      let kept = found-passes search datasets dataset m in
      let parts = both (matches (items_of search.q ++ items_of search.fq) dataset) (takes search dataset) kept.1 in
      let texts = both (matches (items_of search.q) dataset) (matches (items_of search.fq) dataset)
      (sym (matches-both search dataset) ∙ parts.0) in
      (kept.0, texts.0, texts.1, parts.1),
  λ h. Contains-IsIn dataset (found search datasets) (filter-IsIn (is_found search) dataset datasets
      (IsIn-Contains dataset datasets h.0)
      (ap₂ (λ a b. a && b)
      (matches-both search dataset ∙ ap₂ (λ a b. a && b) h.1 h.2) h.3)),
)

-- ---- flags

never-deleted : (search : Search) (state : State) → takes_state search state ≡ true → state ≢ Deleted
never-deleted search Active e = λ same. absurd (cc)
never-deleted search Draft e = λ same. absurd (cc)
never-deleted search Deleted e = absurd (cc)

pub found-not_deleted : (search : Search) (datasets : List Package) (dataset : Package)
    → Contains (found search datasets) dataset → dataset.state ≢ Deleted
found-not_deleted search datasets dataset m =
    never-deleted search dataset.state
    (both (takes_state search dataset.state) (not dataset.private || search.include_private)
    (found-takes search datasets dataset m)).0

asked : (a b : Bool) → (not a || b) ≡ true → a ≡ true → b ≡ true
asked true b e is = e
asked false b e is = absurd (cc)

pub found-private : (search : Search) (datasets : List Package) (dataset : Package)
    → Contains (found search datasets) dataset → IsTrue dataset.private → IsTrue search.include_private
found-private search datasets dataset m =
    asked dataset.private search.include_private
    (both (takes_state search dataset.state) (not dataset.private || search.include_private)
    (found-takes search datasets dataset m)).1

pub found-draft : (search : Search) (datasets : List Package) (dataset : Package)
    → Contains (found search datasets) dataset → dataset.state ≡ Draft → IsTrue search.include_drafts
found-draft search datasets dataset m is =
    sym (ap (takes_state search) is)
    ∙ (both (takes_state search dataset.state) (not dataset.private || search.include_private)
    (found-takes search datasets dataset m)).0

-- ---- the order

none-kept : {X : Type 0} (test keeps : X → Bool) (xs : List X) → list_any test xs ≡ false
    → list_any test (filter keeps xs) ≡ false
none-kept test keeps [] none = refl
none-kept {X} test keeps (x ∷ xs) none =
    let parts = both_false (test x) (list_any test xs) none in
    by (keeps x) parts.0 (none-kept test keeps xs parts.1)
  where
    by : (b : Bool) → test x ≡ false → list_any test (filter keeps xs) ≡ false
        → list_any test (cond b (x ∷ filter keeps xs) (filter keeps xs)) ≡ false
    by true one rest = ap₂ (λ a b. a || b) one rest
    by false one rest = rest

apart-kept : (keeps : Package → Bool) (datasets : List Package) → AreApart name_cmp datasets
    → AreApart name_cmp (filter keeps datasets)
apart-kept keeps [] apart = tt
apart-kept keeps (d ∷ ds) apart =
    by (keeps d) (none-kept (λ e. is_eq (name_cmp e d)) keeps ds apart.0) (apart-kept keeps ds apart.1)
  where
    by : (b : Bool) → list_any (λ e. is_eq (name_cmp e d)) (filter keeps ds) ≡ false
        → AreApart name_cmp (filter keeps ds) → AreApart name_cmp (cond b (d ∷ filter keeps ds) (filter keeps ds))
    by true one rest = (one, rest)
    by false one rest = rest

ascends : (search : Search) (datasets : List Package) → AreApart name_cmp datasets
    → IsAscending (search_cmp search.sort) (ascending (search_cmp search.sort) (found search datasets))
ascends search datasets apart =
    IsAscending-ascending (search_cmp search.sort) (search_cmp_total search.sort) (found search datasets)
    (apart-search search.sort (found search datasets) (apart-kept (is_found search) datasets apart))

pub found-ascends : (search : Search) (datasets : List Package) → IsTrue (have_distinct_names datasets)
    → IsAscending (search_cmp search.sort) (ascending (search_cmp search.sort) (found search datasets))
found-ascends search datasets distinct =
    ascends search datasets (AreApart-are_apart name_cmp datasets distinct)

-- Each dataset that is found and that both lists have is in what is found in either, in order.
found-within : (search : Search) (datasets others : List Package)
    → ((d : Package) → IsTrue (is_found search d) → Contains datasets d → Contains others d) → (d : Package)
    → IsIn d (ascending (search_cmp search.sort) (found search datasets))
    → IsIn d (ascending (search_cmp search.sort) (found search others))
found-within search datasets others within d m =
    let parts = IsIn-filter (is_found search) d datasets
    (ascending-IsIn (search_cmp search.sort) d (found search datasets) m) in
    IsIn-ascending (search_cmp search.sort) d (found search others)
    (filter-IsIn (is_found search) d others
    (IsIn-Contains d others (within d parts.1 (Contains-IsIn d datasets parts.0))) parts.1)

-- Where the same datasets are found, they are found in one order.
ordered-alike : (search : Search) (datasets others : List Package) → AreApart name_cmp datasets
    → AreApart name_cmp others
    → ((d : Package) → IsTrue (is_found search d) → Contains datasets d ↔ Contains others d)
    → ascending (search_cmp search.sort) (found search datasets) ≡ ascending (search_cmp search.sort) (found search others)
ordered-alike search datasets others apart also same =
    unique (search_cmp search.sort) (search_cmp_total search.sort)
    (ascending (search_cmp search.sort) (found search datasets))
    (ascending (search_cmp search.sort) (found search others))
    (ascends search datasets apart) (ascends search others also)
    (found-within search datasets others (λ d is m. (same d is).0 m))
    (found-within search others datasets (λ d is m. (same d is).1 m))

pub page-permuted : (search : Search) (datasets others : List Package) → IsTrue (have_distinct_names datasets)
    → IsPermutation datasets others → page search (found search datasets) ≡ page search (found search others)
page-permuted search datasets others distinct moved =
    let apart = AreApart-are_apart name_cmp datasets distinct in
    ap (λ (ds : List Package). take search.page.limit (drop search.page.offset ds))
    (ordered-alike search datasets others apart
    (AreApart-permutation name_cmp name_cmp_total datasets others moved apart)
    (λ d is. (
      λ m. Contains-permutation datasets others d moved m,
      λ m. Contains-permutation others datasets d (IsPermutation-sym datasets others moved) m,
    )))

-- ---- datasets that aren't found

pub left-out : (search : Search) (before after : List Package) (dataset : Package) → IsFalse (is_found search dataset)
    → found search (before ++ dataset ∷ after) ≡ found search (before ++ after)
left-out search [] after dataset not_found =
    ap (λ b. cond b (dataset ∷ found search after) (found search after)) not_found
left-out search (d ∷ before) after dataset not_found =
    ap (λ ds. cond (is_found search d) (d ∷ ds) ds) (left-out search before after dataset not_found)

pub found-again : (search : Search) (datasets : List Package) → found search (found search datasets) ≡ found search datasets
found-again search datasets =
    filter-all (is_found search) (found search datasets) (λ d m. (IsIn-filter (is_found search) d datasets m).1)

pub page-alike : (search : Search) (datasets others : List Package) → IsTrue (have_distinct_names datasets)
    → IsTrue (have_distinct_names others)
    → ((d : Package) → IsTrue (is_found search d) → Contains datasets d ↔ Contains others d)
    → page search (found search datasets) ≡ page search (found search others)
page-alike search datasets others distinct also same =
    ap (λ (ds : List Package). take search.page.limit (drop search.page.offset ds))
    (ordered-alike search datasets others (AreApart-are_apart name_cmp datasets distinct)
    (AreApart-are_apart name_cmp others also) same)

pub count-alike : (search : Search) (datasets others : List Package) → IsTrue (have_distinct_names datasets)
    → IsTrue (have_distinct_names others)
    → ((d : Package) → IsTrue (is_found search d) → Contains datasets d ↔ Contains others d)
    → length (found search datasets) ≡ length (found search others)
count-alike search datasets others distinct also same =
    sym (ascending-length (search_cmp search.sort) (found search datasets))
    ∙ ap length (ordered-alike search datasets others (AreApart-are_apart name_cmp datasets distinct)
    (AreApart-are_apart name_cmp others also) same)
    ∙ ascending-length (search_cmp search.sort) (found search others)

order-kept : (search : Search) (datasets : List Package) → AreApart name_cmp datasets
    → ascending (search_cmp search.sort) (found search datasets)
    ≡ found search (ascending (search_cmp search.sort) datasets)
order-kept search [] apart = refl
order-kept search (d ∷ ds) apart =
    by (is_found search d) (order-kept search ds apart.1)
    ∙ sym (filter-inserted (search_cmp search.sort) (search_cmp_total search.sort) (is_found search) d ordered
    (IsAscending-ascending (search_cmp search.sort) (search_cmp_total search.sort) ds
    (apart-search search.sort ds apart.1)))
  where
    ordered : List Package
    ordered = ascending (search_cmp search.sort) ds

    by : (b : Bool) → ascending (search_cmp search.sort) (found search ds) ≡ found search ordered
        → ascending (search_cmp search.sort) (cond b (d ∷ found search ds) (found search ds))
        ≡ cond b (inserted (search_cmp search.sort) d (found search ordered)) (found search ordered)
    by true more = ap (inserted (search_cmp search.sort) d) more
    by false more = more

pub found-in_order : (search : Search) (datasets : List Package) → IsTrue (have_distinct_names datasets)
    → ascending (search_cmp search.sort) (found search datasets)
    ≡ found search (ascending (search_cmp search.sort) datasets)
found-in_order search datasets distinct =
    order-kept search datasets (AreApart-are_apart name_cmp datasets distinct)

-- ---- the looks of a search

-- The numbers that match are as many as the shelf's datasets that match.
pub matching-count : (search : Search) (shelf : ShelfState) → length (numbers_matching search shelf)
    ≡ length (filter (matches (items_of search.q ++ items_of search.fq)) (datasets_of shelf))
matching-count search shelf =
    length-map kept (λ (e : ℕ × Package). e.0)
    ∙ sym (length-map kept (λ (e : ℕ × Package). e.1))
    ∙ ap length (map-filtered (λ (e : ℕ × Package). e.1) test shelf.entries)
    ∙ sym (length_permutation (filter test (map (λ e. e.1) shelf.entries)) (filter test (datasets_of shelf))
    (filter-ascending-permutes dataset_cmp test (map (λ e. e.1) shelf.entries)))
  where
    test : Package → Bool
    test = matches (items_of search.q ++ items_of search.fq)

    kept : List (ℕ × Package)
    kept = filter (λ e. test e.1) shelf.entries

-- The datasets at some numbers, and the page of them in the order of a search, by which no two datasets are equal.
use Rattle.std.proofs.Common.{◌≡◌, ◌∙◌, ℕ, ◌+◌, ◌<◌, ◌||◌, ◌&&◌, not, false, List, [], ◌∷◌, ◌++◌, Some, refl, sym, ap}
use Rattle.std.proofs.Common.{ap₂, drop, get_or, length, min, take}
use Rattle.std.specs.Prelude.{IsPermutation, IsTrue}
use Rattle.std.specs.declared.cmp.Ordering.{Ordering}
use Rattle.std.specs.declared.cmp.Ordering.TheVariants.{Less, Equal, Greater}
use Rattle.std.specs.List.{list_any}
use Rattle.std.specs.Ordering.{is_eq, ordering_then}
use Rattle.portal_base.specs.Ordered.{are_apart, ascending}
use Rattle.portal_base.proofs.Inserted.{AreApart, both_false}
use Rattle.portal_base.proofs.Removed.{AreApart-are_apart}
use Rattle.packages.proofs.ShelfLemmas.{datasets_at-more}
use Rattle.packages.specs.Shelf.{ShelfState, datasets_at, package_at}
use Rattle.packages.specs.declared.package.Package.{Package}
use Rattle.sorted_pages.proofs.PageLemmas.{page_of_first}
use Rattle.sorted_pages.proofs.SelectLemmas.{ascending-length, ascending-permutation}
use Rattle.dataset_search.specs.Order.{have_distinct_names, key_cmp, name_cmp, search_cmp, search_cmp_total}
use Rattle.dataset_search.specs.declared.sort.SortKey.{SortKey}

-- ---- the datasets at some numbers

-- One number more adds the dataset there.
pub datasets_at-lent : (shelf : ShelfState) (numbers : List ℕ) (i : ℕ) (there lent : Package)
    (before after : List Package) → i < length numbers → package_at (get_or numbers i 0) shelf ≡ Some there
    → lent ≡ there → before ≡ datasets_at shelf (take i numbers) → after ≡ before ++ lent ∷ []
    → after ≡ datasets_at shelf (take (i + 1) numbers)
datasets_at-lent shelf numbers i there lent before after within found same so_far added =
    added ∙ ap₂ (λ (ds : List Package) (d : Package). ds ++ d ∷ []) so_far same
    ∙ sym (datasets_at-more shelf numbers i there within found)

-- ---- datasets of which no two are equal

not_tied : (r s : Ordering) → is_eq s ≡ false → is_eq (ordering_then r s) ≡ false
not_tied Less s h = refl
not_tied Equal s h = h
not_tied Greater s h = refl

-- Datasets with different names aren't tied by a search, since it compares by name last.
apart_names : (keys : List SortKey) (x y : Package) → is_eq (name_cmp x y) ≡ false
    → is_eq (search_cmp keys x y) ≡ false
apart_names [] x y h = h
apart_names (key ∷ keys) x y h = not_tied (key_cmp key x y) (search_cmp keys x y) (apart_names keys x y h)

none_alike : (keys : List SortKey) (x : Package) (ys : List Package) → list_any (λ y. is_eq (name_cmp y x)) ys ≡ false
    → list_any (λ y. is_eq (search_cmp keys y x)) ys ≡ false
none_alike keys x [] none = refl
none_alike keys x (y ∷ ys) none =
    let parts = both_false (is_eq (name_cmp y x)) (list_any (λ z. is_eq (name_cmp z x)) ys) none in
    ap₂ (λ a b. a || b) (apart_names keys y x parts.0) (none_alike keys x ys parts.1)

pub apart-search : (keys : List SortKey) (datasets : List Package) → AreApart name_cmp datasets
    → AreApart (search_cmp keys) datasets
apart-search keys [] apart = tt
apart-search keys (d ∷ ds) apart = (none_alike keys d ds apart.0, apart-search keys ds apart.1)

apart-test : (keys : List SortKey) (datasets : List Package) → AreApart name_cmp datasets
    → IsTrue (are_apart (search_cmp keys) datasets)
apart-test keys [] apart = refl
apart-test keys (d ∷ ds) apart =
    ap₂ (λ a b. not a && b) (none_alike keys d ds apart.0) (apart-test keys ds apart.1)

-- No two datasets with different names are equal in the order of a search.
pub distinct-search : (keys : List SortKey) (datasets : List Package) → IsTrue (have_distinct_names datasets)
    → IsTrue (are_apart (search_cmp keys) datasets)
distinct-search keys datasets distinct = apart-test keys datasets (AreApart-are_apart name_cmp datasets distinct)

-- ---- a page

-- The page of the first datasets in the order is that of all datasets, however they stand.
pub page_of_found : (keys : List SortKey) (limit offset end : ℕ) (listed datasets first : List Package)
    → IsTrue (have_distinct_names listed) → IsPermutation listed datasets → end ≡ min (offset + limit) (length listed)
    → first ≡ take end (ascending (search_cmp keys) listed)
    → take limit (drop offset first) ≡ take limit (drop offset (ascending (search_cmp keys) datasets))
page_of_found keys limit offset end listed datasets first distinct moved at is =
    page_of_first limit offset end (ascending (search_cmp keys) listed) first
    (at ∙ ap (min (offset + limit)) (sym (ascending-length (search_cmp keys) listed))) is
    ∙ ap (λ (ds : List Package). take limit (drop offset ds))
    (ascending-permutation (search_cmp keys) listed datasets (search_cmp_total keys)
    (distinct-search keys listed distinct) moved)

-- The same for the values that the code has in place of the sort and of the datasets.
pub page_of_lent : (keys sort : List SortKey) (limit offset end : ℕ) (lent listed datasets first : List Package)
    → keys ≡ sort → lent ≡ listed → IsTrue (have_distinct_names listed) → IsPermutation listed datasets
    → end ≡ min (offset + limit) (length lent) → first ≡ take end (ascending (search_cmp keys) lent)
    → take limit (drop offset first) ≡ take limit (drop offset (ascending (search_cmp sort) datasets))
page_of_lent keys sort limit offset end lent listed datasets first same_keys same distinct moved at is =
    page_of_found sort limit offset end listed datasets first distinct moved
    (at ∙ ap (λ (ds : List Package). min (offset + limit) (length ds)) same)
    (is ∙ ap₂ (λ (ks : List SortKey) (ds : List Package). take end (ascending (search_cmp ks) ds)) same_keys same)

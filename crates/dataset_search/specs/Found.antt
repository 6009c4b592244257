-- What a search finds (CKAN 2.10, package_search): datasets that match its texts and that its flags don't leave out, in
-- order, a page of them.
use Rattle.std.specs.Prelude.{ℕ, Bool, true, false, not, ◌&&◌, ◌||◌, List, ◌++◌, drop, filter, take}
use Rattle.std.specs.Option.{option_map_or}
use Rattle.portal_base.specs.Ordered.{ascending}
use Rattle.packages.specs.Shelf.{ShelfState, package_at}
use Rattle.packages.specs.declared.package.Package.{Package}
use Rattle.packages.specs.declared.package.State.{State}
use Rattle.packages.specs.declared.package.State.TheVariants.{Active, Deleted, Draft}
use Rattle.search_index.specs.Index.{numbers_found}
use Rattle.search_index.specs.Items.{matches}
use Rattle.search_index.specs.Reading.{items_of}
use Rattle.dataset_search.specs.Order.{search_cmp}
use Rattle.dataset_search.specs.declared.search.Search.{Search}

-- A search takes active datasets, and drafts if it asks for them, but never deleted ones.
abbrev pub takes_state : Search → State → Bool
takes_state search Draft = search.include_drafts
takes_state search Active = true
takes_state search Deleted = false

-- It takes private datasets if it asks for them. A private draft needs both flags, whoever the caller is.
abbrev pub takes : Search → Package → Bool
takes search dataset = takes_state search dataset.state && (not dataset.private || search.include_private)

-- The dataset matches both texts of the search, and its flags take it.
abbrev pub is_found : Search → Package → Bool
is_found search dataset = matches (items_of search.q ++ items_of search.fq) dataset && takes search dataset

-- what the search finds among these datasets
abbrev pub found : Search → List Package → List Package
found search datasets = filter (is_found search) datasets

-- the datasets of the search's page, if these are found
abbrev pub page : Search → List Package → List Package
page search datasets = take search.page.limit (drop search.page.offset (ascending (search_cmp search.sort) datasets))

-- the numbers whose datasets pass a test
abbrev pub numbers_with : (Package → Bool) → ShelfState → List ℕ → List ℕ
numbers_with test shelf numbers = filter (λ number. option_map_or test (package_at number shelf) false) numbers

-- the numbers of the shelf's datasets that match both texts of the search, whoever sees them
abbrev pub numbers_matching : Search → ShelfState → List ℕ
numbers_matching search shelf = numbers_found (items_of search.q ++ items_of search.fq) shelf

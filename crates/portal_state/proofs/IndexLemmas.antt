-- The indexes of a shelf after its changes, and datasets that go by their ids.
use Rattle.std.proofs.Common.{◌≡◌, ◌∙◌, ◌||◌, ℕ, Bool, true, false, not, List, Some, None, map, ap, sym, subst, true≢false}
use Rattle.std.proofs.Common.{◌+◌, ◌++◌, ◌<◌, [], ◌∷◌, Option, get_or, length, refl, take}
use Rattle.std.specs.Bool.{then_some}
use Rattle.std.specs.Prelude.{IfNone, find}
use Rattle.std.proofs.lemmas.List.{take_more}
use Rattle.std.specs.Option.{option_and_then}
use Rattle.std.specs.Ordering.{is_eq}
use Rattle.std.specs.Str.{bytes_eq}
use Rattle.std.proofs.lemmas.Map.Text.{is_eq-slice_cmp}
use Rattle.std.proofs.lemmas.Slice.Eq.{bytes_eq-Decides}
use Rattle.portal_base.proofs.Filtered.{filter-all}
use Rattle.portal_base.proofs.Unique.{IsIn}
use Rattle.portal_base.specs.Ordered.{IsAscending, ascending, dropped}
use Rattle.packages.specs.Named.{is_named}
use Rattle.packages.proofs.DatasetLemmas.{IsAscending-datasets}
use Rattle.packages.proofs.EntryLemmas.{package_at-IsIn}
use Rattle.packages.proofs.FindLemmas.{IsIn-find, fails, find-none}
use Rattle.packages.proofs.ShelfLemmas.{find_named, named_alone}
use Rattle.dataset_answers.specs.Changed.{dataset_at_id}
use Rattle.packages.specs.Order.{dataset_cmp}
use Rattle.packages.specs.Shelf.{ShelfState, IsValidShelf, datasets_of, number_in, package_at, with_package, with_room}
use Rattle.packages.specs.declared.package.Package.{Package}
use Rattle.facets.specs.Counters as counters
use Rattle.search_index.specs.Index as index
use Rattle.search_index.specs.Index.{IndexState}
use Rattle.portal_state.specs.Indexes.{AreSameIndexes, IsIndexed}
use Rattle.portal_state.specs.Stepped.{without_ids}
use Rattle.portal_state.specs.declared.indexes.Indexes.{Indexes}

-- Indexes with the same entries are those of a shelf with the same datasets.
pub same_indexed : (shelf after : ShelfState) (old new : Indexes) → IsIndexed shelf old → AreSameIndexes old new
    → after.entries ≡ shelf.entries → IsValidShelf after → IsIndexed after new
same_indexed shelf after old new indexed same entries valid = record {
  valid = valid;
  terms = same.terms ∙ indexed.terms ∙ ap (map index.entry_of) (sym entries);
  counts = same.counts ∙ indexed.counts
      ∙ ap (λ es. map counters.entry_of (ascending dataset_cmp (map (λ e. e.1) es))) (sym entries);
}

-- An index that stands for a shelf with a dataset at a number stands for that shelf without room.
pub stands_put : (terms : IndexState) (shelf after : ShelfState) (n m : ℕ) (d : Package)
    → after ≡ with_room None (with_package n d shelf) → m ≡ n → index.StandsFor terms (with_package m d shelf)
    → index.StandsFor terms after
stands_put terms shelf after n m d put same stands =
    subst (index.StandsFor terms) (sym put)
    (subst (λ (k : ℕ). index.StandsFor terms (with_package k d shelf)) same stands)

-- ---- datasets on a valid shelf

own_id : (d : Package) → is_named d.id d ≡ true
own_id d = ap (λ b. b || bytes_eq d.name d.id) ((bytes_eq-Decides d.id d.id).1 refl)

-- The datasets of a valid shelf ascend by id.
pub datasets-up : (shelf : ShelfState) → IsValidShelf shelf → IsAscending dataset_cmp (datasets_of shelf)
datasets-up shelf valid =
    IsAscending-datasets shelf.entries valid.numbers
    (λ e f m n same. valid.apart e.1.id e.0 f.0 e.1 f.1
    (package_at-IsIn e.0 e.1 shelf.entries valid.numbers m) (package_at-IsIn f.0 f.1 shelf.entries valid.numbers n)
    (own_id e.1) (subst (λ (key : List ℕ). is_named key f.1 ≡ true) (sym same) (own_id f.1)))

-- ---- a dataset that goes by its id

first_fails : (a b : Bool) → (a || b) ≡ false → a ≡ false
first_fails true b is = absurd (cc)
first_fails false b is = refl

-- If no dataset has the id, none goes.
pub none-goes : (id : List ℕ) (shelf : ShelfState) → IsValidShelf shelf → number_in id shelf ≡ None
    → dropped (dataset_at_id id) (datasets_of shelf) ≡ datasets_of shelf
none-goes id shelf valid none =
    let finds : find (is_named id) (datasets_of shelf) ≡ None =
    find_named id shelf valid ∙ ap (option_and_then (λ (n : ℕ). package_at n shelf)) none in
    filter-all (λ (d : Package). not (is_eq (dataset_at_id id d))) (datasets_of shelf)
    (λ d m. ap not (is_eq-slice_cmp d.id id
    ∙ first_fails (bytes_eq d.id id) (bytes_eq d.name id) (find-none (is_named id) d (datasets_of shelf) finds m)))

-- So it is if the one that the id leads to has another id.
pub other-goes : (id : List ℕ) (shelf : ShelfState) (n : ℕ) (other : Package) → IsValidShelf shelf
    → number_in id shelf ≡ Some n → package_at n shelf ≡ Some other → bytes_eq other.id id ≡ false
    → dropped (dataset_at_id id) (datasets_of shelf) ≡ datasets_of shelf
other-goes id shelf n other valid leads stands unlike =
    filter-all (λ (d : Package). not (is_eq (dataset_at_id id d))) (datasets_of shelf)
    (λ d m. ap not (is_eq-slice_cmp d.id id ∙ fails (bytes_eq d.id id) (λ like.
    let same : d ≡ other = named_alone id shelf valid d other m found.0
    (ap (λ b. b || bytes_eq d.name id) like) found.1 in
    true≢false (sym like ∙ ap (λ (e : Package). bytes_eq e.id id) same ∙ unlike))))
  where
    finds : find (is_named id) (datasets_of shelf) ≡ Some other
    finds =
        find_named id shelf valid ∙ ap (option_and_then (λ (k : ℕ). package_at k shelf)) leads ∙ stands

    found : IsIn other (datasets_of shelf) × (is_named id other ≡ true)
    found = IsIn-find (is_named id) other (datasets_of shelf) finds

pub none_or : {X : Type 0} (o : Option X) (A : Type 0) → A → IfNone o A
none_or None A a = a
none_or (Some x) A a = tt

-- No dataset goes, unless the one that the id leads to has it.
pub kept-unless : (id : List ℕ) (shelf : ShelfState) (n : ℕ) (other : Package) (result : Option ℕ) (has : Bool)
    → IsValidShelf shelf → number_in id shelf ≡ Some n → package_at n shelf ≡ Some other → result ≡ then_some has n
    → has ≡ bytes_eq other.id id
    → IfNone result (dropped (dataset_at_id id) (datasets_of shelf) ≡ datasets_of shelf)
kept-unless id shelf n other result true valid leads stands is same =
    subst (λ (o : Option ℕ). IfNone o (dropped (dataset_at_id id) (datasets_of shelf) ≡ datasets_of shelf)) (sym is) tt
kept-unless id shelf n other result false valid leads stands is same =
    none_or result _ (other-goes id shelf n other valid leads stands (sym same))

-- ---- datasets that go one after the other

without_ids-more : (ids more : List (List ℕ)) (ds : List Package) → without_ids (ids ++ more) ds ≡ without_ids more (without_ids ids ds)
without_ids-more [] more ds = refl
without_ids-more (id ∷ ids) more ds = without_ids-more ids more (dropped (dataset_at_id id) ds)

-- One id more takes its dataset.
pub without_ids-next : (ids : List (List ℕ)) (i : ℕ) (id : List ℕ) (ds : List Package) → i < length ids
    → id ≡ get_or ids i id → without_ids (take (i + 1) ids) ds ≡ dropped (dataset_at_id id) (without_ids (take i ids) ds)
without_ids-next ids i id ds within is =
    ap (λ (l : List (List ℕ)). without_ids l ds) (take_more ids i id within)
    ∙ without_ids-more (take i ids) (get_or ids i id ∷ []) ds
    ∙ ap (λ (k : List ℕ). dropped (dataset_at_id k) (without_ids (take i ids) ds)) (sym is)

-- The order of the datasets that a search finds: by one key of its sort after another, and last by name.
use Rattle.std.specs.Prelude.{refl, List, [], ◌∷◌, Bool}
use Rattle.std.specs.declared.cmp.Ordering.{Ordering}
use Rattle.std.specs.declared.cmp.Ordering.TheVariants.{Equal}
use Rattle.std.specs.Cmp.{IsTotalOrder}
use Rattle.std.specs.Cmp.Lexicographic.{slice_cmp}
use Rattle.std.specs.Ordering.{int_cmp, nat_cmp, on, then_cmp}
use Rattle.std.proofs.lemmas.Cmp.{int_cmp_total, nat_list_cmp_total, on_total, then_total}
use Rattle.portal_base.specs.Ordered.{are_apart}
use Rattle.packages.specs.declared.package.Package.{Package}
use Rattle.sorted_pages.specs.Direction.{turned, turned_total}
use Rattle.dataset_search.specs.declared.sort.SortField.{SortField}
use Rattle.dataset_search.specs.declared.sort.SortField.TheVariants.{Created, Modified, Name, Score, Title}
use Rattle.dataset_search.specs.declared.sort.SortKey.{SortKey}

-- by the bytes of the names
abbrev pub name_cmp : Package → Package → Ordering
name_cmp = on (λ dataset. dataset.name) (slice_cmp nat_cmp)

abbrev pub all_equal : Package → Package → Ordering
all_equal one other = Equal

-- Texts are compared by bytes, and moments by time. All datasets have one score.
abbrev pub field_cmp : SortField → Package → Package → Ordering
field_cmp Name = name_cmp
field_cmp Title = on (λ dataset. dataset.title) (slice_cmp nat_cmp)
field_cmp Modified = on (λ dataset. dataset.modified) int_cmp
field_cmp Created = on (λ dataset. dataset.created) int_cmp
field_cmp Score = all_equal

abbrev pub key_cmp : SortKey → Package → Package → Ordering
key_cmp key = turned key.direction (field_cmp key.field)

-- By one key after another. Datasets that no key tells apart ascend by name, whatever the keys' directions.
abbrev pub search_cmp : List SortKey → Package → Package → Ordering
search_cmp [] = name_cmp
search_cmp (key ∷ keys) = then_cmp (key_cmp key) (search_cmp keys)

-- no two of the datasets have one name
abbrev pub have_distinct_names : List Package → Bool
have_distinct_names datasets = are_apart name_cmp datasets

-- ---- the orders are total

pub name_cmp_total : IsTotalOrder name_cmp
name_cmp_total = on_total (λ dataset. dataset.name) nat_list_cmp_total

all_equal_total : IsTotalOrder all_equal
all_equal_total = record { antisymm = λ x y. refl; trans = λ x y z less more. less; congr = λ x y z equal. refl }

pub field_cmp_total : (field : SortField) → IsTotalOrder (field_cmp field)
field_cmp_total Name = name_cmp_total
field_cmp_total Title = on_total (λ dataset. dataset.title) nat_list_cmp_total
field_cmp_total Modified = on_total (λ dataset. dataset.modified) int_cmp_total
field_cmp_total Created = on_total (λ dataset. dataset.created) int_cmp_total
field_cmp_total Score = all_equal_total

pub search_cmp_total : (keys : List SortKey) → IsTotalOrder (search_cmp keys)
search_cmp_total [] = name_cmp_total
search_cmp_total (key ∷ keys) =
    then_total (turned_total key.direction (field_cmp_total key.field)) (search_cmp_total keys)

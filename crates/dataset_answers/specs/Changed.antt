-- Changes of the datasets: entries that are set or removed, each by its id.
use Rattle.std.specs.Prelude.{ℕ, List, Bool}
use Rattle.std.specs.declared.cmp.Ordering.{Ordering}
use Rattle.std.specs.List.{list_any}
use Rattle.std.specs.Ordering.{nat_cmp}
use Rattle.std.specs.Cmp.Lexicographic.{slice_cmp}
use Rattle.std.specs.Str.{bytes_eq}
use Rattle.portal_base.specs.Ordered.{upserted, dropped}
use Rattle.packages.specs.Order.{dataset_cmp}
use Rattle.packages.specs.declared.package.Package.{Package}
use Rattle.dataset_answers.specs.declared.change.DatasetChange.{DatasetChange}
use Rattle.dataset_answers.specs.declared.change.DatasetChange.TheVariants.{Create, Replace, Remove}

-- the order of a dataset's id against an id
abbrev pub dataset_at_id : List ℕ → Package → Ordering
dataset_at_id id dataset = slice_cmp nat_cmp dataset.id id

-- the datasets after the change
abbrev pub changed_datasets : DatasetChange → List Package → List Package
changed_datasets (Create dataset) datasets = upserted dataset_cmp dataset datasets
changed_datasets (Replace dataset) datasets = upserted dataset_cmp dataset datasets
changed_datasets (Remove id) datasets = dropped (dataset_at_id id) datasets

-- some dataset has this name
abbrev pub has_name : List ℕ → List Package → Bool
has_name name datasets = list_any (λ d. bytes_eq d.name name) datasets

-- some dataset has this id
abbrev pub has_id : List ℕ → List Package → Bool
has_id id datasets = list_any (λ d. bytes_eq d.id id) datasets

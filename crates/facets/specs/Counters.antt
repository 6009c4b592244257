-- Counters: the facts of datasets by their ids.
use Rattle.std.specs.Prelude.{◌≡◌, ℕ, Bool, List, map, filter}
use Rattle.std.specs.List.{list_any}
use Rattle.std.specs.Str.{bytes_eq}
use Rattle.std.specs.declared.cmp.Ordering.{Ordering}
use Rattle.std.specs.Ordering.{nat_cmp}
use Rattle.std.specs.Cmp.Lexicographic.{slice_cmp}
use Rattle.portal_base.specs.Ordered.{dropped, upserted}
use Rattle.packages.specs.declared.package.Package.{Package}
use Rattle.visibility.specs.declared.class.Class.{Class}
use Rattle.facets.specs.Counts.{Facet, count_with, counts_by}
use Rattle.facets.specs.Facts.{facts_of, is_one_of, same_class, texts_at}
use Rattle.facets.specs.declared.facts.Facts.{Facts}
use Rattle.facets.specs.declared.field.FacetField.{FacetField}

-- a dataset's id with its facts
abbrev pub Entry : Type 0
Entry = List ℕ × Facts

-- by id
abbrev pub entry_cmp : Entry → Entry → Ordering
entry_cmp e f = slice_cmp nat_cmp e.0 f.0

-- the order of an entry's id against an id
abbrev pub at_id : List ℕ → Entry → Ordering
at_id id e = slice_cmp nat_cmp e.0 id

-- The facts of the counted datasets, ordered by id. Under the ids of `room` facts can be entered without an allocation.
pub record CountersState : Type 0 where
  pub entries : List Entry
  pub room : List (List ℕ)

-- whether there is room for facts under the id
abbrev pub has_room : List ℕ → CountersState → Bool
has_room id counters = list_any (bytes_eq id) counters.room

-- with these facts under the id, in place of those there
abbrev pub entries_with : List ℕ → Facts → CountersState → List Entry
entries_with id facts counters = upserted entry_cmp (id, facts) counters.entries

-- without the facts under the id
abbrev pub entries_without : List ℕ → CountersState → List Entry
entries_without id counters = dropped (at_id id) counters.entries

-- a dataset's id with its facts
abbrev pub entry_of : Package → Entry
entry_of dataset = (dataset.id, facts_of dataset)

-- The counters have the facts of these datasets and no others.
abbrev pub StandsFor : CountersState → List Package → Type 0
StandsFor counters datasets = counters.entries ≡ map entry_of datasets

-- ---- counts by class

-- the facts of the datasets in a class
abbrev pub facts_in_class : Class → CountersState → List Facts
facts_in_class class counters = filter (λ facts. same_class facts.class class) (map (λ e. e.1) counters.entries)

-- the facts of the datasets in any of the classes
abbrev pub facts_in_classes : List Class → CountersState → List Facts
facts_in_classes classes counters = filter (λ facts. is_one_of classes facts.class) (map (λ e. e.1) counters.entries)

-- how many datasets of the class have the value
abbrev pub class_count : Class → FacetField → List ℕ → CountersState → ℕ
class_count class field value counters = count_with (texts_at field) value (facts_in_class class counters)

-- each value of the classes' datasets with its count, ordered as facets are
abbrev pub class_counts : List Class → FacetField → CountersState → List Facet
class_counts classes field counters = counts_by (texts_at field) (facts_in_classes classes counters)

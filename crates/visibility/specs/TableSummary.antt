-- Summaries of the DataStore's tables: which resources have one, and which resources their foreign keys reference.
use Rattle.std.specs.Prelude.{ℕ, ◌==◌, Bool, not, ◌&&◌, List, filter}
use Rattle.std.specs.List.{list_any}
use Rattle.std.specs.Str.{bytes_eq}
use Rattle.packages.specs.declared.package.Package.{Package}
use Rattle.packages.specs.declared.package.Resource.{Resource}

-- A table: its dataset's id, its resource's number, and the numbers of the resources that its foreign keys reference,
-- which are resources of the same dataset.
pub record TableSummary : Type 0 where
  pub dataset : List ℕ
  pub number : ℕ
  pub targets : List ℕ

-- the resource of this number of the dataset has a table
abbrev pub has_table : List TableSummary → List ℕ → ℕ → Bool
has_table summaries dataset number =
    list_any (λ (s : TableSummary). bytes_eq s.dataset dataset && s.number == number) summaries

-- one of the resources has the number
abbrev pub is_among : List Resource → ℕ → Bool
is_among resources number = list_any (λ (r : Resource). r.number == number) resources

-- one of the foreign keys' targets isn't among these resources
abbrev pub refers_outside : List Resource → List ℕ → Bool
refers_outside resources targets = list_any (λ number. not (is_among resources number)) targets

-- If the dataset keeps only these resources, a table that is kept references a resource that isn't kept.
abbrev pub breaks_references : List TableSummary → List ℕ → List Resource → Bool
breaks_references summaries dataset resources =
    list_any
    (λ (s : TableSummary).
    bytes_eq s.dataset dataset && (is_among resources s.number && refers_outside resources s.targets))
    summaries

-- ---- what a caller sees

-- the table belongs to one of the datasets
abbrev pub is_table_of_any : List Package → TableSummary → Bool
is_table_of_any datasets s = list_any (λ (d : Package). bytes_eq s.dataset d.id) datasets

-- the tables of the datasets that the caller sees
abbrev pub summaries_seen : List Package → List TableSummary → List TableSummary
summaries_seen datasets summaries = filter (is_table_of_any datasets) summaries

-- For a dataset that the caller sees, tests on all tables and on the tables that the caller sees agree.
use Rattle.std.proofs.Common.{◌≡◌, ℕ, ◌==◌, Bool, true, false, ◌&&◌, List, refl, sym, subst}
use Rattle.std.proofs.lemmas.Map.Views.{any-filter_same}
use Rattle.std.proofs.lemmas.Slice.Eq.{bytes_eq-Decides}
use Rattle.std.specs.List.{list_any}
use Rattle.std.specs.Str.{bytes_eq}
use Rattle.packages.specs.declared.package.Package.{Package}
use Rattle.packages.specs.declared.package.Resource.{Resource}
use Rattle.visibility.specs.TableSummary.{TableSummary, has_table, summaries_seen, is_among, is_table_of_any}
use Rattle.visibility.specs.TableSummary.{breaks_references, refers_outside}

-- the id is that of one of the datasets
abbrev pub IsIdAmong : List ℕ → List Package → Type 0
IsIdAmong id datasets = list_any (λ (d : Package). bytes_eq id d.id) datasets ≡ true

first_holds : (a b : Bool) → (a && b) ≡ true → a ≡ true
first_holds true b is = refl
first_holds false b is = absurd (cc)

-- the caller sees a table of this dataset
own-seen : (id : List ℕ) (datasets : List Package) → IsIdAmong id datasets → (s : TableSummary)
    → bytes_eq s.dataset id ≡ true → is_table_of_any datasets s ≡ true
own-seen id datasets among s own =
    subst (λ (i : List ℕ). IsIdAmong i datasets) (sym ((bytes_eq-Decides s.dataset id).0 own)) among

-- If only tables of this dataset pass a test, some table passes it just if one that the caller sees does.
own-tested : (datasets : List Package) (summaries : List TableSummary) (id : List ℕ) (more : TableSummary → Bool)
    → IsIdAmong id datasets
    → list_any (λ (s : TableSummary). bytes_eq s.dataset id && more s) (summaries_seen datasets summaries)
    ≡ list_any (λ (s : TableSummary). bytes_eq s.dataset id && more s) summaries
own-tested datasets summaries id more among =
    any-filter_same (λ (s : TableSummary). bytes_eq s.dataset id && more s) (is_table_of_any datasets) true
    (λ s passes. own-seen id datasets among s (first_holds (bytes_eq s.dataset id) (more s) passes)) summaries

pub has_table_seen : (datasets : List Package) (summaries : List TableSummary) (id : List ℕ) (number : ℕ)
    → IsIdAmong id datasets → has_table (summaries_seen datasets summaries) id number ≡ has_table summaries id number
has_table_seen datasets summaries id number among =
    own-tested datasets summaries id (λ (s : TableSummary). s.number == number) among

pub breaks_references_seen : (datasets : List Package) (summaries : List TableSummary) (id : List ℕ)
    (resources : List Resource) → IsIdAmong id datasets
    → breaks_references (summaries_seen datasets summaries) id resources ≡ breaks_references summaries id resources
breaks_references_seen datasets summaries id resources among =
    own-tested datasets summaries id
    (λ (s : TableSummary). is_among resources s.number && refers_outside resources s.targets) among

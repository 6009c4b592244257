-- The report of datasets: a line for each organization, and one for all of them.
use Rattle.std.specs.Prelude.{ℕ, Bool, true, false, ◌&&◌, List, [], ◌∷◌, ◌++◌, map, filter, length, codes, decimal, sum_by}
use Rattle.std.specs.List.{flat_map}
use Rattle.std.specs.Str.{bytes_eq}
use Rattle.org_roles.specs.declared.entry.Org.{Org}
use Rattle.packages.specs.declared.package.Package.{Package}
use Rattle.packages.specs.declared.package.State.{State}
use Rattle.packages.specs.declared.package.State.TheVariants.{Draft, Active, Deleted}
use Rattle.visibility.specs.Visibility.{is_harvested}
use Rattle.portal_reports.specs.Columns.{line}
use Rattle.portal_reports.specs.declared.datasets.Column.{Column}
use Rattle.portal_reports.specs.declared.datasets.Column.TheVariants.{Datasets, Private, Drafts, Harvested}

-- ---- what is counted

abbrev pub is_draft : State → Bool
is_draft Draft = true
is_draft Active = false
is_draft Deleted = false

-- A draft or an active dataset is counted, and no deleted one.
abbrev pub is_counted : State → Bool
is_counted Draft = true
is_counted Active = true
is_counted Deleted = false

-- what a column tells of a dataset that is counted
abbrev pub is_of : Column → Package → Bool
is_of Datasets dataset = true
is_of Private dataset = dataset.private
is_of Drafts dataset = is_draft dataset.state
is_of Harvested dataset = is_harvested dataset

-- the dataset is counted in the column
abbrev pub is_in : Column → Package → Bool
is_in column dataset = is_counted dataset.state && is_of column dataset

-- how many of the organization's datasets the column counts
abbrev pub count_in : List Package → List ℕ → Column → ℕ
count_in datasets org column = length (filter (λ d. bytes_eq d.owner_org org && is_in column d) datasets)

-- ---- the lines

-- the counts of the columns, in the order of the columns
abbrev pub numbers_of : (Column → ℕ) → List ℕ
numbers_of count = count Datasets ∷ count Private ∷ count Drafts ∷ count Harvested ∷ []

-- a line of these counts
abbrev pub counts_line : List ℕ → (Column → ℕ) → List ℕ
counts_line name count = line 40 name (map decimal (numbers_of count))

abbrev pub datasets_header : List ℕ
datasets_header =
    line 40 (codes "organization")
    (codes "datasets" ∷ codes "private" ∷ codes "drafts" ∷ codes "harvested" ∷ [])

-- a line of an organization
abbrev pub org_line : List Package → Org → List ℕ
org_line datasets org = counts_line org.name (count_in datasets org.name)

-- the line of all organizations together
abbrev pub total_line : List Package → List Org → List ℕ
total_line datasets orgs =
    counts_line (codes "total") (λ column. sum_by (λ (org : Org). count_in datasets org.name column) orgs)

-- the report on these organizations and datasets
abbrev pub datasets_text : List Org → List Package → List ℕ
datasets_text orgs datasets =
    datasets_header ++ flat_map (org_line datasets) orgs ++ total_line datasets orgs

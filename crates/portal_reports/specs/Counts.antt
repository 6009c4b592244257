-- The counts from which the report of datasets is made.
use Rattle.std.specs.Prelude.{◌≡◌, ℕ, List}
use Rattle.org_roles.specs.declared.entry.Org.{Org}
use Rattle.packages.specs.Owners.{count_at}
use Rattle.packages.specs.declared.package.Package.{Package}
use Rattle.portal_reports.specs.Datasets.{count_in, counts_line}
use Rattle.portal_reports.specs.declared.datasets.Column.{Column}
use Rattle.portal_reports.specs.declared.datasets.Column.TheVariants.{Datasets, Private, Drafts, Harvested}
use Rattle.portal_reports.specs.declared.datasets.Counts.{Counts}

-- the organization's count in the column
abbrev pub counted : Counts → List ℕ → Column → ℕ
counted counts org Datasets = count_at org counts.datasets
counted counts org Private = count_at org counts.private
counted counts org Drafts = count_at org counts.drafts
counted counts org Harvested = count_at org counts.harvested

-- the organization's line
abbrev pub counted_line : Counts → Org → List ℕ
counted_line counts org = counts_line org.name (counted counts org.name)

-- The counts are those of these datasets.
abbrev pub AreCounts : List Package → Counts → Type 0
AreCounts datasets counts = (org : List ℕ) (column : Column) → counted counts org column ≡ count_in datasets org column

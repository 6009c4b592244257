-- What the rows of sources and jobs in a store are rows of: harvest sources, and jobs that aren't running.
use Rattle.std.specs.Prelude.{◌≡◌, List, ◌++◌, All, map}
use Rattle.std.specs.Cmp.{IsTotalOrder}
use Rattle.std.specs.Cmp.Lexicographic.{slice_cmp}
use Rattle.std.specs.Ordering.{nat_cmp}
use Rattle.std.specs.declared.cmp.Ordering.{Ordering}
use Rattle.std.proofs.lemmas.Cmp.{nat_list_cmp_total, on_total}
use Rattle.portal_base.specs.Ordered.{IsAscending}
use Rattle.portal_keeper.specs.declared.row.KeptRow.{KeptRow}
use Rattle.harvest_sources.specs.Jobs.{id_of_job}
use Rattle.harvest_sources.specs.declared.job.Job.{Job}
use Rattle.harvest_sources.specs.declared.source.HarvestSource.{HarvestSource}
use Rattle.harvest_rows.specs.Rows.{IsKeptJob, IsKeptSource, job_row, source_row}
use Rattle.harvest_rows.specs.declared.kept_harvests.KeptHarvests.{KeptHarvests}

-- by the source's name
abbrev pub kept_source_cmp : HarvestSource → HarvestSource → Ordering
kept_source_cmp s t = slice_cmp nat_cmp s.name t.name

pub kept_source_cmp_total : IsTotalOrder kept_source_cmp
kept_source_cmp_total = on_total (λ s. s.name) nat_list_cmp_total

-- by the bytes of the job's id
abbrev pub kept_job_cmp : Job → Job → Ordering
kept_job_cmp j k = slice_cmp nat_cmp (id_of_job j) (id_of_job k)

pub kept_job_cmp_total : IsTotalOrder kept_job_cmp
kept_job_cmp_total = on_total id_of_job nat_list_cmp_total

-- Values that have rows in a store. Sources ascend by name, and jobs by the bytes of their ids.
pub record AreKeptHarvests (kept : KeptHarvests) : Type 0 where
  pub sources : All IsKeptSource kept.sources
  pub sources_ascend : IsAscending kept_source_cmp kept.sources
  pub jobs : All IsKeptJob kept.jobs
  pub jobs_ascend : IsAscending kept_job_cmp kept.jobs

-- the rows of the values, in the order of a store
abbrev pub rows_of_harvests : KeptHarvests → List KeptRow
rows_of_harvests kept = map source_row kept.sources ++ map job_row kept.jobs

-- The rows are those of these values.
abbrev pub AreHarvestRows : KeptHarvests → List KeptRow → Type 0
AreHarvestRows kept rows = AreKeptHarvests kept × (rows_of_harvests kept ≡ rows)

-- What a round has done for a source with a new job, once it is over.
use Rattle.std.proofs.Common.{◌≡◌, ℕ, Bool, List, Some}
use Rattle.std.specs.List.{Contains}
use Rattle.harvest_readings.specs.Harvests.{Documents}
use Rattle.harvest_results.specs.Effects.{HarvestState}
use Rattle.harvest_results.specs.Histories.{HasItsNames, IsFit}
use Rattle.harvest_results.specs.Results.{datasets_after}
use Rattle.harvest_sources.specs.Sources.{AreSources, SourceState, source_named}
use Rattle.harvest_sources.specs.declared.job.SourceReport.{SourceReport}
use Rattle.harvest_pool.specs.WholeRounds.{own_datasets, report_on, source_read, with_job_ended}
use Rattle.harvest_pool.proofs.SourceLemmas.{Each}

-- In this state the sources have their jobs, and each has its datasets and its names.
pub record AllFit (st : HarvestState) : Type 0 where
  pub sources : AreSources st.sources
  pub fit : Each (λ s. IsFit s.source st) st.sources
  pub named : Each (λ s. HasItsNames s.source st) st.sources

-- A round has harvested the source: what it leaves of it and of its datasets, and what it reports, by which fetches failed.
pub record IsHarvested (documents : Documents) (before after : HarvestState) (reports : List SourceReport)
    (s : SourceState) : Type 0 where
  pub failed : Bool
  pub has_failed : List ℕ → Bool
  pub source : source_named after.sources s.source.name
      ≡ Some (with_job_ended
      (report_on s.source.name (own_datasets s.source.name before.datasets) (source_read documents failed has_failed s.source))
      s)
  pub datasets : own_datasets s.source.name after.datasets
      ≡ datasets_after (own_datasets s.source.name before.datasets) (source_read documents failed has_failed s.source)
  pub reported : Contains reports
      (report_on s.source.name (own_datasets s.source.name before.datasets)
      (source_read documents failed has_failed s.source))

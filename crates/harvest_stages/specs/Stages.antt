-- The sources with their jobs as one value.
use Rattle.std.specs.Prelude.{ℕ, ◌-◌, Bool, List, Option, length, option_and_then, option_map, slice_get}
use Rattle.harvest_sources.specs.Sources.{SourceState, SourceWithRoom, source_named, states}
use Rattle.harvest_sources.specs.declared.job.SourceReport.{SourceReport}

-- the sources in memory, and whether one more fits without an allocation
pub record StagesWithRoom : Type 0 where
  pub stored : List SourceWithRoom
  pub room : Bool

-- the sources with their jobs, whatever room there is
abbrev pub sources_in : StagesWithRoom → List SourceState
sources_in stages = states stages.stored

-- the report on the source's last job, if it has one
abbrev pub report_in : SourceState → Option SourceReport
report_in s = option_map (λ job. job.report) (slice_get s.jobs (length s.jobs - 1))

-- that of the source of this name, if it is there
abbrev pub last_report : List ℕ → List SourceState → Option SourceReport
last_report name sources = option_and_then report_in (source_named sources name)

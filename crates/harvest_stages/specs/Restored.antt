-- The sources and jobs from which stages can be restored, and what is restored.
use Rattle.std.specs.Prelude.{Bool, true, false, not, ◌&&◌, ◌==◌, if◌then◌else◌, List, map, filter}
use Rattle.std.specs.Prelude.{Option, Some, None, nat_lt, nat_le, length}
use Rattle.std.specs.declared.cmp.Ordering.{Ordering}
use Rattle.std.specs.List.{count_by, list_all, list_any}
use Rattle.std.specs.Ordering.{nat_cmp}
use Rattle.std.specs.Cmp.{IsTotalOrder}
use Rattle.std.specs.Cmp.Lexicographic.{slice_cmp}
use Rattle.std.specs.Str.{bytes_eq}
use Rattle.std.proofs.lemmas.Cmp.{on_total, nat_list_cmp_total}
use Rattle.portal_base.specs.Ordered.{are_apart, ascending}
use Rattle.harvest_sources.specs.Jobs.{is_open, job_cmp}
use Rattle.harvest_sources.specs.Sources.{SourceState}
use Rattle.harvest_sources.specs.declared.job.Job.{Job}
use Rattle.harvest_sources.specs.declared.job.JobState.{JobState}
use Rattle.harvest_sources.specs.declared.job.JobState.TheVariants.{New, Running, Finished, Broken}
use Rattle.harvest_sources.specs.declared.job.SourceReport.{SourceReport}
use Rattle.harvest_sources.specs.declared.source.HarvestSource.{HarvestSource}

-- ---- the jobs of a source

-- by name
abbrev pub name_cmp : HarvestSource → HarvestSource → Ordering
name_cmp s t = slice_cmp nat_cmp s.name t.name

pub name_cmp_total : IsTotalOrder name_cmp
name_cmp_total = on_total (λ s. s.name) nat_list_cmp_total

-- the job is one of the source
abbrev pub is_of : HarvestSource → Job → Bool
is_of source job = bytes_eq source.name job.source

-- those of the jobs that are the source's
abbrev pub jobs_of : List Job → HarvestSource → List Job
jobs_of jobs source = filter (is_of source) jobs

-- ---- the rules

-- The source has a name. At most one of its jobs is open, and no two have the same number.
abbrev pub is_sound : HarvestSource → List Job → Bool
is_sound source jobs = not (length source.name == 0) && nat_le (count_by is_open jobs) 1 && are_apart job_cmp jobs

-- the job's source is there, and has given the job's number
abbrev pub was_given : List HarvestSource → Job → Bool
was_given sources job = list_any (λ source. is_of source job && nat_lt job.number source.next_job) sources

-- the report counts nothing
abbrev pub counts_nothing : SourceReport → Bool
counts_nothing report =
    report.added == 0 && report.updated == 0 && report.unchanged == 0 && report.deleted == 0 && report.unnamed == 0
    && length report.bad == 0

-- A job that waits has done nothing yet. None is running.
abbrev pub is_at_rest_in : JobState → SourceReport → Bool
is_at_rest_in New report = counts_nothing report
is_at_rest_in Running report = false
is_at_rest_in Finished report = true
is_at_rest_in (Broken cause) report = true

abbrev pub is_at_rest : Job → Bool
is_at_rest job = is_at_rest_in job.report.state job.report

-- the job can be restored beside these sources
abbrev pub is_restorable_job : List HarvestSource → Job → Bool
is_restorable_job sources job = was_given sources job && is_at_rest job

-- No two sources have the same name, and the jobs fit them.
abbrev pub are_restorable : List HarvestSource → List Job → Bool
are_restorable sources jobs =
    are_apart name_cmp sources && list_all (is_restorable_job sources) jobs
    && list_all (λ source. is_sound source (jobs_of jobs source)) sources

-- ---- what is restored

-- the source with its jobs, in the order of their numbers
abbrev pub with_its_jobs : List Job → HarvestSource → SourceState
with_its_jobs jobs source =
    record { source = source; jobs = ascending job_cmp (jobs_of jobs source); listing = None }

-- the sources in the order of their names, each with its jobs, if they can be restored
abbrev pub restored : List HarvestSource → List Job → Option (List SourceState)
restored sources jobs =
    if are_restorable sources jobs then Some (map (with_its_jobs jobs) (ascending name_cmp sources)) else None

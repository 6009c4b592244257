-- Sources as a portal that is opened again has them.
use Rattle.std.specs.Prelude.{◌≡◌, if◌then◌else◌, List, map, None}
use Rattle.std.specs.List.{flat_map}
use Rattle.harvest_sources.specs.Jobs.{in_state, is_running}
use Rattle.harvest_sources.specs.Sources.{SourceState}
use Rattle.harvest_sources.specs.declared.job.Job.{Job}
use Rattle.harvest_sources.specs.declared.job.JobState.TheVariants.{New}
use Rattle.harvest_sources.specs.declared.source.HarvestSource.{HarvestSource}

-- the job as a portal that is opened again has it: a running job is new again, and has done nothing
abbrev pub job_at_rest : Job → Job
job_at_rest job = if is_running job then in_state New job else job

-- the source as a portal that is opened again has it: no job runs, and no catalogue is listed
abbrev pub at_rest : SourceState → SourceState
at_rest s = record { source = s.source; jobs = map job_at_rest s.jobs; listing = None }

-- no job runs, and no catalogue is listed
abbrev pub IsAtRest : SourceState → Type 0
IsAtRest s = at_rest s ≡ s

-- the jobs of all the sources
abbrev pub all_jobs : List SourceState → List Job
all_jobs sources = flat_map (λ s. s.jobs) sources

-- the sources without their jobs
abbrev pub bare_sources : List SourceState → List HarvestSource
bare_sources sources = map (λ s. s.source) sources

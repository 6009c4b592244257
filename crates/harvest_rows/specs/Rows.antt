-- The rows of harvest sources and of their jobs. A body is a JSON text (RFC 8259) without white space: a dictionary
-- whose keys ascend by bytes.
use Rattle.std.specs.Prelude.{◌≡◌, ◌<◌, ◌^◌, ℕ, ℤ, pos, if◌then◌else◌, List, [], ◌∷◌, codes, map, All, ⊤}
use Rattle.std.specs.List.{flat_map}
use Rattle.portal_base.specs.Json.{json_text}
use Rattle.portal_base.specs.Moment.{IsMoment}
use Rattle.portal_base.specs.MomentText.{moment_text}
use Rattle.portal_base.specs.declared.json_value.Json as json
use Rattle.portal_base.specs.declared.json_value.Json.{Json}
use Rattle.portal_keeper.specs.declared.row.KeptRow.{KeptRow}
use Rattle.portal_keeper.specs.declared.row.RowKind.TheVariants as kind
use Rattle.harvest_sources.specs.Jobs.{blank_report, id_of_job, is_running}
use Rattle.harvest_sources.specs.Sources.{SourceState}
use Rattle.harvest_sources.specs.declared.cause.Cause.{Cause}
use Rattle.harvest_sources.specs.declared.cause.Cause.TheVariants.{NotNTriples}
use Rattle.harvest_sources.specs.declared.job.Job.{Job}
use Rattle.harvest_sources.specs.declared.job.JobState.{JobState}
use Rattle.harvest_sources.specs.declared.job.JobState.TheVariants.{New, Running, Finished, Broken}
use Rattle.harvest_sources.specs.declared.job.SourceReport.{SourceReport}
use Rattle.harvest_sources.specs.declared.source.HarvestSource.{HarvestSource}
use Rattle.harvest_sources.specs.ReportJson.{report_dictionary, state_name}

-- ---- a source

-- the members of a source's body
abbrev pub source_members : HarvestSource → List (List ℕ × Json)
source_members source =
    (codes "next_job", json.Whole (pos source.next_job))
    ∷ (codes "owner_org", json.Text source.owner_org)
    ∷ (codes "title", json.Text source.title)
    ∷ (codes "url", json.Text source.url)
    ∷ []

-- the body of a source's row, as a JSON value
abbrev pub source_value : HarvestSource → Json
source_value source = json.Map (source_members source)

-- The key of a source's row is the source's name, which the body hasn't.
abbrev pub source_row : HarvestSource → KeptRow
source_row source = record { kind = kind.Source; key = source.name; body = json_text (source_value source) }

-- ---- a job

-- The report that is kept. A running job is kept as a new one, which has done nothing.
abbrev pub kept_report : Job → SourceReport
kept_report job = if is_running job then blank_report job.source New else job.report

-- the members of a job's body. Its state is that of the report.
abbrev pub job_members : ℤ → SourceReport → List (List ℕ × Json)
job_members created report =
    (codes "created", json.Text (moment_text created))
    ∷ (codes "state", json.Text (state_name report.state))
    ∷ (codes "stats", report_dictionary report)
    ∷ []

-- the value of a job that was created at this moment, with this report
abbrev pub job_value : ℤ → SourceReport → Json
job_value created report = json.Map (job_members created report)

-- The key of a job's row is the job's id.
abbrev pub job_row : Job → KeptRow
job_row job =
    record { kind = kind.Job; key = id_of_job job; body = json_text (job_value job.created (kept_report job)) }

-- ---- all rows

-- the rows of the sources, in their order
abbrev pub source_rows : List SourceState → List KeptRow
source_rows sources = map (λ s. source_row s.source) sources

-- the rows of the jobs, in the order of their sources and their numbers
abbrev pub job_rows : List SourceState → List KeptRow
job_rows sources = flat_map (λ s. map job_row s.jobs) sources

-- ---- a row that is read

-- The number of the next job is a `u64`. A text may be any list of bytes.
abbrev pub IsKeptSource : HarvestSource → Type 0
IsKeptSource source = source.next_job < 2 ^ 64

-- The row is that of the source.
abbrev pub IsSourceRow : HarvestSource → KeptRow → Type 0
IsSourceRow source row = IsKeptSource source × (row ≡ source_row source)

-- The number of a bad line is a `u64`.
abbrev pub HasLine : Cause → Type 0
HasLine (NotNTriples line) = line < 2 ^ 64
HasLine other = ⊤

-- No job is kept as running.
abbrev pub IsKeptState : JobState → Type 0
IsKeptState New = ⊤
IsKeptState Running = ⊥
IsKeptState Finished = ⊤
IsKeptState (Broken cause) = HasLine cause

-- Each count is a `u64`.
pub record IsKeptReport (report : SourceReport) : Type 0 where
  pub state : IsKeptState report.state
  pub added : report.added < 2 ^ 64
  pub updated : report.updated < 2 ^ 64
  pub unchanged : report.unchanged < 2 ^ 64
  pub deleted : report.deleted < 2 ^ 64
  pub unnamed : report.unnamed < 2 ^ 64
  pub bad : All (λ object. HasLine object.1) report.bad

-- The job isn't running, was created at a moment, and its report names its source. Its number is a `u64`.
pub record IsKeptJob (job : Job) : Type 0 where
  pub number : job.number < 2 ^ 64
  pub created : IsMoment job.created
  pub own : job.report.source ≡ job.source
  pub report : IsKeptReport job.report

-- The row is that of the job.
abbrev pub IsJobRow : Job → KeptRow → Type 0
IsJobRow job row = IsKeptJob job × (row ≡ job_row job)

-- ---- the key and the body of a row

-- These are the key and the body of the row of the source.
abbrev pub IsSourceBody : HarvestSource → List ℕ → List ℕ → Type 0
IsSourceBody source name body =
    IsKeptSource source × (source.name ≡ name) × (body ≡ json_text (source_value source))

-- The job has this id, and this is the body of its row.
abbrev pub IsWrittenAs : Job → List ℕ → List ℕ → Type 0
IsWrittenAs job id body = (id_of_job job ≡ id) × (body ≡ json_text (job_value job.created (kept_report job)))

-- These are the key and the body of the row of the job, which isn't running.
abbrev pub IsJobBody : Job → List ℕ → List ℕ → Type 0
IsJobBody job id body = IsKeptJob job × IsWrittenAs job id body

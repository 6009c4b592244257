use Rattle.std.proofs.Common.{ap}
use Rattle.std.specs.Prelude.{if◌then◌else◌}
use Rattle.portal_base.specs.Json.{json_text}
use Rattle.portal_keeper.specs.declared.row.KeptRow.{KeptRow}
use Rattle.portal_keeper.specs.declared.row.RowKind.TheVariants as kind
use Rattle.harvest_sources.specs.Jobs.{blank_report, id_of_job}
use Rattle.harvest_sources.specs.declared.job.Job.{Job}
use Rattle.harvest_sources.specs.declared.job.JobState.TheVariants.{New}
use Rattle.harvest_sources.specs.declared.job.SourceReport.{SourceReport}
use Rattle.harvest_rows.specs.Rows.{job_value}
use Rattle.harvest_rows.proofs.laws.a_running_job_is_kept_as_a_new_one.Goals as goal

-- the row of the job, with this report
abbrev with_kept : Job → SourceReport → KeptRow
with_kept job report = record { kind = kind.Job; key = id_of_job job; body = json_text (job_value job.created report) }

pub returns : goal.returns
returns c = λ job running. ap (λ b. with_kept job (if b then blank_report job.source New else job.report)) running

-- Worked examples: the rows of a source and of its jobs, and what is read of texts.
use Rattle.std.proofs.Common.{◌≡◌, ◌++◌, [], ◌∷◌, ℕ, map, refl, pos}
use Rattle.std.specs.Prelude.{codes}
use Rattle.std.specs.Fmt.{digits}
use Rattle.serde_json.proofs.OnLiterals.{serde_json_on_literals}
use Rattle.portal_base.specs.Json.{json_text}
use Rattle.portal_base.specs.MomentText.{moment_text, count_off}
use Rattle.portal_base.specs.Ordered.{IsAscending}
use Rattle.portal_keeper.specs.declared.row.KeptRow.{KeptRow}
use Rattle.dataset_rows.proofs.ReadBack.{data_of-List, data_of-Map, data_of-Text, data_of-Whole}
use Rattle.harvest_sources.specs.Jobs.{blank_report, new_job}
use Rattle.harvest_sources.specs.declared.cause.Cause.TheVariants.{NotNTriples, NoTitle}
use Rattle.harvest_sources.specs.declared.job.Job.{Job}
use Rattle.harvest_sources.specs.declared.job.JobState.TheVariants.{New, Running, Finished, Broken}
use Rattle.harvest_sources.specs.declared.job.SourceReport.{SourceReport}
use Rattle.harvest_sources.specs.declared.source.HarvestSource.{HarvestSource}
use Rattle.harvest_rows.specs.KeptHarvests.{kept_job_cmp, rows_of_harvests}
use Rattle.harvest_rows.specs.Readings.{cause_named, number_in_id, number_spelled, state_from}
use Rattle.harvest_rows.specs.Rows.{job_row, job_value, kept_report, source_row, source_value}
use Rattle.harvest_rows.specs.declared.kept_harvests.KeptHarvests.{KeptHarvests}

abbrev aa : HarvestSource
aa = record { name = codes "aa"; title = codes "Aa"; url = codes "a.nt"; owner_org = codes "city"; next_job = 2 }

-- the first job of the source, with this report
abbrev first_job : SourceReport → Job
first_job report = record { source = codes "aa"; number = 1; created = pos 1704067200; report = report }

abbrev added_one : SourceReport
added_one = record (blank_report (codes "aa") Finished) { added = 1 }

-- ---- rows

key_of_aa : (source_row aa).key ≡ codes "aa"
key_of_aa = refl

body_of_aa : json_text (source_value aa)
    ≡ codes "{\"next_job\":2,\"owner_org\":\"city\",\"title\":\"Aa\",\"url\":\"a.nt\"}"
unfolding serde_json_on_literals digits
body_of_aa = simp (data_of-Map, data_of-Text, data_of-Whole)

key_of_job : (job_row (first_job added_one)).key ≡ codes "aa.1"
unfolding digits
key_of_job = refl

body_of_job : json_text (job_value (pos 1704067200) added_one)
    ≡ codes "{\"created\":\"2024-01-01T00:00:00\",\"state\":\"Finished\",\"stats\":{\"added\":1,\"bad\":[]"
    ++ codes ",\"cause\":\"\",\"deleted\":0,\"source\":\"aa\",\"state\":\"Finished\",\"unchanged\":0"
    ++ codes ",\"unnamed\":0,\"updated\":0}}"
unfolding serde_json_on_literals digits moment_text count_off
body_of_job = simp (data_of-Map, data_of-List, data_of-Text, data_of-Whole)

-- a running job is kept as a new one
running_job : kept_report (first_job (blank_report (codes "aa") Running)) ≡ blank_report (codes "aa") New
running_job = refl

-- ---- all rows

-- the new job of the source of this number
abbrev new_job_of_aa : ℕ → Job
new_job_of_aa number = new_job (codes "aa") number (pos 1704067200)

-- the source with its jobs, of which the tenth comes before the second
abbrev with_jobs : KeptHarvests
with_jobs = record { sources = aa ∷ []; jobs = new_job_of_aa 10 ∷ new_job_of_aa 2 ∷ [] }

jobs_ascend : IsAscending kept_job_cmp with_jobs.jobs
unfolding digits
jobs_ascend = ((refl, tt), (tt, tt))

keys_of_rows : map (λ (r : KeptRow). r.key) (rows_of_harvests with_jobs)
    ≡ codes "aa" ∷ codes "aa.10" ∷ codes "aa.2" ∷ []
unfolding digits
keys_of_rows = refl

-- ---- texts

bad_line : state_from (codes "Broken") (codes "NotNTriples 4") ≡ Broken (NotNTriples 4)
unfolding state_from cause_named number_spelled
bad_line = refl

no_title : cause_named (codes "NoTitle") ≡ NoTitle
unfolding cause_named
no_title = refl

twelfth : number_in_id (codes "a.3") (codes "a.3.12") ≡ 12
unfolding number_spelled
twelfth = refl

-- 2 ^ 64 is no `u64`
too_large : number_spelled (codes "18446744073709551616") ≡ 0
unfolding number_spelled
too_large = refl

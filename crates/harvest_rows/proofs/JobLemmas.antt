-- The row of a job is read back as that job.
use Rattle.std.proofs.Common.{◌≡◌, ℕ, ◌<◌, ◌^◌, ℤ, false, List, ◌++◌, Option, Some, None, option_map}
use Rattle.std.proofs.Common.{option_and_then, refl, sym, ap, ◌∙◌, subst, arith, append_assoc, length, drop}
use Rattle.std.specs.Prelude.{codes, decimal, if◌then◌else◌}
use Rattle.std.proofs.lemmas.List.{drop_at}
use Rattle.std.proofs.lemmas.Option.{same_Some}
use Rattle.portal_base.specs.Json.{json_of, json_text, member_of}
use Rattle.portal_base.specs.MomentText.{moment_text}
use Rattle.portal_base.specs.declared.json_value.Json.{Json}
use Rattle.portal_keeper.specs.declared.row.KeptRow.{KeptRow}
use Rattle.dataset_rows.specs.Reading.{json_read, moment_of}
use Rattle.dataset_rows.proofs.ReadBack.{map_back, read-json_text, text_back}
use Rattle.harvest_sources.specs.Jobs.{blank_report, id_of_job, is_running_state, job_id}
use Rattle.harvest_sources.specs.declared.job.Job.{Job}
use Rattle.harvest_sources.specs.declared.job.JobState.{JobState}
use Rattle.harvest_sources.specs.declared.job.JobState.TheVariants.{New, Running, Finished, Broken}
use Rattle.harvest_sources.specs.declared.job.SourceReport.{SourceReport}
use Rattle.harvest_rows.specs.Readings.{job_in, job_read, job_with, number_in_id, number_spelled, report_in}
use Rattle.harvest_sources.specs.ReportJson.{report_dictionary, state_name}
use Rattle.harvest_rows.specs.Rows.{IsJobBody, IsJobRow, IsKeptJob, IsKeptReport, IsKeptState, IsWrittenAs, job_members}
use Rattle.harvest_rows.specs.Rows.{job_value, kept_report}
use Rattle.harvest_rows.proofs.MemberLemmas.{member_of-found, moment_of-IsMoment, moment_of-found}
use Rattle.harvest_rows.proofs.NumberLemmas.{number_spelled-decimal, number_spelled-small}
use Rattle.harvest_rows.proofs.ReportLemmas.{report_dictionary-readable, report_in-back, report_in-kept}

-- ---- a job that isn't running

not_running : (state : JobState) → IsKeptState state → is_running_state state ≡ false
not_running New kept = refl
not_running Running kept = absurd kept
not_running Finished kept = refl
not_running (Broken cause) kept = refl

kept_report-same : (job : Job) → IsKeptJob job → kept_report job ≡ job.report
kept_report-same job kept =
    ap (λ b. if b then blank_report job.source New else job.report) (not_running job.report.state kept.report.state)

-- ---- the number in an id

number_in_id-back : (source id : List ℕ) (n : ℕ) → n < 2 ^ 64 → job_id source n ≡ id → number_in_id source id ≡ n
number_in_id-back source id n small is =
    let parts : id ≡ source ++ (codes "." ++ decimal n) = sym is ∙ append_assoc source (codes ".") (decimal n) in
    ap (λ i. number_spelled (drop 1 (drop (length source) i))) parts
    ∙ ap (λ l. number_spelled (drop 1 l)) (drop_at source (codes "." ++ decimal n) (length source) refl)
    ∙ number_spelled-decimal n small

-- ---- a job

job_made : (job : Job) (source : List ℕ) (number : ℕ) (created : ℤ) → source ≡ job.source → number ≡ job.number
    → created ≡ job.created
    → record { source = source; number = number; created = created; report = job.report } ≡ job
job_made job source number created s n c = rw (s, n, c) refl

job_in-back : (job : Job) (id : List ℕ) → IsKeptJob job → id_of_job job ≡ id
    → job_in id (job_value job.created job.report) ≡ Some job
job_in-back job id kept named =
    let value = job_value job.created job.report in
    let es = job_members job.created job.report in
    let stats : member_of (codes "stats") value ≡ Some (report_dictionary job.report) =
    member_of-found (codes "stats") es (report_dictionary job.report) refl in
    let created : moment_of (codes "created") value ≡ job.created =
    moment_of-found (codes "created") es job.created refl kept.created in
    let number : number_in_id job.report.source id ≡ job.number =
    ap (λ s. number_in_id s id) kept.own ∙ number_in_id-back job.source id job.number kept.number named in
    ap (option_map (λ s. job_with id value (report_in s))) stats
    ∙ ap (λ (r : SourceReport). Some (job_with id value r)) (report_in-back job.report kept.report)
    ∙ ap Some (job_made job job.report.source (number_in_id job.report.source id) (moment_of (codes "created") value)
    kept.own number created)

json_read-job_value : (created : ℤ) (r : SourceReport) → IsKeptReport r
    → json_read (json_text (job_value created r)) ≡ Some (job_value created r)
unfolding json_read
json_read-job_value created r kept =
    let back = map_back 3 (job_members created r) refl
    (text_back 3 (moment_text created), (text_back 3 (state_name r.state), (report_dictionary-readable r kept, tt))) in
    ap (option_and_then json_of) (read-json_text 4 (job_value created r) (omega arith) back) ∙ back.same

-- ---- rows

pub job_read-back : (job : Job) (id body : List ℕ) → IsJobBody job id body → job_read id body ≡ Some job
job_read-back job id body is =
    let text : body ≡ json_text (job_value job.created job.report) =
    is.1.1 ∙ ap (λ (r : SourceReport). json_text (job_value job.created r)) (kept_report-same job is.0) in
    ap (λ b. option_and_then (job_in id) (json_read b)) text
    ∙ ap (option_and_then (job_in id)) (json_read-job_value job.created job.report is.0.report)
    ∙ job_in-back job id is.0 is.1.0

job_with-kept : (id : List ℕ) (value stats : Json) → IsKeptJob (job_with id value (report_in stats))
job_with-kept id value stats = record {
  number = number_spelled-small (drop 1 (drop (length (report_in stats).source) id));
  created = moment_of-IsMoment (codes "created") value;
  own = refl;
  report = report_in-kept stats;
}

of_stats : (id : List ℕ) (value : Json) (found : Option Json) (job : Job)
    → option_map (λ stats. job_with id value (report_in stats)) found ≡ Some job → IsKeptJob job
of_stats id value None job is = absurd (cc)
of_stats id value (Some stats) job is =
    subst IsKeptJob (same_Some (job_with id value (report_in stats)) job is) (job_with-kept id value stats)

of_value : (id : List ℕ) (found : Option Json) (job : Job) → option_and_then (job_in id) found ≡ Some job
    → IsKeptJob job
of_value id None job is = absurd (cc)
of_value id (Some value) job is = of_stats id value (member_of (codes "stats") value) job is

-- The job that is read has the row, if the key and the body are those of its row.
pub job_read-body : (id body : List ℕ) (job : Job) → job_read id body ≡ Some job → IsWrittenAs job id body
    → IsJobBody job id body
job_read-body id body job is written = (of_value id (json_read body) job is, written)

-- Any job with the row is the one that is read.
pub job_read-only : (id body : List ℕ) (read job : Job) → job_read id body ≡ Some read → IsJobBody job id body
    → (job ≡ read) × IsWrittenAs read id body
job_read-only id body read job is body_is =
    let same : job ≡ read = same_Some job read (sym (job_read-back job id body body_is) ∙ is) in
    (same, subst (λ (j : Job). IsWrittenAs j id body) same body_is.1)

-- The key and the body of a row are those of its job.
body_of : (job : Job) (row : KeptRow) → IsJobRow job row → IsJobBody job row.key row.body
body_of job row is =
    (is.0, (ap (λ (r : KeptRow). r.key) (sym is.1), ap (λ (r : KeptRow). r.body) is.1))

pub one_job : (row : KeptRow) (one other : Job) → IsJobRow one row → IsJobRow other row → one ≡ other
one_job row one other is also =
    same_Some one other (sym (job_read-back one row.key row.body (body_of one row is))
    ∙ job_read-back other row.key row.body (body_of other row also))

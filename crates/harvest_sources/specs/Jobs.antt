-- The jobs of a source. A job's id is its source's name, a dot, and its number.
use Rattle.std.specs.Prelude.{ℕ, ℤ, ◌++◌, Bool, true, false, ◌==◌, if◌then◌else◌, List, [], ◌∷◌, codes, decimal}
use Rattle.std.specs.Prelude.{Option, Some, None, option_map}
use Rattle.std.specs.Option.{option_or}
use Rattle.std.specs.declared.cmp.Ordering.{Ordering}
use Rattle.std.specs.Ordering.{nat_cmp}
use Rattle.harvest_sources.specs.declared.job.Job.{Job}
use Rattle.harvest_sources.specs.declared.job.JobState.{JobState}
use Rattle.harvest_sources.specs.declared.job.JobState.TheVariants.{New, Running, Finished, Broken}
use Rattle.harvest_sources.specs.declared.job.SourceReport.{SourceReport}

-- ---- a job

-- the id of the source's job of this number
abbrev pub job_id : List ℕ → ℕ → List ℕ
job_id source number = source ++ codes "." ++ decimal number

-- What precedes an id's last dot, and what follows it. In the id of a job these are its source's name and its number.
abbrev pub split_job_id : List ℕ → Option (List ℕ × List ℕ)
split_job_id [] = None
split_job_id (c ∷ rest) =
    option_or (option_map (λ parts. (c ∷ parts.0, parts.1)) (split_job_id rest)) (if c == 46 then Some ([], rest) else None)

-- the job's own id
abbrev pub id_of_job : Job → List ℕ
id_of_job job = job_id job.source job.number

-- by number
abbrev pub job_cmp : Job → Job → Ordering
job_cmp j k = nat_cmp j.number k.number

-- the order of a job's number against this number
abbrev pub job_at : ℕ → Job → Ordering
job_at number job = nat_cmp job.number number

-- the job hasn't ended
abbrev pub is_open_state : JobState → Bool
is_open_state New = true
is_open_state Running = true
is_open_state Finished = false
is_open_state (Broken cause) = false

abbrev pub is_open : Job → Bool
is_open job = is_open_state job.report.state

abbrev pub is_new_state : JobState → Bool
is_new_state New = true
is_new_state Running = false
is_new_state Finished = false
is_new_state (Broken cause) = false

abbrev pub is_new : Job → Bool
is_new job = is_new_state job.report.state

abbrev pub is_running_state : JobState → Bool
is_running_state New = false
is_running_state Running = true
is_running_state Finished = false
is_running_state (Broken cause) = false

abbrev pub is_running : Job → Bool
is_running job = is_running_state job.report.state

-- ---- reports

-- the report on a job in this state that has done nothing
abbrev pub blank_report : List ℕ → JobState → SourceReport
blank_report source state = record {
  source = source;
  state = state;
  added = 0;
  updated = 0;
  unchanged = 0;
  deleted = 0;
  unnamed = 0;
  bad = [];
}

-- the job with this report
abbrev pub with_report : SourceReport → Job → Job
with_report report job = record job { report = report }

-- the job in this state, in which it has done nothing
abbrev pub in_state : JobState → Job → Job
in_state state job = with_report (blank_report job.source state) job

-- the source's new job of this number
abbrev pub new_job : List ℕ → ℕ → ℤ → Job
new_job source number created = record {
  source = source;
  number = number;
  created = created;
  report = blank_report source New;
}

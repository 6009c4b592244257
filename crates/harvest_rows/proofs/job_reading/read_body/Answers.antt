use Rattle.std.proofs.Common.{◌∙◌, sym}
use Rattle.harvest_sources.specs.declared.job.Job.{Job}
use Rattle.harvest_rows.specs.Rows.{IsJobBody, IsWrittenAs}
use Rattle.harvest_rows.proofs.JobLemmas.{job_read-back, job_read-body, job_read-only}
use Rattle.harvest_rows.proofs.ReadLemmas.{exactly}
use Rattle.harvest_rows.proofs.job_reading.read_body.Goals as goal

pub returns-in-Some : goal.returns-in-Some
returns-in-Some c =
    let id = c.args.id.now in
    let body = c.args.body.now in
    let read = sym c.in_ok-job.ensures ∙ c.in-Some.is in
    exactly c.job_if_written.result c.in-Some.job (λ (j : Job). IsJobBody j id body)
    (IsWrittenAs c.in-Some.job id body) c.job_if_written.ensures
    (λ written. job_read-body id body c.in-Some.job read written)
    (λ j is. job_read-only id body c.in-Some.job j read is)

pub returns-in-None : goal.returns-in-None
returns-in-None c = λ j. (
  λ e. absurd (cc),
  λ is.
      let none = sym c.in_ok-job.ensures ∙ c.in-None.is in
      let some = job_read-back j c.args.id.now c.args.body.now is in
      absurd (cc),
)

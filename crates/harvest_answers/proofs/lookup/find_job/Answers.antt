use Rattle.std.proofs.Common.{◌∙◌, ap, sym}
use Rattle.std.specs.Prelude.{find, option_and_then}
use Rattle.std.specs.Str.{bytes_eq}
use Rattle.harvest_sources.specs.Jobs.{id_of_job}
use Rattle.harvest_sources.specs.Sources.{SourceState, states}
use Rattle.harvest_answers.specs.View.{sources_for}
use Rattle.harvest_answers.proofs.JobLemmas.{job_found, job_missing}
use Rattle.harvest_answers.proofs.lookup.find_job.Goals as goal

pub returns-in-Some : goal.returns-in-Some
returns-in-Some c =
    let viewer = c.args.context.now.viewer in
    let id = c.args.id.now in
    c.job_of.ensures
    ∙ ap (option_and_then (λ (s : SourceState). find (λ job. bytes_eq (id_of_job job) id) s.jobs)) c.find_source.ensures
    ∙ sym (job_found viewer.caller viewer.people (states c.args.sources.now) id c.in-Some.name.now c.requires
    c.in-Some.ensures)

pub returns-in-None : goal.returns-in-None
returns-in-None c =
    sym (job_missing (sources_for c.args.context.now c.args.sources.now) c.args.id.now c.in-None.ensures)

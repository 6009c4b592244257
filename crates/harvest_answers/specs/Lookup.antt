-- The source and the job that a key of a call's body names, among those that the caller sees.
use Rattle.std.specs.Prelude.{ℕ, List, codes, Option, find, Result}
use Rattle.std.specs.List.{flat_map}
use Rattle.std.specs.Str.{bytes_eq}
use Rattle.portal_calls.specs.Answer.{authorized_thing, thing_at}
use Rattle.portal_calls.specs.declared.answer.Denial.{Denial}
use Rattle.portal_calls.specs.declared.answer.Kind.TheVariants.{HarvestSource, HarvestJob}
use Rattle.portal_calls.specs.declared.answer.Right.TheVariants.{AdministerOrganization}
use Rattle.visibility.specs.CallView.{CallView}
use Rattle.visibility.specs.View.{administers}
use Rattle.harvest_sources.specs.Jobs.{id_of_job}
use Rattle.harvest_sources.specs.Sources.{SourceState, source_named}
use Rattle.harvest_sources.specs.declared.job.Job.{Job}

-- the source, whose id is its name
abbrev pub source_at : List ℕ → CallView → List SourceState → Result SourceState Denial
source_at key view sources = thing_at key view.call.request.body HarvestSource (source_named sources)

-- The same, if the caller administers the source's organization. Whoever sees a source does, so this refuses nobody who
-- sees it.
abbrev pub administered_source : List ℕ → CallView → List SourceState → Result SourceState Denial
administered_source key view sources =
    authorized_thing (λ s. administers view.people view.caller s.source.owner_org) AdministerOrganization
    (source_at key view sources)

-- the jobs of all the sources
abbrev pub all_jobs : List SourceState → List Job
all_jobs sources = flat_map (λ s. s.jobs) sources

-- the job of that id
abbrev pub job_named : List SourceState → List ℕ → Option Job
job_named sources id = find (λ job. bytes_eq (id_of_job job) id) (all_jobs sources)

-- the job that the key `id` names
abbrev pub job_given : CallView → List SourceState → Result Job Denial
job_given view sources = thing_at (codes "id") view.call.request.body HarvestJob (job_named sources)

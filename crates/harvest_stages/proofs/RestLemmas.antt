-- Sources that come to rest.
use Rattle.std.proofs.Common.{◌≡◌, ◌≢◌, ◌∙◌, ◌≤◌, ℕ, Bool, true, false, cond, List, [], map, None, refl, sym, ap, subst}
use Rattle.std.specs.List.{All}
use Rattle.std.specs.Ordering.{nat_cmp}
use Rattle.std.proofs.lemmas.List.Elements.{All-map}
use Rattle.std.proofs.lemmas.Simd.{map-map}
use Rattle.portal_base.proofs.Upserted.{All-IsIn, All-each}
use Rattle.harvest_sources.specs.Jobs.{blank_report, in_state, is_open, is_open_state, is_running, is_running_state}
use Rattle.harvest_sources.specs.Jobs.{job_cmp}
use Rattle.harvest_sources.specs.Sources.{AreSources, HasItsJobs, IsJobOf, SourceState, source_cmp}
use Rattle.harvest_sources.specs.declared.job.Job.{Job}
use Rattle.harvest_sources.specs.declared.job.JobState.{JobState}
use Rattle.harvest_sources.specs.declared.job.JobState.TheVariants.{New, Running, Finished, Broken}
use Rattle.harvest_sources.specs.declared.source.HarvestSource.{HarvestSource}
use Rattle.harvest_stages.specs.AtRest.{IsAtRest, at_rest, job_at_rest}
use Rattle.harvest_stages.specs.Restored.{counts_nothing, is_at_rest, is_at_rest_in}
use Rattle.harvest_stages.proofs.MapLemmas.{IsAscending-map, map-same}
use Rattle.harvest_stages.proofs.PartLemmas.{count_by-map}

-- ---- jobs at rest

-- A job that has come to rest stays so.
rests_twice : (job : Job) → job_at_rest (job_at_rest job) ≡ job_at_rest job
rests_twice job = by job.report.state refl
  where
    by : (state : JobState) → job.report.state ≡ state
        → job_at_rest (cond (is_running_state state) (in_state New job) job)
        ≡ cond (is_running_state state) (in_state New job) job
    by New is = ap (λ state. cond (is_running_state state) (in_state New job) job) is
    by Running is = refl
    by Finished is = ap (λ state. cond (is_running_state state) (in_state New job) job) is
    by (Broken cause) is = ap (λ state. cond (is_running_state state) (in_state New job) job) is

number_kept : (job : Job) → (job_at_rest job).number ≡ job.number
number_kept job = by (is_running job)
  where
    by : (b : Bool) → (cond b (in_state New job) job).number ≡ job.number
    by true = refl
    by false = refl

open_kept : (job : Job) → is_open (job_at_rest job) ≡ is_open job
open_kept job = by job.report.state refl
  where
    by : (state : JobState) → job.report.state ≡ state
        → is_open (cond (is_running_state state) (in_state New job) job) ≡ is_open_state state
    by New is = ap is_open_state is
    by Running is = refl
    by Finished is = ap is_open_state is
    by (Broken cause) is = ap is_open_state is

order_kept : (j k : Job) → job_cmp (job_at_rest j) (job_at_rest k) ≡ job_cmp j k
order_kept j k =
    ap (λ n. nat_cmp n (job_at_rest k).number) (number_kept j) ∙ ap (λ n. nat_cmp j.number n) (number_kept k)

-- It is still a job of its source.
own_kept : (source : HarvestSource) (job : Job) → IsJobOf source job → IsJobOf source (job_at_rest job)
own_kept source job of = by (is_running job)
  where
    by : (b : Bool) → IsJobOf source (cond b (in_state New job) job)
    by true = record {
      own = of.own;
      reported = of.own;
      given = of.given;
      blank = λ opened. ap (λ (name : List ℕ). blank_report name New) of.own;
    }
    by false = of

-- A job that can be restored is at rest.
pub stays : (job : Job) → is_at_rest job ≡ true → job_at_rest job ≡ job
stays job rests = by job.report.state rests
  where
    by : (state : JobState) → is_at_rest_in state job.report ≡ true
        → cond (is_running_state state) (in_state New job) job ≡ job
    by New rests = refl
    by Running rests = absurd (cc)
    by Finished rests = refl
    by (Broken cause) rests = refl

-- A job of a source that is at rest can be restored.
pub can_stay : (source : HarvestSource) (job : Job) → IsJobOf source job → job_at_rest job ≡ job → is_at_rest job ≡ true
can_stay source job of same = by job.report.state refl
  where
    by : (state : JobState) → job.report.state ≡ state → is_at_rest_in state job.report ≡ true
    by New is = ap counts_nothing (of.blank (ap is_open_state is))
    by Running is =
        let runs : is_running job ≡ true = ap is_running_state is in
        let new : in_state New job ≡ job = sym (ap (λ b. cond b (in_state New job) job) runs) ∙ same in
        let both : New ≡ Running = ap (λ (j : Job). j.report.state) new ∙ is in absurd (cc)
    by Finished is = refl
    by (Broken cause) is = refl

-- ---- sources at rest

jobs_kept : (s : SourceState) → HasItsJobs s → HasItsJobs (at_rest s)
jobs_kept s has = record {
  own = All-map (IsJobOf s.source) job_at_rest s.jobs
      (All-each (λ job. IsJobOf s.source (job_at_rest job)) s.jobs
      (λ job there. own_kept s.source job (All-IsIn (IsJobOf s.source) s.jobs has.own job there)));
  ascending = IsAscending-map job_at_rest job_cmp job_cmp order_kept s.jobs has.ascending;
  one_open = subst (λ (n : ℕ). n ≤ 1) (sym (count_by-map is_open job_at_rest open_kept s.jobs)) has.one_open;
  runs = λ listed. absurd (cc);
  listed = tt;
}

-- Sources that come to rest are still sources with their jobs.
pub sources_rest : (sources : List SourceState) → AreSources sources → AreSources (map at_rest sources)
sources_rest sources are = record {
  ascending = IsAscending-map at_rest source_cmp source_cmp (λ s t. refl) sources are.ascending;
  named = All-map (λ (s : SourceState). s.source.name ≢ []) at_rest sources are.named;
  jobs = All-map HasItsJobs at_rest sources (All-each (λ s. HasItsJobs (at_rest s)) sources
      (λ s there. jobs_kept s (All-IsIn HasItsJobs sources are.jobs s there)));
}

-- Then they are at rest.
pub all_rest : (sources : List SourceState) → All IsAtRest (map at_rest sources)
all_rest sources =
    All-map IsAtRest at_rest sources (All-each (λ s. IsAtRest (at_rest s)) sources (λ s there. twice s))
  where
    twice : (s : SourceState) → at_rest (at_rest s) ≡ at_rest s
    twice s =
        ap (λ (jobs : List Job). record { source = s.source; jobs = jobs; listing = None })
        (map-map job_at_rest job_at_rest s.jobs
        ∙ map-same (λ job. job_at_rest (job_at_rest job)) job_at_rest rests_twice s.jobs)

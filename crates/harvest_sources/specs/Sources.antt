-- The sources of harvests, each with its jobs.
use Rattle.std.specs.Prelude.{◌≡◌, ◌≢◌, ◌<◌, ◌≤◌, ℕ, Bool, false, IsTrue, IfSome, List, []}
use Rattle.std.specs.Prelude.{Option, find, is_some, map, position}
use Rattle.std.specs.Option.{option_map_or}
use Rattle.std.specs.declared.cmp.Ordering.{Ordering}
use Rattle.std.specs.List.{All, count_by}
use Rattle.std.specs.Ordering.{nat_cmp}
use Rattle.std.specs.Cmp.{IsTotalOrder}
use Rattle.std.specs.Cmp.Lexicographic.{slice_cmp}
use Rattle.std.specs.Str.{bytes_eq}
use Rattle.std.proofs.lemmas.Cmp.{on_total, nat_list_cmp_total}
use Rattle.portal_base.specs.Ordered.{IsAscending, IsKey, IsKey-field, IsMonotone, IsMonotone-field}
use Rattle.harvest_sources.specs.Jobs.{blank_report, is_open, is_running, job_cmp}
use Rattle.harvest_sources.specs.Listings.{object_cmp, waiting_index}
use Rattle.harvest_sources.specs.declared.job.Job.{Job}
use Rattle.harvest_sources.specs.declared.listing.Listing.{Listing}
use Rattle.harvest_sources.specs.declared.source.HarvestSource.{HarvestSource}

-- A source, its jobs in the order of their numbers, and what the catalogue of its running job lists, if it is listed.
pub record SourceState : Type 0 where
  pub source : HarvestSource
  pub jobs : List Job
  pub listing : Option Listing

-- by the source's name
abbrev pub source_cmp : SourceState → SourceState → Ordering
source_cmp s t = slice_cmp nat_cmp s.source.name t.source.name

pub source_cmp_total : IsTotalOrder source_cmp
source_cmp_total = on_total (λ s. s.source.name) nat_list_cmp_total

-- the order of a source's name against this name
abbrev pub source_at : List ℕ → SourceState → Ordering
source_at name s = slice_cmp nat_cmp s.source.name name

-- a name is a key of sources
pub IsKey-source_at : (name : List ℕ) → IsKey source_cmp (source_at name)
IsKey-source_at name = IsKey-field (λ s. s.source.name) nat_list_cmp_total name

pub IsMonotone-source_at : (name : List ℕ) → IsMonotone source_cmp (source_at name)
IsMonotone-source_at name = IsMonotone-field (λ s. s.source.name) nat_list_cmp_total name

-- the source of that name
abbrev pub source_named : List SourceState → List ℕ → Option SourceState
source_named sources name = find (λ s. bytes_eq s.source.name name) sources

-- the job of the source that hasn't ended
abbrev pub open_job : SourceState → Option Job
open_job s = find is_open s.jobs

-- the source's catalogue is listed
abbrev pub is_listed : SourceState → Bool
is_listed s = is_some s.listing

-- ---- what holds of them

-- The job is one of the source, with a number that was given. An open job has done nothing.
pub record IsJobOf (source : HarvestSource) (job : Job) : Type 0 where
  pub own : job.source ≡ source.name
  pub reported : job.report.source ≡ source.name
  pub given : job.number < source.next_job
  pub blank : IsTrue (is_open job) → job.report ≡ blank_report source.name job.report.state

-- The jobs are the source's own, in the order of their numbers, and at most one is open. Only the catalogue of a running
-- job is listed, and its objects ascend by IRI.
pub record HasItsJobs (s : SourceState) : Type 0 where
  pub own : All (IsJobOf s.source) s.jobs
  pub ascending : IsAscending job_cmp s.jobs
  pub one_open : count_by is_open s.jobs ≤ 1
  pub runs : IsTrue (is_listed s) → IsTrue (option_map_or is_running (open_job s) false)
  pub listed : IfSome s.listing (λ listing. IsAscending object_cmp listing.objects)

-- The sources are in the order of their names, none of which is empty, and each has its jobs.
pub record AreSources (sources : List SourceState) : Type 0 where
  pub ascending : IsAscending source_cmp sources
  pub named : All (λ s. s.source.name ≢ []) sources
  pub jobs : All HasItsJobs sources

-- ---- sources in memory

-- The place of the open job and that of the first waiting object are as these say.
pub record AreTheirPlaces (s : SourceState) (open_place waiting_place : Option ℕ) : Type 0 where
  pub jobs : HasItsJobs s
  pub current : open_place ≡ position is_open s.jobs
  pub waiting : waiting_place ≡ waiting_index s.listing

-- a source with its jobs, and whether one more job fits without an allocation
pub record SourceWithRoom : Type 0 where
  pub state : SourceState
  pub room : Bool

-- the sources, whatever room they have
abbrev pub states : List SourceWithRoom → List SourceState
states sources = map (λ s. s.state) sources

-- by the source's name
abbrev pub stored_cmp : SourceWithRoom → SourceWithRoom → Ordering
stored_cmp s t = source_cmp s.state t.state

pub stored_cmp_total : IsTotalOrder stored_cmp
stored_cmp_total = on_total (λ s. s.state.source.name) nat_list_cmp_total

-- the order of a source's name against this name
abbrev pub stored_at : List ℕ → SourceWithRoom → Ordering
stored_at name s = source_at name s.state

pub IsKey-stored_at : (name : List ℕ) → IsKey stored_cmp (stored_at name)
IsKey-stored_at name = IsKey-field (λ s. s.state.source.name) nat_list_cmp_total name

pub IsMonotone-stored_at : (name : List ℕ) → IsMonotone stored_cmp (stored_at name)
IsMonotone-stored_at name = IsMonotone-field (λ s. s.state.source.name) nat_list_cmp_total name

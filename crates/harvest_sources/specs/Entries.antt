-- The entries of a change of sources and jobs. Each is put under its key, or dropped by its key.
use Rattle.std.specs.Prelude.{ℕ, ℤ, List, [], ◌∷◌, ◌+◌, ◌++◌, if◌then◌else◌, map, Option, Some, None, is_some}
use Rattle.std.specs.Str.{bytes_eq}
use Rattle.portal_base.specs.Ordered.{dropped, found, upserted}
use Rattle.harvest_sources.specs.Jobs.{job_at, job_cmp, new_job}
use Rattle.harvest_sources.specs.Sources.{SourceState, open_job, source_at, source_cmp, source_named}
use Rattle.harvest_sources.specs.declared.change.SourceChange.{SourceChange}
use Rattle.harvest_sources.specs.declared.change.SourceChange.TheVariants.{Create, Update, Remove, AddJob}
use Rattle.harvest_sources.specs.declared.change.StageFault.{StageFault}
use Rattle.harvest_sources.specs.declared.change.StageFault.TheVariants.{SourceNameInUse, UnknownSource, NotFinished}
use Rattle.harvest_sources.specs.declared.job.Job.{Job}
use Rattle.harvest_sources.specs.declared.listing.Listing.{Listing}
use Rattle.harvest_sources.specs.declared.source.HarvestSource.{HarvestSource}

-- The key of a source is its name, and of a job its source's name and its number. A listing is that of the source with this
-- name.
pub data SourceEntry : Type 0 where
  PutSource : HarvestSource → SourceEntry
  DropSource : List ℕ → SourceEntry
  PutJob : Job → SourceEntry
  DropJob : List ℕ → ℕ → SourceEntry
  PutListing : List ℕ → Option Listing → SourceEntry

-- ---- the sources after entries

-- the source with the jobs of the one that it replaces, if there is one
abbrev pub with_jobs_of : HarvestSource → Option SourceState → SourceState
with_jobs_of source None = record { source = source; jobs = []; listing = None }
with_jobs_of source (Some old) = record old { source = source }

-- the sources, with only the one of that name changed
abbrev pub with_source_at : List ℕ → (SourceState → SourceState) → List SourceState → List SourceState
with_source_at name change sources = map (λ s. if bytes_eq s.source.name name then change s else s) sources

-- with this job, which replaces the one of its number, if there is one
abbrev pub with_job : Job → SourceState → SourceState
with_job job s = record s { jobs = upserted job_cmp job s.jobs }

-- without the job of this number
abbrev pub without_job : ℕ → SourceState → SourceState
without_job number s = record s { jobs = dropped (job_at number) s.jobs }

abbrev pub with_listing : Option Listing → SourceState → SourceState
with_listing listing s = record s { listing = listing }

-- The sources after the entry. A source that is put keeps its jobs. A job or a listing is put only if its source is there.
abbrev pub changed_by : SourceEntry → List SourceState → List SourceState
changed_by (PutSource source) sources =
    upserted source_cmp (with_jobs_of source (found (source_at source.name) sources)) sources
changed_by (DropSource name) sources = dropped (source_at name) sources
changed_by (PutJob job) sources = with_source_at job.source (with_job job) sources
changed_by (DropJob name number) sources = with_source_at name (without_job number) sources
changed_by (PutListing name listing) sources = with_source_at name (with_listing listing) sources

-- the sources after these entries, one after the other
abbrev pub sources_after : List SourceEntry → List SourceState → List SourceState
sources_after [] sources = sources
sources_after (entry ∷ entries) sources = sources_after entries (changed_by entry sources)

-- the source with this title and this location
abbrev pub with_texts : List ℕ → List ℕ → SourceState → SourceState
with_texts title url s = with_jobs_of (record s.source { title = title; url = url }) (Some s)

-- the source with this new job, after which the next job has the next number
abbrev pub with_new_job : Job → SourceState → SourceState
with_new_job job s = with_job job (with_jobs_of (record s.source { next_job = s.source.next_job + 1 }) (Some s))

-- ---- changes of sources

-- What goes with a source: each of its jobs.
abbrev pub job_drops : List ℕ → Option SourceState → List SourceEntry
job_drops name None = []
job_drops name (Some s) = map (λ job. DropJob name job.number) s.jobs

abbrev pub updated_source : List ℕ → List ℕ → Option SourceState → List SourceEntry
updated_source title url None = []
updated_source title url (Some s) = PutSource (record s.source { title = title; url = url }) ∷ []

-- the new job of a source, whose next job has the next number
abbrev pub added_job : ℤ → Option SourceState → List SourceEntry
added_job created None = []
added_job created (Some s) =
    PutSource (record s.source { next_job = s.source.next_job + 1 })
    ∷ PutJob (new_job s.source.name s.source.next_job created) ∷ []

-- the entries of the change
abbrev pub entries_of_change : SourceChange → List SourceState → List SourceEntry
entries_of_change (Create source) sources = PutSource source ∷ []
entries_of_change (Update name title url) sources = updated_source title url (source_named sources name)
entries_of_change (Remove name) sources = job_drops name (source_named sources name) ++ DropSource name ∷ []
entries_of_change (AddJob name created) sources = added_job created (source_named sources name)

-- the sources after the change
abbrev pub changed_sources : SourceChange → List SourceState → List SourceState
changed_sources change sources = sources_after (entries_of_change change sources) sources

-- ---- faults of changes

-- the fault of a source that isn't there, or has an open job
abbrev pub fault_if_open : Option SourceState → Option StageFault
fault_if_open None = Some UnknownSource
fault_if_open (Some s) = if is_some (open_job s) then Some NotFinished else None

-- Why the change isn't made. No source may have a new source's name. A source that is changed or removed, or gets a job, has
-- to exist and to have no open job.
abbrev pub source_fault : SourceChange → List SourceState → Option StageFault
source_fault (Create source) sources =
    if is_some (source_named sources source.name) then Some SourceNameInUse else None
source_fault (Update name title url) sources = fault_if_open (source_named sources name)
source_fault (Remove name) sources = fault_if_open (source_named sources name)
source_fault (AddJob name created) sources = fault_if_open (source_named sources name)

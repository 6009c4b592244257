-- Changes of sources that are prepared, and when they can be made.
use Rattle.std.specs.Prelude.{◌≡◌, ◌≢◌, ◌+◌, ◌<◌, ◌^◌, ◌&&◌, ℤ, Bool, true, false, IsTrue, List, [], Option, None, is_none}
use Rattle.std.specs.Prelude.{nat_lt, option_map}
use Rattle.std.specs.Option.{option_map_or}
use Rattle.portal_base.specs.Ordered.{found}
use Rattle.harvest_sources.specs.Entries.{source_fault}
use Rattle.harvest_sources.specs.Jobs.{new_job}
use Rattle.harvest_sources.specs.Sources.{SourceState, SourceWithRoom, open_job, source_named, stored_at}
use Rattle.harvest_sources.specs.declared.change.SourceChange.{SourceChange}
use Rattle.harvest_sources.specs.declared.change.SourceChange.TheVariants.{Create, Update, Remove, AddJob}
use Rattle.harvest_sources.specs.declared.job.Job.{Job}
use Rattle.harvest_stages.specs.Stages.{StagesWithRoom, sources_in}

-- a change, and the job that it adds, if it adds one
pub record PreparedChange : Type 0 where
  pub change : SourceChange
  pub job : Option Job

-- the next job of the source
abbrev pub next_job_of : ℤ → SourceState → Job
next_job_of created s = new_job s.source.name s.source.next_job created

-- the job that the change adds
abbrev pub job_of_change : SourceChange → List SourceState → Option Job
job_of_change (Create source) sources = None
job_of_change (Update name title url) sources = None
job_of_change (Remove name) sources = None
job_of_change (AddJob name created) sources = option_map (next_job_of created) (source_named sources name)

-- The source has room for one more job, and a number for the job after it.
abbrev pub can_add : SourceWithRoom → Bool
can_add s = s.room && nat_lt (s.state.source.next_job + 1) (2 ^ 64)

-- whether there is room for what the change adds
abbrev pub has_room : SourceChange → StagesWithRoom → Bool
has_room (Create source) on = on.room
has_room (Update name title url) on = true
has_room (Remove name) on = true
has_room (AddJob name created) on = option_map_or can_add (found (stored_at name) on.stored) false

-- A new source has a name.
abbrev pub IsNamed : SourceChange → Type 0
IsNamed (Create source) = source.name ≢ []
IsNamed (Update name title url) = Unit {0}
IsNamed (Remove name) = Unit {0}
IsNamed (AddJob name created) = Unit {0}

-- A change that can be made: it has no fault, there is room for it, and its job is the next one.
pub record IsReady (prepared : PreparedChange) (on : StagesWithRoom) : Type 0 where
  pub named : IsNamed prepared.change
  pub allowed : IsTrue (is_none (source_fault prepared.change (sources_in on)))
  pub room : IsTrue (has_room prepared.change on)
  pub job : prepared.job ≡ job_of_change prepared.change (sources_in on)

-- The job is the next one of the source, which has no open job, and there is room for it.
pub record CanAdd (job : Job) (s : SourceWithRoom) : Type 0 where
  pub ended : open_job s.state ≡ None
  pub room : IsTrue s.room
  pub number : s.state.source.next_job + 1 < 2 ^ 64
  pub next : job ≡ next_job_of job.created s.state

-- Sources with their jobs in any order.
use Rattle.std.specs.Prelude.{ℕ, Bool, if◌then◌else◌, List, [], ◌∷◌, ◌++◌, map, Option, Some, None}
use Rattle.std.specs.List.{All, list_all}
use Rattle.std.specs.declared.cmp.Ordering.{Ordering}
use Rattle.std.specs.Cmp.{IsTotalOrder}
use Rattle.std.specs.Cmp.Lexicographic.{slice_cmp}
use Rattle.std.specs.Ordering.{nat_cmp}
use Rattle.std.proofs.lemmas.Cmp.{on_total, nat_list_cmp_total}
use Rattle.portal_base.specs.Ordered.{ascending, IsKey, IsKey-field, IsMonotone, IsMonotone-field}
use Rattle.harvest_sources.specs.Jobs.{job_cmp}
use Rattle.harvest_sources.specs.Sources.{IsJobOf, SourceState}
use Rattle.harvest_sources.specs.declared.job.Job.{Job}
use Rattle.harvest_sources.specs.declared.source.HarvestSource.{HarvestSource}
use Rattle.harvest_stages.specs.Restored.{is_of, is_sound, jobs_of}
use Rattle.harvest_stages.specs.declared.groups.Group.{Group}

-- by the source's name
abbrev pub group_cmp : Group → Group → Ordering
group_cmp g h = slice_cmp nat_cmp g.source.name h.source.name

pub group_cmp_total : IsTotalOrder group_cmp
group_cmp_total = on_total (λ g. g.source.name) nat_list_cmp_total

-- the order of a source's name against this name
abbrev pub group_at : List ℕ → Group → Ordering
group_at name g = slice_cmp nat_cmp g.source.name name

pub IsKey-group_at : (name : List ℕ) → IsKey group_cmp (group_at name)
IsKey-group_at name = IsKey-field (λ g. g.source.name) nat_list_cmp_total name

pub IsMonotone-group_at : (name : List ℕ) → IsMonotone group_cmp (group_at name)
IsMonotone-group_at name = IsMonotone-field (λ g. g.source.name) nat_list_cmp_total name

-- the source without a job
abbrev pub without_jobs : HarvestSource → Group
without_jobs source = record { source = source; jobs = [] }

-- with this job after the others
abbrev pub with_last : Job → Group → Group
with_last job group = record group { jobs = group.jobs ++ job ∷ [] }

-- with this job, if it is the source's
abbrev pub with_own : Job → Group → Group
with_own job group = if is_of group.source job then with_last job group else group

-- with those of these jobs that are the source's
abbrev pub with_all_own : List Job → Group → Group
with_all_own jobs group = record group { jobs = group.jobs ++ jobs_of jobs group.source }

-- the source and those of these jobs that are its own
abbrev pub group_of : List Job → HarvestSource → Group
group_of jobs source = record { source = source; jobs = jobs_of jobs source }

-- each of the jobs is one of the source
abbrev pub HasOwnJobs : Group → Type 0
HasOwnJobs group = All (IsJobOf group.source) group.jobs

abbrev pub is_sound_group : Group → Bool
is_sound_group group = is_sound group.source group.jobs

-- the source with the jobs in order
abbrev pub state_of : Group → SourceState
state_of group = record { source = group.source; jobs = ascending job_cmp group.jobs; listing = None }

-- the sources with their jobs in order, if each is sound
abbrev pub states_of : List Group → Option (List SourceState)
states_of groups = if list_all is_sound_group groups then Some (map state_of groups) else None

-- the sources of the groups
abbrev pub sources_of : List Group → List HarvestSource
sources_of groups = map (λ g. g.source) groups

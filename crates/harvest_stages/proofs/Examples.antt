-- Worked examples of what is restored.
use Rattle.std.proofs.Common.{◌≡◌, ℕ, pos, List, [], ◌∷◌, Some, None, refl}
use Rattle.std.specs.Prelude.{codes}
use Rattle.harvest_sources.specs.Jobs.{in_state, new_job}
use Rattle.harvest_sources.specs.declared.job.Job.{Job}
use Rattle.harvest_sources.specs.declared.job.JobState.TheVariants.{Finished, Running}
use Rattle.harvest_sources.specs.declared.source.HarvestSource.{HarvestSource}
use Rattle.harvest_stages.specs.Restored.{restored}

abbrev source : List ℕ → ℕ → HarvestSource
source name next_job = record { name = name; title = []; url = []; owner_org = codes "city"; next_job = next_job }

abbrev finished : List ℕ → ℕ → Job
finished name number = in_state Finished (new_job name number (pos 0))

abbrev waiting : List ℕ → ℕ → Job
waiting name number = new_job name number (pos 0)

-- The sources come in the order of their names, and the jobs in that of their numbers.
in_order : restored (source (codes "b") 3 ∷ source (codes "a") 1 ∷ [])
    (waiting (codes "b") 2 ∷ finished (codes "b") 1 ∷ [])
    ≡ Some (record { source = source (codes "a") 1; jobs = []; listing = None }
    ∷ record {
      source = source (codes "b") 3;
      jobs = finished (codes "b") 1 ∷ waiting (codes "b") 2 ∷ [];
      listing = None;
    } ∷ [])
in_order = refl

-- No job may have a number that its source hasn't given.
not_given : restored (source (codes "a") 2 ∷ []) (waiting (codes "a") 2 ∷ []) ≡ None
not_given = refl

-- No job may run.
runs : restored (source (codes "a") 2 ∷ []) (in_state Running (waiting (codes "a") 1) ∷ []) ≡ None
runs = refl

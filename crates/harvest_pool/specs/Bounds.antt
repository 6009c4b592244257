-- How many steps a round can make.
use Rattle.std.specs.Prelude.{◌+◌, ◌*◌, ℕ, List, ◌∷◌, length, count_by, sum_by}
use Rattle.std.specs.Option.{option_map_or}
use Rattle.harvest_results.specs.Effects.{HarvestState}
use Rattle.harvest_sources.specs.Listings.{is_waiting}
use Rattle.harvest_sources.specs.Sources.{SourceState}
use Rattle.harvest_sources.specs.Steps.{open_ids}
use Rattle.harvest_sources.specs.declared.listing.Listing.{Listing}
use Rattle.harvest_sources.specs.declared.step.Step.TheVariants.{NewRound}
use Rattle.harvest_pool.specs.Made.{Made, state_after}
use Rattle.harvest_pool.specs.Rounds.{Round, steps_of_catalogues}

-- how many objects of a listing wait
abbrev pub waiting_in : Listing → ℕ
waiting_in l = count_by is_waiting l.objects

-- how many objects of the source wait
abbrev pub waiting_count : SourceState → ℕ
waiting_count s = option_map_or waiting_in s.listing 0

-- how many objects of all sources wait
abbrev pub waiting_objects : List SourceState → ℕ
waiting_objects ss = sum_by waiting_count ss

-- the steps of a round up to its objects
abbrev pub steps_to_objects : Round → List Made
steps_to_objects r = record { step = NewRound; answer = r.start } ∷ steps_of_catalogues r.catalogues

-- A round makes at most so many steps: one to begin, at most two for each open job, and one more where no job is new; two
-- for each object that waits when all catalogues are read, and one more where none waits; and one for the end of each job.
abbrev pub most_steps : HarvestState → Round → ℕ
most_steps state r =
    3 + 3 * length (open_ids state.sources) + 2 * waiting_objects (state_after (steps_to_objects r) state).sources

-- What a run did with its fetchers before its rounds.
use Rattle.std.specs.Prelude.{◌≡◌, ℕ, List, drop, Option, None}
use Rattle.portal_base.specs.Outside.{Holdings}
use Rattle.portal_serve.specs.Rounds.{AreSameFetchers, faults_of_first, held_by_first}
use Rattle.portal_status.specs.Fetch.{FetchTrace, fetch_trace}

-- the trace of the first of these fetchers, before and after, by what each holds and by its count of faults
abbrev pub first_fetch : {F : Type 0} → (F → Holdings) → (F → ℕ) → List F → List F → FetchTrace
first_fetch held faults old new =
    fetch_trace (held_by_first held old) (faults_of_first faults old) (faults_of_first faults new)

-- The file at the location was fetched by the first fetcher, and the others stay as they were. Without a location all
-- do.
pub record UsesFirst {F : Type 0} (held : F → Holdings) (faults : F → ℕ) (location : Option (List ℕ)) (old new : List F) :
    Type 0 where
  pub same : AreSameFetchers held faults old new
  pub others : drop 1 new ≡ drop 1 old
  pub unused : location ≡ None → new ≡ old

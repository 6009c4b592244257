-- The fetch of a file from a location, and why it fails.
use Rattle.std.specs.Prelude.{◌≡◌, ◌⊎◌, ◌≤◌, ℕ, List, ◌++◌, length, codes}
use Rattle.portal_base.specs.Outside.{Holdings, HoldsAt, HoldsNothingAt, HoldsMoreAt, Rose}
use Rattle.portal_status.specs.declared.status.Status.{Status}
use Rattle.portal_status.specs.declared.status.Status.TheVariants as status

-- the trace of the fetcher: what it holds, where that is observable, and its count of faults before and after
pub record FetchTrace : Type 0 where
  pub held : Holdings
  pub before : ℕ
  pub after : ℕ

abbrev pub fetch_trace : Holdings → ℕ → ℕ → FetchTrace
fetch_trace held before after = record { held = held; before = before; after = after }

-- The location holds bytes of which P holds, at most 16 MiB, where that is observable.
abbrev pub HoldsFile : FetchTrace → List ℕ → (List ℕ → Type 0) → Type 0
HoldsFile fetch_trace location P =
    (bytes : List ℕ) × HoldsAt fetch_trace.held location bytes × (length bytes ≤ 16777216) × P bytes

-- The fetcher's count of faults rose; or the location holds nothing, or more than 16 MiB, where that is observable.
abbrev pub CannotFetch : FetchTrace → List ℕ → Type 0
CannotFetch fetch_trace location =
    Rose fetch_trace.before fetch_trace.after
    ⊎ (HoldsNothingAt fetch_trace.held location ⊎ HoldsMoreAt fetch_trace.held location 16777216)

-- The fetch failed, by the status: the location can't be fetched, or memory ran out.
abbrev pub FailsToFetch : FetchTrace → List ℕ → Status → Type 0
FailsToFetch fetch_trace location ended =
    (ended ≡ status.OutOfMemory)
    ⊎ ((ended ≡ status.FetchFault (codes "cannot fetch " ++ location)) × CannotFetch fetch_trace location)

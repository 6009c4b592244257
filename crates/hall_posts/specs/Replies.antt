-- What a reply says of the history.
use Rattle.std.specs.Prelude.{◌≡◌, ◌⊎◌, ℕ, ◌+◌, ◌≤◌, List, length, take, slice_get, Option, Some, None}
use Rattle.portal_hall.specs.History.{Step, replay, Accepts, Refuses}

module _ {C E R : Type 0} (step : C → E → Step C R) (IsOutOfMemory IsFault : R → Type 0) (core : C) (events : List E) where
  -- An accepted event stands at its index, and its reply is the step's after the events before it. Any other reply is the
  -- step's after the first `front` events, and isn't accepted there, or says that memory was out or that there was a fault.
  abbrev pub IsReplyAt : E → R → ℕ → Option ℕ → Type 0
  IsReplyAt event reply front (Some k) = (front ≡ k + 1) × (slice_get events k ≡ Some event)
      × Accepts step (replay step core (take k events)) event reply
  IsReplyAt event reply front None = (front ≤ length events)
      × (Refuses step (replay step core (take front events)) event reply ⊎ (IsOutOfMemory reply ⊎ IsFault reply))

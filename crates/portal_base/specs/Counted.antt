-- Counters of one `u64`, and what a clock and a source of nonces give that only count their calls.
use Rattle.std.specs.Prelude.{ℕ, zero, suc, ℤ, pos, ◌+◌, ◌-◌, ◌^◌, nat_lt, if◌then◌else◌, min, Bool}
use Rattle.std.specs.Prelude.{List, [], ◌∷◌, ◌++◌, Option, Some, None}

-- one more, up to the maximum of a `u64`
abbrev pub next_count : ℕ → ℕ
next_count n = if nat_lt n (2 ^ 64 - 1) then n + 1 else n

-- what was given by the first `calls` calls: observable while the counter is below its maximum
abbrev pub given_below_max : {X : Type 0} → (ℕ → List X) → ℕ → Option (List X)
given_below_max given calls = if nat_lt calls (2 ^ 64 - 1) then Some (given calls) else None

-- the numbers 1 to n
abbrev pub numbers_to : ℕ → List ℕ
numbers_to zero = []
numbers_to (suc n) = numbers_to n ++ (n + 1) ∷ []

-- the moment `n` seconds after 2024-01-01T00:00:00, at most the last moment
abbrev pub script_moment : ℕ → ℤ
script_moment n = pos (min (1704067200 + n) 253402300799)

-- the moments of the first n seconds
abbrev pub script_moments : ℕ → List ℤ
script_moments zero = []
script_moments (suc n) = script_moments n ++ script_moment n ∷ []

-- a ticker that returns true `limit` times: how often it did so far, and whether it returned false
pub record Ticking : Type 0 where
  pub limit : ℕ
  pub count : ℕ
  pub has_ended : Bool

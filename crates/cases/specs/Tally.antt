-- How cases are counted.
use Rattle.std.specs.Prelude.{ℕ, Bool, min, ◌+◌, ◌-◌, ◌^◌, if◌then◌else◌}

-- a count that stays at the last number of a u64
abbrev pub counted_if : Bool → ℕ → ℕ
counted_if holds count = if holds then min (count + 1) (2 ^ 64 - 1) else count

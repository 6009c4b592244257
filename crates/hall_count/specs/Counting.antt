-- A machine that counts: its core is a total, and an event is a number that is added to it where it fits a `u64`.
use Rattle.std.specs.Prelude.{ℕ, ◌+◌, ◌^◌, nat_lt, if◌then◌else◌, Option, Some, None}
use Rattle.portal_hall.specs.History.{Step}

-- what comes of a number at a total
abbrev pub count_step : ℕ → ℕ → Step ℕ (Option ℕ)
count_step total number = record {
  core = total + number;
  reply = if nat_lt (total + number) (2 ^ 64) then Some (total + number) else None;
  is_accepted = nat_lt (total + number) (2 ^ 64);
}

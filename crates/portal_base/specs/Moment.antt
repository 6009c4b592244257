-- Moments: the whole seconds of the years 0000 to 9999, counted from 1970-01-01T00:00:00 (ISO 8601, no leap seconds).
use Rattle.std.specs.Prelude.{ℤ, pos, negsuc, ◌≤ℤ◌}

-- 0000-01-01T00:00:00
abbrev pub first_moment : ℤ
first_moment = negsuc 62167219199

-- 9999-12-31T23:59:59
abbrev pub last_moment : ℤ
last_moment = pos 253402300799

abbrev pub IsMoment : ℤ → Type 0
IsMoment seconds = (first_moment ≤ℤ seconds) × (seconds ≤ℤ last_moment)

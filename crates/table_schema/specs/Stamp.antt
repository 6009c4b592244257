-- The texts of date-times (ISO 8601, section 5.4.2.1, extended format): a date, `T`, a time of day, and `Z` or nothing.
-- In place of `T` one space is allowed too, which isn't in ISO 8601.
use Rattle.std.specs.Prelude.{ℕ, Bool, true, false, ◌||◌, ◌==◌, if◌then◌else◌, List, [], ◌∷◌, take, drop, slice_index}
use Rattle.std.specs.Prelude.{ℤ, Option, None}
use Rattle.portal_base.specs.Calendar.{moment_at}

-- `T` or one space
abbrev pub is_time_designator : ℕ → Bool
is_time_designator c = (c == 84) || (c == 32)

-- `Z` or nothing
abbrev pub is_zone : List ℕ → Bool
is_zone [] = true
is_zone (c ∷ []) = c == 90
is_zone (c ∷ d ∷ cs) = false

-- the moment of a date and of a time of day that is followed by its zone
abbrev pub zoned_moment : List ℕ → List ℕ → Option ℤ
zoned_moment date time = if is_zone (drop 8 time) then moment_at date (take 8 time) else None

-- the moment of a date-time, in seconds since 1970-01-01T00:00:00
unfoldable pub stamp_reading : List ℕ → Option ℤ
stamp_reading text =
    if is_time_designator (slice_index text 10) then zoned_moment (take 10 text) (drop 11 text) else None

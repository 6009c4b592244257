-- Examples of texts of moments, and of moments of texts.
use Rattle.std.proofs.Common.{◌≡◌, refl, pos, negsuc, Some, None}
use Rattle.std.specs.Prelude.{codes}
use Rattle.portal_base.specs.Moment.{first_moment, last_moment}
use Rattle.jiff_core.specs.Calendar.{day_count, days_from_civil, days_of_months, days_of_years}
use Rattle.portal_base.specs.Calendar.{date_reading, minute_reading, moment_at, time_reading}
use Rattle.portal_base.specs.MomentReading.{moment_reading}
use Rattle.portal_base.specs.MomentText.{moment_text, count_off}

start : moment_text (pos 0) ≡ codes "1970-01-01T00:00:00"
unfolding moment_text count_off
start = refl

new_year : moment_text (pos 1704067200) ≡ codes "2024-01-01T00:00:00"
unfolding moment_text count_off
new_year = refl

leap_day : moment_text (pos 951782400) ≡ codes "2000-02-29T00:00:00"
unfolding moment_text count_off
leap_day = refl

before_start : moment_text (negsuc 0) ≡ codes "1969-12-31T23:59:59"
unfolding moment_text count_off
before_start = refl

first : moment_text first_moment ≡ codes "0000-01-01T00:00:00"
unfolding moment_text count_off
first = refl

last : moment_text last_moment ≡ codes "9999-12-31T23:59:59"
unfolding moment_text count_off
last = refl

-- Texts that are read, and texts that are not.
read_start : moment_reading (codes "1970-01-01T00:00:00") ≡ Some (pos 0)
unfolding moment_reading days_from_civil day_count days_of_years days_of_months
read_start = refl

read_new_year : moment_reading (codes "2024-01-01T00:00:00") ≡ Some (pos 1704067200)
unfolding moment_reading days_from_civil day_count days_of_years days_of_months
read_new_year = refl

read_leap_day : moment_reading (codes "2000-02-29T00:00:00") ≡ Some (pos 951782400)
unfolding moment_reading days_from_civil day_count days_of_years days_of_months
read_leap_day = refl

read_leap_day_of_year_zero : moment_reading (codes "0000-02-29T23:59:59") ≡ Some (negsuc 62162035200)
unfolding moment_reading days_from_civil day_count days_of_years days_of_months
read_leap_day_of_year_zero = refl

read_last : moment_reading (codes "9999-12-31T23:59:59") ≡ Some last_moment
unfolding moment_reading days_from_civil day_count days_of_years days_of_months
read_last = refl

no_leap_day_of_1900 : moment_reading (codes "1900-02-29T00:00:00") ≡ None
unfolding moment_reading
no_leap_day_of_1900 = refl

no_leap_day_of_2023 : moment_reading (codes "2023-02-29T00:00:00") ≡ None
unfolding moment_reading
no_leap_day_of_2023 = refl

no_hour_24 : moment_reading (codes "2024-01-01T24:00:00") ≡ None
unfolding moment_reading
no_hour_24 = refl

no_second_60 : moment_reading (codes "2016-12-31T23:59:60") ≡ None
unfolding moment_reading
no_second_60 = refl

no_sign_of_the_zone : moment_reading (codes "2024-01-01T00:00:00Z") ≡ None
unfolding moment_reading
no_sign_of_the_zone = refl

no_blank_for_the_sign : moment_reading (codes "2024-01-01 00:00:00") ≡ None
unfolding moment_reading
no_blank_for_the_sign = refl

no_fraction : moment_reading (codes "2024-01-01T00:00:00.0") ≡ None
unfolding moment_reading
no_fraction = refl

-- Times of day in minutes, and the moment of a date and a time.
minutes : minute_reading (codes "05:30") ≡ Some 330
unfolding minute_reading
minutes = refl

no_minute_60 : minute_reading (codes "05:60") ≡ None
unfolding minute_reading
no_minute_60 = refl

no_time_of_one_digit : minute_reading (codes "5:30") ≡ None
unfolding minute_reading
no_time_of_one_digit = refl

start_of_the_year : moment_at (codes "2024-01-01") (codes "00:00:00") ≡ Some (pos 1704067200)
unfolding moment_at date_reading time_reading days_from_civil day_count days_of_years days_of_months
start_of_the_year = refl

no_moment_of_no_day : moment_at (codes "2023-02-29") (codes "00:00:00") ≡ None
unfolding moment_at date_reading
no_moment_of_no_day = refl

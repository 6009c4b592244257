-- Dates and times as literals: `YYYY-MM-DD`, or `YYYY-MM-DDThh:mm:ss` with a fraction of a second, which is dropped,
-- and with `Z` or an offset from UTC (XML Schema part 2, sections 3.3.7 and 3.3.9, with years of four digits).
use Rattle.std.specs.Prelude.{◌≡◌, ◌⊎◌, ℕ, ◌*◌, ◌==◌, nat_lt, if◌then◌else◌, Bool, true, false, List, [], ◌∷◌, ◌++◌}
use Rattle.std.specs.Prelude.{◌&&◌, length, take, drop, codes, Option, Some, None, option_map, ℤ, pos, ◌-ℤ◌, neg_ℤ}
use Rattle.std.specs.Prelude.{int_le}
use Rattle.std.specs.List.{filter_map, list_all, prefix_len}
use Rattle.std.specs.Char.{is_ascii_digit}
use Rattle.std.specs.Ordering.{flip_args, int_cmp}
use Rattle.portal_base.specs.Calendar.{moment_at, minute_reading}
use Rattle.portal_base.specs.Moment.{first_moment, last_moment}
use Rattle.ntriples.specs.declared.term.Term.{Term}
use Rattle.ntriples.specs.declared.term.Term.TheVariants.{Iri, Blank, Literal}
use Rattle.ntriples.specs.declared.term.Triple.{Triple}
use Rattle.ntriples.specs.Reading.{◌>>=◌}
use Rattle.dcat_map.specs.Sets.{least}

-- ---- the lexical forms

-- at least one digit, and nothing else
abbrev pub are_digits : List ℕ → Bool
are_digits [] = false
are_digits (c ∷ cs) = list_all is_ascii_digit (c ∷ cs)

-- a fraction of a second: nothing, or `.` and digits
abbrev pub IsFraction : List ℕ → Type 0
IsFraction text = (text ≡ []) ⊎ ((digits : List ℕ) × (text ≡ codes "." ++ digits) × (are_digits digits ≡ true))

-- `hh:mm`, in seconds
abbrev pub offset_size : List ℕ → Option ℕ
offset_size bs = option_map (λ minute. minute * 60) (minute_reading bs)

-- the seconds by which the offset is ahead of UTC: none, `Z`, `+hh:mm` or `-hh:mm`
unfoldable pub offset : List ℕ → Option ℤ
offset [] = Some (pos 0)
offset (b ∷ bs) =
    if b == 43 then option_map pos (offset_size bs)
    else if b == 45 then option_map (λ size. neg_ℤ (pos size)) (offset_size bs)
    else if b == 90 then (if nat_lt 0 (length bs) then None else Some (pos 0))
    else None

-- the seconds are those of a moment
abbrev pub is_moment : ℤ → Bool
is_moment seconds = int_le first_moment seconds && int_le seconds last_moment

-- The text is a date and a time (xsd:dateTime), of this moment in UTC.
pub record IsDateTime (text : List ℕ) (moment : ℤ) : Type 0 where
  pub date : List ℕ
  pub time : List ℕ
  pub fraction : List ℕ
  pub zone : List ℕ
  pub local : ℤ
  pub utc_offset : ℤ
  pub form : text ≡ date ++ codes "T" ++ time ++ fraction ++ zone
  pub is_local : moment_at date time ≡ Some local
  pub is_fraction : IsFraction fraction
  pub is_offset : offset zone ≡ Some utc_offset
  pub named : moment ≡ local -ℤ utc_offset
  pub within : is_moment moment ≡ true

-- The text is a date (xsd:date without an offset), whose midnight the moment is, or a date and a time.
abbrev pub IsInstant : List ℕ → ℤ → Type 0
IsInstant text moment = (moment_at text (codes "00:00:00") ≡ Some moment) ⊎ IsDateTime text moment

-- ---- how they are read from the left

-- what follows the leading digits, of which there must be one
abbrev pub skip_digits : List ℕ → Option (List ℕ)
skip_digits bs =
    if nat_lt 0 (prefix_len is_ascii_digit bs) then Some (drop (prefix_len is_ascii_digit bs) bs) else None

-- what follows the fraction of a second, if there is one
unfoldable pub skip_fraction : List ℕ → Option (List ℕ)
skip_fraction [] = Some []
skip_fraction (b ∷ bs) = if b == 46 then skip_digits bs else Some (b ∷ bs)

-- the offset from UTC after the fraction of a second
abbrev pub zone_offset : List ℕ → Option ℤ
zone_offset bs = do
  zone ← skip_fraction bs
  offset zone

-- the seconds, if they are those of a moment
abbrev pub if_moment : ℤ → Option ℤ
if_moment seconds = if is_moment seconds then Some seconds else None

-- the moment of a date, a time of day, and what follows it
unfoldable pub instant_in : List ℕ → List ℕ → List ℕ → Option ℤ
instant_in date time rest = do
  there ← moment_at date time
  utc_offset ← zone_offset rest
  if_moment (there -ℤ utc_offset)

-- the moment of a date and what follows it: nothing, for its midnight, or `T` and a time
unfoldable pub instant_of : List ℕ → List ℕ → Option ℤ
instant_of date [] = moment_at date (codes "00:00:00")
instant_of date (b ∷ bs) = if b == 84 then instant_in date (take 8 bs) (drop 8 bs) else None

-- the moment that the text gives
abbrev pub instant : List ℕ → Option ℤ
instant bs = instant_of (take 10 bs) (drop 10 bs)

-- ---- the moments of literals

-- the moment that the literal gives
abbrev pub moment_of : Term → Option ℤ
moment_of (Iri iri) = None
moment_of (Blank label) = None
moment_of (Literal text datatype tag) = instant text

-- 1970-01-01T00:00:00, if there is none
abbrev pub or_epoch : Option ℤ → ℤ
or_epoch None = pos 0
or_epoch (Some moment) = moment

-- the latest moment that one of the objects gives: the one that is after all others
unfoldable pub latest : List Triple → Option ℤ
latest ts = least (flip_args int_cmp) (filter_map (λ t. moment_of t.object) ts)

-- The records that a reader of `csv` over bytes in memory has left.
use Rattle.std.specs.Prelude.{◌≡◌, ◌⊎◌, ℕ, true, ◌+◌, List, [], length, Option, Some, None}
use Rattle.csv.specs.Reading.{Ready, default_config, has_failed, is_flexible, reader_config, reader_trim, records_from}
use Rattle.csv.specs.declared.parser.State.{State}
use Rattle.csv.specs.declared.reader.Reader.{Reader}
use Rattle.csv.specs.declared.reader.Trim.TheVariants as trim

-- the records of the bytes, if they are known, from a state of the parser
abbrev pub records_left : State → Option (List ℕ) → List (List (List ℕ))
records_left state None = []
records_left state (Some bytes) = records_from default_config (length bytes + 1) state bytes

-- The reader has the default settings, reads a record next, and accepts records of any width; or it has failed.
abbrev pub IsChunkReader : {R : Type 0} → Reader R → Type 0
IsChunkReader reader = (has_failed reader ≡ true)
    ⊎ ((reader_trim reader ≡ trim.None) × Ready reader × (is_flexible reader ≡ true)
    × (reader_config reader ≡ default_config))

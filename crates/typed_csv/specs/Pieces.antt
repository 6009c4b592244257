-- The part of a source's bytes that a reader of records keeps.
use Rattle.std.specs.Prelude.{◌≡◌, ◌⊎◌, ◌≤◌, ℕ, Bool, true, false, List, [], ◌++◌, length, take, Option, Some, None}
use Rattle.typed_csv.specs.declared.scan.Position.{Position}
use Rattle.typed_csv.specs.declared.scan.Position.TheVariants as position
use Rattle.typed_csv.specs.ReaderValue.{text_records}
use Rattle.typed_csv.specs.Positions.{has_start, position_after}

-- The complete records that weren't returned yet, the bytes after them, and whether a byte order mark may still come.
pub record Kept : Type 0 where
  pub ready : List (List (List ℕ))
  pub held : List ℕ
  pub is_fresh : Bool

-- the complete records that weren't returned yet
abbrev pub ready_records : Option (List (List (List ℕ))) → List (List (List ℕ))
ready_records None = []
ready_records (Some records) = records

-- the records of what is kept and of the bytes that follow
abbrev pub records_with : Kept → List ℕ → List (List (List ℕ))
records_with kept rest = kept.ready ++ text_records kept.is_fresh (kept.held ++ rest)

-- The scanned bytes are the first `scanned` of the held ones. They end at the position `at` of their record, and no
-- record ends in them. If a byte order mark may still come, none was scanned.
pub record IsScanned (held : List ℕ) (scanned : ℕ) (at : Position) (is_fresh : Bool) : Type 0 where
  pub within : scanned ≤ length held
  pub at_position : at ≡ position_after position.RecordStart (take scanned held)
  pub none : has_start position.RecordStart (take scanned held) ≡ false
  pub fresh : is_fresh ≡ true → scanned ≡ 0

-- The room is empty before the first read, and has the size of a piece afterwards.
abbrev pub IsRoom : List ℕ → Type 0
IsRoom room = (length room ≡ 0) ⊎ (length room ≡ 65536)

-- The value of a reader of records, as contracts see it, and what its calls take.
use Rattle.std.specs.Prelude.{◌≡◌, ℕ, ◌+◌, Bool, true, false, List, [], ◌∷◌, ◌++◌, length, Option, option_map, IfSome}
use Rattle.csv.specs.Reading.{default_config, records}
use Rattle.portal_base.specs.Outside.{Gives}
use Rattle.typed_csv.specs.Records.{is_text, records_of}

-- A reader of records: the source, the complete records that weren't returned yet, the bytes after them, the count of
-- bytes that the source gave so far, and whether a byte order mark may still come.
pub record ReaderValue (S : Type 0) : Type 0 where
  pub source : S
  pub ready : List (List (List ℕ))
  pub held : List ℕ
  pub given : ℕ
  pub is_fresh : Bool

-- the records of a text, which may start with a byte order mark if it is the start of the source
abbrev pub text_records : Bool → List ℕ → List (List (List ℕ))
text_records true text = records_of text
text_records false text = records default_config text

-- the remaining records, if the source is observable
abbrev pub remaining_records : {S : Type 0} → (S → Option (List ℕ)) → ReaderValue S → Option (List (List (List ℕ)))
remaining_records to_come r =
    option_map (λ rest. r.ready ++ text_records r.is_fresh (r.held ++ rest)) (to_come r.source)

-- The source gave some bytes, if it is observable, and they were counted.
abbrev pub IsCounted : Option (List ℕ) → ℕ → Option (List ℕ) → ℕ → Type 0
IsCounted old given new given_now = (bytes : List ℕ) × Gives old bytes new × (given_now ≡ given + length bytes)

-- The source gave some bytes in this call, and they were counted.
abbrev pub Receives : {S : Type 0} → (S → Option (List ℕ)) → ReaderValue S → ReaderValue S → Type 0
Receives to_come old new = IsCounted (to_come old.source) old.given (to_come new.source) new.given

-- x was the first of the remaining items, if they are observable
abbrev pub TakesFirst : {X : Type 0} → Option (List X) → X → Option (List X) → Type 0
TakesFirst old x new = old ≡ option_map (λ rest. x ∷ rest) new

-- The first remaining record isn't UTF-8, if the records are observable.
abbrev pub BeginsNotText : Option (List (List (List ℕ))) → Type 0
BeginsNotText observed = IfSome observed
    (λ all. (first : List (List ℕ)) × (rest : List (List (List ℕ))) × (all ≡ first ∷ rest) × (is_text first ≡ false))

-- no record remains, if the records are observable
abbrev pub IsNoneLeft : Option (List (List (List ℕ))) → Type 0
IsNoneLeft observed = IfSome observed (λ all. all ≡ [])

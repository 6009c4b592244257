-- What is observable of a call of an outside device. Content that is not observable is `None`.
use Rattle.std.specs.Prelude.{◌≡◌, ◌⊎◌, ℕ, ◌-◌, ◌^◌, ◌<◌, ◌≤◌, Bool, false, is_some}
use Rattle.std.specs.Prelude.{List, [], ◌∷◌, ◌++◌, length, take}
use Rattle.std.specs.Prelude.{Option, Some, None, option_map, IfSome, IsSomeAnd, MatchOption, Result, Ok, Err}

-- The count of faults rose from old to new, or is at the maximum of a `u64`.
abbrev pub Rose : ℕ → ℕ → Type 0
Rose old new = (old < new) ⊎ (2 ^ 64 - 1 ≤ new)

-- These bytes were the first of those to come. A source that is not observable stays so.
abbrev pub Gives : Option (List ℕ) → List ℕ → Option (List ℕ) → Type 0
Gives old bytes new = MatchOption old (new ≡ None) (λ all. (rest : List ℕ) × (new ≡ Some rest) × (all ≡ bytes ++ rest))

-- No byte is still to come, where that is observable.
abbrev pub IsAtEnd : Option (List ℕ) → Type 0
IsAtEnd observed = IfSome observed (λ bytes. bytes ≡ [])

-- These bytes were added to those taken.
abbrev pub Takes : Option (List ℕ) → List ℕ → Option (List ℕ) → Type 0
Takes old bytes new = new ≡ option_map (λ all. all ++ bytes) old

-- Some bytes from the start of the piece were added to those taken.
abbrev pub TakesPrefix : Option (List ℕ) → List ℕ → Option (List ℕ) → Type 0
TakesPrefix old piece new = (count : ℕ) × (count ≤ length piece) × Takes old (take count piece) new

-- If the items given are observable afterwards, they were so before, and x was added to them. So a device that is no
-- longer observable stays so: a counter of fixed size cannot represent an endless list.
abbrev pub Draws : {X : Type 0} → Option (List X) → X → Option (List X) → Type 0
Draws old x new = IfSome new (λ all. IsSomeAnd old (λ before. all ≡ before ++ x ∷ []))

-- This item was the first of those to come. A device that is not observable stays so.
abbrev pub GivesOne : {X : Type 0} → Option (List X) → X → Option (List X) → Type 0
GivesOne old x new = MatchOption old (new ≡ None) (λ all. IsSomeAnd new (λ rest. all ≡ x ∷ rest))

-- This item was added to those taken.
abbrev pub TakesOne : {X : Type 0} → Option (List X) → X → Option (List X) → Type 0
TakesOne old x new = new ≡ option_map (λ all. all ++ x ∷ []) old

-- whether a call gave a link
abbrev pub is_some_link : {X E : Type 0} → Result (Option X) E → Bool
is_some_link (Ok given) = is_some given
is_some_link (Err _) = false

-- the bytes at each location, where they are observable
abbrev pub Holdings : Type 0
Holdings = Option (List ℕ → Option (List ℕ))

-- These bytes are at the location, where that is observable.
abbrev pub HoldsAt : Holdings → List ℕ → List ℕ → Type 0
HoldsAt observed location bytes = IfSome observed (λ held. held location ≡ Some bytes)

-- There are no bytes at the location, where that is observable.
abbrev pub HoldsNothingAt : Holdings → List ℕ → Type 0
HoldsNothingAt observed location = IfSome observed (λ held. held location ≡ None)

-- There are more than `limit` bytes at the location, where that is observable.
abbrev pub HoldsMoreAt : Holdings → List ℕ → ℕ → Type 0
HoldsMoreAt observed location limit =
    IfSome observed (λ held. IsSomeAnd (held location) (λ bytes. limit < length bytes))

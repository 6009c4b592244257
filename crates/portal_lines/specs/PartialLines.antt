-- A partial line: the bytes of it that came before its line feed, and those of them that are kept.
use Rattle.std.specs.Prelude.{◌≡◌, ◌==◌, ℕ, ◌+◌, ◌<◌, Bool, true, false, List, [], ◌∷◌, ◌++◌, length, All}

-- no byte is a line feed
abbrev pub HasNoFeed : List ℕ → Type 0
HasNoFeed bytes = All (λ b. (b == 10) ≡ false) bytes

-- All of raw is kept, or it is over: then raw is longer than a line of the longest length and a carriage return.
abbrev pub KeepsRaw : ℕ → List ℕ → List ℕ → Bool → Type 0
KeepsRaw longest raw kept true = longest + 1 < length raw
KeepsRaw longest raw kept false = kept ≡ raw

-- A piece with no line feed came off the front: up to a line feed, which was dropped, or all where there is none.
abbrev pub TakesPiece : Bool → List ℕ → List ℕ → List ℕ → Type 0
TakesPiece true old piece new = HasNoFeed piece × (old ≡ piece ++ 10 ∷ new)
TakesPiece false old piece new = HasNoFeed piece × (old ≡ piece) × (new ≡ [])

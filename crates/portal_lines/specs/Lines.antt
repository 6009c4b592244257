-- Reading lines from a source of bytes. The lines are those of std's `str::lines`: a line feed ends a line, one
-- carriage return before it is no part of the line, and the last line may lack its line feed.
use Rattle.std.specs.Prelude.{◌≡◌, ◌⊎◌, ℕ, ◌+◌, ◌-◌, ◌<◌, Bool, List, [], ◌∷◌, ◌++◌, length, Option}
use Rattle.std.specs.Str.Lines.{lines}
use Rattle.portal_base.specs.Outside.{Gives, IsAtEnd}
use Rattle.portal_lines.specs.PartialLines.{HasNoFeed}

-- The state of a reader of lines: the bytes that the source gave and that belong to no line returned so far, the line
-- returned last, the count of bytes that the source gave so far, the limit of bytes of a line without its end, the limit
-- of bytes that the source may give, and whether a call had a fault.
pub record ReaderState : Type 0 where
  pub buffered : List ℕ
  pub line : List ℕ
  pub received : ℕ
  pub longest : ℕ
  pub limit : ℕ
  pub has_failed : Bool

-- Whatever comes after front, the lines of both are this line and then the lines of what comes after.
abbrev pub EndsLine : List ℕ → List ℕ → Type 0
EndsLine front line = (more : List ℕ) → lines (front ++ more) ≡ line ∷ lines more

-- One line came off the front of what the reader buffered and what the source gave in this call. It has its line feed,
-- or it is the last line, and nothing is left. `observed` and `left` are the bytes to come that are observable of the
-- source, before and after.
pub record TakesLine (old : ReaderState) (observed : Option (List ℕ)) (line : List ℕ) (new : ReaderState)
    (left : Option (List ℕ)) : Type 0 where
  -- what the source gave in this call
  pub bytes : List ℕ
  -- the line with its end
  pub front : List ℕ
  pub gives : Gives observed bytes left
  pub counts : new.received ≡ old.received + length bytes
  pub splits : old.buffered ++ bytes ≡ front ++ new.buffered
  pub only : lines front ≡ line ∷ []
  pub ended : EndsLine front line ⊎ ((new.buffered ≡ []) × IsAtEnd left)

-- One line of more than the longest length came off the front, and isn't kept.
abbrev pub SkipsLine : ReaderState → Option (List ℕ) → ReaderState → Option (List ℕ) → Type 0
SkipsLine old observed new left = (line : List ℕ) × TakesLine old observed line new left × (old.longest < length line)

-- Nothing was buffered, and the source gave nothing, since it is at its end.
pub record FindsEnd (old : ReaderState) (observed : Option (List ℕ)) (new : ReaderState) (left : Option (List ℕ)) : Type
    0 where
  pub held_before : old.buffered ≡ []
  pub held_after : new.buffered ≡ []
  pub received : new.received ≡ old.received
  pub observed_same : left ≡ observed
  pub at_end : IsAtEnd observed

-- The source gave some bytes in this call, and they were counted.
abbrev pub Receives : ReaderState → Option (List ℕ) → ReaderState → Option (List ℕ) → Type 0
Receives old observed new left = (bytes : List ℕ) × Gives observed bytes left
    × (new.received ≡ old.received + length bytes)

-- The same, and no line ended: neither the buffered bytes nor the new ones have a line feed.
abbrev pub ReceivesNoEnd : ReaderState → Option (List ℕ) → ReaderState → Option (List ℕ) → Type 0
ReceivesNoEnd old observed new left =
    (bytes : List ℕ) × Gives observed bytes left × (new.received ≡ old.received + length bytes)
    × HasNoFeed (old.buffered ++ bytes)

-- The source gave some bytes in this call, and they were counted. Of these and of what was buffered before no more is
-- lost than the start of a line, and all after it is buffered.
abbrev pub LosesStart : ReaderState → Option (List ℕ) → ReaderState → Option (List ℕ) → Type 0
LosesStart old observed new left =
    (bytes : List ℕ) × (lost : List ℕ) × Gives observed bytes left × (new.received ≡ old.received + length bytes)
    × (old.buffered ++ bytes ≡ lost ++ new.buffered) × HasNoFeed lost

-- The count of bytes that are buffered or may still come: each line makes it smaller.
abbrev pub bytes_left : ReaderState → ℕ
bytes_left r = length r.buffered + (r.limit - r.received)

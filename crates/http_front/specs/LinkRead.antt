-- What one read off a link leaves.
use Rattle.std.specs.Prelude.{◌≡◌, ℕ, ◌<◌, ◌≤◌, ◌⊎◌, Bool, true, false, List, [], ◌++◌, length, Option}
use Rattle.portal_base.specs.Outside.{Gives, IsAtEnd}
use Rattle.http_front.specs.declared.fault.FrontFault.{FrontFault}
use Rattle.http_front.specs.declared.fault.FrontFault.TheVariants.{LinkFault, OutOfMemory}

-- the fault is one of the link or of memory
abbrev pub IsOutside : FrontFault → Type 0
IsOutside fault = (fault ≡ LinkFault) ⊎ (fault ≡ OutOfMemory)

-- A read appended a piece of at most `limit` bytes, and of at most 4,096, to the buffer. The piece is empty only at the
-- link's end.
pub record ReadsOn (limit : ℕ) (observed : Option (List ℕ)) (buffer : List ℕ) (left : Option (List ℕ)) (now : List ℕ)
    (more : Bool) : Type 0 where
  pub piece : List ℕ
  pub joined : now ≡ buffer ++ piece
  pub gives : Gives observed piece left
  pub within : length piece ≤ limit
  pub small : length piece ≤ 4096
  pub some : more ≡ true → 0 < length piece
  pub end : more ≡ false → (piece ≡ []) × IsAtEnd observed

-- A read failed. A piece of at most `limit` bytes came off the link and is lost, or none where the link failed.
pub record LosesPiece (limit : ℕ) (observed left : Option (List ℕ)) (fault : FrontFault) : Type 0 where
  pub piece : List ℕ
  pub gives : Gives observed piece left
  pub within : length piece ≤ limit
  pub kept : fault ≡ LinkFault → piece ≡ []

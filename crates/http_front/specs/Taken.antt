-- How much of a connection's bytes its request takes. A head comes in pieces of at most 4,096 bytes, and nothing is read
-- after the piece in which it ends but the rest of a POST's body (RFC 9112, section 6). A GET's body isn't read.
use Rattle.std.specs.Prelude.{◌≡◌, ℕ, ◌+◌, ◌-◌, ◌<◌, ◌≤◌, ◌⊎◌, max, List, [], ◌++◌, length, Option, Some, IfSome}
use Rattle.std.specs.Prelude.{Result, Ok, Err, ⊤}
use Rattle.httparse.specs.Grammar.{RequestHead, HasNoRequest}
use Rattle.portal_base.specs.Outside.{Gives, IsAtEnd}
use Rattle.http_front.specs.Head.{Begins, HasNoHead, extent, marked}
use Rattle.http_front.specs.Request.{Reads, IsRequest}
use Rattle.http_front.specs.declared.fault.FrontFault.{FrontFault}
use Rattle.http_front.specs.declared.fault.FrontFault.TheVariants.{BadHead, NoLength, TooLong, NoRoute}
use Rattle.http_front.specs.declared.fault.FrontFault.TheVariants.{Method, EndedEarly, LinkFault, OutOfMemory}
use Rattle.http_front.specs.declared.incoming.Incoming.{Incoming}
use Rattle.http_front.specs.declared.incoming.Incoming.TheVariants as incoming
use Rattle.http_front.specs.declared.action_target.ActionTarget.{ActionTarget}
use Rattle.http_front.specs.declared.action_target.ActionTarget.TheVariants.{Get, Post}

-- ---- a head, and a body

-- The head was at fault, or memory ran out. The link isn't the cause, nor is its end.
abbrev pub IsOfHead : FrontFault → Type 0
IsOfHead BadHead = ⊤
IsOfHead NoLength = ⊤
IsOfHead TooLong = ⊤
IsOfHead NoRoute = ⊤
IsOfHead Method = ⊤
IsOfHead EndedEarly = ⊥
IsOfHead LinkFault = ⊥
IsOfHead OutOfMemory = ⊤

-- how many bytes of a body are read
abbrev pub body_length : ActionTarget → ℕ
body_length (Get name query token) = 0
body_length (Post name count token) = count

abbrev pub body_in : Incoming → List ℕ
body_in (incoming.Get name query token) = []
body_in (incoming.Post name body token) = body

-- What was read off a link of a head that wasn't found: at most 16,384 bytes. No head begins them where the link failed.
pub record ReadsNoHead (observed left : Option (List ℕ)) (fault : FrontFault) : Type 0 where
  pub read : List ℕ
  pub gives : Gives observed read left
  pub short : length read ≤ 16384
  pub ended : fault ≡ EndedEarly → IsAtEnd left
  pub broken : fault ≡ LinkFault → HasNoRequest (marked read)

-- What was read off a link of a body of `count` bytes, of which the received ones were read before.
pub record ReadsBody {T : Type 0} (count : ℕ) (received : List ℕ) (observed left : Option (List ℕ))
    (result : Result T FrontFault) : Type 0 where
  pub read : List ℕ
  pub gives : Gives observed read left
  pub within : length read ≤ count - length received
  pub ended : result ≡ Err EndedEarly → IsAtEnd left
  pub broken : result ≡ Err LinkFault → length (received ++ read) < count

-- ---- a request

-- A head begins the bytes, and at most this many bytes were taken after it.
abbrev pub TakesPastHead : List ℕ → List ℕ → ℕ → Type 0
TakesPastHead bytes taken most = (head : RequestHead) × Begins bytes head × (length taken ≤ extent head + most)

-- the bytes that were taken are no complete request
abbrev pub IsUnfinished : Reads → List ℕ → Type 0
IsUnfinished Answers taken = HasNoHead taken ⊎ IsRequest Answers taken (Err EndedEarly)

-- How much of the bytes was taken, by what was received. A request and a fault of its head take no byte after the piece
-- in which the head ends, and a POST no byte after its body. Where the link failed, the request wasn't complete.
abbrev pub TakesFor : Reads → Result Incoming FrontFault → List ℕ → List ℕ → Type 0
TakesFor Answers (Ok (incoming.Get name query token)) bytes taken = TakesPastHead bytes taken 4095
TakesFor Answers (Ok (incoming.Post name body token)) bytes taken = TakesPastHead bytes taken (max 4095 (length body))
TakesFor Answers (Err BadHead) bytes taken = TakesPastHead bytes taken 4095 ⊎ (length taken ≤ 16384)
TakesFor Answers (Err NoLength) bytes taken = TakesPastHead bytes taken 4095
TakesFor Answers (Err TooLong) bytes taken = TakesPastHead bytes taken 4095
TakesFor Answers (Err NoRoute) bytes taken = TakesPastHead bytes taken 4095
TakesFor Answers (Err Method) bytes taken = TakesPastHead bytes taken 4095
TakesFor Answers (Err EndedEarly) bytes taken = taken ≡ bytes
TakesFor Answers (Err LinkFault) bytes taken = (length taken ≤ 278528) × IsUnfinished Answers taken
TakesFor Answers (Err OutOfMemory) bytes taken = length taken ≤ 278528

-- The same where the buffer was taken off the link before, and the link's observed bytes came after it.
abbrev pub LeavesAfter : Reads → List ℕ → Option (List ℕ) → Option (List ℕ) → Result Incoming FrontFault → Type 0
LeavesAfter Answers buffer observed left result = IfSome observed (λ bytes. (read : List ℕ) × (rest : List ℕ)
    × (left ≡ Some rest) × (bytes ≡ read ++ rest) × TakesFor Answers result (buffer ++ bytes) (buffer ++ read))

-- What the link has left, where that is observable: all but the bytes that were taken for what was received.
abbrev pub Leaves : Reads → Option (List ℕ) → Option (List ℕ) → Result Incoming FrontFault → Type 0
Leaves Answers observed left result = IfSome observed (λ bytes. (taken : List ℕ) × (rest : List ℕ)
    × (left ≡ Some rest) × (bytes ≡ taken ++ rest) × TakesFor Answers result bytes taken)

-- How much of a request's head begins a text: all of it, a part, or none that more bytes complete. A head is the request
-- line, the field lines and the empty line after them (RFC 9112, sections 2.1, 3 and 5). Empty lines before it are skipped
-- (section 2.2). It has at most 64 field lines, since a server limits what it takes (RFC 9110, section 5.4).
use Rattle.std.specs.Prelude.{◌≡◌, ℕ, ◌≤◌, ◌⊎◌, Bool, true, false, List, ◌++◌, length, drop, Option, Some, None}
use Rattle.std.specs.Prelude.{Result, Ok, Err, nat_le, ◌||◌, ◌==◌}
use Rattle.std.specs.List.{list_any}
use Rattle.httparse.specs.Grammar.{RequestHead, ReadsRequest, HasNoRequest, MayBecomeRequest, print_request}
use Rattle.httparse.specs.Spans.{RequestOverflows}
use Rattle.http_front.specs.Head.{marked, extent, pairs_of, Begins, Continues, IsInvalid, IsPartial}
use Rattle.http_front.specs.declared.fault.FrontFault.{FrontFault}
use Rattle.http_front.specs.declared.fault.FrontFault.TheVariants.{BadHead, EndedEarly, OutOfMemory}
use Rattle.http_front.specs.declared.head.Head.{Head}
use Rattle.http_front.specs.declared.head.HeadParse.{HeadParse}
use Rattle.http_front.specs.declared.head.HeadParse.TheVariants.{Complete, Partial, Invalid}

-- the copy has the head's method, request target and fields, and its length in bytes
pub record Holds (copy : Head) (head : RequestHead) : Type 0 where
  pub method : copy.method ≡ head.method
  pub target : copy.target ≡ head.target
  pub fields : copy.fields ≡ pairs_of head
  pub length : copy.length ≡ length (print_request head)

-- The head is complete: the text begins with one of at most 64 field lines, which the copy holds.
pub record IsComplete (text : List ℕ) (copy : Head) : Type 0 where
  pub head : RequestHead
  pub reads : ReadsRequest text head (drop copy.length text)
  pub holds : Holds copy head
  pub few : length head.fields ≤ 64
  pub within : copy.length ≤ length text

-- The head is incomplete (RFC 9112, section 8): none begins the text, and more bytes may complete one. A target is only
-- known to be UTF-8 once it is complete, so a text that ends inside any target counts.
abbrev pub IsIncomplete : List ℕ → Type 0
IsIncomplete text = HasNoRequest text × MayBecomeRequest text

-- The parse of the text. It is invalid only if no continuation begins with a head of at most 64 field lines. A text that
-- ends inside a 65th field line may be partial too.
abbrev pub IsHeadParse : List ℕ → HeadParse → Type 0
IsHeadParse text (Complete head) = IsComplete text head
IsHeadParse text Partial = IsIncomplete text
IsHeadParse text Invalid = RequestOverflows 64 text

-- no head that begins the text has more than 64 field lines
abbrev pub HasNoneOver : List ℕ → Type 0
HasNoneOver text = (head : RequestHead) (rest : List ℕ) → ReadsRequest text head rest → length head.fields ≤ 64

-- If some continuation of the text begins with a head, some continuation begins with one of at most 64 field lines.
abbrev pub StaysWithin : List ℕ → Type 0
StaysWithin text = (more : List ℕ) (head : RequestHead) (rest : List ℕ) → ReadsRequest (text ++ more) head rest
    → Continues 64 text

-- ---- the bytes that came so far, as a buffer

-- a head of `count` bytes begins the buffer
pub record HasHeadOf (buffer : List ℕ) (count : ℕ) : Type 0 where
  pub head : RequestHead
  pub begins : Begins buffer head
  pub length_is : count ≡ extent head
  pub within : count ≤ length buffer

-- no head can begin the buffer
pub record IsInvalidHead (buffer : List ℕ) (fault : FrontFault) : Type 0 where
  pub is : fault ≡ BadHead
  pub never : IsInvalid buffer

-- The buffer, after which no bytes come, begins with no head. A continuation of it could.
pub record IsPartialHead (buffer : List ℕ) (more : Bool) (fault : FrontFault) : Type 0 where
  pub is : fault ≡ EndedEarly
  pub end : more ≡ false
  pub none : HasNoRequest (marked buffer)
  pub unfinished : IsPartial buffer

-- A buffer that began with no head at its first `before` bytes is parsed again if one of the bytes after them is a line
-- feed, since a head ends in one, or if it has as many bytes as a head may have.
abbrev pub is_due : List ℕ → ℕ → Bool
is_due buffer before = nat_le 16384 (length buffer) || list_any (λ b. b == 10) (drop before buffer)

-- The head of a connection whose bytes begin with the buffer: its length; or none yet, so that more bytes are to be read;
-- or the fault. A buffer of 16,384 bytes without a head is too long for one.
abbrev pub IsParseOfBuffer : List ℕ → Bool → Result (Option ℕ) FrontFault → Type 0
IsParseOfBuffer buffer more (Ok (Some count)) = HasHeadOf buffer count
IsParseOfBuffer buffer more (Ok None) = (more ≡ true) × HasNoRequest (marked buffer)
IsParseOfBuffer buffer more (Err fault) =
    IsInvalidHead buffer fault ⊎ IsPartialHead buffer more fault ⊎ (fault ≡ OutOfMemory)

-- The head of a request (RFC 9112, sections 2 to 5) at the front of a connection's bytes.
use Rattle.std.specs.Prelude.{ℕ, ◌≤◌, List, ◌++◌, length, map, nat_lt, if◌then◌else◌}
use Rattle.httparse.specs.Grammar.{RequestHead, ReadsRequest, print_request}
use Rattle.httparse.specs.Spans.{name_and_value, RequestOverflows}

-- The grammar of heads admits request targets in UTF-8 only. A head with another target has to be distinguished from
-- bytes that are no head. So the extent of a head is read with each byte past ASCII replaced by `(`. That byte is
-- allowed where a byte past ASCII is, in a target or a value, and it isn't allowed in a token, where such a byte isn't
-- either.
abbrev pub marked_byte : ℕ → ℕ
marked_byte b = if nat_lt b 128 then b else 40

abbrev pub marked : List ℕ → List ℕ
marked bytes = map marked_byte bytes

-- how many bytes the head has
abbrev pub extent : RequestHead → ℕ
extent head = length (print_request head)

-- the bytes begin with this head, of at most 16,384 bytes and 64 fields
pub record Begins (bytes : List ℕ) (head : RequestHead) : Type 0 where
  pub rest : List ℕ
  pub reads : ReadsRequest (marked bytes) head rest
  pub short : extent head ≤ 16384
  pub few : length head.fields ≤ 64

-- no such head begins the bytes
abbrev pub HasNoHead : List ℕ → Type 0
HasNoHead bytes = (head : RequestHead) → ¬ (Begins bytes head)

-- no continuation of the bytes, however long, begins with a head of at most 64 fields
abbrev pub IsInvalid : List ℕ → Type 0
IsInvalid bytes = RequestOverflows 64 (marked bytes)

-- some continuation of the text begins with a head of at most `room` fields
pub record Continues (room : ℕ) (text : List ℕ) : Type 0 where
  pub more : List ℕ
  pub head : RequestHead
  pub rest : List ℕ
  pub reads : ReadsRequest (text ++ more) head rest
  pub few : length head.fields ≤ room

-- some continuation of the bytes begins with a head of at most 64 fields, so they aren't invalid
abbrev pub IsPartial : List ℕ → Type 0
IsPartial bytes = Continues 64 (marked bytes)

-- names and values of fields, in order; a value without the white space around it (RFC 9110, section 5.5)
abbrev pub Pairs : Type 0
Pairs = List (List ℕ × List ℕ)

abbrev pub pairs_of : RequestHead → Pairs
pairs_of head = map name_and_value head.fields

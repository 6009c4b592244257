-- The request that a fetch writes, and what it returns for the bytes of the response (RFC 9112, sections 3, 4 and 6.3).
use Rattle.std.specs.Prelude.{◌≡◌, ℕ, ◌≤◌, ◌⊎◌, Bool, true, false, ◌==◌, nat_lt, List, ◌++◌, length, take, drop, map}
use Rattle.std.specs.Prelude.{codes, if◌then◌else◌, Option, Some, None, Result, Ok, Err, ⊤}
use Rattle.portal_base.specs.declared.outside.FetchFault.{FetchFault}
use Rattle.portal_base.specs.declared.outside.FetchFault.TheVariants.{Failed, Missing, TooLong as LongBody}
use Rattle.portal_base.specs.declared.outside.FetchFault.TheVariants.{OutOfMemory as NoMemory}
use Rattle.httparse.specs.Grammar.{ResponseHead, ReadsResponse, HasNoResponse, print_response, status_code}
use Rattle.httparse.specs.Spans.{ResponseOverflows, name_and_value}
use Rattle.http_front.specs.Head.{Pairs}
use Rattle.http_front.specs.Fields.{has_bad_length, length_given}
use Rattle.http_front.specs.Request.{UnlessOutside}
use Rattle.http_front.specs.declared.fault.FrontFault.{FrontFault}
use Rattle.http_front.specs.declared.fault.FrontFault.TheVariants.{BadHead, NoLength, TooLong, NoRoute}
use Rattle.http_front.specs.declared.fault.FrontFault.TheVariants.{Method, EndedEarly, LinkFault, OutOfMemory}
use Rattle.http_front.specs.declared.reply.Reply.{Reply}
use Rattle.http_front.specs.declared.reply.ReplyParse.{ReplyParse}
use Rattle.http_front.specs.declared.reply.ReplyParse.TheVariants.{Complete, Partial, Invalid}

-- the request: a GET of the target from the host, after which the connection is closed (RFC 9112, sections 3.2 and 9.6)
unfoldable pub request_bytes : List ℕ → List ℕ → List ℕ
request_bytes host target =
    ((codes "GET " ++ target) ++ (codes " HTTP/1.1\r\nHost: " ++ host)) ++ codes "\r\nConnection: close\r\n\r\n"

-- the bytes are this head of a response, of at most 16,384 bytes and 64 fields, and then the rest
pub record BeginsReply (bytes : List ℕ) (head : ResponseHead) (rest : List ℕ) : Type 0 where
  pub reads : ReadsResponse bytes head rest
  pub short : length (print_response head) ≤ 16384
  pub few : length head.fields ≤ 64

-- no such head begins the bytes
abbrev pub HasNoReply : List ℕ → Type 0
HasNoReply bytes = (head : ResponseHead) (rest : List ℕ) → ¬ (BeginsReply bytes head rest)

-- the body, by the length that the head gives, or to the end of input (RFC 9112, section 6.3)
abbrev pub body_of : ℕ → Option ℕ → List ℕ → Result (List ℕ) FetchFault
body_of limit None rest = if nat_lt limit (length rest) then Err LongBody else Ok rest
body_of limit (Some count) rest = if nat_lt limit count then Err LongBody
    else (if nat_lt (length rest) count then Err Missing else Ok (take count rest))

-- the result of a fetch for this status and these fields: the body if the status is 200 (RFC 9110, section 15.3.1)
abbrev pub reply_of : ℕ → ℕ → Pairs → List ℕ → Result (List ℕ) FetchFault
reply_of limit status fields rest = if status == 200
    then (if has_bad_length fields then Err Missing else body_of limit (length_given fields) rest)
    else Err Missing

-- the bytes begin with a head, and this is the result of the fetch
pub record IsReply (limit : ℕ) (bytes : List ℕ) (result : Result (List ℕ) FetchFault) : Type 0 where
  pub head : ResponseHead
  pub rest : List ℕ
  pub begins : BeginsReply bytes head rest
  pub gives : result ≡ reply_of limit (status_code head) (map name_and_value head.fields) rest

-- the result of a fetch for all bytes of the response; `Missing` if no head begins them
abbrev pub IsFetched : ℕ → List ℕ → Result (List ℕ) FetchFault → Type 0
IsFetched limit bytes result = IsReply limit bytes result ⊎ (HasNoReply bytes × (result ≡ Err Missing))

-- P, unless the fault is one of the link or of memory, which says nothing of the bytes
abbrev pub UnlessLost : FetchFault → Type 0 → Type 0
UnlessLost Failed P = ⊤
UnlessLost Missing P = P
UnlessLost LongBody P = P
UnlessLost NoMemory P = ⊤

-- P, unless the link failed or there was no memory
abbrev pub UnlessUnobserved : {T : Type 0} → Result T FetchFault → Type 0 → Type 0
UnlessUnobserved (Ok body) P = P
UnlessUnobserved (Err fault) P = UnlessLost fault P

-- P of what the bytes determine: the body, or the fault
abbrev pub ObservesBody : {T : Type 0} → Result T FetchFault → (T → List ℕ) → (Result (List ℕ) FetchFault → Type 0)
    → Type 0
ObservesBody (Ok body) items P = P (Ok (items body))
ObservesBody (Err fault) items P = UnlessLost fault (P (Err fault))

-- ---- inside the crate

-- the fault of a fetch, by the fault of reading
abbrev pub fetch_fault : FrontFault → FetchFault
fetch_fault BadHead = Missing
fetch_fault NoLength = Missing
fetch_fault TooLong = LongBody
fetch_fault NoRoute = Missing
fetch_fault Method = Missing
fetch_fault EndedEarly = Missing
fetch_fault LinkFault = Failed
fetch_fault OutOfMemory = NoMemory

-- P of what was read, as the result of a fetch
abbrev pub ObservesRead : {T : Type 0} → Result T FrontFault → (T → List ℕ) → (Result (List ℕ) FetchFault → Type 0)
    → Type 0
ObservesRead (Ok body) items P = P (Ok (items body))
ObservesRead (Err fault) items P = UnlessOutside fault (P (Err (fetch_fault fault)))

-- the copy holds the parts of a head at the front of the text
pub record IsReplyOf (text : List ℕ) (copy : Reply) : Type 0 where
  pub head : ResponseHead
  pub reads : ReadsResponse text head (drop copy.length text)
  pub status : copy.status ≡ status_code head
  pub fields : copy.fields ≡ map name_and_value head.fields
  pub few : length head.fields ≤ 64
  pub within : copy.length ≤ length text
  pub length : copy.length ≡ length (print_response head)

abbrev pub IsReplyParse : List ℕ → ReplyParse → Type 0
IsReplyParse text (Complete reply) = IsReplyOf text reply
IsReplyParse text Partial = HasNoResponse text
IsReplyParse text Invalid = ResponseOverflows 64 text

-- the parse of a buffer: a head, or that more bytes are to be read, or that no head comes
abbrev pub IsReplyParseOfBuffer : List ℕ → Bool → ReplyParse → Type 0
IsReplyParseOfBuffer buffer more (Complete reply) = IsReplyOf buffer reply
IsReplyParseOfBuffer buffer more Partial = (more ≡ true) × (16384 ≤ length buffer → HasNoResponse buffer)
IsReplyParseOfBuffer buffer more Invalid = ResponseOverflows 64 buffer ⊎ ((more ≡ false) × HasNoResponse buffer)

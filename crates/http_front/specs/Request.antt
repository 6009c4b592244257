-- The request of a connection's bytes, which doesn't depend on the pieces in which they come.
use Rattle.std.specs.Prelude.{◌≡◌, ℕ, ◌<◌, ◌≤◌, ◌⊎◌, Bool, List, length, take, drop, codes, if◌then◌else◌}
use Rattle.std.specs.Prelude.{Option, Some, Result, Err, MatchResult, ⊤}
use Rattle.std.specs.Borrow.{Bor}
use Rattle.httparse.specs.Grammar.{RequestHead, ReadsRequest}
use Rattle.http_front.specs.Head.{Begins, HasNoHead, IsInvalid, IsPartial, Pairs, extent, pairs_of}
use Rattle.http_front.specs.Fields.{has_bad_length}
use Rattle.http_front.specs.ActionTarget.{path_of, route_of, action_target_of, incoming_of}
use Rattle.http_front.specs.declared.fault.FrontFault.{FrontFault}
use Rattle.http_front.specs.declared.fault.FrontFault.TheVariants.{BadHead, NoLength, TooLong, NoRoute}
use Rattle.http_front.specs.declared.fault.FrontFault.TheVariants.{Method, EndedEarly, LinkFault, OutOfMemory}
use Rattle.http_front.specs.declared.incoming.Incoming.{Incoming}
use Rattle.http_front.specs.declared.action_target.ActionTarget.{ActionTarget}

-- the possible answers to whether the action of a name only reads
abbrev pub Reads : Type 1
Reads = List ℕ → Option Bool → Type 0

-- the action that a head of these parts asks for, where the name of a GET's action is looked up
abbrev pub AsksOf : Reads → List ℕ → List ℕ → Pairs → Result ActionTarget FrontFault → Type 0
AsksOf Answers method target fields action_target = (reads : Option Bool)
    × ((name : List ℕ) → route_of (path_of target) ≡ Some name → method ≡ codes "GET" → Answers name reads)
    × (action_target ≡ action_target_of reads method target fields)

-- the action that this head asks for
abbrev pub Asks : Reads → RequestHead → Result ActionTarget FrontFault → Type 0
Asks Answers head action_target = AsksOf Answers head.method head.target (pairs_of head) action_target

-- a head whose target isn't UTF-8 has no route
abbrev pub without_route : RequestHead → FrontFault
without_route mark = if has_bad_length (pairs_of mark) then BadHead else NoRoute

-- The action that the bytes of one head ask for, which was read with its bytes past ASCII marked. It is the action of
-- the grammar's head, or a fault if the target isn't UTF-8.
abbrev pub IsActionTarget : Reads → List ℕ → RequestHead → Result ActionTarget FrontFault → Type 0
IsActionTarget Answers text mark action_target =
    ((head : RequestHead) × (rest : List ℕ) × ReadsRequest text head rest × (length head.fields ≤ 64)
    × Asks Answers head action_target)
    ⊎ (((head : RequestHead) (rest : List ℕ) → ReadsRequest text head rest → 64 < length head.fields)
    × (action_target ≡ Err (without_route mark)))

-- A head begins the bytes, and this is its request.
pub record IsRequest (Answers : Reads) (bytes : List ℕ) (result : Result Incoming FrontFault) : Type 0 where
  pub head : RequestHead
  pub action_target : Result ActionTarget FrontFault
  pub begins : Begins bytes head
  pub asks : IsActionTarget Answers (take (extent head) bytes) head action_target
  pub gives : result ≡ incoming_of action_target (drop (extent head) bytes)

-- No head begins the bytes, and either none can, or they ended too early.
pub record HasNone (bytes : List ℕ) (result : Result Incoming FrontFault) : Type 0 where
  pub no_head : HasNoHead bytes
  pub why : (((16384 ≤ length bytes) ⊎ IsInvalid bytes) × (result ≡ Err BadHead))
      ⊎ ((length bytes < 16384) × IsPartial bytes × (result ≡ Err EndedEarly))

-- what is received of a connection's bytes
abbrev pub IsReceived : Reads → List ℕ → Result Incoming FrontFault → Type 0
IsReceived Answers bytes result = IsRequest Answers bytes result ⊎ HasNone bytes result

-- P, unless the fault is one of the link or of memory, which says nothing of the bytes
abbrev pub UnlessOutside : FrontFault → Type 0 → Type 0
UnlessOutside BadHead P = P
UnlessOutside NoLength P = P
UnlessOutside TooLong P = P
UnlessOutside NoRoute P = P
UnlessOutside Method P = P
UnlessOutside EndedEarly P = P
UnlessOutside LinkFault P = ⊤
UnlessOutside OutOfMemory P = ⊤

abbrev pub UnlessFails : {T : Type 0} → Result T FrontFault → Type 0 → Type 0
UnlessFails result P = MatchResult result (λ _. P) (λ fault. UnlessOutside fault P)

-- the answers of a function of texts for a name, by its answers for a reference to the name
abbrev pub AnswersAt : (Bor (List ℕ) → Option Bool → Type 0) → Reads
AnswersAt says name reads = (shown : Bor (List ℕ)) × (shown.now ≡ name) × says shown reads

-- the one answer of a function for a name
abbrev pub AnswersBy : (List ℕ → Option Bool) → Reads
AnswersBy reading name reads = reads ≡ reading name

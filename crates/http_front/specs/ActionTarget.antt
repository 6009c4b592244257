-- The action that a head asks for, or why it is refused. Of several faults the first in the order below counts.
use Rattle.std.specs.Prelude.{ℕ, Bool, true, false, not, ◌&&◌, nat_lt, nat_eq, List, length, take, drop, codes}
use Rattle.std.specs.Prelude.{if◌then◌else◌, ◌==◌}
use Rattle.std.specs.Prelude.{Option, Some, None, Result, Ok, Err}
use Rattle.std.specs.Option.{option_or}
use Rattle.std.specs.List.{before_first, after_first, list_any, starts_with}
use Rattle.std.specs.Str.{bytes_eq}
use Rattle.http_front.specs.Head.{Pairs}
use Rattle.http_front.specs.Fields.{has_named, has_bad_length, length_given, token_of}
use Rattle.http_front.specs.declared.fault.FrontFault.{FrontFault}
use Rattle.http_front.specs.declared.fault.FrontFault.TheVariants.{BadHead, NoLength, TooLong, NoRoute, Method}
use Rattle.http_front.specs.declared.fault.FrontFault.TheVariants.{EndedEarly}
use Rattle.http_front.specs.declared.incoming.Incoming.{Incoming}
use Rattle.http_front.specs.declared.incoming.Incoming.TheVariants as incoming
use Rattle.http_front.specs.declared.action_target.ActionTarget.{ActionTarget}
use Rattle.http_front.specs.declared.action_target.ActionTarget.TheVariants.{Get, Post}

-- the path of a request target, before `?`, and the query after it (RFC 9112, section 3.2.1)
abbrev pub path_of : List ℕ → List ℕ
path_of target = before_first (λ b. b == 63) target

abbrev pub query_of : List ℕ → List ℕ
query_of target = after_first (λ b. b == 63) target

-- a name isn't empty and has no `/`
abbrev pub is_segment : List ℕ → Bool
is_segment name = nat_lt 0 (length name) && not (list_any (λ b. b == 47) name)

-- the rest of the text after this prefix, if the text begins with it
unfoldable pub without_prefix : List ℕ → List ℕ → Option (List ℕ)
without_prefix front text = if starts_with nat_eq text front then Some (drop (length front) text) else None

abbrev pub if_segment : Option (List ℕ) → Option (List ℕ)
if_segment None = None
if_segment (Some name) = if is_segment name then Some name else None

-- the name that follows this prefix of the path
abbrev pub name_after : List ℕ → List ℕ → Option (List ℕ)
name_after front path = if_segment (without_prefix front path)

-- the name of the action in a path, `/api/3/action/NAME` or `/api/action/NAME`
abbrev pub route_of : List ℕ → Option (List ℕ)
route_of path = option_or (name_after (codes "/api/3/action/") path) (name_after (codes "/api/action/") path)

-- whether the body is longer than 262,144 bytes
abbrev pub is_long : Option ℕ → Bool
is_long None = false
is_long (Some count) = nat_lt 262144 count

-- A GET is accepted for an action that only reads, and for an unknown one. `reads` says which it is.
abbrev pub get_of : Option Bool → List ℕ → List ℕ → Pairs → Result ActionTarget FrontFault
get_of (Some false) name query fields = Err Method
get_of (Some true) name query fields = if is_long (length_given fields) then Err TooLong
    else Ok (Get name query (token_of fields))
get_of None name query fields = if is_long (length_given fields) then Err TooLong
    else Ok (Get name query (token_of fields))

abbrev pub post_with : List ℕ → Pairs → Option ℕ → Result ActionTarget FrontFault
post_with name fields None = Err NoLength
post_with name fields (Some count) = if nat_lt 262144 count then Err TooLong
    else Ok (Post name count (token_of fields))

-- a POST has a length of at most 262,144 bytes, and no coding of its body
abbrev pub post_of : List ℕ → Pairs → Result ActionTarget FrontFault
post_of name fields = if has_named (codes "transfer-encoding") fields then Err NoLength
    else post_with name fields (length_given fields)

-- the action of this name, by the method
abbrev pub target_by_method : Option Bool → List ℕ → List ℕ → List ℕ → Pairs → Result ActionTarget FrontFault
target_by_method reads method name query fields = if bytes_eq method (codes "GET") then get_of reads name query fields
    else (if bytes_eq method (codes "POST") then post_of name fields else Err Method)

abbrev pub target_by_route : Option Bool → List ℕ → List ℕ → Pairs → Option (List ℕ) → Result ActionTarget FrontFault
target_by_route reads method query fields None = Err NoRoute
target_by_route reads method query fields (Some name) = target_by_method reads method name query fields

-- The action that the head asks for. A bad Content-Length comes before a path without a route, that before the method,
-- and that before a body that is too long.
abbrev pub action_target_of : Option Bool → List ℕ → List ℕ → Pairs → Result ActionTarget FrontFault
action_target_of reads method target fields = if has_bad_length fields then Err BadHead
    else target_by_route reads method (query_of target) fields (route_of (path_of target))

-- the request, once the bytes after the head are known; the body of a GET isn't read
abbrev pub incoming_of : Result ActionTarget FrontFault → List ℕ → Result Incoming FrontFault
incoming_of (Err fault) rest = Err fault
incoming_of (Ok (Get name query token)) rest = Ok (incoming.Get name query token)
incoming_of (Ok (Post name count token)) rest = if nat_lt (length rest) count then Err EndedEarly
    else Ok (incoming.Post name (take count rest) token)

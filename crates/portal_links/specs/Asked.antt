-- The call that a received request asks for.
use Rattle.std.specs.Prelude.{ℕ, ℤ, List, [], ◌∷◌, codes, length, Option, Result, Ok, Err}
use Rattle.action_api.specs.Query.{request_of_query}
use Rattle.action_api.specs.Request.{request_of}
use Rattle.action_api.specs.declared.early.Early.{Early}
use Rattle.http_front.specs.declared.incoming.Incoming.{Incoming}
use Rattle.http_front.specs.declared.incoming.Incoming.TheVariants.{Post, Get}
use Rattle.portal_base.specs.declared.caller.Caller.{Caller}
use Rattle.portal_calls.specs.declared.call.Call.{Call}
use Rattle.portal_calls.specs.declared.call.Request.{Request}
use Rattle.portal_links.specs.Tokens.{Digests, caller_of_token}

-- an empty body is the empty dictionary
abbrev pub body_or_empty : List ℕ → List ℕ
body_or_empty [] = codes "{}"
body_or_empty (b ∷ bytes) = b ∷ bytes

abbrev pub name_in : Incoming → List ℕ
name_in (Post name body token) = name
name_in (Get name query token) = name

abbrev pub token_in : Incoming → Option (List ℕ)
token_in (Post name body token) = token
token_in (Get name query token) = token

-- the size of the call: that of the body in bytes, or that of the query
abbrev pub size_in : Incoming → ℕ
size_in (Post name body token) = length body
size_in (Get name query token) = length query

abbrev pub request_in : Incoming → Result Request Early
request_in (Post name body token) = request_of name (body_or_empty body)
request_in (Get name query token) = request_of_query name query

-- the call of a request, with its size and the moment and nonce that were drawn for it
abbrev pub call_of : Caller → Request → ℕ → ℤ → ℕ → Call
call_of caller request size moment nonce =
    record { caller = caller; request = request; size = size; moment = moment; nonce = record { 0 = nonce } }

-- the call of a request, if there is one, else the early fault
abbrev pub call_of_request : Caller → ℕ → ℤ → ℕ → Result Request Early → Result Call Early
call_of_request caller size moment nonce (Ok request) = Ok (call_of caller request size moment nonce)
call_of_request caller size moment nonce (Err early) = Err early

-- The call that a received request asks for, as one of the token's user with this moment and nonce.
abbrev pub call_in : Digests → ℤ → ℕ → Incoming → Result Call Early
call_in digests moment nonce incoming =
    call_of_request (caller_of_token digests (token_in incoming)) (size_in incoming) moment nonce (request_in incoming)

-- The bytes determine what is received and what is fetched.
use Rattle.std.proofs.Common.{◌≡◌, ℕ, ◌<◌, ◌≤◌, List, Bool, true, false, refl, sym, ap, subst, ◌∙◌}
use Rattle.std.proofs.Common.{length, arith, take, drop, ◌⊎◌, inl, inr}
use Rattle.std.proofs.Common.{map}
use Rattle.std.specs.Prelude.{Option, Some, None, Result, Err, codes, if◌then◌else◌}
use Rattle.std.specs.Str.{bytes_eq}
use Rattle.std.proofs.lemmas.Slice.Eq.{bytes_eq-Decides}
use Rattle.httparse.specs.Grammar.{RequestHead, status_code}
use Rattle.httparse.specs.Spans.{name_and_value}
use Rattle.httparse.proofs.GrammarLemmas.{request_unique, response_unique}
use Rattle.portal_base.specs.declared.outside.FetchFault.{FetchFault}
use Rattle.http_front.specs.Head.{Pairs, extent, pairs_of, marked, IsInvalid, IsPartial}
use Rattle.http_front.specs.Fields.{has_bad_length}
use Rattle.http_front.specs.ActionTarget.{target_by_route, get_of, post_of, route_of, path_of, query_of, incoming_of}
use Rattle.http_front.specs.Request.{Reads, AsksOf, Asks, IsActionTarget, IsRequest, IsReceived, AnswersBy}
use Rattle.http_front.specs.Fetch.{IsFetched, reply_of}
use Rattle.http_front.specs.declared.fault.FrontFault.{FrontFault}
use Rattle.http_front.specs.declared.fault.FrontFault.TheVariants.{BadHead, Method, EndedEarly}
use Rattle.http_front.specs.declared.incoming.Incoming.{Incoming}
use Rattle.http_front.specs.declared.action_target.ActionTarget.{ActionTarget}

-- ---- requests

-- a name has one answer
abbrev HasOneAnswer : Reads → Type 0
HasOneAnswer Answers = (name : List ℕ) (one two : Option Bool) → Answers name one → Answers name two → one ≡ two

decided : (a b : List ℕ) → bytes_eq a b ≡ true → a ≡ b
decided a b e = (bytes_eq-Decides a b).0 e

-- only a GET of a route looks at whether the action reads
target_same : (a b : Option Bool) (method query : List ℕ) (fields : Pairs) (route : Option (List ℕ))
    → ((name : List ℕ) → route ≡ Some name → method ≡ codes "GET" → a ≡ b)
    → target_by_route a method query fields route ≡ target_by_route b method query fields route
target_same a b method query fields None same = refl
target_same a b method query fields (Some name) same =
    by_method (bytes_eq method (codes "GET")) (λ e. same name refl (decided method (codes "GET") e))
  where
    other : Result ActionTarget FrontFault
    other = if bytes_eq method (codes "POST") then post_of name fields else Err Method

    by_method : (is_get : Bool) → (is_get ≡ true → a ≡ b)
        → (if is_get then get_of a name query fields else other)
        ≡ (if is_get then get_of b name query fields else other)
    by_method true h = ap (λ v. get_of v name query fields) (h refl)
    by_method false h = refl

asks_same : (A : Reads) (method target : List ℕ) (fields : Pairs) (one two : Result ActionTarget FrontFault)
    → HasOneAnswer A → AsksOf A method target fields one → AsksOf A method target fields two → one ≡ two
asks_same A method target fields one two single x y =
    x.2 ∙ ap (λ v. if has_bad_length fields then Err BadHead else v)
    (target_same x.0 y.0 method (query_of target) fields (route_of (path_of target))
    (λ name route get. single name x.0 y.0 (x.1 name route get) (y.1 name route get))) ∙ sym y.2

action_target_same : (A : Reads) (text : List ℕ) (mark : RequestHead) (one two : Result ActionTarget FrontFault)
    → HasOneAnswer A → IsActionTarget A text mark one → IsActionTarget A text mark two → one ≡ two
action_target_same A text mark one two single (inl (h, rest, reads, few, asks)) (inl (k, after, reads2, few2, asks2)) =
    let same = request_unique text k h after rest reads2 reads in
    asks_same A h.method h.target (pairs_of h) one two single asks (subst (λ v. Asks A v two) same.0 asks2)
action_target_same A text mark one two single (inl (h, rest, reads, few, asks)) (inr (none, e)) =
    absurd (omega (arith, none h rest reads, few))
action_target_same A text mark one two single (inr (none, e)) (inl (h, rest, reads, few, asks)) =
    absurd (omega (arith, none h rest reads, few))
action_target_same A text mark one two single (inr (none, e)) (inr (none2, e2)) = e ∙ sym e2

request_same : (A : Reads) (bytes : List ℕ) (one two : Result Incoming FrontFault) → HasOneAnswer A
    → IsRequest A bytes one → IsRequest A bytes two → one ≡ two
request_same A bytes one two single x y =
    let same = (request_unique (marked bytes) y.head x.head y.begins.rest x.begins.rest
    y.begins.reads x.begins.reads).0 in
    let action_target = action_target_same A (take
    (extent x.head) bytes) x.head x.action_target y.action_target single x.asks
    (subst (λ v. IsActionTarget A (take (extent v) bytes) v y.action_target) same y.asks) in
    x.gives ∙ ap (λ v. incoming_of v (drop (extent x.head) bytes)) action_target
    ∙ ap (λ v. incoming_of y.action_target (drop (extent v) bytes)) (sym same) ∙ sym y.gives

abbrev IsBad : List ℕ → Type 0
IsBad bytes = (16384 ≤ length bytes) ⊎ IsInvalid bytes

-- bytes that are too many, or that no head can continue, aren't those that one may continue
not_both : (bytes : List ℕ) → IsBad bytes → length bytes < 16384 → IsPartial bytes → ⊥
not_both bytes (inl long) short more = omega (arith, long, short)
not_both bytes (inr never) short more =
    let over : 64 < length more.head.fields = never more.more more.head more.rest more.reads in
    omega (arith, over, more.few)

none_same : (bytes : List ℕ) (one two : Result Incoming FrontFault)
    → ((IsBad bytes × (one ≡ Err BadHead)) ⊎ ((length bytes < 16384) × IsPartial bytes × (one ≡ Err EndedEarly)))
    → ((IsBad bytes × (two ≡ Err BadHead)) ⊎ ((length bytes < 16384) × IsPartial bytes × (two ≡ Err EndedEarly)))
    → one ≡ two
none_same bytes one two (inl x) (inl y) = x.1 ∙ sym y.1
none_same bytes one two (inl x) (inr y) = absurd (not_both bytes x.0 y.0 y.1)
none_same bytes one two (inr x) (inl y) = absurd (not_both bytes y.0 x.0 x.1)
none_same bytes one two (inr x) (inr y) = x.2 ∙ sym y.2

determined : (A : Reads) (bytes : List ℕ) (one two : Result Incoming FrontFault) → HasOneAnswer A
    → IsReceived A bytes one → IsReceived A bytes two → one ≡ two
determined A bytes one two single (inl x) (inl y) = request_same A bytes one two single x y
determined A bytes one two single (inl x) (inr y) = absurd (y.no_head x.head x.begins)
determined A bytes one two single (inr x) (inl y) = absurd (x.no_head y.head y.begins)
determined A bytes one two single (inr x) (inr y) = none_same bytes one two x.why y.why

pub received_determined : (reading : List ℕ → Option Bool) (bytes : List ℕ) (one two : Result Incoming FrontFault)
    → IsReceived (AnswersBy reading) bytes one → IsReceived (AnswersBy reading) bytes two → one ≡ two
received_determined reading bytes one two x y =
    determined (AnswersBy reading) bytes one two (λ name a b first second. first ∙ sym second) x y

-- ---- fetches

pub fetched_determined : (limit : ℕ) (bytes : List ℕ) (one two : Result (List ℕ) FetchFault)
    → IsFetched limit bytes one → IsFetched limit bytes two → one ≡ two
fetched_determined limit bytes one two (inl x) (inl y) =
    let same = response_unique bytes x.head y.head x.rest y.rest x.begins.reads y.begins.reads in
    x.gives ∙ ap (λ v. reply_of limit (status_code v) (map name_and_value v.fields) x.rest) same.0
    ∙ ap (λ v. reply_of limit (status_code y.head) (map name_and_value y.head.fields) v) same.1 ∙ sym y.gives
fetched_determined limit bytes one two (inl x) (inr y) = absurd (y.0 x.head x.rest x.begins)
fetched_determined limit bytes one two (inr x) (inl y) = absurd (x.0 y.head y.rest y.begins)
fetched_determined limit bytes one two (inr x) (inr y) = x.1 ∙ sym y.1

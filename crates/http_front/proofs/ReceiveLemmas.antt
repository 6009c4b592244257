-- From the bytes that came to all that were to come.
use Rattle.std.proofs.Common.{◌≡◌, ℕ, ◌<◌, ◌≤◌, List, [], ◌++◌, ◌∙◌, refl, sym, ap, subst}
use Rattle.std.proofs.Common.{length}
use Rattle.std.proofs.Common.{arith, length-append, take, drop, inl, inr}
use Rattle.std.specs.Prelude.{Option, Some, None, Result, Ok, Err, IfSome}
use Rattle.std.proofs.lemmas.List.{append-nil, take_at, take-append-le, drop-append-le, take-map}
use Rattle.httparse.specs.Grammar.{RequestHead, ReadsRequest, print_request, HasNoRequest}
use Rattle.httparse.specs.Spans.{RequestOverflows}
use Rattle.portal_base.specs.Outside.{Gives, IsAtEnd}
use Rattle.http_front.specs.Head.{marked, marked_byte, extent, Begins, IsInvalid, IsPartial}
use Rattle.http_front.specs.HeadParse.{HasHeadOf}
use Rattle.http_front.specs.Request.{Reads, IsActionTarget, IsRequest, HasNone, IsReceived, UnlessOutside}
use Rattle.http_front.specs.Request.{UnlessFails}
use Rattle.http_front.specs.Request.{without_route}
use Rattle.http_front.specs.ActionTarget.{incoming_of}
use Rattle.http_front.specs.declared.fault.FrontFault.{FrontFault}
use Rattle.http_front.specs.declared.fault.FrontFault.TheVariants.{BadHead, NoLength, TooLong, NoRoute}
use Rattle.http_front.specs.declared.fault.FrontFault.TheVariants.{Method, EndedEarly, LinkFault, OutOfMemory}
use Rattle.http_front.specs.declared.incoming.Incoming.{Incoming}
use Rattle.http_front.specs.declared.action_target.ActionTarget.{ActionTarget}
use Rattle.http_front.proofs.HeadLemmas.{begins_on, invalid_on, invalid_none, end_none, full_none}

pub fault_all : {P : Type 0} (fault : FrontFault) → P → UnlessOutside fault P
fault_all BadHead p = p
fault_all NoLength p = p
fault_all TooLong p = p
fault_all NoRoute p = p
fault_all Method p = p
fault_all EndedEarly p = p
fault_all LinkFault p = tt
fault_all OutOfMemory p = tt

pub fault_map : {P Q : Type 0} (fault : FrontFault) → (P → Q) → UnlessOutside fault P → UnlessOutside fault Q
fault_map BadHead f p = f p
fault_map NoLength f p = f p
fault_map TooLong f p = f p
fault_map NoRoute f p = f p
fault_map Method f p = f p
fault_map EndedEarly f p = f p
fault_map LinkFault f p = tt
fault_map OutOfMemory f p = tt

pub unless_map : {T P Q : Type 0} (r : Result T FrontFault) → (P → Q) → UnlessFails r P → UnlessFails r Q
unless_map (Ok x) f p = f p
unless_map (Err fault) f p = fault_map fault f p

-- where no head can begin the bytes that were read
pub invalid_has_none : (observed left : Option (List ℕ)) (buffer : List ℕ) → Gives observed buffer left
    → IsInvalid buffer
    → IfSome observed (λ bytes. HasNone bytes (Err BadHead))
invalid_has_none None left buffer g never = tt
invalid_has_none (Some all) left buffer g never =
    let invalid : IsInvalid all = subst IsInvalid (sym g.2) (invalid_on buffer g.0 never) in
    record { no_head = invalid_none all invalid; why = inl (inr invalid, refl) }

-- where none begins as many bytes as a head may have
pub full_has_none : (observed left : Option (List ℕ)) (buffer : List ℕ) → Gives observed buffer left
    → 16384 ≤ length buffer
    → HasNoRequest (marked buffer) → IfSome observed (λ bytes. HasNone bytes (Err BadHead))
full_has_none None left buffer g full none = tt
full_has_none (Some all) left buffer g full none = record {
  no_head = λ head. subst (λ v. ¬ (Begins v head)) (sym g.2) (full_none buffer g.0 full none head);
  why = inl (inl (subst (λ v. 16384 ≤ length v) (sym g.2) (rw (length-append buffer g.0) (omega (arith, full)))), refl);
}

-- where the link is at its end, what was read is all that was to come
pub all_read : (observed left : Option (List ℕ)) (buffer : List ℕ) → Gives observed buffer left → IsAtEnd left
    → IfSome observed (λ bytes. bytes ≡ buffer)
all_read None left buffer g end = tt
all_read (Some all) left buffer g end =
    let rest : g.0 ≡ [] = subst IsAtEnd g.1 end in
    g.2 ∙ ap (λ v. buffer ++ v) rest ∙ append-nil buffer

pub on_observed : {P Q : List ℕ → Type 0} (observed : Option (List ℕ)) → ((bytes : List ℕ) → P bytes → Q bytes)
    → IfSome observed P
    → IfSome observed Q
on_observed None f p = tt
on_observed (Some bytes) f p = f bytes p

pub partial_has_none : (observed left : Option (List ℕ)) (buffer : List ℕ) → Gives observed buffer left → IsAtEnd left
    → length buffer < 16384 → HasNoRequest (marked buffer) → IsPartial buffer
    → IfSome observed (λ bytes. HasNone bytes (Err EndedEarly))
partial_has_none observed left buffer g end short none unfinished = on_observed observed
    (λ bytes e. subst (λ v. HasNone v (Err EndedEarly)) (sym e)
    (record { no_head = end_none buffer none; why = inr (short, unfinished, refl) }))
    (all_read observed left buffer g end)

pub asks_none : (A : Reads) (text : List ℕ) (mark : RequestHead) (fault : FrontFault)
    → ((head : RequestHead) (rest : List ℕ) → ReadsRequest text head rest → 64 < length head.fields)
    → fault ≡ without_route mark → IsActionTarget A text mark (Err fault)
asks_none A text mark fault none e = inr (none, ap Err e)

pub never_few : (text : List ℕ) → RequestOverflows 64 text → (head : RequestHead) (rest : List ℕ)
    → ReadsRequest text head rest → 64 < length head.fields
never_few text over head rest reads =
    over [] head rest (subst (λ v. ReadsRequest v head rest) (sym (append-nil text)) reads)

-- the head's own bytes, marked
pub own_bytes : (buffer : List ℕ) (count : ℕ) (head : RequestHead) (rest : List ℕ) → ReadsRequest
    (marked buffer) head rest
    → count ≡ extent head → ReadsRequest (marked (take count buffer)) head []
own_bytes buffer count head rest reads e = (
  reads.0,
  sym (take-map marked_byte count buffer) ∙ ap (take count) reads.1 ∙ take_at (print_request head) rest count (sym e)
      ∙ sym (append-nil (print_request head)),
)

abbrev failed : FrontFault → Result Incoming FrontFault
failed fault = Err fault

pub request_of : (A : Reads) (all buffer rest : List ℕ) (count : ℕ) (f : HasHeadOf buffer count)
    (action_target : Result ActionTarget FrontFault)
    (result : Result Incoming FrontFault) → all ≡ buffer ++ rest → IsActionTarget A
    (take count buffer) f.head action_target
    → result ≡ incoming_of action_target (drop count buffer ++ rest) → IsRequest A all result
request_of A all buffer rest count f action_target result e asks gives = record {
  head = f.head;
  action_target = action_target;
  begins = subst (λ v. Begins v f.head) (sym e) (begins_on buffer rest f.head f.begins);
  asks = subst (λ v. IsActionTarget A v f.head action_target)
      (sym (take-append-le count buffer rest f.within) ∙ ap (take count) (sym e) ∙ ap
      (λ n. take n all) f.length_is) asks;
  gives = gives ∙ ap (incoming_of action_target)
      (sym (drop-append-le count buffer rest f.within) ∙ ap (drop count) (sym e) ∙ ap (λ n. drop n all) f.length_is);
}

-- the action that a head asks for which begins the buffer
pub asks_found : (A : Reads) (buffer : List ℕ) (count : ℕ) (f : HasHeadOf buffer count)
    (action_target : Result ActionTarget FrontFault)
    → ((mark : RequestHead) (rest : List ℕ) → ReadsRequest (marked (take count buffer)) mark rest
    → length mark.fields ≤ 64 → UnlessFails action_target (IsActionTarget A (take count buffer) mark action_target))
    → UnlessFails action_target (IsActionTarget A (take count buffer) f.head action_target)
asks_found A buffer count f action_target asks =
    asks f.head [] (own_bytes buffer count f.head f.begins.rest f.begins.reads f.length_is) f.begins.few

-- the request of the buffer and the bytes still to come
pub request_received : (A : Reads) (left : Option (List ℕ)) (buffer text received : List ℕ) (count : ℕ)
    (action_target : ActionTarget)
    (result : Result Incoming FrontFault) → (f : HasHeadOf buffer count) → text ≡ take count buffer → received
    ≡ drop count buffer
    → ((mark : RequestHead) (rest : List ℕ) → ReadsRequest (marked text) mark rest
    → length mark.fields ≤ 64 → IsActionTarget A text mark (Ok action_target))
    → IfSome left (λ bytes. UnlessFails result (result ≡ incoming_of (Ok action_target) (received ++ bytes)))
    → IfSome left (λ bytes. UnlessFails result (IsReceived A (buffer ++ bytes) result))
request_received A None buffer text received count action_target result f t b asks gives = tt
request_received A (Some rest) buffer text received count action_target result f t b asks gives =
    let own : IsActionTarget A (take count buffer) f.head (Ok action_target) = asks_found A buffer count f
    (Ok action_target)
    (subst (λ v. (mark : RequestHead) (after : List ℕ) → ReadsRequest (marked v) mark after
    → length mark.fields ≤ 64 → IsActionTarget A v mark (Ok action_target)) t asks) in
    unless_map result (λ e. inl (request_of A (buffer ++ rest) buffer rest count f (Ok action_target) result refl own
    (e ∙ ap (λ v. incoming_of (Ok action_target) (v ++ rest)) b))) gives

pub request_refused : (A : Reads) (left : Option (List ℕ)) (buffer text : List ℕ) (count : ℕ) (fault : FrontFault)
    → (f : HasHeadOf buffer count) → text ≡ take count buffer
    → ((mark : RequestHead) (rest : List ℕ) → ReadsRequest (marked text) mark rest
    → length mark.fields ≤ 64 → UnlessOutside fault (IsActionTarget A text mark (Err fault)))
    → IfSome left (λ bytes. UnlessFails (failed fault) (IsReceived A (buffer ++ bytes) (failed fault)))
request_refused A None buffer text count fault f t asks = tt
request_refused A (Some rest) buffer text count fault f t asks =
    let own : UnlessOutside fault (IsActionTarget A (take count buffer) f.head (Err fault)) =
    asks_found A buffer count f (Err fault)
    (subst (λ v. (mark : RequestHead) (after : List ℕ) → ReadsRequest (marked v) mark after
    → length mark.fields ≤ 64 → UnlessOutside fault (IsActionTarget A v mark (Err fault))) t asks) in
    fault_map fault (λ a. inl (request_of A (buffer ++ rest) buffer rest count f (Err fault)
    (Err fault) refl a refl)) own

-- from the bytes after the buffer to all bytes
pub all_received : (A : Reads) (observed left : Option (List ℕ)) (buffer shown : List ℕ)
    (result : Result Incoming FrontFault)
    → Gives observed buffer left → shown ≡ buffer
    → IfSome left (λ bytes. UnlessFails result (IsReceived A (shown ++ bytes) result))
    → IfSome observed (λ bytes. UnlessFails result (IsReceived A bytes result))
all_received A None left buffer shown result g e r = tt
all_received A (Some all) left buffer shown result g e r =
    subst (λ v. UnlessFails result (IsReceived A v result)) (sym g.2)
    (subst (λ o. IfSome o (λ bytes. UnlessFails result (IsReceived A (buffer ++ bytes) result))) g.1
    (subst (λ h. IfSome left (λ bytes. UnlessFails result (IsReceived A (h ++ bytes) result))) e r))

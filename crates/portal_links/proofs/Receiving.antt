-- What is received, where names are looked up by a function that says whether the action of a name only reads.
use Rattle.std.proofs.Common.{ℕ, List, Bool, Result, Ok, Err, Option, Some, None, ap, ◌≡◌, ◌∙◌, take, Bor, inl, inr}
use Rattle.std.specs.Prelude.{IfSome}
use Rattle.httparse.specs.Grammar.{RequestHead}
use Rattle.action_api.specs.Query.{is_reading_action}
use Rattle.http_front.specs.Head.{Pairs, extent, pairs_of}
use Rattle.http_front.specs.Request.{AnswersAt, AsksOf, IsReceived, IsRequest, IsActionTarget, UnlessFails}
use Rattle.http_front.specs.Taken.{IsUnfinished, Leaves, TakesFor}
use Rattle.http_front.specs.declared.fault.FrontFault.{FrontFault}
use Rattle.http_front.specs.declared.fault.FrontFault.TheVariants as front
use Rattle.http_front.specs.declared.incoming.Incoming.{Incoming}
use Rattle.http_front.specs.declared.incoming.Incoming.TheVariants.{Post, Get}
use Rattle.http_front.specs.declared.action_target.ActionTarget.{ActionTarget}
use Rattle.portal_links.specs.Written.{IsReadingAnswer}

asks_reading : (says : Bor (List ℕ) → Option Bool → Type 0)
    → ((name : Bor (List ℕ)) (answer : Option Bool) → says name answer → answer ≡ is_reading_action name.now)
    → (method target : List ℕ) (fields : Pairs) (action_target : Result ActionTarget FrontFault)
    → AsksOf (AnswersAt says) method target fields action_target → AsksOf IsReadingAnswer method target fields action_target
asks_reading says all method target fields action_target a = (
  a.0,
  λ name route get. let s = a.1 name route get in all s.0 a.0 s.2 ∙ ap is_reading_action s.1,
  a.2,
)

target_reading : (says : Bor (List ℕ) → Option Bool → Type 0)
    → ((name : Bor (List ℕ)) (answer : Option Bool) → says name answer → answer ≡ is_reading_action name.now)
    → (text : List ℕ) (mark : RequestHead) (action_target : Result ActionTarget FrontFault)
    → IsActionTarget (AnswersAt says) text mark action_target → IsActionTarget IsReadingAnswer text mark action_target
target_reading says all text mark action_target (inl w) =
    inl (w.0, w.1, w.2, w.3, asks_reading says all w.0.method w.0.target (pairs_of w.0) action_target w.4)
target_reading says all text mark action_target (inr w) = inr w

request_reading : (says : Bor (List ℕ) → Option Bool → Type 0)
    → ((name : Bor (List ℕ)) (answer : Option Bool) → says name answer → answer ≡ is_reading_action name.now)
    → (bytes : List ℕ) (result : Result Incoming FrontFault)
    → IsRequest (AnswersAt says) bytes result → IsRequest IsReadingAnswer bytes result
request_reading says all bytes result r = record {
  head = r.head;
  action_target = r.action_target;
  begins = r.begins;
  asks = target_reading says all (take (extent r.head) bytes) r.head r.action_target r.asks;
  gives = r.gives;
}

received_reading : (says : Bor (List ℕ) → Option Bool → Type 0)
    → ((name : Bor (List ℕ)) (answer : Option Bool) → says name answer → answer ≡ is_reading_action name.now)
    → (bytes : List ℕ) (result : Result Incoming FrontFault)
    → IsReceived (AnswersAt says) bytes result → IsReceived IsReadingAnswer bytes result
received_reading says all bytes result (inl r) = inl (request_reading says all bytes result r)
received_reading says all bytes result (inr n) = inr n

unless_fails : {P Q : Type 0} (result : Result Incoming FrontFault) → (P → Q) → UnlessFails result P
    → UnlessFails result Q
unless_fails (Ok incoming) f p = f p
unless_fails (Err front.BadHead) f p = f p
unless_fails (Err front.NoLength) f p = f p
unless_fails (Err front.TooLong) f p = f p
unless_fails (Err front.NoRoute) f p = f p
unless_fails (Err front.Method) f p = f p
unless_fails (Err front.EndedEarly) f p = f p
unless_fails (Err front.LinkFault) f p = p
unless_fails (Err front.OutOfMemory) f p = p

-- What is received with a function that gives the same answers as `is_reading_action` is what is received with it.
pub receives_reading : (says : Bor (List ℕ) → Option Bool → Type 0)
    → ((name : Bor (List ℕ)) (answer : Option Bool) → says name answer → answer ≡ is_reading_action name.now)
    → (observed : Option (List ℕ)) (result : Result Incoming FrontFault)
    → IfSome observed (λ bytes. UnlessFails result (IsReceived (AnswersAt says) bytes result))
    → IfSome observed (λ bytes. UnlessFails result (IsReceived IsReadingAnswer bytes result))
receives_reading says all None result r = r
receives_reading says all (Some bytes) result r = unless_fails result (received_reading says all bytes result) r

unfinished_reading : (says : Bor (List ℕ) → Option Bool → Type 0)
    → ((name : Bor (List ℕ)) (answer : Option Bool) → says name answer → answer ≡ is_reading_action name.now)
    → (taken : List ℕ) → IsUnfinished (AnswersAt says) taken → IsUnfinished IsReadingAnswer taken
unfinished_reading says all taken (inl none) = inl none
unfinished_reading says all taken (inr r) = inr (request_reading says all taken (Err front.EndedEarly) r)

takes_reading : (says : Bor (List ℕ) → Option Bool → Type 0)
    → ((name : Bor (List ℕ)) (answer : Option Bool) → says name answer → answer ≡ is_reading_action name.now)
    → (result : Result Incoming FrontFault) (bytes taken : List ℕ)
    → TakesFor (AnswersAt says) result bytes taken → TakesFor IsReadingAnswer result bytes taken
takes_reading says all (Err front.LinkFault) bytes taken t = (t.0, unfinished_reading says all taken t.1)
takes_reading says all (Ok (Post name body token)) bytes taken t = t
takes_reading says all (Ok (Get name query token)) bytes taken t = t
takes_reading says all (Err front.BadHead) bytes taken t = t
takes_reading says all (Err front.NoLength) bytes taken t = t
takes_reading says all (Err front.TooLong) bytes taken t = t
takes_reading says all (Err front.NoRoute) bytes taken t = t
takes_reading says all (Err front.Method) bytes taken t = t
takes_reading says all (Err front.EndedEarly) bytes taken t = t
takes_reading says all (Err front.OutOfMemory) bytes taken t = t

-- The same of what is left unread.
pub leaves_reading : (says : Bor (List ℕ) → Option Bool → Type 0)
    → ((name : Bor (List ℕ)) (answer : Option Bool) → says name answer → answer ≡ is_reading_action name.now)
    → (observed left : Option (List ℕ)) (result : Result Incoming FrontFault)
    → Leaves (AnswersAt says) observed left result → Leaves IsReadingAnswer observed left result
leaves_reading says all None left result l = l
leaves_reading says all (Some bytes) left result l = (l.0, l.1, l.2, l.3, takes_reading says all result bytes l.0 l.4)

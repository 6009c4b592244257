-- What is written to a link: constants of the program, the phrases of statuses, and what is written after reading.
use Rattle.std.proofs.Common.{◌≡◌, ◌≢◌, ℕ, ◌≤◌, List, [], ◌∷◌, ◌++◌, false, Result, Ok, Err, Option}
use Rattle.std.proofs.Common.{Some}
use Rattle.std.proofs.Common.{refl, sym, ap, subst, ◌∙◌}
use Rattle.std.proofs.Common.{arith, rules, inl, inr}
use Rattle.std.specs.Prelude.{IsSome, codes}
use Rattle.http.specs.StatusCode.{reason_phrase}
use Rattle.serde_json.specs.Data.{boolean, string, object, no_members, member}
use Rattle.serde_json.specs.Written.{compact_text}
use Rattle.serde_json.proofs.OnLiterals.{serde_json_on_literals}
use Rattle.action_api.specs.Error.{error_dictionary}
use Rattle.action_api.specs.Reply.{failure_dictionary, reply_status}
use Rattle.action_api.specs.declared.early.Early.{Early}
use Rattle.action_api.specs.declared.early.Early.TheVariants.{TooLong, NotJson, Fraction, UnknownAction}
use Rattle.action_api.specs.declared.early.Early.TheVariants.{OutOfMemory as no_memory}
use Rattle.http_front.specs.Response.{response_bytes}
use Rattle.http_front.specs.declared.fault.FrontFault.{FrontFault}
use Rattle.http_front.specs.declared.fault.FrontFault.TheVariants as front
use Rattle.portal_base.specs.Json.{data_of}
use Rattle.portal_base.specs.Outside.{Rose, Takes, TakesPrefix}
use Rattle.portal_base.specs.declared.json_value.Json.{the_lemmas}
use Rattle.portal_events.specs.declared.event.Refusal.TheVariants.{NotFound, NotAuthorized, Validation, NameInUse}
use Rattle.portal_events.specs.declared.event.Refusal.TheVariants.{KeeperFault, OutOfMemory}
use Rattle.portal_events.specs.declared.event.Reply.{Reply}
use Rattle.portal_events.specs.declared.event.Reply.TheVariants.{Accepted, Shown, Refused, Harvest}
use Rattle.portal_links.specs.Written.{LinkTrace, Writes, WritesFault, error_text, fault_text}
use Rattle.portal_links.specs.declared.written.Served.{Served}
use Rattle.portal_links.specs.declared.written.Served.TheVariants as served

-- ---- constants of the program

error_data : (kind message : List ℕ)
    → data_of (failure_dictionary [] (error_dictionary kind message))
    ≡ object (member (codes "error")
    (object (member (codes "__type") (string kind) (member (codes "message") (string message) no_members)))
    (member (codes "help") (string []) (member (codes "success") (boolean false) no_members)))
error_data kind message = search (rules, the_lemmas)

-- an error from the texts of its type and message, and the failure with it
abbrev error_pieces : List ℕ → List ℕ → List ℕ
error_pieces kind message = codes "{\"__type\":" ++ (kind ++ (codes ",\"message\":" ++ (message ++ codes "}")))

abbrev failure_pieces : List ℕ → List ℕ → List ℕ
failure_pieces kind message =
    codes "{\"error\":" ++ (error_pieces kind message ++ codes ",\"help\":\"\",\"success\":false}")

-- the text between quotes
abbrev in_quotes : List ℕ → List ℕ
in_quotes text = 34 ∷ (text ++ 34 ∷ [])

-- The text of a failure with an error of this type and message, as a constant of the program has it.
abbrev pub constant_text : List ℕ → List ℕ → List ℕ
constant_text kind message = failure_pieces (in_quotes kind) (in_quotes message)

-- the JSON of a text is the text between quotes: it has nothing to escape
abbrev pub IsPlain : List ℕ → Type 0
IsPlain text = compact_text (string text) ≡ in_quotes text

-- A constant is the JSON text of its error, where nothing is escaped.
pub constant_is : (kind message : List ℕ) → IsPlain kind → IsPlain message
    → constant_text kind message ≡ error_text (error_dictionary kind message)
unfolding serde_json_on_literals
constant_is kind message plain_kind plain_message =
    sym (ap (λ k. failure_pieces k (in_quotes message)) plain_kind)
    ∙ sym (ap (λ m. failure_pieces (compact_text (string kind)) m) plain_message)
    ∙ sym (ap compact_text (error_data kind message))

-- a reply of a status with a text
abbrev pub reply_with : ℕ → List ℕ → Option (ℕ × List ℕ)
reply_with status text = Some (status, text)

-- ---- statuses

-- each status of a reply has a phrase
pub has_phrase : (reply : Result Reply Early) → IsSome (reason_phrase (reply_status reply))
has_phrase (Ok (Accepted value)) = refl
has_phrase (Ok (Shown value)) = refl
has_phrase (Ok (Refused (NotFound kind))) = refl
has_phrase (Ok (Refused (NotAuthorized right))) = refl
has_phrase (Ok (Refused (Validation faults))) = refl
has_phrase (Ok (Refused (NameInUse key))) = refl
has_phrase (Ok (Refused KeeperFault)) = refl
has_phrase (Ok (Refused OutOfMemory)) = refl
has_phrase (Ok (Harvest answer)) = refl
has_phrase (Err TooLong) = refl
has_phrase (Err NotJson) = refl
has_phrase (Err Fraction) = refl
has_phrase (Err (UnknownAction name)) = refl
has_phrase (Err no_memory) = refl

-- ---- counts of faults

pub Rose-before : (a b c : ℕ) → a ≤ b → Rose b c → Rose a c
Rose-before a b c le (inl lt) = inl (omega arith)
Rose-before a b c le (inr last) = inr last

-- ---- a link that was read before it was written to

-- what was written since reading ended was written since before it
pub writes_since : (text : ℕ × List ℕ) (old middle new : LinkTrace) (end : Served) → middle.taken ≡ old.taken
    → old.faults ≤ middle.faults → Writes text middle new end → Writes text old new end
writes_since text old middle new (served.Replied status) same rose w =
    (w.0, subst (λ t. Takes t (response_bytes text.0 text.1) new.taken) same w.1)
writes_since text old middle new served.EndedEarly same rose w = w
writes_since text old middle new served.LinkFault same rose w = (
  Rose-before old.faults middle.faults new.faults rose w.0,
  subst (λ t. TakesPrefix t (response_bytes text.0 text.1) new.taken) same w.1,
)

-- so was the reply to a fault
pub fault_since : (fault : FrontFault) (old middle new : LinkTrace) (end : Served) → middle.taken ≡ old.taken
    → old.faults ≤ middle.faults → (fault ≡ front.LinkFault → Rose old.faults middle.faults)
    → (fault ≢ front.LinkFault → WritesFault fault (fault_text fault) middle new end)
    → (fault ≡ front.LinkFault → (end ≡ served.LinkFault) × (new ≡ middle))
    → WritesFault fault (fault_text fault) old new end
fault_since front.BadHead old middle new end same rose failed w none =
    writes_since _ old middle new end same rose (w (λ e. absurd (cc)))
fault_since front.NoLength old middle new end same rose failed w none =
    writes_since _ old middle new end same rose (w (λ e. absurd (cc)))
fault_since front.TooLong old middle new end same rose failed w none =
    writes_since _ old middle new end same rose (w (λ e. absurd (cc)))
fault_since front.NoRoute old middle new end same rose failed w none =
    writes_since _ old middle new end same rose (w (λ e. absurd (cc)))
fault_since front.Method old middle new end same rose failed w none =
    writes_since _ old middle new end same rose (w (λ e. absurd (cc)))
fault_since front.OutOfMemory old middle new end same rose failed w none =
    writes_since _ old middle new end same rose (w (λ e. absurd (cc)))
fault_since front.EndedEarly old middle new end same rose failed w none =
    let nothing = w (λ e. absurd (cc)) in (nothing.0, nothing.1 ∙ same)
fault_since front.LinkFault old middle new end same rose failed w none =
    let n = none refl in (
      n.0,
      ap (λ (s : LinkTrace). s.taken) n.1 ∙ same,
      subst (λ (s : LinkTrace). Rose old.faults s.faults) (sym n.1) (failed refl),
    )

-- The changes that the answers on sources and jobs accept can be made.
use Rattle.std.proofs.Common.{◌≡◌, ◌≢◌, ℕ, Bool, true, false, cond, not, List, [], ◌∷◌, Option, Some, None, Result, Ok}
use Rattle.std.proofs.Common.{Err}
use Rattle.std.proofs.Common.{is_some, sym, ap, ◌∙◌, refl, true≢false}
use Rattle.std.specs.Prelude.{codes, is_none}
use Rattle.std.specs.Option.{option_and_then, option_map}
use Rattle.std.specs.Str.{bytes_eq, chars}
use Rattle.std.proofs.lemmas.Option.{same_Some}
use Rattle.std.proofs.lemmas.Slice.Eq.{bytes_eq-Decides}
use Rattle.portal_base.specs.declared.json_value.Json.{Json}
use Rattle.portal_base.specs.declared.kinds.KindFault.{KindFault}
use Rattle.portal_base.specs.declared.name.NameFault.{NameFault}
use Rattle.portal_base.specs.KeyErrors.{error_if, found_value, kind_message, text_error}
use Rattle.portal_base.specs.Kinds.{text_at}
use Rattle.portal_base.specs.Name.{is_name, name_fault, name_fault_message}
use Rattle.org_roles.specs.PeopleLists.{PeopleLists, org_in}
use Rattle.org_roles.specs.declared.entry.Org.{Org}
use Rattle.packages.specs.Errors.{message_unless}
use Rattle.packages.specs.Texts.{text_given}
use Rattle.packages.proofs.FindLemmas.{IsIn-find}
use Rattle.portal_calls.specs.Answer.{AcceptsOnly, required_text, required_value}
use Rattle.portal_calls.specs.declared.answer.Kind.TheVariants.{HarvestSource as source_kind}
use Rattle.portal_calls.specs.declared.answer.Right.TheVariants.{AdministerOrganization}
use Rattle.portal_calls.specs.declared.topic.HarvestAction.{HarvestAction}
use Rattle.portal_calls.specs.declared.topic.HarvestAction.TheVariants.{HarvestSourceCreate, HarvestSourceUpdate}
use Rattle.portal_calls.specs.declared.topic.HarvestAction.TheVariants.{HarvestSourceDelete, HarvestSourceShow}
use Rattle.portal_calls.specs.declared.topic.HarvestAction.TheVariants.{HarvestSourceList, HarvestJobCreate}
use Rattle.portal_calls.specs.declared.topic.HarvestAction.TheVariants.{HarvestJobShow}
use Rattle.portal_calls.proofs.Answering.{AcceptsOnly-answer_if_authorized, AcceptsOnly-answer_if_found}
use Rattle.portal_calls.proofs.Answering.{AcceptsOnly-answer_if_valid, authorized_thing-ok, error_if-none, thing_at-ok}
use Rattle.visibility.specs.CallView.{CallView}
use Rattle.visibility.specs.View.{administers}
use Rattle.harvest_sources.specs.Entries.{fault_if_open}
use Rattle.harvest_sources.specs.Sources.{SourceState, open_job, source_named}
use Rattle.harvest_sources.specs.declared.change.SourceChange.{SourceChange}
use Rattle.harvest_sources.specs.declared.change.StageFault.{StageFault}
use Rattle.harvest_sources.specs.declared.change.StageFault.TheVariants.{NotFinished}
use Rattle.harvest_answers.specs.Answers.{answer_to_action, answer_to_job_create, answer_to_job_show, can_create_for}
use Rattle.harvest_answers.specs.Answers.{answer_to_source_create, answer_to_source_delete, answer_to_source_show}
use Rattle.harvest_answers.specs.Answers.{answer_to_source_update, may_create_source}
use Rattle.harvest_answers.specs.Bodies.{created_source, creation_errors, location_error, location_read}
use Rattle.harvest_answers.specs.Bodies.{longest_source_name, organization_error, source_name_error}
use Rattle.harvest_answers.specs.Bodies.{text_or_empty, title_read, unfinished_error, unfinished_errors, update_errors}
use Rattle.harvest_answers.specs.Fit.{IsFitCreation, IsFitSource}
use Rattle.harvest_answers.specs.Lookup.{administered_source, job_given, source_at}

-- ---- what holds without errors

-- a text without an error has none by its rules
text-no_error : (rules : List ℕ → Option (List ℕ)) (given : Result (List ℕ) KindFault)
    → text_error rules given ≡ None
    → rules (text_or_empty given) ≡ None
text-no_error rules (Ok text) none = none
text-no_error rules (Err fault) none = absurd (cc)

-- and it was read
text-read : (rules : List ℕ → Option (List ℕ)) (given : Result (List ℕ) KindFault)
    → text_error rules given ≡ None
    → given ≡ Ok (text_or_empty given)
text-read rules (Ok text) none = refl
text-read rules (Err fault) none = absurd (cc)

-- a rule without an error holds
rule-no_error : (holds : Bool) (message : List ℕ) → message_unless holds message ≡ None → holds ≡ true
rule-no_error true message none = refl
rule-no_error false message none = absurd (cc)

-- a name without an error is one
name-no_error : (name : List ℕ) → source_name_error name ≡ None → is_name name longest_source_name ≡ true
name-no_error name none = by (name_fault name longest_source_name) none
  where
    by : (fault : Option NameFault) → option_map (name_fault_message longest_source_name) fault ≡ None
        → is_none fault ≡ true
    by None is = refl
    by (Some fault) is = absurd (cc)

-- an empty text isn't a name
name-nonempty : (name : List ℕ) → is_name name longest_source_name ≡ true → name ≢ []
unfolding chars
name-nonempty [] is = absurd (true≢false (sym is))
name-nonempty (b ∷ bs) is = λ empty. absurd (cc)

-- ---- a new source

-- each key of the body without an error
record NoErrors (people : PeopleLists) (body : Json) : Type 0 where
  name : text_error source_name_error (required_text (codes "name") body) ≡ None
  owner : text_error (organization_error people) (required_text (codes "owner_org") body) ≡ None
  location : text_error location_error (required_value (location_read body)) ≡ None

creation-no_errors : (people : PeopleLists) (body : Json) → creation_errors people body ≡ [] → NoErrors people body
creation-no_errors people body none =
    let name_error = text_error source_name_error (required_text (codes "name") body) in
    let owner_error = text_error (organization_error people) (required_text (codes "owner_org") body) in
    let before_owner = error_if (codes "name") name_error [] in
    let before_title = error_if (codes "owner_org") owner_error before_owner in
    let before_url = error_if (codes "title") (kind_message (title_read body)) before_title in
    let at_url = error_if-none (codes "url") (text_error location_error (required_value (location_read body)))
    before_url none in
    let at_title = error_if-none (codes "title") (kind_message (title_read body)) before_title at_url.0 in
    let at_owner = error_if-none (codes "owner_org") owner_error before_owner at_title.0 in
    let at_name = error_if-none (codes "name") name_error [] at_owner.0 in
    record { name = at_name.1; owner = at_owner.1; location = at_url.1 }

-- the text that a key needs is the one that it gives
required-given : (key : List ℕ) (body : Json) (text : List ℕ) → required_text key body ≡ Ok text
    → text_given key body ≡ Some text
required-given key body text is = by (text_at key body) is
  where
    by : (read : Result (Option (List ℕ)) KindFault) → required_value read ≡ Ok text → found_value read ≡ Some text
    by (Ok None) same = absurd (cc)
    by (Ok (Some t)) same = let e : t ≡ text = cc in ap Some e
    by (Err fault) same = absurd (cc)

-- The caller administers the organization that the body gives, where there is one of that name.
owner-administered : (view : CallView) (name : List ℕ)
    → text_given (codes "owner_org") view.call.request.body ≡ Some name
    → is_some (org_in view.people name) ≡ true → may_create_source view ≡ true
    → administers view.people view.caller name ≡ true
owner-administered view name given exists right = by (org_in view.people name) refl exists
  where
    by : (o : Option Org) → org_in view.people name ≡ o → is_some o ≡ true
        → administers view.people view.caller name ≡ true
    by None is some = absurd (true≢false (sym some))
    by (Some org) is some =
        let same : org.name ≡ name =
        (bytes_eq-Decides org.name name).0 (IsIn-find (λ (o : Org). bytes_eq o.name name) org view.people.orgs is).1 in
        ap (administers view.people view.caller) (sym same)
        ∙ ap (can_create_for view.people view.caller)
        (sym (ap (option_and_then (org_in view.people)) given ∙ is))
        ∙ right

creation-fitting : (view : CallView) → may_create_source view ≡ true
    → creation_errors view.people view.call.request.body ≡ []
    → IsFitCreation view (created_source view.call.request.body)
creation-fitting view right none =
    let body = view.call.request.body in
    let given = creation-no_errors view.people body none in
    let named : is_name (text_or_empty (required_text (codes "name") body)) longest_source_name ≡ true =
    name-no_error _ (text-no_error source_name_error (required_text (codes "name") body) given.name) in
    let owned : is_some (org_in view.people (text_or_empty (required_text (codes "owner_org") body))) ≡ true =
    rule-no_error _ _
    (text-no_error (organization_error view.people) (required_text (codes "owner_org") body) given.owner) in
    record {
      name = named;
      named = name-nonempty _ named;
      location =
          rule-no_error _ _ (text-no_error location_error (required_value (location_read body)) given.location);
      owned = owned;
      administered =
          owner-administered view _
          (required-given (codes "owner_org") body _
          (text-read (organization_error view.people) (required_text (codes "owner_org") body) given.owner))
          owned right;
      first = refl;
    }

creation-fit : (view : CallView) (sources : List SourceState)
    → AcceptsOnly (IsFitSource view sources) (answer_to_source_create view)
creation-fit view sources =
    AcceptsOnly-answer_if_authorized (IsFitSource view sources) (may_create_source view) AdministerOrganization _
    (λ right. AcceptsOnly-answer_if_valid (IsFitSource view sources) view.quota
    (creation_errors view.people view.call.request.body) _ (creation-fitting view right))

-- ---- a source that the caller sees

-- Where a source is found and its organization is administered, both hold.
record IsAdministered (key : List ℕ) (view : CallView) (sources : List SourceState) (s : SourceState) : Type 0 where
  own : administers view.people view.caller s.source.owner_org ≡ true
  looked : source_named sources s.source.name ≡ Some s

-- The source that a key names is found under its own name.
source-own : (key : List ℕ) (view : CallView) (sources : List SourceState) (s : SourceState)
    → administered_source key view sources ≡ Ok s → IsAdministered key view sources s
source-own key view sources s is =
    let given = authorized_thing-ok (λ (t : SourceState). administers view.people view.caller t.source.owner_org)
    AdministerOrganization (source_at key view sources) s is in
    let found = thing_at-ok key view.call.request.body source_kind (source_named sources) s given.1 in
    let same : s.source.name ≡ found.name =
    (bytes_eq-Decides s.source.name found.name).0
    (IsIn-find (λ t. bytes_eq t.source.name found.name) s sources found.looked).1 in
    record { own = given.0; looked = ap (source_named sources) same ∙ found.looked }

-- It is the one that its name finds.
own-only : (view : CallView) (sources : List SourceState) (s : SourceState)
    → administers view.people view.caller s.source.owner_org ≡ true → source_named sources s.source.name ≡ Some s
    → (t : SourceState) → source_named sources s.source.name ≡ Some t
    → administers view.people view.caller t.source.owner_org ≡ true
own-only view sources s own looked t also =
    let same : s ≡ t = same_Some s t (sym looked ∙ also) in
    ap (λ (u : SourceState). administers view.people view.caller u.source.owner_org) (sym same) ∙ own

-- It has no fault if it has no open job.
source-fault : (key : List ℕ) (view : CallView) (sources : List SourceState) (s : SourceState)
    → IsAdministered key view sources s → unfinished_error s ≡ None
    → fault_if_open (source_named sources s.source.name) ≡ None
source-fault key view sources s is none =
    ap fault_if_open is.looked
    ∙ ended (is_some (open_job s)) (rule-no_error _ _ none)
  where
    ended : (b : Bool) → not b ≡ true → cond {A = Option StageFault} b (Some NotFinished) None ≡ None
    ended true done = absurd (true≢false (sym done))
    ended false done = refl

update-finished : (s : SourceState) (body : Json) → update_errors s body ≡ [] → unfinished_error s ≡ None
update-finished s body none =
    let before_title = error_if (codes "id") (unfinished_error s) [] in
    let before_url = error_if (codes "title") (kind_message (title_read body)) before_title in
    let at_url = error_if-none (codes "url") _ before_url none in
    let at_title = error_if-none (codes "title") (kind_message (title_read body)) before_title at_url.0 in
    (error_if-none (codes "id") (unfinished_error s) [] at_title.0).1

update-fit : (view : CallView) (sources : List SourceState)
    → AcceptsOnly (IsFitSource view sources) (answer_to_source_update view sources)
update-fit view sources =
    AcceptsOnly-answer_if_found (IsFitSource view sources) (administered_source (codes "id") view sources) _
    (λ s is. AcceptsOnly-answer_if_valid (IsFitSource view sources) view.quota
    (update_errors s view.call.request.body) _
    (λ none.
    let given = source-own (codes "id") view sources s is in
    record {
      possible = source-fault (codes "id") view sources s given (update-finished s view.call.request.body none);
      administered = own-only view sources s given.own given.looked;
    }))

removal-fit : (view : CallView) (sources : List SourceState)
    → AcceptsOnly (IsFitSource view sources) (answer_to_source_delete view sources)
removal-fit view sources =
    AcceptsOnly-answer_if_found (IsFitSource view sources) (administered_source (codes "id") view sources) _
    (λ s is. AcceptsOnly-answer_if_valid (IsFitSource view sources) view.quota (unfinished_errors (codes "id") s) _
    (λ none.
    let given = source-own (codes "id") view sources s is in
    record {
      possible = source-fault (codes "id") view sources s given
          (error_if-none (codes "id") (unfinished_error s) [] none).1;
      administered = own-only view sources s given.own given.looked;
    }))

job-fit : (view : CallView) (sources : List SourceState)
    → AcceptsOnly (IsFitSource view sources) (answer_to_job_create view sources)
job-fit view sources =
    AcceptsOnly-answer_if_found (IsFitSource view sources) (administered_source (codes "source_id") view sources) _
    (λ s is. AcceptsOnly-answer_if_valid (IsFitSource view sources) view.quota
    (unfinished_errors (codes "source_id") s) _
    (λ none.
    let given = source-own (codes "source_id") view sources s is in
    record {
      possible = source-fault (codes "source_id") view sources s given
          (error_if-none (codes "source_id") (unfinished_error s) [] none).1;
      administered = own-only view sources s given.own given.looked;
    }))

-- ---- reads, which accept no change

pub show-only : (P : SourceChange → Type 0) (view : CallView) (sources : List SourceState)
    → AcceptsOnly P (answer_to_source_show view sources)
show-only P view sources = AcceptsOnly-answer_if_found P (source_at (codes "id") view sources) _ (λ s is. tt)

pub job-only : (P : SourceChange → Type 0) (view : CallView) (sources : List SourceState)
    → AcceptsOnly P (answer_to_job_show view sources)
job-only P view sources = AcceptsOnly-answer_if_found P (job_given view sources) _ (λ job is. tt)

-- ---- every action

pub action_fit : (action : HarvestAction) (view : CallView) (sources : List SourceState)
    → AcceptsOnly (IsFitSource view sources) (answer_to_action action view sources)
action_fit HarvestSourceCreate view sources = creation-fit view sources
action_fit HarvestSourceUpdate view sources = update-fit view sources
action_fit HarvestSourceDelete view sources = removal-fit view sources
action_fit HarvestSourceShow view sources = show-only (IsFitSource view sources) view sources
action_fit HarvestSourceList view sources = tt
action_fit HarvestJobCreate view sources = job-fit view sources
action_fit HarvestJobShow view sources = job-only (IsFitSource view sources) view sources

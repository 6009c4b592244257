-- The changes that the answers on organizations accept can be made.
use Rattle.std.proofs.Common.{◌≡◌, ◌≢◌, ℕ, Bool, true, false, cond, ◌||◌, List, [], ◌∷◌, Option, Some, None}
use Rattle.std.proofs.Common.{Result, Ok, Err}
use Rattle.std.proofs.Common.{is_some, sym, ap, ◌∙◌, refl, unwrap_or, true≢false}
use Rattle.std.specs.Prelude.{codes}
use Rattle.std.specs.List.{find}
use Rattle.std.specs.Str.{bytes_eq, chars}
use Rattle.std.proofs.lemmas.Slice.Eq.{bytes_eq-Decides}
use Rattle.portal_base.specs.declared.json_value.Json.{Json}
use Rattle.portal_base.specs.declared.kinds.KindFault.{KindFault}
use Rattle.portal_base.specs.KeyErrors.{KeyError, kind_message, error_if, text_error}
use Rattle.portal_base.specs.Kinds.{truth_at}
use Rattle.org_roles.specs.PeopleLists.{PeopleLists, is_sysadmin_in, is_user_in, org_in, role_in}
use Rattle.org_roles.specs.declared.change.OrgChange.{OrgChange}
use Rattle.org_roles.specs.declared.entry.Org.{Org}
use Rattle.packages.specs.Texts.{name_error}
use Rattle.packages.specs.Errors.{message_unless}
use Rattle.packages.specs.declared.package.Package.{Package}
use Rattle.visibility.specs.CallView.{CallView}
use Rattle.visibility.specs.View.{administers, has_datasets}
use Rattle.portal_calls.specs.Answer.{AcceptsOnly, denial_of, required_text}
use Rattle.portal_calls.specs.declared.answer.Kind.TheVariants.{Organization}
use Rattle.portal_calls.specs.declared.answer.Right.TheVariants.{CreateOrganization, AdministerOrganization}
use Rattle.portal_calls.proofs.Answering.{AcceptsOnly-answer_if_found, AcceptsOnly-answer_if_authorized, AcceptsOnly-answer_if_valid}
use Rattle.portal_calls.proofs.Answering.{AcceptsOnly-answer_unless_denied, authorized_thing-ok, error_if-none, thing_at-ok}
use Rattle.portal_calls.specs.declared.topic.OrganizationAction.{OrganizationAction}
use Rattle.portal_calls.specs.declared.topic.OrganizationAction.TheVariants.{OrganizationCreate, OrganizationPatch}
use Rattle.portal_calls.specs.declared.topic.OrganizationAction.TheVariants.{OrganizationDelete, OrganizationShow}
use Rattle.portal_calls.specs.declared.topic.OrganizationAction.TheVariants.{OrganizationList, OrganizationListForUser}
use Rattle.portal_calls.specs.declared.topic.OrganizationAction.TheVariants.{OrganizationMemberCreate}
use Rattle.portal_calls.specs.declared.topic.OrganizationAction.TheVariants.{OrganizationMemberDelete, MemberList}
use Rattle.portal_calls.specs.declared.topic.OrganizationAction.TheVariants.{UserList}
use Rattle.organization_answers.specs.Answers.{answer_to_action}
use Rattle.organization_answers.specs.Answers.{answer_to_organization_create, answer_to_organization_patch}
use Rattle.organization_answers.specs.Answers.{answer_to_organization_delete, answer_to_organization_show}
use Rattle.organization_answers.specs.Answers.{answer_to_member_create, answer_to_member_delete}
use Rattle.organization_answers.specs.Answers.{answer_to_member_list, answer_to_organization_list}
use Rattle.organization_answers.specs.Answers.{organization_named, administered_organization}
use Rattle.organization_answers.specs.Fit.{IsAdministered, IsFitOrg}
use Rattle.organization_answers.specs.Bodies.{description_read, title_read, text_or_none, creation_errors}
use Rattle.organization_answers.specs.Bodies.{patch_errors, removal_errors, member_errors, former_member_errors}
use Rattle.organization_answers.specs.Bodies.{role_error, user_error, member_error, user_given}
use Rattle.organization_answers.specs.Owners.{owns_source}

-- ---- the organization

-- the item that is found passes the test
found-passes : {X : Type 0} (test : X → Bool) (xs : List X) (x : X) → find test xs ≡ Some x → test x ≡ true
found-passes test [] x is = absurd (cc)
found-passes test (y ∷ ys) x is = by (test y) refl is (found-passes test ys x)
  where
    by : (b : Bool) → test y ≡ b → cond b (Some y) (find test ys) ≡ Some x
        → (find test ys ≡ Some x → test x ≡ true)
        → test x ≡ true
    by true passes same rest = let e : y ≡ x = cc in ap test (sym e) ∙ passes
    by false passes same rest = rest same

-- an organization that a name finds exists under its own name
found-exists : (people : PeopleLists) (name : List ℕ) (org : Org) → org_in people name ≡ Some org
    → is_some (org_in people org.name) ≡ true
found-exists people name org is =
    let same : org.name ≡ name =
    (bytes_eq-Decides org.name name).0 (found-passes (λ (o : Org). bytes_eq o.name name) people.orgs org is) in
    ap is_some (ap (org_in people) same ∙ is)

-- the organization of a call exists, and its caller administers it
own-administered : (view : CallView) (org : Org) → administered_organization view ≡ Ok org → IsAdministered view org.name
own-administered view org is =
    let own =
    authorized_thing-ok (λ (o : Org). administers view.people view.caller o.name) AdministerOrganization
    (organization_named view) org is in
    let named = thing_at-ok (codes "id") view.call.request.body Organization (org_in view.people) org own.1 in
    record { exists = found-exists view.people named.name org named.looked; administered = own.0 }

-- ---- what holds without errors

-- a text without an error has none by its rules
text-no_error : (rules : List ℕ → Option (List ℕ)) (given : Result (List ℕ) KindFault)
    → text_error rules given ≡ None
    → rules (unwrap_or (text_or_none given) []) ≡ None
text-no_error rules (Ok text) none = none
text-no_error rules (Err fault) none = absurd (cc)

-- a rule without an error holds
rule-no_error : (holds : Bool) (message : List ℕ) → message_unless holds message ≡ None → holds ≡ true
rule-no_error true message none = refl
rule-no_error false message none = absurd (cc)

-- an empty text isn't a name
name-no_error : (name : List ℕ) → name_error name ≡ None → name ≢ []
unfolding chars
name-no_error [] none = absurd (true≢false (ap is_some none))
name-no_error (b ∷ bs) none = λ empty. absurd (cc)

creation-named : (body : Json) (none : creation_errors body ≡ [])
    → unwrap_or (text_or_none (required_text (codes "name") body)) [] ≢ []
creation-named body none =
    let titled = error_if-none (codes "title") (kind_message (title_read body))
    (error_if (codes "name") (text_error name_error (required_text (codes "name") body))
    (error_if (codes "description") (kind_message (description_read body)) [])) none in
    let named = error_if-none (codes "name") (text_error name_error (required_text (codes "name") body))
    (error_if (codes "description") (kind_message (description_read body)) []) titled.0 in
    name-no_error _ (text-no_error name_error (required_text (codes "name") body) named.1)

removal-empty : (org : List ℕ) (datasets : List Package) (owners : List (List ℕ))
    → removal_errors org datasets owners ≡ []
    → (has_datasets org datasets ≡ false) × (owns_source org owners ≡ false)
removal-empty org datasets owners none = by (has_datasets org datasets) (owns_source org owners) none
  where
    by : (has owns : Bool)
        → cond {A = List KeyError} (has || owns)
        ((codes "id", codes "Organization has datasets or harvest sources") ∷ []) [] ≡ []
        → (has ≡ false) × (owns ≡ false)
    by true owns is = absurd (cc)
    by false true is = absurd (cc)
    by false false is = (refl, refl)

member-exists : (people : PeopleLists) (body : Json) → member_errors people body ≡ []
    → is_user_in people (user_given body) ≡ true
member-exists people body none =
    let error = error_if-none (codes "username") (text_error (user_error people) (required_text (codes "username") body))
    (error_if (codes "role") (text_error role_error (required_text (codes "role") body)) []) none in
    rule-no_error (is_user_in people (user_given body)) _
    (text-no_error (user_error people) (required_text (codes "username") body) error.1)

former-member-exists : (people : PeopleLists) (org : List ℕ) (body : Json) → former_member_errors people org body ≡ []
    → (is_user_in people (user_given body) ≡ true) × (is_some (role_in people org (user_given body)) ≡ true)
former-member-exists people org body none =
    let error = error_if-none (codes "username")
    (text_error (member_error people org) (required_text (codes "username") body)) [] none in
    by (is_user_in people (user_given body)) (is_some (role_in people org (user_given body)))
    (text-no_error (member_error people org) (required_text (codes "username") body) error.1)
  where
    by : (there has : Bool)
        → cond there (message_unless has (codes "User has no role here")) (Some (codes "User does not exist")) ≡ None
        → (there ≡ true) × (has ≡ true)
    by true has is = (refl, rule-no_error has _ is)
    by false has is = absurd (cc)

-- ---- the answers

creation-fit : (view : CallView) (owners : List (List ℕ))
    → AcceptsOnly (IsFitOrg view owners) (answer_to_organization_create view)
creation-fit view owners =
    AcceptsOnly-answer_if_authorized (IsFitOrg view owners) (is_sysadmin_in view.people view.caller)
    CreateOrganization _
    (λ sysadmin. AcceptsOnly-answer_if_valid (IsFitOrg view owners) view.quota
    (creation_errors view.call.request.body) _
    (λ none. record { named = creation-named view.call.request.body none; sysadmin = sysadmin }))

patch-fit : (view : CallView) (owners : List (List ℕ))
    → AcceptsOnly (IsFitOrg view owners) (answer_to_organization_patch view)
patch-fit view owners =
    AcceptsOnly-answer_if_found (IsFitOrg view owners) (administered_organization view) _
    (λ org own. AcceptsOnly-answer_if_valid (IsFitOrg view owners) view.quota
    (patch_errors view.call.request.body) _
    (λ none. own-administered view org own))

removal-fit : (view : CallView) (owners : List (List ℕ))
    → AcceptsOnly (IsFitOrg view owners) (answer_to_organization_delete view owners)
removal-fit view owners =
    AcceptsOnly-answer_if_found (IsFitOrg view owners) (administered_organization view) _
    (λ org own. AcceptsOnly-answer_if_valid (IsFitOrg view owners) view.quota
    (removal_errors org.name view.datasets owners) _
    (λ none. let empty = removal-empty org.name view.datasets owners none in
    record {
      own = own-administered view org own;
      empty = empty.0;
      unharvested = empty.1;
    }))

member-fit : (view : CallView) (owners : List (List ℕ))
    → AcceptsOnly (IsFitOrg view owners) (answer_to_member_create view)
member-fit view owners =
    AcceptsOnly-answer_if_found (IsFitOrg view owners) (administered_organization view) _
    (λ org own. AcceptsOnly-answer_if_valid (IsFitOrg view owners) view.quota
    (member_errors view.people view.call.request.body) _
    (λ none. record {
      own = own-administered view org own;
      user_exists = member-exists view.people view.call.request.body none;
    }))

former-member-fit : (view : CallView) (owners : List (List ℕ))
    → AcceptsOnly (IsFitOrg view owners) (answer_to_member_delete view)
former-member-fit view owners =
    AcceptsOnly-answer_if_found (IsFitOrg view owners) (administered_organization view) _
    (λ org own. AcceptsOnly-answer_if_valid (IsFitOrg view owners) view.quota
    (former_member_errors view.people org.name view.call.request.body) _
    (λ none. let exists = former-member-exists view.people org.name view.call.request.body none in
    record {
      fit = record { own = own-administered view org own; user_exists = exists.0 };
      has_role = exists.1;
    }))

-- ---- reads, which accept no change

pub show-only : (P : OrgChange → Type 0) (view : CallView) → AcceptsOnly P (answer_to_organization_show view)
show-only P view = AcceptsOnly-answer_if_found P (organization_named view) _ (λ org named. tt)

pub members-only : (P : OrgChange → Type 0) (view : CallView) → AcceptsOnly P (answer_to_member_list view)
members-only P view = AcceptsOnly-answer_if_found P (administered_organization view) _ (λ org own. tt)

pub list-only : (P : OrgChange → Type 0) (view : CallView) → AcceptsOnly P (answer_to_organization_list view)
list-only P view =
    AcceptsOnly-answer_unless_denied P (denial_of (error_if (codes "all_fields")
    (kind_message (truth_at (codes "all_fields") view.call.request.body)) [])) _ (λ none. tt)

-- ---- every action

pub action_fit : (action : OrganizationAction) (view : CallView) (owners : List (List ℕ))
    → AcceptsOnly (IsFitOrg view owners) (answer_to_action action view owners)
action_fit OrganizationCreate view owners = creation-fit view owners
action_fit OrganizationPatch view owners = patch-fit view owners
action_fit OrganizationDelete view owners = removal-fit view owners
action_fit OrganizationShow view owners = show-only (IsFitOrg view owners) view
action_fit OrganizationList view owners = list-only (IsFitOrg view owners) view
action_fit OrganizationListForUser view owners = tt
action_fit OrganizationMemberCreate view owners = member-fit view owners
action_fit OrganizationMemberDelete view owners = former-member-fit view owners
action_fit MemberList view owners = members-only (IsFitOrg view owners) view
action_fit UserList view owners = tt

-- The changes that the answers on datasets and resources accept can be made, and the caller has the right to make them.
use Rattle.std.proofs.Common.{◌≡◌, ◌⊎◌, inl, inr, ℕ, Bool, true, false, List, [], ◌∷◌, Option, Some, None, Ok}
use Rattle.std.proofs.Common.{refl, sym, ap, ◌∙◌, ◌||◌, subst}
use Rattle.std.specs.Prelude.{codes, option_and_then, option_map, slice_get, is_some, find, not, ◌&&◌}
use Rattle.std.specs.List.{Contains}
use Rattle.std.specs.Ordering.{nat_cmp}
use Rattle.std.specs.Cmp.Lexicographic.{slice_cmp}
use Rattle.std.specs.Str.{bytes_eq}
use Rattle.std.proofs.lemmas.Bool.{and_parts, not-true}
use Rattle.std.proofs.lemmas.Option.{option_and_then_some, same_Some}
use Rattle.std.proofs.lemmas.Slice.Eq.{bytes_eq-Decides}
use Rattle.portal_base.specs.declared.caller.Caller.{Caller}
use Rattle.portal_base.specs.declared.json_value.Json.{Json}
use Rattle.portal_base.specs.KeyErrors.{KeyError, with_errors, kind_message, with_error, error_if}
use Rattle.portal_base.specs.Kinds.{count_at}
use Rattle.portal_base.specs.Name.{is_name}
use Rattle.portal_base.specs.Ordered.{IsAscending}
use Rattle.portal_base.proofs.Unique.{Contains-IsIn}
use Rattle.org_roles.specs.PeopleLists.{PeopleLists, org_in, is_sysadmin_in}
use Rattle.org_roles.specs.Rights.{rights_for}
use Rattle.org_roles.specs.declared.entry.Org.{Org}
use Rattle.packages.specs.Body.{built_dataset, body_errors}
use Rattle.packages.specs.Named.{Located, has_address, is_named, position_of, located_at, resource_in, resource_named}
use Rattle.packages.specs.Numbered.{AreNumbered}
use Rattle.packages.specs.Resources.{resource_for, resource_errors}
use Rattle.packages.specs.Texts.{longest_name, text_given}
use Rattle.packages.specs.Errors.{message_unless}
use Rattle.packages.specs.declared.package.Package.{Package}
use Rattle.packages.specs.declared.package.Resource.{Resource}
use Rattle.packages.proofs.Built.{built_id, built_name, built_numbered}
use Rattle.packages.proofs.Built.{built_tags, new_name, new_organization}
use Rattle.packages.proofs.NoErrors.{message_unless-none}
use Rattle.packages.proofs.FindLemmas.{IsIn-find}
use Rattle.packages.proofs.ResourceNumbers.{numbered_with_one_more, numbered_with_replacement_at}
use Rattle.packages.proofs.ResourceNumbers.{numbered_with_same_numbers}
use Rattle.packages.proofs.ResourceNumbers.{numbered_without_resource_at}
use Rattle.visibility.specs.CallView.{CallView}
use Rattle.visibility.specs.Visibility.{caller_role, is_harvested, is_source, may_edit_in}
use Rattle.portal_calls.specs.Answer.{AcceptsOnly, denial_of}
use Rattle.portal_calls.specs.declared.answer.Kind.TheVariants as kind
use Rattle.portal_calls.specs.declared.answer.Right.TheVariants.{CreateDataset, EditDataset, PurgeDataset}
use Rattle.portal_calls.specs.declared.call.Call.{Call}
use Rattle.portal_calls.proofs.Answering.{AcceptsOnly-answer_if_found, AcceptsOnly-answer_if_authorized, AcceptsOnly-answer_if_valid}
use Rattle.portal_calls.proofs.Answering.{AcceptsOnly-answer_unless_denied, authorized_thing-ok, error_if-none, thing_at-ok}
use Rattle.portal_calls.specs.declared.topic.DatasetAction.{DatasetAction}
use Rattle.portal_calls.specs.declared.topic.DatasetAction.TheVariants.{PackageCreate, PackageUpdate, PackagePatch}
use Rattle.portal_calls.specs.declared.topic.DatasetAction.TheVariants.{PackageDelete, DatasetPurge, PackageShow}
use Rattle.portal_calls.specs.declared.topic.DatasetAction.TheVariants.{PackageList, ResourceCreate, ResourceUpdate}
use Rattle.portal_calls.specs.declared.topic.DatasetAction.TheVariants.{ResourceDelete, ResourceShow}
use Rattle.dataset_answers.specs.Answers.{answer_to_action, answer_to_package_create, answer_to_package_change}
use Rattle.dataset_answers.specs.Answers.{answer_to_package_update, answer_to_package_patch, answer_to_package_delete}
use Rattle.dataset_answers.specs.Answers.{answer_to_dataset_purge, answer_to_package_show, answer_to_package_list}
use Rattle.dataset_answers.specs.Answers.{answer_to_resource_create, answer_to_resource_update}
use Rattle.dataset_answers.specs.Answers.{answer_to_resource_delete, answer_to_resource_show}
use Rattle.dataset_answers.specs.Answers.{can_create_in, may_create, purgeable_dataset}
use Rattle.visibility.specs.TableSummary.{TableSummary, breaks_references}
use Rattle.dataset_answers.proofs.TableSummaryLemmas.{all-keep, more-keep, position-keeps, no_table_lost}
use Rattle.dataset_answers.specs.Edits.{Origin, origin_of}
use Rattle.dataset_answers.specs.Fit.{IsFitDataset, IsReplacement, KeepsResources}
use Rattle.dataset_answers.specs.Lookup.{dataset_at, dataset_named, naming_key, editable_dataset_at}
use Rattle.dataset_answers.specs.Lookup.{editable_resource_at}
use Rattle.visibility.specs.Lookup.{resource_at}
use Rattle.dataset_answers.specs.Sound.{IsId, IsSound, OrgExists}
use Rattle.dataset_answers.specs.Bodies.{changed_dataset, created_dataset, deleted_dataset, organization_error}
use Rattle.dataset_answers.specs.Bodies.{dataset_errors, new_resource_errors, with_new_resource, with_resource_at}
use Rattle.dataset_answers.specs.Bodies.{lost_table_error, change_errors, without_resource_at}
use Rattle.dataset_answers.specs.declared.change.DatasetChange.{DatasetChange}

-- ---- what holds without errors

-- If the list of errors is empty in the end, both lists are empty.
pub with_errors-none : (more faults : List KeyError) → with_errors more faults ≡ [] → (more ≡ []) × (faults ≡ [])
with_errors-none [] faults none = (refl, none)
with_errors-none (f ∷ fs) faults none =
    let rest = with_errors-none fs (with_error f.0 f.1 faults) none in
    let here = error_if-none f.0 (Some f.1) faults rest.1 in
    absurd (cc)

-- An organization that is given without an error exists.
given-exists : (people : PeopleLists) (body : Json) (org : List ℕ) → organization_error people body ≡ None
    → text_given (codes "owner_org") body ≡ Some org → OrgExists people org
given-exists people body org none given =
    let message = codes "Organization does not exist" in
    message_unless-none (is_some (org_in people org)) message
    (sym (ap (option_and_then (λ name. message_unless (is_some (org_in people name)) message)) given) ∙ none)

-- a dataset without errors has none in its body and none in its organization
record HasNoErrors (people : PeopleLists) (body : Json) (old : Option Package) : Type 0 where
  no_body_errors : body_errors body old ≡ []
  no_organization_error : organization_error people body ≡ None

dataset-no_errors : (people : PeopleLists) (body : Json) (old : Option Package) → dataset_errors people body old ≡ []
    → HasNoErrors people body old
dataset-no_errors people body old none =
    let parts = with_errors-none (body_errors body old)
    (error_if (codes "owner_org") (organization_error people body) []) none in
    record {
      no_body_errors = parts.0;
      no_organization_error = (error_if-none (codes "owner_org") (organization_error people body) [] parts.1).1;
    }

-- ---- a new dataset

created-sound : (view : CallView) → dataset_errors view.people view.call.request.body None ≡ []
    → IsSound view.people (created_dataset view.call)
created-sound view none =
    let body = view.call.request.body in
    let valid = dataset-no_errors view.people body None none in
    record {
      not_harvested = refl;
      id = (view.call.nonce.0, refl);
      name = new_name body true valid.no_body_errors;
      org =
          given-exists view.people body (built_dataset body None true).owner_org valid.no_organization_error
          (new_organization body true valid.no_body_errors);
      resources =
          numbered_with_same_numbers (built_dataset body None true) (created_dataset view.call)
          (built_numbered body None true valid.no_body_errors tt) refl refl;
      tags = built_tags body None true tt;
    }

-- who may create datasets in an organization of this name that exists may edit its datasets
edits-there : (people : PeopleLists) (caller : Caller) (name : List ℕ) (sysadmin : Bool) → OrgExists people name
    → (sysadmin || can_create_in people caller (org_in people name)) ≡ true
    → (sysadmin || (rights_for (caller_role people caller name)).edit) ≡ true
edits-there people caller name sysadmin exists may = by (org_in people name) refl exists may
  where
    by : (found : Option Org) → org_in people name ≡ found → is_some found ≡ true
        → (sysadmin || can_create_in people caller found) ≡ true
        → (sysadmin || (rights_for (caller_role people caller name)).edit) ≡ true
    by None is there can = absurd (cc)
    by (Some org) is there can =
        let same : org.name ≡ name =
        (bytes_eq-Decides org.name name).0 (IsIn-find (λ (o : Org). bytes_eq o.name name) org people.orgs is).1 in
        ap (λ (n : List ℕ). sysadmin || (rights_for (caller_role people caller n)).edit) (sym same) ∙ can

-- whoever may create a dataset may edit it
created-own : (view : CallView) → may_create view ≡ true
    → dataset_errors view.people view.call.request.body None ≡ []
    → may_edit_in view.people view.caller (created_dataset view.call) ≡ true
created-own view may none =
    let body = view.call.request.body in
    let given = new_organization body true (dataset-no_errors view.people body None none).no_body_errors in
    edits-there view.people view.caller (built_dataset body None true).owner_org
    (is_sysadmin_in view.people view.caller) (created-sound view none).org
    (ap (λ (o : Option (List ℕ)). is_sysadmin_in view.people view.caller
    || can_create_in view.people view.caller (option_and_then (org_in view.people) o)) (sym given) ∙ may)

-- ---- a dataset that replaces one in the view

-- a dataset in the view that the caller may edit
pub record IsOwn (view : CallView) (dataset : Package) : Type 0 where
  pub is_present : Contains view.datasets dataset
  pub may : may_edit_in view.people view.caller dataset ≡ true

-- what no change of a dataset changes, and what stays sound
record IsLike (old new : Package) : Type 0 where
  id : new.id ≡ old.id
  name : new.name ≡ old.name
  origin : origin_of new ≡ origin_of old
  resources : AreNumbered old → AreNumbered new
  tags : IsAscending (slice_cmp nat_cmp) old.tags → IsAscending (slice_cmp nat_cmp) new.tags

like-sound : (people : PeopleLists) (old new : Package) → IsLike old new → IsSound people old → IsSound people new
like-sound people old new like sound = record {
  not_harvested = ap (λ (o : Origin). is_source o.source) like.origin ∙ sound.not_harvested;
  id = subst IsId (sym like.id) sound.id;
  name = ap (λ n. is_name n longest_name) like.name ∙ sound.name;
  org = subst (OrgExists people) (sym (ap (λ (o : Origin). o.owner_org) like.origin)) sound.org;
  resources = like.resources sound.resources;
  tags = like.tags sound.tags;
}

like-replacement : (view : CallView) (summaries : List TableSummary) (old new : Package) → IsOwn view old
    → IsLike old new → KeepsResources old new ⊎ (breaks_references summaries new.id new.resources ≡ false)
    → IsReplacement view summaries new
like-replacement view summaries old new own like keeps_references = record {
  old = old;
  is_present = own.is_present;
  own = own.may;
  id = sym like.id;
  name = sym like.name;
  origin = sym like.origin;
  sound = like-sound view.people old new like;
  keeps_references = keeps_references;
}

changed-origin : (call : Call) (whole : Bool) (old : Package) → origin_of (changed_dataset call whole old) ≡ origin_of old
changed-origin call true old = refl
changed-origin call false old = refl

changed-like : (call : Call) (whole : Bool) (old : Package) → body_errors call.request.body (Some old) ≡ []
    → IsLike old (changed_dataset call whole old)
changed-like call whole old none =
    let body = call.request.body in
    let built = built_dataset body (Some old) whole in
    record {
      id = built_id body old whole;
      name = built_name body old whole;
      origin = changed-origin call whole old;
      resources = λ is_present. numbered_with_same_numbers built (changed_dataset call whole old)
          (built_numbered body (Some old) whole none is_present) refl refl;
      tags = built_tags body (Some old) whole;
    }

-- If only the resources change, only their numbers have to be kept.
numbered-like : (old new : Package) → new.id ≡ old.id → new.name ≡ old.name → origin_of new ≡ origin_of old
    → new.tags ≡ old.tags → (AreNumbered old → AreNumbered new) → IsLike old new
numbered-like old new id name origin tags numbered = record {
  id = id;
  name = name;
  origin = origin;
  resources = numbered;
  tags = subst (IsAscending (slice_cmp nat_cmp)) (sym tags);
}

-- ---- what a look-up finds is in the view

found-is_present : (test : Package → Bool) (datasets : List Package) (dataset : Package)
    → find test datasets ≡ Some dataset → Contains datasets dataset
found-is_present test datasets dataset found =
    Contains-IsIn dataset datasets (IsIn-find test dataset datasets found).0

pub at-is_present : (key : List ℕ) (view : CallView) (dataset : Package) → dataset_at key view ≡ Ok dataset
    → Contains view.datasets dataset
at-is_present key view dataset is =
    let named = thing_at-ok key view.call.request.body kind.Dataset (dataset_named view.datasets) dataset is in
    found-is_present (is_named named.name) view.datasets dataset named.looked

pub editable-own : (key : List ℕ) (view : CallView) (dataset : Package) → editable_dataset_at key view ≡ Ok dataset
    → IsOwn view dataset
editable-own key view dataset is =
    let authorized =
    authorized_thing-ok (may_edit_in view.people view.caller) EditDataset (dataset_at key view) dataset is in
    record { is_present = at-is_present key view dataset authorized.1; may = authorized.0 }

-- a resource at its position in a dataset among these
pub record IsLocated (datasets : List Package) (located : Located) : Type 0 where
  pub is_present : Contains datasets located.dataset
  pub there : slice_get located.dataset.resources located.position ≡ Some located.resource

-- the resource at a position of a dataset is located there
located_at-there : (datasets : List Package) (dataset : Package) (position : ℕ) (located : Located)
    → Contains datasets dataset → located_at dataset position ≡ Some located → IsLocated datasets located
located_at-there datasets dataset position located is_present is = by (slice_get dataset.resources position) refl is
  where
    by : (found : Option Resource) → slice_get dataset.resources position ≡ found
        → option_map (λ resource. record { dataset = dataset; position = position; resource = resource }) found
        ≡ Some located
        → IsLocated datasets located
    by None there same = absurd (cc)
    by (Some resource) there same =
        subst (IsLocated datasets) (same_Some _ located same) (record { is_present = is_present; there = there })

named-located : (datasets : List Package) (address : List ℕ) (located : Located)
    → resource_named datasets address ≡ Some located → IsLocated datasets located
named-located datasets address located is =
    option_and_then_some (resource_in address) (find (has_address address) datasets) located is
    (λ dataset found within. option_and_then_some (located_at dataset) (position_of address dataset) located within
    (λ position at there. located_at-there datasets dataset position located
    (found-is_present (has_address address) datasets dataset found) there))

pub at-located : (view : CallView) (located : Located) → resource_at (codes "id") view ≡ Ok located → IsLocated view.datasets located
at-located view located is =
    let named =
    thing_at-ok (codes "id") view.call.request.body kind.Resource (resource_named view.datasets) located is in
    named-located view.datasets named.name located named.looked

-- a resource at its position in a dataset in the view, which the caller may edit
pub record IsOwnLocated (view : CallView) (located : Located) : Type 0 where
  pub own : IsOwn view located.dataset
  pub there : slice_get located.dataset.resources located.position ≡ Some located.resource

pub editable-located : (view : CallView) (located : Located) → editable_resource_at view ≡ Ok located
    → IsOwnLocated view located
editable-located view located is =
    let authorized = authorized_thing-ok (λ (p : Located). may_edit_in view.people view.caller p.dataset)
    EditDataset (resource_at (codes "id") view) located is in
    let found = at-located view located authorized.1 in
    record { own = record { is_present = found.is_present; may = authorized.0 }; there = found.there }

-- ---- the answers

create_fit : (view : CallView) (summaries : List TableSummary)
    → AcceptsOnly (IsFitDataset view summaries) (answer_to_package_create view)
create_fit view summaries =
    AcceptsOnly-answer_if_authorized (IsFitDataset view summaries) (may_create view) CreateDataset _
    (λ may. AcceptsOnly-answer_if_valid (IsFitDataset view summaries) view.quota
    (dataset_errors view.people view.call.request.body None) _
    (λ none. record { sound = created-sound view none; own = created-own view may none }))

change-fit : (whole : Bool) (view : CallView) (summaries : List TableSummary)
    → AcceptsOnly (IsFitDataset view summaries) (answer_to_package_change whole view summaries)
change-fit whole view summaries =
    let body = view.call.request.body in
    AcceptsOnly-answer_if_found (IsFitDataset view summaries) (editable_dataset_at (naming_key body) view) _
    (λ dataset own. AcceptsOnly-answer_if_valid (IsFitDataset view summaries) view.quota
    (change_errors view.people summaries body dataset (changed_dataset view.call whole dataset)) _
    (λ none. let changed = changed_dataset view.call whole dataset in
    let parts = error_if-none (codes "resources") (lost_table_error summaries changed)
    (dataset_errors view.people body (Some dataset)) none in
    like-replacement view summaries dataset changed (editable-own (naming_key body) view dataset own)
    (changed-like view.call whole dataset (dataset-no_errors view.people body (Some dataset) parts.0).no_body_errors)
    (inr (no_table_lost summaries changed parts.1))))

update_fit : (view : CallView) (summaries : List TableSummary)
    → AcceptsOnly (IsFitDataset view summaries) (answer_to_package_update view summaries)
update_fit = change-fit true

patch_fit : (view : CallView) (summaries : List TableSummary)
    → AcceptsOnly (IsFitDataset view summaries) (answer_to_package_patch view summaries)
patch_fit = change-fit false

delete_fit : (view : CallView) (summaries : List TableSummary)
    → AcceptsOnly (IsFitDataset view summaries) (answer_to_package_delete view)
delete_fit view summaries =
    AcceptsOnly-answer_if_found (IsFitDataset view summaries) (editable_dataset_at (codes "id") view) _
    (λ dataset own. AcceptsOnly-answer_if_valid (IsFitDataset view summaries) view.quota [] _
    (λ none. let deleted = deleted_dataset view.call dataset in
    like-replacement view summaries dataset deleted (editable-own (codes "id") view dataset own)
    (numbered-like dataset deleted refl refl refl refl
    (λ is_present. numbered_with_same_numbers dataset deleted is_present refl refl))
    (inl (all-keep dataset))))

purge_fit : (view : CallView) (summaries : List TableSummary)
    → AcceptsOnly (IsFitDataset view summaries) (answer_to_dataset_purge view)
purge_fit view summaries =
    AcceptsOnly-answer_if_found (IsFitDataset view summaries) (purgeable_dataset view) _
    (λ dataset purgeable. AcceptsOnly-answer_if_valid (IsFitDataset view summaries) view.quota [] _
    (λ none. let found =
    authorized_thing-ok (λ (d : Package). is_sysadmin_in view.people view.caller && not (is_harvested d)) PurgeDataset
    (dataset_at (codes "id") view) dataset purgeable in
    let rights = and_parts (is_sysadmin_in view.people view.caller) (not (is_harvested dataset)) found.0 in
    record {
      old = dataset;
      is_present = at-is_present (codes "id") view dataset found.1;
      id = refl;
      not_harvested = not-true (is_harvested dataset) rights.1;
      sysadmin = rights.0;
    }))

resource_create_fit : (view : CallView) (summaries : List TableSummary)
    → AcceptsOnly (IsFitDataset view summaries) (answer_to_resource_create view summaries)
resource_create_fit view summaries =
    let body = view.call.request.body in
    AcceptsOnly-answer_if_found (IsFitDataset view summaries) (editable_dataset_at (codes "package_id") view) _
    (λ dataset own. AcceptsOnly-answer_if_valid (IsFitDataset view summaries) view.quota (new_resource_errors dataset body) _
    (λ none. let resource = resource_for dataset.next_resource body in
    let more = with_new_resource view.call dataset resource in
    like-replacement view summaries dataset more (editable-own (codes "package_id") view dataset own)
    (numbered-like dataset more refl refl refl refl
    (λ is_present. numbered_with_one_more dataset more resource is_present refl refl refl))
    (inl (more-keep dataset more resource refl))))

resource_update_fit : (view : CallView) (summaries : List TableSummary)
    → AcceptsOnly (IsFitDataset view summaries) (answer_to_resource_update view summaries)
resource_update_fit view summaries =
    let body = view.call.request.body in
    AcceptsOnly-answer_if_found (IsFitDataset view summaries) (editable_resource_at view) _
    (λ located own. AcceptsOnly-answer_if_valid (IsFitDataset view summaries) view.quota (resource_errors body) _
    (λ none. let resource = resource_for located.resource.number body in
    let changed = with_resource_at view.call located.dataset located.position resource in
    let found = editable-located view located own in
    like-replacement view summaries located.dataset changed found.own
    (numbered-like located.dataset changed refl refl refl refl
    (λ is_present. numbered_with_replacement_at located.dataset changed located.position located.resource resource
    is_present
    found.there refl refl refl))
    (inl (position-keeps located.dataset changed located.position located.resource resource found.there refl refl))))

resource_delete_fit : (view : CallView) (summaries : List TableSummary)
    → AcceptsOnly (IsFitDataset view summaries) (answer_to_resource_delete view summaries)
resource_delete_fit view summaries =
    AcceptsOnly-answer_if_found (IsFitDataset view summaries) (editable_resource_at view) _
    (λ located own. let less = without_resource_at view.call located.dataset located.position in
    AcceptsOnly-answer_if_valid (IsFitDataset view summaries) view.quota (error_if (codes "id") (lost_table_error summaries less) []) _
    (λ none. like-replacement view summaries located.dataset less (editable-located view located own).own
    (numbered-like located.dataset less refl refl refl refl
    (λ is_present. numbered_without_resource_at located.dataset less located.position is_present refl refl))
    (inr (no_table_lost summaries less (error_if-none (codes "id") (lost_table_error summaries less) [] none).1))))

-- ---- reads, which accept no change

pub show_only : (P : DatasetChange → Type 0) (view : CallView) (summaries : List TableSummary)
    → AcceptsOnly P (answer_to_package_show view summaries)
show_only P view summaries = AcceptsOnly-answer_if_found P (dataset_at (codes "id") view) _ (λ dataset found. tt)

pub resource_show_only : (P : DatasetChange → Type 0) (view : CallView) (summaries : List TableSummary)
    → AcceptsOnly P (answer_to_resource_show view summaries)
resource_show_only P view summaries = AcceptsOnly-answer_if_found P (resource_at (codes "id") view) _ (λ located found. tt)

pub list_only : (P : DatasetChange → Type 0) (view : CallView) → AcceptsOnly P (answer_to_package_list view)
list_only P view =
    AcceptsOnly-answer_unless_denied P
    (denial_of (error_if (codes "offset") (kind_message (count_at (codes "offset") view.call.request.body))
    (error_if (codes "limit") (kind_message (count_at (codes "limit") view.call.request.body)) []))) _ (λ none. tt)

-- ---- every action

pub action_fit : (action : DatasetAction) (view : CallView) (summaries : List TableSummary)
    → AcceptsOnly (IsFitDataset view summaries) (answer_to_action action view summaries)
action_fit PackageCreate view summaries = create_fit view summaries
action_fit PackageUpdate view summaries = update_fit view summaries
action_fit PackagePatch view summaries = patch_fit view summaries
action_fit PackageDelete view summaries = delete_fit view summaries
action_fit DatasetPurge view summaries = purge_fit view summaries
action_fit PackageShow view summaries = show_only (IsFitDataset view summaries) view summaries
action_fit PackageList view summaries = list_only (IsFitDataset view summaries) view
action_fit ResourceCreate view summaries = resource_create_fit view summaries
action_fit ResourceUpdate view summaries = resource_update_fit view summaries
action_fit ResourceDelete view summaries = resource_delete_fit view summaries
action_fit ResourceShow view summaries = resource_show_only (IsFitDataset view summaries) view summaries

-- The answers to calls on datasets and resources: functions of the call and of its caller's view. Names, rights and
-- results are those of CKAN 2.10's actions. Rules and messages are the portal's own.
use Rattle.std.specs.Prelude.{ℕ, List, [], codes, Bool, true, false, not, ◌&&◌, ◌||◌, map, take, drop, length}
use Rattle.std.specs.Prelude.{Option, Some, None, Result, unwrap_or}
use Rattle.portal_base.specs.declared.caller.Caller.{Caller}
use Rattle.portal_base.specs.declared.json_value.Json as json
use Rattle.portal_base.specs.KeyErrors.{error_if, kind_message, found_value}
use Rattle.portal_base.specs.Kinds.{count_at}
use Rattle.org_roles.specs.PeopleLists.{PeopleLists, is_sysadmin_in}
use Rattle.org_roles.specs.Rights.{rights_for}
use Rattle.org_roles.specs.declared.entry.Org.{Org}
use Rattle.packages.specs.Resources.{resource_errors, resource_for}
use Rattle.packages.specs.declared.package.Package.{Package}
use Rattle.visibility.specs.TableSummary.{TableSummary}
use Rattle.visibility.specs.CallView.{CallView}
use Rattle.visibility.specs.View.{edits_somewhere, public_names}
use Rattle.visibility.specs.Visibility.{caller_role, is_harvested}
use Rattle.portal_calls.specs.Answer.{authorized_thing, answer_if_found, answer_if_authorized, answer_if_valid, answer_unless_denied, denial_of}
use Rattle.portal_calls.specs.declared.answer.Answer.{Answer}
use Rattle.portal_calls.specs.declared.answer.Answer.TheVariants.{Shown, Accepted}
use Rattle.portal_calls.specs.declared.answer.Denial.{Denial}
use Rattle.portal_calls.specs.declared.answer.Right.TheVariants.{CreateDataset, PurgeDataset}
use Rattle.portal_calls.specs.declared.topic.DatasetAction.{DatasetAction}
use Rattle.portal_calls.specs.declared.topic.DatasetAction.TheVariants.{PackageCreate, PackageUpdate, PackagePatch}
use Rattle.portal_calls.specs.declared.topic.DatasetAction.TheVariants.{PackageDelete, DatasetPurge, PackageShow}
use Rattle.portal_calls.specs.declared.topic.DatasetAction.TheVariants.{PackageList, ResourceCreate, ResourceUpdate}
use Rattle.portal_calls.specs.declared.topic.DatasetAction.TheVariants.{ResourceDelete, ResourceShow}
use Rattle.dataset_answers.specs.Dictionary.{package_dictionary, resource_dictionary}
use Rattle.dataset_answers.specs.Lookup.{dataset_at, editable_dataset_at, naming_key, editable_resource_at}
use Rattle.visibility.specs.Lookup.{resource_at}
use Rattle.dataset_answers.specs.Bodies.{organization_given, dataset_errors, created_dataset, changed_dataset}
use Rattle.dataset_answers.specs.Bodies.{lost_table_error, change_errors}
use Rattle.dataset_answers.specs.Bodies.{deleted_dataset, new_resource_errors, with_new_resource, with_resource_at}
use Rattle.dataset_answers.specs.Bodies.{without_resource_at}
use Rattle.dataset_answers.specs.declared.change.DatasetChange.{DatasetChange}
use Rattle.dataset_answers.specs.declared.change.DatasetChange.TheVariants.{Create, Replace, Remove}

-- ---- reads

abbrev pub answer_to_package_show : CallView → List TableSummary → Answer DatasetChange
answer_to_package_show view summaries =
    answer_if_found (dataset_at (codes "id") view) (λ dataset. Shown (package_dictionary view.people summaries dataset))

abbrev pub answer_to_resource_show : CallView → List TableSummary → Answer DatasetChange
answer_to_resource_show view summaries =
    answer_if_found (resource_at (codes "id") view)
    (λ located. Shown (resource_dictionary summaries located.dataset.id located.position located.resource))

-- the names from an offset on, up to a limit if there is one
abbrev pub page_of : Option ℕ → Option ℕ → List (List ℕ) → List (List ℕ)
page_of None offset names = drop (unwrap_or offset 0) names
page_of (Some limit) offset names = take limit (drop (unwrap_or offset 0) names)

abbrev pub answer_to_package_list : CallView → Answer DatasetChange
answer_to_package_list view =
    let limit = count_at (codes "limit") view.call.request.body in
    let offset = count_at (codes "offset") view.call.request.body in
    answer_unless_denied
    (denial_of (error_if (codes "offset") (kind_message offset) (error_if (codes "limit") (kind_message limit) [])))
    (Shown (json.List (map json.Text (page_of (found_value limit) (found_value offset) (public_names view.datasets)))))

-- ---- creation and change of datasets

-- who may create datasets in an organization, sysadmins aside: its editors; and without one, editors of any
abbrev pub can_create_in : PeopleLists → Caller → Option Org → Bool
can_create_in people caller None = edits_somewhere people caller
can_create_in people caller (Some org) = (rights_for (caller_role people caller org.name)).edit

abbrev pub may_create : CallView → Bool
may_create view =
    is_sysadmin_in view.people view.caller
    || can_create_in view.people view.caller (organization_given view.people view.call.request.body)

-- no resource of a new dataset has a table
abbrev pub answer_to_package_create : CallView → Answer DatasetChange
answer_to_package_create view =
    let dataset = created_dataset view.call in
    answer_if_authorized (may_create view) CreateDataset
    (answer_if_valid view.quota (dataset_errors view.people view.call.request.body None)
    (Accepted (package_dictionary view.people [] dataset) (Create dataset)))

-- the answer to a change of this dataset
abbrev pub answer_to_change_of : Bool → CallView → List TableSummary → Package → Answer DatasetChange
answer_to_change_of whole view summaries dataset =
    let changed = changed_dataset view.call whole dataset in
    answer_if_valid view.quota (change_errors view.people summaries view.call.request.body dataset changed)
    (Accepted (package_dictionary view.people summaries changed) (Replace changed))

-- update (`whole`: absent keys take their defaults) and patch (absent keys keep their values)
abbrev pub answer_to_package_change : Bool → CallView → List TableSummary → Answer DatasetChange
answer_to_package_change whole view summaries =
    answer_if_found (editable_dataset_at (naming_key view.call.request.body) view)
    (λ dataset. answer_to_change_of whole view summaries dataset)

abbrev pub answer_to_package_update : CallView → List TableSummary → Answer DatasetChange
answer_to_package_update view summaries = answer_to_package_change true view summaries

abbrev pub answer_to_package_patch : CallView → List TableSummary → Answer DatasetChange
answer_to_package_patch view summaries = answer_to_package_change false view summaries

-- ---- deletion of datasets

abbrev pub answer_to_package_delete : CallView → Answer DatasetChange
answer_to_package_delete view =
    answer_if_found (editable_dataset_at (codes "id") view)
    (λ dataset. answer_if_valid view.quota [] (Accepted json.Null (Replace (deleted_dataset view.call dataset))))

-- a sysadmin may purge what isn't harvested
abbrev pub purgeable_dataset : CallView → Result Package Denial
purgeable_dataset view =
    authorized_thing (λ dataset. is_sysadmin_in view.people view.caller && not (is_harvested dataset)) PurgeDataset
    (dataset_at (codes "id") view)

abbrev pub answer_to_dataset_purge : CallView → Answer DatasetChange
answer_to_dataset_purge view =
    answer_if_found (purgeable_dataset view) (λ dataset. answer_if_valid view.quota [] (Accepted json.Null (Remove dataset.id)))

-- ---- resources

abbrev pub answer_to_resource_create : CallView → List TableSummary → Answer DatasetChange
answer_to_resource_create view summaries =
    answer_if_found (editable_dataset_at (codes "package_id") view)
    (λ dataset.
    let resource = resource_for dataset.next_resource view.call.request.body in
    answer_if_valid view.quota (new_resource_errors dataset view.call.request.body)
    (Accepted (resource_dictionary summaries dataset.id (length dataset.resources) resource)
    (Replace (with_new_resource view.call dataset resource))))

-- absent keys take their defaults
abbrev pub answer_to_resource_update : CallView → List TableSummary → Answer DatasetChange
answer_to_resource_update view summaries =
    answer_if_found (editable_resource_at view)
    (λ located.
    let resource = resource_for located.resource.number view.call.request.body in
    answer_if_valid view.quota (resource_errors view.call.request.body)
    (Accepted (resource_dictionary summaries located.dataset.id located.position resource)
    (Replace (with_resource_at view.call located.dataset located.position resource))))

-- the answer to a deletion that changes the resource's dataset to this one
abbrev pub answer_to_valid_deletion : CallView → List TableSummary → Package → Answer DatasetChange
answer_to_valid_deletion view summaries changed =
    answer_if_valid view.quota (error_if (codes "id") (lost_table_error summaries changed) [])
    (Accepted json.Null (Replace changed))

abbrev pub answer_to_resource_delete : CallView → List TableSummary → Answer DatasetChange
answer_to_resource_delete view summaries =
    answer_if_found (editable_resource_at view)
    (λ located.
    answer_to_valid_deletion view summaries (without_resource_at view.call located.dataset located.position))

-- ---- every action

abbrev pub answer_to_action : DatasetAction → CallView → List TableSummary → Answer DatasetChange
answer_to_action PackageCreate view summaries = answer_to_package_create view
answer_to_action PackageUpdate view summaries = answer_to_package_update view summaries
answer_to_action PackagePatch view summaries = answer_to_package_patch view summaries
answer_to_action PackageDelete view summaries = answer_to_package_delete view
answer_to_action DatasetPurge view summaries = answer_to_dataset_purge view
answer_to_action PackageShow view summaries = answer_to_package_show view summaries
answer_to_action PackageList view summaries = answer_to_package_list view
answer_to_action ResourceCreate view summaries = answer_to_resource_create view summaries
answer_to_action ResourceUpdate view summaries = answer_to_resource_update view summaries
answer_to_action ResourceDelete view summaries = answer_to_resource_delete view summaries
answer_to_action ResourceShow view summaries = answer_to_resource_show view summaries

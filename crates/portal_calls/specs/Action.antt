-- The actions' names, as in CKAN's Action API (2.10).
use Rattle.std.specs.Prelude.{ℕ, List, [], ◌∷◌, codes, Bool, true, false, Option, find}
use Rattle.std.specs.Str.{bytes_eq}
use Rattle.portal_calls.specs.declared.action.Action.{Action}
use Rattle.portal_calls.specs.declared.action.Action.TheVariants.{PackageCreate, PackageUpdate, PackagePatch}
use Rattle.portal_calls.specs.declared.action.Action.TheVariants.{PackageDelete}
use Rattle.portal_calls.specs.declared.action.Action.TheVariants.{DatasetPurge, PackageShow, PackageList}
use Rattle.portal_calls.specs.declared.action.Action.TheVariants.{PackageSearch, ResourceCreate}
use Rattle.portal_calls.specs.declared.action.Action.TheVariants.{ResourceUpdate, ResourceDelete, ResourceShow}
use Rattle.portal_calls.specs.declared.action.Action.TheVariants.{OrganizationCreate}
use Rattle.portal_calls.specs.declared.action.Action.TheVariants.{OrganizationPatch, OrganizationDelete}
use Rattle.portal_calls.specs.declared.action.Action.TheVariants.{OrganizationShow, OrganizationList}
use Rattle.portal_calls.specs.declared.action.Action.TheVariants.{OrganizationListForUser, OrganizationMemberCreate}
use Rattle.portal_calls.specs.declared.action.Action.TheVariants.{OrganizationMemberDelete, MemberList}
use Rattle.portal_calls.specs.declared.action.Action.TheVariants.{UserList, DatastoreCreate, DatastoreUpsert}
use Rattle.portal_calls.specs.declared.action.Action.TheVariants.{DatastoreDelete, DatastoreSearch, DatastoreInfo}
use Rattle.portal_calls.specs.declared.action.Action.TheVariants.{HarvestSourceCreate, HarvestSourceUpdate}
use Rattle.portal_calls.specs.declared.action.Action.TheVariants.{HarvestSourceDelete, HarvestSourceShow}
use Rattle.portal_calls.specs.declared.action.Action.TheVariants.{HarvestSourceList, HarvestJobCreate, HarvestJobShow}

abbrev pub action_name : Action → List ℕ
action_name PackageCreate = codes "package_create"
action_name PackageUpdate = codes "package_update"
action_name PackagePatch = codes "package_patch"
action_name PackageDelete = codes "package_delete"
action_name DatasetPurge = codes "dataset_purge"
action_name PackageShow = codes "package_show"
action_name PackageList = codes "package_list"
action_name PackageSearch = codes "package_search"
action_name ResourceCreate = codes "resource_create"
action_name ResourceUpdate = codes "resource_update"
action_name ResourceDelete = codes "resource_delete"
action_name ResourceShow = codes "resource_show"
action_name OrganizationCreate = codes "organization_create"
action_name OrganizationPatch = codes "organization_patch"
action_name OrganizationDelete = codes "organization_delete"
action_name OrganizationShow = codes "organization_show"
action_name OrganizationList = codes "organization_list"
action_name OrganizationListForUser = codes "organization_list_for_user"
action_name OrganizationMemberCreate = codes "organization_member_create"
action_name OrganizationMemberDelete = codes "organization_member_delete"
action_name MemberList = codes "member_list"
action_name UserList = codes "user_list"
action_name DatastoreCreate = codes "datastore_create"
action_name DatastoreUpsert = codes "datastore_upsert"
action_name DatastoreDelete = codes "datastore_delete"
action_name DatastoreSearch = codes "datastore_search"
action_name DatastoreInfo = codes "datastore_info"
action_name HarvestSourceCreate = codes "harvest_source_create"
action_name HarvestSourceUpdate = codes "harvest_source_update"
action_name HarvestSourceDelete = codes "harvest_source_delete"
action_name HarvestSourceShow = codes "harvest_source_show"
action_name HarvestSourceList = codes "harvest_source_list"
action_name HarvestJobCreate = codes "harvest_job_create"
action_name HarvestJobShow = codes "harvest_job_show"

abbrev pub all_actions : List Action
all_actions =
    PackageCreate ∷ PackageUpdate ∷ PackagePatch
    ∷ PackageDelete ∷ DatasetPurge ∷ PackageShow
    ∷ PackageList ∷ PackageSearch
    ∷ ResourceCreate ∷ ResourceUpdate
    ∷ ResourceDelete ∷ ResourceShow ∷ OrganizationCreate
    ∷ OrganizationPatch ∷ OrganizationDelete ∷ OrganizationShow
    ∷ OrganizationList ∷ OrganizationListForUser ∷ OrganizationMemberCreate
    ∷ OrganizationMemberDelete ∷ MemberList ∷ UserList
    ∷ DatastoreCreate ∷ DatastoreUpsert ∷ DatastoreDelete
    ∷ DatastoreSearch ∷ DatastoreInfo ∷ HarvestSourceCreate
    ∷ HarvestSourceUpdate ∷ HarvestSourceDelete ∷ HarvestSourceShow
    ∷ HarvestSourceList ∷ HarvestJobCreate ∷ HarvestJobShow
    ∷ []

-- The action of that name. None where no action has it.
abbrev pub action_named : List ℕ → Option Action
action_named name = find (λ a. bytes_eq (action_name a) name) all_actions

-- Whether the action only reads, whoever calls it.
abbrev pub is_reading : Action → Bool
is_reading PackageCreate = false
is_reading PackageUpdate = false
is_reading PackagePatch = false
is_reading PackageDelete = false
is_reading DatasetPurge = false
is_reading PackageShow = true
is_reading PackageList = true
is_reading PackageSearch = true
is_reading ResourceCreate = false
is_reading ResourceUpdate = false
is_reading ResourceDelete = false
is_reading ResourceShow = true
is_reading OrganizationCreate = false
is_reading OrganizationPatch = false
is_reading OrganizationDelete = false
is_reading OrganizationShow = true
is_reading OrganizationList = true
is_reading OrganizationListForUser = true
is_reading OrganizationMemberCreate = false
is_reading OrganizationMemberDelete = false
is_reading MemberList = true
is_reading UserList = true
is_reading DatastoreCreate = false
is_reading DatastoreUpsert = false
is_reading DatastoreDelete = false
is_reading DatastoreSearch = true
is_reading DatastoreInfo = true
is_reading HarvestSourceCreate = false
is_reading HarvestSourceUpdate = false
is_reading HarvestSourceDelete = false
is_reading HarvestSourceShow = true
is_reading HarvestSourceList = true
is_reading HarvestJobCreate = false
is_reading HarvestJobShow = true

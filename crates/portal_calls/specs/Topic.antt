-- Actions by what they are about.
use Rattle.portal_calls.specs.declared.action.Action.{Action}
use Rattle.portal_calls.specs.declared.action.Action.TheVariants.{OrganizationCreate, OrganizationPatch}
use Rattle.portal_calls.specs.declared.action.Action.TheVariants.{OrganizationDelete, OrganizationShow}
use Rattle.portal_calls.specs.declared.action.Action.TheVariants.{OrganizationList, OrganizationListForUser}
use Rattle.portal_calls.specs.declared.action.Action.TheVariants.{OrganizationMemberCreate, OrganizationMemberDelete}
use Rattle.portal_calls.specs.declared.action.Action.TheVariants.{MemberList, UserList, PackageCreate, PackageUpdate}
use Rattle.portal_calls.specs.declared.action.Action.TheVariants.{PackagePatch, PackageDelete, DatasetPurge}
use Rattle.portal_calls.specs.declared.action.Action.TheVariants.{PackageShow, PackageList, PackageSearch}
use Rattle.portal_calls.specs.declared.action.Action.TheVariants.{ResourceCreate}
use Rattle.portal_calls.specs.declared.action.Action.TheVariants.{ResourceUpdate, ResourceDelete, ResourceShow}
use Rattle.portal_calls.specs.declared.action.Action.TheVariants.{DatastoreCreate, DatastoreUpsert, DatastoreInfo}
use Rattle.portal_calls.specs.declared.action.Action.TheVariants.{DatastoreSearch, DatastoreDelete}
use Rattle.portal_calls.specs.declared.action.Action.TheVariants.{HarvestSourceCreate, HarvestSourceUpdate}
use Rattle.portal_calls.specs.declared.action.Action.TheVariants.{HarvestSourceDelete, HarvestSourceShow}
use Rattle.portal_calls.specs.declared.action.Action.TheVariants.{HarvestSourceList, HarvestJobCreate, HarvestJobShow}
use Rattle.portal_calls.specs.declared.topic.OrganizationAction.TheVariants as organization
use Rattle.portal_calls.specs.declared.topic.DatasetAction.TheVariants as dataset
use Rattle.portal_calls.specs.declared.topic.TableAction.TheVariants as table
use Rattle.portal_calls.specs.declared.topic.QueryAction.TheVariants as query
use Rattle.portal_calls.specs.declared.topic.HarvestAction.TheVariants as harvest
use Rattle.portal_calls.specs.declared.topic.Topic.{Topic}
use Rattle.portal_calls.specs.declared.topic.Topic.TheVariants.{Organizations, Datasets, Search, Tables, Queries, Harvests}

abbrev pub topic_of : Action → Topic
topic_of OrganizationCreate = Organizations organization.OrganizationCreate
topic_of OrganizationPatch = Organizations organization.OrganizationPatch
topic_of OrganizationDelete = Organizations organization.OrganizationDelete
topic_of OrganizationShow = Organizations organization.OrganizationShow
topic_of OrganizationList = Organizations organization.OrganizationList
topic_of OrganizationListForUser = Organizations organization.OrganizationListForUser
topic_of OrganizationMemberCreate = Organizations organization.OrganizationMemberCreate
topic_of OrganizationMemberDelete = Organizations organization.OrganizationMemberDelete
topic_of MemberList = Organizations organization.MemberList
topic_of UserList = Organizations organization.UserList
topic_of PackageCreate = Datasets dataset.PackageCreate
topic_of PackageUpdate = Datasets dataset.PackageUpdate
topic_of PackagePatch = Datasets dataset.PackagePatch
topic_of PackageDelete = Datasets dataset.PackageDelete
topic_of DatasetPurge = Datasets dataset.DatasetPurge
topic_of PackageShow = Datasets dataset.PackageShow
topic_of PackageList = Datasets dataset.PackageList
topic_of PackageSearch = Search
topic_of ResourceCreate = Datasets dataset.ResourceCreate
topic_of ResourceUpdate = Datasets dataset.ResourceUpdate
topic_of ResourceDelete = Datasets dataset.ResourceDelete
topic_of ResourceShow = Datasets dataset.ResourceShow
topic_of DatastoreCreate = Tables table.DatastoreCreate
topic_of DatastoreUpsert = Tables table.DatastoreUpsert
topic_of DatastoreInfo = Tables table.DatastoreInfo
topic_of DatastoreSearch = Queries query.DatastoreSearch
topic_of DatastoreDelete = Queries query.DatastoreDelete
topic_of HarvestSourceCreate = Harvests harvest.HarvestSourceCreate
topic_of HarvestSourceUpdate = Harvests harvest.HarvestSourceUpdate
topic_of HarvestSourceDelete = Harvests harvest.HarvestSourceDelete
topic_of HarvestSourceShow = Harvests harvest.HarvestSourceShow
topic_of HarvestSourceList = Harvests harvest.HarvestSourceList
topic_of HarvestJobCreate = Harvests harvest.HarvestJobCreate
topic_of HarvestJobShow = Harvests harvest.HarvestJobShow

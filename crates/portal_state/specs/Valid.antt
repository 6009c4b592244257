-- Valid states. Every state that a portal reaches is valid.
use Rattle.std.specs.Prelude.{◌≡◌, ◌≢◌, ◌⊎◌, true, false, List, []}
use Rattle.std.specs.List.{All, Contains}
use Rattle.std.specs.Cmp.Lexicographic.{slice_cmp}
use Rattle.std.specs.Ordering.{nat_cmp}
use Rattle.portal_base.specs.Ordered.{IsAscending}
use Rattle.org_roles.specs.PeopleLists.{AreSorted, PeopleLists, RolesHaveOrgs}
use Rattle.packages.specs.Numbered.{AreNumbered}
use Rattle.packages.specs.Order.{dataset_cmp}
use Rattle.packages.specs.declared.package.Package.{Package}
use Rattle.dataset_answers.specs.Sound.{IsSound, OrgExists}
use Rattle.datastore_answers.specs.Consistent.{AreConsistent}
use Rattle.datastore_answers.specs.declared.resource_table.ResourceTable.{ResourceTable}
use Rattle.harvest_results.specs.Results.{IsOwn}
use Rattle.harvest_sources.specs.Sources.{AreSources, SourceState}
use Rattle.visibility.specs.TableSummary.{is_among}
use Rattle.visibility.specs.Visibility.{is_harvested, is_public}
use Rattle.portal_state.specs.State.{State, quota_used_cmp}

-- A harvested dataset: its source is one of these, and it has the organization that the source has, and the name and the id
-- that its IRI has there. It is active and public, with numbered resources, and with tags that strictly ascend by bytes.
pub record IsHarvestedFrom (sources : List SourceState) (d : Package) : Type 0 where
  pub source : SourceState
  pub is_present : Contains sources source
  pub own : IsOwn source.source d
  pub seen : is_public d ≡ true
  pub resources : AreNumbered d
  pub tags : IsAscending (slice_cmp nat_cmp) d.tags

-- the datasets that may exist, given the people and the sources of harvests
abbrev pub IsSoundAmong : PeopleLists → List SourceState → Package → Type 0
IsSoundAmong people sources d = IsSound people d ⊎ IsHarvestedFrom sources d

-- The table's resource exists, and its dataset wasn't harvested.
pub record HasHome (datasets : List Package) (t : ResourceTable) : Type 0 where
  pub dataset : Package
  pub is_present : Contains datasets dataset
  pub id : dataset.id ≡ t.address.dataset
  pub made : is_harvested dataset ≡ false
  pub resource : is_among dataset.resources t.address.number ≡ true

-- Each list strictly ascends by its key, so that no two entries have one. No organization's name is empty, and each
-- role is one in an organization that exists. No two datasets have one name, and each is sound. Each table belongs to a
-- resource that exists, its rows meet its schema, and each of its references finds its row. A harvested dataset has no
-- tables. Each source of harvests has a name and its jobs, and belongs to an organization that exists.
pub record IsValid (state : State) : Type 0 where
  pub people : AreSorted state.people
  pub orgs : All (λ o. o.name ≢ []) state.people.orgs
  pub roles : RolesHaveOrgs state.people
  pub datasets : IsAscending dataset_cmp state.datasets
  pub names : (d e : Package) → Contains state.datasets d → Contains state.datasets e → d.name ≡ e.name → d ≡ e
  pub sound : All (IsSoundAmong state.people state.sources) state.datasets
  pub tables : AreConsistent state.tables
  pub homes : All (HasHome state.datasets) state.tables
  pub sources : AreSources state.sources
  pub owners : All (λ s. OrgExists state.people s.source.owner_org) state.sources
  pub quota_used : IsAscending quota_used_cmp state.quota_used

-- The parts of a state that are read back from the values that a store keeps of it: what has to hold of each part, so
-- that the state is valid and has these values.
use Rattle.std.specs.Prelude.{◌≡◌, ◌≢◌, ◌<◌, ◌≤◌, ◌^◌, ◌==◌, ℕ, true, false, List, [], All, if◌then◌else◌, map}
use Rattle.std.specs.List.{Contains}
use Rattle.std.specs.Cmp.Lexicographic.{slice_cmp}
use Rattle.std.specs.Ordering.{nat_cmp}
use Rattle.org_roles.specs.PeopleLists.{AreSorted, PeopleLists, RolesHaveOrgs}
use Rattle.packages.specs.declared.package.Package.{Package}
use Rattle.packages.specs.Numbered.{AreNumbered}
use Rattle.portal_base.specs.Ordered.{IsAscending, ascending}
use Rattle.portal_rows.specs.KeptValues.{kept_table_cmp}
use Rattle.portal_rows.specs.declared.kept_tables.KeptTable.{KeptTable}
use Rattle.portal_rows.specs.declared.org_reading.OrgWithRoles.{OrgWithRoles}
use Rattle.dataset_answers.specs.Sound.{OrgExists}
use Rattle.harvest_rows.specs.KeptHarvests.{kept_job_cmp}
use Rattle.harvest_rows.specs.declared.kept_harvests.KeptHarvests.{KeptHarvests}
use Rattle.harvest_results.specs.Results.{IsOwn}
use Rattle.harvest_sources.specs.Sources.{AreSources, SourceState}
use Rattle.harvest_sources.specs.declared.source.HarvestSource.{HarvestSource}
use Rattle.harvest_stages.specs.AtRest.{IsAtRest, all_jobs, bare_sources}
use Rattle.datastore_answers.specs.Consistent.{AreConsistent}
use Rattle.datastore_answers.specs.declared.address.Address.{Address}
use Rattle.datastore_answers.specs.declared.resource_table.ResourceTable.{ResourceTable}
use Rattle.datastore_table.specs.Meets.{IsTable}
use Rattle.visibility.specs.TableSummary.{is_among}
use Rattle.visibility.specs.Visibility.{is_harvested, is_public}
use Rattle.portal_state.specs.KeptRows.{AreSized, resource_id}
use Rattle.portal_state.specs.Typed.{IsTypedSource}
use Rattle.portal_state.specs.Valid.{HasHome, IsSoundAmong}
use Rattle.portal_state.specs.Values.{kept_table, with_roles}

-- ---- people

-- The organizations with their roles are those of the people, who may be the people of a valid state.
pub record ArePeopleOf (kept : List OrgWithRoles) (people : PeopleLists) : Type 0 where
  pub orgs : map (with_roles people.roles) people.orgs ≡ kept
  pub sorted : AreSorted people
  pub named : All (λ o. o.name ≢ []) people.orgs
  pub roles_have_orgs : RolesHaveOrgs people

-- ---- datasets

-- what has to hold of a harvested dataset of the source
abbrev pub IsHarvestOf : HarvestSource → Package → Type 0
IsHarvestOf source d =
    IsOwn source d × (is_public d ≡ true) × AreNumbered d × IsAscending (slice_cmp nat_cmp) d.tags

-- Datasets that may stand on one shelf, given the people and the sources of harvests: each is sound, and no two have one
-- name.
pub record AreShelvable (people : PeopleLists) (sources : List SourceState) (datasets : List Package) : Type 0 where
  pub sound : All (IsSoundAmong people sources) datasets
  pub names : (d e : Package) → Contains datasets d → Contains datasets e → d.name ≡ e.name → d ≡ e

-- ---- tables

-- The address of an existing resource that has this id. Its dataset wasn't harvested.
pub record IsAddressOf (datasets : List Package) (id : List ℕ) (address : Address) : Type 0 where
  pub same : resource_id address ≡ id
  pub number : address.number < 2 ^ 32
  pub dataset : Package
  pub is_present : Contains datasets dataset
  pub own : dataset.id ≡ address.dataset
  pub made : is_harvested dataset ≡ false
  pub resource : is_among dataset.resources address.number ≡ true

-- the number of a referenced resource, where the table's own number is the first one and a row has the second
abbrev pub target_of : ℕ → ℕ → ℕ
target_of own number = if number == 0 then own else number

-- The table has these values, and may be a table of a valid state with these datasets. Each target is the number of a
-- resource, and so at least 1: 0 is free to stand for the table's own number.
pub record IsTableOf (datasets : List Package) (kept : KeptTable) (t : ResourceTable) : Type 0 where
  pub same : kept_table t ≡ kept
  pub number : t.address.number < 2 ^ 32
  pub home : HasHome datasets t
  pub targets : All (λ n. (1 ≤ n) × (n < 2 ^ 32)) t.targets
  pub valid : IsTable t.table.schema t.table.rows t.table.next_id

-- The tables have these values, and may be the tables of a valid state with these datasets.
pub record AreTablesOf (datasets : List Package) (kept : List KeptTable) (tables : List ResourceTable) : Type 0 where
  pub same : ascending kept_table_cmp (map kept_table tables) ≡ kept
  pub consistent : AreConsistent tables
  pub homes : All (HasHome datasets) tables
  pub sized : AreSized tables
  pub targets : All (λ (t : ResourceTable). All (λ number. number < 2 ^ 32) t.targets) tables

-- ---- sources and jobs

-- The sources have these values, and may be the sources of a valid state with these people. No job runs.
pub record AreHarvestsOf (people : PeopleLists) (kept : KeptHarvests) (sources : List SourceState) : Type 0 where
  pub bare : bare_sources sources ≡ kept.sources
  pub jobs : ascending kept_job_cmp (all_jobs sources) ≡ kept.jobs
  pub valid : AreSources sources
  pub owners : All (λ s. OrgExists people s.source.owner_org) sources
  pub rest : All IsAtRest sources
  pub typed : All IsTypedSource sources

-- The entries that a caller has the right to make, on the caller's view.
use Rattle.std.specs.Prelude.{◌≡◌, ◌⊎◌, ℕ, true, List}
use Rattle.std.specs.List.{Contains}
use Rattle.org_roles.specs.PeopleLists.{is_sysadmin_in}
use Rattle.harvest_sources.specs.Entries.{SourceEntry, PutSource, DropSource, PutJob, DropJob, PutListing}
use Rattle.harvest_sources.specs.Sources.{SourceState}
use Rattle.packages.specs.declared.package.Package.{Package}
use Rattle.portal_base.specs.declared.caller.Caller.{Caller}
use Rattle.visibility.specs.View.{administers}
use Rattle.visibility.specs.Visibility.{may_edit_in}
use Rattle.portal_state.specs.Entries.{Entry, PutOrg, DropOrg, PutRole, DropRole, PutDataset, EditDataset}
use Rattle.portal_state.specs.Entries.{DropDataset, PutTable, DropTable, PutRow, DropRow, OfSources}
use Rattle.portal_state.specs.State.{State}

-- a dataset of that id is in the view, and the caller may edit it
pub record IsOwnDataset (caller : Caller) (view : State) (sought : List ℕ) : Type 0 where
  pub dataset : Package
  pub is_present : Contains view.datasets dataset
  pub id : dataset.id ≡ sought
  pub own : may_edit_in view.people caller dataset ≡ true

-- a source of that name is in the view, and the caller administers its organization
pub record IsOwnSource (caller : Caller) (view : State) (sought : List ℕ) : Type 0 where
  pub source : SourceState
  pub is_present : Contains view.sources source
  pub name : source.source.name ≡ sought
  pub own : administers view.people caller source.source.owner_org ≡ true

-- a dataset of that id is in the view, and the caller administers the organization of the source that it was harvested from
pub record IsOwnHarvested (caller : Caller) (view : State) (sought : List ℕ) : Type 0 where
  pub dataset : Package
  pub is_present : Contains view.datasets dataset
  pub id : dataset.id ≡ sought
  pub source : IsOwnSource caller view dataset.source

-- The caller administers the organization of the source that is put, or that of the source that is there.
abbrev pub IsOwnSourceEntry : Caller → State → SourceEntry → Type 0
IsOwnSourceEntry caller view (PutSource source) = administers view.people caller source.owner_org ≡ true
IsOwnSourceEntry caller view (DropSource name) = IsOwnSource caller view name
IsOwnSourceEntry caller view (PutJob job) = IsOwnSource caller view job.source
IsOwnSourceEntry caller view (DropJob name number) = IsOwnSource caller view name
IsOwnSourceEntry caller view (PutListing name listing) = IsOwnSource caller view name

-- The caller has the right to make the entry: it administers the organization; may edit the new dataset, or the dataset that
-- is edited or has the table; only a sysadmin drops a dataset, unless it goes with its source; and the caller administers
-- the organization of a source.
abbrev pub IsOwnEntry : Caller → State → Entry → Type 0
IsOwnEntry caller view (PutOrg org) = administers view.people caller org.name ≡ true
IsOwnEntry caller view (DropOrg name) = administers view.people caller name ≡ true
IsOwnEntry caller view (PutRole role) = administers view.people caller role.org ≡ true
IsOwnEntry caller view (DropRole org user) = administers view.people caller org ≡ true
IsOwnEntry caller view (PutDataset dataset) = may_edit_in view.people caller dataset ≡ true
IsOwnEntry caller view (EditDataset id edit) = IsOwnDataset caller view id
IsOwnEntry caller view (DropDataset id) =
    (is_sysadmin_in view.people caller ≡ true) ⊎ IsOwnHarvested caller view id
IsOwnEntry caller view (PutTable head) = IsOwnDataset caller view head.address.dataset
IsOwnEntry caller view (DropTable address) = IsOwnDataset caller view address.dataset
IsOwnEntry caller view (PutRow address row) = IsOwnDataset caller view address.dataset
IsOwnEntry caller view (DropRow address id) = IsOwnDataset caller view address.dataset
IsOwnEntry caller view (OfSources entry) = IsOwnSourceEntry caller view entry

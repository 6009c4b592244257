-- The changes of datasets that can be made, given the caller's view, and that the caller has the right to make. Whether a
-- new dataset's name and id are free isn't checked here.
use Rattle.std.specs.Prelude.{◌≡◌, ◌⊎◌, ℕ, true, false, List}
use Rattle.std.specs.List.{Contains}
use Rattle.org_roles.specs.PeopleLists.{is_sysadmin_in}
use Rattle.packages.specs.declared.package.Package.{Package}
use Rattle.visibility.specs.TableSummary.{TableSummary, is_among, breaks_references}
use Rattle.visibility.specs.CallView.{CallView}
use Rattle.visibility.specs.Visibility.{is_harvested, may_edit_in}
use Rattle.dataset_answers.specs.Edits.{origin_of}
use Rattle.dataset_answers.specs.Sound.{IsSound}
use Rattle.dataset_answers.specs.declared.change.DatasetChange.{DatasetChange}
use Rattle.dataset_answers.specs.declared.change.DatasetChange.TheVariants.{Create, Replace, Remove}

-- a new dataset is sound, and the caller may edit it: the caller is a sysadmin, or an editor of its organization
pub record IsCreation (view : CallView) (dataset : Package) : Type 0 where
  pub sound : IsSound view.people dataset
  pub own : may_edit_in view.people view.caller dataset ≡ true

-- Each number of a resource of the old dataset is one of the new dataset.
abbrev pub KeepsResources : Package → Package → Type 0
KeepsResources old new = (number : ℕ) → is_among old.resources number ≡ true → is_among new.resources number ≡ true

-- The dataset replaces one in the view that the caller may edit. It keeps the id, the name and the origin of that one, and
-- is sound if that one is. No resource is removed, or no table that stays refers to a table of a removed resource.
pub record IsReplacement (view : CallView) (summaries : List TableSummary) (dataset : Package) : Type 0 where
  pub old : Package
  pub is_present : Contains view.datasets old
  pub own : may_edit_in view.people view.caller old ≡ true
  pub id : old.id ≡ dataset.id
  pub name : old.name ≡ dataset.name
  pub origin : origin_of old ≡ origin_of dataset
  pub sound : IsSound view.people old → IsSound view.people dataset
  pub keeps_references : KeepsResources old dataset ⊎ (breaks_references summaries dataset.id dataset.resources ≡ false)

-- A dataset with that id is in the view. It wasn't harvested, and the caller is a sysadmin.
pub record IsRemoval (view : CallView) (sought : List ℕ) : Type 0 where
  pub old : Package
  pub is_present : Contains view.datasets old
  pub id : old.id ≡ sought
  pub not_harvested : is_harvested old ≡ false
  pub sysadmin : is_sysadmin_in view.people view.caller ≡ true

-- a change that can be made, given the caller's view, and that the caller has the right to make
abbrev pub IsFitDataset : CallView → List TableSummary → DatasetChange → Type 0
IsFitDataset view summaries (Create dataset) = IsCreation view dataset
IsFitDataset view summaries (Replace dataset) = IsReplacement view summaries dataset
IsFitDataset view summaries (Remove id) = IsRemoval view id

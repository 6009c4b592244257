-- The changes of sources that can be made, given the caller's view and the sources that it sees, and that the caller
-- has the right to make. Whether a new source's name is free isn't checked here.
use Rattle.std.specs.Prelude.{◌≡◌, ◌≢◌, ℕ, List, [], true, is_some, None, Some}
use Rattle.org_roles.specs.PeopleLists.{org_in}
use Rattle.portal_base.specs.Name.{is_name}
use Rattle.visibility.specs.CallView.{CallView}
use Rattle.visibility.specs.View.{administers}
use Rattle.harvest_sources.specs.Entries.{source_fault}
use Rattle.harvest_sources.specs.Sources.{SourceState, source_named}
use Rattle.harvest_sources.specs.declared.change.SourceChange.{SourceChange}
use Rattle.harvest_sources.specs.declared.change.SourceChange.TheVariants.{Create, Update, Remove, AddJob}
use Rattle.harvest_sources.specs.declared.source.HarvestSource.{HarvestSource}
use Rattle.harvest_answers.specs.Bodies.{is_location, longest_source_name}

-- A new source has a name and a location, and no job yet. The caller administers its organization, which exists.
pub record IsFitCreation (view : CallView) (source : HarvestSource) : Type 0 where
  pub name : is_name source.name longest_source_name ≡ true
  pub named : source.name ≢ []
  pub location : is_location source.url ≡ true
  pub owned : is_some (org_in view.people source.owner_org) ≡ true
  pub administered : administers view.people view.caller source.owner_org ≡ true
  pub first : source.next_job ≡ 1

-- A change of the source of this name: it has no fault, and the caller administers the source's organization.
pub record IsFitEdit (view : CallView) (sources : List SourceState) (name : List ℕ) (change : SourceChange) : Type 0 where
  pub possible : source_fault change sources ≡ None
  pub administered : (s : SourceState) → source_named sources name ≡ Some s →
      administers view.people view.caller s.source.owner_org ≡ true

-- a change that can be made, and that the caller has the right to make
abbrev pub IsFitSource : CallView → List SourceState → SourceChange → Type 0
IsFitSource view sources (Create source) = IsFitCreation view source
IsFitSource view sources (Update name title url) = IsFitEdit view sources name (Update name title url)
IsFitSource view sources (Remove name) = IsFitEdit view sources name (Remove name)
IsFitSource view sources (AddJob name created) = IsFitEdit view sources name (AddJob name created)

-- Edits of a dataset: the fields that an edit sets, and those that it leaves as they are.
use Rattle.std.specs.Prelude.{ℕ, ℤ, Bool, List}
use Rattle.packages.specs.declared.package.Package.{Package}
use Rattle.packages.specs.declared.package.Resource.{Resource}
use Rattle.packages.specs.declared.package.State.{State}

-- Where a dataset comes from: the organization that owns it, who made it and when, and where it was harvested. No edit
-- changes it.
pub record Origin : Type 0 where
  pub owner_org : List ℕ
  pub creator : List ℕ
  pub created : ℤ
  pub source : List ℕ
  pub iri : List ℕ

abbrev pub origin_of : Package → Origin
origin_of dataset = record {
  owner_org = dataset.owner_org;
  creator = dataset.creator;
  created = dataset.created;
  source = dataset.source;
  iri = dataset.iri;
}

-- the fields that an edit sets, with their new values
pub record DatasetEdit : Type 0 where
  pub title : List ℕ
  pub notes : List ℕ
  pub author : List ℕ
  pub maintainer : List ℕ
  pub license_id : List ℕ
  pub url : List ℕ
  pub version : List ℕ
  pub private : Bool
  pub state : State
  pub tags : List (List ℕ)
  pub resources : List Resource
  pub next_resource : ℕ
  pub modified : ℤ

-- the edit that sets the fields to the values that this dataset has
abbrev pub edit_of : Package → DatasetEdit
edit_of dataset = record {
  title = dataset.title;
  notes = dataset.notes;
  author = dataset.author;
  maintainer = dataset.maintainer;
  license_id = dataset.license_id;
  url = dataset.url;
  version = dataset.version;
  private = dataset.private;
  state = dataset.state;
  tags = dataset.tags;
  resources = dataset.resources;
  next_resource = dataset.next_resource;
  modified = dataset.modified;
}

-- The dataset after the edit. Its id, its name and its origin stay.
abbrev pub edited : DatasetEdit → Package → Package
edited edit dataset = record dataset {
  title = edit.title;
  notes = edit.notes;
  author = edit.author;
  maintainer = edit.maintainer;
  license_id = edit.license_id;
  url = edit.url;
  version = edit.version;
  private = edit.private;
  state = edit.state;
  tags = edit.tags;
  resources = edit.resources;
  next_resource = edit.next_resource;
  modified = edit.modified;
}

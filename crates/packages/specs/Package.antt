-- A new dataset.
use Rattle.std.specs.Prelude.{ℕ, ℤ, false, List, []}
use Rattle.packages.specs.declared.package.Package.{Package}
use Rattle.packages.specs.declared.package.State.TheVariants.{Active}

-- active and public, without notes, tags and resources, created and modified at this moment
abbrev pub fresh_package : List ℕ → List ℕ → List ℕ → List ℕ → List ℕ → ℤ → Package
fresh_package id name title owner_org creator moment = record {
  id = id;
  name = name;
  title = title;
  notes = [];
  author = [];
  maintainer = [];
  license_id = [];
  url = [];
  version = [];
  owner_org = owner_org;
  private = false;
  state = Active;
  tags = [];
  resources = [];
  next_resource = 1;
  creator = creator;
  created = moment;
  modified = moment;
  source = [];
  iri = [];
}

-- ---- copies

-- the dataset with what no body sets of another one, and with its state
abbrev pub with_kept_of : Package → Package → Package
with_kept_of from start = record start {
  id = from.id;
  name = from.name;
  owner_org = from.owner_org;
  state = from.state;
  next_resource = from.next_resource;
  creator = from.creator;
  created = from.created;
  modified = from.modified;
  source = from.source;
  iri = from.iri;
}

-- the dataset with what bodies set of another one, its state aside
abbrev pub with_values_of : Package → Package → Package
with_values_of from start = record start {
  title = from.title;
  notes = from.notes;
  author = from.author;
  maintainer = from.maintainer;
  license_id = from.license_id;
  url = from.url;
  version = from.version;
  private = from.private;
  tags = from.tags;
  resources = from.resources;
}

-- parts of these
abbrev pub with_names_of : Package → Package → Package
with_names_of from start = record start { id = from.id; name = from.name; owner_org = from.owner_org }

abbrev pub with_texts_of : Package → Package → Package
with_texts_of from start = record start { title = from.title; notes = from.notes; author = from.author }

abbrev pub with_links_of : Package → Package → Package
with_links_of from start = record start {
  maintainer = from.maintainer;
  license_id = from.license_id;
  url = from.url;
}

-- The dataset that a record of DCAT 3 (section 6.6) gives.
use Rattle.std.specs.Prelude.{ℕ, ◌+◌, List, [], ◌∷◌, length, take}
use Rattle.packages.specs.Package.{fresh_package}
use Rattle.packages.specs.Tags.{text_set}
use Rattle.packages.specs.declared.package.Package.{Package}
use Rattle.packages.specs.declared.package.Resource.{Resource}
use Rattle.harvest_records.specs.Names.{harvested_name}
use Rattle.harvest_records.specs.declared.record.Distribution.{Distribution}
use Rattle.harvest_records.specs.declared.record.HarvestRecord.{HarvestRecord}
use Rattle.harvest_sources.specs.declared.source.HarvestSource.{HarvestSource}

-- the most resources of a harvested dataset
abbrev pub max_resources : ℕ
max_resources = 200

-- the resource of this number that a distribution gives
abbrev pub harvested_resource : ℕ → Distribution → Resource
harvested_resource number distribution = record {
  number = number;
  name = distribution.name;
  url = distribution.url;
  format = distribution.format;
  description = distribution.description;
  mimetype = distribution.mimetype;
}

-- the resources of distributions, numbered from this number on
abbrev pub numbered_from : ℕ → List Distribution → List Resource
numbered_from number [] = []
numbered_from number (distribution ∷ rest) = harvested_resource number distribution ∷ numbered_from (number + 1) rest

-- The dataset of an IRI and its record: active and public, in the source's organization, with the name that the source
-- and the IRI give it as its id too. It was created and modified at the record's moment, and nobody made it. Its
-- resources are numbered from 1.
unfoldable pub harvested_dataset : HarvestSource → List ℕ → HarvestRecord → Package
harvested_dataset source iri r =
    let name = harvested_name source.name iri in
    let resources = take max_resources r.resources in
    record (fresh_package name name r.title source.owner_org [] r.modified) {
      notes = r.notes;
      license_id = r.license_id;
      tags = text_set r.tags;
      resources = numbered_from 1 resources;
      next_resource = length resources + 1;
      source = source.name;
      iri = iri;
    }

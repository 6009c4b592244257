-- Worked examples, by computation: a source `aa` whose catalogue lists the IRIs `abc` and `hello`.
use Rattle.std.proofs.Common.{◌≡◌, ℕ, List, [], ◌∷◌, false, pos, refl}
use Rattle.std.specs.Prelude.{codes}
use Rattle.std.specs.Fmt.{digits}
use Rattle.packages.specs.declared.package.Package.{Package}
use Rattle.packages.specs.declared.package.State.TheVariants.{Active}
use Rattle.harvest_records.specs.declared.record.Distribution.{Distribution}
use Rattle.harvest_records.specs.declared.record.HarvestRecord.{HarvestRecord}
use Rattle.harvest_records.proofs.Examples.{name_of_abc, name_of_hello}
use Rattle.harvest_sources.specs.Causes.{cause_text}
use Rattle.harvest_results.specs.Counts.{Counts, counts_of}
use Rattle.harvest_results.specs.Harvested.{harvested_dataset}
use Rattle.harvest_results.specs.Readings.{CatalogueReading, ListedIri, is_whole}
use Rattle.harvest_results.specs.Readings.CatalogueReading.{Listed}
use Rattle.harvest_results.specs.Results.{datasets_after}
use Rattle.harvest_sources.specs.declared.cause.Cause.TheVariants.{NoTitle, NotNTriples}
use Rattle.harvest_sources.specs.declared.reading.Reading.TheVariants.{Good, Bad}
use Rattle.harvest_sources.specs.declared.source.HarvestSource.{HarvestSource}

abbrev aa : HarvestSource
aa = record {
  name = codes "aa";
  title = codes "Air";
  url = codes "a.nt";
  owner_org = codes "city";
  next_job = 2;
}

abbrev table : Distribution
table = record {
  url = codes "a.csv";
  name = codes "Table";
  format = codes "CSV";
  mimetype = codes "text/csv";
  description = [];
}

-- a record with this title
abbrev titled : List ℕ → HarvestRecord
titled title = record {
  title = title;
  notes = codes "N";
  tags = codes "wind" ∷ codes "air" ∷ codes "wind" ∷ [];
  modified = pos 60;
  license_id = codes "cc";
  resources = table ∷ table ∷ [];
}

-- the dataset of this name, IRI and title, by hand
abbrev dataset : List ℕ → List ℕ → List ℕ → Package
dataset name iri title = record {
  id = name;
  name = name;
  title = title;
  notes = codes "N";
  author = [];
  maintainer = [];
  license_id = codes "cc";
  url = [];
  version = [];
  owner_org = codes "city";
  private = false;
  state = Active;
  tags = codes "air" ∷ codes "wind" ∷ [];
  resources = record {
    number = 1;
    name = codes "Table";
    url = codes "a.csv";
    format = codes "CSV";
    description = [];
    mimetype = codes "text/csv";
  } ∷ record {
    number = 2;
    name = codes "Table";
    url = codes "a.csv";
    format = codes "CSV";
    description = [];
    mimetype = codes "text/csv";
  } ∷ [];
  next_resource = 3;
  creator = [];
  created = pos 60;
  modified = pos 60;
  source = codes "aa";
  iri = iri;
}

abbrev abc : List ℕ → Package
abc title = dataset (codes "hv-aa-ba7816bf8f01cfea414140de5dae2223b00361a3") (codes "abc") title

abbrev hello : List ℕ → Package
hello title = dataset (codes "hv-aa-2cf24dba5fb0a30e26e83b2ac5b9e29e1b161e5c") (codes "hello") title

abbrev good : List ℕ → List ℕ → ListedIri
good iri title = record { iri = iri; reading = Good (titled title) }

abbrev counts : ℕ → ℕ → ℕ → ℕ → ℕ → Counts
counts added updated unchanged deleted unnamed = record {
  added = added;
  updated = updated;
  unchanged = unchanged;
  deleted = deleted;
  unnamed = unnamed;
}

prints_the_bad_line : cause_text (NotNTriples 40) ≡ codes "NotNTriples 40"
unfolding digits
prints_the_bad_line = refl

-- Both are added, in the order of their names, and one object had no IRI.
both : CatalogueReading
both = Listed aa (good (codes "abc") (codes "A") ∷ good (codes "hello") (codes "B") ∷ []) 1

leaves_both : datasets_after [] both ≡ hello (codes "B") ∷ abc (codes "A") ∷ []
unfolding both harvested_dataset
leaves_both = simp (name_of_abc, name_of_hello)

counts_both : counts_of [] both ≡ counts 2 0 0 0 1
unfolding both harvested_dataset
counts_both = simp (name_of_abc, name_of_hello)

is_not_whole : is_whole both ≡ false
unfolding both
is_not_whole = refl

-- The other IRI is listed instead.
other : CatalogueReading
other = Listed aa (good (codes "hello") (codes "A2") ∷ []) 0

replaces : datasets_after (abc (codes "A") ∷ []) other ≡ hello (codes "A2") ∷ []
unfolding other harvested_dataset
replaces = simp name_of_hello

counts_the_replaced : counts_of (abc (codes "A") ∷ []) other ≡ counts 1 0 0 1 0
unfolding other harvested_dataset
counts_the_replaced = simp name_of_hello

-- One record is as before, one IRI has a new title, and an IRI without a record keeps its dataset.
changed : CatalogueReading
changed =
    Listed aa (good (codes "hello") (codes "B2") ∷ record { iri = codes "abc"; reading = Bad NoTitle } ∷ []) 0

keeps_the_bad : datasets_after (hello (codes "B") ∷ abc (codes "A") ∷ []) changed
    ≡ hello (codes "B2") ∷ abc (codes "A") ∷ []
unfolding changed harvested_dataset
keeps_the_bad = simp (name_of_abc, name_of_hello)

counts_the_updated : counts_of (hello (codes "B") ∷ abc (codes "A") ∷ []) changed ≡ counts 0 1 0 0 0
unfolding changed harvested_dataset
counts_the_updated = simp (name_of_abc, name_of_hello)

counts_the_unchanged : counts_of (hello (codes "B") ∷ abc (codes "A") ∷ []) both ≡ counts 0 0 2 0 1
unfolding both harvested_dataset
counts_the_unchanged = simp (name_of_abc, name_of_hello)

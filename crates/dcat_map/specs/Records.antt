-- The record of a dataset (DCAT 3, sections 6.4 and 6.6).
use Rattle.std.specs.Prelude.{ℕ, if◌then◌else◌, List, [], ◌∷◌, Result, Ok, Err}
use Rattle.ntriples.specs.declared.term.Term.{Term}
use Rattle.ntriples.specs.declared.term.Term.TheVariants.{Iri}
use Rattle.ntriples.specs.declared.term.Triple.{Triple}
use Rattle.harvest_records.specs.declared.record.HarvestRecord.{HarvestRecord}
use Rattle.dcat_map.specs.declared.record.RecordFault.{RecordFault}
use Rattle.dcat_map.specs.declared.record.RecordFault.TheVariants.{NotDescribed, NoTitle}
use Rattle.dcat_map.specs.Graphs.{graph_of, about, is_described}
use Rattle.dcat_map.specs.Picks.{picked, least_named, or_empty}
use Rattle.dcat_map.specs.Tags.{tags_among}
use Rattle.dcat_map.specs.Instants.{latest, or_epoch}
use Rattle.dcat_map.specs.Distributions.{resources_in}
use Rattle.dcat_map.specs.Vocabulary.{dcat_keyword, dct_title, dct_description, dct_modified, dct_license}

-- what the graph says of a dataset
unfoldable pub record_in : List Triple → Term → HarvestRecord
record_in g dataset = record {
  title = picked (about g dataset dct_title);
  notes = picked (about g dataset dct_description);
  tags = tags_among (about g dataset dcat_keyword);
  modified = or_epoch (latest (about g dataset dct_modified));
  license_id = or_empty (least_named (about g dataset dct_license));
  resources = resources_in g dataset;
}

-- a record needs a title
abbrev pub titled : List ℕ → HarvestRecord → Result HarvestRecord RecordFault
titled [] r = Err NoTitle
titled (b ∷ bs) r = Ok r

-- the record of the IRI, if the graph describes it
unfoldable pub description_in : List Triple → List ℕ → Result HarvestRecord RecordFault
description_in g iri =
    if is_described g iri then titled (record_in g (Iri iri)).title (record_in g (Iri iri)) else Err NotDescribed

-- the record of the IRI in the graph of the triples
unfoldable pub description_of : List Triple → List ℕ → Result HarvestRecord RecordFault
description_of triples iri = description_in (graph_of triples) iri

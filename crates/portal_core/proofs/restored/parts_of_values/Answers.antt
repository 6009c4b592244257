use Rattle.harvest_stages.specs.Stages.{sources_in}
use Rattle.packages.specs.Shelf.{datasets_of}
use Rattle.portal_core.proofs.RestoredDatasets.{shelvable-numbered}
use Rattle.portal_core.proofs.RestoredParts.{no-people, no-shelf, no-sources, no-tables, parts-consistent}
use Rattle.portal_core.proofs.RestoredParts.{parts-harvests, parts-typed, parts-values}
use Rattle.portal_core.proofs.restored.parts_of_values.Goals as goal

pub indexed_shelf_of_values-requires-clause-sources : goal.indexed_shelf_of_values-requires-clause-sources
indexed_shelf_of_values-requires-clause-sources c = (rw c.in-Some-2.is at c.in_ok-sources.ensures.sources).valid

pub tables_of_values-requires-clause-numbered : goal.tables_of_values-requires-clause-numbered
tables_of_values-requires-clause-numbered c =
    shelvable-numbered c.in-Some.people.people (sources_in c.in-Some-2.sources) c.args.values.datasets
    (datasets_of c.in-Some-3.shelf) (rw c.in-Some-3.is at c.in_ok-shelf.ensures.shelvable)
    (rw c.in-Some-3.is at c.in_ok-shelf.ensures.datasets)

pub returns-in_default-clause-none : goal.returns-in_default-clause-none
returns-in_default-clause-none c =
    λ state valid typed same own.
    no-people c.args.values (rw c.in_default.is at c.in_ok-people.ensures.none) state valid same

pub returns-in_default-2-clause-none : goal.returns-in_default-2-clause-none
returns-in_default-2-clause-none c =
    no-sources c.args.values c.args.harvests c.in-Some.people.people (rw c.in-Some.is at c.in_ok-people.ensures.people)
    (rw c.in_default-2.is at c.in_ok-sources.ensures.none)

pub returns-in_default-3-clause-none : goal.returns-in_default-3-clause-none
returns-in_default-3-clause-none c =
    λ state valid typed same own.
    no-shelf c.args.values c.args.harvests c.in-Some.people.people (sources_in c.in-Some-2.sources)
    (rw c.in-Some.is at c.in_ok-people.ensures.people) (rw c.in-Some-2.is at c.in_ok-sources.ensures.sources)
    (rw c.in_default-3.is at c.in_ok-shelf.ensures.none) state valid same own

pub returns-in-None-clause-none : goal.returns-in-None-clause-none
returns-in-None-clause-none c =
    λ state valid typed same own.
    no-tables c.args.values (datasets_of c.in-Some-3.shelf) (rw c.in-Some-3.is at c.in_ok-shelf.ensures.datasets)
    (rw c.in-None.is at c.in_ok-tables.ensures.none) state valid typed same

pub returns-in-Some-4-clause-consistent : goal.returns-in-Some-4-clause-consistent
returns-in-Some-4-clause-consistent c =
    parts-consistent c.args.values c.args.harvests (record {
      people = c.in-Some.people;
      shelf = c.in-Some-3.shelf;
      indexes = c.in-Some-3.indexes;
      tables = c.in-Some-4.tables;
      sources = c.in-Some-2.sources;
      quota_used = c.new.result;
    })
    c.requires.values (rw c.in-Some.is at c.in_ok-people.ensures.people)
    (rw c.in-Some-3.is at c.in_ok-shelf.ensures.shelvable) (rw c.in-Some-3.is at c.in_ok-shelf.ensures.datasets)
    (rw c.in-Some-3.is at c.in_ok-shelf.ensures.indexed) (rw c.in-Some-4.is at c.in_ok-tables.ensures.tables)
    (rw c.in-Some-2.is at c.in_ok-sources.ensures.sources) c.new.ensures

pub returns-in-Some-4-clause-values : goal.returns-in-Some-4-clause-values
returns-in-Some-4-clause-values c =
    parts-values c.args.values (record {
      people = c.in-Some.people;
      shelf = c.in-Some-3.shelf;
      indexes = c.in-Some-3.indexes;
      tables = c.in-Some-4.tables;
      sources = c.in-Some-2.sources;
      quota_used = c.new.result;
    })
    (rw c.in-Some.is at c.in_ok-people.ensures.people) (rw c.in-Some-3.is at c.in_ok-shelf.ensures.datasets)
    (rw c.in-Some-4.is at c.in_ok-tables.ensures.tables)

pub returns-in-Some-4-clause-harvests : goal.returns-in-Some-4-clause-harvests
returns-in-Some-4-clause-harvests c =
    parts-harvests c.args.harvests (record {
      people = c.in-Some.people;
      shelf = c.in-Some-3.shelf;
      indexes = c.in-Some-3.indexes;
      tables = c.in-Some-4.tables;
      sources = c.in-Some-2.sources;
      quota_used = c.new.result;
    })
    (rw c.in-Some-2.is at c.in_ok-sources.ensures.sources)

pub returns-in-Some-4-clause-typed : goal.returns-in-Some-4-clause-typed
returns-in-Some-4-clause-typed c =
    parts-typed c.args.values c.args.harvests (record {
      people = c.in-Some.people;
      shelf = c.in-Some-3.shelf;
      indexes = c.in-Some-3.indexes;
      tables = c.in-Some-4.tables;
      sources = c.in-Some-2.sources;
      quota_used = c.new.result;
    })
    c.requires.values (rw c.in-Some.is at c.in_ok-people.ensures.people)
    (rw c.in-Some-3.is at c.in_ok-shelf.ensures.datasets) (rw c.in-Some-4.is at c.in_ok-tables.ensures.tables)
    (rw c.in-Some-2.is at c.in_ok-sources.ensures.sources)

pub returns-in-Some-4-clause-rest : goal.returns-in-Some-4-clause-rest
returns-in-Some-4-clause-rest c = (rw c.in-Some-2.is at c.in_ok-sources.ensures.sources).rest

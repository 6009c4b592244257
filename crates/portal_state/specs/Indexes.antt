-- The indexes of the datasets on a shelf.
use Rattle.std.specs.Prelude.{◌≡◌, ◌<◌, IsTrue}
use Rattle.packages.specs.Shelf.{ShelfState, IsValidShelf, datasets_of}
use Rattle.facets.specs.Counters as counters
use Rattle.facets.specs.Facts.{facts_of}
use Rattle.search_index.specs.Index as index
use Rattle.search_index.specs.Terms.{terms_of}
use Rattle.portal_state.specs.declared.indexes.Indexes.{Indexes}
use Rattle.portal_state.specs.declared.indexes.PreparedDataset.{PreparedDataset}

-- The shelf is valid, and the indexes are those of its datasets.
pub record IsIndexed (shelf : ShelfState) (indexes : Indexes) : Type 0 where
  pub valid : IsValidShelf shelf
  pub terms : index.StandsFor indexes.index shelf
  pub counts : counters.StandsFor indexes.counters (datasets_of shelf)

-- They have the same entries, and perhaps more room.
pub record AreSameIndexes (old new : Indexes) : Type 0 where
  pub terms : new.index.entries ≡ old.index.entries
  pub counts : new.counters.entries ≡ old.counters.entries

-- There is room for the entry of the dataset at its number, and the entry is made.
pub record IsReadyIn (prepared : PreparedDataset) (indexes : Indexes) : Type 0 where
  pub number : prepared.terms.number ≡ prepared.number
  pub room : prepared.terms.number < indexes.index.room
  pub terms : prepared.terms.terms ≡ terms_of prepared.dataset
  pub id : prepared.counts.id ≡ prepared.dataset.id
  pub id_room : IsTrue (counters.has_room prepared.counts.id indexes.counters)
  pub facts : prepared.counts.facts ≡ facts_of prepared.dataset

-- The representation of a shelf: a slab of datasets by number, with an index by id and name. No public clause cites it.
use Rattle.std.specs.Prelude.{◌≡◌, ℕ, ◌+◌, ◌<◌, ◌≤◌, ◌^◌, Bool, true, false, cond, ◌⊎◌, List, Some, None}
use Rattle.std.specs.Option.{option_map_or}
use Rattle.slab.specs.Slab.{Slab, get, slab_len, entries}
use Rattle.digest_index.specs.Index.{IndexState, IsUnder}
use Rattle.packages.specs.Digest.{digest_of}
use Rattle.packages.specs.Named.{is_named}
use Rattle.packages.specs.Shelf.{ShelfState}
use Rattle.packages.specs.declared.package.Package.{Package}

-- the value of a shelf: the datasets by number, and the number of the next one, if there is room for it
abbrev pub shelf_state : Slab Package → Bool → ShelfState
shelf_state datasets is_prepared = record {
  entries = entries datasets;
  room = cond is_prepared (Some datasets.vacant_key) None;
}

-- the dataset's id or its name has this digest
abbrev pub HasDigest : ℕ → Package → Type 0
HasDigest digest dataset = (digest ≡ digest_of dataset.id) ⊎ (digest ≡ digest_of dataset.name)

-- a dataset with that id or name is at the number
abbrev pub is_named_at : ℕ → List ℕ → Slab Package → Bool
is_named_at n key datasets = option_map_or (is_named key) (get datasets n) false

-- There is room for one more dataset, under a number below 2^32.
pub record IsReady (datasets : Slab Package) (index : IndexState ℕ) : Type 0 where
  pub slot : slab_len datasets + 1 ≤ datasets.capacity
  pub number : datasets.vacant_key < 2 ^ 32
  pub vacant : get datasets datasets.vacant_key ≡ None
  pub index_room : 2 ≤ index.room

-- Each id and each name is indexed with its dataset's number, and the index has nothing else.
pub record IsIndexed (datasets : Slab Package) (index : IndexState ℕ) : Type 0 where
  pub candidate : (key : List ℕ) (n : ℕ) (d : Package) → get datasets n ≡ Some d → is_named key d ≡ true
      → IsUnder index (digest_of key) n
  pub of_dataset : (digest n : ℕ) → IsUnder index digest n
      → (d : Package) × (get datasets n ≡ Some d) × HasDigest digest d

-- no text is an id or a name of datasets at two numbers
abbrev pub HasUniqueKeys : Slab Package → Type 0
HasUniqueKeys datasets =
    (key : List ℕ) (m n : ℕ) (d e : Package) → get datasets m ≡ Some d → get datasets n ≡ Some e
    → is_named key d ≡ true → is_named key e ≡ true → m ≡ n

-- Numbers are below 2^32, no text names datasets at two numbers, and the index has each id and each name.
pub record IsConsistent (datasets : Slab Package) (index : IndexState ℕ) (is_prepared : Bool) : Type 0 where
  pub below : (n : ℕ) (d : Package) → get datasets n ≡ Some d → n < 2 ^ 32
  pub apart : HasUniqueKeys datasets
  pub indexed : IsIndexed datasets index
  pub ready : is_prepared ≡ true → IsReady datasets index

-- A store, in memory or in a file: what is observable of it, and facts of its keeper.
use Rattle.std.specs.Prelude.{ℕ, List, Option, Some, None, ⊤}
use Rattle.keeper_sqlite.specs.SqliteState.{SqliteState}
use Rattle.portal_keeper.specs.Memory.{MemoryState}
use Rattle.portal_keeper.specs.declared.row.KeptRow.{KeptRow}
use Rattle.portal_store.specs.declared.store.Store.{Store}
use Rattle.portal_store.specs.declared.store.Store.TheVariants.{Memory, File}

module _ {S : Type 0} where
  -- the rows, where they are observable
  abbrev pub rows_kept : Store S → Option (List KeptRow)
  rows_kept (Memory keeper) = Some keeper.rows
  rows_kept (File keeper) = None

  -- the keeper's count of faults
  abbrev pub faults_so_far : Store S → ℕ
  faults_so_far (Memory keeper) = keeper.plan.faults
  faults_so_far (File keeper) = keeper.faults

  -- If the store is in memory, this holds of its keeper.
  abbrev pub IfInMemory : Store S → (MemoryState → Type 0) → Type 0
  IfInMemory (Memory keeper) holds = holds keeper
  IfInMemory (File keeper) holds = ⊤

  -- If the store is in a file, this holds of its keeper.
  abbrev pub IfInFile : Store S → (SqliteState S → Type 0) → Type 0
  IfInFile (Memory keeper) holds = ⊤
  IfInFile (File keeper) holds = holds keeper

  -- The store is in a file.
  abbrev pub IsInFile : Store S → Type 0
  IsInFile (Memory keeper) = ⊥
  IsInFile (File keeper) = ⊤

  -- A store that is in a file before a call is in a file after it, and this holds of its keeper before and after.
  abbrev pub IfFileStays : Store S → Store S → (SqliteState S → SqliteState S → Type 0) → Type 0
  IfFileStays old new holds = IfInFile old (λ before. IsInFile new × IfInFile new (λ after. holds before after))

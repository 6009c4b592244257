-- What the load of the keeper over SQLite returns, and why it returns none.
use Rattle.std.specs.Prelude.{◌≡◌, ◌⊎◌, List, [], ◌∷◌, map, Any, IsTrue}
use Rattle.sqlite.specs.Held.{Held, state}
use Rattle.sqlite.specs.Order.{Row}
use Rattle.sqlite.specs.State.{Commits, IsRolledBack, Shown}
use Rattle.sqlite.specs.Steps.{FailsToCommit}
use Rattle.sqlite.specs.Store.{Ghosts}
use Rattle.sqlite.specs.Tree.{Trees}
use Rattle.sqlite.specs.declared.error.Error.{Error}
use Rattle.portal_keeper.specs.declared.change.KeepFault.{KeepFault}
use Rattle.portal_keeper.specs.declared.change.KeepFault.TheVariants.{Failed, OutOfMemory}
use Rattle.portal_keeper.specs.declared.row.KeptRow.{KeptRow}
use Rattle.keeper_sqlite.specs.Faults.{fault_of}
use Rattle.keeper_sqlite.specs.Form.{is_name_taken}
use Rattle.keeper_sqlite.specs.RowValues.{values_of, IsForeign}
use Rattle.keeper_sqlite.specs.Statements.{make_table, select_text}
use Rattle.keeper_sqlite.specs.Transactions.{begun, AllRun, StopsAt, FailsToSelect}

module _ {S : Type 0} (g : Ghosts S) where
  -- In a transaction the table is made, where it isn't there, and then the selection shows these rows.
  pub record Selects (old last : Held S) (rows : List Row) : Type 0 where
    pub made : Held S
    pub ran : AllRun g (make_table ∷ []) old made
    pub shown : Shown select_text [] (state g made) (state g last) rows

  -- The table isn't made, or the selection is refused.
  abbrev pub FailsToShow : Held S → Held S → Error → Type 0
  FailsToShow old last error =
      StopsAt g (make_table ∷ []) old last error
      ⊎ ((made : Held S) × AllRun g (make_table ∷ []) old made × FailsToSelect (state g made) (state g last) error)

  -- Why no rows are read in a transaction: a statement is refused, a row of the table is no kept row, or memory runs out.
  pub data FailsToRead (old last : Held S) : KeepFault → Type 0 where
    unshown : (error : Error) → FailsToShow old last error → FailsToRead old last (fault_of error)
    foreign : (rows : List Row) → Selects old last rows → Any IsForeign rows → FailsToRead old last Failed
    memory : (rows : List Row) → Selects old last rows → FailsToRead old last OutOfMemory

  -- These are the rows that the table shows in one transaction, which was committed.
  pub record Loads (old new : Held S) (rows : List KeptRow) : Type 0 where
    pub last : Held S
    pub selected : Selects (begun old) last (map values_of rows)
    pub committed : Commits (state g last) (state g new)

  -- Nothing was committed: no rows were read and the transaction was rolled back, or the commit failed.
  abbrev pub FailsToLoad : Held S → Held S → KeepFault → Type 0
  FailsToLoad old new fault =
      (last : Held S)
      × ((FailsToRead (begun old) last fault × IsRolledBack (state g last) (state g new))
      ⊎ ((rows : List KeptRow) × (error : Error) × Selects (begun old) last (map values_of rows)
      × (fault ≡ fault_of error) × FailsToCommit (state g last) (state g new) error))

  -- The name of the table is taken, and nothing was done; or the load failed.
  abbrev pub RefusesToLoad : Held S → Held S → KeepFault → Type 0
  RefusesToLoad old new fault =
      ((fault ≡ Failed) × IsTrue (is_name_taken old.schema) × (new ≡ old)) ⊎ FailsToLoad old new fault

  -- what the commit of a load writes, and a crash may leave: the table, if it wasn't there
  abbrev pub MayCommitLoad : Held S → Trees → Type 0
  MayCommitLoad old trees =
      (last : Held S) × (rows : List KeptRow) × Selects (begun old) last (map values_of rows)
      × (trees ≡ (state g last).now.trees)

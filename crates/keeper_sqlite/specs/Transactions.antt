-- Statements in one transaction, in the words of the crate `sqlite`: a connection is seen as what it holds (`Held`), and
-- its state is what it shows of the database.
use Rattle.std.specs.Prelude.{◌≡◌, ◌⊎◌, ℕ, true, List, [], ◌∷◌, Result, Ok, Err}
use Rattle.sqlite.specs.Held.{Held, state}
use Rattle.sqlite.specs.State.{State, Commits, ExecutesInside, FailsToQuery, IsRolledBack, IsTooLate}
use Rattle.sqlite.specs.Steps.{FailsToCommit}
use Rattle.sqlite.specs.Store.{Ghosts}
use Rattle.sqlite.specs.Tree.{Trees}
use Rattle.sqlite.specs.declared.error.Error.{Error}
use Rattle.keeper_sqlite.specs.Statements.{BoundStatement, select_text}

-- the connection once it has begun a transaction
abbrev pub begun : {S : Type 0} → Held S → Held S
begun connection = record connection { in_transaction = true }

-- The selection is refused.
abbrev pub FailsToSelect : State → State → Error → Type 0
FailsToSelect old new error = FailsToQuery select_text [] old new error ⊎ IsTooLate select_text [] old new error

module _ {S : Type 0} (g : Ghosts S) where
  -- A statement runs in the transaction, or is refused.
  abbrev pub RunsInside : BoundStatement → Held S → Held S → Result ℕ Error → Type 0
  RunsInside statement old new result =
      ExecutesInside 0 statement.text statement.params (state g old) (state g new) result

  -- All of the statements run, one after the other.
  abbrev pub AllRun : List BoundStatement → Held S → Held S → Type 0
  AllRun [] old new = new ≡ old
  AllRun (statement ∷ statements) old new =
      (mid : Held S) × (count : ℕ) × RunsInside statement old mid (Ok count) × AllRun statements mid new

  -- The statements run one after the other up to one that is refused.
  abbrev pub StopsAt : List BoundStatement → Held S → Held S → Error → Type 0
  StopsAt [] old new error = ⊥
  StopsAt (statement ∷ statements) old new error =
      RunsInside statement old new (Err error)
      ⊎ ((mid : Held S) × (count : ℕ) × RunsInside statement old mid (Ok count) × StopsAt statements mid new error)

  -- All of the statements ran in one transaction, which was committed.
  pub record CommitsAll (statements : List BoundStatement) (old new : Held S) : Type 0 where
    pub last : Held S
    pub ran : AllRun statements (begun old) last
    pub committed : Commits (state g last) (state g new)

  -- Nothing was committed: a statement was refused and the transaction was rolled back, or all of them ran and the
  -- commit failed.
  abbrev pub RefusesAll : List BoundStatement → Held S → Held S → Error → Type 0
  RefusesAll statements old new error =
      (last : Held S)
      × ((StopsAt statements (begun old) last error × IsRolledBack (state g last) (state g new))
      ⊎ (AllRun statements (begun old) last × FailsToCommit (state g last) (state g new) error))

  -- what the commit of the statements writes, and a crash may leave
  abbrev pub MayCommitAll : List BoundStatement → Held S → Trees → Type 0
  MayCommitAll statements old trees =
      (last : Held S) × AllRun statements (begun old) last × (trees ≡ (state g last).now.trees)

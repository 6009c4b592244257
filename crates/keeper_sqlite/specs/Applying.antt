-- Why the keeper over SQLite makes no changes.
use Rattle.std.specs.Prelude.{◌≡◌, ◌⊎◌, List, IsTrue}
use Rattle.sqlite.specs.Held.{Held}
use Rattle.sqlite.specs.Store.{Ghosts}
use Rattle.sqlite.specs.declared.error.Error.{Error}
use Rattle.portal_keeper.specs.declared.change.Change.{Change}
use Rattle.portal_keeper.specs.declared.change.KeepFault.{KeepFault}
use Rattle.portal_keeper.specs.declared.change.KeepFault.TheVariants.{Failed}
use Rattle.keeper_sqlite.specs.Faults.{fault_of}
use Rattle.keeper_sqlite.specs.Form.{is_name_taken}
use Rattle.keeper_sqlite.specs.Statements.{statements_of}
use Rattle.keeper_sqlite.specs.Transactions.{RefusesAll}

-- The name of the table is taken, and nothing was done; or SQLite refused a statement of the changes or the commit, for an
-- error of this fault.
abbrev pub RefusesToApply : {S : Type 0} → Ghosts S → List Change → Held S → Held S → KeepFault → Type 0
RefusesToApply g changes old new fault =
    ((fault ≡ Failed) × IsTrue (is_name_taken old.schema) × (new ≡ old))
    ⊎ ((error : Error) × (fault ≡ fault_of error) × RefusesAll g (statements_of changes) old new error)

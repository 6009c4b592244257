-- A load, and what it leaves of the last commit.
use Rattle.std.proofs.Common.{◌≡◌, inl, inr, ℕ, cond, IsTrue, List, [], ◌∷◌, map, Any, Option, Some, None, Result, Ok, Err, IfErr, OnErr, refl, ap, ◌∙◌, arith}
use Rattle.sqlite.specs.Held.{Held, state}
use Rattle.sqlite.specs.Order.{Row}
use Rattle.sqlite.specs.State.{State, KeepsCommit, Shown, ShowsRows, FailsToQuery, IsNotRun, FailsToShow as FailsToShowRows, HasCleanDisk, Survives}
use Rattle.sqlite.specs.Store.{Ghosts}
use Rattle.sqlite.specs.declared.error.Error.{Error}
use Rattle.sqlite.proofs.Callers.{survives_begin}
use Rattle.sqlite.proofs.InsideLemmas.{keeps_then, unchanged_keeps}
use Rattle.sqlite.proofs.StateLemmas.{survives_then}
use Rattle.sqlite_resolve.specs.declared.compiled.Compiled.{Compiled}
use Rattle.sqlite_schema.specs.declared.command.Returning.{Returning}
use Rattle.portal_keeper.specs.declared.change.KeepFault.{KeepFault}
use Rattle.portal_keeper.specs.declared.change.KeepFault.TheVariants.{Failed, OutOfMemory}
use Rattle.portal_keeper.specs.declared.row.KeptRow.{KeptRow}
use Rattle.keeper_sqlite.specs.RowValues.{values_of, IsForeign}
use Rattle.keeper_sqlite.specs.Statements.{make_table}
use Rattle.keeper_sqlite.specs.Transactions.{begun, FailsToSelect}
use Rattle.keeper_sqlite.specs.Loading.{Selects, FailsToRead, FailsToLoad, RefusesToLoad, MayCommitLoad}
use Rattle.keeper_sqlite.specs.Loading.FailsToRead.{unshown, foreign, memory}
use Rattle.keeper_sqlite.proofs.TransactionLemmas.{AllRun-inside, AllRun-keeps, StopsAt-keeps, keeps_from_begun, same_keeps, fails_to_commit_keeps}

-- A query in a transaction commits nothing, whatever it shows.
module _ (old new : State) (inside : IsTrue old.in_transaction) where
  shows_keeps : (sql : List ℕ) (c : Compiled) (params : Row) (rows : List Row) (returning : Option Returning)
      → ShowsRows old new sql c params rows returning → KeepsCommit old new
  shows_keeps sql c params rows None h = unchanged_keeps old new (inl h.3)
  shows_keeps sql c params rows (Some what) h =
      record {
        was_open = λ _. h.1.shown.was_open;
        committed = λ _. h.1.shown.committed_is ∙ ap (λ b. cond b old.committed new.now) inside;
      }

  pub Shown-keeps : (sql : List ℕ) (params : Row) (rows : List Row) → Shown sql params old new rows → KeepsCommit old new
  unfolding Shown
  Shown-keeps sql params rows h = shows_keeps sql h.0 _ rows h.0.returning h.2

module _ (old new : State) (error : Error) where
  fails_to_show_keeps : (sql : List ℕ) (c : Compiled) (params : Row) (returning : Option Returning)
      → FailsToShowRows old new sql c params error returning → KeepsCommit old new
  fails_to_show_keeps sql c params None h = unchanged_keeps old new (inl h.3)
  fails_to_show_keeps sql c params (Some what) (inl refused) = unchanged_keeps old new (inl refused.1)
  fails_to_show_keeps sql c params (Some what) (inr failed) = unchanged_keeps old new (inr failed.3)

  not_run_keeps : (sql : List ℕ) (params : Row) → IsNotRun old new sql params error → KeepsCommit old new
  unfolding IsNotRun
  not_run_keeps sql params (inl refused) = unchanged_keeps old new (inl refused.1)
  not_run_keeps sql params (inr failed) = unchanged_keeps old new (inr failed.3)

  fails_to_query_keeps : (sql : List ℕ) (params : Row) → FailsToQuery sql params old new error → KeepsCommit old new
  unfolding FailsToQuery
  fails_to_query_keeps sql params (inl refused) = not_run_keeps sql params refused
  fails_to_query_keeps sql params (inr failed) = fails_to_show_keeps sql failed.0 _ failed.0.returning failed.2

  pub FailsToSelect-keeps : FailsToSelect old new error → KeepsCommit old new
  FailsToSelect-keeps (inl failed) = fails_to_query_keeps _ _ failed
  FailsToSelect-keeps (inr late) = unchanged_keeps old new (inl late.5)

module _ {S : Type 0} (g : Ghosts S) where
  Selects-keeps : (a b : Held S) (rows : List Row) → IsTrue a.in_transaction → Selects g a b rows
      → KeepsCommit (state g a) (state g b)
  Selects-keeps a b rows inside h =
      keeps_then (state g a) (state g h.made) (state g b) (AllRun-keeps g (make_table ∷ []) a h.made h.ran)
      (Shown-keeps (state g h.made) (state g b) (AllRun-inside g (make_table ∷ []) a h.made h.ran inside) _ _ rows h.shown)

  FailsToRead-keeps : (a b : Held S) (fault : KeepFault) → IsTrue a.in_transaction → FailsToRead g a b fault
      → KeepsCommit (state g a) (state g b)
  FailsToRead-keeps a b fault inside (unshown error failed) =
      elim failed [
        | inl stops ↦ StopsAt-keeps g (make_table ∷ []) a b error stops
        | inr refused ↦ keeps_then (state g a) (state g refused.0) (state g b)
            (AllRun-keeps g (make_table ∷ []) a refused.0 refused.1)
            (FailsToSelect-keeps (state g refused.0) (state g b) error refused.2)
      ]
  FailsToRead-keeps a b fault inside (foreign rows selected other) = Selects-keeps a b rows inside selected
  FailsToRead-keeps a b fault inside (memory rows selected) = Selects-keeps a b rows inside selected

  FailsToLoad-keeps : (old new : Held S) (fault : KeepFault) → FailsToLoad g old new fault
      → KeepsCommit (state g old) (state g new)
  FailsToLoad-keeps old new fault refused =
      let last = refused.0 in
      keeps_from_begun g old (state g new)
      (elim refused.1 [
        | inl unread ↦ keeps_then (state g (begun old)) (state g last) (state g new)
            (FailsToRead-keeps (begun old) last fault refl unread.0)
            (unchanged_keeps (state g last) (state g new) (inr unread.1))
        | inr failed ↦ keeps_then (state g (begun old)) (state g last) (state g new)
            (Selects-keeps (begun old) last _ refl failed.2)
            (fails_to_commit_keeps (state g last) (state g new) failed.1 failed.4)
      ])

  -- A refused load leaves the last commit.
  pub RefusesToLoad-keeps : (old new : Held S) (fault : KeepFault) → RefusesToLoad g old new fault
      → KeepsCommit (state g old) (state g new)
  RefusesToLoad-keeps old new fault (inl taken) = same_keeps g old new taken.2
  RefusesToLoad-keeps old new fault (inr failed) = FailsToLoad-keeps old new fault failed

  pub loaded_keeps : {T : Type 0} (old new : Held S) (r : Result T KeepFault) → IfErr r (RefusesToLoad g old new)
      → OnErr r (KeepsCommit (state g old) (state g new))
  loaded_keeps old new (Ok x) refused = tt
  loaded_keeps old new (Err fault) refused = RefusesToLoad-keeps old new fault refused

  -- Rows that are shown and not read: one of them is no kept row, or memory ran out.
  pub read_refused : {T : Type 0} (a b : Held S) (rows : List Row) (r : Result T KeepFault) → Selects g a b rows
      → (r ≡ Err Failed → Any IsForeign rows) → IfErr r (FailsToRead g a b)
  read_refused a b rows (Ok x) selected failed = tt
  read_refused a b rows (Err Failed) selected failed = foreign rows selected (failed refl)
  read_refused a b rows (Err OutOfMemory) selected failed = memory rows selected

  -- What a crash in a load may leave.
  pub load_survives : (old last : Held S) (new : State) (rows : List KeptRow)
      → (HasCleanDisk (state g last) → Selects g (begun old) last (map values_of rows))
      → Survives (state g (begun old)) (state g last) (λ _. ⊥)
      → Survives (state g last) new (λ trees. trees ≡ (state g last).now.trees)
      → Survives (state g old) new (MayCommitLoad g old)
  load_survives old last new rows selected one two =
      survives_then (state g old) (state g last) new (λ _. ⊥) (λ trees. trees ≡ (state g last).now.trees)
      (MayCommitLoad g old) (λ _ db none. absurd none)
      (λ clean db is. (last, rows, selected (omega (arith, two.clean)), is))
      (survives_begin g old (state g last) (λ _. ⊥) one) two

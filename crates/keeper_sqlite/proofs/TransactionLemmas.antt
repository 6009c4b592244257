-- Statements in one transaction: one after the other, and what they leave of the last commit.
use Rattle.std.proofs.Common.{◌≡◌, inl, inr, ℕ, zero, suc, ◌<◌, false, IsTrue, List, [], ◌∷◌, length, map, take, get_or, Result, Ok, Err, OnOk, IfErr, OnErr, refl, sym, subst, arith}
use Rattle.sqlite.specs.Held.{Held, state}
use Rattle.sqlite.specs.State.{State, HasCleanDisk, KeepsCommit, KeepsCounts, Shows, Survives}
use Rattle.sqlite.specs.Steps.{FailsToCommit}
use Rattle.sqlite.specs.Store.{Ghosts}
use Rattle.sqlite.specs.declared.error.Error.{Error}
use Rattle.sqlite.proofs.Callers.{survives_begin}
use Rattle.sqlite.proofs.InsideLemmas.{inside_keeps, keeps_then, unchanged_keeps}
use Rattle.sqlite.proofs.StateLemmas.{survives_then}
use Rattle.portal_keeper.specs.declared.change.Change.{Change}
use Rattle.portal_keeper.specs.declared.change.KeepFault.{KeepFault}
use Rattle.keeper_sqlite.specs.Applying.{RefusesToApply}
use Rattle.keeper_sqlite.specs.Statements.{BoundStatement, statement_of, statements_of}
use Rattle.keeper_sqlite.specs.Transactions.{begun, RunsInside, AllRun, StopsAt, CommitsAll, RefusesAll, MayCommitAll}

-- ---- one statement after the others

module _ {S : Type 0} (g : Ghosts S) where
  -- The change at an index runs after those before it.
  pub ran_more : (changes : List Change) (i : ℕ) (change : Change) (count : ℕ) (a b c : Held S) → i < length changes
      → change ≡ get_or changes i change → AllRun g (map statement_of (take i changes)) a b
      → RunsInside g (statement_of change) b c (Ok count) → AllRun g (map statement_of (take (suc i) changes)) a c
  ran_more [] i change count a b c within is ran runs = absurd (omega arith)
  ran_more (first ∷ changes) zero change count a b c within is ran runs = (
    c,
    count,
    subst (λ h. RunsInside g (statement_of first) h c (Ok count)) ran
        (subst (λ x. RunsInside g (statement_of x) b c (Ok count)) is runs),
    refl,
  )
  ran_more (first ∷ changes) (suc i) change count a b c within is ran runs =
      (ran.0, ran.1, ran.2, ran_more changes i change count ran.0 b c (omega arith) is ran.3 runs)

  -- The change at an index is refused after those before it ran.
  pub stops_here : (changes : List Change) (i : ℕ) (change : Change) (error : Error) (a b c : Held S) → i < length changes
      → change ≡ get_or changes i change → AllRun g (map statement_of (take i changes)) a b
      → RunsInside g (statement_of change) b c (Err error) → StopsAt g (map statement_of changes) a c error
  stops_here [] i change error a b c within is ran refused = absurd (omega arith)
  stops_here (first ∷ changes) zero change error a b c within is ran refused =
      inl (subst (λ h. RunsInside g (statement_of first) h c (Err error)) ran
      (subst (λ x. RunsInside g (statement_of x) b c (Err error)) is refused))
  stops_here (first ∷ changes) (suc i) change error a b c within is ran refused =
      inr (ran.0, ran.1, ran.2, stops_here changes i change error ran.0 b c (omega arith) is ran.3 refused)

  -- Statements that run leave the transaction open.
  pub AllRun-inside : (statements : List BoundStatement) (a b : Held S) → AllRun g statements a b
      → IsTrue a.in_transaction → IsTrue b.in_transaction
  AllRun-inside [] a b same inside = subst (λ (h : Held S). IsTrue h.in_transaction) (sym same) inside
  AllRun-inside (statement ∷ statements) a b ran inside =
      AllRun-inside statements ran.0 b ran.3 (ran.2.1.mode)

-- ---- the last commit

keeps_itself : (a : State) → KeepsCommit a a
keeps_itself a = record { was_open = λ h. h; committed = λ h. refl }

-- A connection that is the same leaves it.
pub same_keeps : {S : Type 0} (g : Ghosts S) (old new : Held S) → new ≡ old → KeepsCommit (state g old) (state g new)
same_keeps g old new same =
    subst (λ h. KeepsCommit (state g old) (state g h)) (sym same) (keeps_itself (state g old))

-- A transaction that has begun shows the commit of before.
pub keeps_from_begun : {S : Type 0} (g : Ghosts S) (old : Held S) (new : State) → KeepsCommit (state g (begun old)) new
    → KeepsCommit (state g old) new
keeps_from_begun g old new kept = record { was_open = kept.was_open; committed = kept.committed }

pub fails_to_commit_keeps : (a b : State) (error : Error) → FailsToCommit a b error → KeepsCommit a b
fails_to_commit_keeps a b error (inl failed) = unchanged_keeps a b (inr failed.3)
fails_to_commit_keeps a b error (inr refused) = unchanged_keeps a b (inl refused.2)

module _ {S : Type 0} (g : Ghosts S) where
  pub AllRun-keeps : (statements : List BoundStatement) (a b : Held S) → AllRun g statements a b
      → KeepsCommit (state g a) (state g b)
  AllRun-keeps [] a b same = subst (λ (h : Held S). KeepsCommit (state g a) (state g h)) (sym same) (keeps_itself (state g a))
  AllRun-keeps (statement ∷ statements) a b ran =
      keeps_then (state g a) (state g ran.0) (state g b)
      (inside_keeps (state g a) (state g ran.0) 0 false statement.text statement.params (Ok ran.1) ran.2)
      (AllRun-keeps statements ran.0 b ran.3)

  pub StopsAt-keeps : (statements : List BoundStatement) (a b : Held S) (error : Error) → StopsAt g statements a b error
      → KeepsCommit (state g a) (state g b)
  StopsAt-keeps [] a b error stops = absurd stops
  StopsAt-keeps (statement ∷ statements) a b error (inl refused) =
      inside_keeps (state g a) (state g b) 0 false statement.text statement.params (Err error) refused
  StopsAt-keeps (statement ∷ statements) a b error (inr later) =
      keeps_then (state g a) (state g later.0) (state g b)
      (inside_keeps (state g a) (state g later.0) 0 false statement.text statement.params (Ok later.1) later.2)
      (StopsAt-keeps statements later.0 b error later.3)

  -- Refused changes leave the last commit.
  pub RefusesAll-keeps : (statements : List BoundStatement) (old new : Held S) (error : Error)
      → RefusesAll g statements old new error → KeepsCommit (state g old) (state g new)
  RefusesAll-keeps statements old new error refused =
      let last = refused.0 in
      keeps_from_begun g old (state g new)
      (elim refused.1 [
        | inl stopped ↦ keeps_then (state g (begun old)) (state g last) (state g new)
            (StopsAt-keeps statements (begun old) last error stopped.0)
            (unchanged_keeps (state g last) (state g new) (inr stopped.1))
        | inr failed ↦ keeps_then (state g (begun old)) (state g last) (state g new)
            (AllRun-keeps statements (begun old) last failed.0)
            (fails_to_commit_keeps (state g last) (state g new) error failed.1)
      ])

  -- Changes that aren't made leave the last commit.
  pub RefusesToApply-keeps : (changes : List Change) (old new : Held S) (fault : KeepFault)
      → RefusesToApply g changes old new fault → KeepsCommit (state g old) (state g new)
  RefusesToApply-keeps changes old new fault (inl taken) = same_keeps g old new taken.2
  RefusesToApply-keeps changes old new fault (inr refused) =
      RefusesAll-keeps (statements_of changes) old new refused.0 refused.2

  pub applied_keeps : {T : Type 0} (changes : List Change) (old new : Held S) (r : Result T KeepFault)
      → IfErr r (RefusesToApply g changes old new) → OnErr r (KeepsCommit (state g old) (state g new))
  applied_keeps changes old new (Ok x) refused = tt
  applied_keeps changes old new (Err fault) refused = RefusesToApply-keeps changes old new fault refused

-- ---- the commit

module _ {S : Type 0} (g : Ghosts S) (statements : List BoundStatement) (old last : Held S) where
  pub commits_all : {T : Type 0} (new : Held S) (r : Result T Error) → AllRun g statements (begun old) last
      → OnOk r (IsTrue (state g last).in_transaction
      × Shows (state g last) (state g new) (state g last).now (state g last).now false
      × KeepsCounts (state g last) (state g new) × ((state g new).marks ≡ []))
      → OnOk r (CommitsAll g statements old new)
  commits_all new (Ok x) ran done = record { last = last; ran = ran; committed = (done.1, done.2, done.3) }
  commits_all new (Err error) ran done = tt

  pub fails_to_commit_all : {T : Type 0} (new : Held S) (r : Result T Error) → AllRun g statements (begun old) last
      → IfErr r (FailsToCommit (state g last) (state g new)) → IfErr r (RefusesAll g statements old new)
  fails_to_commit_all new (Ok x) ran failed = tt
  fails_to_commit_all new (Err error) ran failed = (last, inr (ran, failed))

  -- What a crash in the transaction may leave.
  pub all_survive : (new : State) → (HasCleanDisk (state g last) → AllRun g statements (begun old) last)
      → Survives (state g (begun old)) (state g last) (λ _. ⊥)
      → Survives (state g last) new (λ trees. trees ≡ (state g last).now.trees)
      → Survives (state g old) new (MayCommitAll g statements old)
  all_survive new ran one two =
      survives_then (state g old) (state g last) new (λ _. ⊥) (λ trees. trees ≡ (state g last).now.trees)
      (MayCommitAll g statements old) (λ _ db none. absurd none)
      (λ clean db is. (last, ran (omega (arith, two.clean)), is))
      (survives_begin g old (state g last) (λ _. ⊥) one) two

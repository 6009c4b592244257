use Rattle.std.proofs.Common.{◌≡◌, inl, subst, rules, arith}
use Rattle.std.proofs.lemmas.Result.{err_from_is_err_and}
use Rattle.sqlite.specs.Held.{state}
use Rattle.sqlite.specs.State.{HasCleanDisk, Survives}
use Rattle.keeper_sqlite.proofs.TransactionLemmas.{commits_all, fails_to_commit_all, all_survive}
use Rattle.keeper_sqlite.proofs.transactions.commit_changes.Goals as goal
use Rattle.keeper_sqlite.specs.Statements.{statements_of}
use Rattle.keeper_sqlite.specs.Transactions.{MayCommitAll}

pub returns-in_err-run_changes-clause-refused : goal.returns-in_err-run_changes-clause-refused
returns-in_err-run_changes-clause-refused g c clean =
    let p = err_from_is_err_and c.from_residual.result c.from_residual.ensures.1 in
    let begun = c.transaction-tx.ensures.begun in
    let last = c.run_changes.new.tx.conn.now in
    let end = c.drop-tx.new.self.0 in
    let same : end ≡ c.connection-1.given.0 = search rules in
    let late : HasCleanDisk (state g.S.Store end) = rw same clean in
    let early : HasCleanDisk (state g.S.Store last) = omega (arith, c.drop-tx.ensures.survives.clean) in
    let stops = c.in_err-run_changes.ensures.refused early (rw begun) in
    rw (p.1, p.2, ← same) (last, inl (rw begun at stops, c.drop-tx.ensures.undone late))

pub returns-clause-committed : goal.returns-clause-committed
returns-clause-committed g c clean =
    let begun = c.transaction-tx.ensures.begun in
    let last = c.run_changes.new.tx.conn.now in
    let end = c.commit.new.self.0 in
    let same : end ≡ c.connection-2-1.given.0 = search rules in
    let late : HasCleanDisk (state g.S.Store end) = rw same clean in
    let early : HasCleanDisk (state g.S.Store last) = omega (arith, c.commit.ensures.survives.clean) in
    let ran = c.in_ok-run_changes.ensures.ran early (rw begun) in
    rw (← same)
    (commits_all g.S.Store (statements_of c.args.changes.now) c.args.connection.now last end c.commit.result
    (rw begun at ran) (c.commit.ensures.ok late))

pub returns-clause-refused : goal.returns-clause-refused
returns-clause-refused g c clean =
    let begun = c.transaction-tx.ensures.begun in
    let last = c.run_changes.new.tx.conn.now in
    let end = c.commit.new.self.0 in
    let same : end ≡ c.connection-2-1.given.0 = search rules in
    let late : HasCleanDisk (state g.S.Store end) = rw same clean in
    let early : HasCleanDisk (state g.S.Store last) = omega (arith, c.commit.ensures.survives.clean) in
    let ran = c.in_ok-run_changes.ensures.ran early (rw begun) in
    rw (← same)
    (fails_to_commit_all g.S.Store (statements_of c.args.changes.now) c.args.connection.now last end c.commit.result
    (rw begun at ran) (c.commit.ensures.err late))

pub returns-clause-survives : goal.returns-clause-survives
returns-clause-survives g c =
    let old = c.args.connection.now in
    let statements = statements_of c.args.changes.now in
    let begun = c.transaction-tx.ensures.begun in
    let last = c.run_changes.new.tx.conn.now in
    let end = c.commit.new.self.0 in
    let same : end ≡ c.connection-2-1.given.0 = search rules in
    subst (λ h. Survives (state g.S.Store old) (state g.S.Store h) (MayCommitAll g.S.Store statements old)) same
    (all_survive g.S.Store statements old last (state g.S.Store end)
    (λ early. rw begun at (c.in_ok-run_changes.ensures.ran early (rw begun)))
    (rw begun at c.run_changes.ensures.survives) c.commit.ensures.survives)

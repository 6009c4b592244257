use Rattle.std.proofs.Common.{◌≡◌, inl, inr, subst, rules, arith}
use Rattle.std.proofs.lemmas.Result.{err_from_is_err_and}
use Rattle.sqlite.specs.Held.{state}
use Rattle.sqlite.specs.State.{HasCleanDisk, Survives}
use Rattle.keeper_sqlite.specs.Loading.{MayCommitLoad}
use Rattle.keeper_sqlite.proofs.LoadingLemmas.{load_survives}
use Rattle.keeper_sqlite.proofs.transactions.commit_load.Goals as goal

pub returns-in_err-rows-clause-refused : goal.returns-in_err-rows-clause-refused
returns-in_err-rows-clause-refused g c clean =
    let p = err_from_is_err_and c.from_residual.result c.from_residual.ensures.1 in
    let begun = c.transaction-tx.ensures.begun in
    let last = c.run_load.new.tx.conn.now in
    let end = c.drop-tx.new.self.0 in
    let same : end ≡ c.connection-1.given.0 = search rules in
    let late : HasCleanDisk (state g.S.Store end) = rw same clean in
    let early : HasCleanDisk (state g.S.Store last) = omega (arith, c.drop-tx.ensures.survives.clean) in
    let failed = c.in_err-rows.ensures.refused early (rw begun) in
    rw (p.1, p.2, ← same) (last, inl (rw begun at failed, c.drop-tx.ensures.undone late))

pub returns-in-Ok-clause-rows : goal.returns-in-Ok-clause-rows
returns-in-Ok-clause-rows g c clean =
    let begun = c.transaction-tx.ensures.begun in
    let last = c.run_load.new.tx.conn.now in
    let end = c.commit.new.self.0 in
    let same : end ≡ c.connection-2-1.given.0 = search rules in
    let late : HasCleanDisk (state g.S.Store end) = rw same clean in
    let early : HasCleanDisk (state g.S.Store last) = omega (arith, c.commit.ensures.survives.clean) in
    let selected = c.in_ok-rows.ensures.rows early (rw begun) in
    let done = c.in-Ok.ensures.ok late in
    rw (← same, c.from.ensures) (record {
      last = last;
      selected = rw begun at selected;
      committed = (done.1, done.2, done.3);
    })

pub returns-in-Ok-clause-survives : goal.returns-in-Ok-clause-survives
returns-in-Ok-clause-survives g c =
    let old = c.args.connection.now in
    let begun = c.transaction-tx.ensures.begun in
    let last = c.run_load.new.tx.conn.now in
    let end = c.commit.new.self.0 in
    let same : end ≡ c.connection-2-1.given.0 = search rules in
    subst (λ h. Survives (state g.S.Store old) (state g.S.Store h) (MayCommitLoad g.S.Store old)) same
    (load_survives g.S.Store old last (state g.S.Store end) c.in_ok-rows.rows.items
    (λ early. rw begun at (c.in_ok-rows.ensures.rows early (rw begun)))
    (rw begun at c.run_load.ensures.survives) c.commit.ensures.survives)

pub returns-in-Err-clause-refused : goal.returns-in-Err-clause-refused
returns-in-Err-clause-refused g c clean =
    let begun = c.transaction-tx.ensures.begun in
    let last = c.run_load.new.tx.conn.now in
    let end = c.commit.new.self.0 in
    let same : end ≡ c.connection-2-1.given.0 = search rules in
    let late : HasCleanDisk (state g.S.Store end) = rw same clean in
    let early : HasCleanDisk (state g.S.Store last) = omega (arith, c.commit.ensures.survives.clean) in
    let selected = c.in_ok-rows.ensures.rows early (rw begun) in
    rw (← same)
    (last, inr (c.in_ok-rows.rows.items, c.in-Err.error, rw begun at selected, c.fault_of.ensures, c.in-Err.ensures.err late))

pub returns-in-Err-clause-survives : goal.returns-in-Err-clause-survives
returns-in-Err-clause-survives g c =
    let old = c.args.connection.now in
    let begun = c.transaction-tx.ensures.begun in
    let last = c.run_load.new.tx.conn.now in
    let end = c.commit.new.self.0 in
    let same : end ≡ c.connection-2-1.given.0 = search rules in
    subst (λ h. Survives (state g.S.Store old) (state g.S.Store h) (MayCommitLoad g.S.Store old)) same
    (load_survives g.S.Store old last (state g.S.Store end) c.in_ok-rows.rows.items
    (λ early. rw begun at (c.in_ok-rows.ensures.rows early (rw begun)))
    (rw begun at c.run_load.ensures.survives) c.commit.ensures.survives)

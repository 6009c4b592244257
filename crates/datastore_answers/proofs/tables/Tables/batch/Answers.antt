use Rattle.datastore_table.specs.Batch.{worked_on}
use Rattle.datastore_table.proofs.WorkLemmas.{err_of}
use Rattle.datastore_answers.specs.Linked.{alone, links_checked, put_at}
use Rattle.datastore_answers.specs.Tables.{tables_in, tables_of}
use Rattle.datastore_answers.specs.declared.address.Address.{Address}
use Rattle.datastore_answers.proofs.BatchLemmas.{links-held, links-refused, refused-among, some-found, result-there}
use Rattle.datastore_answers.proofs.tables.Tables.batch.Goals as goal

pub prepared_at-requires-clause-exists : goal.prepared_at-requires-clause-exists
prepared_at-requires-clause-exists c =
    let address : Address = record { dataset = c.args.dataset.now; number = c.args.number } in
    some-found address c.args.self.now.tables c.requires.exists

pub returns-in_err-batch-clause-fault : goal.returns-in_err-batch-clause-fault
returns-in_err-batch-clause-fault c =
    let address : Address = record { dataset = c.args.dataset.now; number = c.args.number } in
    err_of c.from_residual.result c.in_err-batch.field-0.0
    (put_at (tables_in c.args.dataset.now (tables_of c.args.self.now)) c.args.number c.args.method c.args.records.now)
    c.from_residual.ensures.1
    (refused-among address c.args.self.now.tables c.args.method c.args.records.now c.in_err-batch.field-0.0
    c.in_err-batch.ensures.fault)

pub returns-in_err-check_links-in-Some-clause-fault : goal.returns-in_err-check_links-in-Some-clause-fault
returns-in_err-check_links-in-Some-clause-fault c =
    let address : Address = record { dataset = c.args.dataset.now; number = c.args.number } in
    let after = c.prepared_at.new.self in
    let u = c.in-Some.table.now in
    let batch = c.in_ok-batch.batch in
    let reading = put_at (tables_in c.args.dataset.now (tables_of c.args.self.now)) c.args.number c.args.method
    c.args.records.now in
    let same_result = result-there c.args.self.now after address c.args.method c.args.records.now batch u
    c.prepared_at.ensures.same c.prepared_at.ensures.linked c.in_ok-batch.ensures.batch c.in-Some.ensures.found
    c.in-Some.ensures.table in
    err_of c.from_residual-in_err-check_links-in-Some.result c.in_err-check_links-in-Some.field-0.0 reading
    c.from_residual-in_err-check_links-in-Some.ensures.1
    (links-refused reading
    (links_checked (tables_in u.address.dataset (tables_of after)) u (alone batch.work))
    (worked_on u.table.rows batch.work) c.in_err-check_links-in-Some.field-0.0 same_result
    c.in_err-check_links-in-Some.ensures.err)

pub returns-clause-taken : goal.returns-clause-taken
returns-clause-taken c =
    let address : Address = record { dataset = c.args.dataset.now; number = c.args.number } in
    let after = c.prepared_at.new.self in
    let u = c.in-Some.table.now in
    let batch = c.in_ok-batch.batch in
    links-held
    (put_at (tables_in c.args.dataset.now (tables_of c.args.self.now)) c.args.number c.args.method c.args.records.now)
    (links_checked (tables_in u.address.dataset (tables_of after)) u (alone batch.work))
    (worked_on u.table.rows batch.work)
    (result-there c.args.self.now after address c.args.method c.args.records.now batch u c.prepared_at.ensures.same
    c.prepared_at.ensures.linked c.in_ok-batch.ensures.batch c.in-Some.ensures.found c.in-Some.ensures.table)
    c.in_ok-check_links-in-Some.ensures.ok

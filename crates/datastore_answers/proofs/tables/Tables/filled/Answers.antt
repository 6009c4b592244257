use Rattle.datastore_table.specs.Batch.{worked_on}
use Rattle.datastore_table.specs.declared.method.Method.TheVariants.{Insert}
use Rattle.datastore_table.proofs.WorkLemmas.{err_of}
use Rattle.datastore_answers.specs.Linked.{alone, links_checked, put_among}
use Rattle.datastore_answers.specs.Tables.{without_room, tables_in, tables_of}
use Rattle.datastore_answers.proofs.BatchLemmas.{links-held, links-refused}
use Rattle.datastore_answers.proofs.FilledLemmas.{filled-refused, filled-result}
use Rattle.datastore_answers.proofs.tables.Tables.filled.Goals as goal

pub returns-in_err-batch-clause-fault : goal.returns-in_err-batch-clause-fault
returns-in_err-batch-clause-fault c =
    let old = c.args.table in
    let beside = tables_in old.address.dataset (tables_of c.args.self.now) in
    err_of c.from_residual.result c.in_err-batch.field-0.0
    (put_among beside Insert c.args.records.now (without_room old))
    c.from_residual.ensures.1
    (filled-refused beside old c.prepared.new.table Insert c.args.records.now c.in_err-batch.field-0.0
    c.prepared.ensures.same c.in_err-batch.ensures.fault)

pub returns-in_err-check_links-clause-fault : goal.returns-in_err-check_links-clause-fault
returns-in_err-check_links-clause-fault c =
    let old = c.args.table in
    let new = c.prepared.new.table in
    let ts = tables_of c.args.self.now in
    let work = c.in_ok-batch.batch.work in
    let reading = put_among (tables_in old.address.dataset ts) Insert c.args.records.now (without_room old) in
    err_of c.from_residual-in_err-check_links.result c.in_err-check_links.field-0.0 reading
    c.from_residual-in_err-check_links.ensures.1
    (links-refused reading (links_checked (tables_in new.address.dataset ts) new (alone work))
    (worked_on new.table.rows work) c.in_err-check_links.field-0.0
    (filled-result ts old new Insert c.args.records.now work c.prepared.ensures.same c.requires.empty
    c.in_ok-batch.ensures.changed c.in_ok-batch.ensures.rows c.in_ok-batch.ensures.made)
    c.in_err-check_links.ensures.err)

pub returns-clause-taken : goal.returns-clause-taken
returns-clause-taken c =
    let old = c.args.table in
    let new = c.prepared.new.table in
    let ts = tables_of c.args.self.now in
    let work = c.in_ok-batch.batch.work in
    links-held (put_among (tables_in old.address.dataset ts) Insert c.args.records.now (without_room old))
    (links_checked (tables_in new.address.dataset ts) new (alone work)) (worked_on new.table.rows work)
    (filled-result ts old new Insert c.args.records.now work c.prepared.ensures.same c.requires.empty
    c.in_ok-batch.ensures.changed c.in_ok-batch.ensures.rows c.in_ok-batch.ensures.made)
    c.in_ok-check_links.ensures.ok

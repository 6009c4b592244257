use Rattle.std.proofs.Common.{◌≡◌, ◌∙◌, ap, sym, Some, refl, Ok, subst}
use Rattle.std.specs.Prelude.{slice_get}
use Rattle.std.proofs.lemmas.Option.{slice_get-get_or}
use Rattle.datastore_table.specs.Batch.{IsReady, worked_on}
use Rattle.datastore_table.specs.Put.{put_records}
use Rattle.datastore_answers.specs.Changed.{put_into}
use Rattle.datastore_answers.specs.declared.resource_table.ResourceTable.{ResourceTable}
use Rattle.datastore_answers.proofs.TableLemmas.{IsAscending-set, without_room-put, read-there, there-at}
use Rattle.datastore_answers.proofs.TableLemmas.{with_table_at-set}
use Rattle.datastore_answers.proofs.tables.put.Goals as goal

pub commit-requires : goal.commit-requires
commit-requires c =
    let ts = c.args.tables.now.items in
    let there = rw c.as_slice.ensures.value at c.in-Some.ensures.index in
    let within = rw c.as_slice.ensures.value at c.in-Some.ensures.within in
    let same : c.index_mut-table.result.now ≡ c.requires.ready.table =
    read-there c.args.address.now ts c.in-Some.index c.requires.ready.table c.index_mut-table.result.now
    c.requires.ready.exists there within c.index_mut-table.ensures.value in
    subst (λ (t : ResourceTable). IsReady c.args.batch t.table) (sym same) c.requires.ready.ready

pub returns-clause-ascending : goal.returns-clause-ascending
returns-clause-ascending c =
    let ts = c.args.tables.now.items in
    let t = c.index_mut-table.result.now in
    let within = rw c.as_slice.ensures.value at c.in-Some.ensures.within in
    let got : slice_get ts c.in-Some.index ≡ Some t =
    slice_get-get_or ts c.in-Some.index t within ∙ ap Some (sym c.index_mut-table.ensures.value) in
    IsAscending-set t (record t { table = c.commit.new.self }) ts c.in-Some.index c.requires.ascending got refl

pub returns-clause-tables : goal.returns-clause-tables
returns-clause-tables c =
    let ts = c.args.tables.now.items in
    let t = c.index_mut-table.result.now in
    let there = rw c.as_slice.ensures.value at c.in-Some.ensures.index in
    let within = rw c.as_slice.ensures.value at c.in-Some.ensures.within in
    let same : t ≡ c.requires.ready.table =
    read-there c.args.address.now ts c.in-Some.index c.requires.ready.table t c.requires.ready.exists there within
    c.index_mut-table.ensures.value in
    let got : slice_get ts c.in-Some.index ≡ Some t =
    slice_get-get_or ts c.in-Some.index t within ∙ ap Some (sym c.index_mut-table.ensures.value) in
    let made : put_records c.args._method c.args._records.now.value t.table ≡ Ok (worked_on t.table.rows c.args.batch.work) =
    subst (λ (u : ResourceTable). put_records c.args._method c.args._records.now.value u.table
    ≡ Ok (worked_on u.table.rows c.args.batch.work)) (sym same) c.requires.ready.made in
    with_table_at-set c.args.address.now (put_into c.args._method c.args._records.now.value) t
    (record t { table = c.commit.new.self }) ts c.in-Some.index c.requires.ascending got
    (there-at c.args.address.now ts t (c.requires.ready.exists ∙ ap Some (sym same)))
    (without_room-put t c.args._method c.args._records.now.value c.args.batch.work c.commit.new.self c.commit.ensures.rows
    c.commit.ensures.next_id c.commit.ensures.schema made)

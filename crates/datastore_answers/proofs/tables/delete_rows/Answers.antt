use Rattle.std.proofs.Common.{◌≡◌, ◌∙◌, ap, sym, Some, refl, Ok, subst}
use Rattle.std.specs.Prelude.{slice_get}
use Rattle.std.proofs.lemmas.Option.{slice_get-get_or}
use Rattle.datastore_table.specs.Batch.{delete_checked}
use Rattle.datastore_answers.specs.Changed.{without_rows}
use Rattle.datastore_answers.specs.declared.resource_table.ResourceTable.{ResourceTable}
use Rattle.datastore_answers.proofs.TableLemmas.{IsAscending-set, without_room-delete_rows, read-there, there-at}
use Rattle.datastore_answers.proofs.TableLemmas.{with_table_at-set}
use Rattle.datastore_answers.proofs.tables.delete_rows.Goals as goal

pub commit_delete-requires : goal.commit_delete-requires
commit_delete-requires c =
    let ts = c.args.tables.now.items in
    let there = rw c.as_slice.ensures.value at c.in-Some.ensures.index in
    let within = rw c.as_slice.ensures.value at c.in-Some.ensures.within in
    let same : c.index_mut-table.result.now ≡ c.requires.ready.table =
    read-there c.args.address.now ts c.in-Some.index c.requires.ready.table c.index_mut-table.result.now
    c.requires.ready.exists there within c.index_mut-table.ensures.value in
    subst (λ (t : ResourceTable). delete_checked c.args.removal.ids t.table ≡ Ok tt)
    (sym same) c.requires.ready.keeps_references

pub returns-clause-ascending : goal.returns-clause-ascending
returns-clause-ascending c =
    let ts = c.args.tables.now.items in
    let t = c.index_mut-table.result.now in
    let within = rw c.as_slice.ensures.value at c.in-Some.ensures.within in
    let got : slice_get ts c.in-Some.index ≡ Some t =
    slice_get-get_or ts c.in-Some.index t within ∙ ap Some (sym c.index_mut-table.ensures.value) in
    IsAscending-set t (record t { table = c.commit_delete.new.self }) ts c.in-Some.index c.requires.ascending got refl

pub returns-clause-tables : goal.returns-clause-tables
returns-clause-tables c =
    let ts = c.args.tables.now.items in
    let t = c.index_mut-table.result.now in
    let there = rw c.as_slice.ensures.value at c.in-Some.ensures.index in
    let within = rw c.as_slice.ensures.value at c.in-Some.ensures.within in
    let same : t ≡ c.requires.ready.table =
    read-there c.args.address.now ts c.in-Some.index c.requires.ready.table t c.requires.ready.exists there within
    c.index_mut-table.ensures.value in
    let got : slice_get ts c.in-Some.index ≡ Some t =
    slice_get-get_or ts c.in-Some.index t within ∙ ap Some (sym c.index_mut-table.ensures.value) in
    with_table_at-set c.args.address.now (without_rows c.args.removal.ids) t
    (record t { table = c.commit_delete.new.self }) ts c.in-Some.index c.requires.ascending got
    (there-at c.args.address.now ts t (c.requires.ready.exists ∙ ap Some (sym same)))
    (without_room-delete_rows t c.args.removal.ids c.commit_delete.new.self c.commit_delete.ensures.rows
    c.commit_delete.ensures.next_id c.commit_delete.ensures.schema)

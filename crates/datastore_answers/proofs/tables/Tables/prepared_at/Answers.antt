use Rattle.std.proofs.Common.{◌≡◌, ◌∙◌, ap, sym, Some, Err, subst, Result, ◌⊎◌}
use Rattle.std.specs.Prelude.{IfErr, slice_get}
use Rattle.std.proofs.lemmas.Option.{slice_get-get_or}
use Rattle.portal_base.specs.Ordered.{found}
use Rattle.datastore_table.specs.Put.{Worked, put_records}
use Rattle.datastore_table.specs.declared.fault.TableFault.{TableFault}
use Rattle.datastore_table.specs.declared.fault.TableFault.TheVariants.{OutOfMemory}
use Rattle.datastore_answers.specs.Linked.{AreLinked, put_own}
use Rattle.datastore_answers.specs.Order.{at_address, is_at}
use Rattle.datastore_answers.specs.Tables.{Stored, tables_of}
use Rattle.datastore_answers.specs.declared.address.Address.{Address}
use Rattle.datastore_answers.specs.declared.resource_table.ResourceTable.{ResourceTable}
use Rattle.datastore_answers.proofs.BatchLemmas.{batch-at}
use Rattle.datastore_answers.proofs.TableLemmas.{IsAscending-set, without_room-set, found-set, there-at}
use Rattle.datastore_answers.proofs.tables.Tables.prepared_at.Goals as goal

pub invariant_of-self : goal.invariant_of-self
invariant_of-self c =
    let ts = c.self.inside.tables.items in
    let t = c.index_mut.result.now in
    let within = rw c.as_slice.ensures.value at c.in-Some.ensures.within in
    let got : slice_get ts c.in-Some.index ≡ Some t =
    slice_get-get_or ts c.in-Some.index t within ∙ ap Some (sym c.index_mut.ensures.value) in (
      IsAscending-set t c.prepared.new.table ts c.in-Some.index c.self.invariant.0 got
          (ap (λ (u : ResourceTable). u.address) c.prepared.ensures.same),
      subst AreLinked (sym (without_room-set t c.prepared.new.table ts c.in-Some.index got c.prepared.ensures.same))
          c.self.invariant.1,
    )

pub returns-clause-same : goal.returns-clause-same
returns-clause-same c =
    let ts = c.self.inside.tables.items in
    let t = c.index_mut.result.now in
    let within = rw c.as_slice.ensures.value at c.in-Some.ensures.within in
    let got : slice_get ts c.in-Some.index ≡ Some t =
    slice_get-get_or ts c.in-Some.index t within ∙ ap Some (sym c.index_mut.ensures.value) in
    without_room-set t c.prepared.new.table ts c.in-Some.index got c.prepared.ensures.same
    ∙ ap tables_of c.self.view_is

pub returns-clause-batch : goal.returns-clause-batch
returns-clause-batch c =
    let ts = c.self.inside.tables.items in
    let t = c.index_mut.result.now in
    let u = c.prepared.new.table in
    let address : Address = record { dataset = c.args.dataset.now; number = c.args.number } in
    let within = rw c.as_slice.ensures.value at c.in-Some.ensures.within in
    let there = rw c.as_slice.ensures.value at c.in-Some.ensures.index in
    let got : slice_get ts c.in-Some.index ≡ Some t =
    slice_get-get_or ts c.in-Some.index t within ∙ ap Some (sym c.index_mut.ensures.value) in
    let here : is_at address t ≡ _ = there-at address ts t (there ∙ got) in
    let exists = found-set address t u ts c.in-Some.index c.self.invariant.0 got here
    (ap (λ (w : ResourceTable). is_at address w) c.prepared.ensures.same ∙ here) in
    batch-at c.prepared.result address c.args.method c.args.records.now u _ exists c.prepared.ensures.schema
    c.prepared.ensures.changed c.prepared.ensures.rows c.prepared.ensures.made c.prepared.ensures.ready

pub returns-clause-fault : goal.returns-clause-fault
returns-clause-fault c =
    let ts = c.self.inside.tables.items in
    let t = c.index_mut.result.now in
    let u = c.prepared.new.table in
    let address : Address = record { dataset = c.args.dataset.now; number = c.args.number } in
    let within = rw c.as_slice.ensures.value at c.in-Some.ensures.within in
    let there = rw c.as_slice.ensures.value at c.in-Some.ensures.index in
    let got : slice_get ts c.in-Some.index ≡ Some t =
    slice_get-get_or ts c.in-Some.index t within ∙ ap Some (sym c.index_mut.ensures.value) in
    let own : put_records c.args.method c.args.records.now u.table
    ≡ put_own c.args.method c.args.records.now (found (at_address address) c.args.self.now.tables) =
    ap (λ (w : ResourceTable). put_records c.args.method c.args.records.now w.table) c.prepared.ensures.same
    ∙ ap (put_own c.args.method c.args.records.now) (sym (there ∙ got))
    ∙ ap (λ (s : Stored). put_own c.args.method c.args.records.now (found (at_address address) s.tables))
    c.self.view_is in
    subst (λ (r : Result Worked TableFault). IfErr c.prepared.result (λ why. (why ≡ OutOfMemory) ⊎ (r ≡ Err why)))
    own c.prepared.ensures.fault

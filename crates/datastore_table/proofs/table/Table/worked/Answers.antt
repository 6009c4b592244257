use Rattle.std.proofs.Common.{◌≡◌, ◌∙◌, List, Ok, ap, inr, sym}
use Rattle.std.specs.Arc.{arc_value}
use Rattle.datastore_table.specs.declared.row.Row.{Row}
use Rattle.datastore_table.specs.Batch.{Written, worked_on}
use Rattle.datastore_table.specs.Draft.{drafted}
use Rattle.datastore_table.specs.Put.{put_records}
use Rattle.datastore_table.specs.References.{self_references_checked}
use Rattle.datastore_table.specs.Results.{◌>>>◌}
use Rattle.datastore_table.specs.Rows.{rows_after}
use Rattle.datastore_table.specs.Table.{TableValue}
use Rattle.datastore_table.proofs.StoreLemmas.{searchable}
use Rattle.datastore_table.proofs.WorkLemmas.{err_of, worked_is}
use Rattle.datastore_table.proofs.table.Table.worked.Goals as goal

pub put_all-requires : goal.put_all-requires
put_all-requires c =
    rw (c.deref-2.ensures, c.as_slice-rows.ensures.value)
    (searchable (arc_value c.self.inside.schema) c.self.inside.store c.self.inside.next_id c.self.invariant)

pub returns-in_err-check_self_references-clause-fault : goal.returns-in_err-check_self_references-clause-fault
returns-in_err-check_self_references-clause-fault c =
    let table = c.args.self.now in
    let work : Written = drafted c.in_ok-draft.draft in
    let schema : arc_value c.self.inside.schema ≡ table.schema = ap (λ (t : TableValue). t.schema) c.self.view_is in
    let rows : c.self.inside.store.rows.items ≡ table.rows = ap (λ (t : TableValue). t.rows) c.self.view_is in
    let whole = worked_is c.args.method c.args.records.now table c.deref.result.now c.deref-2.result.now
    c.deref-3.result.now c.as_slice-rows.result.now c.of_written.result c.self.inside.next_id c.as_slice.result.now
    work c.check_self_references.result (c.deref.ensures ∙ schema) (c.deref-2.ensures ∙ schema)
    (c.deref-3.ensures ∙ schema) (c.as_slice-rows.ensures.value ∙ rows)
    (ap (λ (t : TableValue). t.next_id) c.self.view_is) c.of_written.ensures c.as_slice.ensures.value
    c.in_ok-admit.ensures c.in_ok-draft.ensures.ok
    (c.check_self_references.ensures
    ∙ ap (λ (rs : List Row). self_references_checked c.deref-3.result.now (rows_after c.of_written.result rs)
    c.as_slice.result.now) c.of_slice.ensures) in
    err_of c.from_residual-in_err-check_self_references.result c.in_err-check_self_references.field-0.0
    (put_records c.args.method c.args.records.now table) c.from_residual-in_err-check_self_references.ensures.1
    (inr (whole ∙ ap (λ r. r >>> λ _. Ok (worked_on table.rows work)) c.in_err-check_self_references.was))

pub returns-clause-work : goal.returns-clause-work
returns-clause-work c =
    let table = c.args.self.now in
    let work : Written = drafted c.in_ok-draft.draft in
    let schema : arc_value c.self.inside.schema ≡ table.schema = ap (λ (t : TableValue). t.schema) c.self.view_is in
    let rows : c.self.inside.store.rows.items ≡ table.rows = ap (λ (t : TableValue). t.rows) c.self.view_is in
    worked_is c.args.method c.args.records.now table c.deref.result.now c.deref-2.result.now
    c.deref-3.result.now c.as_slice-rows.result.now c.of_written.result c.self.inside.next_id c.as_slice.result.now
    work c.check_self_references.result (c.deref.ensures ∙ schema) (c.deref-2.ensures ∙ schema)
    (c.deref-3.ensures ∙ schema) (c.as_slice-rows.ensures.value ∙ rows)
    (ap (λ (t : TableValue). t.next_id) c.self.view_is) c.of_written.ensures c.as_slice.ensures.value
    c.in_ok-admit.ensures c.in_ok-draft.ensures.ok
    (c.check_self_references.ensures
    ∙ ap (λ (rs : List Row). self_references_checked c.deref-3.result.now (rows_after c.of_written.result rs)
    c.as_slice.result.now) c.of_slice.ensures)
    ∙ ap (λ r. r >>> λ _. Ok (worked_on table.rows work)) c.in_ok-check_self_references.was
    ∙ ap (λ (w : Written). Ok (worked_on table.rows w)) (sym c.in_ok-of_draft.ensures)

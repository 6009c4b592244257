use Rattle.std.proofs.Common.{◌≡◌, ◌∙◌, ◌&&◌, List, ap, subst, sym, true}
use Rattle.std.specs.List.{list_all}
use Rattle.portal_base.specs.Ordered.{IsAscending}
use Rattle.datastore_table.specs.declared.row.Row.{Row}
use Rattle.datastore_table.specs.Meets.{keeps_self_reference, is_numbered, keys_apart, row_meets, uniques_apart}
use Rattle.datastore_table.specs.Rows.{row_cmp}
use Rattle.datastore_table.proofs.MeetLemmas.{numbered_from}
use Rattle.datastore_table.proofs.StoreLemmas.{restored_store}
use Rattle.datastore_table.proofs.table.restored.Goals as goal

pub are_related-requires-clause-ascending : goal.are_related-requires-clause-ascending
are_related-requires-clause-ascending c =
    let rows = c.args.rows.items in
    let numbered : is_numbered rows c.args.next_id ≡ true =
    ap (λ (r : List Row). is_numbered r c.args.next_id) (sym c.as_slice.ensures.value)
    ∙ sym c.is_numbered.ensures ∙ c.if-not-is_numbered.false in
    subst (λ (r : List Row). IsAscending row_cmp r) (sym (c.as_slice-2.ensures.value ∙ c.in_ok-store.ensures.rows))
    (numbered_from rows c.args.next_id numbered).ascending

pub returns-clause-store : goal.returns-clause-store
returns-clause-store c =
    let rows = c.args.rows.items in
    let schema = c.args.schema.now in
    let same : c.as_slice-2.result.now ≡ rows = c.as_slice-2.ensures.value ∙ c.in_ok-store.ensures.rows in
    let numbered : is_numbered rows c.args.next_id ≡ true =
    ap (λ (r : List Row). is_numbered r c.args.next_id) (sym c.as_slice.ensures.value)
    ∙ sym c.is_numbered.ensures ∙ c.if-not-is_numbered.false in
    let met : list_all (row_meets schema) rows ≡ true =
    ap (list_all (row_meets schema)) (sym c.as_slice-else-not-is_numbered.ensures.value)
    ∙ sym c.do_all_meet.ensures ∙ c.if-not-do_all_meet.false in
    let related : (keys_apart schema.key rows && (uniques_apart 0 schema.fields rows
    && list_all (keeps_self_reference schema.key rows) schema.foreign)) ≡ true =
    ap (λ (r : List Row). keys_apart schema.key r && (uniques_apart 0 schema.fields r
    && list_all (keeps_self_reference schema.key r) schema.foreign)) (sym same)
    ∙ sym c.are_related.ensures ∙ c.if-not-are_related.false in
    restored_store schema rows c.in_ok-store.store c.args.next_id numbered met related c.in_ok-store.ensures.rows
    c.in_ok-store.ensures.sound c.in_ok-store.ensures.column_lists

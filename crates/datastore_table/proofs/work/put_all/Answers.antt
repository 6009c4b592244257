use Rattle.std.proofs.Common.{◌≡◌, ◌∙◌, ◌+◌, ◌<◌, List, ap, arith, length, refl, subst, sym}
use Rattle.datastore_table.specs.declared.row.Row.{Row}
use Rattle.datastore_table.specs.Batch.{worked_on}
use Rattle.datastore_table.specs.Draft.{drafted}
use Rattle.datastore_table.specs.Put.{begun, put_from}
use Rattle.datastore_table.specs.Rows.{rows_after}
use Rattle.datastore_table.proofs.DraftLemmas.{AreDistinct, distinct_after, draft_searchable}
use Rattle.datastore_table.proofs.WorkLemmas.{err_of, put_from-next, put_from-fault, through}
use Rattle.datastore_table.proofs.work.put_all.Goals as goal

pub loop-record_index-init : goal.loop-record_index-init
loop-record_index-init c =
    let rows = c.args.rows.now in
    let draft = c.in_ok-draft.draft in
    let none : rows_after draft.rows rows ≡ rows =
    ap (λ (ws : List Row). rows_after ws rows) c.in_ok-draft.ensures.changed in
    record {
      put = rw (c.in_ok-draft.ensures.changed, c.in_ok-draft.ensures.next_id, c.in_ok-draft.ensures.written) refl;
      draft = c.in_ok-draft.ensures.draft;
      column_lists = c.in_ok-draft.ensures.column_lists;
      distinct = subst (λ (rs : List Row). AreDistinct c.args.schema.now rs) (sym none)
          (record { keys = c.requires.keyed.apart; uniques = c.requires.uniques });
    }

pub put_record-requires-clause-found : goal.put_record-requires-clause-found
put_record-requires-clause-found c =
    draft_searchable c.args.schema.now c.loop-record_index.draft c.args.rows.now c.loop-record_index.invariant.draft
    c.loop-record_index.invariant.column_lists c.loop-record_index.invariant.distinct

pub returns-in_err-put_record-clause-err : goal.returns-in_err-put_record-clause-err
returns-in_err-put_record-clause-err c =
    let records = c.args.records.now in
    let record_index = c.loop-record_index.record_index in
    let lt : record_index < length records = omega arith in
    err_of c.from_residual-in_err-put_record.result c.in_err-put_record.field-0.0
    (put_from c.args.method c.args.schema.now 1 records (begun c.args.rows.now c.args.next_id))
    c.from_residual-in_err-put_record.ensures.1
    (through _ _ c.in_err-put_record.field-0.0 c.loop-record_index.invariant.put
    (put_from-fault c.args.method c.args.schema.now record_index records c.index-records-record_index.result
    (worked_on c.args.rows.now (drafted c.loop-record_index.draft)) c.in_err-put_record.field-0.0 lt
    c.index-records-record_index.is
    c.in_err-put_record.ensures.err))

pub loop-record_index-preserved : goal.loop-record_index-preserved
loop-record_index-preserved c =
    let records = c.args.records.now in
    let record_index = c.loop-record_index.record_index in
    let rows = c.args.rows.now in
    let old = c.loop-record_index.draft in
    let new = c.put_record.new.draft in
    let lt : record_index < length records = omega arith in
    record {
      put = c.loop-record_index.invariant.put
          ∙ put_from-next c.args.method c.args.schema.now record_index records c.index-records-record_index.result
          (worked_on rows (drafted old)) (worked_on rows (drafted new)) lt c.index-records-record_index.is
          c.in_ok-put_record.ensures.ok;
      draft = c.in_ok-put_record.ensures.draft;
      column_lists = c.in_ok-put_record.ensures.column_lists ∙ c.loop-record_index.invariant.column_lists;
      distinct = distinct_after c.args.method c.args.schema.now (record_index + 1) c.index-records-record_index.result
          rows old new c.requires.keyed.ascending c.loop-record_index.invariant.distinct
          c.in_ok-put_record.ensures.ok;
    }

pub returns-clause-found : goal.returns-clause-found
returns-clause-found c =
    draft_searchable c.args.schema.now c.loop-record_index.draft c.args.rows.now c.loop-record_index.invariant.draft
    c.loop-record_index.invariant.column_lists c.loop-record_index.invariant.distinct

use Rattle.std.proofs.Common.{◌≡◌, ◌+◌, drop}
use Rattle.datastore_table.specs.Batch.{worked_on}
use Rattle.datastore_table.specs.Draft.{IsDraft, drafted}
use Rattle.datastore_table.specs.Index.{column_lists_of}
use Rattle.datastore_table.specs.Put.{begun, put_from}
use Rattle.datastore_table.specs.Rows.{rows_after}
use Rattle.datastore_table.proofs.DraftLemmas.{AreDistinct}
use Rattle.datastore_table.proofs.work.put_all.Given as goal

abbrev pub invariant-loop-record_index : goal.invariant-loop-record_index
invariant-loop-record_index l = record {
  put : put_from l.method l.schema 1 l.records (begun l.rows l.next_id)
      ≡ put_from l.method l.schema (l.record_index + 1) (drop l.record_index l.records)
      (worked_on l.rows (drafted l.draft));
  draft : IsDraft l.draft;
  column_lists : l.draft.column_lists.items ≡ column_lists_of l.schema;
  distinct : AreDistinct l.schema (rows_after l.draft.rows l.rows);
}

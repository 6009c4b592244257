-- What the records of a batch have written so far, with the index that finds it. No public clause cites this.
use Rattle.portal_base.specs.Ordered.{IsAscending}
use Rattle.datastore_table.specs.declared.draft.Draft.{Draft}
use Rattle.datastore_table.specs.Batch.{AreThoseOf, Written}
use Rattle.datastore_table.specs.Index.{IsIndexed}
use Rattle.datastore_table.specs.Rows.{row_cmp}

-- what the batch writes, if it ends here
abbrev pub drafted : Draft → Written
drafted draft = record { changed = draft.rows; next_id = draft.next_id; written = draft.written.items }

-- The written rows ascend, they are those that the records wrote, and the index leads to each of them.
pub record IsDraft (draft : Draft) : Type 0 where
  pub ascending : IsAscending row_cmp draft.rows
  pub those : AreThoseOf draft.written.items draft.rows
  pub indexed : IsIndexed draft.column_lists.items draft.rows draft.index

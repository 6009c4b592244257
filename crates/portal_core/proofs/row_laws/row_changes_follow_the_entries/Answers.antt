-- Rows are known by their bodies. At a key that an entry is about, the last change says what the rows after the entries
-- have there; at any other key no entry changes the row.
use Rattle.portal_state.proofs.RowChanges.{rows_after-row_changes}
use Rattle.portal_core.proofs.row_laws.row_changes_follow_the_entries.Goals as goal

pub returns : goal.returns
returns c = rows_after-row_changes

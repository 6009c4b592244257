-- The changes of rows that follow from entries.
use Rattle.std.specs.Prelude.{ℕ, Bool, false, not, List, Option, Some, None, filter, is_some, map}
use Rattle.std.specs.Str.{bytes_eq}
use Rattle.harvest_sources.specs.Entries.{SourceEntry, PutSource, DropSource, PutJob, DropJob, PutListing}
use Rattle.harvest_sources.specs.Jobs.{id_of_job, job_id}
use Rattle.harvest_sources.specs.declared.step.Step.{Step}
use Rattle.portal_state.specs.Entries.{Entry, PutOrg, DropOrg, PutRole, DropRole, PutDataset, EditDataset}
use Rattle.portal_state.specs.Entries.{DropDataset, PutTable, DropTable, PutRow, DropRow, OfSources}
use Rattle.portal_state.specs.Changed.{changed}
use Rattle.portal_state.specs.Harvest.{state_after_step, harvest_entries}
use Rattle.portal_state.specs.Planned.{PlannedChange, entries_of}
use Rattle.portal_state.specs.State.{State}
use Rattle.portal_keeper.specs.Rows.{body_at}
use Rattle.portal_keeper.specs.declared.change.Change.{Change}
use Rattle.portal_keeper.specs.declared.change.Change.TheVariants.{Put, Remove}
use Rattle.portal_keeper.specs.declared.row.KeptRow.{KeptRow}
use Rattle.portal_keeper.specs.declared.row.RowKind.{RowKind}
use Rattle.portal_keeper.specs.declared.row.RowKind.TheVariants as kind
use Rattle.portal_rows.specs.TableRows.{row_key}
use Rattle.portal_state.specs.KeptRows.{kept_rows, resource_id}

-- ---- the row of an entry

-- The kind and the key of the row that an entry of sources and jobs is about. A listing is in no row: its source's row stays
-- as it is.
abbrev pub source_entry_key : SourceEntry → RowKind × List ℕ
source_entry_key (PutSource source) = (kind.Source, source.name)
source_entry_key (DropSource name) = (kind.Source, name)
source_entry_key (PutJob job) = (kind.Job, id_of_job job)
source_entry_key (DropJob name number) = (kind.Job, job_id name number)
source_entry_key (PutListing name listing) = (kind.Source, name)

-- The kind and the key of the row that an entry is about. The row of an organization has the roles in it.
abbrev pub entry_key : Entry → RowKind × List ℕ
entry_key (PutOrg org) = (kind.Org, org.name)
entry_key (DropOrg name) = (kind.Org, name)
entry_key (PutRole role) = (kind.Org, role.org)
entry_key (DropRole org user) = (kind.Org, org)
entry_key (PutDataset dataset) = (kind.Set, dataset.id)
entry_key (EditDataset id edit) = (kind.Set, id)
entry_key (DropDataset id) = (kind.Set, id)
entry_key (PutTable head) = (kind.Table, resource_id head.address)
entry_key (DropTable address) = (kind.Table, resource_id address)
entry_key (PutRow address row) = (kind.Row, row_key (resource_id address) row.id)
entry_key (DropRow address id) = (kind.Row, row_key (resource_id address) id)
entry_key (OfSources entry) = source_entry_key entry

-- ---- changes of rows

-- the change that leaves this body at a kind and a key, or no row
abbrev pub change_to : RowKind → List ℕ → Option (List ℕ) → Change
change_to kind key (Some body) = Put (record { kind = kind; key = key; body = body })
change_to kind key None = Remove kind key

-- the change after which there is at a kind and a key what these rows have there
abbrev pub change_at : List KeptRow → RowKind × List ℕ → Change
change_at rows key = change_to key.0 key.1 (body_at rows key.0 key.1)

-- The changes of rows for these entries, given the state after them all: one for each entry, in order.
abbrev pub row_changes : List Entry → State → List Change
row_changes entries state = map (λ entry. change_at (kept_rows state) (entry_key entry)) entries

-- ---- changes that change something

-- the body is this one
abbrev pub is_body : List ℕ → Option (List ℕ) → Bool
is_body body None = false
is_body body (Some other) = bytes_eq other body

-- The change changes something in these rows: they don't have at its kind and key what it leaves there.
abbrev pub is_effective : List KeptRow → Change → Bool
is_effective rows (Put row) = not (is_body row.body (body_at rows row.kind row.key))
is_effective rows (Remove kind key) = is_some (body_at rows kind key)

-- of these changes, those that change something in these rows
abbrev pub effective_changes : List KeptRow → List Change → List Change
effective_changes rows changes = filter (is_effective rows) changes

-- ---- the changes for a planned change

-- The changes of rows for a planned change, given the state before it: those of its entries that change something.
-- Where an organization goes, its row is removed once for each role that goes with it, and once more. That is harmless:
-- the removal of a row that isn't there changes nothing.
abbrev pub planned_row_changes : PlannedChange → State → List Change
planned_row_changes planned state =
    effective_changes (kept_rows state) (row_changes (entries_of planned state) (changed planned state))

-- ---- the changes for a step of a harvest

-- the changes of rows for a step of a harvest, given the state before it: those of its entries that change something
abbrev pub step_row_changes : Step → State → List Change
step_row_changes step state =
    effective_changes (kept_rows state) (row_changes (harvest_entries step state) (state_after_step step state))

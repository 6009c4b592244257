-- Entries that drop nothing beside what they name.
use Rattle.std.specs.Prelude.{◌≡◌, List, [], ◌∷◌, Option, Some, None, filter}
use Rattle.datastore_answers.specs.Tables.{tables_in}
use Rattle.portal_base.specs.Ordered.{found}
use Rattle.harvest_results.specs.Effects.{is_of_source}
use Rattle.harvest_sources.specs.Entries.{SourceEntry, PutSource, DropSource, PutJob, DropJob, PutListing}
use Rattle.harvest_sources.specs.Sources.{SourceState, source_at}
use Rattle.harvest_sources.specs.declared.job.Job.{Job}
use Rattle.portal_state.specs.State.{State}
use Rattle.portal_state.specs.Entries.{Entry, PutOrg, DropOrg, PutRole, DropRole, PutDataset, EditDataset}
use Rattle.portal_state.specs.Entries.{DropDataset, PutTable, DropTable, PutRow, DropRow, OfSources}
use Rattle.portal_state.specs.Entries.{changed_by, rows_at}
use Rattle.portal_state.specs.EntriesOf.{roles_in}

-- the jobs of a source, if there is one
abbrev pub jobs_if : Option SourceState → List Job
jobs_if None = []
jobs_if (Some s) = s.jobs

-- A source that the entry drops has no jobs and no datasets.
abbrev pub DropsSourceAlone : SourceEntry → State → Type 0
DropsSourceAlone (DropSource name) state =
    (jobs_if (found (source_at name) state.sources) ≡ []) × (filter (is_of_source name) state.datasets ≡ [])
DropsSourceAlone (PutSource source) state = Unit {0}
DropsSourceAlone (PutJob job) state = Unit {0}
DropsSourceAlone (DropJob name number) state = Unit {0}
DropsSourceAlone (PutListing name listing) state = Unit {0}

-- What the entry drops has nothing in it: an organization no roles, a dataset no tables, a table no rows, and a source no
-- jobs and no datasets.
abbrev pub DropsAlone : Entry → State → Type 0
DropsAlone (DropOrg name) state = roles_in name state.people.roles ≡ []
DropsAlone (DropDataset id) state = tables_in id state.tables ≡ []
DropsAlone (DropTable address) state = rows_at address state.tables ≡ []
DropsAlone (PutOrg org) state = Unit {0}
DropsAlone (PutRole role) state = Unit {0}
DropsAlone (DropRole org user) state = Unit {0}
DropsAlone (PutDataset dataset) state = Unit {0}
DropsAlone (EditDataset id edit) state = Unit {0}
DropsAlone (PutTable head) state = Unit {0}
DropsAlone (PutRow address row) state = Unit {0}
DropsAlone (DropRow address id) state = Unit {0}
DropsAlone (OfSources entry) state = DropsSourceAlone entry state

-- That holds of each of the entries, in the state after those before it.
abbrev pub AllDropAlone : List Entry → State → Type 0
AllDropAlone [] state = Unit {0}
AllDropAlone (entry ∷ entries) state = DropsAlone entry state × AllDropAlone entries (changed_by entry state)

-- The changes of rows for a change of people, of datasets, of tables or of sources, and for a step of a harvest, in terms of
-- the lists that it changes.
use Rattle.std.specs.Prelude.{◌<◌, ◌^◌, ℕ, List, [], ◌∷◌, ◌++◌, All, map, Option, Some, None, is_some, option_map}
use Rattle.std.specs.Prelude.{if◌then◌else◌, ◌+◌, ℤ, IfSome}
use Rattle.std.specs.Cmp.{nat_cmp_total}
use Rattle.std.specs.List.{flat_map}
use Rattle.std.specs.Option.{option_map_or}
use Rattle.dataset_answers.specs.Changed.{dataset_at_id}
use Rattle.dataset_answers.specs.declared.change.DatasetChange.{DatasetChange}
use Rattle.dataset_answers.specs.declared.change.DatasetChange.TheVariants as dataset
use Rattle.dataset_rows.specs.Rows.{row_text}
use Rattle.datastore_answers.specs.Order.{at_address}
use Rattle.datastore_answers.specs.Tables.{tables_in}
use Rattle.datastore_answers.specs.declared.plan.TablePlan.{TablePlan}
use Rattle.datastore_answers.specs.declared.plan.TablePlan.TheVariants as plan
use Rattle.datastore_answers.specs.declared.resource_table.ResourceTable.{ResourceTable}
use Rattle.datastore_table.specs.Batch.{AreThoseOf, Written}
use Rattle.datastore_table.specs.Rows.{row_cmp}
use Rattle.datastore_table.specs.declared.row.Row.{Row}
use Rattle.harvest_rows.specs.Rows.{job_row, source_row}
use Rattle.harvest_sources.specs.Jobs.{id_of_job, new_job, with_report}
use Rattle.harvest_sources.specs.Sources.{SourceState, open_job, source_named}
use Rattle.harvest_sources.specs.declared.change.SourceChange.{SourceChange}
use Rattle.harvest_sources.specs.declared.change.SourceChange.TheVariants as source
use Rattle.harvest_sources.specs.declared.job.Job.{Job}
use Rattle.harvest_sources.specs.declared.job.SourceReport.{SourceReport}
use Rattle.harvest_sources.specs.declared.source.HarvestSource.{HarvestSource}
use Rattle.harvest_sources.specs.declared.step.StepReply.{StepReply}
use Rattle.harvest_sources.specs.declared.step.StepReply.TheVariants.{Started, Gather, Object, Nothing, Done, Ended, Already}
use Rattle.harvest_stages.specs.Stages.{sources_in}
use Rattle.org_roles.specs.Changed.{with_org, with_role, without_role}
use Rattle.org_roles.specs.PeopleLists.{PeopleLists, org_in}
use Rattle.org_roles.specs.declared.change.OrgChange.{OrgChange}
use Rattle.org_roles.specs.declared.change.OrgChange.TheVariants as org
use Rattle.org_roles.specs.declared.entry.Membership.{Membership}
use Rattle.org_roles.specs.declared.entry.Org.{Org}
use Rattle.packages.specs.Shelf.{datasets_of}
use Rattle.packages.specs.declared.package.Package.{Package}
use Rattle.packages.specs.declared.package.Resource.{Resource}
use Rattle.portal_base.specs.Ordered.{IsAscending, IsKey, IsKey-field, IsMonotone, IsMonotone-field, found}
use Rattle.portal_state.specs.EntriesOf.{datasets_gone}
use Rattle.portal_state.specs.Entries.{row_at_id}
use Rattle.portal_state.specs.KeptRows.{dataset_row, resource_id, row_targets, table_rows}
use Rattle.portal_state.specs.RowChanges.{is_body}
use Rattle.portal_state.specs.declared.change.Plan.{Plan}
use Rattle.portal_state.specs.declared.change.Plan.TheVariants as portal
use Rattle.portal_state.specs.declared.parts.Parts.{Parts}
use Rattle.portal_keeper.specs.declared.change.Change.{Change}
use Rattle.portal_keeper.specs.declared.change.Change.TheVariants.{Put, Remove}
use Rattle.portal_keeper.specs.declared.row.KeptRow.{KeptRow}
use Rattle.portal_keeper.specs.declared.row.RowKind.{RowKind}
use Rattle.portal_keeper.specs.declared.row.RowKind.TheVariants as kind
use Rattle.portal_rows.specs.OrgRows.{memberships_in, org_row}
use Rattle.portal_rows.specs.TableRows.{cells_row, row_key, table_row}
use Rattle.visibility.specs.TableSummary.{is_among}

-- ---- one row

-- What leads at a kind and a key from the body before to the one after: one change, or none if they are the same.
abbrev pub changes_between : RowKind → List ℕ → Option (List ℕ) → Option (List ℕ) → List Change
changes_between kind key before None = if is_some before then Remove kind key ∷ [] else []
changes_between kind key before (Some body) =
    if is_body body before then [] else Put (record { kind = kind; key = key; body = body }) ∷ []

abbrev pub put_of : KeptRow → Change
put_of row = Put row

-- ---- people

-- the body of the row of an organization in which these are the roles, if there is one
abbrev pub org_body_with : List Membership → Option Org → Option (List ℕ)
org_body_with roles org = option_map (λ o. (org_row o roles).body) org

-- the body of the row of the organization of that name, if there is one
abbrev pub org_body : List ℕ → PeopleLists → Option (List ℕ)
org_body name people = org_body_with (memberships_in name people.roles) (org_in people name)

-- what changes in the row of the organization of that name, between these people
abbrev pub org_changes : List ℕ → PeopleLists → PeopleLists → List Change
org_changes name before after = changes_between kind.Org name (org_body name before) (org_body name after)

-- the row of the organization of that name goes
abbrev pub removal_of_org : List ℕ → Change
removal_of_org name = Remove kind.Org name

-- The row of an organization goes: once for each of these roles in it, and once more.
abbrev pub removals_of_org : List ℕ → List Membership → List Change
removals_of_org name roles = map (λ role. removal_of_org role.org) roles ++ removal_of_org name ∷ []

-- the changes of rows for a change of these people
abbrev pub changes_of_people : OrgChange → PeopleLists → List Change
changes_of_people (org.Create o) people = org_changes o.name people (with_org o people)
changes_of_people (org.Patch o) people = org_changes o.name people (with_org o people)
changes_of_people (org.Remove name) people = removals_of_org name (memberships_in name people.roles)
changes_of_people (org.SetRole name user role) people =
    org_changes name people (with_role (record { org = name; user = user; role = role }) people)
changes_of_people (org.DropRole name user) people = org_changes name people (without_role name user people)

-- ---- tables that go

-- the row of a row of the table of that resource goes
abbrev pub removal_of_row : List ℕ → Row → Change
removal_of_row resource row = Remove kind.Row (row_key resource row.id)

-- the rows of a table's rows go, and then the row of the table
abbrev pub removals_of_table : ResourceTable → List Change
removals_of_table t =
    map (removal_of_row (resource_id t.address)) t.table.rows ++ Remove kind.Table (resource_id t.address) ∷ []

-- the same for the table of a dataset, unless it is the table of one of these resources
abbrev pub removals_unless : List Resource → ResourceTable → List Change
removals_unless resources t = if is_among resources t.address.number then [] else removals_of_table t

-- the same for each table of the dataset with this id, unless it is the table of one of these resources
abbrev pub removals_of_gone : List ℕ → List Resource → List ResourceTable → List Change
removals_of_gone id resources tables = flat_map (removals_unless resources) (tables_in id tables)

-- ---- datasets

-- the body of the row of the dataset of that id, if there is one
abbrev pub dataset_body : List ℕ → List Package → Option (List ℕ)
dataset_body id datasets = option_map row_text (found (dataset_at_id id) datasets)

-- the changes of rows for a change of datasets, given these datasets and tables
abbrev pub changes_of_datasets : DatasetChange → List Package → List ResourceTable → List Change
changes_of_datasets (dataset.Create d) datasets tables = Put (dataset_row d) ∷ []
changes_of_datasets (dataset.Replace d) datasets tables =
    removals_of_gone d.id d.resources tables
    ++ changes_between kind.Set d.id (dataset_body d.id datasets) (Some (row_text d))
changes_of_datasets (dataset.Remove id) datasets tables = removals_of_gone id [] tables ++ Remove kind.Set id ∷ []

-- ---- tables

-- the body of the row of a table, with this next `_id`
abbrev pub head_body : ResourceTable → ℕ → List ℕ
head_body t next_id = (table_row (resource_id t.address)
    (record { schema = t.table.schema; next_id = next_id; targets = row_targets t })).body

-- A row is looked up by its `_id`.
pub IsKey-row_at_id : (id : ℕ) → IsKey row_cmp (row_at_id id)
IsKey-row_at_id id = IsKey-field (λ row. row.id) nat_cmp_total id

pub IsMonotone-row_at_id : (id : ℕ) → IsMonotone row_cmp (row_at_id id)
IsMonotone-row_at_id id = IsMonotone-field (λ row. row.id) nat_cmp_total id

-- the body of the row of the row with this `_id`, of a table of that resource with these rows, if there is one
abbrev pub cells_body : List ℕ → List Row → ℕ → Option (List ℕ)
cells_body resource rows id = option_map (λ row. (cells_row resource row).body) (found (row_at_id id) rows)

-- what changes in the row of a row that is put among these
abbrev pub changes_of_row : List ℕ → List Row → Row → List Change
changes_of_row resource rows row =
    changes_between kind.Row (row_key resource row.id) (cells_body resource rows row.id)
    (Some (cells_row resource row).body)

-- what changes in the row of a table, where this is its next `_id` afterwards
abbrev pub changes_of_head : ResourceTable → ℕ → List Change
changes_of_head t next_id =
    changes_between kind.Table (resource_id t.address) (Some (head_body t t.table.next_id)) (Some (head_body t next_id))

-- the changes of rows for what a batch writes into the table
abbrev pub changes_of_batch : Written → ResourceTable → List Change
changes_of_batch work t =
    changes_of_head t work.next_id ++ flat_map (changes_of_row (resource_id t.address) t.table.rows) work.changed

-- the row of the row with this `_id` among these goes, if there is one
abbrev pub removals_of_id : List ℕ → List Row → ℕ → List Change
removals_of_id resource rows id = changes_between kind.Row (row_key resource id) (cells_body resource rows id) None

-- the same for each of these in the table
abbrev pub removals_of_ids : List ℕ → ResourceTable → List Change
removals_of_ids ids t = flat_map (removals_of_id (resource_id t.address) t.table.rows) ids

-- the changes of a table, if there is one
abbrev pub changes_if : (ResourceTable → List Change) → Option ResourceTable → List Change
changes_if changes None = []
changes_if changes (Some t) = changes t

-- the changes of rows for a plan on these tables
abbrev pub changes_of_tables : TablePlan → List ResourceTable → List Change
changes_of_tables (plan.Create t) tables = map put_of (table_rows t)
changes_of_tables (plan.Remove address) tables = changes_if removals_of_table (found (at_address address) tables)
changes_of_tables (plan.Put address method records batch) tables =
    changes_if (changes_of_batch batch.work) (found (at_address address) tables)
changes_of_tables (plan.DeleteRows address removal) tables =
    changes_if (removals_of_ids removal.ids) (found (at_address address) tables)

-- What the type of a batch says: the next `_id` is a `u64`, and the rows ascend and are those that its records wrote.
pub record IsTypedBatch (work : Written) : Type 0 where
  pub next_id : work.next_id < 2 ^ 64
  pub ascending : IsAscending row_cmp work.changed
  pub those : AreThoseOf work.written work.changed

-- What the types of a plan's numbers and of its batch say: the number of a resource is a `u32`, and an `_id` a `u64`.
abbrev pub IsTypedTablePlan : TablePlan → Type 0
IsTypedTablePlan (plan.Create t) = (t.address.number < 2 ^ 32) × (t.table.next_id < 2 ^ 64)
IsTypedTablePlan (plan.Remove address) = Unit {0}
IsTypedTablePlan (plan.Put address method records batch) = IsTypedBatch batch.work
IsTypedTablePlan (plan.DeleteRows address removal) = All (λ id. id < 2 ^ 64) removal.ids

-- ---- sources and jobs

-- the row of a job goes
abbrev pub removal_of_job : Job → Change
removal_of_job job = Remove kind.Job (id_of_job job)

-- what changes in the row of a source that becomes the second one, of the same name
abbrev pub changes_of_source : HarvestSource → HarvestSource → List Change
changes_of_source before after =
    changes_between kind.Source after.name (Some (source_row before).body) (Some (source_row after).body)

-- what changes in the row of a source that gets this title and this location
abbrev pub changes_of_texts : List ℕ → List ℕ → HarvestSource → List Change
changes_of_texts title url source = changes_of_source source (record source { title = title; url = url })

-- the rows of a source's jobs go, and then its own
abbrev pub removals_of_source : SourceState → List Change
removals_of_source s = map removal_of_job s.jobs ++ Remove kind.Source s.source.name ∷ []

-- what changes in the row of a source that gives its next job a number, and the row of that job
abbrev pub changes_of_new_job : ℤ → SourceState → List Change
changes_of_new_job created s =
    changes_of_source s.source (record s.source { next_job = s.source.next_job + 1 })
    ++ Put (job_row (new_job s.source.name s.source.next_job created)) ∷ []

-- the changes of a source, if there is one
abbrev pub changes_if_source : (SourceState → List Change) → Option SourceState → List Change
changes_if_source changes None = []
changes_if_source changes (Some s) = changes s

-- the changes of the rows of sources and jobs for a change of these sources
abbrev pub changes_of_sources : SourceChange → List SourceState → List Change
changes_of_sources (source.Create new) sources = Put (source_row new) ∷ []
changes_of_sources (source.Update name title url) sources =
    changes_if_source (λ s. changes_of_texts title url s.source) (source_named sources name)
changes_of_sources (source.Remove name) sources = changes_if_source removals_of_source (source_named sources name)
changes_of_sources (source.AddJob name created) sources =
    changes_if_source (changes_of_new_job created) (source_named sources name)

-- the row of a dataset goes
abbrev pub removal_of_dataset : Package → Change
removal_of_dataset d = Remove kind.Set d.id

-- The changes of rows for a change of these sources: the rows of the datasets that go with a source, and those of sources
-- and jobs.
abbrev pub changes_of_harvests : SourceChange → List SourceState → List Package → List Change
changes_of_harvests change sources datasets =
    map removal_of_dataset (datasets_gone change datasets) ++ changes_of_sources change sources

-- What the type of its number says: the number of the next job is a `u64` after a new job too.
abbrev pub IsTypedSourceChange : SourceChange → List SourceState → Type 0
IsTypedSourceChange (source.Create new) sources = Unit {0}
IsTypedSourceChange (source.Update name title url) sources = Unit {0}
IsTypedSourceChange (source.Remove name) sources = Unit {0}
IsTypedSourceChange (source.AddJob name created) sources =
    IfSome (source_named sources name) (λ s. s.source.next_job + 1 < 2 ^ 64)

-- ---- steps of harvests

-- what changes in the row of a dataset that is put among these
abbrev pub changes_of_put : Option Package → List Package → List Change
changes_of_put None datasets = []
changes_of_put (Some d) datasets =
    changes_between kind.Set d.id (dataset_body d.id datasets) (Some (row_text d))

-- the row of the dataset with this id goes
abbrev pub removal_at_id : List ℕ → Change
removal_at_id id = Remove kind.Set id

-- what changes in the row of a job that gets this report
abbrev pub changes_of_report : SourceReport → Job → List Change
changes_of_report report job =
    changes_between kind.Job (id_of_job job) (Some (job_row job).body) (Some (job_row (with_report report job)).body)

-- the same for the open job of the source, if both are there
abbrev pub changes_if_open : SourceReport → Option SourceState → List Change
changes_if_open report None = []
changes_if_open report (Some s) = option_map_or (changes_of_report report) (open_job s) []

-- What changes in the rows of jobs by a step with this answer, given the sources before it: a job that ends gets its report.
-- A job that begins is kept as a new one.
abbrev pub changes_of_reply : StepReply → List SourceState → List Change
changes_of_reply (Started jobs) sources = []
changes_of_reply (Gather job url) sources = []
changes_of_reply (Object job item) sources = []
changes_of_reply Nothing sources = []
changes_of_reply Done sources = []
changes_of_reply (Ended report) sources = changes_if_open report (source_named sources report.source)
changes_of_reply Already sources = []

-- The changes of rows for a step with this answer, which puts this dataset and drops those with these ids, given the sources
-- and the datasets before it.
abbrev pub changes_of_step : Option Package → List (List ℕ) → StepReply → List SourceState → List Package → List Change
changes_of_step put gone reply sources datasets =
    changes_of_put put datasets ++ map removal_at_id gone ++ changes_of_reply reply sources

-- ---- all plans

-- the changes of rows for a plan on these parts
abbrev pub changes_of_plan : Plan → Parts → List Change
changes_of_plan (portal.People change) parts = changes_of_people change parts.people.people
changes_of_plan (portal.Datasets change) parts =
    changes_of_datasets change (datasets_of parts.shelf) parts.tables.tables
changes_of_plan (portal.Tables change) parts = changes_of_tables change parts.tables.tables
changes_of_plan (portal.Sources change) parts =
    changes_of_harvests change (sources_in parts.sources) (datasets_of parts.shelf)

-- what the types of what a plan says of tables and of sources say
abbrev pub IsTypedPlan : Plan → Parts → Type 0
IsTypedPlan (portal.People change) parts = Unit {0}
IsTypedPlan (portal.Datasets change) parts = Unit {0}
IsTypedPlan (portal.Tables change) parts = IsTypedTablePlan change
IsTypedPlan (portal.Sources change) parts = IsTypedSourceChange change (sources_in parts.sources)

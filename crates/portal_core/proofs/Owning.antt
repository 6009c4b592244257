-- Each entry of an accepted change is the caller's own to make.
use Rattle.std.proofs.Common.{◌≡◌, ℕ, ℤ, ◌+◌, Bool, true, not, ◌||◌, List, [], ◌∷◌, ◌++◌, map, Option, Some, None}
use Rattle.std.proofs.Common.{Result, Ok, Err, refl, sym, ap, ◌∙◌, subst, inl, inr}
use Rattle.std.specs.Prelude.{filter}
use Rattle.std.specs.List.{All, flat_map}
use Rattle.std.specs.Str.{bytes_eq}
use Rattle.std.proofs.lemmas.List.Elements.{All-append, All-cons, All-map, All-nil}
use Rattle.std.proofs.lemmas.Slice.Eq.{bytes_eq-Decides}
use Rattle.portal_base.specs.declared.caller.Caller.{Caller}
use Rattle.portal_base.specs.declared.json_value.Json.{Json}
use Rattle.portal_base.specs.Ordered.{found}
use Rattle.portal_base.proofs.Filtered.{IsIn-filter}
use Rattle.portal_base.proofs.Unique.{IsIn, Contains-IsIn}
use Rattle.portal_base.proofs.Upserted.{All-each}
use Rattle.org_roles.specs.declared.change.OrgChange.{OrgChange}
use Rattle.org_roles.specs.declared.change.OrgChange.TheVariants as org
use Rattle.org_roles.specs.declared.entry.Membership.{Membership}
use Rattle.packages.specs.declared.package.Resource.{Resource}
use Rattle.visibility.specs.TableSummary.{is_among}
use Rattle.visibility.specs.View.{administers}
use Rattle.dataset_answers.specs.Edits.{edit_of}
use Rattle.dataset_answers.specs.Fit.{IsFitDataset}
use Rattle.dataset_answers.specs.declared.change.DatasetChange.{DatasetChange}
use Rattle.dataset_answers.specs.declared.change.DatasetChange.TheVariants as dataset
use Rattle.datastore_table.specs.Put.{Worked, put_records}
use Rattle.datastore_table.specs.declared.fault.TableFault.{TableFault}
use Rattle.datastore_table.specs.declared.method.Method.{Method}
use Rattle.datastore_answers.specs.Changed.{TableChange}
use Rattle.datastore_answers.specs.Changed as table
use Rattle.datastore_answers.specs.Fit.{IsFitTable}
use Rattle.datastore_answers.specs.Fit as fits
use Rattle.datastore_answers.specs.Order.{at_address}
use Rattle.datastore_answers.specs.Summaries.{summaries_of}
use Rattle.datastore_answers.specs.declared.address.Address.{Address}
use Rattle.datastore_answers.specs.declared.resource_table.ResourceTable.{ResourceTable}
use Rattle.datastore_answers.proofs.KeepLemmas.{at-is}
use Rattle.datastore_answers.proofs.TableLemmas.{there-at}
use Rattle.harvest_answers.specs.Fit.{IsFitSource}
use Rattle.harvest_results.specs.Effects.{is_of_source}
use Rattle.harvest_sources.specs.Entries.{DropJob, DropSource, PutJob, PutSource, added_job, job_drops}
use Rattle.harvest_sources.specs.Entries.{fault_if_open, updated_source}
use Rattle.harvest_sources.specs.Jobs.{new_job}
use Rattle.harvest_sources.specs.Sources.{SourceState, source_named}
use Rattle.harvest_sources.specs.declared.change.SourceChange.{SourceChange}
use Rattle.harvest_sources.specs.declared.change.SourceChange.TheVariants as source
use Rattle.harvest_sources.specs.declared.job.Job.{Job}
use Rattle.organization_answers.specs.Fit.{IsFitOrg}
use Rattle.organization_answers.specs.Owners.{owners_of}
use Rattle.packages.proofs.FindLemmas.{IsIn-find}
use Rattle.portal_calls.specs.declared.answer.Answer.TheVariants.{Accepted}
use Rattle.portal_calls.specs.declared.call.Call.{Call}
use Rattle.portal_state.specs.Answer.{answer_to, call_view_of}
use Rattle.portal_state.specs.Change.{Change}
use Rattle.portal_state.specs.Entries.{Entry, DropDataset, DropOrg, DropRow, DropTable, EditDataset, OfSources, PutRow}
use Rattle.portal_state.specs.Entries.{PutTable}
use Rattle.portal_state.specs.EntriesOf.{drop_of_dataset, drop_of_role, drops_of, drops_of_table, entries_of_batch, entries_of_datasets}
use Rattle.portal_state.specs.EntriesOf.{entries_of_people, entries_of_sources, entries_of_tables, head_of, head_with, ids_of, is_gone}
use Rattle.portal_state.specs.EntriesOf.{puts_of, roles_in, rows_written, tables_gone}
use Rattle.portal_state.specs.Fit.{IsFit}
use Rattle.portal_core.specs.Own.{IsOwnDataset, IsOwnEntry, IsOwnSource}
use Rattle.portal_state.specs.Planned.{PlannedChange, People, Datasets, Tables, Sources, entries_of}
use Rattle.portal_state.specs.State.{State}
use Rattle.portal_state.proofs.Answering.{accepted_fit}
use Rattle.portal_state.proofs.Settling.{accepted-planned}
use Rattle.portal_state.proofs.TableViewing.{both}

-- all of these entries are the caller's own
abbrev AreOwn : Caller → State → List Entry → Type 0
AreOwn caller view entries = All (IsOwnEntry caller view) entries

alone : (caller : Caller) (view : State) (entry : Entry) → IsOwnEntry caller view entry → AreOwn caller view (entry ∷ [])
alone caller view entry own =
    All-cons (IsOwnEntry caller view) entry [] own (All-nil (IsOwnEntry caller view))

-- entries of one form
each : {X : Type 0} (caller : Caller) (view : State) (make : X → Entry) (xs : List X)
    → ((x : X) → IsIn x xs → IsOwnEntry caller view (make x)) → AreOwn caller view (map make xs)
each caller view make xs own =
    All-map (IsOwnEntry caller view) make xs (All-each (λ x. IsOwnEntry caller view (make x)) xs own)

or_left : (a b : Bool) → a ≡ true → (a || b) ≡ true
or_left a b is = ap (λ c. c || b) is

-- ---- people

own-people : (change : OrgChange) (call : Call) (view : State) → IsFitOrg (call_view_of call view) (owners_of view.sources) change
    → AreOwn call.caller view (entries_of_people change view.people.roles)
own-people (org.Create o) call view fit =
    alone call.caller view _ (or_left _ _ fit.sysadmin)
own-people (org.Patch o) call view fit = alone call.caller view _ fit.administered
own-people (org.Remove name) call view fit =
    All-append (IsOwnEntry call.caller view) (map drop_of_role (roles_in name view.people.roles)) (DropOrg name ∷ [])
    (each call.caller view drop_of_role (roles_in name view.people.roles)
    (λ m within. ap (administers view.people call.caller)
    ((bytes_eq-Decides m.org name).0 (IsIn-filter (λ (r : Membership). bytes_eq r.org name) m view.people.roles within).1)
    ∙ fit.own.administered))
    (alone call.caller view (DropOrg name) fit.own.administered)
own-people (org.SetRole name user role) call view fit = alone call.caller view _ fit.own.administered
own-people (org.DropRole name user) call view fit = alone call.caller view _ fit.fit.own.administered

-- ---- tables that go

own-drops : (caller : Caller) (view : State) (t : ResourceTable) → IsOwnDataset caller view t.address.dataset
    → AreOwn caller view (drops_of_table t)
own-drops caller view t own =
    All-append (IsOwnEntry caller view) (map (DropRow t.address) (ids_of t.table.rows)) (DropTable t.address ∷ [])
    (each caller view (DropRow t.address) (ids_of t.table.rows) (λ id within. own))
    (alone caller view (DropTable t.address) own)

own-all_drops : (caller : Caller) (view : State) (ts : List ResourceTable)
    → ((t : ResourceTable) → IsIn t ts → IsOwnDataset caller view t.address.dataset)
    → AreOwn caller view (flat_map drops_of_table ts)
own-all_drops caller view [] own = All-nil (IsOwnEntry caller view)
own-all_drops caller view (t ∷ ts) own =
    All-append (IsOwnEntry caller view) (drops_of_table t) (flat_map drops_of_table ts)
    (own-drops caller view t (own t (inl refl)))
    (own-all_drops caller view ts (λ u within. own u (inr within)))

-- a dataset of the id that a text is
own-named : (caller : Caller) (view : State) (id other : List ℕ) → IsOwnDataset caller view id → id ≡ other
    → IsOwnDataset caller view other
own-named caller view id other own same = subst (IsOwnDataset caller view) same own

own-gone : (caller : Caller) (view : State) (id : List ℕ) (resources : List Resource) → IsOwnDataset caller view id
    → AreOwn caller view (flat_map drops_of_table (tables_gone id resources view.tables))
own-gone caller view id resources own =
    own-all_drops caller view (tables_gone id resources view.tables)
    (λ t within. own-named caller view id t.address.dataset own
    (sym ((bytes_eq-Decides t.address.dataset id).0
    (both (bytes_eq t.address.dataset id) (not (is_among resources t.address.number))
    (IsIn-filter (is_gone id resources) t view.tables within).1).0)))

-- ---- datasets

own-datasets : (change : DatasetChange) (call : Call) (view : State)
    → IsFitDataset (call_view_of call view) (summaries_of view.tables) change
    → AreOwn call.caller view (entries_of_datasets change view.tables)
own-datasets (dataset.Create d) call view fit = alone call.caller view _ fit.own
own-datasets (dataset.Replace d) call view fit =
    let own : IsOwnDataset call.caller view d.id =
    record { dataset = fit.old; is_present = fit.is_present; id = fit.id; own = fit.own } in
    All-append (IsOwnEntry call.caller view) (flat_map drops_of_table (tables_gone d.id d.resources view.tables))
    (EditDataset d.id (edit_of d) ∷ []) (own-gone call.caller view d.id d.resources own)
    (alone call.caller view (EditDataset d.id (edit_of d)) own)
own-datasets (dataset.Remove id) call view fit =
    let own : IsOwnDataset call.caller view id = record {
      dataset = fit.old;
      is_present = fit.is_present;
      id = fit.id;
      own = rw (fit.not_harvested, fit.sysadmin) refl;
    } in
    All-append (IsOwnEntry call.caller view) (flat_map drops_of_table (tables_gone id [] view.tables))
    (DropDataset id ∷ []) (own-gone call.caller view id [] own) (alone call.caller view (DropDataset id) (inl fit.sysadmin))

-- ---- tables

-- the dataset of a table that is the caller's own
own-table : (call : Call) (view : State) (address : Address)
    → fits.IsOwn (call_view_of call view) view.tables address → IsOwnDataset call.caller view address.dataset
own-table call view address own = record {
  dataset = own.placed.dataset;
  is_present = own.is_present;
  id = sym (ap (λ (a : Address). a.dataset) own.here);
  own = own.own;
}

own-found_drops : (caller : Caller) (view : State) (address : Address) (there : Option ResourceTable)
    → found (at_address address) view.tables ≡ there → IsOwnDataset caller view address.dataset
    → AreOwn caller view (drops_of there)
own-found_drops caller view address None is own = All-nil (IsOwnEntry caller view)
own-found_drops caller view address (Some t) is own =
    own-drops caller view t
    (own-named caller view address.dataset t.address.dataset own
    (sym (ap (λ (a : Address). a.dataset) (at-is address t (there-at address view.tables t is)))))

own-batch : (caller : Caller) (view : State) (t : ResourceTable) (result : Result Worked TableFault)
    → IsOwnDataset caller view t.address.dataset → AreOwn caller view (entries_of_batch t result)
own-batch caller view t (Ok worked) own =
    All-cons (IsOwnEntry caller view) (PutTable (head_with t worked.next_id))
    (map (PutRow t.address) (rows_written worked)) own
    (each caller view (PutRow t.address) (rows_written worked) (λ row within. own))
own-batch caller view t (Err fault) own = All-nil (IsOwnEntry caller view)

own-found_puts : (caller : Caller) (view : State) (address : Address) (method : Method) (records : List Json)
    (there : Option ResourceTable) → found (at_address address) view.tables ≡ there
    → IsOwnDataset caller view address.dataset → AreOwn caller view (puts_of method records there)
own-found_puts caller view address method records None is own = All-nil (IsOwnEntry caller view)
own-found_puts caller view address method records (Some t) is own =
    own-batch caller view t (put_records method records t.table)
    (own-named caller view address.dataset t.address.dataset own
    (sym (ap (λ (a : Address). a.dataset) (at-is address t (there-at address view.tables t is)))))

own-tables : (change : TableChange) (call : Call) (view : State)
    → IsFitTable (call_view_of call view) view.tables change
    → AreOwn call.caller view (entries_of_tables change view.tables)
own-tables (table.Create t) call view fit =
    let own : IsOwnDataset call.caller view t.address.dataset = record {
      dataset = fit.own.placed.dataset;
      is_present = fit.own.is_present;
      id = sym (ap (λ (a : Address). a.dataset) fit.own.here);
      own = fit.own.own;
    } in
    All-cons (IsOwnEntry call.caller view) (PutTable (head_of t)) (map (PutRow t.address) t.table.rows) own
    (each call.caller view (PutRow t.address) t.table.rows (λ row within. own))
own-tables (table.Remove address) call view fit =
    own-found_drops call.caller view address (found (at_address address) view.tables) refl
    (own-table call view address fit.own)
own-tables (table.Put address method records) call view fit =
    own-found_puts call.caller view address method records (found (at_address address) view.tables) refl
    (own-table call view address fit.own)
own-tables (table.DeleteRows address ids) call view fit =
    each call.caller view (DropRow address) ids (λ id within. own-table call view address fit.own)

-- ---- sources

-- the source of a name is the caller's own, where the caller administers its organization
own-named_source : (caller : Caller) (view : State) (name : List ℕ) (s : SourceState)
    → source_named view.sources name ≡ Some s → administers view.people caller s.source.owner_org ≡ true
    → IsOwnSource caller view name
own-named_source caller view name s is own =
    let there = IsIn-find (λ (t : SourceState). bytes_eq t.source.name name) s view.sources is in
    record {
      source = s;
      is_present = Contains-IsIn s view.sources there.0;
      name = (bytes_eq-Decides s.source.name name).0 there.1;
      own = own;
    }

-- and so it is by its own name
own-itself : (caller : Caller) (view : State) (name : List ℕ) (s : SourceState)
    → source_named view.sources name ≡ Some s → administers view.people caller s.source.owner_org ≡ true
    → IsOwnSource caller view s.source.name
own-itself caller view name s is own =
    let its = own-named_source caller view name s is own in
    let there = IsIn-find (λ (t : SourceState). bytes_eq t.source.name name) s view.sources is in
    subst (IsOwnSource caller view) (sym ((bytes_eq-Decides s.source.name name).0 there.1)) its

own-update : (caller : Caller) (view : State) (name title url : List ℕ) (there : Option SourceState)
    → source_named view.sources name ≡ there
    → ((s : SourceState) → source_named view.sources name ≡ Some s
    → administers view.people caller s.source.owner_org ≡ true)
    → AreOwn caller view (map OfSources (updated_source title url there))
own-update caller view name title url None is own = All-nil (IsOwnEntry caller view)
own-update caller view name title url (Some s) is own =
    alone caller view (OfSources (PutSource (record s.source { title = title; url = url }))) (own s is)

own-removal : (call : Call) (view : State) (name : List ℕ) (there : Option SourceState)
    → source_named view.sources name ≡ there → IsOwnSource call.caller view name
    → AreOwn call.caller view (map OfSources (job_drops name there ++ DropSource name ∷ []))
own-removal call view name None is own = alone call.caller view (OfSources (DropSource name)) own
own-removal call view name (Some s) is own = by s.jobs
  where
    by : (jobs : List Job)
        → AreOwn call.caller view (map OfSources (map (λ job. DropJob name job.number) jobs ++ DropSource name ∷ []))
    by [] = alone call.caller view (OfSources (DropSource name)) own
    by (job ∷ jobs) =
        All-cons (IsOwnEntry call.caller view) (OfSources (DropJob name job.number))
        (map OfSources (map (λ job. DropJob name job.number) jobs ++ DropSource name ∷ [])) own (by jobs)

own-job : (caller : Caller) (view : State) (name : List ℕ) (created : ℤ) (there : Option SourceState)
    → source_named view.sources name ≡ there
    → ((s : SourceState) → source_named view.sources name ≡ Some s
    → administers view.people caller s.source.owner_org ≡ true)
    → AreOwn caller view (map OfSources (added_job created there))
own-job caller view name created None is own = All-nil (IsOwnEntry caller view)
own-job caller view name created (Some s) is own =
    All-cons (IsOwnEntry caller view) (OfSources (PutSource (record s.source { next_job = s.source.next_job + 1 })))
    (OfSources (PutJob (new_job s.source.name s.source.next_job created)) ∷ []) (own s is)
    (alone caller view (OfSources (PutJob (new_job s.source.name s.source.next_job created)))
    (own-itself caller view name s is (own s is)))

-- The datasets of a source of that name may be dropped with it.
own-harvested : (call : Call) (view : State) (name : List ℕ) → IsOwnSource call.caller view name
    → AreOwn call.caller view (map drop_of_dataset (filter (is_of_source name) view.datasets))
own-harvested call view name own =
    each call.caller view drop_of_dataset (filter (is_of_source name) view.datasets)
    (λ d within. let there = IsIn-filter (is_of_source name) d view.datasets within in
    inr (record {
      dataset = d;
      is_present = Contains-IsIn d view.datasets there.0;
      id = refl;
      source = subst (IsOwnSource call.caller view) (sym ((bytes_eq-Decides d.source name).0 there.1)) own;
    }))

own-whole_removal : (call : Call) (view : State) (name : List ℕ) → IsOwnSource call.caller view name
    → AreOwn call.caller view (entries_of_sources (source.Remove name) view.sources view.datasets)
own-whole_removal call view name own =
    All-append (IsOwnEntry call.caller view) (map drop_of_dataset (filter (is_of_source name) view.datasets))
    (map OfSources (job_drops name (source_named view.sources name) ++ DropSource name ∷ []))
    (own-harvested call view name own)
    (own-removal call view name (source_named view.sources name) refl own)

own-sources : (change : SourceChange) (call : Call) (view : State)
    → IsFitSource (call_view_of call view) view.sources change
    → AreOwn call.caller view (entries_of_sources change view.sources view.datasets)
own-sources (source.Create new) call view fit = alone call.caller view (OfSources (PutSource new)) fit.administered
own-sources (source.Update name title url) call view fit =
    own-update call.caller view name title url (source_named view.sources name) refl fit.administered
own-sources (source.Remove name) call view fit = by (source_named view.sources name) refl
  where
    by : (o : Option SourceState) → source_named view.sources name ≡ o
        → AreOwn call.caller view (entries_of_sources (source.Remove name) view.sources view.datasets)
    by None is = let never : fault_if_open None ≡ None = sym (ap fault_if_open is) ∙ fit.possible in absurd (cc)
    by (Some s) is =
        own-whole_removal call view name (own-named_source call.caller view name s is (fit.administered s is))
own-sources (source.AddJob name created) call view fit =
    own-job call.caller view name created (source_named view.sources name) refl fit.administered

-- ---- all changes

own-entries : (planned : PlannedChange) (call : Call) (view : State) → IsFit call view planned
    → AreOwn call.caller view (entries_of planned view)
own-entries (People change) call view fit = own-people change call view fit
own-entries (Datasets change) call view fit = own-datasets change call view fit
own-entries (Tables change) call view fit = own-tables change call view fit
own-entries (Sources change) call view fit = own-sources change call view fit

pub accepted-own : (call : Call) (view : State) (json : Json) (change : Change)
    → answer_to call view ≡ Accepted json change → All (IsOwnEntry call.caller view) change.entries
accepted-own call view json change is =
    let planned = accepted-planned call view json change is in
    subst (λ (c : Change). All (IsOwnEntry call.caller view) c.entries) (sym planned.2)
    (own-entries planned.0 call view (accepted_fit call view json planned.0 (sym planned.1)))

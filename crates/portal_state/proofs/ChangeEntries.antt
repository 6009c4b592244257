-- The entries of a planned change make it, and they are the same in the state as in its caller's view.
use Rattle.std.proofs.Common.{◌≡◌, ℕ, Bool, true, false, not, ◌||◌, List, [], ◌∷◌, ◌++◌, map, Option, Some, None, refl, sym, ap, ap₂, ◌∙◌}
use Rattle.std.specs.List.{Contains, flat_map}
use Rattle.std.specs.Str.{bytes_eq}
use Rattle.portal_base.specs.Ordered.{IsAscending, dropped, found, upserted}
use Rattle.portal_base.proofs.Filtered.{IsAscending-filter, list_all-IsIn}
use Rattle.portal_base.proofs.Unique.{IsIn, IsIn-Contains}
use Rattle.portal_base.proofs.Upserted.{All-IsIn, upserted-IsIn}
use Rattle.harvest_results.specs.Effects.{is_of_source}
use Rattle.harvest_sources.specs.Entries.{SourceEntry}
use Rattle.harvest_sources.specs.declared.change.SourceChange.{SourceChange}
use Rattle.harvest_sources.specs.declared.change.SourceChange.TheVariants as source
use Rattle.org_roles.specs.declared.change.OrgChange.TheVariants as org
use Rattle.org_roles.specs.declared.entry.Membership.{Membership}
use Rattle.packages.specs.Order.{dataset_cmp}
use Rattle.packages.specs.declared.package.Package.{Package}
use Rattle.packages.specs.declared.package.Resource.{Resource}
use Rattle.packages.proofs.FindLemmas.{IsIn-find}
use Rattle.visibility.specs.CallView.{CallView}
use Rattle.visibility.specs.TableSummary.{TableSummary}
use Rattle.visibility.specs.View.{datasets_seen}
use Rattle.visibility.specs.Visibility.{is_harvested, is_public, is_public_if_harvested, sees_in}
use Rattle.visibility.proofs.PublicLemmas.{public_is_seen}
use Rattle.visibility.proofs.ViewLemmas.{members_seen}
use Rattle.dataset_answers.specs.Edits.{edit_of}
use Rattle.dataset_answers.specs.Fit.{IsFitDataset}
use Rattle.dataset_answers.specs.declared.change.DatasetChange.{DatasetChange}
use Rattle.dataset_answers.specs.declared.change.DatasetChange.TheVariants as dataset
use Rattle.datastore_table.specs.Meets.{IsTable}
use Rattle.datastore_table.specs.Rows.{row_cmp}
use Rattle.datastore_answers.specs.Changed.{TableChange}
use Rattle.datastore_answers.specs.Changed as table
use Rattle.datastore_answers.specs.Consistent.{AreConsistent}
use Rattle.datastore_answers.specs.Fit.{IsFitCreate, IsOwn}
use Rattle.datastore_answers.specs.Order.{at_address, is_at, table_cmp}
use Rattle.datastore_answers.specs.Summaries.{summaries_of}
use Rattle.datastore_answers.specs.Tables.{is_table_among, table_at}
use Rattle.datastore_answers.specs.declared.address.Address.{Address}
use Rattle.datastore_answers.specs.declared.resource_table.ResourceTable.{ResourceTable}
use Rattle.datastore_answers.proofs.ChangeLemmas.{fit-kept}
use Rattle.datastore_answers.proofs.KeepLemmas.{at-is}
use Rattle.datastore_answers.proofs.ReferenceLemmas.{beside-found}
use Rattle.datastore_answers.proofs.TableLemmas.{there-at}
use Rattle.datastore_answers.proofs.ViewLemmas.{beside-seen}
use Rattle.portal_calls.specs.declared.call.Call.{Call}
use Rattle.portal_state.specs.Answer.{call_view_of}
use Rattle.portal_state.specs.Planned.{PlannedChange, People, Datasets, Tables, Sources, change_of, entries_of}
use Rattle.portal_state.specs.Changed.{applied, changed, charged, with_planned}
use Rattle.portal_state.specs.Fit.{IsFit}
use Rattle.portal_state.specs.State.{State}
use Rattle.portal_state.specs.Valid.{IsValid}
use Rattle.portal_state.specs.View.{view_of}
use Rattle.portal_state.proofs.Kept.{filter-narrower}
use Rattle.portal_state.proofs.Keeping.{fit_in_valid, harvested_open}
use Rattle.portal_state.proofs.TableViewing.{any-among, both}
use Rattle.portal_state.specs.Entries.{DropDataset, DropOrg, EditDataset, Entry, OfSources, state_after}
use Rattle.portal_state.specs.EntriesOf.{datasets_gone, drop_of_dataset, drop_of_role, drops_of, drops_of_table}
use Rattle.portal_state.specs.EntriesOf.{entries_of_tables, is_gone, puts_of, tables_gone}
use Rattle.portal_state.proofs.BatchEntries.{HasTable, batch-entries}
use Rattle.portal_state.proofs.DatasetEntries.{TakesDatasets, dataset-entries}
use Rattle.portal_state.proofs.PeopleEntries.{people-entries}
use Rattle.portal_state.proofs.SourceEntries.{RemovesNamed, of_source-harvested, removes-named, source-entries}
use Rattle.portal_state.proofs.SourceViews.{entries-seen}
use Rattle.portal_state.proofs.StateLemmas.{with_tables}
use Rattle.portal_state.proofs.TableEntries.{IsNew, state_after-delete_rows, state_after-drops_of_table}
use Rattle.portal_state.proofs.TableEntries.{state_after-new}

-- ---- the entries of a change in a state

-- The tables are such that the change can be made in them.
abbrev Takes : TableChange → List ResourceTable → Type 0
Takes (table.Create t) tables = IsNew t tables
Takes (table.Remove a) tables = (t : ResourceTable) × (found (at_address a) tables ≡ Some t)
Takes (table.Put a method records) tables = HasTable a tables
Takes (table.DeleteRows a ids) tables = Unit {0}

table-entries : (change : TableChange) (state : State) → Takes change state.tables
    → state_after (entries_of_tables change state.tables) state ≡ changed (Tables change) state
table-entries (table.Create t) state takes = state_after-new t state takes
table-entries (table.Remove a) state takes =
    ap (λ (o : Option ResourceTable). state_after (drops_of o) state) takes.1
    ∙ state_after-drops_of_table takes.0 state
    ∙ ap (λ (b : Address). with_tables (dropped (at_address b) state.tables) state)
    (at-is a takes.0 (there-at a state.tables takes.0 takes.1))
table-entries (table.Put a method records) state takes = batch-entries a method records state takes
table-entries (table.DeleteRows a ids) state takes = state_after-delete_rows a ids state

abbrev TakesChange : PlannedChange → State → Type 0
TakesChange (People change) state = Unit {0}
TakesChange (Datasets change) state = TakesDatasets change state.datasets
TakesChange (Tables change) state = Takes change state.tables
TakesChange (Sources change) state = IsAscending dataset_cmp state.datasets

change-entries : (change : PlannedChange) (state : State) → TakesChange change state
    → state_after (entries_of change state) state ≡ changed change state
change-entries (People change) state takes = people-entries change state
change-entries (Datasets change) state takes = dataset-entries change state takes
change-entries (Tables change) state takes = table-entries change state takes
change-entries (Sources change) state takes = source-entries change state takes

-- ---- the caller's own tables

-- The caller's own table is found at its address in the view,
pub own-found : (view : CallView) (ts : List ResourceTable) (a : Address) (own : IsOwn view ts a)
    → found (at_address a) ts ≡ Some own.table
own-found view ts a own =
    ap (λ (b : Address). found (at_address b) ts) own.here
    ∙ sym (beside-found own.placed.dataset.id own.placed.resource.number ts)
    ∙ own.exists

-- and in the state.
pub own-there : (call : Call) (state : State) (a : Address)
    (own : IsOwn (call_view_of call (view_of call.caller state)) (view_of call.caller state).tables a)
    → found (at_address a) state.tables ≡ Some own.table
own-there call state a own =
    ap (λ (b : Address). found (at_address b) state.tables) own.here
    ∙ sym (beside-found own.placed.dataset.id own.placed.resource.number state.tables)
    ∙ sym (ap (table_at own.placed.resource.number) (beside-seen own.placed seen state.tables
    (IsIn-Contains own.placed.dataset seen own.is_present)))
    ∙ own.exists
  where
    seen : List Package
    seen = datasets_seen call.caller state.people state.datasets

own-same : (call : Call) (state : State) (a : Address)
    → IsOwn (call_view_of call (view_of call.caller state)) (view_of call.caller state).tables a
    → found (at_address a) (view_of call.caller state).tables ≡ found (at_address a) state.tables
own-same call state a own =
    own-found (call_view_of call (view_of call.caller state)) (view_of call.caller state).tables a own
    ∙ sym (own-there call state a own)

-- Of each table of consistent ones the rows ascend, and it keeps no memory ready.
rows-ascend : (ts : List ResourceTable) → AreConsistent ts → (t : ResourceTable) → IsIn t ts
    → IsAscending row_cmp t.table.rows
rows-ascend ts kept t m =
    (All-IsIn (λ (u : ResourceTable). IsTable u.table.schema u.table.rows u.table.next_id) ts kept.valid t
    m).numbered.ascending

no-room : (ts : List ResourceTable) → AreConsistent ts → (t : ResourceTable) → IsIn t ts → t.table.room ≡ 0
no-room ts kept t m = All-IsIn (λ (u : ResourceTable). u.table.room ≡ 0) ts kept.unready t m

-- A table of a valid state, in tables that ascend and have it at its address.
table-has : (state : State) (a : Address) (t : ResourceTable) → IsValid state
    → found (at_address a) state.tables ≡ Some t → (tables : List ResourceTable) → IsAscending table_cmp tables
    → found (at_address a) tables ≡ Some t → HasTable a tables
table-has state a t valid here tables up there =
    let among : IsIn t state.tables = (IsIn-find (is_at a) t state.tables here).0 in
    record {
      table = t;
      there = there;
      ascending = up;
      rows = rows-ascend state.tables valid.tables t among;
      room = no-room state.tables valid.tables t among;
    }

-- There is no table at the address of a fit new one.
pub none-there : (view : CallView) (ts : List ResourceTable) (t : ResourceTable) (fit : IsFitCreate view ts t)
    → found (at_address t.address) ts ≡ None
none-there view ts t fit =
    ap (λ (b : Address). found (at_address b) ts) fit.own.here
    ∙ sym (beside-found fit.own.placed.dataset.id fit.own.placed.resource.number ts)
    ∙ fit.none

-- So it is new in tables without one there.
new-there : (call : Call) (state : State) (t : ResourceTable) → IsValid state
    → IsFit call state (Tables (table.Create t)) → (tables : List ResourceTable)
    → found (at_address t.address) tables ≡ None → IsNew t tables
new-there call state t valid fit tables none =
    let after : AreConsistent (upserted table_cmp t state.tables) =
    fit-kept (call_view_of call state) state.tables (table.Create t) valid.tables fit in
    let among : IsIn t (upserted table_cmp t state.tables) = upserted-IsIn table_cmp t state.tables in
    record {
      none = none;
      rows = rows-ascend (upserted table_cmp t state.tables) after t among;
      room = no-room (upserted table_cmp t state.tables) after t among;
    }

-- ---- the caller's own datasets

-- Datasets that a fit change can be made in, of a view in which it is fit.
takes-datasets : (change : DatasetChange) (view : CallView) (summaries : List TableSummary)
    → IsAscending dataset_cmp view.datasets → IsFitDataset view summaries change → TakesDatasets change view.datasets
takes-datasets (dataset.Create d) view summaries up fit = tt
takes-datasets (dataset.Replace d) view summaries up fit = record {
  old = fit.old;
  there = IsIn-Contains fit.old view.datasets fit.is_present;
  ascending = up;
  id = fit.id;
  name = fit.name;
  origin = fit.origin;
}
takes-datasets (dataset.Remove id) view summaries up fit = tt

-- ---- the entries of a fit change

in-state : (change : PlannedChange) (call : Call) (state : State) → IsValid state → IsFit call state change
    → TakesChange change state
in-state (People change) call state valid fit = tt
in-state (Datasets change) call state valid fit =
    takes-datasets change (call_view_of call state) (summaries_of state.tables) valid.datasets fit
in-state (Tables (table.Create t)) call state valid fit =
    new-there call state t valid fit state.tables (none-there (call_view_of call state) state.tables t fit)
in-state (Tables (table.Remove a)) call state valid fit =
    (fit.own.table, own-found (call_view_of call state) state.tables a fit.own)
in-state (Tables (table.Put a method records)) call state valid fit =
    let there : found (at_address a) state.tables ≡ Some fit.own.table =
    own-found (call_view_of call state) state.tables a fit.own in
    table-has state a fit.own.table valid there state.tables valid.tables.ascending there
in-state (Tables (table.DeleteRows a ids)) call state valid fit = tt
in-state (Sources change) call state valid fit = valid.datasets

in-view : (change : PlannedChange) (call : Call) (state : State) → IsValid state
    → IsFit call (view_of call.caller state) change → TakesChange change (view_of call.caller state)
in-view (People change) call state valid fit = tt
in-view (Datasets change) call state valid fit =
    takes-datasets change (call_view_of call (view_of call.caller state))
    (summaries_of (view_of call.caller state).tables)
    (IsAscending-filter dataset_cmp (sees_in state.people call.caller) state.datasets valid.datasets) fit
in-view (Tables (table.Create t)) call state valid fit =
    new-there call state t valid (fit_in_valid (Tables (table.Create t)) call state valid fit)
    (view_of call.caller state).tables
    (none-there (call_view_of call (view_of call.caller state)) (view_of call.caller state).tables t fit)
in-view (Tables (table.Remove a)) call state valid fit = (
  fit.own.table,
  own-found (call_view_of call (view_of call.caller state)) (view_of call.caller state).tables a fit.own,
)
in-view (Tables (table.Put a method records)) call state valid fit =
    table-has state a fit.own.table valid (own-there call state a fit.own) (view_of call.caller state).tables
    (IsAscending-filter table_cmp (is_table_among (datasets_seen call.caller state.people state.datasets))
    state.tables valid.tables.ascending)
    (own-found (call_view_of call (view_of call.caller state)) (view_of call.caller state).tables a fit.own)
in-view (Tables (table.DeleteRows a ids)) call state valid fit = tt
in-view (Sources change) call state valid fit =
    IsAscending-filter dataset_cmp (sees_in state.people call.caller) state.datasets valid.datasets

pub entries-in_view : (call : Call) (state : State) (change : PlannedChange) → IsValid state
    → IsFit call (view_of call.caller state) change
    → state_after (entries_of change (view_of call.caller state)) (view_of call.caller state)
    ≡ changed change (view_of call.caller state)
entries-in_view call state change valid fit =
    change-entries change (view_of call.caller state) (in-view change call state valid fit)

-- ---- what the view has

-- The view has all tables of a dataset that the caller sees, so also those that go.
gone-seen : (call : Call) (state : State) (d : Package) (id : List ℕ) (resources : List Resource)
    → Contains (view_of call.caller state).datasets d → d.id ≡ id
    → tables_gone id resources (view_of call.caller state).tables ≡ tables_gone id resources state.tables
gone-seen call state d id resources among same =
    filter-narrower (is_gone id resources) (is_table_among seen) state.tables
    (λ t within goes. any-among (λ (e : Package). bytes_eq t.address.dataset e.id) d seen
    (IsIn-Contains d seen among)
    (ap (bytes_eq t.address.dataset) same ∙ (both (bytes_eq t.address.dataset id) _ goes).0))
  where
    seen : List Package
    seen = datasets_seen call.caller state.people state.datasets

harvested-public : (d : Package) → is_public_if_harvested d ≡ true → is_harvested d ≡ true → is_public d ≡ true
harvested-public d free harvested = by (is_harvested d) free harvested
  where
    by : (h : Bool) → (not h || is_public d) ≡ true → h ≡ true → is_public d ≡ true
    by true is harvested = is
    by false is harvested = absurd (cc)

-- In a valid state everybody sees the datasets of a source with a name, so also those that go.
datasets_gone-seen : (change : SourceChange) (call : Call) (state : State) → IsValid state → RemovesNamed change
    → datasets_gone change (view_of call.caller state).datasets ≡ datasets_gone change state.datasets
datasets_gone-seen (source.Create new) call state valid named = refl
datasets_gone-seen (source.Update name title url) call state valid named = refl
datasets_gone-seen (source.Remove name) call state valid named =
    filter-narrower (is_of_source name) (sees_in state.people call.caller) state.datasets
    (λ d within of_source. public_is_seen state.people call.caller d
    (harvested-public d
    (list_all-IsIn is_public_if_harvested state.datasets (harvested_open state valid) d within)
    (of_source-harvested name d named of_source)))
datasets_gone-seen (source.AddJob name created) call state valid named = refl

pub entries-same : (call : Call) (state : State) (change : PlannedChange)
    → IsValid state → IsFit call (view_of call.caller state) change
    → entries_of change (view_of call.caller state) ≡ entries_of change state
entries-same call state (People (org.Create o)) valid fit = refl
entries-same call state (People (org.Patch o)) valid fit = refl
entries-same call state (People (org.Remove name)) valid fit =
    ap (λ (roles : List Membership). map drop_of_role roles ++ DropOrg name ∷ [])
    (members_seen call.caller state.people name fit.own.administered)
entries-same call state (People (org.SetRole name user role)) valid fit = refl
entries-same call state (People (org.DropRole name user)) valid fit = refl
entries-same call state (Datasets (dataset.Create d)) valid fit = refl
entries-same call state (Datasets (dataset.Replace d)) valid fit =
    ap (λ (gone : List ResourceTable). flat_map drops_of_table gone ++ EditDataset d.id (edit_of d) ∷ [])
    (gone-seen call state fit.old d.id d.resources fit.is_present fit.id)
entries-same call state (Datasets (dataset.Remove id)) valid fit =
    ap (λ (gone : List ResourceTable). flat_map drops_of_table gone ++ DropDataset id ∷ [])
    (gone-seen call state fit.old id [] fit.is_present fit.id)
entries-same call state (Tables (table.Create t)) valid fit = refl
entries-same call state (Tables (table.Remove a)) valid fit = ap drops_of (own-same call state a fit.own)
entries-same call state (Tables (table.Put a method records)) valid fit =
    ap (puts_of method records) (own-same call state a fit.own)
entries-same call state (Tables (table.DeleteRows a ids)) valid fit = refl
entries-same call state (Sources change) valid fit =
    ap₂ (λ (gone : List Package) (entries : List SourceEntry). map drop_of_dataset gone ++ map OfSources entries)
    (datasets_gone-seen change call state valid
    (removes-named change (call_view_of call state) state.sources valid.sources.named
    (fit_in_valid (Sources change) call state valid fit)))
    (entries-seen (call_view_of call (view_of call.caller state)) call.caller state.people state.sources change
    valid.sources.ascending fit)

-- What is fit to be made in the state is made by its entries there.
pub entries-made : (call : Call) (state : State) (change : PlannedChange) → IsValid state → IsFit call state change
    → state_after (entries_of change state) state ≡ changed change state
entries-made call state change valid fit = change-entries change state (in-state change call state valid fit)

pub entries-in_state : (call : Call) (state : State) (change : PlannedChange) → IsValid state
    → IsFit call (view_of call.caller state) change
    → state_after (entries_of change (view_of call.caller state)) state ≡ changed change state
entries-in_state call state change valid fit =
    ap (λ (entries : List Entry). state_after entries state) (entries-same call state change valid fit)
    ∙ entries-made call state change valid (fit_in_valid change call state valid fit)

-- So a fit change that is applied is the planned one, with its charge.
pub applied-planned : (planned : PlannedChange) (call : Call) (state : State) → IsValid state
    → IsFit call (view_of call.caller state) planned
    → applied call (change_of planned (view_of call.caller state)) state ≡ with_planned call planned state
applied-planned planned call state valid fit =
    ap (charged call.caller call.size) (entries-in_state call state planned valid fit)

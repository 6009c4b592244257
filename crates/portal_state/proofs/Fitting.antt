-- A change that is fit on a caller's view is fit on the state.
use Rattle.std.proofs.lemmas.Map.Views.{any-filter_same}
use Rattle.std.proofs.Common.{◌≡◌, ◌⊎◌, inl, inr, ℕ, Bool, true, false, ◌&&◌, List, Option, None, refl, sym, ap}
use Rattle.std.proofs.Common.{◌∙◌, subst}
use Rattle.std.specs.Prelude.{is_some}
use Rattle.std.specs.List.{Contains, list_all, list_any}
use Rattle.std.specs.Str.{bytes_eq}
use Rattle.std.proofs.lemmas.Option.{same_Some}
use Rattle.std.proofs.lemmas.Slice.Eq.{bytes_eq-Decides}
use Rattle.portal_base.specs.Ordered.{IsAscending}
use Rattle.portal_base.proofs.Filtered.{IsIn-filter}
use Rattle.portal_base.proofs.Unique.{IsIn-Contains, Contains-IsIn}
use Rattle.portal_base.specs.declared.caller.Caller.{Caller}
use Rattle.org_roles.specs.PeopleLists.{PeopleLists}
use Rattle.org_roles.specs.declared.change.OrgChange.{OrgChange}
use Rattle.org_roles.specs.declared.change.OrgChange.TheVariants.{Create, Patch, Remove, SetRole, DropRole}
use Rattle.org_roles.specs.declared.role.Role.{Role}
use Rattle.packages.specs.Named.{Located}
use Rattle.packages.specs.declared.package.Package.{Package}
use Rattle.packages.specs.declared.package.Resource.{Resource}
use Rattle.packages.proofs.FindLemmas.{list_any-map}
use Rattle.portal_calls.specs.declared.call.Call.{Call}
use Rattle.dataset_answers.specs.Fit.{IsFitDataset, KeepsResources}
use Rattle.dataset_answers.specs.Sound.{IsSound}
use Rattle.dataset_answers.specs.declared.change.DatasetChange.{DatasetChange}
use Rattle.dataset_answers.specs.declared.change.DatasetChange.TheVariants as dataset
use Rattle.datastore_table.specs.declared.method.Method.TheVariants as method
use Rattle.datastore_answers.proofs.ViewLemmas.{beside-seen}
use Rattle.datastore_answers.specs.TableAnswers.{address_of, tables_beside}
use Rattle.datastore_answers.specs.Changed.{TableChange}
use Rattle.datastore_answers.specs.Changed as table
use Rattle.datastore_answers.specs.Described.{empty_table}
use Rattle.datastore_answers.specs.Fit.{IsFitTable, IsOwn}
use Rattle.datastore_answers.specs.Summaries.{summary_of, summaries_of}
use Rattle.datastore_answers.specs.Linked.{put_among}
use Rattle.datastore_answers.specs.Resolution.{resolved_targets}
use Rattle.datastore_answers.specs.Restrict.{delete_among, is_referenced}
use Rattle.datastore_answers.specs.Tables.{is_table_among, table_at, tables_seen}
use Rattle.datastore_answers.specs.Errors.{delete_rows_error, put_error}
use Rattle.datastore_answers.specs.declared.address.Address.{Address}
use Rattle.datastore_answers.specs.declared.resource_table.ResourceTable.{ResourceTable}
use Rattle.harvest_answers.proofs.ViewLemmas.{fault_seen}
use Rattle.harvest_answers.specs.Fit.{IsFitEdit, IsFitSource}
use Rattle.harvest_answers.specs.View.{sources_seen}
use Rattle.harvest_sources.specs.Entries.{fault_if_open, source_fault}
use Rattle.harvest_sources.specs.Sources.{SourceState, source_cmp, source_named}
use Rattle.harvest_sources.specs.declared.change.SourceChange.{SourceChange}
use Rattle.harvest_sources.specs.declared.change.SourceChange.TheVariants as source
use Rattle.organization_answers.specs.Fit.{IsFitOrg, IsAdministered, IsFitRole}
use Rattle.organization_answers.specs.Owners.{owners_of, owns_source}
use Rattle.visibility.specs.TableSummary.{TableSummary, is_among, breaks_references, refers_outside}
use Rattle.visibility.specs.View.{administers, people_seen, datasets_seen}
use Rattle.visibility.specs.Visibility.{is_public_if_harvested, sees_in}
use Rattle.visibility.proofs.PublicLemmas.{has_datasets_administered}
use Rattle.visibility.proofs.ViewLemmas.{may_edit_in_seen, administers_seen, is_sysadmin_in_seen, is_user_in_seen}
use Rattle.visibility.proofs.ViewLemmas.{role_in_administered}
use Rattle.portal_state.proofs.TableViewing.{both, own-id}
use Rattle.portal_state.specs.Answer.{call_view_of}
use Rattle.portal_state.proofs.SourceKeeping.{owners-kept_seen}
use Rattle.portal_state.proofs.SourceViews.{unfaulted-there}
use Rattle.portal_state.specs.Planned.{PlannedChange, People, Datasets, Tables, Sources}
use Rattle.portal_state.specs.Fit.{IsFit}
use Rattle.portal_state.specs.State.{State}
use Rattle.portal_state.specs.View.{view_of}

-- ---- people

administered : (call : Call) (state : State) (org : List ℕ)
    → IsAdministered (call_view_of call (view_of call.caller state)) org → IsAdministered (call_view_of call state) org
administered call state org own = record {
  exists = own.exists;
  administered = sym (administers_seen call.caller state.people org) ∙ own.administered;
}

role : (call : Call) (state : State) (org user : List ℕ)
    → IsFitRole (call_view_of call (view_of call.caller state)) org user → IsFitRole (call_view_of call state) org user
role call state org user fit = record {
  own = administered call state org fit.own;
  user_exists = sym (is_user_in_seen call.caller state.people user) ∙ fit.user_exists;
}

-- An organization that the caller administers owns a source that the caller sees just if it owns one at all.
owns_source_seen : (caller : Caller) (people : PeopleLists) (org : List ℕ) (sources : List SourceState)
    → administers people caller org ≡ true
    → owns_source org (owners_of (sources_seen caller people sources)) ≡ owns_source org (owners_of sources)
owns_source_seen caller people org sources own =
    ap (owns_source org) (owners-kept_seen caller people sources)
    ∙ any-filter_same (λ (owner : List ℕ). bytes_eq owner org) (administers people caller) true
    (λ owner same. ap (administers people caller) ((bytes_eq-Decides owner org).0 same) ∙ own) (owners_of sources)

people-fit : (change : OrgChange) (call : Call) (state : State) → list_all is_public_if_harvested state.datasets ≡ true
    → IsFitOrg (call_view_of call (view_of call.caller state)) (owners_of (view_of call.caller state).sources) change
    → IsFitOrg (call_view_of call state) (owners_of state.sources) change
people-fit (Create org) call state harvested fit = record {
  named = fit.named;
  sysadmin = sym (is_sysadmin_in_seen call.caller state.people) ∙ fit.sysadmin;
}
people-fit (Patch org) call state harvested fit = administered call state org.name fit
people-fit (Remove name) call state harvested fit =
    let own = administered call state name fit.own in
    record {
      own = own;
      empty = sym
          (has_datasets_administered call.caller state.people name state.datasets own.administered harvested)
          ∙ fit.empty;
      unharvested = sym (owns_source_seen call.caller state.people name state.sources own.administered)
          ∙ fit.unharvested;
    }
people-fit (SetRole org user given) call state harvested fit = role call state org user fit
people-fit (DropRole org user) call state harvested fit =
    let own = role call state org user fit.fit in
    record {
      fit = own;
      has_role = ap (λ (r : Option Role). is_some r)
          (sym (role_in_administered call.caller state.people org user own.own.administered)) ∙ fit.has_role;
    }

-- ---- datasets

-- a dataset of the view is one of the state
seen-stands : (caller : Caller) (people : PeopleLists) (datasets : List Package) (d : Package)
    → Contains (datasets_seen caller people datasets) d → Contains datasets d
seen-stands caller people datasets d seen =
    Contains-IsIn d datasets
    (IsIn-filter (sees_in people caller) d datasets (IsIn-Contains d (datasets_seen caller people datasets) seen)).0

-- organizations are seen as they are
sound-seen : (caller : Caller) (people : PeopleLists) (d : Package) → IsSound people d
    → IsSound (people_seen caller people) d
sound-seen caller people d is = record {
  not_harvested = is.not_harvested;
  id = is.id;
  name = is.name;
  org = is.org;
  resources = is.resources;
  tags = is.tags;
}

sound-there : (caller : Caller) (people : PeopleLists) (d : Package) → IsSound (people_seen caller people) d
    → IsSound people d
sound-there caller people d is = record {
  not_harvested = is.not_harvested;
  id = is.id;
  name = is.name;
  org = is.org;
  resources = is.resources;
  tags = is.tags;
}

-- the tables of a dataset that is seen are seen
breaks_reference-seen : (ds : List Package) (tables : List ResourceTable) (id : List ℕ) (resources : List Resource)
    → list_any (λ (e : Package). bytes_eq id e.id) ds ≡ true
    → breaks_references (summaries_of (tables_seen ds tables)) id resources
    ≡ breaks_references (summaries_of tables) id resources
breaks_reference-seen ds tables id resources seen =
    list_any-map summary_of test (tables_seen ds tables)
    ∙ any-filter_same (λ t. test (summary_of t)) (is_table_among ds) true
    (λ t passes. subst (λ (dataset : List ℕ). list_any (λ (e : Package). bytes_eq dataset e.id) ds ≡ true)
    (sym ((bytes_eq-Decides t.address.dataset id).0 (both _ _ passes).0)) seen) tables
    ∙ sym (list_any-map summary_of test tables)
  where
    test : TableSummary → Bool
    test h = bytes_eq h.dataset id && (is_among resources h.number && refers_outside resources h.targets)

datasets-fit : (change : DatasetChange) (call : Call) (state : State)
    → IsFitDataset (call_view_of call (view_of call.caller state)) (summaries_of (view_of call.caller state).tables)
    change
    → IsFitDataset (call_view_of call state) (summaries_of state.tables) change
datasets-fit (dataset.Create d) call state fit = record {
  sound = sound-there call.caller state.people d fit.sound;
  own = sym (may_edit_in_seen call.caller state.people d) ∙ fit.own;
}
datasets-fit (dataset.Replace d) call state fit = record {
  old = fit.old;
  is_present = seen-stands call.caller state.people state.datasets fit.old fit.is_present;
  own = sym (may_edit_in_seen call.caller state.people fit.old) ∙ fit.own;
  id = fit.id;
  name = fit.name;
  origin = fit.origin;
  sound = λ was. sound-there call.caller state.people d
      (fit.sound (sound-seen call.caller state.people fit.old was));
  keeps_references = by fit.keeps_references;
}
  where
    seen : List Package
    seen = datasets_seen call.caller state.people state.datasets

    by : KeepsResources fit.old d
        ⊎ (breaks_references (summaries_of (tables_seen seen state.tables)) d.id d.resources ≡ false)
        → KeepsResources fit.old d ⊎ (breaks_references (summaries_of state.tables) d.id d.resources ≡ false)
    by (inl keeps) = inl keeps
    by (inr none) =
        inr (sym (breaks_reference-seen seen state.tables d.id d.resources
        (subst (λ (id : List ℕ). list_any (λ (e : Package). bytes_eq id e.id) seen ≡ true) fit.id
        (own-id fit.old seen (IsIn-Contains fit.old seen fit.is_present)))) ∙ none)
datasets-fit (dataset.Remove id) call state fit = record {
  old = fit.old;
  is_present = seen-stands call.caller state.people state.datasets fit.old fit.is_present;
  id = fit.id;
  not_harvested = fit.not_harvested;
  sysadmin = sym (is_sysadmin_in_seen call.caller state.people) ∙ fit.sysadmin;
}

-- ---- tables

-- the tables beside one of a dataset that is seen are seen
beside-there : (call : Call) (state : State) (placed : Located)
    → Contains (datasets_seen call.caller state.people state.datasets) placed.dataset
    → tables_beside placed (view_of call.caller state).tables ≡ tables_beside placed state.tables
beside-there call state placed stood =
    beside-seen placed (datasets_seen call.caller state.people state.datasets) state.tables
    (IsIn-Contains placed.dataset (datasets_seen call.caller state.people state.datasets) stood)

own-there : (call : Call) (state : State) (address : Address)
    → IsOwn (call_view_of call (view_of call.caller state)) (view_of call.caller state).tables address
    → IsOwn (call_view_of call state) state.tables address
own-there call state address own = record {
  placed = own.placed;
  is_present = seen-stands call.caller state.people state.datasets own.placed.dataset own.is_present;
  here = own.here;
  own = sym (may_edit_in_seen call.caller state.people own.placed.dataset) ∙ own.own;
  table = own.table;
  exists = ap (table_at own.placed.resource.number) (sym (beside-there call state own.placed own.is_present)) ∙ own.exists;
}

tables-fit : (change : TableChange) (call : Call) (state : State)
    → IsFitTable (call_view_of call (view_of call.caller state)) (view_of call.caller state).tables change
    → IsFitTable (call_view_of call state) state.tables change
unfolding own-there
tables-fit (table.Create t) call state fit =
    let beside = beside-there call state fit.own.placed fit.own.is_present in
    record {
      own = record {
        placed = fit.own.placed;
        is_present = seen-stands call.caller state.people state.datasets fit.own.placed.dataset fit.own.is_present;
        named = fit.own.named;
        here = fit.own.here;
        own = sym (may_edit_in_seen call.caller state.people fit.own.placed.dataset) ∙ fit.own.own;
      };
      none = ap (table_at fit.own.placed.resource.number) (sym beside) ∙ fit.none;
      schema = fit.schema;
      described = fit.described;
      targets = fit.targets;
      resolved = ap (λ (b : List ResourceTable). resolved_targets fit.own.placed b fit.schema) (sym beside) ∙ fit.resolved;
      records = fit.records;
      taken = ap (λ (b : List ResourceTable). put_error (put_among b method.Insert fit.records
          (empty_table (address_of fit.own.placed) fit.schema fit.targets))) (sym beside) ∙ fit.taken;
      made = fit.made;
    }
tables-fit (table.Remove address) call state fit = record {
  own = own-there call state address fit.own;
  unreferenced = ap (is_referenced fit.own.placed.resource.number)
      (sym (beside-there call state fit.own.placed fit.own.is_present)) ∙ fit.unreferenced;
}
tables-fit (table.Put address how records) call state fit = record {
  own = own-there call state address fit.own;
  taken = ap (λ (b : List ResourceTable). put_error (put_among b how records fit.own.table))
      (sym (beside-there call state fit.own.placed fit.own.is_present)) ∙ fit.taken;
}
tables-fit (table.DeleteRows address ids) call state fit = record {
  own = own-there call state address fit.own;
  keeps_references = ap (λ (b : List ResourceTable). delete_rows_error (delete_among b fit.own.placed.resource.number ids fit.own.table))
      (sym (beside-there call state fit.own.placed fit.own.is_present)) ∙ fit.keeps_references;
}

-- ---- sources

-- A change that has no fault among the sources of the view has none among all, and is one of the same source.
edit-fit : (name : List ℕ) (change : SourceChange) (call : Call) (state : State) → IsAscending source_cmp state.sources
    → ((sources : List SourceState) → source_fault change sources ≡ fault_if_open (source_named sources name))
    → IsFitEdit (call_view_of call (view_of call.caller state)) (view_of call.caller state).sources name change
    → IsFitEdit (call_view_of call state) state.sources name change
edit-fit name change call state up fault fit =
    let view : List SourceState = (view_of call.caller state).sources in
    let none : fault_if_open (source_named view name) ≡ None = sym (fault view) ∙ fit.possible in
    let there = unfaulted-there call.caller state.people state.sources name up none in
    record {
      possible = fault state.sources ∙ fault_seen call.caller state.people state.sources name up none;
      administered = λ s is.
          let same : there.source ≡ s = same_Some there.source s (sym there.there ∙ is) in
          subst (λ (t : SourceState). administers state.people call.caller t.source.owner_org ≡ true) same there.sees;
    }

sources-fit : (change : SourceChange) (call : Call) (state : State) → IsAscending source_cmp state.sources
    → IsFitSource (call_view_of call (view_of call.caller state)) (view_of call.caller state).sources change
    → IsFitSource (call_view_of call state) state.sources change
sources-fit (source.Create new) call state up fit = record {
  name = fit.name;
  named = fit.named;
  location = fit.location;
  owned = fit.owned;
  administered = sym (administers_seen call.caller state.people new.owner_org) ∙ fit.administered;
  first = fit.first;
}
sources-fit (source.Update name title url) call state up fit =
    edit-fit name (source.Update name title url) call state up (λ sources. refl) fit
sources-fit (source.Remove name) call state up fit =
    edit-fit name (source.Remove name) call state up (λ sources. refl) fit
sources-fit (source.AddJob name created) call state up fit =
    edit-fit name (source.AddJob name created) call state up (λ sources. refl) fit

-- ---- all changes

pub fit_in_state : (change : PlannedChange) (call : Call) (state : State)
    → list_all is_public_if_harvested state.datasets ≡ true → IsAscending source_cmp state.sources
    → IsFit call (view_of call.caller state) change → IsFit call state change
fit_in_state (People change) call state harvested up fit = people-fit change call state harvested fit
fit_in_state (Datasets change) call state harvested up fit = datasets-fit change call state fit
fit_in_state (Tables change) call state harvested up fit = tables-fit change call state fit
fit_in_state (Sources change) call state harvested up fit = sources-fit change call state up fit

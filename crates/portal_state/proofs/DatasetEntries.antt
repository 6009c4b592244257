-- The entries of a change of datasets make it, and what the drops of datasets leave.
use Rattle.std.proofs.Common.{◌≡◌, ℕ, Bool, true, false, not, ◌&&◌, ◌||◌, List, [], ◌∷◌, refl, sym, ap, ap₂}
use Rattle.std.proofs.Common.{◌∙◌, if◌then◌else◌, map}
use Rattle.std.specs.Prelude.{filter}
use Rattle.std.specs.List.{flat_map, list_any}
use Rattle.std.specs.Ordering.{is_eq}
use Rattle.std.specs.Str.{bytes_eq}
use Rattle.std.specs.declared.cmp.Ordering.{Ordering}
use Rattle.std.proofs.lemmas.Cmp.{tied_itself}
use Rattle.std.proofs.lemmas.List.Elements.{filter_agree}
use Rattle.std.proofs.lemmas.Map.Text.{is_eq-slice_cmp}
use Rattle.std.proofs.lemmas.Slice.Eq.{bytes_eq-Decides}
use Rattle.portal_base.specs.Ordered.{IsAscending, dropped, upserted}
use Rattle.portal_base.proofs.Filtered.{IsIn-filter, filter-IsIn}
use Rattle.portal_base.proofs.Removed.{is_eq_true}
use Rattle.portal_base.proofs.Unique.{IsIn}
use Rattle.packages.specs.Order.{dataset_cmp, dataset_cmp_total}
use Rattle.packages.specs.declared.package.Package.{Package}
use Rattle.packages.specs.declared.package.Resource.{Resource}
use Rattle.packages.proofs.FindLemmas.{none-list_any}
use Rattle.visibility.specs.TableSummary.{is_among}
use Rattle.dataset_answers.specs.Changed.{dataset_at_id}
use Rattle.dataset_answers.specs.Edits.{edit_of, edited, origin_of}
use Rattle.dataset_answers.specs.declared.change.DatasetChange.{DatasetChange}
use Rattle.dataset_answers.specs.declared.change.DatasetChange.TheVariants as dataset
use Rattle.dataset_answers.proofs.EditLemmas.{edited-same}
use Rattle.datastore_answers.specs.Order.{at_address, is_at, table_cmp_total}
use Rattle.datastore_answers.specs.Tables.{tables_kept}
use Rattle.datastore_answers.specs.declared.address.Address.{Address}
use Rattle.datastore_answers.specs.declared.resource_table.ResourceTable.{ResourceTable}
use Rattle.datastore_answers.proofs.KeepLemmas.{at-is}
use Rattle.harvest_results.specs.Effects.{is_of_source, without}
use Rattle.portal_state.specs.Planned.{Datasets}
use Rattle.portal_state.specs.Changed.{changed}
use Rattle.portal_state.specs.State.{State}
use Rattle.portal_state.proofs.TableViewing.{any-among}
use Rattle.portal_state.specs.Entries.{DropDataset, EditDataset, changed_by, state_after, with_edit}
use Rattle.portal_state.specs.EntriesOf.{drop_of_dataset, drops_of_table, entries_of_datasets, is_gone, tables_gone}
use Rattle.portal_state.proofs.DropLemmas.{all_dropped, all_dropped-filter, filter-agree_in, map-agree_in}
use Rattle.portal_state.proofs.DropLemmas.{upserted-replaced}
use Rattle.portal_state.proofs.Kept.{unique-at}
use Rattle.portal_state.proofs.StateLemmas.{state_after-++, with_tables}
use Rattle.portal_state.proofs.TableEntries.{state_after-drops_of_table}

-- ---- tables that are dropped

-- the order of a table's address against that of this one
abbrev pub at_table : ResourceTable → ResourceTable → Ordering
at_table t u = at_address t.address u

pub state_after-tables : (gone : List ResourceTable) (state : State)
    → state_after (flat_map drops_of_table gone) state ≡ with_tables (all_dropped at_table gone state.tables) state
state_after-tables [] state = refl
state_after-tables (t ∷ gone) state =
    state_after-++ (drops_of_table t) (flat_map drops_of_table gone) state
    ∙ ap (state_after (flat_map drops_of_table gone)) (state_after-drops_of_table t state)
    ∙ state_after-tables gone (with_tables (dropped (at_address t.address) state.tables) state)

-- To drop each table that goes is to keep those that stay.
pub tables-dropped : (id : List ℕ) (resources : List Resource) (tables : List ResourceTable)
    → all_dropped at_table (tables_gone id resources tables) tables ≡ tables_kept id resources tables
tables-dropped id resources tables =
    all_dropped-filter at_table gone tables
    ∙ filter-agree_in (λ u. not (list_any (λ t. is_eq (at_table t u)) gone))
    (λ u. not (bytes_eq u.address.dataset id) || is_among resources u.address.number) tables
    (λ u within. ap not (by u within (is_gone id resources u) refl)
    ∙ stays (bytes_eq u.address.dataset id) (is_among resources u.address.number))
  where
    gone : List ResourceTable
    gone = tables_gone id resources tables

    stays : (a b : Bool) → not (a && not b) ≡ (not a || b)
    stays true true = refl
    stays true false = refl
    stays false b = refl

    apart : (u t : ResourceTable) → is_gone id resources u ≡ false → is_gone id resources t ≡ true
        → is_at t.address u ≡ false
    apart u t stay goes = by_address (is_at t.address u) refl
      where
        by_address : (b : Bool) → is_at t.address u ≡ b → b ≡ false
        by_address false is = refl
        by_address true is =
            let go : is_gone id resources u ≡ true =
            ap (λ (a : Address). bytes_eq a.dataset id && not (is_among resources a.number)) (at-is t.address u is)
            ∙ goes in
            absurd (cc)

    by : (u : ResourceTable) → IsIn u tables → (b : Bool) → is_gone id resources u ≡ b
        → list_any (λ t. is_eq (at_table t u)) gone ≡ is_gone id resources u
    by u within true is =
        any-among (λ t. is_eq (at_table t u)) u gone
        (filter-IsIn (is_gone id resources) u tables within is)
        (ap is_eq (tied_itself table_cmp_total u))
        ∙ sym is
    by u within false is =
        none-list_any (λ t. is_eq (at_table t u)) gone
        (λ t among. apart u t is (IsIn-filter (is_gone id resources) t tables among).1)
        ∙ sym is

-- ---- edits

-- The dataset replaces one of these datasets, which ascend, and keeps its id, its name and its origin.
pub record HasOriginal (new : Package) (datasets : List Package) : Type 0 where
  pub old : Package
  pub there : IsIn old datasets
  pub ascending : IsAscending dataset_cmp datasets
  pub id : old.id ≡ new.id
  pub name : old.name ≡ new.name
  pub origin : origin_of old ≡ origin_of new

-- To edit the dataset of its id to what a dataset has is to put that one in its place.
with_edit-upserted : (new : Package) (datasets : List Package) → HasOriginal new datasets
    → with_edit new.id (edit_of new) datasets ≡ upserted dataset_cmp new datasets
with_edit-upserted new datasets has =
    map-agree_in (λ d. if bytes_eq d.id new.id then edited (edit_of new) d else d)
    (λ d. if is_eq (dataset_cmp d new) then new else d) datasets
    (λ d within. by d within (bytes_eq d.id new.id) refl)
    ∙ sym (upserted-replaced dataset_cmp dataset_cmp_total new has.old datasets has.ascending has.there
    (is_eq_true (dataset_cmp has.old new)
    (is_eq-slice_cmp has.old.id new.id ∙ (bytes_eq-Decides has.old.id new.id).1 has.id)))
  where
    -- a dataset with that id is the original one
    original : (d : Package) → IsIn d datasets → bytes_eq d.id new.id ≡ true → d ≡ has.old
    original d within is =
        unique-at dataset_cmp dataset_cmp_total datasets has.ascending d has.old within has.there
        (is_eq-slice_cmp d.id has.old.id
        ∙ (bytes_eq-Decides d.id has.old.id).1 ((bytes_eq-Decides d.id new.id).0 is ∙ sym has.id))

    by : (d : Package) → IsIn d datasets → (b : Bool) → bytes_eq d.id new.id ≡ b
        → (if b then edited (edit_of new) d else d) ≡ (if is_eq (dataset_cmp d new) then new else d)
    by d within true is =
        ap (edited (edit_of new)) (original d within is)
        ∙ edited-same has.old new has.id has.name has.origin
        ∙ ap (λ c. if c then new else d) (sym (is_eq-slice_cmp d.id new.id ∙ is))
    by d within false is = ap (λ c. if c then new else d) (sym (is_eq-slice_cmp d.id new.id ∙ is))

-- ---- changes of datasets

-- The datasets are such that the change can be made in them.
abbrev pub TakesDatasets : DatasetChange → List Package → Type 0
TakesDatasets (dataset.Create d) datasets = Unit {0}
TakesDatasets (dataset.Replace d) datasets = HasOriginal d datasets
TakesDatasets (dataset.Remove id) datasets = Unit {0}

pub dataset-entries : (change : DatasetChange) (state : State) → TakesDatasets change state.datasets
    → state_after (entries_of_datasets change state.tables) state ≡ changed (Datasets change) state
dataset-entries (dataset.Create d) state takes = refl
dataset-entries (dataset.Replace d) state takes =
    state_after-++ (flat_map drops_of_table (tables_gone d.id d.resources state.tables))
    (EditDataset d.id (edit_of d) ∷ []) state
    ∙ ap (changed_by (EditDataset d.id (edit_of d))) (state_after-tables (tables_gone d.id d.resources state.tables) state)
    ∙ ap₂ (λ (datasets : List Package) (tables : List ResourceTable). record state { datasets = datasets; tables = tables })
    (with_edit-upserted d state.datasets takes) (tables-dropped d.id d.resources state.tables)
dataset-entries (dataset.Remove id) state takes =
    state_after-++ (flat_map drops_of_table (tables_gone id [] state.tables)) (DropDataset id ∷ []) state
    ∙ ap (changed_by (DropDataset id)) (state_after-tables (tables_gone id [] state.tables) state)
    ∙ ap
    (λ (tables : List ResourceTable). record state {
      datasets = dropped (dataset_at_id id) state.datasets;
      tables = tables;
    })
    (tables-dropped id [] state.tables)

-- ---- datasets that are dropped

-- the state with these datasets
abbrev pub with_datasets : List Package → State → State
with_datasets datasets state = record state { datasets = datasets }

-- the order of a dataset's id against that of this one
abbrev pub at_dataset : Package → Package → Ordering
at_dataset d e = dataset_at_id d.id e

pub state_after-datasets_dropped : (gone : List Package) (state : State)
    → state_after (map drop_of_dataset gone) state ≡ with_datasets (all_dropped at_dataset gone state.datasets) state
state_after-datasets_dropped [] state = refl
state_after-datasets_dropped (d ∷ gone) state =
    state_after-datasets_dropped gone (with_datasets (dropped (dataset_at_id d.id) state.datasets) state)

turned : (a b : List ℕ) → bytes_eq a b ≡ bytes_eq b a
turned a b = by (bytes_eq a b) refl (bytes_eq b a) refl
  where
    by : (s : Bool) → bytes_eq a b ≡ s → (t : Bool) → bytes_eq b a ≡ t → s ≡ t
    by true is true back = refl
    by false is false back = refl
    by true is false back =
        let same : bytes_eq b a ≡ true = (bytes_eq-Decides b a).1 (sym ((bytes_eq-Decides a b).0 is)) in absurd (cc)
    by false is true back =
        let same : bytes_eq a b ≡ true = (bytes_eq-Decides a b).1 (sym ((bytes_eq-Decides b a).0 back)) in absurd (cc)

any-dropped : (e : Package) (gone : List Package)
    → list_any (λ d. is_eq (at_dataset d e)) gone ≡ list_any (λ (other : Package). bytes_eq other.id e.id) gone
any-dropped e [] = refl
any-dropped e (d ∷ gone) =
    ap₂ (λ (a b : Bool). a || b) (is_eq-slice_cmp e.id d.id ∙ turned e.id d.id) (any-dropped e gone)

-- To drop each of some datasets is to keep those with other ids.
pub dropped-without : (gone datasets : List Package) → all_dropped at_dataset gone datasets ≡ without gone datasets
dropped-without gone datasets =
    all_dropped-filter at_dataset gone datasets
    ∙ filter_agree (λ e. not (list_any (λ d. is_eq (at_dataset d e)) gone))
    (λ e. not (list_any (λ (other : Package). bytes_eq other.id e.id) gone)) (λ e. ap not (any-dropped e gone)) datasets

-- To drop each dataset of a source, of datasets that ascend, is to keep those of others.
pub datasets-dropped : (name : List ℕ) (datasets : List Package) → IsAscending dataset_cmp datasets
    → all_dropped at_dataset (filter (is_of_source name) datasets) datasets
    ≡ filter (λ d. not (is_of_source name d)) datasets
datasets-dropped name datasets up =
    all_dropped-filter at_dataset gone datasets
    ∙ filter-agree_in (λ e. not (list_any (λ d. is_eq (at_dataset d e)) gone)) (λ e. not (is_of_source name e)) datasets
    (λ e within. ap not (by e within (is_of_source name e) refl))
  where
    gone : List Package
    gone = filter (is_of_source name) datasets

    apart : (e d : Package) → IsIn e datasets → is_of_source name e ≡ false → IsIn d datasets
        → is_of_source name d ≡ true → is_eq (at_dataset d e) ≡ false
    apart e d in_e stays in_d goes = by_id (is_eq (at_dataset d e)) refl
      where
        by_id : (b : Bool) → is_eq (at_dataset d e) ≡ b → b ≡ false
        by_id false is = refl
        by_id true is =
            let go : is_of_source name e ≡ true =
            ap (is_of_source name) (unique-at dataset_cmp dataset_cmp_total datasets up e d in_e in_d is) ∙ goes in
            absurd (cc)

    by : (e : Package) → IsIn e datasets → (b : Bool) → is_of_source name e ≡ b
        → list_any (λ d. is_eq (at_dataset d e)) gone ≡ is_of_source name e
    by e within true is =
        any-among (λ d. is_eq (at_dataset d e)) e gone (filter-IsIn (is_of_source name) e datasets within is)
        (ap is_eq (tied_itself dataset_cmp_total e))
        ∙ sym is
    by e within false is =
        none-list_any (λ d. is_eq (at_dataset d e)) gone
        (λ d among. let was = IsIn-filter (is_of_source name) d datasets among in apart e d within is was.0 was.1)
        ∙ sym is

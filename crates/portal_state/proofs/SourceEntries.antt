-- The entries of a change of sources make it, and drop no source that has jobs or datasets, and no dataset that has tables.
use Rattle.std.proofs.Common.{◌≡◌, ℕ, ℤ, Bool, true, false, cond, List, [], ◌∷◌, ◌++◌, Option, Some, None, map}
use Rattle.std.proofs.Common.{if◌then◌else◌, inl, inr, refl, sym, ap, ◌∙◌, subst, true≢false, not, ◌≢◌}
use Rattle.std.specs.Prelude.{filter}
use Rattle.std.specs.List.{All}
use Rattle.std.specs.Ordering.{is_eq}
use Rattle.std.specs.Str.{bytes_eq}
use Rattle.std.proofs.lemmas.Cmp.{tied_itself}
use Rattle.std.proofs.lemmas.Map.Text.{is_eq-slice_cmp}
use Rattle.std.proofs.lemmas.Slice.Eq.{bytes_eq-Decides}
use Rattle.portal_base.specs.Ordered.{IsAscending, dropped, found}
use Rattle.portal_base.proofs.Filtered.{IsIn-filter}
use Rattle.portal_base.proofs.Unique.{IsIn, IsIn-Contains}
use Rattle.portal_base.proofs.Upserted.{All-IsIn, IsIn-dropped}
use Rattle.datastore_answers.specs.Tables.{tables_in}
use Rattle.datastore_answers.specs.declared.resource_table.ResourceTable.{ResourceTable}
use Rattle.harvest_answers.specs.Fit.{IsFitSource}
use Rattle.harvest_results.specs.Effects.{is_of_source}
use Rattle.harvest_sources.specs.Entries.{DropJob, DropSource, SourceEntry, added_job, entries_of_change, job_drops}
use Rattle.harvest_sources.specs.Entries.{changed_sources, fault_if_open, sources_after, updated_source, with_source_at, without_job}
use Rattle.harvest_sources.specs.Jobs.{job_at}
use Rattle.harvest_sources.specs.Sources.{SourceState, source_at, source_named}
use Rattle.harvest_sources.specs.declared.change.SourceChange.{SourceChange}
use Rattle.harvest_sources.specs.declared.change.SourceChange.TheVariants as source
use Rattle.harvest_sources.specs.declared.job.Job.{Job}
use Rattle.packages.specs.Order.{dataset_cmp, dataset_cmp_total}
use Rattle.packages.specs.declared.package.Package.{Package}
use Rattle.visibility.specs.CallView.{CallView}
use Rattle.visibility.specs.Visibility.{is_harvested}
use Rattle.portal_state.specs.Alone.{AllDropAlone, jobs_if}
use Rattle.portal_state.specs.Changed.{changed}
use Rattle.portal_state.specs.Entries.{DropDataset, Entry, OfSources, changed_by, state_after}
use Rattle.portal_state.specs.EntriesOf.{datasets_gone, drop_of_dataset, entries_of_sources}
use Rattle.portal_state.specs.Planned.{Sources}
use Rattle.portal_state.specs.State.{State}
use Rattle.portal_state.specs.Valid.{HasHome, IsValid}
use Rattle.portal_state.proofs.DatasetEntries.{at_dataset, datasets-dropped, state_after-datasets_dropped, with_datasets}
use Rattle.portal_state.proofs.DropLemmas.{all_dropped, filter-none}
use Rattle.portal_state.proofs.Harvested.{of-source_harvested}
use Rattle.portal_state.proofs.KeyLemmas.{job_cmp_total}
use Rattle.portal_state.proofs.Kept.{unique-at}
use Rattle.portal_state.proofs.SourceKeeping.{named-in, unfaulted-source}
use Rattle.portal_state.proofs.SourceViews.{found-named}
use Rattle.portal_state.proofs.StateLemmas.{state_after-++}

-- ---- the state after entries

-- the state with these sources
abbrev pub with_sources : List SourceState → State → State
with_sources sources state = record state { sources = sources }

-- Entries of sources and jobs change the sources alone.
pub state_after-sources : (entries : List SourceEntry) (state : State)
    → state_after (map OfSources entries) state ≡ with_sources (sources_after entries state.sources) state
state_after-sources [] state = refl
state_after-sources (entry ∷ entries) state = state_after-sources entries (changed_by (OfSources entry) state)

-- Where these datasets are left once those that go were dropped, the entries make the change.
entries-left : (change : SourceChange) (left : List Package) (state : State)
    → all_dropped at_dataset (datasets_gone change state.datasets) state.datasets ≡ left
    → state_after (entries_of_sources change state.sources state.datasets) state
    ≡ with_sources (changed_sources change state.sources) (with_datasets left state)
entries-left change left state is =
    state_after-++ (map drop_of_dataset gone) (map OfSources entries) state
    ∙ ap (state_after (map OfSources entries))
    (state_after-datasets_dropped gone state ∙ ap (λ (datasets : List Package). with_datasets datasets state) is)
    ∙ state_after-sources entries (with_datasets left state)
  where
    gone : List Package
    gone = datasets_gone change state.datasets

    entries : List SourceEntry
    entries = entries_of_change change state.sources

-- In datasets that ascend the entries of a change of sources make it.
pub source-entries : (change : SourceChange) (state : State) → IsAscending dataset_cmp state.datasets
    → state_after (entries_of_sources change state.sources state.datasets) state ≡ changed (Sources change) state
source-entries (source.Create new) state up = entries-left (source.Create new) state.datasets state refl
source-entries (source.Update name title url) state up =
    entries-left (source.Update name title url) state.datasets state refl
source-entries (source.Remove name) state up =
    entries-left (source.Remove name) (filter (λ d. not (is_of_source name d)) state.datasets) state
    (datasets-dropped name state.datasets up)
source-entries (source.AddJob name created) state up =
    entries-left (source.AddJob name created) state.datasets state refl

-- ---- what is dropped

-- The source at a name has a job less once the job is dropped.
jobs-left : (name : List ℕ) (number : ℕ) (sources : List SourceState)
    → jobs_if (found (source_at name) (with_source_at name (without_job number) sources))
    ≡ dropped (job_at number) (jobs_if (found (source_at name) sources))
jobs-left name number [] = refl
jobs-left name number (s ∷ ss) =
    by (bytes_eq s.source.name name) (is_eq-slice_cmp s.source.name name) (jobs-left name number ss)
  where
    now : Option SourceState
    now = found (source_at name) (with_source_at name (without_job number) ss)

    was : Option SourceState
    was = found (source_at name) ss

    by : (b : Bool) → is_eq (source_at name s) ≡ b → jobs_if now ≡ dropped (job_at number) (jobs_if was)
        → jobs_if (cond (is_eq (source_at name (if b then without_job number s else s)))
        (Some (if b then without_job number s else s)) now)
        ≡ dropped (job_at number) (jobs_if (cond (is_eq (source_at name s)) (Some s) was))
    by true is rest =
        ap (λ c. jobs_if (cond c (Some (without_job number s)) now)) is
        ∙ sym (ap (λ c. dropped (job_at number) (jobs_if (cond c (Some s) was))) is)
    by false is rest =
        ap (λ c. jobs_if (cond c (Some s) now)) is
        ∙ rest
        ∙ sym (ap (λ c. dropped (job_at number) (jobs_if (cond c (Some s) was))) is)

-- A list without items is empty.
none-left : (jobs : List Job) → ((job : Job) → IsIn job jobs → ⊥) → jobs ≡ []
none-left [] none = refl
none-left (job ∷ jobs) none = absurd (none job (inl refl))

-- Where these are all jobs of the source, and it has no datasets, it goes after them.
source-alone : (name : List ℕ) (jobs : List Job) (state : State)
    → ((job : Job) → IsIn job (jobs_if (found (source_at name) state.sources)) → IsIn job jobs)
    → filter (is_of_source name) state.datasets ≡ []
    → AllDropAlone (map OfSources (map (λ job. DropJob name job.number) jobs ++ DropSource name ∷ [])) state
source-alone name [] state all none = ((none-left (jobs_if (found (source_at name) state.sources)) all, none), tt)
source-alone name (first ∷ jobs) state all none = (
  tt,
  source-alone name jobs (changed_by (OfSources (DropJob name first.number)) state)
      (λ job m. let left = IsIn-dropped (job_at first.number) job (jobs_if (found (source_at name) state.sources))
      (subst (IsIn job) (jobs-left name first.number state.sources) m) in
      other job (all job left.0) left.1) none,
)
  where
    other : (job : Job) → IsIn job (first ∷ jobs) → is_eq (job_at first.number job) ≡ false → IsIn job jobs
    other job (inl same) apart =
        absurd (true≢false (sym (ap is_eq (ap (job_at first.number) same ∙ tied_itself job_cmp_total first)) ∙ apart))
    other job (inr m) apart = m

removal-alone : (name : List ℕ) (there : Option SourceState) (state : State) → source_named state.sources name ≡ there
    → filter (is_of_source name) state.datasets ≡ []
    → AllDropAlone (map OfSources (job_drops name there ++ DropSource name ∷ [])) state
removal-alone name None state is none = ((ap jobs_if (found-named state.sources name ∙ is), none), tt)
removal-alone name (Some s) state is none =
    source-alone name s.jobs state
    (λ job m. subst (λ (o : Option SourceState). IsIn job (jobs_if o)) (found-named state.sources name ∙ is) m) none

update-alone : (title url : List ℕ) (there : Option SourceState) (state : State)
    → AllDropAlone (map OfSources (updated_source title url there)) state
update-alone title url None state = tt
update-alone title url (Some s) state = (tt, tt)

job-alone : (created : ℤ) (there : Option SourceState) (state : State)
    → AllDropAlone (map OfSources (added_job created there)) state
job-alone created None state = tt
job-alone created (Some s) state = (tt, (tt, tt))

-- ---- datasets that are dropped

-- No dataset of a source is left where they were dropped.
none-of_source : (name : List ℕ) (datasets : List Package)
    → filter (is_of_source name) (filter (λ d. not (is_of_source name d)) datasets) ≡ []
none-of_source name datasets =
    filter-none (is_of_source name) (filter (λ d. not (is_of_source name d)) datasets)
    (λ d left. denied (is_of_source name d) (IsIn-filter (λ e. not (is_of_source name e)) d datasets left).1)
  where
    denied : (b : Bool) → not b ≡ true → b ≡ false
    denied true is = absurd (cc)
    denied false is = refl

-- A dataset of a source with a name was harvested.
pub of_source-harvested : (name : List ℕ) (d : Package) → name ≢ [] → is_of_source name d ≡ true
    → is_harvested d ≡ true
of_source-harvested name d named is = of-source_harvested d name named ((bytes_eq-Decides d.source name).0 is)

-- A harvested dataset of a valid state has no tables.
pub harvested-tableless : (d : Package) (state : State) → IsValid state → IsIn d state.datasets
    → is_harvested d ≡ true → tables_in d.id state.tables ≡ []
harvested-tableless d state valid within harvested =
    filter-none (λ (t : ResourceTable). bytes_eq t.address.dataset d.id) state.tables
    (λ t among. by t (All-IsIn (HasHome state.datasets) state.tables valid.homes t among)
    (bytes_eq t.address.dataset d.id) refl)
  where
    by : (t : ResourceTable) → HasHome state.datasets t → (b : Bool) → bytes_eq t.address.dataset d.id ≡ b → b ≡ false
    by t home false is = refl
    by t home true is =
        let same : home.dataset.id ≡ d.id = home.id ∙ (bytes_eq-Decides t.address.dataset d.id).0 is in
        let one : home.dataset ≡ d =
        unique-at dataset_cmp dataset_cmp_total state.datasets valid.datasets home.dataset d
        (IsIn-Contains home.dataset state.datasets home.is_present) within
        (is_eq-slice_cmp home.dataset.id d.id ∙ (bytes_eq-Decides home.dataset.id d.id).1 same) in
        let made : is_harvested d ≡ false = sym (ap is_harvested one) ∙ home.made in
        absurd (cc)

-- Datasets without tables may be dropped,
pub tableless-alone : (gone : List Package) (more : List Entry) (state : State)
    → ((d : Package) → IsIn d gone → tables_in d.id state.tables ≡ [])
    → AllDropAlone more (state_after (map drop_of_dataset gone) state)
    → AllDropAlone (map drop_of_dataset gone ++ more) state
tableless-alone [] more state bare rest = rest
tableless-alone (d ∷ gone) more state bare rest = (
  bare d (inl refl),
  tableless-alone gone more (changed_by (DropDataset d.id) state) (λ e m. bare e (inr m)) rest,
)

-- and a source after its datasets.
with-datasets_alone : (name : List ℕ) (state : State) → IsValid state → name ≢ []
    → AllDropAlone (entries_of_sources (source.Remove name) state.sources state.datasets) state
with-datasets_alone name state valid named =
    tableless-alone gone (map OfSources entries) state
    (λ d m. let was = IsIn-filter (is_of_source name) d state.datasets m in
    harvested-tableless d state valid was.0 (of_source-harvested name d named was.1))
    (subst (AllDropAlone (map OfSources entries)) (sym after)
    (removal-alone name (source_named state.sources name) (with_datasets left state) refl
    (none-of_source name state.datasets)))
  where
    gone : List Package
    gone = filter (is_of_source name) state.datasets

    left : List Package
    left = filter (λ d. not (is_of_source name d)) state.datasets

    entries : List SourceEntry
    entries = job_drops name (source_named state.sources name) ++ DropSource name ∷ []

    after : state_after (map drop_of_dataset gone) state ≡ with_datasets left state
    after =
        state_after-datasets_dropped gone state
        ∙ ap (λ (datasets : List Package). with_datasets datasets state)
        (datasets-dropped name state.datasets valid.datasets)

-- The source that is removed has a name.
abbrev pub RemovesNamed : SourceChange → Type 0
RemovesNamed (source.Create new) = Unit {0}
RemovesNamed (source.Update name title url) = Unit {0}
RemovesNamed (source.Remove name) = name ≢ []
RemovesNamed (source.AddJob name created) = Unit {0}

-- A source without a fault has a name,
possible-named : (name : List ℕ) (sources : List SourceState) → All (λ t. t.source.name ≢ []) sources
    → fault_if_open (source_named sources name) ≡ None → name ≢ []
possible-named name sources named possible =
    let s = unfaulted-source sources name possible in
    let there = named-in sources name s.0 s.1 in
    subst (λ (text : List ℕ). text ≢ []) there.1
    (All-IsIn (λ (t : SourceState). t.source.name ≢ []) sources named s.0 there.0)

-- so a change that is fit removes no source without one.
pub removes-named : (change : SourceChange) (view : CallView) (sources : List SourceState)
    → All (λ t. t.source.name ≢ []) sources → IsFitSource view sources change → RemovesNamed change
removes-named (source.Create new) view sources named fit = tt
removes-named (source.Update name title url) view sources named fit = tt
removes-named (source.Remove name) view sources named fit = possible-named name sources named fit.possible
removes-named (source.AddJob name created) view sources named fit = tt

-- The entries of a change of sources drop no source that has jobs or datasets, and no dataset that has tables.
pub sources-alone : (change : SourceChange) (state : State) → IsValid state → RemovesNamed change
    → AllDropAlone (entries_of_sources change state.sources state.datasets) state
sources-alone (source.Create new) state valid named = (tt, tt)
sources-alone (source.Update name title url) state valid named =
    update-alone title url (source_named state.sources name) state
sources-alone (source.Remove name) state valid named = with-datasets_alone name state valid named
sources-alone (source.AddJob name created) state valid named =
    job-alone created (source_named state.sources name) state

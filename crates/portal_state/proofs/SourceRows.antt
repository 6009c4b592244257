-- The changes of rows for a change of sources, with the datasets that go with one.
use Rattle.std.proofs.Common.{◌≡◌, ℕ, ℤ, ◌+◌, ◌<◌, ◌^◌, Bool, true, false, List, [], ◌∷◌, ◌++◌, Option, Some, None, map}
use Rattle.std.proofs.Common.{not, All, append_assoc, refl, sym, ap, ap₂, subst, ◌∙◌, arith, if◌then◌else◌, true≢false}
use Rattle.std.specs.Prelude.{IfSome, filter}
use Rattle.std.specs.Ordering.{is_eq}
use Rattle.std.specs.Str.{bytes_eq}
use Rattle.std.proofs.lemmas.Cmp.{tied_itself}
use Rattle.std.proofs.lemmas.List.{map-append}
use Rattle.std.proofs.lemmas.Map.Lookups.{exact_bytes}
use Rattle.std.proofs.lemmas.Option.{same_Some}
use Rattle.std.proofs.lemmas.Slice.Eq.{bytes_eq-Decides}
use Rattle.portal_base.specs.Ordered.{IsAscending, found}
use Rattle.portal_base.proofs.Filtered.{IsIn-filter}
use Rattle.portal_base.proofs.Removed.{is_eq_true}
use Rattle.portal_base.proofs.Unique.{IsIn}
use Rattle.portal_base.proofs.Upserted.{All-IsIn, All-dropped, All-each, All-upserted, IsIn-dropped, upserted-IsIn}
use Rattle.packages.specs.Order.{dataset_cmp}
use Rattle.packages.specs.declared.package.Package.{Package}
use Rattle.packages.proofs.FindLemmas.{IsIn-find, IsIn-map, find-none, map-IsIn, none-find}
use Rattle.dataset_answers.specs.Changed.{dataset_at_id}
use Rattle.harvest_answers.specs.Fit.{IsFitSource}
use Rattle.harvest_results.specs.Effects.{is_of_source}
use Rattle.harvest_rows.specs.Rows.{job_row, source_row}
use Rattle.harvest_sources.specs.Entries.{SourceEntry, PutSource, DropSource, PutJob, DropJob, added_job}
use Rattle.harvest_sources.specs.Entries.{changed_by as sources_changed_by}
use Rattle.harvest_sources.specs.Entries.{changed_sources, job_drops, sources_after, updated_source, with_job}
use Rattle.harvest_sources.specs.Entries.{with_jobs_of, with_source_at, without_job}
use Rattle.harvest_sources.specs.Jobs.{job_cmp, job_id, new_job}
use Rattle.harvest_sources.specs.Sources.{HasItsJobs, IsJobOf, SourceState, source_at, source_cmp, source_cmp_total}
use Rattle.harvest_sources.specs.Sources.{source_named}
use Rattle.harvest_sources.specs.declared.change.SourceChange.{SourceChange}
use Rattle.harvest_sources.specs.declared.change.SourceChange.TheVariants as source
use Rattle.harvest_sources.specs.declared.job.Job.{Job}
use Rattle.harvest_sources.specs.declared.source.HarvestSource.{HarvestSource}
use Rattle.visibility.specs.CallView.{CallView}
use Rattle.portal_keeper.specs.Rows.{body_at}
use Rattle.portal_keeper.specs.declared.change.Change.{Change}
use Rattle.portal_keeper.specs.declared.change.Change.TheVariants.{Put, Remove}
use Rattle.portal_keeper.specs.declared.row.KeptRow.{KeptRow}
use Rattle.portal_keeper.specs.declared.row.RowKind.TheVariants as kind
use Rattle.portal_keeper.proofs.SlotLemmas.{none_from_absent}
use Rattle.portal_state.specs.Changed.{AreUnused, changed, is_in_use}
use Rattle.portal_state.specs.ChangedRows.{IsTypedSourceChange, changes_if_source, changes_of_new_job}
use Rattle.portal_state.specs.ChangedRows.{changes_of_harvests, changes_of_source, changes_of_texts, removal_of_job}
use Rattle.portal_state.specs.ChangedRows.{removals_of_source}
use Rattle.portal_state.specs.Entries.{OfSources}
use Rattle.portal_state.specs.EntriesOf.{drop_of_dataset}
use Rattle.portal_state.specs.KeptRows.{IsSized, kept_rows}
use Rattle.portal_state.specs.Planned.{Sources, claims_of}
use Rattle.portal_state.specs.RowChanges.{planned_row_changes}
use Rattle.portal_state.specs.State.{State}
use Rattle.portal_state.specs.Valid.{IsValid}
use Rattle.portal_state.specs.declared.change.Claim.TheVariants.{SourceName}
use Rattle.portal_state.proofs.ChangesFor.{changes_for, changes_for-++, changes_for-cons, changes_for-map, changes_for-one}
use Rattle.portal_state.proofs.ChangesFor.{map-twice}
use Rattle.portal_state.proofs.DatasetRows.{dropped-changes, found-id}
use Rattle.portal_state.proofs.EntryLemmas.{source-there}
use Rattle.portal_state.proofs.InOrder.{HasSizedJobs, sized-jobs}
use Rattle.portal_state.proofs.Keeping.{first_unused}
use Rattle.portal_state.proofs.KeyedSources.{name-of_put}
use Rattle.portal_state.proofs.RowBodies.{body-job, body-source, no_job, no_source}

-- ---- sources by their names

named-source : (name : List ℕ) (sources : List SourceState) (s : SourceState) → source_named sources name ≡ Some s
    → IsIn s sources × (s.source.name ≡ name)
named-source name sources s is =
    let there = IsIn-find (λ (t : SourceState). bytes_eq t.source.name name) s sources is in
    (there.0, (bytes_eq-Decides s.source.name name).0 there.1)

unnamed : (name : List ℕ) (sources : List SourceState) → source_named sources name ≡ None → (s : SourceState)
    → IsIn s sources → s.source.name ≡ name → ⊥
unnamed name sources none s m same =
    true≢false (sym ((bytes_eq-Decides s.source.name name).1 same)
    ∙ find-none (λ (t : SourceState). bytes_eq t.source.name name) s sources none m)

like-name : (name : List ℕ) (s : SourceState) → s.source.name ≡ name → is_eq (source_at name s) ≡ true
like-name name s same =
    ap (λ (n : List ℕ). is_eq (source_at n s)) (sym same) ∙ ap is_eq (tied_itself source_cmp_total s)

-- No two sources of a valid state have one name.
one-source : (state : State) → IsValid state → (s t : SourceState) → IsIn s state.sources → IsIn t state.sources
    → t.source.name ≡ s.source.name → t ≡ s
one-source state valid s t m n same =
    same_Some t s
    (sym (source-there s.source.name state.sources t valid.sources.ascending n (like-name s.source.name t same))
    ∙ source-there s.source.name state.sources s valid.sources.ascending m (like-name s.source.name s refl))

-- ---- the change for one entry

-- the row of a source that is put in place of one
replaced-source : (state new : State) → IsValid state → IsSized state → IsValid new → IsSized new
    → (s t : SourceState) → IsIn s state.sources → IsIn t new.sources → (h : HarvestSource) → t.source ≡ h
    → h.name ≡ s.source.name
    → changes_for (kept_rows state) (kept_rows new) (OfSources (PutSource h) ∷ []) ≡ changes_of_source s.source h
replaced-source state new valid sized also also_sized s t m n h is named =
    changes_for-one (kept_rows state) (kept_rows new) (OfSources (PutSource h)) (Some (source_row s.source).body)
    (Some (source_row h).body)
    (ap (body_at (kept_rows state) kind.Source) named ∙ body-source state valid sized s m)
    (subst (λ (g : HarvestSource). body_at (kept_rows new) kind.Source g.name ≡ Some (source_row g).body) is
    (body-source new also also_sized t n))

-- the row of a source that is put where none is
added-source : (state new : State) → IsValid new → IsSized new → (t : SourceState) → IsIn t new.sources
    → (h : HarvestSource) → t.source ≡ h
    → ((s : SourceState) → IsIn s state.sources → s.source.name ≡ h.name → ⊥)
    → changes_for (kept_rows state) (kept_rows new) (OfSources (PutSource h) ∷ []) ≡ Put (source_row h) ∷ []
added-source state new also also_sized t n h is none =
    changes_for-one (kept_rows state) (kept_rows new) (OfSources (PutSource h)) None (Some (source_row h).body)
    (no_source state h.name none)
    (subst (λ (g : HarvestSource). body_at (kept_rows new) kind.Source g.name ≡ Some (source_row g).body) is
    (body-source new also also_sized t n))

-- the row of a job that is put where none is
added-row : (state new : State) → IsValid state → IsSized state → IsValid new → IsSized new → (t : SourceState)
    → IsIn t new.sources → (job : Job) → IsIn job t.jobs → job.number < 2 ^ 64
    → ((s : SourceState) → IsIn s state.sources → s.source.name ≡ job.source → (j : Job) → IsIn j s.jobs
    → j.number ≡ job.number → ⊥)
    → changes_for (kept_rows state) (kept_rows new) (OfSources (PutJob job) ∷ []) ≡ Put (job_row job) ∷ []
added-row state new valid sized also also_sized t n job among small none =
    changes_for-one (kept_rows state) (kept_rows new) (OfSources (PutJob job)) None (Some (job_row job).body)
    (no_job state valid sized job.source job.number small none)
    (body-job new also also_sized t n job among)

-- the row of a job that goes with its source
dropped-row : (state new : State) → IsValid state → IsSized state → IsValid new → IsSized new → (s : SourceState)
    → IsIn s state.sources → (name : List ℕ) → s.source.name ≡ name
    → ((t : SourceState) → IsIn t new.sources → t.source.name ≡ name → ⊥) → (job : Job) → IsIn job s.jobs
    → changes_for (kept_rows state) (kept_rows new) (OfSources (DropJob name job.number) ∷ [])
    ≡ removal_of_job job ∷ []
dropped-row state new valid sized also also_sized s m name named none job n =
    changes_for-one (kept_rows state) (kept_rows new) (OfSources (DropJob name job.number)) (Some (job_row job).body) None
    (ap (λ (owner : List ℕ). body_at (kept_rows state) kind.Job (job_id owner job.number)) (sym own)
    ∙ body-job state valid sized s m job n)
    (no_job new also also_sized name job.number (its.small job n) (λ t k same j among like. none t k same))
    ∙ ap (λ (owner : List ℕ). Remove kind.Job (job_id owner job.number) ∷ []) (sym own)
  where
    its : HasSizedJobs s
    its = sized-jobs state valid sized s m

    own : job.source ≡ name
    own = its.own job n ∙ named

-- ---- a new source

-- a source that is put is there
put-there : (h : HarvestSource) (sources : List SourceState)
    → (t : SourceState) × IsIn t (sources_changed_by (PutSource h) sources) × (t.source ≡ h)
put-there h sources = (
  with_jobs_of h (found (source_at h.name) sources),
  upserted-IsIn source_cmp (with_jobs_of h (found (source_at h.name) sources)) sources,
  name-of_put h (found (source_at h.name) sources),
)

created-source : (h : HarvestSource) (state : State) → AreUnused state (claims_of (Sources (source.Create h)))
    → IsValid (changed (Sources (source.Create h)) state) → IsSized (changed (Sources (source.Create h)) state)
    → planned_row_changes (Sources (source.Create h)) state ≡ Put (source_row h) ∷ []
created-source h state unused also also_sized =
    let there = put-there h state.sources in
    added-source state (changed (Sources (source.Create h)) state) also also_sized there.0 there.1 h there.2
    (unnamed h.name state.sources
    (none_from_absent (source_named state.sources h.name) (first_unused (is_in_use state) (SourceName h.name) [] unused).0))

-- ---- a source that changes

updated : (title url name : List ℕ) (state : State) → IsValid state → IsSized state → (o : Option SourceState)
    → source_named state.sources name ≡ o
    → IsValid (record state { sources = sources_after (updated_source title url o) state.sources })
    → IsSized (record state { sources = sources_after (updated_source title url o) state.sources })
    → changes_for (kept_rows state)
    (kept_rows (record state { sources = sources_after (updated_source title url o) state.sources }))
    (map OfSources (updated_source title url o))
    ≡ changes_if_source (λ s. changes_of_texts title url s.source) o
updated title url name state valid sized None is also also_sized = refl
updated title url name state valid sized (Some s) is also also_sized =
    let there = put-there h state.sources in
    replaced-source state (record state { sources = sources_changed_by (PutSource h) state.sources }) valid sized also
    also_sized s there.0 (named-source name state.sources s is).0 there.1 h there.2 refl
  where
    h : HarvestSource
    h = record s.source { title = title; url = url }

-- ---- a source that goes

-- the state without the source of that name and its jobs, and with these datasets
abbrev gone_in : List ℕ → List Package → Option SourceState → State → State
gone_in name left o state = record state {
  datasets = left;
  sources = sources_after (job_drops name o ++ DropSource name ∷ []) state.sources;
}

-- Once the source of a name is dropped, no source has the name.
last-dropped : (entries : List SourceEntry) (name : List ℕ) (sources : List SourceState) (t : SourceState)
    → IsIn t (sources_after (entries ++ DropSource name ∷ []) sources) → t.source.name ≡ name → ⊥
last-dropped [] name sources t m same =
    true≢false (sym (like-name name t same) ∙ (IsIn-dropped (source_at name) t sources m).1)
last-dropped (entry ∷ entries) name sources t m same =
    last-dropped entries name (sources_changed_by entry sources) t m same

gone : (name : List ℕ) (left : List Package) (state : State) → IsValid state → IsSized state
    → (o : Option SourceState) → source_named state.sources name ≡ o
    → IsValid (gone_in name left o state) → IsSized (gone_in name left o state)
    → changes_for (kept_rows state) (kept_rows (gone_in name left o state))
    (map OfSources (job_drops name o ++ DropSource name ∷ []))
    ≡ changes_if_source removals_of_source o
gone name left state valid sized None is also also_sized =
    changes_for-one (kept_rows state) (kept_rows (gone_in name left None state)) (OfSources (DropSource name)) None
    None (no_source state name (unnamed name state.sources is))
    (no_source (gone_in name left None state) name (last-dropped [] name state.sources))
gone name left state valid sized (Some s) is also also_sized =
    ap (changes_for before after) (map-append OfSources drops (DropSource name ∷ []))
    ∙ changes_for-++ before after (map OfSources drops) (OfSources (DropSource name) ∷ [])
    ∙ ap₂ (λ (l k : List Change). l ++ k)
    (ap (changes_for before after) (map-twice OfSources (λ (job : Job). DropJob name job.number) s.jobs)
    ∙ changes_for-map before after (λ (job : Job). OfSources (DropJob name job.number)) removal_of_job s.jobs
    (λ job n. dropped-row state new valid sized also also_sized s there.0 name there.1 none job n))
    (changes_for-one before after (OfSources (DropSource name)) (Some (source_row s.source).body) None
    (ap (body_at before kind.Source) (sym there.1) ∙ body-source state valid sized s there.0)
    (no_source new name none)
    ∙ ap (λ (n : List ℕ). Remove kind.Source n ∷ []) (sym there.1))
  where
    drops : List SourceEntry
    drops = map (λ (job : Job). DropJob name job.number) s.jobs

    new : State
    new = gone_in name left (Some s) state

    before : List KeptRow
    before = kept_rows state

    after : List KeptRow
    after = kept_rows new

    there : IsIn s state.sources × (s.source.name ≡ name)
    there = named-source name state.sources s is

    none : (t : SourceState) → IsIn t new.sources → t.source.name ≡ name → ⊥
    none = last-dropped drops name state.sources

-- None of the datasets of a source is left at its id.
none-of_source : (name : List ℕ) (datasets : List Package) → IsAscending dataset_cmp datasets → (d : Package)
    → IsIn d (filter (is_of_source name) datasets)
    → found (dataset_at_id d.id) (filter (λ e. not (is_of_source name e)) datasets) ≡ None
none-of_source name datasets up d m =
    none-find (λ (e : Package). is_eq (dataset_at_id d.id e)) (filter (λ e. not (is_of_source name e)) datasets)
    (λ e n. apart e (IsIn-filter (λ (u : Package). not (is_of_source name u)) e datasets n)
    (is_eq (dataset_at_id d.id e)) refl)
  where
    own : IsIn d datasets × (is_of_source name d ≡ true)
    own = IsIn-filter (is_of_source name) d datasets m

    apart : (e : Package) → IsIn e datasets × (not (is_of_source name e) ≡ true) → (b : Bool)
        → is_eq (dataset_at_id d.id e) ≡ b → b ≡ false
    apart e stays false is = refl
    apart e stays true is =
        let same : e ≡ d =
        same_Some e d
        (sym (found-id d.id e datasets up stays.0 (exact_bytes e.id d.id (is_eq_true (dataset_at_id d.id e) is)))
        ∙ found-id d.id d datasets up own.0 refl) in
        let left : false ≡ true = sym (ap not (ap (is_of_source name) same ∙ own.1)) ∙ stays.1 in
        absurd (cc)

-- the rows of the datasets of a source, and those of its jobs and its own
removed : (name : List ℕ) (state : State) → IsValid state → IsSized state
    → IsValid (changed (Sources (source.Remove name)) state) → IsSized (changed (Sources (source.Remove name)) state)
    → planned_row_changes (Sources (source.Remove name)) state
    ≡ changes_of_harvests (source.Remove name) state.sources state.datasets
removed name state valid sized also also_sized =
    changes_for-++ (kept_rows state) (kept_rows new) (map drop_of_dataset goes)
    (map OfSources (job_drops name (source_named state.sources name) ++ DropSource name ∷ []))
    ∙ ap₂ (λ (l k : List Change). l ++ k)
    (dropped-changes goes state new valid sized also also_sized
    (λ d m. (IsIn-filter (is_of_source name) d state.datasets m).0)
    (none-of_source name state.datasets valid.datasets))
    (gone name (filter (λ d. not (is_of_source name d)) state.datasets) state valid sized
    (source_named state.sources name) refl also also_sized)
  where
    goes : List Package
    goes = filter (is_of_source name) state.datasets

    new : State
    new = changed (Sources (source.Remove name)) state

-- ---- a new job

with_number : (name : List ℕ) (created : ℤ) (state : State) → IsValid state → IsSized state → (o : Option SourceState)
    → source_named state.sources name ≡ o
    → IsValid (record state { sources = sources_after (added_job created o) state.sources })
    → IsSized (record state { sources = sources_after (added_job created o) state.sources })
    → changes_for (kept_rows state)
    (kept_rows (record state { sources = sources_after (added_job created o) state.sources }))
    (map OfSources (added_job created o))
    ≡ changes_if_source (changes_of_new_job created) o
with_number name created state valid sized None is also also_sized = refl
with_number name created state valid sized (Some s) is also also_sized =
    changes_for-cons (kept_rows state) (kept_rows new) (OfSources (PutSource h)) (OfSources (PutJob job) ∷ [])
    (changes_of_source s.source h) (Put (job_row job) ∷ [])
    (replaced-source state new valid sized also also_sized s t m n h put.2 refl)
    (added-row state new valid sized also also_sized t n job (upserted-IsIn job_cmp job put.0.jobs) next none)
  where
    m : IsIn s state.sources
    m = (named-source name state.sources s is).0

    h : HarvestSource
    h = record s.source { next_job = s.source.next_job + 1 }

    job : Job
    job = new_job s.source.name s.source.next_job created

    between : List SourceState
    between = sources_changed_by (PutSource h) state.sources

    new : State
    new = record state { sources = with_source_at s.source.name (with_job job) between }

    put : (u : SourceState) × IsIn u between × (u.source ≡ h)
    put = put-there h state.sources

    t : SourceState
    t = with_job job put.0

    n : IsIn t new.sources
    n =
        subst (λ b. IsIn (if b then t else put.0) new.sources)
        ((bytes_eq-Decides put.0.source.name s.source.name).1 (ap (λ (g : HarvestSource). g.name) put.2))
        (IsIn-map (λ (u : SourceState). if bytes_eq u.source.name s.source.name then with_job job u else u) put.0
        between put.1)

    next : s.source.next_job < 2 ^ 64
    next = All-IsIn (λ (u : SourceState). u.source.next_job < 2 ^ 64) state.sources sized.next_jobs s m

    given : (j : Job) → IsIn j s.jobs → j.number < s.source.next_job
    given j k =
        (All-IsIn (IsJobOf s.source) s.jobs (All-IsIn HasItsJobs state.sources valid.sources.jobs s m).own j k).given

    none : (u : SourceState) → IsIn u state.sources → u.source.name ≡ s.source.name → (j : Job) → IsIn j u.jobs
        → j.number ≡ s.source.next_job → ⊥
    none u k named j among same =
        let below = given j (subst (λ (v : SourceState). IsIn j v.jobs) (one-source state valid s u m k named) among) in
        omega (arith, below, same)

-- What is added for it.
pub new_job_changes : (old middle : List Change) (s : SourceState) (created : ℤ) (g h numbered : HarvestSource) (job : Job)
    → middle ≡ old ++ changes_of_source h numbered → g ≡ s.source → h ≡ s.source
    → numbered ≡ record g { next_job = g.next_job + 1 } → job ≡ new_job s.source.name s.source.next_job created
    → middle ++ Put (job_row job) ∷ [] ≡ old ++ changes_of_new_job created s
new_job_changes old middle s created g h numbered job made first second is new =
    ap₂ (λ (l : List Change) (j : Job). l ++ Put (job_row j) ∷ [])
    (made ∙ ap₂ (λ (a b : HarvestSource). old ++ changes_of_source a b) second
    (is ∙ ap (λ (a : HarvestSource). record a { next_job = a.next_job + 1 }) first)) new
    ∙ append_assoc old (changes_of_source s.source (record s.source { next_job = s.source.next_job + 1 }))
    (Put (job_row (new_job s.source.name s.source.next_job created)) ∷ [])

-- ---- every change

pub source-changes : (change : SourceChange) (state : State) → IsValid state → IsSized state
    → AreUnused state (claims_of (Sources change)) → IsValid (changed (Sources change) state)
    → IsSized (changed (Sources change) state)
    → planned_row_changes (Sources change) state ≡ changes_of_harvests change state.sources state.datasets
source-changes (source.Create h) state valid sized unused also also_sized =
    created-source h state unused also also_sized
source-changes (source.Update name title url) state valid sized unused also also_sized =
    updated title url name state valid sized (source_named state.sources name) refl also also_sized
source-changes (source.Remove name) state valid sized unused also also_sized =
    removed name state valid sized also also_sized
source-changes (source.AddJob name created) state valid sized unused also also_sized =
    with_number name created state valid sized (source_named state.sources name) refl also also_sized

-- ---- sizes

-- the number of the next job of each source is a `u64`
abbrev AreSmall : List SourceState → Type 0
AreSmall sources = All (λ (s : SourceState). s.source.next_job < 2 ^ 64) sources

small-put : (h : HarvestSource) (sources : List SourceState) → h.next_job < 2 ^ 64 → AreSmall sources
    → AreSmall (sources_changed_by (PutSource h) sources)
small-put h sources small all =
    All-upserted (λ (s : SourceState). s.source.next_job < 2 ^ 64) source_cmp
    (with_jobs_of h (found (source_at h.name) sources)) sources
    (subst (λ (g : HarvestSource). g.next_job < 2 ^ 64) (sym (name-of_put h (found (source_at h.name) sources))) small) all

small-at : (name : List ℕ) (change : SourceState → SourceState)
    → ((s : SourceState) → (change s).source ≡ s.source) → (sources : List SourceState) → AreSmall sources
    → AreSmall (with_source_at name change sources)
small-at name change keeps sources all =
    All-each (λ (s : SourceState). s.source.next_job < 2 ^ 64) (with_source_at name change sources)
    (λ t m. let w = map-IsIn at t sources m in
    subst (λ (s : SourceState). s.source.next_job < 2 ^ 64) (sym w.2)
    (subst (λ (h : HarvestSource). h.next_job < 2 ^ 64) (sym (here w.0 (bytes_eq w.0.source.name name)))
    (All-IsIn (λ (s : SourceState). s.source.next_job < 2 ^ 64) sources all w.0 w.1)))
  where
    at : SourceState → SourceState
    at s = if bytes_eq s.source.name name then change s else s

    here : (s : SourceState) (b : Bool) → (if b then change s else s).source ≡ s.source
    here s true = keeps s
    here s false = refl

small-gone : (name : List ℕ) (jobs : List Job) (sources : List SourceState) → AreSmall sources
    → AreSmall (sources_after (map (λ (job : Job). DropJob name job.number) jobs ++ DropSource name ∷ []) sources)
small-gone name [] sources all =
    All-dropped (λ (s : SourceState). s.source.next_job < 2 ^ 64) (source_at name) sources all
small-gone name (job ∷ jobs) sources all =
    small-gone name jobs (with_source_at name (without_job job.number) sources)
    (small-at name (without_job job.number) (λ s. refl) sources all)

-- The numbers of the next jobs stay `u64`s.
pub small-after : (change : SourceChange) (view : CallView) (sources : List SourceState) → AreSmall sources
    → IsFitSource view sources change → IsTypedSourceChange change sources → AreSmall (changed_sources change sources)
small-after (source.Create h) view sources all fit typed =
    let first : h.next_job ≡ 1 = fit.first in small-put h sources (omega (arith, first)) all
small-after (source.Update name title url) view sources all fit typed = by (source_named sources name) refl
  where
    by : (o : Option SourceState) → source_named sources name ≡ o
        → AreSmall (sources_after (updated_source title url o) sources)
    by None is = all
    by (Some s) is =
        small-put (record s.source { title = title; url = url }) sources
        (All-IsIn (λ (t : SourceState). t.source.next_job < 2 ^ 64) sources all s (named-source name sources s is).0) all
small-after (source.Remove name) view sources all fit typed = by (source_named sources name)
  where
    by : (o : Option SourceState) → AreSmall (sources_after (job_drops name o ++ DropSource name ∷ []) sources)
    by None = small-gone name [] sources all
    by (Some s) = small-gone name s.jobs sources all
small-after (source.AddJob name created) view sources all fit typed = by (source_named sources name) typed
  where
    by : (o : Option SourceState) → IfSome o (λ (s : SourceState). s.source.next_job + 1 < 2 ^ 64)
        → AreSmall (sources_after (added_job created o) sources)
    by None small = all
    by (Some s) small =
        small-at s.source.name (with_job (new_job s.source.name s.source.next_job created)) (λ t. refl)
        (sources_changed_by (PutSource (record s.source { next_job = s.source.next_job + 1 })) sources)
        (small-put (record s.source { next_job = s.source.next_job + 1 }) sources small all)

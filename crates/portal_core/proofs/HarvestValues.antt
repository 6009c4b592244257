-- The sources and jobs of a valid state have rows in a store, and their rows are those of the state.
use Rattle.std.proofs.Common.{◌≡◌, ◌∙◌, ℕ, ◌<◌, ◌^◌, Bool, true, false, cond, List, [], ◌∷◌, ◌++◌, ◌⊎◌, All, map, inl}
use Rattle.std.proofs.Common.{inr, refl, sym, ap, subst}
use Rattle.std.specs.Cmp.{nat_cmp_total}
use Rattle.std.specs.Cmp.Lexicographic.{slice_cmp}
use Rattle.std.specs.Ordering.{is_eq, nat_cmp}
use Rattle.std.specs.declared.cmp.Ordering.{Ordering}
use Rattle.std.specs.declared.cmp.Ordering.TheVariants.{Less}
use Rattle.std.proofs.lemmas.Cmp.{nat_list_cmp_total}
use Rattle.std.proofs.lemmas.List.Elements.{All-map}
use Rattle.std.proofs.lemmas.Map.Lookups.{exact_bytes}
use Rattle.std.proofs.lemmas.Simd.{map-map}
use Rattle.portal_base.specs.Json.{json_text}
use Rattle.portal_base.specs.Ordered.{IsAscending, ascending}
use Rattle.portal_base.proofs.Inserted.{AreApart, IsAscending-ascending}
use Rattle.portal_base.proofs.Removed.{is_eq_true}
use Rattle.portal_base.proofs.Unique.{IsIn, IsIn-ascending, ascending-IsIn, below_in, not_below_itself}
use Rattle.portal_base.proofs.Upserted.{All-IsIn, All-each}
use Rattle.packages.proofs.FindLemmas.{IsIn-map, fails, map-IsIn, none-list_any}
use Rattle.datastore_answers.proofs.KeepLemmas.{none-passes}
use Rattle.datastore_query.proofs.SelectLemmas.{IsIn-back, IsIn-either, IsIn-front}
use Rattle.portal_keeper.specs.declared.row.KeptRow.{KeptRow}
use Rattle.portal_keeper.specs.declared.row.RowKind.TheVariants as kind
use Rattle.portal_rows.proofs.MemberLemmas.{ascending-made}
use Rattle.harvest_sources.specs.Jobs.{blank_report, id_of_job, in_state, is_running, job_cmp}
use Rattle.harvest_sources.specs.Sources.{AreSources, HasItsJobs, IsJobOf, SourceState, source_cmp}
use Rattle.harvest_sources.specs.declared.job.Job.{Job}
use Rattle.harvest_sources.specs.declared.job.JobState.TheVariants.{New}
use Rattle.harvest_sources.specs.declared.job.SourceReport.{SourceReport}
use Rattle.harvest_stages.specs.AtRest.{all_jobs, at_rest, bare_sources, job_at_rest}
use Rattle.harvest_stages.proofs.RestLemmas.{sources_rest}
use Rattle.harvest_rows.specs.KeptHarvests.{AreKeptHarvests, kept_job_cmp, kept_job_cmp_total, kept_source_cmp}
use Rattle.harvest_rows.specs.KeptHarvests.{rows_of_harvests}
use Rattle.harvest_rows.specs.Rows.{IsKeptJob, IsKeptSource, job_row, job_rows, job_value, source_row, source_rows}
use Rattle.portal_state.specs.State.{State}
use Rattle.portal_state.specs.Typed.{IsTyped, IsTypedSource}
use Rattle.portal_state.specs.Valid.{IsValid}
use Rattle.portal_state.specs.Values.{harvests_of}
use Rattle.portal_state.proofs.KeyLemmas.{same_number, same_source}
use Rattle.portal_state.proofs.RowMembers.{IsInBoth, IsIn-flat_map, flat_map-IsIn, in_both-append, in_both-itself}

-- ---- ids of jobs

-- Jobs that differ in their sources or in their numbers have different ids.
ids-differ : (j k : Job) → j.number < 2 ^ 64 → k.number < 2 ^ 64
    → ((j.source ≡ k.source) × (j.number ≡ k.number) → ⊥) → is_eq (kept_job_cmp j k) ≡ false
ids-differ j k small also differ =
    fails (is_eq (kept_job_cmp j k))
    (λ is.
    let same : id_of_job j ≡ id_of_job k =
    exact_bytes (id_of_job j) (id_of_job k) (is_eq_true (kept_job_cmp j k) is) in
    differ (
      same_source j.source k.source j.number k.number same,
      same_number j.source k.source j.number k.number small also same,
    ))

-- ---- jobs that are apart

apart-append : {X : Type 0} (cmp : X → X → Ordering) (xs ys : List X) → AreApart cmp xs → AreApart cmp ys
    → ((x y : X) → IsIn x xs → IsIn y ys → is_eq (cmp y x) ≡ false) → AreApart cmp (xs ++ ys)
apart-append cmp [] ys apart also between = also
apart-append {X} cmp (x ∷ xs) ys apart also between = (
  none-list_any (λ z. is_eq (cmp z x)) (xs ++ ys) (λ z m. by z (IsIn-either z xs ys m)),
  apart-append cmp xs ys apart.1 also (λ w y m n. between w y (inr m) n),
)
  where
    by : (z : X) → IsIn z xs ⊎ IsIn z ys → is_eq (cmp z x) ≡ false
    by z (inl m) = none-passes (λ w. is_eq (cmp w x)) xs apart.0 z m
    by z (inr m) = between x z (inl refl) m

-- No two jobs of a source have the same number,
own-apart : (jobs : List Job) → IsAscending job_cmp jobs → ((j : Job) → IsIn j jobs → j.number < 2 ^ 64)
    → AreApart kept_job_cmp jobs
own-apart [] up small = tt
own-apart (j ∷ jobs) up small = (
  none-list_any (λ (k : Job). is_eq (kept_job_cmp k j)) jobs
      (λ k m. ids-differ k j (small k (inr m)) (small j (inl refl))
      (λ same. not_below_itself nat_cmp nat_cmp_total j.number
      (subst (λ (n : ℕ). nat_cmp j.number n ≡ Less) same.1 (below_in job_cmp j k jobs up.0 m)))),
  own-apart jobs up.1 (λ k m. small k (inr m)),
)

-- and no two sources have the same name.
parts-apart : (sources : List SourceState) → IsAscending source_cmp sources
    → ((s : SourceState) → IsIn s sources → HasItsJobs s)
    → ((j : Job) → IsIn j (all_jobs sources) → j.number < 2 ^ 64) → AreApart kept_job_cmp (all_jobs sources)
parts-apart [] up has small = tt
parts-apart (s ∷ sources) up has small =
    apart-append kept_job_cmp s.jobs (all_jobs sources)
    (own-apart s.jobs (has s (inl refl)).ascending (λ j m. small j (IsIn-front j s.jobs (all_jobs sources) m)))
    (parts-apart sources up.1 (λ t m. has t (inr m)) (λ j m. small j (IsIn-back j s.jobs (all_jobs sources) m)))
    (λ j k m n.
    ids-differ k j (small k (IsIn-back k s.jobs (all_jobs sources) n)) (small j (IsIn-front j s.jobs (all_jobs sources) m))
    (λ same. other j k m (flat_map-IsIn (λ (t : SourceState). t.jobs) k sources n) same.0))
  where
    own : (t : SourceState) → HasItsJobs t → (j : Job) → IsIn j t.jobs → j.source ≡ t.source.name
    own t its j m = (All-IsIn (IsJobOf t.source) t.jobs its.own j m).own

    other : (j k : Job) → IsIn j s.jobs → (t : SourceState) × IsIn t sources × IsIn k t.jobs → k.source ≡ j.source → ⊥
    other j k m w same =
        not_below_itself (slice_cmp nat_cmp) nat_list_cmp_total s.source.name
        (subst (λ (name : List ℕ). slice_cmp nat_cmp s.source.name name ≡ Less)
        (sym (own w.0 (has w.0 (inr w.1)) k w.2) ∙ same ∙ own s (has s (inl refl)) j m)
        (below_in source_cmp s w.0 sources up.0 w.1))

-- No two jobs have the same id.
pub all_jobs-apart : (sources : List SourceState) → AreSources sources
    → ((j : Job) → IsIn j (all_jobs sources) → j.number < 2 ^ 64) → AreApart kept_job_cmp (all_jobs sources)
all_jobs-apart sources are small =
    parts-apart sources are.ascending (All-IsIn HasItsJobs sources are.jobs) small

-- ---- jobs at rest

-- the row of the job, with this report
abbrev with_kept : Job → SourceReport → KeptRow
with_kept job report =
    record { kind = kind.Job; key = id_of_job job; body = json_text (job_value job.created report) }

-- A running job is kept as a new one.
job_row-at_rest : (job : Job) → job_row (job_at_rest job) ≡ job_row job
job_row-at_rest job = by (is_running job) refl
  where
    by : (b : Bool) → is_running job ≡ b → job_row (cond b (in_state New job) job) ≡ job_row job
    by true is = sym (ap (λ c. with_kept job (cond c (blank_report job.source New) job.report)) is)
    by false is = refl

-- a job of one of the sources, and that job at rest
record IsRestOf (sources : List SourceState) (rested : Job) : Type 0 where
  source : SourceState
  is_present : IsIn source sources
  job : Job
  own : IsIn job source.jobs
  rests : rested ≡ job_at_rest job

rest-of : (sources : List SourceState) (j : Job) → IsIn j (all_jobs (map at_rest sources)) → IsRestOf sources j
rest-of sources j m =
    let t = flat_map-IsIn (λ (s : SourceState). s.jobs) j (map at_rest sources) m in
    let s = map-IsIn at_rest t.0 sources t.1 in
    let k = map-IsIn job_at_rest j s.0.jobs (subst (λ (u : SourceState). IsIn j u.jobs) s.2 t.2) in
    record { source = s.0; is_present = s.1; job = k.0; own = k.1; rests = k.2 }

pub job-kept : (sources : List SourceState) → All IsTypedSource sources → (j : Job)
    → IsIn j (all_jobs (map at_rest sources)) → IsKeptJob j
job-kept sources typed j m =
    let w = rest-of sources j m in
    subst IsKeptJob (sym w.rests)
    (All-IsIn (λ (job : Job). IsKeptJob (job_at_rest job)) w.source.jobs
    (All-IsIn IsTypedSource sources typed w.source w.is_present).jobs w.job w.own)

-- ---- the values

pub harvests-kept : (state : State) → IsValid state → IsTyped state → AreKeptHarvests (harvests_of state)
harvests-kept state valid typed =
    let rested : List SourceState = map at_rest state.sources in
    record {
      sources = All-map IsKeptSource (λ (s : SourceState). s.source) state.sources
          (All-each (λ (s : SourceState). IsKeptSource s.source) state.sources
          (λ s m. (All-IsIn IsTypedSource state.sources typed.sources s m).source));
      sources_ascend = ascending-made (λ (s : SourceState). s.source) source_cmp kept_source_cmp state.sources
          (λ x y m n less. less) valid.sources.ascending;
      jobs = All-each IsKeptJob (ascending kept_job_cmp (all_jobs rested))
          (λ j m. job-kept state.sources typed.sources j (ascending-IsIn kept_job_cmp j (all_jobs rested) m));
      jobs_ascend = IsAscending-ascending kept_job_cmp kept_job_cmp_total (all_jobs rested)
          (all_jobs-apart rested (sources_rest state.sources valid.sources)
          (λ j m. (job-kept state.sources typed.sources j m).number));
    }

-- ---- their rows

source_rows-of : (sources : List SourceState) → map source_row (bare_sources sources) ≡ source_rows sources
source_rows-of sources = map-map source_row (λ (s : SourceState). s.source) sources

-- The rows of jobs don't depend on their order.
job_rows-both : (sources : List SourceState) (r : KeptRow)
    → IsInBoth r (map job_row (ascending kept_job_cmp (all_jobs (map at_rest sources)))) (job_rows sources)
job_rows-both sources r = (into, from)
  where
    in_order : List Job
    in_order = ascending kept_job_cmp (all_jobs (map at_rest sources))

    into : IsIn r (map job_row in_order) → IsIn r (job_rows sources)
    into m =
        let j = map-IsIn job_row r in_order m in
        let w = rest-of sources j.0 (ascending-IsIn kept_job_cmp j.0 (all_jobs (map at_rest sources)) j.1) in
        IsIn-flat_map (λ (s : SourceState). map job_row s.jobs) r w.source sources w.is_present
        (subst (λ (q : KeptRow). IsIn q (map job_row w.source.jobs))
        (sym (j.2 ∙ ap job_row w.rests ∙ job_row-at_rest w.job)) (IsIn-map job_row w.job w.source.jobs w.own))

    from : IsIn r (job_rows sources) → IsIn r (map job_row in_order)
    from m =
        let s = flat_map-IsIn (λ (s : SourceState). map job_row s.jobs) r sources m in
        let j = map-IsIn job_row r s.0.jobs s.2 in
        subst (λ (q : KeptRow). IsIn q (map job_row in_order)) (job_row-at_rest j.0 ∙ sym j.2)
        (IsIn-map job_row (job_at_rest j.0) in_order
        (IsIn-ascending kept_job_cmp (job_at_rest j.0) (all_jobs (map at_rest sources))
        (IsIn-flat_map (λ (t : SourceState). t.jobs) (job_at_rest j.0) (at_rest s.0) (map at_rest sources)
        (IsIn-map at_rest s.0 sources s.1) (IsIn-map job_at_rest j.0 s.0.jobs j.1))))

pub harvest_rows-both : (state : State) (r : KeptRow)
    → IsInBoth r (rows_of_harvests (harvests_of state)) (source_rows state.sources ++ job_rows state.sources)
harvest_rows-both state r =
    let sources = map source_row (bare_sources state.sources) in
    in_both-append r sources (map job_row (harvests_of state).jobs) (source_rows state.sources) (job_rows state.sources)
    (subst (λ (l : List KeptRow). IsInBoth r sources l) (source_rows-of state.sources) (in_both-itself r sources))
    (job_rows-both state.sources r)

-- Sources of harvests that change: they stay in order, each with its jobs and with an organization that exists.
use Rattle.std.proofs.Common.{◌≡◌, ◌≢◌, ◌≤◌, ◌+◌, ◌++◌, ℕ, ℤ, Bool, true, false, cond, List, [], ◌∷◌, length, map, Option, Some}
use Rattle.std.proofs.Common.{None, is_some, refl, sym, ap, ◌∙◌, ◌⊎◌, inl, inr, subst, arith}
use Rattle.std.specs.Prelude.{IsTrue, count_by, filter, find, if◌then◌else◌}
use Rattle.std.specs.List.{All}
use Rattle.std.specs.Option.{option_map_or}
use Rattle.std.specs.Ordering.{is_eq}
use Rattle.std.specs.Str.{bytes_eq}
use Rattle.std.proofs.lemmas.List.Elements.{All-weaker, filter_agree}
use Rattle.std.proofs.lemmas.List.Sums.{length-filter}
use Rattle.std.proofs.lemmas.Map.Text.{is_eq-slice_cmp}
use Rattle.std.proofs.lemmas.Slice.Eq.{bytes_eq-Decides}
use Rattle.portal_base.specs.declared.caller.Caller.{Caller}
use Rattle.portal_base.specs.Ordered.{dropped, found, upserted}
use Rattle.portal_base.proofs.Unique.{IsIn}
use Rattle.portal_base.proofs.Upserted.{All-IsIn, All-dropped, All-each, All-upserted, IsAscending-dropped}
use Rattle.portal_base.proofs.Upserted.{IsAscending-upserted, IsIn-upserted, dropped-IsIn, filter-upserted, upserted-IsIn}
use Rattle.portal_base.proofs.Upserted.{upserted-IsIn_other}
use Rattle.packages.proofs.FindLemmas.{IsIn-find, IsIn-map, find-none, map-IsIn}
use Rattle.org_roles.specs.PeopleLists.{PeopleLists}
use Rattle.visibility.specs.View.{administers, people_seen}
use Rattle.visibility.proofs.ViewLemmas.{administers_seen}
use Rattle.harvest_answers.specs.View.{sees_source, sources_seen, without_listing}
use Rattle.harvest_sources.specs.Entries.{DropJob, DropSource, PutJob, PutSource, added_job, changed_by, changed_sources}
use Rattle.harvest_sources.specs.Entries.{fault_if_open, job_drops, source_fault, sources_after, updated_source, with_job}
use Rattle.harvest_sources.specs.Entries.{with_jobs_of, with_source_at, without_job}
use Rattle.harvest_sources.specs.Jobs.{blank_report, is_open, is_running, job_cmp, new_job}
use Rattle.harvest_sources.specs.Sources.{AreSources, HasItsJobs, IsJobOf, SourceState, is_listed, open_job, source_at}
use Rattle.harvest_sources.specs.Sources.{source_cmp, source_cmp_total, source_named}
use Rattle.harvest_sources.specs.declared.change.SourceChange.{SourceChange}
use Rattle.harvest_sources.specs.declared.change.SourceChange.TheVariants.{Create, Update, Remove, AddJob}
use Rattle.harvest_sources.specs.declared.change.StageFault.{StageFault}
use Rattle.harvest_sources.specs.declared.change.StageFault.TheVariants.{NotFinished, SourceNameInUse}
use Rattle.harvest_sources.specs.declared.job.Job.{Job}
use Rattle.harvest_sources.specs.declared.source.HarvestSource.{HarvestSource}
use Rattle.harvest_stages.proofs.MapLemmas.{IsAscending-map}
use Rattle.harvest_stages.proofs.RestoreLemmas.{job_cmp_total}
use Rattle.harvest_stages.specs.Ready.{IsNamed}
use Rattle.organization_answers.specs.Owners.{owners_of, owners_seen}
use Rattle.portal_state.proofs.Harvested.{IsLike}
use Rattle.portal_state.proofs.Kept.{unique-at}
use Rattle.portal_state.proofs.SourceViews.{found-named}

-- ---- the source of a name

-- the source of a name is one of the sources, and has the name
pub named-in : (sources : List SourceState) (name : List ℕ) (s : SourceState) → source_named sources name ≡ Some s
    → IsIn s sources × (s.source.name ≡ name)
named-in sources name s is =
    let there = IsIn-find (λ (t : SourceState). bytes_eq t.source.name name) s sources is in
    (there.0, (bytes_eq-Decides s.source.name name).0 there.1)

-- and it is found at its own name
pub found-own : (sources : List SourceState) (name : List ℕ) (s : SourceState) → source_named sources name ≡ Some s
    → found (source_at s.source.name) sources ≡ Some s
found-own sources name s is =
    found-named sources s.source.name ∙ ap (source_named sources) (named-in sources name s is).1 ∙ is

-- ---- sources that are put

upserted-kept : (s : SourceState) (sources : List SourceState) → s.source.name ≢ [] → HasItsJobs s → AreSources sources
    → AreSources (upserted source_cmp s sources)
upserted-kept s sources named holds was = record {
  ascending = IsAscending-upserted source_cmp source_cmp_total s sources was.ascending;
  named = All-upserted (λ (t : SourceState). t.source.name ≢ []) source_cmp s sources named was.named;
  jobs = All-upserted HasItsJobs source_cmp s sources holds was.jobs;
}

-- a source without jobs has its jobs
bare-holds : (source : HarvestSource) → HasItsJobs (with_jobs_of source None)
bare-holds source = record {
  own = λ k d lt. absurd (omega (arith, lt));
  ascending = tt;
  one_open = omega arith;
  runs = λ listed. absurd (cc);
  listed = tt;
}

-- so has one that replaces a source of the same name, where no number is given twice
replaced-holds : (source : HarvestSource) (old : SourceState) → source.name ≡ old.source.name
    → old.source.next_job ≤ source.next_job → HasItsJobs old → HasItsJobs (with_jobs_of source (Some old))
replaced-holds source old same later holds = record {
  own = All-weaker (IsJobOf old.source) (IsJobOf source)
      (λ job own. record {
        own = own.own ∙ sym same;
        reported = own.reported ∙ sym same;
        given = omega (arith, own.given, later);
        blank = λ is. own.blank is ∙ ap (λ (name : List ℕ). blank_report name job.report.state) (sym same);
      }) old.jobs holds.own;
  ascending = holds.ascending;
  one_open = holds.one_open;
  runs = holds.runs;
  listed = holds.listed;
}

-- The sources with one of them replaced.
pub replaced-sources : (source : HarvestSource) (old : SourceState) (sources : List SourceState)
    → source_named sources source.name ≡ Some old
    → changed_by (PutSource source) sources ≡ upserted source_cmp (with_jobs_of source (Some old)) sources
replaced-sources source old sources is =
    ap (λ (o : Option SourceState). upserted source_cmp (with_jobs_of source o) sources)
    (found-named sources source.name ∙ is)

-- The sources with a new one.
pub added-sources : (source : HarvestSource) (sources : List SourceState) → source_named sources source.name ≡ None
    → changed_by (PutSource source) sources ≡ upserted source_cmp (with_jobs_of source None) sources
added-sources source sources free =
    ap (λ (o : Option SourceState). upserted source_cmp (with_jobs_of source o) sources)
    (found-named sources source.name ∙ free)

-- ---- sources that get a job

-- what no item of a list passes keeps none
none-kept : {X : Type 0} (p : X → Bool) (xs : List X) → find p xs ≡ None → filter p xs ≡ []
none-kept p [] none = refl
none-kept {X} p (x ∷ xs) none = by (p x) none (none-kept p xs)
  where
    by : (b : Bool) → cond b (Some x) (find p xs) ≡ None → (find p xs ≡ None → filter p xs ≡ [])
        → cond b (x ∷ filter p xs) (filter p xs) ≡ []
    by true is rest = absurd (cc)
    by false is rest = rest is

-- with one more job at most one is open
one-open : (job : Job) (s : SourceState) → HasItsJobs s → open_job s ≡ None
    → count_by is_open (upserted job_cmp job s.jobs) ≤ 1
one-open job s holds ended =
    subst (λ (n : ℕ). n ≤ 1) (length-filter is_open (upserted job_cmp job s.jobs))
    (subst (λ (l : List Job). length l ≤ 1)
    (sym (filter-upserted job_cmp job_cmp_total is_open job s.jobs holds.ascending
    ∙ ap (λ (l : List Job). cond (is_open job) (upserted job_cmp job l) (dropped (λ (j : Job). job_cmp j job) l))
    (none-kept is_open s.jobs ended)))
    (by (is_open job)))
  where
    by : (b : Bool) → length (cond b (job ∷ []) []) ≤ 1
    by true = omega arith
    by false = omega arith

-- nothing is listed where no job is open
unlisted : (s : SourceState) → HasItsJobs s → open_job s ≡ None → IsTrue (is_listed s) → ⊥
unlisted s holds ended listed =
    let no : false ≡ true = sym (ap (λ (o : Option Job). option_map_or is_running o false) ended) ∙ holds.runs listed in
    absurd (cc)

-- a source with one more job has its jobs
job-holds : (job : Job) (s : SourceState) → HasItsJobs s → open_job s ≡ None → IsJobOf s.source job
    → HasItsJobs (with_job job s)
job-holds job s holds ended own = record {
  own = All-upserted (IsJobOf s.source) job_cmp job s.jobs own holds.own;
  ascending = IsAscending-upserted job_cmp job_cmp_total job s.jobs holds.ascending;
  one_open = one-open job s holds ended;
  runs = λ listed. absurd (unlisted s holds ended listed);
  listed = holds.listed;
}

-- the source, with the job if it has this name
abbrev pub job_at_name : List ℕ → Job → SourceState → SourceState
job_at_name name job s = if bytes_eq s.source.name name then with_job job s else s

same-source : (name : List ℕ) (job : Job) (s : SourceState) → (job_at_name name job s).source ≡ s.source
same-source name job s = by (bytes_eq s.source.name name)
  where
    by : (b : Bool) → (if b then with_job job s else s).source ≡ s.source
    by true = refl
    by false = refl

-- Where the sources of a name take the job, all stay sources.
job-kept : (name : List ℕ) (job : Job) (sources : List SourceState)
    → ((s : SourceState) → IsIn s sources → s.source.name ≡ name → HasItsJobs (with_job job s)) → AreSources sources
    → AreSources (with_source_at name (with_job job) sources)
job-kept name job sources takes was = record {
  ascending = IsAscending-map (job_at_name name job) source_cmp source_cmp
      (λ s t. rw (same-source name job s, same-source name job t) refl) sources was.ascending;
  named = each (λ (s : SourceState). s.source.name ≢ [])
      (λ s within. subst (λ (source : HarvestSource). source.name ≢ []) (sym (same-source name job s))
      (All-IsIn (λ (t : SourceState). t.source.name ≢ []) sources was.named s within));
  jobs = each HasItsJobs (λ s within. by s within (bytes_eq s.source.name name) refl);
}
  where
    each : (P : SourceState → Type 0) → ((s : SourceState) → IsIn s sources → P (job_at_name name job s))
        → All P (with_source_at name (with_job job) sources)
    each P made =
        All-each P (with_source_at name (with_job job) sources)
        (λ t m. let s = map-IsIn (job_at_name name job) t sources m in subst P (sym s.2) (made s.0 s.1))

    by : (s : SourceState) → IsIn s sources → (b : Bool) → bytes_eq s.source.name name ≡ b
        → HasItsJobs (if b then with_job job s else s)
    by s within true here = takes s within ((bytes_eq-Decides s.source.name name).0 here)
    by s within false other = All-IsIn HasItsJobs sources was.jobs s within

-- ---- sources that go

without-all : (name : List ℕ) (jobs : List Job) (sources : List SourceState)
    → sources_after (map (λ job. DropJob name job.number) jobs ++ DropSource name ∷ []) sources
    ≡ dropped (source_at name) sources
without-all name [] sources = refl
without-all name (job ∷ jobs) sources =
    without-all name jobs (with_source_at name (without_job job.number) sources) ∙ gone sources
  where
    gone : (ss : List SourceState)
        → dropped (source_at name) (with_source_at name (without_job job.number) ss) ≡ dropped (source_at name) ss
    gone [] = refl
    gone (s ∷ ss) = by (bytes_eq s.source.name name) (sym (is_eq-slice_cmp s.source.name name)) (gone ss)
      where
        by : (b : Bool) → b ≡ is_eq (source_at name s)
            → dropped (source_at name) (with_source_at name (without_job job.number) ss) ≡ dropped (source_at name) ss
            → dropped (source_at name) ((if b then without_job job.number s else s)
            ∷ with_source_at name (without_job job.number) ss)
            ≡ dropped (source_at name) (s ∷ ss)
        by true is rest = rw (← is) rest
        by false is rest = rw (← is) (ap (λ l. s ∷ l) rest)

-- The sources after the removal of one.
pub removed-sources : (name : List ℕ) (sources : List SourceState)
    → changed_sources (Remove name) sources ≡ dropped (source_at name) sources
removed-sources name sources = by (source_named sources name)
  where
    by : (o : Option SourceState)
        → sources_after (job_drops name o ++ DropSource name ∷ []) sources ≡ dropped (source_at name) sources
    by None = refl
    by (Some s) = without-all name s.jobs sources

-- ---- changes

-- a source without a fault has no open job
ended : (s : SourceState) → fault_if_open (Some s) ≡ None → open_job s ≡ None
ended s none = by (open_job s) none
  where
    by : (o : Option Job) → cond {A = Option StageFault} (is_some o) (Some NotFinished) None ≡ None → o ≡ None
    by None is = refl
    by (Some job) is = absurd (cc)

free : (o : Option SourceState) → cond {A = Option StageFault} (is_some o) (Some SourceNameInUse) None ≡ None → o ≡ None
free None is = refl
free (Some s) is = absurd (cc)

module _ (sources : List SourceState) (was : AreSources sources) (name : List ℕ) (s : SourceState)
    (is : source_named sources name ≡ Some s) where
  its-name : s.source.name ≢ []
  its-name =
      All-IsIn (λ (t : SourceState). t.source.name ≢ []) sources was.named s (named-in sources name s is).0

  its-jobs : HasItsJobs s
  its-jobs = All-IsIn HasItsJobs sources was.jobs s (named-in sources name s is).0

  own-found : source_named sources s.source.name ≡ Some s
  own-found = ap (source_named sources) (named-in sources name s is).1 ∙ is

  updated-kept : (title url : List ℕ) → AreSources (sources_after (updated_source title url (Some s)) sources)
  updated-kept title url =
      let source : HarvestSource = record s.source { title = title; url = url } in
      subst AreSources (sym (replaced-sources source s sources own-found))
      (upserted-kept (with_jobs_of source (Some s)) sources its-name
      (replaced-holds source s refl (omega arith) its-jobs) was)

  -- the source after it gave its next job a number
  numbered : HarvestSource
  numbered = record s.source { next_job = s.source.next_job + 1 }

  numbered-kept : AreSources (upserted source_cmp (with_jobs_of numbered (Some s)) sources)
  unfolding numbered
  numbered-kept =
      upserted-kept (with_jobs_of numbered (Some s)) sources its-name
      (replaced-holds numbered s refl (omega arith) its-jobs) was

  job-added : (created : ℤ) → open_job s ≡ None → AreSources (sources_after (added_job created (Some s)) sources)
  unfolding numbered
  job-added created none =
      subst (λ (l : List SourceState). AreSources (changed_by (PutJob job) l))
      (sym (replaced-sources numbered s sources own-found))
      (job-kept s.source.name job (upserted source_cmp new sources)
      (λ t m here. subst (λ (u : SourceState). HasItsJobs (with_job job u)) (sym (this t m here)) taken)
      numbered-kept)
    where
      job : Job
      job = new_job s.source.name s.source.next_job created

      new : SourceState
      new = with_jobs_of numbered (Some s)

      taken : HasItsJobs (with_job job new)
      taken =
          job-holds job new (replaced-holds numbered s refl (omega arith) its-jobs) none
          (record { own = refl; reported = refl; given = omega arith; blank = λ o. refl })

      this : (t : SourceState) → IsIn t (upserted source_cmp new sources) → t.source.name ≡ s.source.name → t ≡ new
      this t m here = by (IsIn-upserted source_cmp new t sources m)
        where
          by : (t ≡ new) ⊎ (IsIn t sources × (is_eq (source_cmp t new) ≡ false)) → t ≡ new
          by (inl same) = same
          by (inr other) =
              let apart : bytes_eq t.source.name s.source.name ≡ false =
              sym (is_eq-slice_cmp t.source.name s.source.name) ∙ other.1 in
              let alike : bytes_eq t.source.name s.source.name ≡ true =
              (bytes_eq-Decides t.source.name s.source.name).1 here in
              absurd (cc)

-- After a change without a fault the sources are sources.
pub sources-kept : (change : SourceChange) (sources : List SourceState) → AreSources sources → IsNamed change
    → source_fault change sources ≡ None → AreSources (changed_sources change sources)
sources-kept (Create source) sources was named none =
    subst AreSources (sym (added-sources source sources (free (source_named sources source.name) none)))
    (upserted-kept (with_jobs_of source None) sources named (bare-holds source) was)
sources-kept (Update name title url) sources was named none = by (source_named sources name) refl
  where
    by : (o : Option SourceState) → source_named sources name ≡ o
        → AreSources (sources_after (updated_source title url o) sources)
    by None is = was
    by (Some s) is = updated-kept sources was name s is title url
sources-kept (Remove name) sources was named none =
    subst AreSources (sym (removed-sources name sources)) (record {
      ascending = IsAscending-dropped source_cmp (source_at name) sources was.ascending;
      named = All-dropped (λ (s : SourceState). s.source.name ≢ []) (source_at name) sources was.named;
      jobs = All-dropped HasItsJobs (source_at name) sources was.jobs;
    })
sources-kept (AddJob name created) sources was named none = by (source_named sources name) refl none
  where
    by : (o : Option SourceState) → source_named sources name ≡ o → fault_if_open o ≡ None
        → AreSources (sources_after (added_job created o) sources)
    by None is none = was
    by (Some s) is none = job-added sources was name s is created (ended s none)

-- ---- their organizations

-- the source's organization is one of these
abbrev pub HasOwner : (List ℕ → Type 0) → SourceState → Type 0
HasOwner P s = P s.source.owner_org

-- what is said of the organizations of new sources
abbrev pub AddsOwner : (List ℕ → Type 0) → SourceChange → Type 0
AddsOwner P (Create source) = P source.owner_org
AddsOwner P (Update name title url) = Unit {0}
AddsOwner P (Remove name) = Unit {0}
AddsOwner P (AddJob name created) = Unit {0}

put-owned : (P : List ℕ → Type 0) (source : HarvestSource) (sources : List SourceState) → P source.owner_org
    → All (HasOwner P) sources → All (HasOwner P) (changed_by (PutSource source) sources)
put-owned P source sources own all =
    All-upserted (HasOwner P) source_cmp (with_jobs_of source (found (source_at source.name) sources)) sources
    (by (found (source_at source.name) sources)) all
  where
    by : (o : Option SourceState) → HasOwner P (with_jobs_of source o)
    by None = own
    by (Some s) = own

job-owned : (P : List ℕ → Type 0) (job : Job) (sources : List SourceState) → All (HasOwner P) sources
    → All (HasOwner P) (changed_by (PutJob job) sources)
job-owned P job sources all =
    All-each (HasOwner P) (changed_by (PutJob job) sources)
    (λ t m. let s = map-IsIn (job_at_name job.source job) t sources m in
    subst P (ap (λ (source : HarvestSource). source.owner_org)
    (sym (ap (λ (u : SourceState). u.source) s.2 ∙ same-source job.source job s.0)))
    (All-IsIn (HasOwner P) sources all s.0 s.1))

-- What holds of the organizations of all sources holds after a change, if it holds of that of a new source.
pub owners-kept : (P : List ℕ → Type 0) (change : SourceChange) (sources : List SourceState) → AddsOwner P change
    → All (HasOwner P) sources → All (HasOwner P) (changed_sources change sources)
owners-kept P (Create source) sources own all = put-owned P source sources own all
owners-kept P (Update name title url) sources own all = by (source_named sources name) refl
  where
    by : (o : Option SourceState) → source_named sources name ≡ o
        → All (HasOwner P) (sources_after (updated_source title url o) sources)
    by None is = all
    by (Some s) is =
        put-owned P (record s.source { title = title; url = url }) sources
        (All-IsIn (HasOwner P) sources all s (named-in sources name s is).0) all
owners-kept P (Remove name) sources own all =
    subst (All (HasOwner P)) (sym (removed-sources name sources)) (All-dropped (HasOwner P) (source_at name) sources all)
owners-kept P (AddJob name created) sources own all = by (source_named sources name) refl
  where
    by : (o : Option SourceState) → source_named sources name ≡ o
        → All (HasOwner P) (sources_after (added_job created o) sources)
    by None is = all
    by (Some s) is =
        let source : HarvestSource = record s.source { next_job = s.source.next_job + 1 } in
        job-owned P (new_job s.source.name s.source.next_job created) (changed_by (PutSource source) sources)
        (put-owned P source sources (All-IsIn (HasOwner P) sources all s (named-in sources name s is).0) all)

-- ---- sources that stay

-- the change doesn't remove the source of that name
abbrev pub IsSpared : SourceChange → List ℕ → Type 0
IsSpared (Create source) other = Unit {0}
IsSpared (Update name title url) other = Unit {0}
IsSpared (Remove name) other = bytes_eq other name ≡ false
IsSpared (AddJob name created) other = Unit {0}

-- A source without a fault is there.
pub unfaulted-source : (sources : List SourceState) (name : List ℕ) → fault_if_open (source_named sources name) ≡ None
    → (s : SourceState) × (source_named sources name ≡ Some s)
unfaulted-source sources name none = by (source_named sources name) refl none
  where
    by : (o : Option SourceState) → source_named sources name ≡ o → fault_if_open o ≡ None
        → (s : SourceState) × (source_named sources name ≡ Some s)
    by None is none = absurd (cc)
    by (Some s) is none = (s, is)

-- A source stays where one of its name and its organization takes the place of the one of this name.
upserted-like : (new old : SourceState) (sources : List SourceState) → AreSources sources → IsIn old sources
    → new.source.name ≡ old.source.name → new.source.owner_org ≡ old.source.owner_org → (s : SourceState)
    → IsIn s sources → IsLike (upserted source_cmp new sources) s
upserted-like new old sources was there named of_org s m = by (bytes_eq s.source.name old.source.name) refl
  where
    by : (b : Bool) → bytes_eq s.source.name old.source.name ≡ b → IsLike (upserted source_cmp new sources) s
    by true here =
        let same : s ≡ old =
        unique-at source_cmp source_cmp_total sources was.ascending s old m there
        (is_eq-slice_cmp s.source.name old.source.name ∙ here) in (
          new,
          upserted-IsIn source_cmp new sources,
          named ∙ ap (λ (t : SourceState). t.source.name) (sym same),
          of_org ∙ ap (λ (t : SourceState). t.source.owner_org) (sym same),
        )
    by false other = (
      s,
      upserted-IsIn_other source_cmp new s sources m
          (is_eq-slice_cmp s.source.name new.source.name ∙ ap (bytes_eq s.source.name) named ∙ other),
      refl,
      refl,
    )

-- A source stays where a job is put.
job-like : (job : Job) (sources : List SourceState) (s : SourceState) → IsLike sources s
    → IsLike (changed_by (PutJob job) sources) s
job-like job sources s like =
    let same : (job_at_name job.source job like.0).source ≡ like.0.source = same-source job.source job like.0 in (
      job_at_name job.source job like.0,
      IsIn-map (job_at_name job.source job) like.0 sources like.1,
      ap (λ (source : HarvestSource). source.name) same ∙ like.2,
      ap (λ (source : HarvestSource). source.owner_org) same ∙ like.3,
    )

-- After a change without a fault each source that isn't removed still has its name and its organization.
pub sources-stay : (change : SourceChange) (sources : List SourceState) → AreSources sources
    → source_fault change sources ≡ None → (s : SourceState) → IsIn s sources → IsSpared change s.source.name
    → IsLike (changed_sources change sources) s
sources-stay (Create source) sources was none s m spared =
    let unused : source_named sources source.name ≡ None = free (source_named sources source.name) none in
    subst (λ (l : List SourceState). IsLike l s) (sym (added-sources source sources unused)) (
      s,
      upserted-IsIn_other source_cmp (with_jobs_of source None) s sources m
          (is_eq-slice_cmp s.source.name source.name
          ∙ find-none (λ (t : SourceState). bytes_eq t.source.name source.name) s sources unused m),
      refl,
      refl,
    )
sources-stay (Update name title url) sources was none s m spared =
    let old = unfaulted-source sources name none in
    let source : HarvestSource = record old.0.source { title = title; url = url } in
    let there = named-in sources name old.0 old.1 in
    subst (λ (o : Option SourceState). IsLike (sources_after (updated_source title url o) sources) s) (sym old.1)
    (subst (λ (l : List SourceState). IsLike l s)
    (sym (replaced-sources source old.0 sources (ap (source_named sources) there.1 ∙ old.1)))
    (upserted-like (with_jobs_of source (Some old.0)) old.0 sources was there.0 refl refl s m))
sources-stay (Remove name) sources was none s m spared =
    subst (λ (l : List SourceState). IsLike l s) (sym (removed-sources name sources)) (
      s,
      dropped-IsIn (source_at name) s sources m (is_eq-slice_cmp s.source.name name ∙ spared),
      refl,
      refl,
    )
sources-stay (AddJob name created) sources was none s m spared =
    let old = unfaulted-source sources name none in
    let source : HarvestSource = record old.0.source { next_job = old.0.source.next_job + 1 } in
    let there = named-in sources name old.0 old.1 in
    subst (λ (o : Option SourceState). IsLike (sources_after (added_job created o) sources) s) (sym old.1)
    (job-like (new_job old.0.source.name old.0.source.next_job created) (changed_by (PutSource source) sources) s
    (subst (λ (l : List SourceState). IsLike l s)
    (sym (replaced-sources source old.0 sources (ap (source_named sources) there.1 ∙ old.1)))
    (upserted-like (with_jobs_of source (Some old.0)) old.0 sources was there.0 refl refl s m)))

-- The owners of the sources that a caller sees are those of the owners that it administers.
pub owners-kept_seen : (caller : Caller) (people : PeopleLists) (sources : List SourceState)
    → owners_of (sources_seen caller people sources) ≡ owners_seen caller people (owners_of sources)
owners-kept_seen caller people [] = refl
owners-kept_seen caller people (s ∷ ss) =
    by (administers people caller s.source.owner_org) (owners-kept_seen caller people ss)
  where
    by : (b : Bool) → owners_of (sources_seen caller people ss) ≡ owners_seen caller people (owners_of ss)
        → owners_of (map without_listing
        (cond b (s ∷ filter (sees_source people caller) ss) (filter (sees_source people caller) ss)))
        ≡ cond b (s.source.owner_org ∷ owners_seen caller people (owners_of ss))
        (owners_seen caller people (owners_of ss))
    by true rest = ap (λ l. s.source.owner_org ∷ l) rest
    by false rest = rest

-- So they are with the people that the caller sees.
pub owners-there : (caller : Caller) (people : PeopleLists) (sources : List SourceState)
    → owners_seen caller (people_seen caller people) (owners_of sources)
    ≡ owners_of (sources_seen caller people sources)
owners-there caller people sources =
    filter_agree (administers (people_seen caller people) caller) (administers people caller)
    (administers_seen caller people) (owners_of sources)
    ∙ sym (owners-kept_seen caller people sources)

-- Sources after a step of a harvest: each still has its jobs, none is added or lost, and each entry is of a source that is
-- there.
use Rattle.std.proofs.Common.{◌≡◌, ◌≢◌, ◌∙◌, ◌≤◌, ◌<◌, ◌++◌, Bool, true, false, cond, not, ◌&&◌, List, [], ◌∷◌, Option, Some, None}
use Rattle.std.proofs.Common.{ℕ, ◌⊎◌, inl, inr, map, length, get_or, refl, sym, ap, subst, arith}
use Rattle.std.specs.Prelude.{IfSome, IsTrue, count_by, filter, find, is_some}
use Rattle.std.specs.List.{All, flat_map, list_all}
use Rattle.std.specs.Option.{option_map_or}
use Rattle.std.specs.Ordering.{is_eq, nat_cmp}
use Rattle.std.specs.Str.{bytes_eq}
use Rattle.std.specs.declared.cmp.Ordering.TheVariants.{Equal}
use Rattle.std.proofs.lemmas.Bool.{and_parts}
use Rattle.std.proofs.lemmas.Cmp.{nat_cmp_total, tied_itself}
use Rattle.std.proofs.lemmas.List.{get_or-map, get_or_default, length-map}
use Rattle.std.proofs.lemmas.List.Sums.{length-filter}
use Rattle.std.proofs.lemmas.Map.Text.{is_eq-slice_cmp}
use Rattle.std.proofs.lemmas.Simd.{map-map}
use Rattle.std.proofs.lemmas.Slice.Eq.{bytes_eq-Decides}
use Rattle.portal_base.specs.Ordered.{IsAscending, dropped, found, inserted, upserted}
use Rattle.portal_base.proofs.Removed.{is_eq_true}
use Rattle.portal_base.proofs.Unique.{IsIn, IsIn-get_or}
use Rattle.portal_base.proofs.Upserted.{All-IsIn, All-upserted, IsAscending-upserted, filter-upserted}
use Rattle.harvest_sources.specs.Entries.{PutJob, PutListing, SourceEntry, sources_after, with_job, with_listing}
use Rattle.harvest_sources.specs.Jobs.{blank_report, in_state, is_new, is_new_state, is_open, is_running, is_running_state}
use Rattle.harvest_sources.specs.Jobs.{job_cmp, with_report}
use Rattle.harvest_sources.specs.Listings.{finished_report, first_waiting, is_done, listing_of, object_cmp, object_cmp_total}
use Rattle.harvest_sources.specs.Listings.{released_object, with_all_released, with_progress}
use Rattle.harvest_sources.specs.Sources.{AreSources, HasItsJobs, IsJobOf, IsKey-source_at, SourceState, is_listed, open_job}
use Rattle.harvest_sources.specs.Sources.{source_at, source_cmp, source_cmp_total}
use Rattle.harvest_sources.specs.Steps.{Stepped, begun, broken, claimed, claimed_from, claimed_in, count_deleted, ended}
use Rattle.harvest_sources.specs.Steps.{ended_with, has_new, idle, is_unsettled, listed, on_job, outcome_of, renewal, renewals}
use Rattle.harvest_sources.specs.Steps.{renewed, settled, settled_in, stepped}
use Rattle.harvest_sources.specs.declared.cause.Cause.{Cause}
use Rattle.harvest_sources.specs.declared.job.Job.{Job}
use Rattle.harvest_sources.specs.declared.job.JobState.{JobState}
use Rattle.harvest_sources.specs.declared.job.JobState.TheVariants.{New, Running, Finished, Broken}
use Rattle.harvest_sources.specs.declared.listing.Listing.{Listing}
use Rattle.harvest_sources.specs.declared.listing.Outcome.{Outcome}
use Rattle.harvest_sources.specs.declared.listing.Progress.{Progress}
use Rattle.harvest_sources.specs.declared.listing.Progress.TheVariants.{Claimed, Done as is_done_as}
use Rattle.harvest_sources.specs.declared.step.Effect.{Effect}
use Rattle.harvest_sources.specs.declared.step.Item.{Item}
use Rattle.harvest_sources.specs.declared.step.Step.{Step}
use Rattle.harvest_sources.specs.declared.step.Step.TheVariants.{NewRound, Begin, List as list, Break, Claim, Settle, End}
use Rattle.harvest_sources.specs.declared.step.StepReply.{StepReply}
use Rattle.harvest_sources.specs.declared.step.StepReply.TheVariants.{Done, Ended, Already, Nothing}
use Rattle.harvest_stages.specs.AtRest.{bare_sources}
use Rattle.harvest_stages.specs.Prepared.{itself_after}
use Rattle.harvest_stages.proofs.FoundLemmas.{found-IsIn}
use Rattle.harvest_stages.proofs.MapLemmas.{IsAscending-map, map-same}
use Rattle.harvest_stages.proofs.PreparedLemmas.{listing_up}
use Rattle.harvest_stages.proofs.RestoreLemmas.{job_cmp_total}
use Rattle.harvest_stages.proofs.StepLemmas.{AreOwn, IsOwn, after_own, all_renewed, find_in, open_is_own, renewals_own}
use Rattle.harvest_stages.proofs.StepLemmas.{renewals_renew, renewed_source, sources_kept}

-- ---- the open job, replaced

nothing_more : {X : Type 0} (x : X) (xs : List X) → length (x ∷ xs) ≤ 1 → xs ≡ []
nothing_more x [] few = refl
nothing_more x (y ∷ ys) few = absurd (omega (arith, few))

-- where at most one passes, it is the one that is found
only_one : {X : Type 0} (p : X → Bool) (xs : List X) (x : X) → find p xs ≡ Some x → length (filter p xs) ≤ 1
    → filter p xs ≡ x ∷ []
only_one p [] x is few = absurd (cc)
only_one p (y ∷ ys) x is few = by (p y) is few (only_one p ys x)
  where
    by : (b : Bool) → cond b (Some y) (find p ys) ≡ Some x → length (cond b (y ∷ filter p ys) (filter p ys)) ≤ 1
        → (find p ys ≡ Some x → length (filter p ys) ≤ 1 → filter p ys ≡ x ∷ [])
        → cond b (y ∷ filter p ys) (filter p ys) ≡ x ∷ []
    by true is few rest =
        let same : y ≡ x = cc in
        ap (λ z. z ∷ filter p ys) same ∙ ap (λ l. x ∷ l) (nothing_more y (filter p ys) few)
    by false is few rest = rest is few

find_passes : {X : Type 0} (p : X → Bool) (xs : List X) (x : X) → find p xs ≡ Some x → p x ≡ true
find_passes p [] x is = absurd (cc)
find_passes p (y ∷ ys) x is = by (p y) refl is (find_passes p ys x)
  where
    by : (b : Bool) → p y ≡ b → cond b (Some y) (find p ys) ≡ Some x → (find p ys ≡ Some x → p x ≡ true) → p x ≡ true
    by true passes is rest = let same : y ≡ x = cc in subst (λ z. p z ≡ true) same passes
    by false passes is rest = rest is

module _ (job old : Job) (same : old.number ≡ job.number) where
  alike : nat_cmp old.number job.number ≡ Equal
  alike = ap (λ n. nat_cmp n job.number) same ∙ tied_itself nat_cmp_total job.number

  -- a job in place of the only one, which has its number
  put_over : upserted job_cmp job (old ∷ []) ≡ job ∷ []
  put_over = ap (λ r. inserted job_cmp job (cond (not (is_eq r)) (old ∷ []) [])) alike

  gone_over : dropped (λ j. job_cmp j job) (old ∷ []) ≡ []
  gone_over = ap (λ r. cond (not (is_eq r)) (old ∷ []) []) alike

  -- At most one job is open after the open one is replaced.
  one_open_still : (s : SourceState) → HasItsJobs s → open_job s ≡ Some old
      → count_by is_open (upserted job_cmp job s.jobs) ≤ 1
  one_open_still s holds is =
      subst (λ (n : ℕ). n ≤ 1) (length-filter is_open (upserted job_cmp job s.jobs))
      (subst (λ (l : List Job). length l ≤ 1)
      (sym (filter-upserted job_cmp job_cmp_total is_open job s.jobs holds.ascending
      ∙ ap (λ (l : List Job). cond (is_open job) (upserted job_cmp job l) (dropped (λ (j : Job). job_cmp j job) l))
      (only_one is_open s.jobs old is
      (subst (λ (n : ℕ). n ≤ 1) (sym (length-filter is_open s.jobs)) holds.one_open))))
      (by (is_open job)))
    where
      by : (b : Bool)
          → length (cond b (upserted job_cmp job (old ∷ [])) (dropped (λ (j : Job). job_cmp j job) (old ∷ []))) ≤ 1
      by true = subst (λ (l : List Job). length l ≤ 1) (sym put_over) (omega arith)
      by false = subst (λ (l : List Job). length l ≤ 1) (sym gone_over) (omega arith)

  -- A source whose catalogue isn't listed has its jobs after its open job is replaced.
  put_holds : (s : SourceState) → HasItsJobs s → open_job s ≡ Some old → IsJobOf s.source job → s.listing ≡ None
      → HasItsJobs (with_job job s)
  put_holds s holds is own none = record {
    own = All-upserted (IsJobOf s.source) job_cmp job s.jobs own holds.own;
    ascending = IsAscending-upserted job_cmp job_cmp_total job s.jobs holds.ascending;
    one_open = one_open_still s holds is;
    runs = λ there. let no : false ≡ true = sym (ap is_some none) ∙ there in absurd (cc);
    listed = holds.listed;
  }

-- ---- the jobs of a source

module _ (s : SourceState) (job : Job) (holds : HasItsJobs s) (is : open_job s ≡ Some job) where
  own_job : IsJobOf s.source job
  own_job = All-IsIn (IsJobOf s.source) s.jobs holds.own job (find_in is_open s.jobs job is)

  own_in_state : (state : JobState) → IsJobOf s.source (in_state state job)
  own_in_state state = record {
    own = own_job.own;
    reported = own_job.own;
    given = own_job.given;
    blank = λ is_now. ap (λ (name : List ℕ). blank_report name state) own_job.own;
  }

  own_finished : (listing : Listing) (deleted : ℕ)
      → IsJobOf s.source (with_report (finished_report job.source listing deleted) job)
  own_finished listing deleted = record {
    own = own_job.own;
    reported = own_job.own;
    given = own_job.given;
    blank = λ is_now. absurd (cc);
  }

  -- Nothing is listed where no job runs.
  unlisted_unless_running : is_running job ≡ false → s.listing ≡ None
  unlisted_unless_running fails = by s.listing refl
    where
      by : (o : Option Listing) → s.listing ≡ o → o ≡ None
      by None e = refl
      by (Some listing) e =
          let no : false ≡ true =
          sym fails ∙ sym (ap (λ (o : Option Job). option_map_or is_running o false) is) ∙ holds.runs (ap is_some e) in
          absurd (cc)

-- a new job doesn't run
new_is_not_running : (state : JobState) → is_new_state state ≡ true → is_running_state state ≡ false
new_is_not_running New e = refl
new_is_not_running Running e = absurd (cc)
new_is_not_running Finished e = absurd (cc)
new_is_not_running (Broken cause) e = absurd (cc)

-- A source of which a job runs has its jobs with another listing,
relisted_holds : (s : SourceState) (listing : Listing) → HasItsJobs s
    → IsTrue (option_map_or is_running (open_job s) false) → IsAscending object_cmp listing.objects
    → HasItsJobs (with_listing (Some listing) s)
relisted_holds s listing holds running up = record {
  own = holds.own;
  ascending = holds.ascending;
  one_open = holds.one_open;
  runs = λ there. running;
  listed = up;
}

-- and so has each source without a listing.
unlisted_holds : (s : SourceState) → HasItsJobs s → HasItsJobs (with_listing None s)
unlisted_holds s holds = record {
  own = holds.own;
  ascending = holds.ascending;
  one_open = holds.one_open;
  runs = λ there. absurd (cc);
  listed = tt;
}

listed_objects : (s : SourceState) (listing : Listing) → HasItsJobs s → s.listing ≡ Some listing
    → IsAscending object_cmp listing.objects
listed_objects s listing holds is =
    subst (λ (o : Option Listing). IfSome o (λ l. IsAscending object_cmp l.objects)) is holds.listed

-- ---- what the entries of a step make of their source

-- The entries are of the source, which has its jobs after them.
abbrev pub Keeps : SourceState → List SourceEntry → Type 0
Keeps s entries = AreOwn s.source.name entries × HasItsJobs (itself_after entries s)

module _ (s : SourceState) (job : Job) (holds : HasItsJobs s) (is : open_job s ≡ Some job) where
  begun_keeps : has_new s ≡ true → Keeps s (begun s job).entries
  begun_keeps waits =
      let new : is_new job ≡ true =
      sym (ap (λ (o : Option Job). option_map_or is_new o false) is) ∙ waits in (
        (open_is_own s job holds is, tt),
        put_holds (in_state Running job) job refl s holds is (own_in_state s job holds is Running)
            (unlisted_unless_running s job holds is (new_is_not_running job.report.state new)),
      )

  none_if : (o : Option Listing) → not (is_some o) ≡ true → o ≡ None
  none_if None e = refl
  none_if (Some listing) e = absurd (cc)

  listed_keeps : (items : List Item) (unnamed : ℕ) → Keeps s (listed items unnamed s job).entries
  listed_keeps items unnamed = by (is_running job && not (is_listed s)) refl
    where
      by : (b : Bool) → (is_running job && not (is_listed s)) ≡ b
          → Keeps s (cond b (record {
            entries = PutListing s.source.name (Some (listing_of s.source.name items unnamed)) ∷ [];
            reply = Done;
          }) (idle Already)).entries
      by true e = (
        (refl, tt),
        relisted_holds s (listing_of s.source.name items unnamed) holds
            (ap (λ (o : Option Job). option_map_or is_running o false) is
            ∙ (and_parts (is_running job) (not (is_listed s)) e).0)
            (listing_up s.source.name items unnamed),
      )
      by false e = (tt, holds)

  broken_keeps : (cause : Cause) → Keeps s (broken cause s job).entries
  broken_keeps cause = by (is_running job && not (is_listed s)) refl
    where
      by : (b : Bool) → (is_running job && not (is_listed s)) ≡ b
          → Keeps s (cond b (record {
            entries = PutJob (in_state (Broken cause) job) ∷ [];
            reply = Ended (blank_report job.source (Broken cause));
          }) (idle Already)).entries
      by true e = (
        (open_is_own s job holds is, tt),
        put_holds (in_state (Broken cause) job) job refl s holds is (own_in_state s job holds is (Broken cause))
            (none_if s.listing (and_parts (is_running job) (not (is_listed s)) e).1),
      )
      by false e = (tt, holds)

  -- An object of the listing is so far.
  progress_keeps : (listing : Listing) (iri : List ℕ) (progress : Progress) → s.listing ≡ Some listing
      → Keeps s (PutListing s.source.name (Some (with_progress iri progress listing)) ∷ [])
  progress_keeps listing iri progress e = (
    (refl, tt),
    relisted_holds s (with_progress iri progress listing) holds (holds.runs (ap is_some e))
        (IsAscending-upserted object_cmp object_cmp_total (record { iri = iri; progress = progress }) listing.objects
        (listed_objects s listing holds e)),
  )

  claimed_keeps : Keeps s (claimed s job).entries
  claimed_keeps = by s.listing refl
    where
      item : (listing : Listing) → s.listing ≡ Some listing → (o : Option Item)
          → Keeps s (option_map_or (claimed_in s job listing) o (idle Nothing)).entries
      item listing e None = (tt, holds)
      item listing e (Some i) = progress_keeps listing i.iri (Claimed i.found) e

      by : (o : Option Listing) → s.listing ≡ o → Keeps s (claimed_from s job o).entries
      by None e = (tt, holds)
      by (Some listing) e = item listing e (first_waiting listing)

  settled_keeps : (iri : List ℕ) (came : Outcome) → Keeps s (settled iri came s job).entries
  settled_keeps iri came = by s.listing refl
    where
      put : (listing : Listing) → s.listing ≡ Some listing → (b : Bool)
          → Keeps s (cond b (record {
            entries = PutListing s.source.name (Some (with_progress iri (is_done_as came) listing)) ∷ [];
            reply = Done;
          }) (idle Already)).entries
      put listing e true = progress_keeps listing iri (is_done_as came) e
      put listing e false = (tt, holds)

      by : (o : Option Listing) → s.listing ≡ o → Keeps s (settled_in iri came s o).entries
      by None e = (tt, holds)
      by (Some listing) e = put listing e (is_unsettled iri listing)

  ended_keeps : (deleted : ℕ) → Keeps s (ended deleted s job).entries
  ended_keeps deleted = by s.listing
    where
      put : (listing : Listing) (b : Bool)
          → Keeps s (cond b (record {
            entries =
                PutListing s.source.name None ∷ PutJob (with_report (finished_report job.source listing deleted) job) ∷ [];
            reply = Ended (finished_report job.source listing deleted);
          }) (idle Already)).entries
      put listing true = (
        (refl, (open_is_own s job holds is, tt)),
        put_holds (with_report (finished_report job.source listing deleted) job) job refl (with_listing None s)
            (unlisted_holds s holds) is (own_finished s job holds is listing deleted) refl,
      )
      put listing false = (tt, holds)

      by : (o : Option Listing) → Keeps s (ended_with deleted s job o).entries
      by None = (tt, holds)
      by (Some listing) = put listing (list_all is_done listing.objects)

renewals_keep : (s : SourceState) → HasItsJobs s → HasItsJobs (itself_after (renewals s) s)
renewals_keep s holds = by s.listing refl (open_job s) refl
  where
    run : (job : Job) → open_job s ≡ Some job → s.listing ≡ None → (b : Bool)
        → HasItsJobs (itself_after (cond b (PutJob (in_state New job) ∷ []) []) s)
    run job is none true = put_holds (in_state New job) job refl s holds is (own_in_state s job holds is New) none
    run job is none false = holds

    by : (l : Option Listing) → s.listing ≡ l → (o : Option Job) → open_job s ≡ o
        → HasItsJobs (itself_after (renewal s l o) s)
    by l e None is = holds
    by (Some listing) e (Some job) is =
        relisted_holds s (with_all_released listing) holds (holds.runs (ap is_some e))
        (IsAscending-map released_object object_cmp object_cmp (λ x y. refl) listing.objects
        (listed_objects s listing holds e))
    by None e (Some job) is = run job is e (is_running job)

-- ---- what they make of all sources

-- The entry is of one of these sources.
abbrev pub IsThere : List SourceState → SourceEntry → Type 0
IsThere sources entry = (s : SourceState) × IsIn s sources × IsOwn s.source.name entry

-- Each of the entries is of one of the sources. After them these are the same sources, each with its jobs.
pub record AreKept (sources : List SourceState) (entries : List SourceEntry) : Type 0 where
  pub there : (entry : SourceEntry) → IsIn entry entries → IsThere sources entry
  pub sound : AreSources (sources_after entries sources)
  pub same : bare_sources (sources_after entries sources) ≡ bare_sources sources

-- What holds of each item's image holds of all.
each_mapped : {X : Type 0} (Q : X → Type 0) (f : X → X) (xs : List X) → ((x : X) → IsIn x xs → Q (f x))
    → All Q (map f xs)
each_mapped Q f xs made k d lt =
    let within : k < length xs = rw (length-map xs f) at lt in
    subst Q (sym (get_or-map f xs k d d within))
    (made (get_or xs k d)
    (IsIn-get_or (get_or xs k d) xs k within (get_or_default xs k (get_or xs k d) d within)))

-- Sources that are changed without their names are still sources.
changed_kept : (sources : List SourceState) (f : SourceState → SourceState) → AreSources sources
    → ((s : SourceState) → (f s).source ≡ s.source) → ((s : SourceState) → IsIn s sources → HasItsJobs (f s))
    → AreSources (map f sources) × (bare_sources (map f sources) ≡ bare_sources sources)
changed_kept sources f was keeps holds = (
  record {
    ascending = IsAscending-map f source_cmp source_cmp same_order sources was.ascending;
    named = each_mapped (λ (s : SourceState). s.source.name ≢ []) f sources
        (λ s m. subst (λ source. source.name ≢ []) (sym (keeps s))
        (All-IsIn (λ (t : SourceState). t.source.name ≢ []) sources was.named s m));
    jobs = each_mapped HasItsJobs f sources holds;
  },
  map-map (λ (s : SourceState). s.source) f sources
      ∙ map-same (λ (s : SourceState). (f s).source) (λ (s : SourceState). s.source) keeps sources,
)
  where
    same_order : (s t : SourceState) → source_cmp (f s) (f t) ≡ source_cmp s t
    same_order s t =
        ap (λ source. source_cmp (record (f s) { source = source }) (f t)) (keeps s)
        ∙ ap (λ source. source_cmp s (record (f t) { source = source })) (keeps t)

module _ (sources : List SourceState) (was : AreSources sources) where
  jobs_of : (s : SourceState) → IsIn s sources → HasItsJobs s
  jobs_of s m = All-IsIn HasItsJobs sources was.jobs s m

  -- a source is found by its name
  found_by_name : (s : SourceState) (name : List ℕ) → IsIn s sources → s.source.name ≡ name
      → found (source_at name) sources ≡ Some s
  found_by_name s name m named =
      found-IsIn source_cmp source_cmp_total (source_at name) (IsKey-source_at name) sources s was.ascending m
      (is_eq_true (source_at name s)
      (is_eq-slice_cmp s.source.name name ∙ (bytes_eq-Decides s.source.name name).1 named))

  -- so no two have one name
  same_named : (s t : SourceState) → IsIn s sources → IsIn t sources → t.source.name ≡ s.source.name → s ≡ t
  same_named s t m n named =
      let both : Some s ≡ Some t =
      sym (found_by_name s s.source.name m refl) ∙ found_by_name t s.source.name n named in
      cc (both)

  own_there : (s : SourceState) (entries : List SourceEntry) → IsIn s sources → AreOwn s.source.name entries
      → (entry : SourceEntry) → IsIn entry entries → IsThere sources entry
  own_there s [] m own entry among = absurd among
  own_there s (first ∷ rest) m own entry (inl e) = (s, m, subst (IsOwn s.source.name) (sym e) own.0)
  own_there s (first ∷ rest) m own entry (inr among) = own_there s rest m own.1 entry among

  -- Entries that keep one source keep all.
  one_kept : (s : SourceState) (entries : List SourceEntry) → IsIn s sources → Keeps s entries
      → AreKept sources entries
  one_kept s entries m keeps =
      let name : List ℕ = s.source.name in
      let f : SourceState → SourceState = λ t. cond (bytes_eq t.source.name name) (itself_after entries t) t in
      let kept = changed_kept sources f was (λ t. source_same t (bytes_eq t.source.name name))
      (λ t n. holds t n (bytes_eq t.source.name name) refl) in
      let after : sources_after entries sources ≡ map f sources = after_own name entries sources keeps.0 in
      record {
        there = own_there s entries m keeps.0;
        sound = subst AreSources (sym after) kept.0;
        same = ap bare_sources after ∙ kept.1;
      }
    where
      source_same : (t : SourceState) (b : Bool) → (cond b (itself_after entries t) t).source ≡ t.source
      source_same t true = sources_kept s.source.name entries t keeps.0
      source_same t false = refl

      holds : (t : SourceState) → IsIn t sources → (b : Bool) → bytes_eq t.source.name s.source.name ≡ b
          → HasItsJobs (cond b (itself_after entries t) t)
      holds t n true here =
          subst (λ (u : SourceState). HasItsJobs (itself_after entries u))
          (same_named s t m n ((bytes_eq-Decides t.source.name s.source.name).0 here)) keeps.1
      holds t n false other = jobs_of t n

  none_kept : AreKept sources []
  none_kept = record { there = λ entry among. absurd among; sound = was; same = refl }

  -- So does the step on the source that is found.
  found_kept : (p : SourceState → Bool) (otherwise : StepReply) (step : SourceState → Job → Stepped)
      → ((s : SourceState) (job : Job) → HasItsJobs s → open_job s ≡ Some job → p s ≡ true
      → Keeps s (step s job).entries)
      → AreKept sources (on_job otherwise step (find p sources)).entries
  found_kept p otherwise step keeps = by (find p sources) refl
    where
      with_open : (s : SourceState) → find p sources ≡ Some s → (o : Option Job) → open_job s ≡ o
          → AreKept sources (option_map_or (step s) o (idle otherwise)).entries
      with_open s e None is = none_kept
      with_open s e (Some job) is =
          let m = find_in p sources s e in
          one_kept s (step s job).entries m (keeps s job (jobs_of s m) is (find_passes p sources s e))

      by : (o : Option SourceState) → find p sources ≡ o → AreKept sources (on_job otherwise step o).entries
      by None e = none_kept
      by (Some s) e = with_open s e (open_job s) refl

append_IsIn : {X : Type 0} (x : X) (xs ys : List X) → IsIn x (xs ++ ys) → IsIn x xs ⊎ IsIn x ys
append_IsIn x [] ys m = inr m
append_IsIn x (y ∷ xs) ys (inl e) = inl (inl e)
append_IsIn x (y ∷ xs) ys (inr m) = by (append_IsIn x xs ys m)
  where
    by : IsIn x xs ⊎ IsIn x ys → IsIn x (y ∷ xs) ⊎ IsIn x ys
    by (inl n) = inl (inr n)
    by (inr n) = inr n

-- Each entry of a new round is of a source.
round_there : (sources others : List SourceState) → AreSources sources → ((s : SourceState) → IsIn s others → IsIn s sources)
    → (entry : SourceEntry) → IsIn entry (flat_map renewals others) → IsThere sources entry
round_there sources [] was among entry m = absurd m
round_there sources (s ∷ others) was among entry m =
    by (append_IsIn entry (renewals s) (flat_map renewals others) m)
    (round_there sources others was (λ t n. among t (inr n)) entry)
  where
    by : IsIn entry (renewals s) ⊎ IsIn entry (flat_map renewals others)
        → (IsIn entry (flat_map renewals others) → IsThere sources entry) → IsThere sources entry
    by (inl n) rest =
        own_there sources was s (renewals s) (among s (inl refl))
        (renewals_own s (jobs_of sources was s (among s (inl refl)))) entry n
    by (inr n) rest = rest n

round_kept : (sources : List SourceState) → AreSources sources → AreKept sources (flat_map renewals sources)
round_kept sources was =
    let after : sources_after (flat_map renewals sources) sources ≡ map renewed sources =
    all_renewed sources was.ascending (jobs_of sources was) in
    let kept = changed_kept sources renewed was renewed_source
    (λ s m. subst HasItsJobs (renewals_renew s) (renewals_keep s (jobs_of sources was s m))) in
    record {
      there = round_there sources sources was (λ s m. m);
      sound = subst AreSources (sym after) kept.0;
      same = ap bare_sources after ∙ kept.1;
    }

-- ---- every step

-- Each entry of a step is of a source that is there. After the step these are the same sources, each with its jobs.
pub step_kept : (step : Step) (effect : Effect) (sources : List SourceState) → AreSources sources
    → AreKept sources (stepped step effect sources).entries
step_kept NewRound effect sources was = round_kept sources was
step_kept Begin effect sources was =
    found_kept sources was has_new Nothing begun (λ s job holds is waits. begun_keeps s job holds is waits)
step_kept (list id items unnamed) effect sources was =
    found_kept sources was _ Already (listed items unnamed)
    (λ s job holds is has. listed_keeps s job holds is items unnamed)
step_kept (Break id cause) effect sources was =
    found_kept sources was _ Already (broken cause) (λ s job holds is has. broken_keeps s job holds is cause)
step_kept Claim effect sources was =
    found_kept sources was _ Nothing claimed (λ s job holds is has. claimed_keeps s job holds is)
step_kept (Settle id iri reading) effect sources was =
    found_kept sources was _ Already (settled iri (outcome_of reading effect))
    (λ s job holds is has. settled_keeps s job holds is iri (outcome_of reading effect))
step_kept (End id) effect sources was =
    found_kept sources was _ Already (ended (count_deleted effect))
    (λ s job holds is has. ended_keeps s job holds is (count_deleted effect))

-- The end of a round: it leaves no job open, and reports each that it had.
use Rattle.std.proofs.Common.{◌≡◌, ◌≢◌, ◌∙◌, ◌⊎◌, ℕ, Bool, true, false, cond, List, [], ◌∷◌, ◌++◌, map, Option, Some, None}
use Rattle.std.proofs.Common.{refl, sym, ap, subst, inl, inr, true≢false}
use Rattle.std.specs.Prelude.{option_map, IsSome}
use Rattle.std.specs.List.{All, list_all, Contains}
use Rattle.std.specs.Option.{option_map_or}
use Rattle.std.specs.Str.{bytes_eq}
use Rattle.std.proofs.lemmas.Slice.Eq.{bytes_eq-Decides}
use Rattle.portal_base.proofs.Unique.{IsIn, Contains-IsIn}
use Rattle.packages.proofs.FindLemmas.{IsIn-find, IsIn-map, find-none}
use Rattle.harvest_sources.specs.Entries.{PutJob, PutListing, sources_after, with_job, with_listing, with_source_at}
use Rattle.harvest_sources.specs.Jobs.{id_of_job, with_report}
use Rattle.harvest_sources.specs.Listings.{finished_report, is_done}
use Rattle.harvest_sources.specs.Sources.{AreSources, SourceState, open_job}
use Rattle.harvest_sources.specs.Steps.{count_deleted, ended, ended_with, idle, on_job, open_ids, with_open_job, Stepped}
use Rattle.harvest_sources.specs.declared.job.Job.{Job}
use Rattle.harvest_sources.specs.declared.listing.Listing.{Listing}
use Rattle.harvest_sources.specs.declared.step.Step.TheVariants.{NewRound, End}
use Rattle.harvest_sources.specs.declared.step.StepReply.TheVariants.{Ended, Already}
use Rattle.harvest_results.specs.Effects.{HarvestState, after_step, change_of_step, effect_of}
use Rattle.harvest_results.proofs.JobIdLemmas.{job_id-source}
use Rattle.harvest_results.proofs.PhaseLemmas.{has_jobs}
use Rattle.harvest_results.proofs.SourceEntryLemmas.{job_named, open-replaced}
use Rattle.harvest_pool.specs.Made.{AreAnswered, state_after}
use Rattle.harvest_pool.specs.Rounds.{CatalogueRead, IsWhole, JobEnded, Round, jobs_started, steps_of_catalogues}
use Rattle.harvest_pool.specs.Rounds.{steps_of_ends, steps_of_objects, steps_of_round, report_of, reports_of_catalogues}
use Rattle.harvest_pool.specs.Rounds.{reports_of_ends, reports_of_round}
use Rattle.harvest_pool.proofs.SourceLemmas.{IsIn-filter_map, Each, HasOpen, Owed, after-append, answered-parts, both-at}
use Rattle.harvest_pool.proofs.SourceLemmas.{each-All, fit-after, of-none, owed-told}
use Rattle.harvest_sources.specs.declared.job.SourceReport.{SourceReport}
use Rattle.harvest_pool.proofs.StageLemmas.{AllTell, HasSettled, Settled, SettledJob, Stage, Tells, catalogues-listed}
use Rattle.harvest_pool.proofs.StageLemmas.{objects-settled, open_name, open_names, round-ready}

-- ---- the ends

-- the source has an open job of that id
abbrev has_job : List ℕ → SourceState → Bool
has_job id s = option_map_or (λ (j : Job). bytes_eq (id_of_job j) id) (open_job s) false

-- A job that ends is no longer open. All others stay as they are.
module _ (names told : List (List ℕ)) (id : List ℕ) (ids : List (List ℕ)) (ss : List SourceState) (fit : AreSources ss)
    (each : Each (HasSettled (id ∷ ids)) ss) (owed : Owed names told ss) (deleted : ℕ) where
  -- a source of another job
  kept : (s : SourceState) → IsIn s ss → ((job : Job) → open_job s ≡ Some job → id_of_job job ≢ id)
      → HasSettled ids s
  kept s m apart job opens = narrow (each s m job opens).0 (each s m job opens).1
    where
      narrow : IsIn (id_of_job job) (id ∷ ids) → Settled s.listing → IsIn (id_of_job job) ids × Settled s.listing
      narrow (inl same) so = absurd (apart job opens same)
      narrow (inr among) so = (among, so)

  abbrev ended_job : Job → Listing → Job
  ended_job job l = with_report (finished_report job.source l deleted) job

  -- the sources after the end
  abbrev ended_among : SourceState → Job → Listing → List SourceState
  ended_among t job l =
      with_source_at job.source (with_job (ended_job job l)) (with_source_at t.source.name (with_listing None) ss)

  each-ended : (t : SourceState) (job : Job) (l : Listing) → IsIn t ss → open_job t ≡ Some job → id_of_job job ≡ id
      → Each (HasSettled ids) (ended_among t job l)
  each-ended t job l m opens named =
      let name : job.source ≡ t.source.name = job_named t job (has_jobs ss fit t m) opens in
      subst (λ (n : List ℕ). Each (HasSettled ids)
      (with_source_at n (with_job (ended_job job l)) (with_source_at t.source.name (with_listing None) ss))) (sym name)
      (both-at (HasSettled ids) ss t (with_listing None) (with_job (ended_job job l)) fit m (λ s. refl)
      (λ s n apart. kept s n (λ j is same. apart
      (sym (job_named s j (has_jobs ss fit s n) is)
      ∙ job_id-source j.source job.source j.number job.number (same ∙ sym named) ∙ name)))
      (of-none (SettledJob ids) (with_job (ended_job job l) (with_listing None t))
      (open-replaced t job (ended_job job l) (has_jobs ss fit t m) opens refl)))

  owed-ended : (t : SourceState) (job : Job) (l : Listing) → IsIn t ss → open_job t ≡ Some job
      → IsIn job.source told → Owed names told (ended_among t job l)
  owed-ended t job l m opens said =
      let name : job.source ≡ t.source.name = job_named t job (has_jobs ss fit t m) opens in
      let said_so : IsIn t.source.name told = subst (λ (n : List ℕ). IsIn n told) name said in
      subst (λ (n : List ℕ). Owed names told
      (with_source_at n (with_job (ended_job job l)) (with_source_at t.source.name (with_listing None) ss))) (sym name)
      (owed-told names told (with_source_at t.source.name (with_listing None) ss) (with_listing None t)
      (with_job (ended_job job l)) said_so
      (owed-told names told ss t (with_listing None) said_so owed))

  -- what the step does
  ended-is : (t : SourceState) (job : Job) (l : Listing) → list_all is_done l.objects ≡ true
      → ended_with deleted t job (Some l)
      ≡ record {
        entries =
            PutListing t.source.name None ∷ PutJob (with_report (finished_report job.source l deleted) job) ∷ [];
        reply = Ended (finished_report job.source l deleted);
      }
  ended-is t job l so =
      ap (λ b. cond b (record {
        entries =
            PutListing t.source.name None ∷ PutJob (with_report (finished_report job.source l deleted) job) ∷ [];
        reply = Ended (finished_report job.source l deleted);
      }) (idle Already)) so

  abbrev BothAfter : Stepped → Type 0
  BothAfter p =
      Each (HasSettled ids) (sources_after p.entries ss) × Owed names told (sources_after p.entries ss)

  ended-one : (t : SourceState) (job : Job) → IsIn t ss → open_job t ≡ Some job → id_of_job job ≡ id → (l : Listing)
      → list_all is_done l.objects ≡ true → Tells told (ended_with deleted t job (Some l)).reply
      → BothAfter (ended_with deleted t job (Some l))
  ended-one t job m opens named l so tells =
      let is = ended-is t job l so in
      let said : IsIn job.source told =
      tells (finished_report job.source l deleted) (ap (λ (p : Stepped). report_of p.reply) is) in
      subst BothAfter (sym is) (each-ended t job l m opens named, owed-ended t job l m opens said)

  ended-listed : (t : SourceState) (job : Job) → IsIn t ss → open_job t ≡ Some job → id_of_job job ≡ id
      → (l : Option Listing) → Settled l → Tells told (ended_with deleted t job l).reply
      → BothAfter (ended_with deleted t job l)
  ended-listed t job m opens named None so tells = absurd so
  ended-listed t job m opens named (Some l) so tells = ended-one t job m opens named l so tells

  ended-open : (t : SourceState) → IsIn t ss → has_job id t ≡ true → (o : Option Job) → open_job t ≡ o
      → Tells told (option_map_or (ended deleted t) o (idle Already)).reply
      → BothAfter (option_map_or (ended deleted t) o (idle Already))
  ended-open t m passes None opens tells =
      absurd (true≢false (sym passes
      ∙ ap (λ (p : Option Job). option_map_or (λ (j : Job). bytes_eq (id_of_job j) id) p false) opens))
  ended-open t m passes (Some job) opens tells =
      ended-listed t job m opens
      ((bytes_eq-Decides (id_of_job job) id).0
      (sym (ap (λ (p : Option Job). option_map_or (λ (j : Job). bytes_eq (id_of_job j) id) p false) opens) ∙ passes))
      t.listing (each t m job opens).1 tells

  ended-each : (o : Option SourceState) → with_open_job ss id ≡ o
      → Tells told (on_job Already (ended deleted) o).reply → BothAfter (on_job Already (ended deleted) o)
  ended-each None is tells = (
    λ s m. kept s m (λ job opens same.
        true≢false (sym (ap (λ (p : Option Job). option_map_or (λ (j : Job). bytes_eq (id_of_job j) id) p false) opens
        ∙ (bytes_eq-Decides (id_of_job job) id).1 same)
        ∙ find-none (has_job id) s ss is m)),
    owed,
  )
  ended-each (Some t) is tells =
      let there = IsIn-find (has_job id) t ss is in ended-open t there.0 there.1 (open_job t) refl tells

end-settled : (names told : List (List ℕ)) (e : JobEnded) (ids : List (List ℕ)) (st : HarvestState)
    → Stage names told (HasSettled (e.job ∷ ids)) st → e.answer ≡ (change_of_step (End e.job) st).reply
    → Tells told e.answer → Stage names told (HasSettled ids) (after_step (End e.job) st)
end-settled names told e ids st stage answered tells =
    let both = ended-each names told e.job ids st.sources stage.fit stage.each stage.owed
    (count_deleted (effect_of (End e.job) st)) (with_open_job st.sources e.job) refl
    (subst (Tells told) answered tells) in record {
      fit = fit-after (End e.job) st stage.fit;
      each = both.0;
      owed = both.1;
    }

ends-settled : (names told : List (List ℕ)) (es : List JobEnded) (st : HarvestState)
    → Stage names told (HasSettled (map (λ e. e.job) es)) st → AreAnswered (steps_of_ends es) st
    → ((e : JobEnded) → IsIn e es → Tells told e.answer)
    → Stage names told (HasSettled []) (state_after (steps_of_ends es) st)
ends-settled names told [] st stage answered tell = stage
ends-settled names told (e ∷ es) st stage answered tell =
    ends-settled names told es (after_step (End e.job) st)
    (end-settled names told e (map (λ (x : JobEnded). x.job) es) st stage answered.0 (tell e (inl refl))) answered.1
    (λ x m. tell x (inr m))

none-open : (s : SourceState) → HasSettled [] s → open_job s ≡ None
none-open s none = by (open_job s) refl
  where
    by : (o : Option Job) → open_job s ≡ o → o ≡ None
    by None is = refl
    by (Some job) is = absurd (none job is).0

-- ---- the round

-- the names of the sources that the round reports
abbrev told_by : Round → List (List ℕ)
told_by r = map (λ (report : SourceReport). report.source) (reports_of_round r)

pub in-left : {X : Type 0} (x : X) (xs ys : List X) → IsIn x xs → IsIn x (xs ++ ys)
in-left x [] ys m = absurd m
in-left x (y ∷ xs) ys (inl same) = inl same
in-left x (y ∷ xs) ys (inr m) = inr (in-left x xs ys m)

pub in-right : {X : Type 0} (x : X) (xs ys : List X) → IsIn x ys → IsIn x (xs ++ ys)
in-right x [] ys m = m
in-right x (y ∷ xs) ys m = inr (in-right x xs ys m)

catalogues-tell : (r : Round) → AllTell (told_by r) r.catalogues.done
catalogues-tell r c m report is =
    IsIn-map (λ (x : SourceReport). x.source) report (reports_of_round r)
    (in-left report (reports_of_catalogues r.catalogues.done) (reports_of_ends r.ends)
    (IsIn-filter_map (λ (x : CatalogueRead). report_of x.answer) report c r.catalogues.done m is))

ends-tell : (r : Round) (e : JobEnded) → IsIn e r.ends → Tells (told_by r) e.answer
ends-tell r e m report is =
    IsIn-map (λ (x : SourceReport). x.source) report (reports_of_round r)
    (in-right report (reports_of_catalogues r.catalogues.done) (reports_of_ends r.ends)
    (IsIn-filter_map (λ (x : JobEnded). report_of x.answer) report e r.ends m is))

-- The stage that a whole round comes to.
last-stage : (st : HarvestState) (r : Round) → AreSources st.sources → IsWhole r
    → AreAnswered (steps_of_round r) st
    → Stage (open_names st.sources) (told_by r) (HasSettled []) (state_after (steps_of_round r) st)
last-stage st r fit whole answered =
    let names : List (List ℕ) = open_names st.sources in
    let told : List (List ℕ) = told_by r in
    let ids : List (List ℕ) = open_ids st.sources in
    let one : HarvestState = after_step NewRound st in
    let two : HarvestState = state_after (steps_of_catalogues r.catalogues) one in
    let three : HarvestState = state_after (steps_of_objects r.objects) two in
    let parts = answered-parts (steps_of_catalogues r.catalogues) (steps_of_objects r.objects ++ steps_of_ends r.ends)
    one answered.1 in
    let more = answered-parts (steps_of_objects r.objects) (steps_of_ends r.ends) two parts.1 in
    let all_listed = catalogues-listed names told ids r.catalogues one (round-ready told st fit) parts.0
    (catalogues-tell r) whole.begun in
    let all_settled = objects-settled names told ids r.objects two all_listed more.0 whole.claimed in
    let last = ends-settled names told r.ends three
    (subst (λ (jobs : List (List ℕ)). Stage names told (HasSettled jobs) three)
    (sym (whole.ended ∙ ap jobs_started answered.0)) all_settled) more.1 (ends-tell r) in
    subst (Stage names told (HasSettled []))
    (sym (after-append (steps_of_catalogues r.catalogues) (steps_of_objects r.objects ++ steps_of_ends r.ends) one
    ∙ after-append (steps_of_objects r.objects) (steps_of_ends r.ends) two)) last

pub whole-leaves_none_open : (st : HarvestState) (r : Round) → AreSources st.sources → IsWhole r
    → AreAnswered (steps_of_round r) st
    → All (λ s. open_job s ≡ None) (state_after (steps_of_round r) st).sources
whole-leaves_none_open st r fit whole answered =
    each-All (λ s. open_job s ≡ None) (state_after (steps_of_round r) st).sources
    (λ s m. none-open s ((last-stage st r fit whole answered).each s m))

pub whole-reports : (st : HarvestState) (r : Round) → AreSources st.sources → IsWhole r
    → AreAnswered (steps_of_round r) st
    → All (λ s. IsSome (open_job s)
    → Contains (map (λ report. report.source) (reports_of_round r)) s.source.name) st.sources
whole-reports st r fit whole answered =
    each-All (λ s. IsSome (open_job s)
    → Contains (map (λ report. report.source) (reports_of_round r)) s.source.name) st.sources each
  where
    stage : Stage (open_names st.sources) (told_by r) (HasSettled []) (state_after (steps_of_round r) st)
    stage = last-stage st r fit whole answered

    never : (n : List ℕ) → HasOpen (state_after (steps_of_round r) st).sources n → ⊥
    never n w =
        let none : open_job w.0 ≡ None = none-open w.0 (stage.each w.0 w.1) in
        let some : open_job w.0 ≡ Some w.3.0 = w.3.1 in
        absurd (cc)

    told : (n : List ℕ) → HasOpen (state_after (steps_of_round r) st).sources n ⊎ IsIn n (told_by r)
        → IsIn n (told_by r)
    told n (inl w) = absurd (never n w)
    told n (inr said) = said

    opened : (s : SourceState) → IsIn s st.sources → (o : Option Job) → open_job s ≡ o → IsSome o
        → IsIn s.source.name (told_by r)
    opened s m None opens some = absurd (true≢false (sym some))
    opened s m (Some job) opens some =
        told s.source.name (stage.owed s.source.name
        (IsIn-filter_map open_name s.source.name s st.sources m
        (ap (option_map (λ (j : Job). s.source.name)) opens)))

    each : Each (λ s. IsSome (open_job s)
        → Contains (map (λ report. report.source) (reports_of_round r)) s.source.name) st.sources
    each s m some = Contains-IsIn s.source.name (told_by r) (opened s m (open_job s) refl some)

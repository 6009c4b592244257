-- The reports of a round tell of the fetches that failed in it.
use Rattle.std.proofs.Common.{◌≡◌, ◌∙◌, ◌+◌, ℕ, Bool, true, false, cond, List, [], ◌∷◌, ◌++◌, Option, Some, None}
use Rattle.std.proofs.Common.{arith, refl, sym, ap, subst, true≢false}
use Rattle.std.specs.Prelude.{count_by, is_some, sum_by}
use Rattle.std.specs.List.{All, flat_map, list_all}
use Rattle.std.specs.List.Sorted.{IsPermutation}
use Rattle.std.specs.Option.{option_map_or}
use Rattle.std.specs.Str.{bytes_eq}
use Rattle.std.proofs.lemmas.List.Sorted.{sum_by-IsPermutation}
use Rattle.std.proofs.lemmas.List.Sums.{sum_by-append}
use Rattle.portal_base.proofs.Unique.{IsIn}
use Rattle.portal_base.proofs.Upserted.{All-IsIn}
use Rattle.packages.proofs.FindLemmas.{IsIn-find, map-IsIn}
use Rattle.harvest_readings.specs.Harvests.{Documents, is_read_fault}
use Rattle.harvest_results.specs.Effects.{HarvestState, after_step, change_of_step, effect_of}
use Rattle.harvest_results.proofs.PhaseLemmas.{has_jobs}
use Rattle.harvest_sources.specs.Entries.{PutJob, PutListing, sources_after, with_job, with_listing, with_source_at}
use Rattle.harvest_sources.specs.Jobs.{id_of_job, in_state, is_running, with_report}
use Rattle.harvest_sources.specs.Listings.{finished_report, is_done}
use Rattle.harvest_sources.specs.Sources.{AreSources, SourceState, open_job}
use Rattle.harvest_sources.specs.Steps.{Stepped, count_deleted, ended, ended_with, has_running, idle, on_job, renewed_with}
use Rattle.harvest_sources.specs.Steps.{renewed, with_open_job}
use Rattle.harvest_sources.specs.declared.cause.Cause.{Cause}
use Rattle.harvest_sources.specs.declared.job.Job.{Job}
use Rattle.harvest_sources.specs.declared.job.JobState.TheVariants as state
use Rattle.harvest_sources.specs.declared.job.SourceReport.{SourceReport}
use Rattle.harvest_sources.specs.declared.listing.Listing.{Listing}
use Rattle.harvest_sources.specs.declared.step.Step.TheVariants.{NewRound, Begin, Claim, End}
use Rattle.harvest_sources.specs.declared.step.StepReply.TheVariants.{Already, Ended}
use Rattle.harvest_stages.proofs.StepLemmas.{all_renewed}
use Rattle.harvest_pool.specs.Made.{AreAnswered, Made, state_after}
use Rattle.harvest_pool.specs.Rounds.{IsCatalogueOf, IsReadingOf, IsWhole, JobEnded, Round, failed_to_read, failed_to_settle}
use Rattle.harvest_pool.specs.Rounds.{report_of, reports_of_catalogues, reports_of_ends, reports_of_round}
use Rattle.harvest_pool.specs.Rounds.{steps_of_catalogue, steps_of_catalogues, steps_of_ends, steps_of_object}
use Rattle.harvest_pool.specs.Rounds.{steps_of_objects, steps_of_round}
use Rattle.harvest_pool.specs.WholeRounds.{IsAtRest, failures_in}
use Rattle.harvest_pool.proofs.BoundLemmas.{sum-at}
use Rattle.harvest_pool.proofs.FailureCountLemmas.{AllFetched, bad-failures, failure_count, failures_among, failures_of}
use Rattle.harvest_pool.proofs.FailureCountLemmas.{job-count, sum-none, sum-option}
use Rattle.harvest_pool.proofs.FailureTellLemmas.{begin-grows, catalogues-tell, claim-grows, objects-grow, told_in}
use Rattle.harvest_pool.proofs.RoundLemmas.{whole-leaves_none_open}
use Rattle.harvest_pool.proofs.SourceLemmas.{Each, after-append, answered-parts, fit-after}

-- ---- ends

-- What an end reports was counted before it.
end-tells : (e : JobEnded) (st : HarvestState) → AreSources st.sources → e.answer ≡ (change_of_step (End e.job) st).reply
    → told_in (report_of e.answer) + failures_among (after_step (End e.job) st).sources ≡ failures_among st.sources
end-tells e st fit answered =
    let same : told_in (report_of e.answer)
    ≡ told_in (report_of (on_job Already (ended deleted) (with_open_job st.sources e.job)).reply) =
    ap (λ r. told_in (report_of r)) answered in
    let all = by (with_open_job st.sources e.job) refl in
    omega (arith, same, all)
  where
    deleted : ℕ
    deleted = count_deleted (effect_of (End e.job) st)

    Tells : Stepped → Type 0
    Tells p = told_in (report_of p.reply) + failures_among (sources_after p.entries st.sources) ≡ failures_among st.sources

    unchanged : Tells (idle Already)
    unchanged = omega arith

    on : (t : SourceState) → IsIn t st.sources → (job : Job) → open_job t ≡ Some job → (l : Listing)
        → t.listing ≡ Some l → (b : Bool)
        → Tells (cond b (record {
          entries =
              PutListing t.source.name None ∷ PutJob (with_report (finished_report job.source l deleted) job) ∷ [];
          reply = Ended (finished_report job.source l deleted);
        }) (idle Already))
    on t m job opens l is false = unchanged
    on t m job opens l is true =
        let sum = sum-at failure_count st.sources t (with_listing None) fit.ascending m in
        let was : failure_count t ≡ failures_of l = ap (λ (o : Option Listing). option_map_or failures_of o 0) is in
        let now : failure_count (with_listing None t) ≡ 0 = refl in
        let kept = job-count job.source (with_report (finished_report job.source l deleted) job)
        (with_source_at t.source.name (with_listing None) st.sources) in
        let told = bad-failures l.objects in
        let report : failures_in (finished_report job.source l deleted)
        ≡ 0 + count_by (λ (bad : List ℕ × Cause). is_read_fault bad.1) (finished_report job.source l deleted).bad = refl in
        omega (arith, sum, was, now, kept, told, report)

    at_listing : (t : SourceState) → IsIn t st.sources → (job : Job) → open_job t ≡ Some job → (l : Option Listing)
        → t.listing ≡ l → Tells (ended_with deleted t job l)
    at_listing t m job opens None is = unchanged
    at_listing t m job opens (Some l) is = on t m job opens l is (list_all is_done l.objects)

    at_open : (t : SourceState) → IsIn t st.sources → (o : Option Job) → open_job t ≡ o
        → Tells (option_map_or (ended deleted t) o (idle Already))
    at_open t m None opens = unchanged
    at_open t m (Some job) opens = at_listing t m job opens t.listing refl

    by : (o : Option SourceState) → with_open_job st.sources e.job ≡ o → Tells (on_job Already (ended deleted) o)
    by None is = unchanged
    by (Some t) is =
        at_open t (IsIn-find (λ (s : SourceState). option_map_or (λ (j : Job). bytes_eq (id_of_job j) e.job) (open_job s)
        false) t st.sources is).0 (open_job t) refl

ends-tell : (es : List JobEnded) (st : HarvestState) → AreSources st.sources → AreAnswered (steps_of_ends es) st
    → sum_by failures_in (reports_of_ends es) + failures_among (state_after (steps_of_ends es) st).sources
    ≡ failures_among st.sources
ends-tell [] st fit answered = omega arith
ends-tell (e ∷ es) st fit answered =
    let first = sum-option failures_in (report_of e.answer) (reports_of_ends es) in
    let here = end-tells e st fit answered.0 in
    let rest = ends-tell es (after_step (End e.job) st) (fit-after (End e.job) st fit) answered.1 in
    omega (arith, first, here, rest)

-- ---- sources of which none is listed

abbrev NoneListed : List SourceState → Type 0
NoneListed ss = Each (λ s. s.listing ≡ None) ss

none-count : (ss : List SourceState) → NoneListed ss → failures_among ss ≡ 0
none-count ss none =
    sum-none failure_count ss (λ s m. ap (λ (l : Option Listing). option_map_or failures_of l 0) (none s m))

none-fetched : (ss : List SourceState) → NoneListed ss → AllFetched ss
none-fetched ss none s m l is = let unlisted = none s m in absurd (cc)

-- Only the catalogue of a running job is listed.
idle-unlisted : (s : SourceState) (ss : List SourceState) → AreSources ss → IsIn s ss → has_running s ≡ false
    → s.listing ≡ None
idle-unlisted s ss fit m idle_so = by s.listing refl
  where
    by : (l : Option Listing) → s.listing ≡ l → l ≡ None
    by None is = refl
    by (Some listing) is = absurd (true≢false (sym ((has_jobs ss fit s m).runs (ap is_some is)) ∙ idle_so))

renewed-unlisted : (s : SourceState) → s.listing ≡ None → (renewed s).listing ≡ None
renewed-unlisted s none = ap (λ l. (renewed_with s l (open_job s)).listing) none ∙ by (open_job s)
  where
    running : (job : Job) (b : Bool) → (cond b (with_job (in_state state.New job) s) s).listing ≡ None
    running job true = none
    running job false = none

    by : (o : Option Job) → (renewed_with s None o).listing ≡ None
    by None = none
    by (Some job) = running job (is_running job)

-- ---- the round

pub failures-told : (documents : Documents) (before : HarvestState) (r : Round) (reports : List SourceReport)
    → IsAtRest before → IsWhole r → AreAnswered (steps_of_round r) before
    → All (IsCatalogueOf (Some documents)) r.catalogues.done → All (IsReadingOf (Some documents)) r.objects.done
    → IsPermutation (reports_of_round r) reports
    → sum_by failures_in reports
    ≡ count_by failed_to_read r.catalogues.done + count_by failed_to_settle r.objects.done
failures-told documents before r reports rest whole answered catalogues objects moved =
    let fit = rest.sources in
    let one : HarvestState = after_step NewRound before in
    let read : HarvestState = state_after (flat_map steps_of_catalogue r.catalogues.done) one in
    let two : HarvestState = after_step Begin read in
    let settled : HarvestState = state_after (flat_map steps_of_object r.objects.done) two in
    let three : HarvestState = after_step Claim settled in
    let begin : List Made = record { step = Begin; answer = r.catalogues.last } ∷ [] in
    let claim : List Made = record { step = Claim; answer = r.objects.last } ∷ [] in
    let rest_of : List Made = steps_of_objects r.objects ++ steps_of_ends r.ends in
    let begun_at = after-append (flat_map steps_of_catalogue r.catalogues.done) begin one in
    let claimed_at = after-append (flat_map steps_of_object r.objects.done) claim two in
    let parts = answered-parts (steps_of_catalogues r.catalogues) rest_of one answered.1 in
    let first = answered-parts (flat_map steps_of_catalogue r.catalogues.done) begin one parts.0 in
    let more = answered-parts (steps_of_objects r.objects) (steps_of_ends r.ends) two
    (subst (AreAnswered rest_of) begun_at parts.1) in
    let second = answered-parts (flat_map steps_of_object r.objects.done) claim two more.0 in
    let third = subst (AreAnswered (steps_of_ends r.ends)) claimed_at more.1 in
    let fit_one = fit-after NewRound before fit in
    let fit_read = fit-all (flat_map steps_of_catalogue r.catalogues.done) one fit_one in
    let fit_two = fit-after Begin read fit_read in
    let fit_settled = fit-all (flat_map steps_of_object r.objects.done) two fit_two in
    let fit_three = fit-after Claim settled fit_settled in
    let start : NoneListed one.sources = started fit rest in
    let c = catalogues-tell documents r.catalogues.done one fit_one (none-fetched one.sources start) first.0
    (All-IsIn (IsCatalogueOf (Some documents)) r.catalogues.done catalogues) in
    let b = begin-grows read.sources c.0.fetched in
    let o = objects-grow documents r.objects.done two fit_two b.fetched second.0
    (All-IsIn (IsReadingOf (Some documents)) r.objects.done objects) in
    let k = claim-grows settled.sources fit_settled o.fetched in
    let e = ends-tell r.ends three fit_three third in
    let last : state_after (steps_of_round r) before ≡ state_after (steps_of_ends r.ends) three =
    after-append (steps_of_catalogues r.catalogues) rest_of one
    ∙ ap (state_after rest_of) begun_at
    ∙ after-append (steps_of_objects r.objects) (steps_of_ends r.ends) two
    ∙ ap (state_after (steps_of_ends r.ends)) claimed_at in
    let closed = whole-leaves_none_open before r fit whole answered in
    let none : failures_among (state_after (steps_of_ends r.ends) three).sources ≡ 0 =
    ap (λ (st : HarvestState). failures_among st.sources) (sym last)
    ∙ none-count (state_after (steps_of_round r) before).sources
    (λ s m. idle-unlisted s (state_after (steps_of_round r) before).sources
    (fit-all (steps_of_round r) before fit) m
    (ap (λ (j : Option Job). option_map_or is_running j false)
    (All-IsIn (λ (t : SourceState). open_job t ≡ None) (state_after (steps_of_round r) before).sources closed s m))) in
    let zero_so = none-count one.sources start in
    let both = sum_by-append failures_in (reports_of_catalogues r.catalogues.done) (reports_of_ends r.ends) in
    let order = sum_by-IsPermutation failures_in (reports_of_round r) reports moved in
    let told = c.1 in
    let c_count = c.0.count in
    let b_count = b.count in
    let o_count = o.count in
    let k_count = k.count in
    omega (arith, told, c_count, b_count, o_count, k_count, e, none, zero_so, both, order)
  where
    fit-all : (steps : List Made) (st : HarvestState) → AreSources st.sources
        → AreSources (state_after steps st).sources
    fit-all [] st fit = fit
    fit-all (m ∷ ms) st fit = fit-all ms (after_step m.step st) (fit-after m.step st fit)

    started : AreSources before.sources → IsAtRest before → NoneListed (after_step NewRound before).sources
    started fit at_rest =
        subst NoneListed
        (sym (all_renewed before.sources fit.ascending (λ s m. has_jobs before.sources fit s m)))
        (λ z m. let w = map-IsIn renewed z before.sources m in
        ap (λ (s : SourceState). s.listing) w.2
        ∙ renewed-unlisted w.0 (idle-unlisted w.0 before.sources fit w.1
        (All-IsIn (λ (s : SourceState). has_running s ≡ false) before.sources at_rest.none_runs w.0 w.1)))

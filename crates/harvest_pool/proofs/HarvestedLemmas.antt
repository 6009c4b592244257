-- A whole round harvests each source that has a new job: what it leaves and reports is what the documents say.
use Rattle.std.proofs.Common.{◌≡◌, ◌∙◌, ℕ, Bool, true, false, cond, List, [], ◌∷◌, ◌++◌, Option, Some, None}
use Rattle.std.proofs.Common.{refl, sym, ap, ap₂, subst, inl, inr}
use Rattle.std.specs.Prelude.{filter}
use Rattle.std.specs.List.{All, flat_map}
use Rattle.std.specs.Option.{option_map_or}
use Rattle.portal_base.proofs.Unique.{Contains-IsIn, IsIn}
use Rattle.portal_base.proofs.Upserted.{All-IsIn}
use Rattle.harvest_readings.specs.Harvests.{Documents}
use Rattle.harvest_results.specs.Effects.{HarvestState, after_step, is_of_source}
use Rattle.harvest_results.proofs.ChangeLemmas.{without-none}
use Rattle.harvest_results.proofs.PhaseLemmas.{has_jobs}
use Rattle.harvest_results.proofs.SourceEntryLemmas.{IsIn-named, job_named, named-member, renewed_from, round-own}
use Rattle.harvest_sources.specs.Entries.{with_job}
use Rattle.harvest_sources.specs.Jobs.{id_of_job, in_state, is_new, is_running, job_id}
use Rattle.harvest_sources.specs.Sources.{SourceState, open_job}
use Rattle.harvest_sources.specs.Steps.{has_new, has_running}
use Rattle.harvest_sources.specs.declared.job.Job.{Job}
use Rattle.harvest_sources.specs.declared.job.JobState.TheVariants as state
use Rattle.harvest_sources.specs.declared.job.SourceReport.{SourceReport}
use Rattle.harvest_sources.specs.declared.step.Step.TheVariants.{NewRound, Begin, Claim}
use Rattle.harvest_pool.specs.Made.{AreAnswered, Made, state_after}
use Rattle.harvest_pool.specs.Rounds.{CatalogueRead, IsCatalogueOf, IsReadingOf, IsWhole, JobEnded, Round}
use Rattle.harvest_pool.specs.Rounds.{report_of, reports_of_catalogues, reports_of_ends, reports_of_round}
use Rattle.harvest_pool.specs.Rounds.{steps_of_catalogue, steps_of_catalogues, steps_of_ends, steps_of_object}
use Rattle.harvest_pool.specs.Rounds.{steps_of_objects, steps_of_round}
use Rattle.harvest_pool.specs.WholeRounds.{IsAtRest}
use Rattle.harvest_pool.proofs.Done.{AllFit, IsHarvested}
use Rattle.harvest_pool.proofs.FitLemmas.{all_fit-after, all_fit-through, rest-fit}
use Rattle.harvest_pool.proofs.HarvestingLemmas.{Over, Untouched, listed_source, opened}
use Rattle.harvest_pool.proofs.QuietLemmas.{opened-by}
use Rattle.harvest_pool.proofs.RoundLemmas.{in-left, in-right, whole-leaves_none_open}
use Rattle.harvest_pool.proofs.SourceLemmas.{IsIn-filter_map, after-append, answered-parts, new-unlisted}
use Rattle.harvest_pool.proofs.ThroughLemmas.{Started, Tells, all-begun, all-claimed, catalogues-on, ends-on}
use Rattle.harvest_pool.proofs.ThroughLemmas.{objects-on}

-- the round reports it
abbrev IsTold : Round → SourceReport → Type 0
IsTold r report = IsIn report (reports_of_round r)

catalogue-tells : (r : Round) (c : CatalogueRead) → IsIn c r.catalogues.done → Tells (IsTold r) c.answer
catalogue-tells r c m report is =
    in-left report (reports_of_catalogues r.catalogues.done) (reports_of_ends r.ends)
    (IsIn-filter_map (λ (x : CatalogueRead). report_of x.answer) report c r.catalogues.done m is)

end-tells : (r : Round) (e : JobEnded) → IsIn e r.ends → Tells (IsTold r) e.answer
end-tells r e m report is =
    in-right report (reports_of_catalogues r.catalogues.done) (reports_of_ends r.ends)
    (IsIn-filter_map (λ (x : JobEnded). report_of x.answer) report e r.ends m is)

module _ (documents : Documents) (before : HarvestState) (r : Round) (rest : IsAtRest before) (whole : IsWhole r)
    (answered : AreAnswered (steps_of_round r) before)
    (catalogues : All (IsCatalogueOf (Some documents)) r.catalogues.done)
    (objects : All (IsReadingOf (Some documents)) r.objects.done) (s : SourceState) (m : IsIn s before.sources)
    (new : has_new s ≡ true) (job : Job) (opens : open_job s ≡ Some job) where
  fit : AllFit before
  fit = rest-fit before rest

  unlisted : s.listing ≡ None
  unlisted = new-unlisted s job (has_jobs before.sources fit.sources s m) opens new

  own : job.source ≡ s.source.name
  own = job_named s job (has_jobs before.sources fit.sources s m) opens

  is_id : id_of_job job ≡ job_id s.source.name job.number
  is_id = ap (λ (n : List ℕ). job_id n job.number) own

  -- A new round leaves the source.
  at_rest : Untouched before s (after_step NewRound before)
  at_rest = record {
    at = round-own s before.sources before.sources (has_jobs before.sources fit.sources) fit.sources.ascending m
        (named-member before.sources s.source.name s fit.sources m refl)
        ∙ ap₂ (λ l (o : Option Job). Some (renewed_from s l o)) unlisted opens
        ∙ ap (λ (b : Bool). Some (cond b (with_job (in_state state.New job) s) s))
        (sym (ap (λ (o : Option Job). option_map_or is_running o false) opens)
        ∙ All-IsIn (λ (t : SourceState). has_running t ≡ false) before.sources rest.none_runs s m);
    datasets = ap (filter (is_of_source s.source.name)) (without-none before.datasets);
  }

  abbrev one : HarvestState
  one = after_step NewRound before

  abbrev begin : List Made
  begin = record { step = Begin; answer = r.catalogues.last } ∷ []

  abbrev claim : List Made
  claim = record { step = Claim; answer = r.objects.last } ∷ []

  abbrev read : HarvestState
  read = state_after (flat_map steps_of_catalogue r.catalogues.done) one

  abbrev two : HarvestState
  two = after_step Begin read

  abbrev settled : HarvestState
  settled = state_after (flat_map steps_of_object r.objects.done) two

  abbrev three : HarvestState
  three = after_step Claim settled

  -- the state in which the steps end
  last : state_after (steps_of_round r) before ≡ state_after (steps_of_ends r.ends) three
  last =
      after-append (steps_of_catalogues r.catalogues) (steps_of_objects r.objects ++ steps_of_ends r.ends) one
      ∙ ap (state_after (steps_of_objects r.objects ++ steps_of_ends r.ends))
      (after-append (flat_map steps_of_catalogue r.catalogues.done) begin one)
      ∙ after-append (steps_of_objects r.objects) (steps_of_ends r.ends) two
      ∙ ap (state_after (steps_of_ends r.ends)) (after-append (flat_map steps_of_object r.objects.done) claim two)

  -- the answers of each part
  parts : AreAnswered (steps_of_catalogues r.catalogues) one
      × AreAnswered (steps_of_objects r.objects ++ steps_of_ends r.ends) two
  parts =
      let w = answered-parts (steps_of_catalogues r.catalogues) (steps_of_objects r.objects ++ steps_of_ends r.ends) one
      answered.1 in (
        w.0,
        subst (AreAnswered (steps_of_objects r.objects ++ steps_of_ends r.ends))
            (after-append (flat_map steps_of_catalogue r.catalogues.done) begin one) w.1,
      )

  last_parts : AreAnswered (steps_of_objects r.objects) two × AreAnswered (steps_of_ends r.ends) three
  last_parts =
      let w = answered-parts (steps_of_objects r.objects) (steps_of_ends r.ends) two parts.1 in (
        w.0,
        subst (AreAnswered (steps_of_ends r.ends)) (after-append (flat_map steps_of_object r.objects.done) claim two) w.1,
      )

  -- how far the source is at the end
  at_end : Started documents before s job (IsTold r) (state_after (steps_of_ends r.ends) three)
  at_end =
      let jobs = has_jobs before.sources fit.sources s m in
      let first = answered-parts (flat_map steps_of_catalogue r.catalogues.done) begin one parts.0 in
      let more = answered-parts (flat_map steps_of_object r.objects.done) claim two last_parts.0 in
      let fit_one = all_fit-after NewRound before fit in
      let fit_read = all_fit-through (flat_map steps_of_catalogue r.catalogues.done) one fit_one in
      let fit_two = all_fit-after Begin read fit_read in
      let fit_settled = all_fit-through (flat_map steps_of_object r.objects.done) two fit_two in
      ends-on documents before s job (IsTold r) jobs opens new is_id own unlisted r.ends three
      (all_fit-after Claim settled fit_settled) last_parts.1 (end-tells r)
      (all-claimed documents before s job (IsTold r) jobs opens new is_id own unlisted r.objects.last settled fit_settled
      more.1.0 whole.claimed
      (objects-on documents before s job (IsTold r) jobs opens new is_id own unlisted r.objects.done two fit_two more.0
      (All-IsIn (IsReadingOf (Some documents)) r.objects.done objects)
      (all-begun documents before s job (IsTold r) jobs opens new is_id own unlisted r.catalogues.last read fit_read
      first.1.0 whole.begun
      (catalogues-on documents before s job (IsTold r) jobs opens new is_id own unlisted r.catalogues.done one fit_one
      first.0
      (λ c n. (All-IsIn (IsCatalogueOf (Some documents)) r.catalogues.done catalogues c n, catalogue-tells r c n))
      (inl at_rest)))))

  -- The job has ended.
  over : Over documents before s (IsTold r) (state_after (steps_of_round r) before)
  over = subst (Over documents before s (IsTold r)) (sym last) (by at_end)
    where
      by : Started documents before s job (IsTold r) (state_after (steps_of_ends r.ends) three)
          → Over documents before s (IsTold r) (state_after (steps_of_ends r.ends) three)
      by (inr w) = w
      by (inl w) =
          let u : SourceState = listed_source w.listing job s in
          let there = (IsIn-named (state_after (steps_of_ends r.ends) three).sources s.source.name u w.at).0 in
          let none : open_job u ≡ None =
          All-IsIn (λ (t : SourceState). open_job t ≡ None) (state_after (steps_of_round r) before).sources
          (whole-leaves_none_open before r rest.sources whole answered) u
          (subst (λ (st : HarvestState). IsIn u st.sources) (sym last) there) in
          let some : open_job u ≡ Some (in_state state.Running job) =
          opened documents before s job (IsTold r) (has_jobs before.sources fit.sources s m) opens is_id in
          absurd (cc)

  harvested_job : IsHarvested documents before (state_after (steps_of_round r) before) (reports_of_round r) s
  harvested_job = record {
    failed = over.failed;
    has_failed = over.has_failed;
    source = over.at ∙ ap Some over.is;
    datasets = over.datasets;
    reported = Contains-IsIn _ (reports_of_round r) over.told;
  }

-- Each source with a new job is harvested.
pub harvested : (documents : Documents) (before : HarvestState) (r : Round) → IsAtRest before → IsWhole r
    → AreAnswered (steps_of_round r) before → All (IsCatalogueOf (Some documents)) r.catalogues.done
    → All (IsReadingOf (Some documents)) r.objects.done → (s : SourceState) → IsIn s before.sources → has_new s ≡ true
    → IsHarvested documents before (state_after (steps_of_round r) before) (reports_of_round r) s
harvested documents before r rest whole answered catalogues objects s m new =
    let w = opened-by is_new s new in
    harvested_job documents before r rest whole answered catalogues objects s m new w.0 w.1

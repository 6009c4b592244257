-- A round is put together of its parts, and what it leaves by a view of the machine's core.
use Rattle.std.proofs.Common.{◌≡◌, ◌∙◌, ◌++◌, ◌+◌, ◌≤◌, ℕ, Bool, true, false, List, [], ◌∷◌, Result, Ok, Err, refl, sym, ap}
use Rattle.std.proofs.Common.{append_assoc, subst, arith}
use Rattle.std.specs.Prelude.{IfOk, OnOk, None, count_by}
use Rattle.std.specs.List.{All, Contains}
use Rattle.std.specs.Prelude.{IsSome, map}
use Rattle.std.proofs.lemmas.List.Sorted.{Contains-permutation, IsPermutation-map}
use Rattle.std.specs.List.Sorted.{IsPermutation, IsSorted}
use Rattle.std.proofs.lemmas.List.{append-nil}
use Rattle.std.proofs.lemmas.List.Elements.{All-nil, All-weaker}
use Rattle.portal_base.specs.Outside.{Holdings}
use Rattle.portal_events.specs.declared.event.Event.{Event}
use Rattle.portal_events.specs.declared.event.Reply.{Reply}
use Rattle.portal_events.specs.declared.event.Reply.TheVariants.{Harvest}
use Rattle.portal_hall.specs.History.{Begins, Step}
use Rattle.harvest_results.specs.Effects.{HarvestState, change_of_step}
use Rattle.harvest_sources.specs.Sources.{AreSources, SourceState, open_job}
use Rattle.harvest_sources.specs.declared.job.SourceReport.{SourceReport}
use Rattle.harvest_sources.specs.declared.step.Step.TheVariants.{NewRound, Begin, Claim}
use Rattle.harvest_sources.specs.declared.step.StepReply.{StepReply}
use Rattle.harvest_sources.specs.declared.step.StepReply.TheVariants.{Already}
use Rattle.harvest_pool.specs.Made.{AreAnswered, AreMade, IsMade, Made, StepsAsHarvests, core_after, state_after}
use Rattle.harvest_pool.specs.Rounds.{IsCatalogueOf, IsReadingOf, JobEnded, RoseBy}
use Rattle.harvest_pool.specs.Rounds.{Round, Work, failed_to_read, failed_to_settle, is_gather, is_object, jobs_started}
use Rattle.harvest_pool.specs.Rounds.{report_cmp, reports_of_catalogues, reports_of_ends, reports_of_round}
use Rattle.harvest_pool.specs.Rounds.{steps_of_catalogue, steps_of_catalogues, steps_of_ends, steps_of_object}
use Rattle.harvest_pool.specs.Rounds.{steps_of_objects, steps_of_round}
use Rattle.harvest_pool.specs.Working.{DoesAll, EndsJobs, IsReported, IsRound}
use Rattle.harvest_pool.specs.declared.report.RoundFault.{RoundFault}
use Rattle.harvest_pool.specs.declared.report.RoundReport.{RoundReport}
use Rattle.harvest_pool.proofs.RoundLemmas.{whole-leaves_none_open, whole-reports}
use Rattle.harvest_pool.proofs.WorkLemmas.{made-append, rose-more, rose-none}

-- ---- the parts

-- nothing is done, and nothing more is found
abbrev no_work : {X : Type 0} → Work X
no_work = record { done = []; last = Already }

begins-more : (xs ys zs : List Made) → Begins ys zs → Begins (xs ++ ys) (xs ++ zs)
begins-more xs ys zs b = (b.0, ap (λ l. xs ++ l) b.1 ∙ sym (append_assoc xs ys b.0))

begins-then : (xs ys zs : List Made) → Begins xs ys → Begins xs (ys ++ zs)
begins-then xs ys zs b = (b.0 ++ zs, ap (λ l. l ++ zs) b.1 ∙ append_assoc xs b.0 zs)

begins-cons : (m : Made) (xs ys : List Made) → Begins xs ys → Begins (m ∷ xs) (m ∷ ys)
begins-cons m xs ys b = (b.0, ap (λ l. m ∷ l) b.1)

begins-nothing : (xs : List Made) → Begins [] xs
begins-nothing xs = (xs, refl)

module _ {C : Type 0} (step : C → Event → Step C Reply) (held : Holdings) (before : C) (f0 : ℕ) where
  abbrev pub ReadsAll : C → C → ℕ → ℕ → Bool → Type 0
  ReadsAll from after f f' is_done =
      DoesAll step steps_of_catalogue Begin is_gather (IsCatalogueOf held) failed_to_read from after f f' is_done

  abbrev pub SettlesAll : C → C → ℕ → ℕ → Bool → Type 0
  SettlesAll from after f f' is_done =
      DoesAll step steps_of_object Claim is_object (IsReadingOf held) failed_to_settle from after f f' is_done

  abbrev start_step : StepReply → Made
  start_step start = record { step = NewRound; answer = start }

  started : (start : StepReply) (one after : C) (made : List Made) → IsMade step before NewRound start one
      → AreMade step one made after → AreMade step before (start_step start ∷ made) after
  started start one after made is rest =
      (is.0, subst (λ (d : C). AreMade step d made after) is.1 rest)

  -- No step was made.
  pub round-unstarted : (after : C) (f : ℕ) (fault : RoundFault) → after ≡ before → f ≡ f0
      → IsRound step held before after f0 f (Err fault)
  round-unstarted after f fault same quiet = record {
    made = [];
    round = record { start = Already; catalogues = no_work; objects = no_work; ends = [] };
    are_made = same;
    first = begins-nothing (steps_of_round (record {
      start = Already;
      catalogues = no_work;
      objects = no_work;
      ends = [];
    }));
    catalogues = All-nil (IsCatalogueOf held);
    objects = All-nil (IsReadingOf held);
    failed = subst (λ n. RoseBy 0 f0 n) (sym quiet) (rose-none f0);
    reported = tt;
  }

  -- It stopped at the catalogues.
  pub round-unread : (start : StepReply) (one after : C) (f : ℕ) (fault : RoundFault)
      → IsMade step before NewRound start one → ReadsAll one after f0 f false
      → IsRound step held before after f0 f (Err fault)
  round-unread start one after f fault is reads =
      let rest : List Made = steps_of_objects no_work ++ steps_of_ends [] in record {
        made = start_step start ∷ reads.made;
        round = record { start = start; catalogues = reads.work; objects = no_work; ends = [] };
        are_made = started start one after reads.made is reads.are_made;
        first = begins-cons (start_step start) reads.made (steps_of_catalogues reads.work ++ rest)
            (begins-then reads.made (steps_of_catalogues reads.work) rest reads.first);
        catalogues = reads.fits;
        objects = All-nil (IsReadingOf held);
        failed = subst (λ n. RoseBy n f0 f) (none_more (count_by failed_to_read reads.work.done)) reads.failed;
        reported = tt;
      }
    where
      none_more : (n : ℕ) → n ≡ n + 0
      none_more n = omega arith

  module _ (start : StepReply) (one two : C) (f1 : ℕ) (is : IsMade step before NewRound start one)
      (reads : ReadsAll one two f0 f1 true) where
    -- the steps up to the objects
    so-far : (after : C) (made : List Made) → AreMade step two made after
        → AreMade step before (start_step start ∷ (steps_of_catalogues reads.work ++ made)) after
    so-far after made rest =
        started start one after (steps_of_catalogues reads.work ++ made) is
        (made-append step one two after (steps_of_catalogues reads.work) made
        (subst (λ (l : List Made). AreMade step one l two) (reads.all refl).0 reads.are_made) rest)

    both-failed : (settles_count f2 : ℕ) → RoseBy settles_count f1 f2 → f1 ≤ f2
        → RoseBy (count_by failed_to_read reads.work.done + settles_count) f0 f2
    both-failed settles_count f2 more up =
        rose-more (count_by failed_to_read reads.work.done) settles_count f0 f1 f2 reads.failed more up

    -- It stopped at the objects.
    pub round-unsettled : (after : C) (f2 : ℕ) (fault : RoundFault) → SettlesAll two after f1 f2 false → f1 ≤ f2
        → IsRound step held before after f0 f2 (Err fault)
    round-unsettled after f2 fault settles up = record {
      made = start_step start ∷ (steps_of_catalogues reads.work ++ settles.made);
      round = record { start = start; catalogues = reads.work; objects = settles.work; ends = [] };
      are_made = so-far after settles.made settles.are_made;
      first = begins-cons (start_step start) (steps_of_catalogues reads.work ++ settles.made)
          (steps_of_catalogues reads.work ++ (steps_of_objects settles.work ++ steps_of_ends []))
          (begins-more (steps_of_catalogues reads.work) settles.made (steps_of_objects settles.work ++ steps_of_ends [])
          (begins-then settles.made (steps_of_objects settles.work) (steps_of_ends []) settles.first));
      catalogues = reads.fits;
      objects = settles.fits;
      failed = both-failed (count_by failed_to_settle settles.work.done) f2 settles.failed up;
      reported = tt;
    }

    module _ (three : C) (f2 : ℕ) (settles : SettlesAll two three f1 f2 true) (up : f1 ≤ f2) where
      -- the steps up to the ends
      up-to-ends : (after : C) (made : List Made) → AreMade step three made after
          → AreMade step before (start_step start
          ∷ (steps_of_catalogues reads.work ++ (steps_of_objects settles.work ++ made))) after
      up-to-ends after made rest =
          so-far after (steps_of_objects settles.work ++ made)
          (made-append step two three after (steps_of_objects settles.work) made
          (subst (λ (l : List Made). AreMade step two l three) (settles.all refl).0 settles.are_made) rest)

      abbrev round_of : List JobEnded → Round
      round_of ends = record { start = start; catalogues = reads.work; objects = settles.work; ends = ends }

      -- It stopped at the ends, or at its report.
      pub round-unended : (after : C) (jobs : List (List ℕ)) (reports_before reports_after : List SourceReport)
          (is_done : Bool) (fault : RoundFault) → EndsJobs step jobs three after reports_before reports_after is_done
          → IsRound step held before after f0 f2 (Err fault)
      round-unended after jobs reports_before reports_after is_done fault ends = record {
        made = start_step start ∷ (steps_of_catalogues reads.work ++ (steps_of_objects settles.work ++ ends.made));
        round = round_of ends.ends;
        are_made = up-to-ends after ends.made ends.are_made;
        first = begins-cons (start_step start)
            (steps_of_catalogues reads.work ++ (steps_of_objects settles.work ++ ends.made))
            (steps_of_catalogues reads.work ++ (steps_of_objects settles.work ++ steps_of_ends ends.ends))
            (begins-more (steps_of_catalogues reads.work) (steps_of_objects settles.work ++ ends.made)
            (steps_of_objects settles.work ++ steps_of_ends ends.ends)
            (begins-more (steps_of_objects settles.work) ends.made (steps_of_ends ends.ends) ends.first));
        catalogues = reads.fits;
        objects = settles.fits;
        failed = both-failed (count_by failed_to_settle settles.work.done) f2 settles.failed up;
        reported = tt;
      }

      -- It went to its end.
      pub round-whole : (after : C) (jobs : List (List ℕ)) (reports_before reports_after : List SourceReport)
          (report : RoundReport) → EndsJobs step jobs three after reports_before reports_after true
          → jobs ≡ jobs_started start → reports_before ≡ reports_of_catalogues reads.work.done
          → IsPermutation reports_after report.sources → IsSorted report_cmp report.sources
          → IsRound step held before after f0 f2 (Ok report)
      round-whole after jobs reports_before reports_after report ends of_start told moved sorted =
          let all = ends.all refl in record {
            made = steps_of_round (round_of ends.ends);
            round = round_of ends.ends;
            are_made = up-to-ends after (steps_of_ends ends.ends)
                (subst (λ (l : List Made). AreMade step three l after) all.0 ends.are_made);
            first = ([], sym (append-nil (steps_of_round (round_of ends.ends))));
            catalogues = reads.fits;
            objects = settles.fits;
            failed = both-failed (count_by failed_to_settle settles.work.done) f2 settles.failed up;
            reported = record {
              steps = refl;
              whole = record {
                begun = (reads.all refl).1;
                claimed = (settles.all refl).1;
                ended = all.1 ∙ of_start;
              };
              reports = subst (λ (l : List SourceReport). IsPermutation l report.sources)
                  (all.2 ∙ ap (λ (l : List SourceReport). l ++ reports_of_ends ends.ends) told) moved;
              order = sorted;
            };
          }

-- the reports are those that were added, if there were none before
pub told-all : (old new reports : List SourceReport) → new ≡ old ++ reports → old ≡ [] → new ≡ reports
told-all old new reports is none = is ∙ ap (λ l. l ++ reports) none

-- ---- by a view

-- The steps get the answers of a harvest, and lead to its state.
viewed : {C : Type 0} (step : C → Event → Step C Reply) (view : C → HarvestState) → StepsAsHarvests step view
    → (made : List Made) (core after : C) → AreMade step core made after
    → AreAnswered made (view core) × (view after ≡ state_after made (view core))
viewed step view acts [] core after is = (tt, ap view is)
viewed step view acts (m ∷ ms) core after is =
    let answer : Harvest m.answer ≡ Harvest (change_of_step m.step (view core)).reply =
    sym is.0 ∙ acts.answer core m.step in
    let same : m.answer ≡ (change_of_step m.step (view core)).reply = cc in
    let next = acts.after core m.step in
    let rest = viewed step view acts ms (core_after step core m.step) after is.1 in (
      (same, subst (AreAnswered ms) next rest.0),
      rest.1 ∙ ap (state_after ms) next,
    )

-- what is told of a round whose report is in order
pub round-reports : {C : Type 0} (step : C → Event → Step C Reply) (held : Holdings) (before after : C) (f0 f : ℕ)
    (result : Result RoundReport RoundFault) → IsRound step held before after f0 f result → (view : C → HarvestState)
    → StepsAsHarvests step view → AreSources (view before).sources
    → IfOk result (λ report. All (λ s. IsSome (open_job s)
    → Contains (map (λ r. r.source) report.sources) s.source.name) (view before).sources)
round-reports step held before after f0 f (Err fault) is view acts fit = tt
round-reports step held before after f0 f (Ok report) is view acts fit =
    let reported : IsReported is.made is.round report = is.reported in
    let seen = viewed step view acts is.made before after is.are_made in
    let sources : List SourceState = (view before).sources in
    let all = whole-reports (view before) is.round fit reported.whole
    (subst (λ (l : List Made). AreAnswered l (view before)) reported.steps seen.0) in
    All-weaker (λ (s : SourceState). IsSome (open_job s)
    → Contains (map (λ (r : SourceReport). r.source) (reports_of_round is.round)) s.source.name)
    (λ (s : SourceState). IsSome (open_job s)
    → Contains (map (λ (r : SourceReport). r.source) report.sources) s.source.name)
    (λ s told some. Contains-permutation (map (λ (r : SourceReport). r.source) (reports_of_round is.round))
    (map (λ (r : SourceReport). r.source) report.sources) s.source.name
    (IsPermutation-map (λ (r : SourceReport). r.source) (reports_of_round is.round) report.sources reported.reports)
    (told some)) sources all

pub round-ends : {C : Type 0} (step : C → Event → Step C Reply) (held : Holdings) (before after : C) (f0 f : ℕ)
    (result : Result RoundReport RoundFault) → IsRound step held before after f0 f result → (view : C → HarvestState)
    → StepsAsHarvests step view → AreSources (view before).sources
    → OnOk result (All (λ s. open_job s ≡ None) (view after).sources)
round-ends step held before after f0 f (Err fault) is view acts fit = tt
round-ends step held before after f0 f (Ok report) is view acts fit =
    let reported : IsReported is.made is.round report = is.reported in
    let seen = viewed step view acts is.made before after is.are_made in
    subst (λ (st : HarvestState). All (λ s. open_job s ≡ None) st.sources)
    (sym (seen.1 ∙ ap (λ (l : List Made). state_after l (view before)) reported.steps))
    (whole-leaves_none_open (view before) is.round fit reported.whole
    (subst (λ (l : List Made). AreAnswered l (view before)) reported.steps seen.0))

-- what holds of each fault holds of a result that is one
pub err-round : {C : Type 0} (step : C → Event → Step C Reply) (held : Holdings) (before after : C) (f0 f : ℕ)
    (result : Result RoundReport RoundFault) (fault : RoundFault) → result ≡ Err fault
    → ((why : RoundFault) → IsRound step held before after f0 f (Err why))
    → IsRound step held before after f0 f result
err-round step held before after f0 f result fault is all =
    subst (λ (r : Result RoundReport RoundFault). IsRound step held before after f0 f r) (sym is) (all fault)

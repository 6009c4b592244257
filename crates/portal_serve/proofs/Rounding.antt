-- A round on the portal: what its steps leave of the state, and the line of a script that asks for it.
use Rattle.std.proofs.Common.{◌≡◌, ℕ, ◌≤◌, Bool, true, false, cond, List, [], ◌∷◌, ◌++◌, length, take}
use Rattle.std.proofs.Common.{slice_index_or, Some, None, IfSome, IsSome, IfOk, Result, Ok, Err, refl, sym}
use Rattle.std.proofs.Common.{ap, subst, ◌∙◌, append-nil, inr, arith}
use Rattle.std.proofs.lemmas.List.Elements.{All-cons, All-nil}
use Rattle.std.proofs.lemmas.List.Sums.{sum_by-cons}
use Rattle.std.specs.Option.{option_map_or}
use Rattle.std.specs.Result.{result_ok}
use Rattle.harvest_pool.specs.Made.{AnswersSteps, AreAnswered, AreMade, Made, core_after, state_after as harvest_after}
use Rattle.harvest_pool.specs.Rounds.{RoseBy}
use Rattle.harvest_pool.specs.Working.{IsReported, IsRound}
use Rattle.harvest_pool.specs.declared.report.RoundFault.{RoundFault}
use Rattle.harvest_pool.specs.declared.report.RoundReport.{RoundReport}
use Rattle.harvest_results.specs.Effects.{HarvestState}
use Rattle.harvest_sources.specs.Steps.{is_accepted}
use Rattle.harvest_sources.specs.declared.step.Step.{Step as HarvestStep}
use Rattle.harvest_sources.specs.declared.step.StepReply.{StepReply}
use Rattle.portal_base.specs.Outside.{Holdings, Takes, TakesPrefix}
use Rattle.portal_state.proofs.HarvestEntries.{harvest_of-after, state_after-harvest}
use Rattle.portal_state.proofs.HarvestKeeping.{unaccepted-same}
use Rattle.portal_state.specs.Harvest.{harvest_change, harvest_of, state_after_step}
use Rattle.portal_state.specs.State.{State}
use Rattle.portal_state.specs.Step.{step_of}
use Rattle.portal_events.specs.declared.event.Refusal.TheVariants.{KeeperFault, OutOfMemory}
use Rattle.portal_events.specs.declared.event.Reply.TheVariants.{Refused, Harvest}
use Rattle.portal_links.proofs.Passing.{DrawsAll-same}
use Rattle.portal_serve.proofs.Working.{begins_nothing, begins_take, passed_none, plays_round}
use Rattle.portal_serve.proofs.Working.{stops_before}
use Rattle.portal_serve.specs.Played.{ProcessesLines, StopsLines}
use Rattle.portal_serve.specs.Rounds.{AreSameFetchers, Converts, MakesRound, RoundDone, RoundsPassed}
use Rattle.portal_serve.specs.Rounds.{failed_fetches, failures_of, faults_of_first, held_by_first, pool_trace, report_line}
use Rattle.portal_serve.specs.Rounds.{reports_of, round_line, with_harvest}
use Rattle.portal_serve.specs.Run.{Begins, IsWhole, StageTrace}
use Rattle.portal_serve.specs.Script.{Round, parsed_line}

-- ---- steps on the portal

-- The portal answers each step, and refuses one only where memory runs out or its keeper fails.
pub portal_answers : AnswersSteps step_of (λ reply. reply ≡ Refused OutOfMemory) (λ reply. reply ≡ Refused KeeperFault)
portal_answers = record {
  answers = λ state step. ((harvest_change step state).reply, refl);
  memory = λ reply is. is;
  fault = λ reply is. is;
}

-- the state after a step, whether it is accepted or not
core_after-step : (step : HarvestStep) (state : State) → core_after step_of state step ≡ state_after_step step state
core_after-step step state = by (is_accepted (harvest_change step state).reply) refl
  where
    by : (b : Bool) → is_accepted (harvest_change step state).reply ≡ b
        → cond b (state_after_step step state) state ≡ state_after_step step state
    by true is = refl
    by false is = sym (unaccepted-same step state is)

-- A step changes the sources and datasets alone.
pub with_harvest-after : (harvest : HarvestState) (step : HarvestStep) (state : State)
    → with_harvest harvest (state_after_step step state) ≡ with_harvest harvest state
with_harvest-after harvest step state = ap (with_harvest harvest) (state_after-harvest (harvest_change step state) state)

-- Steps that were made on the portal are answered by its sources and datasets, and change them alone.
pub record ChangesHarvest (made : List Made) (state after : State) : Type 0 where
  pub answered : AreAnswered made (harvest_of state)
  pub leaves : after ≡ with_harvest (harvest_after made (harvest_of state)) state

answer_is : (a b : StepReply) → Harvest a ≡ Harvest b → b ≡ a
answer_is a b e = cc

pub changes_harvest : (made : List Made) (state after : State) → AreMade step_of state made after
    → ChangesHarvest made state after
changes_harvest [] state after same = record { answered = tt; leaves = same }
changes_harvest (m ∷ made) state after steps =
    let moved = core_after-step m.step state in
    let rest = changes_harvest made (state_after_step m.step state) after
    (subst (λ (s : State). AreMade step_of s made after) moved steps.1) in
    let same = harvest_of-after m.step state in
    record {
      answered = (
        answer_is (harvest_change m.step state).reply m.answer steps.0,
        subst (λ (h : HarvestState). AreAnswered made h) same rest.answered,
      );
      leaves = rest.leaves
          ∙ with_harvest-after (harvest_after made (harvest_of (state_after_step m.step state))) m.step state
          ∙ ap (λ (h : HarvestState). with_harvest (harvest_after made h) state) same;
    }

-- ---- a round on the portal

reported_ok : (P : RoundReport → Type 0) (result : Result RoundReport RoundFault) → IfOk result P
    → IfSome (result_ok result) P
reported_ok P (Ok report) is = is
reported_ok P (Err fault) is = tt

makes_of : (held : Holdings) (state after : State) (before now : ℕ) (result : Result RoundReport RoundFault)
    → IsRound step_of held state after before now result → MakesRound held state after before now (result_ok result)
makes_of held state after before now result r =
    let changes = changes_harvest r.made state after r.are_made in
    record {
      done = record {
        left = harvest_after r.made (harvest_of state);
        report = result_ok result;
        failed = failed_fetches r.round;
      };
      allowed = record {
        made = r.made;
        round = r.round;
        first = r.first;
        answered = changes.answered;
        leaves = refl;
        catalogues = r.catalogues;
        objects = r.objects;
        failures = refl;
        reported = reported_ok (IsReported r.made r.round) result r.reported;
      };
      leaves = changes.leaves;
      failures = r.failed;
      reported = refl;
    }

converts_same : (given result : Result RoundReport RoundFault) → Converts (λ x y. y ≡ x) given result → given ≡ result
converts_same (Ok a) (Ok b) is = ap (λ x. Ok x) (sym is)
converts_same (Ok a) (Err f) is = absurd is
converts_same (Err e) (Ok b) is = absurd is
converts_same (Err e) (Err f) is = ap (λ x. Err x) (sym is)

-- The round of a machine's contract is one on the portal, by the first fetcher.
pub makes_round : {F : Type 0} (held : F → Holdings) (faults : F → ℕ) (old new : List F) (state after : State)
    (result : Result RoundReport RoundFault)
    → 1 ≤ length old → AreSameFetchers held faults old new
    → ((d : F) → (given : Result RoundReport RoundFault) × Converts (λ x y. y ≡ x) given result
    × IsRound step_of (held (slice_index_or old 0 d)) state after (faults (slice_index_or old 0 d))
    (faults (slice_index_or new 0 d)) given)
    → MakesRound (held_by_first held old) state after (faults_of_first faults old) (faults_of_first faults new)
    (result_ok result)
makes_round held faults [] new state after result one same is = absurd (omega (arith, one))
makes_round held faults (f ∷ old) [] state after result one same is = absurd (omega (arith, same.count))
makes_round held faults (f ∷ old) (g ∷ new) state after result one same is =
    let r = is f in
    makes_of (held f) state after (faults f) (faults g) result
    (subst (λ x. IsRound step_of (held f) state after (faults f) (faults g) x) (converts_same r.0 result r.1) r.2)

-- ---- the fetchers of a round

pub record FirstIsSame {F : Type 0} (held : F → Holdings) (faults : F → ℕ) (old new : List F) : Type 0 where
  pub documents : held_by_first held new ≡ held_by_first held old
  pub counts : faults_of_first faults old ≤ faults_of_first faults new

first_is_same : {F : Type 0} (held : F → Holdings) (faults : F → ℕ) (old new : List F)
    → AreSameFetchers held faults old new → FirstIsSame held faults old new
first_is_same held faults [] [] same = record { documents = refl; counts = omega arith }
first_is_same held faults [] (g ∷ new) same = absurd (omega (arith, same.count))
first_is_same held faults (f ∷ old) [] same = absurd (omega (arith, same.count))
first_is_same held faults (f ∷ old) (g ∷ new) same =
    record { documents = same.documents 0 f (omega arith); counts = same.counts 0 f (omega arith) }

one_is_some : {X : Type 0} (d : RoundDone) → d ∷ [] ≡ [] → X
one_is_some d e = absurd (cc)

-- one round passed the fetchers
abbrev fetched_one : {F : Type 0} (held : F → Holdings) (faults : F → ℕ) (old new : List F) (before after : List RoundReport)
    (d : RoundDone)
    → AreSameFetchers held faults old new → RoseBy d.failed (faults_of_first faults old) (faults_of_first faults new)
    → after ≡ before ++ reports_of (d ∷ [])
    → RoundsPassed (pool_trace held faults old before) (pool_trace held faults new after)
fetched_one held faults old new before after d same rose reported =
    let first = first_is_same held faults old new same in
    let total : failures_of (d ∷ []) ≡ d.failed = sum_by-cons (λ (r : RoundDone). r.failed) d [] ∙ omega arith in
    record {
      rounds = d ∷ [];
      documents = first.documents;
      counts = first.counts;
      failures = subst (λ n. RoseBy n (faults_of_first faults old) (faults_of_first faults new)) (sym total) rose;
      reported = reported;
      unused = λ none. one_is_some d none;
    }

-- ---- the line that asks for a round

reports_of-one : (d : RoundDone) (report : RoundReport) → d.report ≡ Some report → reports_of (d ∷ []) ≡ report ∷ []
reports_of-one d report is = rw is refl

reports_of-none : (d : RoundDone) → d.report ≡ None → reports_of (d ∷ []) ≡ []
reports_of-none d is = rw is refl

round_line-one : (d : RoundDone) (report : RoundReport) → d.report ≡ Some report → round_line d ≡ report_line report
round_line-one d report is = ap (λ r. option_map_or report_line r []) is

-- The round that a line asks for went to its end, and its line was written.
pub processes_round : {F : Type 0} (held : F → Holdings) (faults : F → ℕ) (fetchers fetchers' : List F)
    (reports reports' : List RoundReport) (state after : State) (line : List ℕ) (workers : ℕ) (report : RoundReport)
    (old new : StageTrace)
    → parsed_line line ≡ Ok (Round workers) → AreSameFetchers held faults fetchers fetchers'
    → MakesRound (held_by_first held fetchers) state after (faults_of_first faults fetchers)
    (faults_of_first faults fetchers') (Some report)
    → reports' ≡ reports ++ report ∷ [] → Takes old.taken (report_line report) new.taken → new.moments ≡ old.moments
    → new.nonces ≡ old.nonces
    → ProcessesLines state (line ∷ []) after old new (pool_trace held faults fetchers reports)
    (pool_trace held faults fetchers' reports')
processes_round held faults fetchers fetchers' reports reports' state after line workers report old new is same made
    added takes moments nonces =
    let d = made.done in
    let plays = plays_round (held_by_first held fetchers) state line workers d is made.allowed in
    record {
      passed = record {
        written = report_line report;
        moments = [];
        nonces = [];
        output = takes;
        clock = DrawsAll-same old.moments new.moments moments;
        numbers = DrawsAll-same old.nonces new.nonces nonces;
      };
      fetched = fetched_one held faults fetchers fetchers' reports reports' d same made.failures
          (added ∙ ap (λ r. reports ++ r) (sym (reports_of-one d report made.reported)));
      processes = record {
        are_drawn = plays.are_drawn;
        allowed = plays.allowed;
        ended = All-cons IsWhole d [] (subst IsSome (sym made.reported) refl) (All-nil IsWhole);
        output = plays.output ∙ round_line-one d report made.reported;
        leaves = plays.leaves ∙ sym made.leaves;
      };
    }

-- It went to its end, and some prefix of its line was written.
pub stops_after_round : {F : Type 0} (held : F → Holdings) (faults : F → ℕ) (fetchers fetchers' : List F)
    (reports reports' : List RoundReport) (state after : State) (line : List ℕ) (workers : ℕ) (report : RoundReport)
    (old new : StageTrace)
    → parsed_line line ≡ Ok (Round workers) → AreSameFetchers held faults fetchers fetchers'
    → MakesRound (held_by_first held fetchers) state after (faults_of_first faults fetchers)
    (faults_of_first faults fetchers') (Some report)
    → reports' ≡ reports ++ report ∷ [] → TakesPrefix old.taken (report_line report) new.taken
    → new.moments ≡ old.moments → new.nonces ≡ old.nonces
    → StopsLines state (line ∷ []) after old new (pool_trace held faults fetchers reports)
    (pool_trace held faults fetchers' reports')
stops_after_round held faults fetchers fetchers' reports reports' state after line workers report old new is same made
    added part moments nonces =
    let d = made.done in
    let plays = plays_round (held_by_first held fetchers) state line workers d is made.allowed in
    inr (record {
      passed = record {
        written = take part.0 (report_line report);
        moments = [];
        nonces = [];
        output = part.2;
        clock = DrawsAll-same old.moments new.moments moments;
        numbers = DrawsAll-same old.nonces new.nonces nonces;
      };
      fetched = fetched_one held faults fetchers fetchers' reports reports' d same made.failures
          (added ∙ ap (λ r. reports ++ r) (sym (reports_of-one d report made.reported)));
      are_drawn = plays.are_drawn;
      allowed = plays.allowed;
      begins = subst (λ t. Begins (take part.0 (report_line report)) t)
          (sym (plays.output ∙ round_line-one d report made.reported)) (begins_take part.0 (report_line report));
      leaves = inr (made.leaves ∙ sym plays.leaves);
    })

-- It stopped before its end, and nothing was written.
pub stops_in_round : {F : Type 0} (held : F → Holdings) (faults : F → ℕ) (fetchers fetchers' : List F)
    (reports reports' : List RoundReport) (state after : State) (line : List ℕ) (workers : ℕ) (trace : StageTrace)
    → parsed_line line ≡ Ok (Round workers) → AreSameFetchers held faults fetchers fetchers'
    → MakesRound (held_by_first held fetchers) state after (faults_of_first faults fetchers)
    (faults_of_first faults fetchers') None
    → reports' ≡ reports
    → StopsLines state (line ∷ []) after trace trace (pool_trace held faults fetchers reports)
    (pool_trace held faults fetchers' reports')
stops_in_round held faults fetchers fetchers' reports reports' state after line workers trace is same made kept =
    let d = made.done in
    let plays = plays_round (held_by_first held fetchers) state line workers d is made.allowed in
    inr (record {
      passed = passed_none trace;
      fetched = fetched_one held faults fetchers fetchers' reports reports' d same made.failures
          (kept ∙ sym (ap (λ r. reports ++ r) (reports_of-none d made.reported) ∙ append-nil reports));
      are_drawn = plays.are_drawn;
      allowed = plays.allowed;
      begins = begins_nothing _;
      leaves = inr (made.leaves ∙ sym plays.leaves);
    })

-- There was no room for its report, and it didn't begin.
pub stops_before_round : {F : Type 0} (held : F → Holdings) (faults : F → ℕ) (fetchers : List F)
    (reports reports' : List RoundReport) (state : State) (script : List (List ℕ)) (trace : StageTrace)
    → reports' ≡ reports
    → StopsLines state script state trace trace (pool_trace held faults fetchers reports)
    (pool_trace held faults fetchers reports')
stops_before_round held faults fetchers reports reports' state script trace kept =
    subst (λ r. StopsLines state script state trace trace (pool_trace held faults fetchers reports)
    (pool_trace held faults fetchers r)) (sym kept)
    (stops_before state script trace (pool_trace held faults fetchers reports))

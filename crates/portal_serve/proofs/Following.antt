-- The rounds of a script follow from the documents.
use Rattle.std.proofs.Common.{◌≡◌, ℕ, ℤ, List, [], ◌∷◌, length, Option, Some, None, IfSome, IsSome, Result, Ok, Err, sym, ap}
use Rattle.std.proofs.Common.{◌∙◌, subst}
use Rattle.std.specs.Prelude.{sum_by}
use Rattle.std.specs.List.{All}
use Rattle.std.specs.List.Sorted.{IsPermutation, IsSorted}
use Rattle.std.proofs.lemmas.List.Elements.{All-head, All-tail}
use Rattle.action_api.specs.Request.{request_for}
use Rattle.action_api.specs.declared.early.Early.{Early}
use Rattle.harvest_pool.specs.Made.{AreAnswered, Made, state_after as harvest_after}
use Rattle.harvest_pool.specs.Rounds.{IsCatalogueOf, IsReadingOf, report_cmp, reports_of_round, steps_of_round}
use Rattle.harvest_pool.specs.Rounds as pool
use Rattle.harvest_pool.specs.WholeRounds.{IsAtRest, after_round, failures_in, failures_told, round_reports}
use Rattle.harvest_pool.specs.Working.{IsReported}
use Rattle.harvest_pool.specs.declared.report.RoundReport.{RoundReport}
use Rattle.harvest_results.specs.Effects.{HarvestState}
use Rattle.harvest_sources.specs.Sources.{AreSources, open_job}
use Rattle.harvest_sources.specs.declared.job.SourceReport.{SourceReport}
use Rattle.portal_base.specs.Outside.{Holdings}
use Rattle.portal_calls.specs.declared.call.Request.{Request}
use Rattle.portal_state.specs.Harvest.{harvest_of}
use Rattle.portal_state.specs.State.{State}
use Rattle.portal_serve.proofs.Resting.{IsResting, at-rest, call-rests, steps-rest}
use Rattle.portal_serve.specs.Followed.{FollowsRound, FollowsRounds, FollowsDocuments}
use Rattle.portal_links.specs.Asked.{call_of}
use Rattle.portal_serve.specs.RequestOutcome.{outcome_of_request}
use Rattle.portal_serve.specs.Rounds.{IsRoundOf, RoundDone, failed_fetches, with_harvest}
use Rattle.portal_serve.specs.Run.{IsWhole}
use Rattle.portal_serve.specs.Script.{ScriptCall, ScriptLine, Call, Round, parsed_line}
use Rattle.portal_serve.specs.Transcript.{AllowsRound, AllowsRounds, ScriptState, Turn, drawn, script_state}
use Rattle.portal_serve.specs.Transcript.{script_state_after, turn, turn_of, turn_of_call}

-- ---- a line that asks for a call

requested-rests : (state : State) (call : ScriptCall) (size : ℕ) (m : ℤ) (n : ℕ) (request : Result Request Early)
    → IsResting state → IsResting (outcome_of_request state call.caller size m n request).state
requested-rests state call size m n (Ok request) rest = call-rests state (call_of call.caller request size m n) rest
requested-rests state call size m n (Err early) rest = rest

-- The state after a line, and the rounds that are still to come.
pub record LeavesRest (t : Turn) : Type 0 where
  pub rest : IsResting t.after.state
  pub whole : All IsWhole t.after.to_come.rounds

called-rests : (state : State) (call : ScriptCall) (size : ℕ) (moments : List ℤ) (nonces : List ℕ) (rounds : List RoundDone)
    → IsResting state → All IsWhole rounds → LeavesRest (turn_of_call state call size moments nonces rounds)
called-rests state call size [] nonces rounds rest whole = record { rest = rest; whole = whole }
called-rests state call size (m ∷ moments) [] rounds rest whole = record { rest = rest; whole = whole }
called-rests state call size (m ∷ moments) (n ∷ nonces) rounds rest whole = record {
  rest = requested-rests state call size m n (request_for call.action call.body) rest;
  whole = whole;
}

-- ---- rounds that follow from the documents

-- what a whole round leaves and reports, and that it leaves no job open
abbrev LeavesNoneOpen : Type 0
LeavesNoneOpen = (before : HarvestState) (round : pool.Round) → AreSources before.sources → pool.IsWhole round
    → AreAnswered (steps_of_round round) before
    → All (λ s. open_job s ≡ None) (harvest_after (steps_of_round round) before).sources

-- what is so of the sources and datasets before a whole round, and of its sorted reports
abbrev HoldsOfRounds : ((List ℕ → Option (List ℕ)) → HarvestState → pool.Round → List SourceReport → Type 0) → Type 0
HoldsOfRounds Holds = (documents : List ℕ → Option (List ℕ)) (before : HarvestState) (round : pool.Round)
    (reports : List SourceReport)
    → IsAtRest before → pool.IsWhole round → AreAnswered (steps_of_round round) before
    → All (IsCatalogueOf (Some documents)) round.catalogues.done → All (IsReadingOf (Some documents)) round.objects.done
    → IsPermutation (reports_of_round round) reports → IsSorted report_cmp reports
    → Holds documents before round reports

abbrev LeavesAsTold : Type 0
LeavesAsTold = HoldsOfRounds (λ documents before round reports.
    harvest_after (steps_of_round round) before ≡ after_round documents (failures_told reports) before)

abbrev ReportsAsTold : Type 0
ReportsAsTold = HoldsOfRounds (λ documents before round reports.
    reports ≡ round_reports documents (failures_told reports) before)

-- a whole round reports as many failed fetches as it has
abbrev TellsFailures : Type 0
TellsFailures = (documents : List ℕ → Option (List ℕ)) (before : HarvestState) (round : pool.Round)
    (reports : List SourceReport)
    → IsAtRest before → pool.IsWhole round → AreAnswered (steps_of_round round) before
    → All (IsCatalogueOf (Some documents)) round.catalogues.done → All (IsReadingOf (Some documents)) round.objects.done
    → IsPermutation (reports_of_round round) reports → sum_by failures_in reports ≡ failed_fetches round

module _ (none_open : LeavesNoneOpen) (left : LeavesAsTold) (told : ReportsAsTold) (counted : TellsFailures) where
  round-told : (documents : List ℕ → Option (List ℕ)) (state : State) (d : RoundDone) (report : RoundReport)
      → IsResting state → (is : IsRoundOf (Some documents) (harvest_of state) d) → IsReported is.made is.round report
      → FollowsDocuments documents (harvest_of state) d report
  round-told documents state d report rest is reported =
      let before : HarvestState = harvest_of state in
      let answered : AreAnswered (steps_of_round is.round) before =
      subst (λ (made : List Made). AreAnswered made before) reported.steps is.answered in
      record {
        leaves = is.leaves ∙ ap (λ (made : List Made). harvest_after made before) reported.steps
            ∙ left documents before is.round report.sources (at-rest state rest) reported.whole answered is.catalogues
            is.objects reported.reports reported.order;
        reports = told documents before is.round report.sources (at-rest state rest) reported.whole answered
            is.catalogues is.objects reported.reports reported.order;
        failures = counted documents before is.round report.sources (at-rest state rest) reported.whole answered
            is.catalogues is.objects reported.reports ∙ sym is.failures;
      }

  round-follows : (held : Holdings) (state : State) (d : RoundDone) → IsResting state
      → IsRoundOf held (harvest_of state) d
      → IfSome held (λ documents. IfSome d.report (FollowsDocuments documents (harvest_of state) d))
  round-follows None state d rest is = tt
  round-follows (Some documents) state d rest is = by d.report is.reported
    where
      by : (o : Option RoundReport) → IfSome o (IsReported is.made is.round)
          → IfSome o (FollowsDocuments documents (harvest_of state) d)
      by None reported = tt
      by (Some report) reported = round-told documents state d report rest is reported

  round-rests : (held : Holdings) (state : State) (d : RoundDone) → IsResting state
      → IsRoundOf held (harvest_of state) d → IsWhole d → IsResting (with_harvest d.left state)
  round-rests held state d rest is whole = by d.report whole is.reported
    where
      by : (o : Option RoundReport) → IsSome o → IfSome o (IsReported is.made is.round)
          → IsResting (with_harvest d.left state)
      by None some reported = absurd (cc)
      by (Some report) some reported =
          let before : HarvestState = harvest_of state in
          let answered : AreAnswered (steps_of_round is.round) before =
          subst (λ (made : List Made). AreAnswered made before) reported.steps is.answered in
          subst (λ (h : HarvestState). IsResting (with_harvest h state))
          (ap (λ (made : List Made). harvest_after made before) (sym reported.steps) ∙ sym is.leaves)
          (steps-rest (steps_of_round is.round) state rest.valid
          (none_open before is.round rest.valid.sources reported.whole answered))

  -- ---- the lines of a script

  pub record FollowsLine (held : Holdings) (s : ScriptState) (parsed : Result ScriptLine Early) (size : ℕ) : Type 0 where
    pub follows : FollowsRound held s.state parsed s.to_come.rounds
    pub leaves : LeavesRest (turn_of s parsed size)

  round-line : (held : Holdings) (state : State) (moments : List ℤ) (nonces : List ℕ) (rounds : List RoundDone)
      (workers size : ℕ) → IsResting state → All IsWhole rounds → AllowsRound held state (Ok (Round workers)) rounds
      → FollowsLine held (script_state state (drawn moments nonces rounds)) (Ok (Round workers)) size
  round-line held state moments nonces [] workers size rest whole allowed =
      record { follows = tt; leaves = record { rest = rest; whole = whole } }
  round-line held state moments nonces (d ∷ rounds) workers size rest whole allowed = record {
    follows = round-follows held state d rest allowed;
    leaves = record {
      rest = round-rests held state d rest allowed (All-head IsWhole d rounds whole);
      whole = All-tail IsWhole d rounds whole;
    };
  }

  line-follows : (held : Holdings) (s : ScriptState) (parsed : Result ScriptLine Early) (size : ℕ) → IsResting s.state
      → All IsWhole s.to_come.rounds → AllowsRound held s.state parsed s.to_come.rounds → FollowsLine held s parsed size
  line-follows held s (Err early) size rest whole allowed =
      record { follows = tt; leaves = record { rest = rest; whole = whole } }
  line-follows held s (Ok (Call call)) size rest whole allowed = record {
    follows = tt;
    leaves = called-rests s.state call size s.to_come.moments s.to_come.nonces s.to_come.rounds rest whole;
  }
  line-follows held s (Ok (Round workers)) size rest whole allowed =
      round-line held s.state s.to_come.moments s.to_come.nonces s.to_come.rounds workers size rest whole allowed

  -- Each round follows from the documents, and a valid state in which no job runs is left.
  pub lines-follow : (held : Holdings) (lines : List (List ℕ)) (s : ScriptState) → IsResting s.state
      → All IsWhole s.to_come.rounds → AllowsRounds held s lines
      → FollowsRounds held s lines × IsResting (script_state_after s lines).state
  lines-follow held [] s rest whole allowed = (tt, rest)
  lines-follow held (line ∷ lines) s rest whole allowed =
      let one = line-follows held s (parsed_line line) (length line) rest whole allowed.0 in
      let more = lines-follow held lines (turn s line).after one.leaves.rest one.leaves.whole allowed.1 in
      ((one.follows, more.0), more.1)

-- Two runs of a script that draw alike write the same and leave the same.
use Rattle.std.proofs.Common.{◌≡◌, ℕ, ℤ, List, [], ◌∷◌, ◌++◌, map, length, Option, Some, None, IfSome, IsSome, Result, Ok, Err}
use Rattle.std.proofs.Common.{refl, sym, ap, ap₂, ◌∙◌, subst}
use Rattle.std.specs.Prelude.{option_map}
use Rattle.std.specs.List.{All}
use Rattle.std.specs.Option.{option_map_or}
use Rattle.std.proofs.lemmas.List.Elements.{All-head, All-tail}
use Rattle.std.proofs.lemmas.Option.{same_Some}
use Rattle.action_api.specs.declared.early.Early.{Early}
use Rattle.harvest_pool.specs.WholeRounds.{Failures, after_round, failures_told, round_reports}
use Rattle.harvest_pool.specs.declared.report.RoundReport.{RoundReport}
use Rattle.harvest_results.specs.Effects.{HarvestState}
use Rattle.harvest_sources.specs.declared.job.SourceReport.{SourceReport}
use Rattle.portal_state.specs.Harvest.{harvest_of}
use Rattle.portal_state.specs.State.{State}
use Rattle.portal_serve.specs.Followed.{AreDrawnAlike, FollowsRound, FollowsRounds, FollowsDocuments, failures_of_report}
use Rattle.portal_serve.specs.Rounds.{RoundDone, report_line, round_line, with_harvest}
use Rattle.portal_serve.specs.Run.{IsWhole}
use Rattle.portal_serve.specs.Script.{ScriptCall, ScriptLine, Call, Round, parsed_line}
use Rattle.portal_serve.specs.Transcript.{Drawn, ScriptState, Turn, drawn, early_line, outcome_of_call, reply_line}
use Rattle.portal_serve.specs.Transcript.{script_state, state_after, turn_of, turn_of_call, turn_of_round}
use Rattle.portal_serve.specs.Transcript.{written_for}

-- ---- one round

of_reports : List SourceReport → RoundReport
of_reports reports = record { sources = reports }

same-report : (one other : RoundReport) → other.sources ≡ one.sources → other ≡ one
unfolding of_reports
same-report one other same = ap of_reports same

heads : {X : Type 0} (x y : X) (xs ys : List X) → y ∷ ys ≡ x ∷ xs → (y ≡ x) × (ys ≡ xs)
heads x y xs ys same = (cc, cc)

-- Two rounds from one state leave and report the same, if their reports tell of the same failed fetches.
same-round : (documents : List ℕ → Option (List ℕ)) (before : HarvestState) (d e : RoundDone) → IsWhole d
    → failures_of_report e ≡ failures_of_report d → IfSome d.report (FollowsDocuments documents before d)
    → IfSome e.report (FollowsDocuments documents before e) → (e.left ≡ d.left) × (e.report ≡ d.report)
same-round documents before d e whole same told also = by d.report e.report whole same told also
  where
    by : (o p : Option RoundReport) → IsSome o
        → option_map (λ (report : RoundReport). failures_told report.sources) p
        ≡ option_map (λ (report : RoundReport). failures_told report.sources) o
        → IfSome o (FollowsDocuments documents before d) → IfSome p (FollowsDocuments documents before e)
        → (e.left ≡ d.left) × (p ≡ o)
    by None p some like told also = absurd (cc)
    by (Some r) None some like told also = absurd (cc)
    by (Some r) (Some q) some like told also =
        let failures : failures_told q.sources ≡ failures_told r.sources =
        same_Some (failures_told q.sources) (failures_told r.sources) like in (
          also.leaves ∙ ap (λ (f : Failures). after_round documents f before) failures ∙ sym told.leaves,
          ap Some (same-report r q
              (also.reports ∙ ap (λ (f : Failures). round_reports documents f before) failures ∙ sym told.reports)),
        )

-- ---- lines

-- The two write the same for the lines, and leave the same.
pub record AreSame (one other : ScriptState) (lines : List (List ℕ)) : Type 0 where
  pub written : written_for other lines ≡ written_for one lines
  pub leaves : state_after other lines ≡ state_after one lines

-- Two turns and the lines after them write the same, and leave the same.
record AreSameFrom (one other : Turn) (lines : List (List ℕ)) : Type 0 where
  pub written : other.written ++ written_for other.after lines ≡ one.written ++ written_for one.after lines
  pub leaves : state_after other.after lines ≡ state_after one.after lines

abbrev before_lines : State → List ℤ → List ℕ → List RoundDone → ScriptState
before_lines state moments nonces rounds = script_state state (drawn moments nonces rounds)

-- Runs of the lines that differ in nothing but their rounds are the same, if these follow from the documents, and their reports
-- tell of the same failed fetches.
abbrev LinesRepeat : (List ℕ → Option (List ℕ)) → List (List ℕ) → Type 0
LinesRepeat documents lines = (state : State) (moments : List ℤ) (nonces : List ℕ) (one other : List RoundDone)
    → All IsWhole one → map failures_of_report other ≡ map failures_of_report one
    → FollowsRounds (Some documents) (before_lines state moments nonces one) lines
    → FollowsRounds (Some documents) (before_lines state moments nonces other) lines
    → AreSame (before_lines state moments nonces one) (before_lines state moments nonces other) lines

-- what is written for a turn comes before what is written for the lines after it
before-same : (written : List ℕ) (one other : ScriptState) (lines : List (List ℕ)) → AreSame one other lines
    → AreSameFrom (record { after = one; written = written }) (record { after = other; written = written }) lines
before-same written one other lines same =
    record { written = ap (λ (w : List ℕ). written ++ w) same.written; leaves = same.leaves }

module _ (documents : List ℕ → Option (List ℕ)) (lines : List (List ℕ)) (repeat : LinesRepeat documents lines) where
  call-repeats : (state : State) (call : ScriptCall) (size : ℕ) (moments : List ℤ) (nonces : List ℕ)
      (one other : List RoundDone) → All IsWhole one → map failures_of_report other ≡ map failures_of_report one
      → FollowsRounds (Some documents) (turn_of_call state call size moments nonces one).after lines
      → FollowsRounds (Some documents) (turn_of_call state call size moments nonces other).after lines
      → AreSameFrom (turn_of_call state call size moments nonces one) (turn_of_call state call size moments nonces other)
      lines
  call-repeats state call size [] nonces one other whole same told also =
      before-same [] (before_lines state [] nonces one) (before_lines state [] nonces other) lines
      (repeat state [] nonces one other whole same told also)
  call-repeats state call size (m ∷ moments) [] one other whole same told also =
      before-same [] (before_lines state (m ∷ moments) [] one) (before_lines state (m ∷ moments) [] other) lines
      (repeat state (m ∷ moments) [] one other whole same told also)
  call-repeats state call size (m ∷ moments) (n ∷ nonces) one other whole same told also =
      let outcome = outcome_of_call state call size m n in
      before-same (reply_line (Some call.action) outcome.reply) (before_lines outcome.state moments nonces one)
      (before_lines outcome.state moments nonces other) lines
      (repeat outcome.state moments nonces one other whole same told also)

  round-repeats : (state : State) (moments : List ℤ) (nonces : List ℕ) (workers : ℕ) (one other : List RoundDone)
      → All IsWhole one → map failures_of_report other ≡ map failures_of_report one
      → FollowsRound (Some documents) state (Ok (Round workers)) one
      → FollowsRound (Some documents) state (Ok (Round workers)) other
      → FollowsRounds (Some documents) (turn_of_round state moments nonces one).after lines
      → FollowsRounds (Some documents) (turn_of_round state moments nonces other).after lines
      → AreSameFrom (turn_of_round state moments nonces one) (turn_of_round state moments nonces other) lines
  round-repeats state moments nonces workers [] [] whole same round other_round told also =
      before-same [] (before_lines state moments nonces []) (before_lines state moments nonces []) lines
      (repeat state moments nonces [] [] whole same told also)
  round-repeats state moments nonces workers [] (e ∷ other) whole same round other_round told also = absurd (cc)
  round-repeats state moments nonces workers (d ∷ one) [] whole same round other_round told also = absurd (cc)
  round-repeats state moments nonces workers (d ∷ one) (e ∷ other) whole same round other_round told also =
      let parts = heads (failures_of_report d) (failures_of_report e) (map failures_of_report one)
      (map failures_of_report other) same in
      let made = same-round documents (harvest_of state) d e (All-head IsWhole d one whole) parts.0 round other_round in
      let rest = repeat (with_harvest d.left state) moments nonces one other (All-tail IsWhole d one whole) parts.1 told
      (subst (λ (left : HarvestState).
      FollowsRounds (Some documents) (before_lines (with_harvest left state) moments nonces other) lines) made.0 also) in
      record {
        written = ap₂ (λ (report : Option RoundReport) (left : HarvestState). option_map_or report_line report []
            ++ written_for (before_lines (with_harvest left state) moments nonces other) lines) made.1 made.0
            ∙ ap (λ (w : List ℕ). round_line d ++ w) rest.written;
        leaves = ap (λ (left : HarvestState).
            state_after (before_lines (with_harvest left state) moments nonces other) lines) made.0
            ∙ rest.leaves;
      }

  line-repeats : (state : State) (moments : List ℤ) (nonces : List ℕ) (parsed : Result ScriptLine Early) (size : ℕ)
      (one other : List RoundDone) → All IsWhole one → map failures_of_report other ≡ map failures_of_report one
      → FollowsRound (Some documents) state parsed one → FollowsRound (Some documents) state parsed other
      → FollowsRounds (Some documents) (turn_of (before_lines state moments nonces one) parsed size).after lines
      → FollowsRounds (Some documents) (turn_of (before_lines state moments nonces other) parsed size).after lines
      → AreSameFrom (turn_of (before_lines state moments nonces one) parsed size)
      (turn_of (before_lines state moments nonces other) parsed size) lines
  line-repeats state moments nonces (Err early) size one other whole same round other_round told also =
      before-same (early_line early) (before_lines state moments nonces one) (before_lines state moments nonces other) lines
      (repeat state moments nonces one other whole same told also)
  line-repeats state moments nonces (Ok (Call call)) size one other whole same round other_round told also =
      call-repeats state call size moments nonces one other whole same told also
  line-repeats state moments nonces (Ok (Round workers)) size one other whole same round other_round told also =
      round-repeats state moments nonces workers one other whole same round other_round told also

lines-repeat : (documents : List ℕ → Option (List ℕ)) (lines : List (List ℕ)) → LinesRepeat documents lines
lines-repeat documents [] = λ state moments nonces one other whole same told also.
    record { written = refl; leaves = refl }
lines-repeat documents (line ∷ lines) = λ state moments nonces one other whole same told also.
    let from = line-repeats documents lines (lines-repeat documents lines) state moments nonces (parsed_line line)
    (length line) one other whole same told.0 also.0 told.1 also.1 in
    record { written = from.written; leaves = from.leaves }

-- ---- a script

-- Two runs that draw alike are the same, if their rounds follow from the documents.
pub script-repeats : (documents : List ℕ → Option (List ℕ)) (state : State) (one other : Drawn) (lines : List (List ℕ))
    → All IsWhole one.rounds → AreDrawnAlike one other → FollowsRounds (Some documents) (script_state state one) lines
    → FollowsRounds (Some documents) (script_state state other) lines
    → AreSame (script_state state one) (script_state state other) lines
script-repeats documents state one other lines whole alike told also =
    let same : other ≡ drawn one.moments one.nonces other.rounds =
    ap₂ (λ (moments : List ℤ) (nonces : List ℕ). drawn moments nonces other.rounds) alike.moments alike.nonces in
    let from = lines-repeat documents lines state one.moments one.nonces one.rounds other.rounds whole alike.failures told
    (subst (λ (d : Drawn). FollowsRounds (Some documents) (script_state state d) lines) same also) in
    record {
      written = ap (λ (d : Drawn). written_for (script_state state d) lines) same ∙ from.written;
      leaves = ap (λ (d : Drawn). state_after (script_state state d) lines) same ∙ from.leaves;
    }

-- Rounds of a script that do what the documents say.
use Rattle.std.specs.Prelude.{◌≡◌, ⊤, ℕ, IfSome, List, [], ◌∷◌, map, Option, option_map, Result, Ok, Err, sum_by}
use Rattle.action_api.specs.declared.early.Early.{Early}
use Rattle.harvest_pool.specs.WholeRounds.{Failures, after_round, failures_in, failures_told, round_reports}
use Rattle.harvest_pool.specs.declared.report.RoundReport.{RoundReport}
use Rattle.harvest_results.specs.Effects.{HarvestState}
use Rattle.portal_base.specs.Outside.{Holdings}
use Rattle.portal_state.specs.Harvest.{harvest_of}
use Rattle.portal_state.specs.State.{State}
use Rattle.portal_serve.specs.Rounds.{RoundDone}
use Rattle.portal_serve.specs.Script.{ScriptLine, Call, Round, parsed_line}
use Rattle.portal_serve.specs.Transcript.{Drawn, ScriptState, turn}

-- ---- rounds that follow from the documents

-- What the round left and what it reports follow from the sources and datasets before it, from the documents, and from the
-- failed fetches that the report tells of. It tells of as many as failed.
pub record FollowsDocuments (documents : List ℕ → Option (List ℕ)) (before : HarvestState) (d : RoundDone)
    (report : RoundReport) : Type 0 where
  pub leaves : d.left ≡ after_round documents (failures_told report.sources) before
  pub reports : report.sources ≡ round_reports documents (failures_told report.sources) before
  pub failures : sum_by failures_in report.sources ≡ d.failed

-- The round that a line draws follows from the documents and the state before the line, if it went to its end.
abbrev pub FollowsRound : Holdings → State → Result ScriptLine Early → List RoundDone → Type 0
FollowsRound held state (Ok (Round workers)) (d ∷ rounds) =
    IfSome held (λ documents. IfSome d.report (FollowsDocuments documents (harvest_of state) d))
FollowsRound held state (Ok (Round workers)) [] = ⊤
FollowsRound held state (Ok (Call call)) rounds = ⊤
FollowsRound held state (Err early) rounds = ⊤

-- So does each round that these lines draw.
abbrev pub FollowsRounds : Holdings → ScriptState → List (List ℕ) → Type 0
FollowsRounds held s [] = ⊤
FollowsRounds held s (line ∷ lines) =
    FollowsRound held s.state (parsed_line line) s.to_come.rounds × FollowsRounds held (turn s line).after lines

-- ---- scripts that draw the same but for what the documents say

-- the failed fetches that the round's report tells of, if it went to its end
abbrev pub failures_of_report : RoundDone → Option Failures
failures_of_report d = option_map (λ report. failures_told report.sources) d.report

-- The same moments and nonces were drawn, and the reports of the rounds tell of the same failed fetches.
pub record AreDrawnAlike (one other : Drawn) : Type 0 where
  pub moments : other.moments ≡ one.moments
  pub nonces : other.nonces ≡ one.nonces
  pub failures : map failures_of_report other.rounds ≡ map failures_of_report one.rounds

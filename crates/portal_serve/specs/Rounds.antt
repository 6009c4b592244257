-- The rounds of harvests that a script asks for: what each did, and its line of the transcript.
use Rattle.std.specs.Prelude.{◌≡◌, ◌≤◌, ◌<◌, ◌+◌, ℕ, List, [], ◌∷◌, ◌++◌, length, codes, count_by, sum_by, slice_index_or}
use Rattle.std.specs.Prelude.{Option, None, IfSome, Result, Ok, Err}
use Rattle.std.specs.List.{All, filter_map}
use Rattle.std.specs.Option.{option_map_or}
use Rattle.portal_base.specs.Json.{json_text}
use Rattle.portal_base.specs.Outside.{Holdings}
use Rattle.portal_state.specs.Harvest.{harvest_of}
use Rattle.portal_state.specs.State.{State}
use Rattle.portal_hall.specs.History.{Begins}
use Rattle.harvest_results.specs.Effects.{HarvestState}
use Rattle.harvest_pool.specs.Made.{AreAnswered, Made, state_after}
use Rattle.harvest_pool.specs.RoundJson.{round_dictionary}
use Rattle.harvest_pool.specs.Rounds.{IsCatalogueOf, IsReadingOf, RoseBy, Round, failed_to_read, failed_to_settle}
use Rattle.harvest_pool.specs.Rounds.{steps_of_round}
use Rattle.harvest_pool.specs.Working.{IsReported}
use Rattle.harvest_pool.specs.declared.report.RoundReport.{RoundReport}

-- What a round did: the sources and datasets that it left, its report unless it stopped before its end, and how many of its
-- fetches failed.
pub record RoundDone : Type 0 where
  pub left : HarvestState
  pub report : Option RoundReport
  pub failed : ℕ

-- the portal's state with these sources and datasets
abbrev pub with_harvest : HarvestState → State → State
with_harvest harvest state = record state { datasets = harvest.datasets; sources = harvest.sources }

-- how many fetches of the round failed
abbrev pub failed_fetches : Round → ℕ
failed_fetches r = count_by failed_to_read r.catalogues.done + count_by failed_to_settle r.objects.done

-- The round is one that the documents and the sources and datasets before it allow: it made the first steps of some round,
-- each with the answer that these sources and datasets give, and what it read is what the documents say, unless a fetch
-- failed. If it has a report, it made all steps, and reports them.
pub record IsRoundOf (held : Holdings) (before : HarvestState) (d : RoundDone) : Type 0 where
  pub made : List Made
  pub round : Round
  pub first : Begins made (steps_of_round round)
  pub answered : AreAnswered made before
  pub leaves : d.left ≡ state_after made before
  pub catalogues : All (IsCatalogueOf held) round.catalogues.done
  pub objects : All (IsReadingOf held) round.objects.done
  pub failures : d.failed ≡ failed_fetches round
  pub reported : IfSome d.report (IsReported made round)

-- ---- what is written

-- the line for a report: `round `, the text of its dictionary, a line feed
abbrev pub report_line : RoundReport → List ℕ
report_line report = codes "round " ++ (json_text (round_dictionary report) ++ 10 ∷ [])

-- the line for a round; a round that stopped before its end has none
abbrev pub round_line : RoundDone → List ℕ
round_line d = option_map_or report_line d.report []

-- The result with a value that is made of the given one. `gives` says what may be made of it.
abbrev pub Converts : {A B E : Type 0} → (A → B → Type 0) → Result A E → Result B E → Type 0
Converts gives (Ok given) (Ok made) = gives given made
Converts gives (Ok given) (Err fault) = ⊥
Converts gives (Err fault) (Ok made) = ⊥
Converts gives (Err fault) (Err same) = same ≡ fault

-- ---- the fetchers

-- The trace of rounds before or after a call: the fetchers, what the first one holds and its count of faults, and the
-- reports so far.
pub record PoolTrace (F : Type 0) : Type 0 where
  pub fetchers : List F
  pub held : Holdings
  pub faults : ℕ
  pub reports : List RoundReport

abbrev pub held_by_first : {F : Type 0} → (F → Holdings) → List F → Holdings
held_by_first held [] = None
held_by_first held (f ∷ fetchers) = held f

abbrev pub faults_of_first : {F : Type 0} → (F → ℕ) → List F → ℕ
faults_of_first faults [] = 0
faults_of_first faults (f ∷ fetchers) = faults f

-- the trace, by what each fetcher holds and by its count of faults
abbrev pub pool_trace : {F : Type 0} → (F → Holdings) → (F → ℕ) → List F → List RoundReport → PoolTrace F
pool_trace held faults fetchers reports = record {
  fetchers = fetchers;
  held = held_by_first held fetchers;
  faults = faults_of_first faults fetchers;
  reports = reports;
}

-- They are as many fetchers as before, each one holds the same documents, and no count of faults fell.
pub record AreSameFetchers {F : Type 0} (held : F → Holdings) (faults : F → ℕ) (old new : List F) : Type 0 where
  pub count : length new ≡ length old
  pub documents : (k : ℕ) (d : F) → k < length old → held (slice_index_or new k d) ≡ held (slice_index_or old k d)
  pub counts : (k : ℕ) (d : F) → k < length old → faults (slice_index_or old k d) ≤ faults (slice_index_or new k d)

-- ---- rounds that were made

-- the reports of those that went to their end
abbrev pub reports_of : List RoundDone → List RoundReport
reports_of rounds = filter_map (λ d. d.report) rounds

-- how many of their fetches failed
abbrev pub failures_of : List RoundDone → ℕ
failures_of rounds = sum_by (λ d. d.failed) rounds

-- What passed the fetchers: rounds, whose failed fetches show in the first one's count of faults, and whose reports were
-- added. It holds the same documents. If no round was made, the fetchers stay as they were.
pub record RoundsPassed {F : Type 0} (old new : PoolTrace F) : Type 0 where
  pub rounds : List RoundDone
  pub documents : new.held ≡ old.held
  pub counts : old.faults ≤ new.faults
  pub failures : RoseBy (failures_of rounds) old.faults new.faults
  pub reported : new.reports ≡ old.reports ++ reports_of rounds
  pub unused : rounds ≡ [] → new.fetchers ≡ old.fetchers

-- A round was made on the portal: it is one that the documents and the state before it allow, it left this state, and its
-- failed fetches show in the count of faults. It has this report, if it went to its end.
pub record MakesRound (held : Holdings) (state after : State) (faults_before faults_after : ℕ) (report : Option RoundReport)
    : Type 0 where
  pub done : RoundDone
  pub allowed : IsRoundOf held (harvest_of state) done
  pub leaves : after ≡ with_harvest done.left state
  pub failures : RoseBy done.failed faults_before faults_after
  pub reported : done.report ≡ report

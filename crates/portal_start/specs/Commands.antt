-- What playing a script, serving links and printing a report did, by how they ended.
use Rattle.std.specs.Prelude.{◌≡◌, ◌⊎◌, ℕ, List, [], Option, Some, Ok, Err, codes, map, Result}
use Rattle.harvest_pool.specs.declared.report.RoundFault.{RoundFault}
use Rattle.harvest_pool.specs.declared.report.RoundReport.{RoundReport}
use Rattle.portal_base.specs.Outside.{Holdings, Takes, TakesPrefix}
use Rattle.portal_base.specs.declared.outside.Failed.{Failed}
use Rattle.portal_state.specs.Known.{known_caller}
use Rattle.portal_state.specs.State.{State}
use Rattle.portal_state.specs.View.{view_of}
use Rattle.portal_reports.specs.Report.{report_text}
use Rattle.portal_status.specs.declared.status.Status.{Status}
use Rattle.portal_status.specs.declared.status.Status.TheVariants.{Done, ReadFault, WriteFault, KeeperFault, OutOfMemory}
use Rattle.portal_status.specs.declared.status.Status.TheVariants.{DataFault, ListenFault}
use Rattle.portal_links.specs.Desk.{DeskTrace}
use Rattle.portal_serve.specs.Desk.{ServesDesk}
use Rattle.portal_serve.specs.Rounds.{PoolTrace, pool_trace}
use Rattle.portal_serve.specs.Run.{DeviceTrace, PlaysAll, PlaysPart, PlaysRead}
use Rattle.portal_links.specs.Written.{LinkTrace}
use Rattle.portal_links.specs.Tokens.{Digests}
use Rattle.portal_serve.specs.declared.play.PlayEnd.{PlayEnd}
use Rattle.portal_serve.specs.declared.play.PlayEnd.TheVariants as play_end
use Rattle.portal_start.specs.Fetchers.{UsesFirst}
use Rattle.portal_words.specs.declared.command.ReportOptions.{ReportOptions}

-- the status for the end of playing
abbrev pub status_for : PlayEnd → Status
status_for play_end.Done = Done
status_for play_end.ReadFault = ReadFault
status_for play_end.WriteFault = WriteFault
status_for play_end.KeeperFault = KeeperFault
status_for play_end.TooLong = DataFault (codes "input too long")
status_for play_end.OutOfMemory = OutOfMemory

-- the status for the end of playing, if memory ran out for the list of its rounds
abbrev pub status_unlisted : PlayEnd → Status
status_unlisted play_end.Done = OutOfMemory
status_unlisted play_end.ReadFault = ReadFault
status_unlisted play_end.WriteFault = WriteFault
status_unlisted play_end.KeeperFault = KeeperFault
status_unlisted play_end.TooLong = DataFault (codes "input too long")
status_unlisted play_end.OutOfMemory = OutOfMemory

-- the status for a desk that was served
abbrev pub status_for_desk : Result Unit Failed → Status
status_for_desk (Ok served) = Done
status_for_desk (Err failed) = ListenFault

-- ---- play

-- what the rounds of a run answered, in order
abbrev pub RoundAnswers : Type 0
RoundAnswers = List (Result RoundReport RoundFault)

-- The trace of the fetchers, with these reports of rounds.
abbrev pub with_reports : {F : Type 0} → List RoundReport → PoolTrace F → PoolTrace F
with_reports reports pool = record pool { reports = reports }

-- The script on input was played to its end, where input is observable.
abbrev pub PlaysToEnd : {F : Type 0} → State → State → DeviceTrace → DeviceTrace → PoolTrace F → PoolTrace F → Type 0
PlaysToEnd state after old new pool pool_after =
    (whole : List ℕ) → old.to_come ≡ Some whole → PlaysAll state whole after old new pool pool_after

-- The script on input was played in part, where input is observable: all that passed the devices belongs to one
-- position in it, before which at most `most` lines were begun and not worked.
abbrev pub PlaysToPosition : {F : Type 0} → ℕ → State → State → DeviceTrace → DeviceTrace → PoolTrace F → PoolTrace F
    → Type 0
PlaysToPosition most state after old new pool pool_after =
    (whole : List ℕ) → old.to_come ≡ Some whole → PlaysPart most state whole after old new pool pool_after

-- The script on input was played up to the fault of input, where input is observable: each line that was read whole was
-- worked.
abbrev pub PlaysToFault : {F : Type 0} → State → State → DeviceTrace → DeviceTrace → PoolTrace F → PoolTrace F → Type 0
PlaysToFault state after old new pool pool_after =
    (whole : List ℕ) → old.to_come ≡ Some whole → PlaysRead state whole after old new pool pool_after

-- What a run of `play` did from a state, which it left as `after`, by its end. Input fails, or exceeds its limit,
-- between two lines.
abbrev pub Plays : {F : Type 0} → State → State → DeviceTrace → DeviceTrace → PoolTrace F → PoolTrace F → PlayEnd → Type 0
Plays state after old new pool pool_after play_end.Done = PlaysToEnd state after old new pool pool_after
Plays state after old new pool pool_after play_end.ReadFault = PlaysToFault state after old new pool pool_after
Plays state after old new pool pool_after play_end.WriteFault = PlaysToPosition 1 state after old new pool pool_after
Plays state after old new pool pool_after play_end.KeeperFault = PlaysToPosition 1 state after old new pool pool_after
Plays state after old new pool pool_after play_end.TooLong = PlaysToPosition 0 state after old new pool pool_after
Plays state after old new pool pool_after play_end.OutOfMemory = PlaysToPosition 1 state after old new pool pool_after

-- The answers of the rounds are their reports, and the status is that of the end. Or memory ran out for the list of the
-- answers, and the status isn't 0.
abbrev pub ListsReports : PlayEnd → List RoundReport → RoundAnswers → Status → Type 0
ListsReports end reports rounds status =
    ((status ≡ status_for end) × (rounds ≡ map Ok reports)) ⊎ ((status ≡ status_unlisted end) × (rounds ≡ []))

-- The status is that of an end, the script was played to this end, and these are the answers of its rounds.
abbrev pub PlaysWith : {F : Type 0} → State → State → DeviceTrace → DeviceTrace → PoolTrace F → PoolTrace F → RoundAnswers
    → Status → Type 0
PlaysWith state after old new pool pool_after rounds status =
    (end : PlayEnd) × (reports : List RoundReport) × ListsReports end reports rounds status
    × Plays state after old new pool (with_reports reports pool_after) end

-- The same with the fetchers as the fetch of the portal file left them.
abbrev pub PlaysFrom : {F : Type 0} → (F → Holdings) → (F → ℕ) → Option (List ℕ) → State → State → DeviceTrace
    → DeviceTrace → List F → List F → RoundAnswers → Status → Type 0
PlaysFrom {F} held faults portal state after old new fetchers fetchers_after rounds status =
    (begun : List F) × UsesFirst held faults portal fetchers begun
    × PlaysWith state after old new (pool_trace held faults begun []) (pool_trace held faults fetchers_after []) rounds
    status

-- ---- serve

-- The status is that of a desk, whose links were served from a state, which they left as `after`. `trace` gives the
-- trace of a link.
abbrev pub ServesWith : {Peer : Type 0} → (Peer → LinkTrace) → Digests → State → State → ℕ → DeskTrace Peer
    → DeskTrace Peer → Status → Type 0
ServesWith trace digests state after links old new status =
    (served : Result Unit Failed) × (status ≡ status_for_desk served)
    × ServesDesk trace digests state links old new after served

-- ---- report

-- the report that the options ask for, on what its caller sees of the state; a caller whom no user has is nobody
abbrev pub report_for : ReportOptions → State → List ℕ
report_for options state =
    report_text options.kind (view_of (known_caller state.people options.caller) state)

-- How the writing of a text ended, by the status. All of it was written; or some bytes from its start, and output
-- failed; or none, as memory ran out before.
abbrev pub WritesWith : List ℕ → Option (List ℕ) → Option (List ℕ) → Status → Type 0
WritesWith text old new status =
    ((status ≡ Done) × Takes old text new)
    ⊎ (((status ≡ WriteFault) × TakesPrefix old text new) ⊎ ((status ≡ OutOfMemory) × (new ≡ old)))

-- The report on a state was written to output, by the status, and the state stays.
abbrev pub ReportsWith : ReportOptions → State → State → Option (List ℕ) → Option (List ℕ) → Status → Type 0
ReportsWith options state after old new status =
    (after ≡ state) × WritesWith (report_for options state) old new status

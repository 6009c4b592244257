-- What a round made on a machine, whether it went to its end or stopped before.
use Rattle.std.specs.Prelude.{◌≡◌, ◌⊎◌, ◌+◌, ◌++◌, ℕ, Bool, false, if◌then◌else◌, List, map, count_by, Result, IfOk}
use Rattle.std.specs.Prelude.{IfSome, IsTrue}
use Rattle.std.specs.List.{All}
use Rattle.std.specs.List.Sorted.{IsPermutation, IsSorted}
use Rattle.portal_base.specs.Outside.{Holdings}
use Rattle.portal_events.specs.declared.event.Event.{Event}
use Rattle.portal_events.specs.declared.event.Reply.{Reply}
use Rattle.portal_hall.specs.History.{Begins, Step}
use Rattle.harvest_readings.specs.Harvests.{reading_at}
use Rattle.harvest_sources.specs.declared.job.SourceReport.{SourceReport}
use Rattle.harvest_sources.specs.declared.reading.Reading.{Reading}
use Rattle.harvest_sources.specs.declared.step.Found.{Found}
use Rattle.harvest_sources.specs.declared.step.Step.{Step as HarvestStep}
use Rattle.harvest_sources.specs.declared.step.StepReply.{StepReply}
use Rattle.harvest_pool.specs.Made.{AreMade, IsMade, Made}
use Rattle.harvest_pool.specs.Rounds.{IsAsClaimed, IsCatalogueOf, IsReadingOf, IsWhole, JobEnded, RoseBy}
use Rattle.harvest_pool.specs.Rounds.{Round, Work, failed_to_read, failed_to_settle, has_failed_at, report_cmp}
use Rattle.harvest_pool.specs.Rounds.{reports_of_ends, reports_of_round, steps_of_ends, steps_of_round, steps_of_work}
use Rattle.harvest_pool.specs.declared.report.RoundFault.{RoundFault}
use Rattle.harvest_pool.specs.declared.report.RoundReport.{RoundReport}

-- What is read of an object of this IRI: what the catalogue's document says, if the object was found there, and otherwise what
-- the document at its IRI does, unless that fetch failed and shows in the count of faults.
pub record IsSettledWith (held : Holdings) (faults_before faults_after : ℕ) (iri : List ℕ) (found : Found)
    (reading : Reading) : Type 0 where
  pub claimed : IsAsClaimed found reading
  pub fetched : IfSome held (λ documents. (failed : Bool) × (reading ≡ reading_at documents (λ i. failed) iri found))
  pub failed : RoseBy (if has_failed_at found reading then 1 else 0) faults_before faults_after

-- The report of a whole round has the reports of its jobs, in the order of their sources.
pub record IsReported (made : List Made) (r : Round) (report : RoundReport) : Type 0 where
  pub steps : made ≡ steps_of_round r
  pub whole : IsWhole r
  pub reports : IsPermutation (reports_of_round r) report.sources
  pub order : IsSorted report_cmp report.sources

module _ {C : Type 0} (step : C → Event → Step C Reply) where
  -- The work on one thing: what was read of it fits, each failed fetch shows in the count of faults, and the step that
  -- follows was made. If the work stopped, the step may not have been made.
  pub record DoesOne {X : Type 0} (follow : X → Made) (Fits : X → Type 0) (has_failed : X → Bool) (x : X)
      (before after : C) (faults_before faults_after : ℕ) (is_done : Bool) : Type 0 where
    pub follows : IsMade step before (follow x).step (follow x).answer after ⊎ ((after ≡ before) × (is_done ≡ false))
    pub fits : Fits x
    pub failed : RoseBy (if has_failed x then 1 else 0) faults_before faults_after

  -- The work on one thing after the other: the steps that were made are the first of those of the work, and all of them if it
  -- is done. Then its last step found nothing more to do.
  pub record DoesAll {X : Type 0} (steps : X → List Made) (opening : HarvestStep) (goes_on : StepReply → Bool)
      (Fits : X → Type 0) (has_failed : X → Bool) (before after : C) (faults_before faults_after : ℕ) (is_done : Bool)
      : Type 0 where
    pub made : List Made
    pub work : Work X
    pub are_made : AreMade step before made after
    pub first : Begins made (steps_of_work steps opening work)
    pub fits : All Fits work.done
    pub failed : RoseBy (count_by has_failed work.done) faults_before faults_after
    pub all : IsTrue is_done → (made ≡ steps_of_work steps opening work) × (goes_on work.last ≡ false)

  -- The steps that end jobs are the first of those for these jobs, and all of them if that is done. Then their reports were
  -- added.
  pub record EndsJobs (jobs : List (List ℕ)) (before after : C) (reports_before reports_after : List SourceReport)
      (is_done : Bool) : Type 0 where
    pub made : List Made
    pub ends : List JobEnded
    pub are_made : AreMade step before made after
    pub first : Begins made (steps_of_ends ends)
    pub all : IsTrue is_done
        → (made ≡ steps_of_ends ends) × (map (λ e. e.job) ends ≡ jobs)
        × (reports_after ≡ reports_before ++ reports_of_ends ends)

  -- A round made these steps, which are the first of those of some round. What it read is what the documents say, unless a
  -- fetch failed, and each failed fetch shows in the count of the fetcher's faults. If the round didn't stop before its end,
  -- these are all steps, and they are reported.
  pub record IsRound (held : Holdings) (before after : C) (faults_before faults_after : ℕ)
      (result : Result RoundReport RoundFault) : Type 0 where
    pub made : List Made
    pub round : Round
    pub are_made : AreMade step before made after
    pub first : Begins made (steps_of_round round)
    pub catalogues : All (IsCatalogueOf held) round.catalogues.done
    pub objects : All (IsReadingOf held) round.objects.done
    pub failed : RoseBy (count_by failed_to_read round.catalogues.done + count_by failed_to_settle round.objects.done)
        faults_before faults_after
    pub reported : IfOk result (IsReported made round)

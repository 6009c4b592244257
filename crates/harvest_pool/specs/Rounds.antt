-- A round of harvests by one worker: its steps, what it reads, and what it reports.
use Rattle.std.specs.Prelude.{◌≡◌, ◌⊎◌, ◌≤◌, ◌+◌, ◌-◌, ◌^◌, ℕ, Bool, true, false, ⊤, IfSome, List, [], ◌∷◌, ◌++◌, map}
use Rattle.std.specs.Prelude.{Option, Some, None, Result, Ok, Err}
use Rattle.std.specs.declared.cmp.Ordering.{Ordering}
use Rattle.std.specs.Ordering.{nat_cmp}
use Rattle.std.specs.Cmp.Lexicographic.{slice_cmp}
use Rattle.std.specs.List.{filter_map, flat_map}
use Rattle.portal_base.specs.Outside.{Holdings}
use Rattle.harvest_readings.specs.Harvests.{catalogue_at, has_failed_catalogue, has_failed_object, reading_at}
use Rattle.harvest_readings.specs.declared.catalogue.Catalogue.{Catalogue}
use Rattle.harvest_sources.specs.declared.cause.Cause.{Cause}
use Rattle.harvest_sources.specs.declared.job.SourceReport.{SourceReport}
use Rattle.harvest_sources.specs.declared.reading.Reading.{Reading}
use Rattle.harvest_sources.specs.declared.step.Found.{Found}
use Rattle.harvest_sources.specs.declared.step.Found.TheVariants.{Here, Elsewhere}
use Rattle.harvest_sources.specs.declared.step.Item.{Item}
use Rattle.harvest_sources.specs.declared.step.Step.{Step}
use Rattle.harvest_sources.specs.declared.step.Step.TheVariants.{NewRound, Begin, List as list, Break, Claim, Settle, End}
use Rattle.harvest_sources.specs.declared.step.StepReply.{StepReply}
use Rattle.harvest_sources.specs.declared.step.StepReply.TheVariants.{Started, Gather, Object, Nothing, Done, Ended, Already}
use Rattle.harvest_pool.specs.Made.{Made}

-- ---- answers to steps

-- the ids of the jobs of a round that begins
abbrev pub jobs_started : StepReply → List (List ℕ)
jobs_started (Started jobs) = jobs
jobs_started (Gather job url) = []
jobs_started (Object job item) = []
jobs_started Nothing = []
jobs_started Done = []
jobs_started (Ended report) = []
jobs_started Already = []

-- a job began
abbrev pub is_gather : StepReply → Bool
is_gather (Started jobs) = false
is_gather (Gather job url) = true
is_gather (Object job item) = false
is_gather Nothing = false
is_gather Done = false
is_gather (Ended report) = false
is_gather Already = false

-- an object was claimed
abbrev pub is_object : StepReply → Bool
is_object (Started jobs) = false
is_object (Gather job url) = false
is_object (Object job item) = true
is_object Nothing = false
is_object Done = false
is_object (Ended report) = false
is_object Already = false

-- the report of a job that ended
abbrev pub report_of : StepReply → Option SourceReport
report_of (Started jobs) = None
report_of (Gather job url) = None
report_of (Object job item) = None
report_of Nothing = None
report_of Done = None
report_of (Ended report) = Some report
report_of Already = None

-- ---- the work of a round

-- A job that began, the location of its source's catalogue, what was read there, and the answer to the step that this leads
-- to.
pub record CatalogueRead : Type 0 where
  pub job : List ℕ
  pub url : List ℕ
  pub read : Result Catalogue Cause
  pub answer : StepReply

-- An object that was claimed, with its job, what was read of it, and the answer to the step that settles it.
pub record ObjectSettled : Type 0 where
  pub job : List ℕ
  pub item : Item
  pub reading : Reading
  pub answer : StepReply

-- a job that was to end, and the answer to that
pub record JobEnded : Type 0 where
  pub job : List ℕ
  pub answer : StepReply

-- The catalogue of a job is listed. A job whose catalogue can't be read breaks.
abbrev pub step_of_catalogue : List ℕ → Result Catalogue Cause → Step
step_of_catalogue job (Ok catalogue) = list job catalogue.items catalogue.unnamed
step_of_catalogue job (Err cause) = Break job cause

-- the steps for a catalogue: its job begins, and what was read is listed
abbrev pub catalogue_listed : CatalogueRead → Made
catalogue_listed c = record { step = step_of_catalogue c.job c.read; answer = c.answer }

abbrev pub steps_of_catalogue : CatalogueRead → List Made
steps_of_catalogue c = record { step = Begin; answer = Gather c.job c.url } ∷ catalogue_listed c ∷ []

-- the steps for an object: it is claimed and settled
abbrev pub object_settled : ObjectSettled → Made
object_settled o = record { step = Settle o.job o.item.iri o.reading; answer = o.answer }

abbrev pub steps_of_object : ObjectSettled → List Made
steps_of_object o = record { step = Claim; answer = Object o.job o.item } ∷ object_settled o ∷ []

abbrev pub job_ended : JobEnded → Made
job_ended e = record { step = End e.job; answer = e.answer }

-- what was done one after the other, and the answer to the step after it, which found nothing more to do
pub record Work (X : Type 0) : Type 0 where
  pub done : List X
  pub last : StepReply

abbrev pub steps_of_work : {X : Type 0} → (X → List Made) → Step → Work X → List Made
steps_of_work steps opening work = flat_map steps work.done ++ record { step = opening; answer = work.last } ∷ []

-- A round: the answer to its first step, the catalogues that it reads, the objects that it settles, and the jobs that it
-- ends.
pub record Round : Type 0 where
  pub start : StepReply
  pub catalogues : Work CatalogueRead
  pub objects : Work ObjectSettled
  pub ends : List JobEnded

abbrev pub steps_of_catalogues : Work CatalogueRead → List Made
steps_of_catalogues work = steps_of_work steps_of_catalogue Begin work

abbrev pub steps_of_objects : Work ObjectSettled → List Made
steps_of_objects work = steps_of_work steps_of_object Claim work

abbrev pub steps_of_ends : List JobEnded → List Made
steps_of_ends ends = map job_ended ends

-- The steps of a round. The round begins. Jobs begin, and the catalogue of each is read. Objects are claimed, and each is
-- settled. The jobs of the round end.
abbrev pub steps_of_round : Round → List Made
steps_of_round r =
    record { step = NewRound; answer = r.start }
    ∷ (steps_of_catalogues r.catalogues ++ (steps_of_objects r.objects ++ steps_of_ends r.ends))

-- The round went to its end. No job was new when it came to the objects, and none waited when it came to the ends. The jobs
-- that were to end are those that it began with.
pub record IsWhole (r : Round) : Type 0 where
  pub begun : is_gather r.catalogues.last ≡ false
  pub claimed : is_object r.objects.last ≡ false
  pub ended : map (λ e. e.job) r.ends ≡ jobs_started r.start

-- ---- what is read

-- What was read of a catalogue is what the document at its location lists, unless its fetch failed.
abbrev pub IsCatalogueOf : Holdings → CatalogueRead → Type 0
IsCatalogueOf held c =
    IfSome held (λ documents. (failed : Bool) × (c.read ≡ catalogue_at documents failed c.url))

-- An object that the catalogue's document describes is settled with the reading of its item.
abbrev pub IsAsClaimed : Found → Reading → Type 0
IsAsClaimed (Here reading) settled = settled ≡ reading
IsAsClaimed Elsewhere settled = ⊤

-- Any other object is settled with what the document at its IRI says of it, unless its fetch failed.
pub record IsReadingOf (held : Holdings) (o : ObjectSettled) : Type 0 where
  pub claimed : IsAsClaimed o.item.found o.reading
  pub fetched : IfSome held (λ documents. (failed : Bool)
      × (o.reading ≡ reading_at documents (λ iri. failed) o.item.iri o.item.found))

-- ---- failed fetches

-- the fetch of the catalogue's document failed
abbrev pub failed_to_read : CatalogueRead → Bool
failed_to_read c = has_failed_catalogue c.read

-- the fetch of the object's own document failed
abbrev pub has_failed_at : Found → Reading → Bool
has_failed_at (Here reading) settled = false
has_failed_at Elsewhere settled = has_failed_object settled

abbrev pub failed_to_settle : ObjectSettled → Bool
failed_to_settle o = has_failed_at o.item.found o.reading

-- The count of faults rose by at least n, or is at the maximum of a u64.
abbrev pub RoseBy : ℕ → ℕ → ℕ → Type 0
RoseBy n old new = (old + n ≤ new) ⊎ (2 ^ 64 - 1 ≤ new)

-- ---- reports

abbrev pub reports_of_catalogues : List CatalogueRead → List SourceReport
reports_of_catalogues catalogues = filter_map (λ c. report_of c.answer) catalogues

abbrev pub reports_of_ends : List JobEnded → List SourceReport
reports_of_ends ends = filter_map (λ e. report_of e.answer) ends

-- the reports of the jobs that broke and of those that ended
abbrev pub reports_of_round : Round → List SourceReport
reports_of_round r = reports_of_catalogues r.catalogues.done ++ reports_of_ends r.ends

-- by the name of the source
abbrev pub report_cmp : SourceReport → SourceReport → Ordering
report_cmp r s = slice_cmp nat_cmp r.source s.source

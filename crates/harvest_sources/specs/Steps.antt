-- The steps of a harvest, on sources and jobs. A step's answer comes with the entries that it puts.
use Rattle.std.specs.Prelude.{ℕ, Bool, true, false, ◌&&◌, if◌then◌else◌, List, [], ◌∷◌, not, Option, Some, None, find}
use Rattle.std.specs.Prelude.{is_some, option_and_then, option_map}
use Rattle.std.specs.List.{filter_map, flat_map, list_all}
use Rattle.std.specs.Option.{option_map_or}
use Rattle.std.specs.Str.{bytes_eq}
use Rattle.portal_base.specs.Ordered.{found}
use Rattle.harvest_sources.specs.Entries.{SourceEntry, PutJob, PutListing, with_job, with_listing}
use Rattle.harvest_sources.specs.Jobs.{blank_report, id_of_job, in_state, is_new, is_running, with_report}
use Rattle.harvest_sources.specs.Listings.{finished_report, first_waiting, has_object, is_done, listing_of, object_at}
use Rattle.harvest_sources.specs.Listings.{with_all_released, with_progress}
use Rattle.harvest_sources.specs.Sources.{SourceState, is_listed, open_job}
use Rattle.harvest_sources.specs.declared.cause.Cause.{Cause}
use Rattle.harvest_sources.specs.declared.job.Job.{Job}
use Rattle.harvest_sources.specs.declared.job.JobState.TheVariants.{New, Running, Broken}
use Rattle.harvest_sources.specs.declared.listing.Listing.{Listing}
use Rattle.harvest_sources.specs.declared.listing.Outcome.{Outcome}
use Rattle.harvest_sources.specs.declared.listing.Outcome.TheVariants as outcome
use Rattle.harvest_sources.specs.declared.listing.Progress.TheVariants.{Claimed, Done as is_done_as}
use Rattle.harvest_sources.specs.declared.reading.Reading.{Reading}
use Rattle.harvest_sources.specs.declared.reading.Reading.TheVariants.{Good, Bad}
use Rattle.harvest_sources.specs.declared.step.Effect.{Effect}
use Rattle.harvest_sources.specs.declared.step.Effect.TheVariants.{Plain, Added, Updated, Unchanged, Deleted}
use Rattle.harvest_sources.specs.declared.step.Item.{Item}
use Rattle.harvest_sources.specs.declared.step.Step.{Step}
use Rattle.harvest_sources.specs.declared.step.Step.TheVariants.{NewRound, Begin, List as list, Break, Claim, Settle, End}
use Rattle.harvest_sources.specs.declared.step.StepReply.{StepReply}
use Rattle.harvest_sources.specs.declared.step.StepReply.TheVariants.{Started, Gather, Object, Nothing, Done, Ended, Already}

-- the entries that a step puts, and its answer
pub record Stepped : Type 0 where
  pub entries : List SourceEntry
  pub reply : StepReply

-- a step that changes nothing
abbrev pub idle : StepReply → Stepped
idle reply = record { entries = []; reply = reply }

-- ---- the job of a step

-- the source whose open job has that id
abbrev pub with_open_job : List SourceState → List ℕ → Option SourceState
with_open_job sources id = find (λ s. option_map_or (λ job. bytes_eq (id_of_job job) id) (open_job s) false) sources

-- ---- a new round

-- what a new round changes of a source with this open job: it waits for its turn again, or its claimed objects wait again
abbrev pub renewal : SourceState → Option Listing → Option Job → List SourceEntry
renewal s listing None = []
renewal s (Some listing) (Some job) = PutListing s.source.name (Some (with_all_released listing)) ∷ []
renewal s None (Some job) = if is_running job then PutJob (in_state New job) ∷ [] else []

abbrev pub renewals : SourceState → List SourceEntry
renewals s = renewal s s.listing (open_job s)

-- the source after its renewals
abbrev pub renewed_with : SourceState → Option Listing → Option Job → SourceState
renewed_with s listing None = s
renewed_with s (Some listing) (Some job) = with_listing (Some (with_all_released listing)) s
renewed_with s None (Some job) = if is_running job then with_job (in_state New job) s else s

abbrev pub renewed : SourceState → SourceState
renewed s = renewed_with s s.listing (open_job s)

-- the ids of the open jobs, by their sources' names
abbrev pub open_ids : List SourceState → List (List ℕ)
open_ids sources = filter_map (λ s. option_map id_of_job (open_job s)) sources

-- ---- a job that begins, and one whose catalogue is listed or can't be read

-- the source has a new job
abbrev pub has_new : SourceState → Bool
has_new s = option_map_or is_new (open_job s) false

-- the source has a running job
abbrev pub has_running : SourceState → Bool
has_running s = option_map_or is_running (open_job s) false

abbrev pub begun : SourceState → Job → Stepped
begun s job = record { entries = PutJob (in_state Running job) ∷ []; reply = Gather (id_of_job job) s.source.url }

-- the outcome for the job, if its source was found and has it open
abbrev pub on_job : StepReply → (SourceState → Job → Stepped) → Option SourceState → Stepped
on_job otherwise step None = idle otherwise
on_job otherwise step (Some s) = option_map_or (step s) (open_job s) (idle otherwise)

abbrev pub listed : List Item → ℕ → SourceState → Job → Stepped
listed items unnamed s job =
    if is_running job && not (is_listed s)
    then record { entries = PutListing s.source.name (Some (listing_of s.source.name items unnamed)) ∷ []; reply = Done }
    else idle Already

abbrev pub broken : Cause → SourceState → Job → Stepped
broken cause s job =
    if is_running job && not (is_listed s)
    then record {
      entries = PutJob (in_state (Broken cause) job) ∷ [];
      reply = Ended (blank_report job.source (Broken cause));
    }
    else idle Already

-- ---- objects

-- the first waiting object of the source's listing
abbrev pub waiting_of : SourceState → Option Item
waiting_of s = option_and_then first_waiting s.listing

-- the source with its listing, after its object is claimed
abbrev pub claimed_in : SourceState → Job → Listing → Item → Stepped
claimed_in s job listing item = record {
  entries = PutListing s.source.name (Some (with_progress item.iri (Claimed item.found) listing)) ∷ [];
  reply = Object (id_of_job job) item;
}

abbrev pub claimed_from : SourceState → Job → Option Listing → Stepped
claimed_from s job None = idle Nothing
claimed_from s job (Some listing) = option_map_or (claimed_in s job listing) (first_waiting listing) (idle Nothing)

abbrev pub claimed : SourceState → Job → Stepped
claimed s job = claimed_from s job s.listing

-- what an object comes to: its cause where it is bad, and otherwise the effect on its dataset
abbrev pub outcome_of : Reading → Effect → Outcome
outcome_of (Bad cause) effect = outcome.Bad cause
outcome_of (Good r) Plain = outcome.Unchanged
outcome_of (Good r) Added = outcome.Added
outcome_of (Good r) Updated = outcome.Updated
outcome_of (Good r) Unchanged = outcome.Unchanged
outcome_of (Good r) (Deleted count) = outcome.Unchanged

-- the listing has an object of the IRI that isn't done
abbrev pub is_unsettled : List ℕ → Listing → Bool
is_unsettled iri listing = option_map_or (λ object. not (is_done object)) (found (object_at iri) listing.objects) false

-- the source's listing has an object of the IRI that isn't done
abbrev pub has_unsettled : List ℕ → SourceState → Bool
has_unsettled iri s = option_map_or (is_unsettled iri) s.listing false

-- the source's catalogue is listed and has an object of the IRI
abbrev pub lists : List ℕ → SourceState → Bool
lists iri s = option_map_or (has_object iri) s.listing false

abbrev pub settled_in : List ℕ → Outcome → SourceState → Option Listing → Stepped
settled_in iri o s None = idle Already
settled_in iri o s (Some listing) =
    if is_unsettled iri listing
    then record {
      entries = PutListing s.source.name (Some (with_progress iri (is_done_as o) listing)) ∷ [];
      reply = Done;
    }
    else idle Already

abbrev pub settled : List ℕ → Outcome → SourceState → Job → Stepped
settled iri o s job = settled_in iri o s s.listing

-- ---- the end of a job

abbrev pub count_deleted : Effect → ℕ
count_deleted Plain = 0
count_deleted Added = 0
count_deleted Updated = 0
count_deleted Unchanged = 0
count_deleted (Deleted count) = count

-- the source's catalogue is listed, and all its objects are done
abbrev pub is_settled : SourceState → Bool
is_settled s = option_map_or (λ listing. list_all is_done listing.objects) s.listing false

abbrev pub ended_with : ℕ → SourceState → Job → Option Listing → Stepped
ended_with deleted s job None = idle Already
ended_with deleted s job (Some listing) =
    if list_all is_done listing.objects
    then record {
      entries =
          PutListing s.source.name None ∷ PutJob (with_report (finished_report job.source listing deleted) job) ∷ [];
      reply = Ended (finished_report job.source listing deleted);
    }
    else idle Already

abbrev pub ended : ℕ → SourceState → Job → Stepped
ended deleted s job = ended_with deleted s job s.listing

-- ---- every step

-- The step on these sources, with its effect on the source's datasets.
abbrev pub stepped : Step → Effect → List SourceState → Stepped
stepped NewRound effect sources = record { entries = flat_map renewals sources; reply = Started (open_ids sources) }
stepped Begin effect sources = on_job Nothing begun (find has_new sources)
stepped (list job items unnamed) effect sources = on_job Already (listed items unnamed) (with_open_job sources job)
stepped (Break job cause) effect sources = on_job Already (broken cause) (with_open_job sources job)
stepped Claim effect sources = on_job Nothing claimed (find (λ s. is_some (waiting_of s)) sources)
stepped (Settle job iri reading) effect sources =
    on_job Already (settled iri (outcome_of reading effect)) (with_open_job sources job)
stepped (End job) effect sources = on_job Already (ended (count_deleted effect)) (with_open_job sources job)

-- ---- acceptance

-- A step is accepted, unless there was nothing to do or it was done already.
abbrev pub is_accepted : StepReply → Bool
is_accepted (Started jobs) = true
is_accepted (Gather job url) = true
is_accepted (Object job item) = true
is_accepted Nothing = false
is_accepted Done = true
is_accepted (Ended report) = true
is_accepted Already = false

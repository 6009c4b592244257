-- Steps that are prepared: what they put, and when they can be made.
use Rattle.std.specs.Prelude.{◌≡◌, ◌<◌, ℕ, IfSome, IsTrue, List, [], ◌∷◌, Option, Some, None, is_some, length, slice_get}
use Rattle.std.specs.Prelude.{◌&&◌, if◌then◌else◌, not, option_and_then}
use Rattle.std.specs.List.{flat_map}
use Rattle.portal_base.specs.Ordered.{IsAscending}
use Rattle.harvest_sources.specs.Entries.{DropJob, DropSource, PutJob, PutListing, PutSource, SourceEntry}
use Rattle.harvest_sources.specs.Entries.{with_job, with_listing, without_job}
use Rattle.harvest_sources.specs.Jobs.{in_state, is_running, with_report}
use Rattle.harvest_sources.specs.Listings.{finished_report, first_waiting, object_cmp, with_progress}
use Rattle.harvest_sources.specs.Sources.{AreSources, SourceState, is_listed, open_job}
use Rattle.harvest_sources.specs.Steps.{Stepped, has_new, has_running, has_unsettled, is_settled, renewals, waiting_of}
use Rattle.harvest_sources.specs.declared.job.Job.{Job}
use Rattle.harvest_sources.specs.declared.job.JobState.{JobState}
use Rattle.harvest_sources.specs.declared.job.JobState.TheVariants.{Broken, Running}
use Rattle.harvest_sources.specs.declared.job.SourceReport.{SourceReport}
use Rattle.harvest_sources.specs.declared.listing.Listing.{Listing}
use Rattle.harvest_sources.specs.declared.listing.Outcome.{Outcome}
use Rattle.harvest_sources.specs.declared.listing.Progress.TheVariants.{Claimed, Done}
use Rattle.harvest_sources.specs.declared.step.Item.{Item}
use Rattle.harvest_sources.specs.declared.step.StepReply.{StepReply}
use Rattle.harvest_stages.specs.Stages.{StagesWithRoom, sources_in}
use Rattle.harvest_stages.specs.declared.prepared.SourceStep.{SourceStep}
use Rattle.harvest_stages.specs.declared.prepared.SourceStep.TheVariants.{Begin, Break, List as list, Claim, Settle, End}
use Rattle.harvest_stages.specs.declared.prepared.StepChange.{StepChange}
use Rattle.harvest_stages.specs.declared.prepared.StepChange.TheVariants.{Nothing, Renew, At}

-- what a prepared step changes, and its answer
pub record StepToMake : Type 0 where
  pub change : StepChange
  pub reply : StepReply

-- ---- what it puts

-- the open job of the source, in this state
abbrev pub state_entries : JobState → Option Job → List SourceEntry
state_entries state None = []
state_entries state (Some job) = PutJob (in_state state job) ∷ []

-- the open job of the source, with its report
abbrev pub report_entries : SourceReport → Option Job → List SourceEntry
report_entries report None = []
report_entries report (Some job) = PutJob (with_report report job) ∷ []

-- the listing with this waiting object claimed
abbrev pub item_entries : List ℕ → Listing → Option Item → List SourceEntry
item_entries source listing None = []
item_entries source listing (Some item) =
    PutListing source (Some (with_progress item.iri (Claimed item.found) listing)) ∷ []

-- the listing with its first waiting object claimed
abbrev pub claim_entries : List ℕ → Option Listing → List SourceEntry
claim_entries source None = []
claim_entries source (Some listing) = item_entries source listing (first_waiting listing)

-- the listing with the object of this IRI done
abbrev pub settle_entries : List ℕ → List ℕ → Outcome → Option Listing → List SourceEntry
settle_entries source iri o None = []
settle_entries source iri o (Some listing) =
    PutListing source (Some (with_progress iri (Done o) listing)) ∷ []

-- the entries of the step on the source
abbrev pub entries_at : SourceStep → SourceState → List SourceEntry
entries_at Begin s = state_entries Running (open_job s)
entries_at (Break cause) s = state_entries (Broken cause) (open_job s)
entries_at (list listing) s = PutListing s.source.name (Some listing) ∷ []
entries_at Claim s = claim_entries s.source.name s.listing
entries_at (Settle iri o) s = settle_entries s.source.name iri o s.listing
entries_at (End report) s = PutListing s.source.name None ∷ report_entries report (open_job s)

-- those of the step on the source that is there
abbrev pub entries_there : SourceStep → Option SourceState → List SourceEntry
entries_there step None = []
entries_there step (Some s) = entries_at step s

-- the entries of the change
abbrev pub entries_of_step : StepChange → List SourceState → List SourceEntry
entries_of_step Nothing sources = []
entries_of_step Renew sources = flat_map renewals sources
entries_of_step (At place step) sources = entries_there step (slice_get sources place)

-- the entries that the prepared step puts, and its answer
abbrev pub stepped_in : StepToMake → List SourceState → Stepped
stepped_in prepared sources = record { entries = entries_of_step prepared.change sources; reply = prepared.reply }

-- ---- when it can be made

-- the report is that on the source's job at its end
abbrev pub IsLastReport : SourceReport → SourceState → Type 0
IsLastReport report s =
    IfSome s.listing (λ listing. (deleted : ℕ) × (report ≡ finished_report s.source.name listing deleted))

-- The source is as the step needs it.
abbrev pub CanStep : SourceStep → SourceState → Type 0
CanStep Begin s = IsTrue (has_new s)
CanStep (Break cause) s = IsTrue (has_running s) × (s.listing ≡ None)
CanStep (list listing) s = IsTrue (has_running s) × (s.listing ≡ None) × IsAscending object_cmp listing.objects
CanStep Claim s = IsTrue (is_some (waiting_of s))
CanStep (Settle iri o) s = IsTrue (has_unsettled iri s)
CanStep (End report) s = IsTrue (is_settled s) × IsLastReport report s

-- The sources are as the change needs them.
abbrev pub CanMake : StepChange → List SourceState → Type 0
CanMake Nothing sources = Unit {0}
CanMake Renew sources = Unit {0}
CanMake (At place step) sources = (place < length sources) × IfSome (slice_get sources place) (CanStep step)

abbrev pub CanChange : StepChange → StagesWithRoom → Type 0
CanChange change on = CanMake change (sources_in on)

-- The step has this outcome on the sources, and can be made there.
pub record IsPrepared (sources : List SourceState) (outcome : Stepped) (prepared : StepToMake) : Type 0 where
  pub step : stepped_in prepared sources ≡ outcome
  pub ready : CanMake prepared.change sources

-- The step has this outcome on all sources of which this one is at the place.
abbrev pub IsPreparedAt : ℕ → SourceState → Stepped → StepToMake → Type 0
IsPreparedAt place s outcome prepared =
    (sources : List SourceState) → AreSources sources → slice_get sources place ≡ Some s
    → IsPrepared sources outcome prepared

-- the running job of the source, if its catalogue isn't listed
abbrev pub unlisted : SourceState → Job → Option Job
unlisted s job = if is_running job && not (is_listed s) then Some job else None

abbrev pub unlisted_job : SourceState → Option Job
unlisted_job s = option_and_then (unlisted s) (open_job s)

-- ---- what it makes of its source

-- the entry's source after the entry
abbrev pub changed_itself : SourceEntry → SourceState → SourceState
changed_itself (PutSource source) s = record s { source = source }
changed_itself (DropSource name) s = s
changed_itself (PutJob job) s = with_job job s
changed_itself (DropJob name number) s = without_job number s
changed_itself (PutListing name listing) s = with_listing listing s

-- the source after these entries, each of which is of the source
abbrev pub itself_after : List SourceEntry → SourceState → SourceState
itself_after [] s = s
itself_after (entry ∷ entries) s = itself_after entries (changed_itself entry s)

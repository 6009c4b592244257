-- A harvest of one source, from the beginning of its job to its end.
use Rattle.std.proofs.Common.{◌≡◌, ◌≢◌, List, [], ◌∷◌, Option, Some, None, refl, sym, subst, inl, inr, pos, arith}
use Rattle.std.proofs.Common.{codes}
use Rattle.std.specs.Prelude.{IfSome}
use Rattle.std.specs.Fmt.{digits}
use Rattle.portal_base.specs.Ordered.{IsAscending}
use Rattle.portal_base.proofs.Unique.{IsIn, IsIn-Contains}
use Rattle.portal_base.proofs.Upserted.{All-each}
use Rattle.harvest_sources.specs.Jobs.{blank_report}
use Rattle.harvest_sources.specs.Listings.{object_cmp}
use Rattle.harvest_sources.specs.Sources.{HasItsJobs, IsJobOf, SourceState}
use Rattle.harvest_sources.specs.declared.cause.Cause.TheVariants.{Missing}
use Rattle.harvest_sources.specs.declared.job.Job.{Job}
use Rattle.harvest_sources.specs.declared.job.JobState.{JobState}
use Rattle.harvest_sources.specs.declared.job.JobState.TheVariants.{New, Running, Finished}
use Rattle.harvest_sources.specs.declared.job.SourceReport.{SourceReport}
use Rattle.harvest_sources.specs.declared.listing.Listing.{Listing}
use Rattle.harvest_sources.specs.declared.listing.Outcome.TheVariants as outcome
use Rattle.harvest_sources.specs.declared.listing.Progress.{Progress}
use Rattle.harvest_sources.specs.declared.listing.Progress.TheVariants.{Waiting, Claimed, Done}
use Rattle.harvest_sources.specs.declared.reading.Reading.TheVariants.{Bad}
use Rattle.harvest_sources.specs.declared.source.HarvestSource.{HarvestSource}
use Rattle.harvest_sources.specs.declared.step.Found.TheVariants.{Elsewhere}
use Rattle.harvest_sources.specs.declared.step.Item.{Item}
use Rattle.harvest_sources.specs.declared.step.Step.TheVariants.{List as list, Claim, Settle, End}
use Rattle.harvest_sources.specs.declared.step.StepReply.TheVariants.{Ended}
use Rattle.harvest_results.specs.Effects.{HarvestState, change_of_step}
use Rattle.harvest_results.specs.Histories.{AStep, HarvestEvent, IsFit, IsHarvest, last_of, reading_by}
use Rattle.harvest_results.specs.Readings.CatalogueReading.{Listed}

-- ---- the states

abbrev source : HarvestSource
source = record {
  name = codes "s";
  title = codes "Survey";
  url = codes "https://example.org/catalog";
  owner_org = codes "o";
  next_job = 2;
}

abbrev job_in : JobState → Job
job_in state = record { source = codes "s"; number = 1; created = pos 0; report = blank_report (codes "s") state }

abbrev with_its_job : JobState → Option Listing → SourceState
with_its_job state listing = record { source = source; jobs = job_in state ∷ []; listing = listing }

abbrev state_of : JobState → Option Listing → HarvestState
state_of state listing = record { sources = with_its_job state listing ∷ []; datasets = [] }

abbrev listing_with : Progress → Option Listing
listing_with progress =
    Some (record { objects = record { iri = codes "urn:i"; progress = progress } ∷ []; unnamed = 1 })

abbrev item : Item
item = record { iri = codes "urn:i"; found = Elsewhere }

-- The catalogue lists an object and one without an IRI. The object is claimed, and nothing is found at its IRI.
abbrev history : List (HarvestEvent × HarvestState)
history =
    (AStep (list (codes "s.1") (item ∷ []) 1), state_of Running (listing_with (Waiting Elsewhere)))
    ∷ (AStep Claim, state_of Running (listing_with (Claimed Elsewhere)))
    ∷ (
      AStep (Settle (codes "s.1") (codes "urn:i") (Bad Missing)),
      state_of Running (listing_with (Done (outcome.Bad Missing))),
    )
    ∷ []

-- ---- they are fit

own-job : (state : JobState) (job : Job) → IsIn job (job_in state ∷ []) → IsJobOf source job
own-job state job (inl same) =
    subst (IsJobOf source) (sym same)
    (record { own = refl; reported = refl; given = omega arith; blank = λ active. refl })
own-job state job (inr m) = absurd m

new-jobs : HasItsJobs (with_its_job New None)
new-jobs = record {
  own = All-each (IsJobOf source) (job_in New ∷ []) (own-job New);
  ascending = (tt, tt);
  one_open = omega arith;
  runs = λ listed. absurd (cc);
  listed = tt;
}

running-jobs : (listing : Option Listing) → IfSome listing (λ l. IsAscending object_cmp l.objects)
    → HasItsJobs (with_its_job Running listing)
running-jobs listing up = record {
  own = All-each (IsJobOf source) (job_in Running ∷ []) (own-job Running);
  ascending = (tt, tt);
  one_open = omega arith;
  runs = λ listed. refl;
  listed = up;
}

fits : (s : SourceState) → s.source ≡ source → HasItsJobs s → IsFit source (record { sources = s ∷ []; datasets = [] })
fits s own jobs = record {
  sources = record {
    ascending = (tt, tt);
    named = All-each (λ (t : SourceState). t.source.name ≢ []) (s ∷ []) (λ t m. has_name t m);
    jobs = All-each HasItsJobs (s ∷ []) (λ t m. has_jobs t m);
  };
  ascending = tt;
  own = λ d m. absurd (IsIn-Contains d [] m);
  apart = λ d iri m. absurd (IsIn-Contains d [] m);
}
  where
    has_name : (t : SourceState) → IsIn t (s ∷ []) → t.source.name ≢ []
    has_name t (inl same) e =
        let name : source.name ≡ [] = cc in absurd (cc)
    has_name t (inr m) e = absurd m

    has_jobs : (t : SourceState) → IsIn t (s ∷ []) → HasItsJobs t
    has_jobs t (inl same) = subst HasItsJobs (sym same) jobs
    has_jobs t (inr m) = absurd m

-- ---- the harvest

harvest : IsHarvest source (codes "s.1") (state_of New None) history
unfolding digits
harvest = record {
  fit = fits (with_its_job New None) refl new-jobs;
  begun = refl;
  of_source = refl;
  fit_begun = fits (with_its_job Running None) refl (running-jobs None tt);
  events = (
    running (Waiting Elsewhere),
    refl,
    (running (Claimed Elsewhere), refl, (running (Done (outcome.Bad Missing)), refl, tt)),
  );
  once = (refl, (refl, (refl, tt)));
}
  where
    running : (progress : Progress) → IsFit source (state_of Running (listing_with progress))
    running progress =
        fits (with_its_job Running (listing_with progress)) refl (running-jobs (listing_with progress) (tt, tt))

-- what was read
read : reading_by source (codes "s.1") (state_of New None) history
    ≡ Listed source (record { iri = codes "urn:i"; reading = Bad Missing } ∷ []) 1
unfolding digits
read = refl

-- the answer at the end
abbrev report : SourceReport
report = record {
  source = codes "s";
  state = Finished;
  added = 0;
  updated = 0;
  unchanged = 0;
  deleted = 0;
  unnamed = 1;
  bad = (codes "urn:i", Missing) ∷ [];
}

ended : (change_of_step (End (codes "s.1")) (last_of (state_of New None) history)).reply ≡ Ended report
unfolding digits
ended = refl

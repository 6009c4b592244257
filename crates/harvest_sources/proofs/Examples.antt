-- Worked examples, by computation: a source `aa` whose catalogue lists the IRIs `abc` and `hello`.
use Rattle.std.proofs.Common.{◌≡◌, ℕ, List, [], ◌∷◌, Option, Some, None, ap, codes, pos, refl, rules}
use Rattle.std.specs.Fmt.{digits}
use Rattle.serde_json.specs.Data.{array, item, member, no_items, no_members, number, object, string, unsigned}
use Rattle.serde_json.specs.Written.{compact_text}
use Rattle.serde_json.proofs.OnLiterals.{serde_json_on_literals}
use Rattle.portal_base.specs.Json.{data_of, json_text}
use Rattle.portal_base.specs.declared.json_value.Json.{the_lemmas}
use Rattle.harvest_records.proofs.Examples.{name_of_abc, name_of_hello}
use Rattle.harvest_sources.specs.Entries.{PutJob, PutListing}
use Rattle.harvest_sources.specs.Jobs.{blank_report, job_id, split_job_id}
use Rattle.harvest_sources.specs.Listings.{finished_report, first_waiting, listing_of}
use Rattle.harvest_sources.specs.ReportJson.{report_dictionary}
use Rattle.harvest_sources.specs.Sources.{SourceState}
use Rattle.harvest_sources.specs.Steps.{idle, stepped}
use Rattle.harvest_sources.specs.declared.cause.Cause.TheVariants.{NoTitle, NotNTriples}
use Rattle.harvest_sources.specs.declared.job.Job.{Job}
use Rattle.harvest_sources.specs.declared.job.JobState.{JobState}
use Rattle.harvest_sources.specs.declared.job.JobState.TheVariants.{New, Running, Finished, Broken}
use Rattle.harvest_sources.specs.declared.job.SourceReport.{SourceReport}
use Rattle.harvest_sources.specs.declared.listing.Listing.{Listing}
use Rattle.harvest_sources.specs.declared.listing.Outcome.TheVariants as outcome
use Rattle.harvest_sources.specs.declared.listing.Progress.{Progress}
use Rattle.harvest_sources.specs.declared.listing.Progress.TheVariants.{Waiting, Claimed, Done as done}
use Rattle.harvest_sources.specs.declared.reading.Reading.TheVariants.{Bad}
use Rattle.harvest_sources.specs.declared.source.HarvestSource.{HarvestSource}
use Rattle.harvest_sources.specs.declared.step.Effect.TheVariants.{Plain, Deleted}
use Rattle.harvest_sources.specs.declared.step.Found.TheVariants.{Here, Elsewhere}
use Rattle.harvest_sources.specs.declared.step.Item.{Item}
use Rattle.harvest_sources.specs.declared.step.Step.TheVariants.{Begin, List as list, Claim, Settle, End}
use Rattle.harvest_sources.specs.declared.step.StepReply.TheVariants.{Gather, Object, Done, Ended, Already}

-- ---- ids

id_of_a_job : job_id (codes "aa") 7 ≡ codes "aa.7"
unfolding digits
id_of_a_job = refl

parts_of_an_id : split_job_id (codes "a.b.12") ≡ Some (codes "a.b", codes "12")
parts_of_an_id = refl

-- ---- the dictionary of a report

abbrev one_added : SourceReport
one_added = record (blank_report (codes "aa") Finished) { added = 1; deleted = 1 }

one_added_data : data_of (report_dictionary one_added) ≡ object (
    member (codes "added") (number (unsigned 1))
    (member (codes "bad") (array no_items)
    (member (codes "cause") (string [])
    (member (codes "deleted") (number (unsigned 1))
    (member (codes "source") (string (codes "aa"))
    (member (codes "state") (string (codes "Finished"))
    (member (codes "unchanged") (number (unsigned 0))
    (member (codes "unnamed") (number (unsigned 0))
    (member (codes "updated") (number (unsigned 0)) no_members)))))))))
one_added_data = search (rules, the_lemmas)

one_added_text : json_text (report_dictionary one_added) ≡ codes
    "{\"added\":1,\"bad\":[],\"cause\":\"\",\"deleted\":1,\"source\":\"aa\",\"state\":\"Finished\",\"unchanged\":0,\"unnamed\":0,\"updated\":0}"
unfolding serde_json_on_literals digits
one_added_text = ap compact_text one_added_data

-- a broken job, with an IRI that gave no dataset
abbrev one_bad : SourceReport
one_bad = record (blank_report (codes "aa") (Broken (NotNTriples 4))) { bad = (codes "abc", NoTitle) ∷ [] }

one_bad_data : data_of (report_dictionary one_bad) ≡ object (
    member (codes "added") (number (unsigned 0))
    (member (codes "bad") (array (item (object (
    member (codes "cause") (string (codes "NoTitle")) (member (codes "iri") (string (codes "abc")) no_members))) no_items))
    (member (codes "cause") (string (codes "NotNTriples 4"))
    (member (codes "deleted") (number (unsigned 0))
    (member (codes "source") (string (codes "aa"))
    (member (codes "state") (string (codes "Broken"))
    (member (codes "unchanged") (number (unsigned 0))
    (member (codes "unnamed") (number (unsigned 0))
    (member (codes "updated") (number (unsigned 0)) no_members)))))))))
unfolding digits
one_bad_data = search (rules, the_lemmas)

one_bad_text : json_text (report_dictionary one_bad) ≡ codes
    "{\"added\":0,\"bad\":[{\"cause\":\"NoTitle\",\"iri\":\"abc\"}],\"cause\":\"NotNTriples 4\",\"deleted\":0,\"source\":\"aa\",\"state\":\"Broken\",\"unchanged\":0,\"unnamed\":0,\"updated\":0}"
unfolding serde_json_on_literals digits
one_bad_text = ap compact_text one_bad_data

-- ---- what a catalogue lists

abbrev elsewhere : List ℕ → Item
elsewhere iri = record { iri = iri; found = Elsewhere }

abbrev untitled : List ℕ → Item
untitled iri = record { iri = iri; found = Here (Bad NoTitle) }

-- `abc` and `hello`, so far
abbrev listing : Progress → Progress → Listing
listing abc hello = record {
  objects = record { iri = codes "abc"; progress = abc } ∷ record { iri = codes "hello"; progress = hello } ∷ [];
  unnamed = 1;
}

-- The first of the items of one IRI counts.
repeated_iri : listing_of (codes "aa")
    (elsewhere (codes "hello") ∷ untitled (codes "abc") ∷ elsewhere (codes "abc") ∷ untitled (codes "hello") ∷ []) 1
    ≡ listing (Waiting (Here (Bad NoTitle))) (Waiting Elsewhere)
repeated_iri = simp (name_of_abc, name_of_hello)

claimed_objects_are_passed : first_waiting (listing (Claimed Elsewhere) (Waiting Elsewhere))
    ≡ Some (elsewhere (codes "hello"))
claimed_objects_are_passed = refl

abbrev all_done : Listing
all_done = listing (done outcome.Added) (done (outcome.Bad NoTitle))

abbrev whole_report : SourceReport
whole_report = record {
  source = codes "aa";
  state = Finished;
  added = 1;
  updated = 0;
  unchanged = 0;
  deleted = 2;
  unnamed = 1;
  bad = (codes "hello", NoTitle) ∷ [];
}

report_of_all : finished_report (codes "aa") all_done 2 ≡ whole_report
report_of_all = refl

-- ---- steps

abbrev aa : HarvestSource
aa = record {
  name = codes "aa";
  title = codes "Air";
  url = codes "a.nt";
  owner_org = codes "city";
  next_job = 2;
}

-- the first job, with this report
abbrev job : SourceReport → Job
job report = record { source = codes "aa"; number = 1; created = pos 0; report = report }

abbrev blank : JobState → Job
blank state = job (blank_report (codes "aa") state)

-- the sources, with the first job in this state and this listing of the catalogue
abbrev sources : JobState → Option Listing → List SourceState
sources state listing = record { source = aa; jobs = blank state ∷ []; listing = listing } ∷ []

begins : stepped Begin Plain (sources New None)
    ≡ record { entries = PutJob (blank Running) ∷ []; reply = Gather (codes "aa.1") (codes "a.nt") }
unfolding digits
begins = refl

claims : stepped Claim Plain (sources Running (Some (listing (Waiting Elsewhere) (Waiting Elsewhere)))) ≡ record {
  entries = PutListing (codes "aa") (Some (listing (Claimed Elsewhere) (Waiting Elsewhere))) ∷ [];
  reply = Object (codes "aa.1") (elsewhere (codes "abc"));
}
unfolding digits
claims = refl

settles : stepped (Settle (codes "aa.1") (codes "hello") (Bad NoTitle)) Plain
    (sources Running (Some (listing (done outcome.Added) (Claimed Elsewhere))))
    ≡ record { entries = PutListing (codes "aa") (Some all_done) ∷ []; reply = Done }
unfolding digits
settles = refl

ends : stepped (End (codes "aa.1")) (Deleted 2) (sources Running (Some all_done)) ≡ record {
  entries = PutListing (codes "aa") None ∷ PutJob (job whole_report) ∷ [];
  reply = Ended whole_report;
}
unfolding digits
ends = refl

-- The catalogue is listed already.
lists_once : stepped (list (codes "aa.1") [] 0) Plain (sources Running (Some all_done)) ≡ idle Already
unfolding digits
lists_once = refl

-- Steps that are prepared.
use Rattle.std.proofs.Common.{◌≡◌, ◌∙◌, ◌<◌, ℕ, zero, suc, Bool, true, false, ◌&&◌, cond, not, List, [], ◌∷◌, Option, Some, None}
use Rattle.std.proofs.Common.{length, get_or, refl, sym, ap, subst, arith}
use Rattle.std.specs.Prelude.{IfSome, IsTrue, is_some, option_and_then, slice_get}
use Rattle.std.specs.List.{list_all}
use Rattle.std.specs.Option.{option_map_or}
use Rattle.std.proofs.lemmas.Option.{slice_get-get_or}
use Rattle.portal_base.specs.Ordered.{IsAscending}
use Rattle.harvest_sources.specs.Entries.{PutJob, PutListing}
use Rattle.harvest_sources.specs.Jobs.{blank_report, id_of_job, in_state, is_running}
use Rattle.harvest_sources.specs.Listings.{first_items, first_waiting, finished_report, is_done, item_cmp, listing_of, object_cmp}
use Rattle.harvest_sources.specs.Listings.{object_of}
use Rattle.harvest_sources.specs.Sources.{AreSources, HasItsJobs, SourceState, is_listed, open_job}
use Rattle.harvest_sources.specs.Steps.{Stepped, broken, claimed, claimed_from, claimed_in, ended, ended_with}
use Rattle.harvest_sources.specs.Steps.{has_running, idle, is_settled, listed, on_job}
use Rattle.harvest_sources.specs.Steps.{waiting_of}
use Rattle.harvest_sources.specs.declared.cause.Cause.{Cause}
use Rattle.harvest_sources.specs.declared.job.Job.{Job}
use Rattle.harvest_sources.specs.declared.job.JobState.TheVariants.{Broken}
use Rattle.harvest_sources.specs.declared.job.SourceReport.{SourceReport}
use Rattle.harvest_sources.specs.declared.listing.Listing.{Listing}
use Rattle.harvest_sources.specs.declared.step.Item.{Item}
use Rattle.harvest_sources.specs.declared.step.StepReply.{StepReply}
use Rattle.harvest_sources.specs.declared.step.StepReply.TheVariants.{Object, Done, Ended, Already, Nothing}
use Rattle.harvest_sources.proofs.ListLemmas.{IsAscending-first_items}
use Rattle.harvest_stages.specs.Prepared.{CanStep, IsPreparedAt, StepToMake, claim_entries}
use Rattle.harvest_stages.specs.Prepared.{entries_at, entries_there, item_entries, report_entries}
use Rattle.harvest_stages.specs.Prepared.{state_entries, unlisted, unlisted_job}
use Rattle.harvest_stages.specs.declared.prepared.SourceStep.{SourceStep}
use Rattle.harvest_stages.specs.declared.prepared.SourceStep.TheVariants.{Break, List as list, Claim, End}
use Rattle.harvest_stages.specs.declared.prepared.StepChange.TheVariants.{At}
use Rattle.harvest_stages.proofs.MapLemmas.{IsAscending-map}
use Rattle.harvest_stages.proofs.StepLemmas.{open_is_own}

-- ---- steps at a place

pub slice_get_within : {X : Type 0} (xs : List X) (place : ℕ) (x : X) → slice_get xs place ≡ Some x → place < length xs
slice_get_within [] place x is = absurd (cc)
slice_get_within (y ∷ ys) zero x is = omega arith
slice_get_within (y ∷ ys) (suc place) x is = let rest = slice_get_within ys place x is in omega (arith, rest)

pub holds_there : (ss : List SourceState) (place : ℕ) (s : SourceState) → AreSources ss → slice_get ss place ≡ Some s
    → HasItsJobs s
holds_there ss place s was there =
    let within = slice_get_within ss place s there in
    let same : Some (get_or ss place s) ≡ Some s = sym (slice_get-get_or ss place s within) ∙ there in
    let is : get_or ss place s ≡ s = cc (same) in
    subst HasItsJobs is (was.jobs place s within)

-- A step at a place is prepared, if it puts what the outcome has, and the source is as the step needs it.
pub made_at : (place : ℕ) (s : SourceState) (step : SourceStep) (reply : StepReply) (outcome : Stepped)
    → (HasItsJobs s → record { entries = entries_at step s; reply = reply } ≡ outcome) → (HasItsJobs s → CanStep step s)
    → IsPreparedAt place s outcome (record { change = At place step; reply = reply })
made_at place s step reply outcome puts can = λ ss was there.
    let holds : HasItsJobs s = holds_there ss place s was there in
    let make : Option SourceState → Stepped = λ o. record { entries = entries_there step o; reply = reply } in
    record {
      step = ap make there ∙ puts holds;
      ready = (
        slice_get_within ss place s there,
        subst (λ (o : Option SourceState). IfSome o (CanStep step)) (sym there) (can holds),
      );
    }

-- ---- a running job whose catalogue isn't listed

on_unlisted : (make : Job → Stepped) (s : SourceState)
    → option_map_or (λ job. cond (is_running job && not (is_listed s)) (make job) (idle Already)) (open_job s) (idle Already)
    ≡ option_map_or make (unlisted_job s) (idle Already)
on_unlisted make s = by (open_job s)
  where
    if_so : (b : Bool) (job : Job)
        → cond b (make job) (idle Already) ≡ option_map_or make (cond b (Some job) None) (idle Already)
    if_so true job = refl
    if_so false job = refl

    by : (o : Option Job)
        → option_map_or (λ job. cond (is_running job && not (is_listed s)) (make job) (idle Already)) o (idle Already)
        ≡ option_map_or make (option_and_then (unlisted s) o) (idle Already)
    by None = refl
    by (Some job) = if_so (is_running job && not (is_listed s)) job

pub unlisted_so : (s : SourceState) (job : Job) → unlisted_job s ≡ Some job
    → (open_job s ≡ Some job) × IsTrue (has_running s) × (s.listing ≡ None)
unlisted_so s job is = by (open_job s) refl is
  where
    each : (r : Bool) (l : Option Listing) (j : Job) → cond (r && not (is_some l)) (Some j) None ≡ Some job
        → (j ≡ job) × (r ≡ true) × (l ≡ None)
    each true None j e = let same : j ≡ job = cc in (same, refl, refl)
    each true (Some listing) j e = absurd (cc)
    each false l j e = absurd (cc)

    by : (o : Option Job) → open_job s ≡ o → option_and_then (unlisted s) o ≡ Some job
        → (open_job s ≡ Some job) × IsTrue (has_running s) × (s.listing ≡ None)
    by None is_open e = absurd (cc)
    by (Some j) is_open e =
        let parts = each (is_running j) s.listing j e in (
          is_open ∙ ap Some parts.0,
          ap (λ (o : Option Job). option_map_or is_running o false) is_open ∙ parts.1,
          parts.2,
        )

pub list_so : (s : SourceState) (job : Job) (items : List Item) (unnamed : ℕ) → unlisted_job s ≡ Some job
    → record { entries = entries_at (list (listing_of s.source.name items unnamed)) s; reply = Done }
    ≡ on_job Already (listed items unnamed) (Some s)
list_so s job items unnamed is =
    let make : Job → Stepped = λ j. record {
      entries = PutListing s.source.name (Some (listing_of s.source.name items unnamed)) ∷ [];
      reply = Done;
    } in
    sym (on_unlisted make s ∙ ap (λ (o : Option Job). option_map_or make o (idle Already)) is)

-- The objects of a listing ascend.
pub listing_up : (source : List ℕ) (items : List Item) (unnamed : ℕ)
    → IsAscending object_cmp (listing_of source items unnamed).objects
listing_up source items unnamed =
    IsAscending-map (object_of source (first_items items)) item_cmp object_cmp (λ x y. refl) (first_items items)
    (IsAscending-first_items items)

pub list_can : (s : SourceState) (job : Job) (items : List Item) (unnamed : ℕ) → unlisted_job s ≡ Some job
    → CanStep (list (listing_of s.source.name items unnamed)) s
list_can s job items unnamed is =
    let so = unlisted_so s job is in (so.1, so.2, listing_up s.source.name items unnamed)

pub break_so : (s : SourceState) (job : Job) (cause : Cause) → unlisted_job s ≡ Some job
    → record { entries = entries_at (Break cause) s; reply = Ended (blank_report job.source (Broken cause)) }
    ≡ on_job Already (broken cause) (Some s)
break_so s job cause is =
    let make : Job → Stepped = λ j. record {
      entries = PutJob (in_state (Broken cause) j) ∷ [];
      reply = Ended (blank_report j.source (Broken cause));
    } in
    ap (λ (o : Option Job). record {
      entries = state_entries (Broken cause) o;
      reply = Ended (blank_report job.source (Broken cause));
    }) (unlisted_so s job is).0
    ∙ sym (on_unlisted make s ∙ ap (λ (o : Option Job). option_map_or make o (idle Already)) is)

pub break_can : (s : SourceState) (job : Job) (cause : Cause) → unlisted_job s ≡ Some job → CanStep (Break cause) s
break_can s job cause is = let so = unlisted_so s job is in (so.1, so.2)

-- ---- a claim

pub claim_so : (s : SourceState) (job : Job) (item : Item) → open_job s ≡ Some job → waiting_of s ≡ Some item
    → record { entries = entries_at Claim s; reply = Object (id_of_job job) item } ≡ on_job Nothing claimed (Some s)
claim_so s job item is waits =
    by s.listing waits ∙ sym (ap (λ (o : Option Job). option_map_or (claimed s) o (idle Nothing)) is)
  where
    by : (o : Option Listing) → option_and_then first_waiting o ≡ Some item
        → record { entries = claim_entries s.source.name o; reply = Object (id_of_job job) item } ≡ claimed_from s job o
    by None e = absurd (cc)
    by (Some listing) e =
        ap (λ (w : Option Item). record {
          entries = item_entries s.source.name listing w;
          reply = Object (id_of_job job) item;
        }) e
        ∙ sym (ap (λ (w : Option Item). option_map_or (claimed_in s job listing) w (idle Nothing)) e)

-- A source whose catalogue is listed has an open job.
open_if_listed : (s : SourceState) → HasItsJobs s → IsTrue (is_listed s) → (job : Job) × (open_job s ≡ Some job)
open_if_listed s holds is = by (open_job s) refl (holds.runs is)
  where
    by : (o : Option Job) → open_job s ≡ o → IsTrue (option_map_or is_running o false)
        → (job : Job) × (open_job s ≡ Some job)
    by None e runs = absurd (cc)
    by (Some job) e runs = (job, e)

-- ---- the end of a job

pub listed_if_settled : (s : SourceState) → is_settled s ≡ true → is_listed s ≡ true
listed_if_settled s all = by s.listing all
  where
    by : (o : Option Listing) → option_map_or (λ listing. list_all is_done listing.objects) o false ≡ true
        → is_some o ≡ true
    by None e = absurd (cc)
    by (Some listing) e = refl

pub end_so : (s : SourceState) (report : SourceReport) (deleted : ℕ) → HasItsJobs s → is_settled s ≡ true
    → IfSome s.listing (λ listing. report ≡ finished_report s.source.name listing deleted)
    → record { entries = entries_at (End report) s; reply = Ended report } ≡ on_job Already (ended deleted) (Some s)
end_so s report deleted holds all is =
    let job = open_if_listed s holds (listed_if_settled s all) in
    ap (λ (o : Option Job). record {
      entries = PutListing s.source.name None ∷ report_entries report o;
      reply = Ended report;
    }) job.1
    ∙ by s.listing job.0 (open_is_own s job.0 holds job.1) all is
    ∙ sym (ap (λ (o : Option Job). option_map_or (ended deleted s) o (idle Already)) job.1)
  where
    outcome : Job → SourceReport → Stepped
    outcome job r =
        record { entries = PutListing s.source.name None ∷ report_entries r (Some job); reply = Ended r }

    by : (o : Option Listing) (job : Job) → job.source ≡ s.source.name
        → option_map_or (λ listing. list_all is_done listing.objects) o false ≡ true
        → IfSome o (λ listing. report ≡ finished_report s.source.name listing deleted)
        → outcome job report ≡ ended_with deleted s job o
    by None job own e is = absurd (cc)
    by (Some listing) job own e is =
        ap (outcome job) (is ∙ ap (λ name. finished_report name listing deleted) (sym own))
        ∙ sym (ap (λ b. cond b (outcome job (finished_report job.source listing deleted)) (idle Already)) e)

pub end_can : (s : SourceState) (report : SourceReport) (deleted : ℕ) → is_settled s ≡ true
    → IfSome s.listing (λ listing. report ≡ finished_report s.source.name listing deleted) → CanStep (End report) s
end_can s report deleted all is = (all, by s.listing is)
  where
    by : (o : Option Listing) → IfSome o (λ listing. report ≡ finished_report s.source.name listing deleted)
        → IfSome o (λ listing. (d : ℕ) × (report ≡ finished_report s.source.name listing d))
    by None e = tt
    by (Some listing) e = (deleted, e)

-- ---- what is prepared at a place

pub list_made : (place : ℕ) (s : SourceState) (job : Job) (items : List Item) (unnamed : ℕ) (listing : Listing)
    (prepared : StepToMake) → unlisted_job s ≡ Some job → listing ≡ listing_of job.source items unnamed
    → prepared ≡ record { change = At place (list listing); reply = Done }
    → IsPreparedAt place s (on_job Already (listed items unnamed) (Some s)) prepared
list_made place s job items unnamed listing prepared is lists made =
    subst (IsPreparedAt place s (on_job Already (listed items unnamed) (Some s))) (sym made)
    (made_at place s (list listing) Done (on_job Already (listed items unnamed) (Some s))
    (λ holds. ap (λ (l : Listing). record { entries = entries_at (list l) s; reply = Done }) (named holds)
    ∙ list_so s job items unnamed is)
    (λ holds. subst (λ (l : Listing). CanStep (list l) s) (sym (named holds)) (list_can s job items unnamed is)))
  where
    named : HasItsJobs s → listing ≡ listing_of s.source.name items unnamed
    named holds =
        lists ∙ ap (λ name. listing_of name items unnamed) (open_is_own s job holds (unlisted_so s job is).0)

pub break_made : (place : ℕ) (s : SourceState) (job : Job) (cause : Cause) (report : SourceReport)
    (prepared : StepToMake) → unlisted_job s ≡ Some job → report ≡ blank_report job.source (Broken cause)
    → prepared ≡ record { change = At place (Break cause); reply = Ended report }
    → IsPreparedAt place s (on_job Already (broken cause) (Some s)) prepared
break_made place s job cause report prepared is blank made =
    subst (IsPreparedAt place s (on_job Already (broken cause) (Some s))) (sym made)
    (made_at place s (Break cause) (Ended report) (on_job Already (broken cause) (Some s))
    (λ holds. ap (λ (r : SourceReport). record { entries = entries_at (Break cause) s; reply = Ended r }) blank
    ∙ break_so s job cause is)
    (λ holds. break_can s job cause is))

pub claim_made : (place : ℕ) (s : SourceState) (job : Job) (item : Item) (reply : StepReply) (prepared : StepToMake)
    → open_job s ≡ Some job → Some item ≡ waiting_of s → reply ≡ Object (id_of_job job) item
    → prepared ≡ record { change = At place Claim; reply = reply }
    → IsPreparedAt place s (on_job Nothing claimed (Some s)) prepared
claim_made place s job item reply prepared is waits replies made =
    subst (IsPreparedAt place s (on_job Nothing claimed (Some s))) (sym made)
    (made_at place s Claim reply (on_job Nothing claimed (Some s))
    (λ holds. ap (λ (r : StepReply). record { entries = entries_at Claim s; reply = r }) replies
    ∙ claim_so s job item is (sym waits))
    (λ holds. sym (ap is_some waits)))

pub end_made : (place : ℕ) (s : SourceState) (deleted : ℕ) (report copy : SourceReport) (prepared : StepToMake)
    → is_settled s ≡ true → IfSome s.listing (λ listing. report ≡ finished_report s.source.name listing deleted)
    → copy ≡ report → prepared ≡ record { change = At place (End report); reply = Ended copy }
    → IsPreparedAt place s (on_job Already (ended deleted) (Some s)) prepared
end_made place s deleted report copy prepared all reports copied made =
    subst (IsPreparedAt place s (on_job Already (ended deleted) (Some s))) (sym made)
    (made_at place s (End report) (Ended copy) (on_job Already (ended deleted) (Some s))
    (λ holds. ap (λ (r : SourceReport). record { entries = entries_at (End report) s; reply = Ended r }) copied
    ∙ end_so s report deleted holds all reports)
    (λ holds. end_can s report deleted all reports))

-- How far a source with a new job is in a round: its job hasn't begun, its catalogue is listed, or its job is over.
use Rattle.std.proofs.Common.{◌≡◌, ◌∙◌, ℕ, Bool, true, false, cond, List, [], ◌∷◌, Option, Some, None, Ok}
use Rattle.std.proofs.Common.{refl, sym, ap, subst, inl, inr}
use Rattle.std.specs.Prelude.{find}
use Rattle.std.specs.Option.{option_map_or}
use Rattle.std.specs.Str.{bytes_eq}
use Rattle.std.proofs.lemmas.Slice.Eq.{bytes_eq-Decides}
use Rattle.portal_base.proofs.Unique.{IsIn}
use Rattle.harvest_readings.specs.Harvests.{Documents, catalogue_at}
use Rattle.harvest_readings.specs.declared.catalogue.Catalogue.{Catalogue}
use Rattle.harvest_results.specs.Effects.{HarvestState, after_step, effect_of}
use Rattle.harvest_results.specs.Histories.{AStep, Gathered, HasItsNames, IsFit, begins, with_event, with_gathered}
use Rattle.harvest_results.specs.Readings.{ListedIri}
use Rattle.harvest_results.specs.Results.{datasets_after}
use Rattle.harvest_results.proofs.SourceEntryLemmas.{IsIn-named, named-changed, open-replaced, same_source}
use Rattle.harvest_sources.specs.Entries.{PutListing, SourceEntry, sources_after, with_listing}
use Rattle.harvest_sources.specs.Jobs.{id_of_job, in_state, job_id}
use Rattle.harvest_sources.specs.Listings.{first_waiting, with_progress}
use Rattle.harvest_sources.specs.Sources.{HasItsJobs, SourceState, open_job, source_named}
use Rattle.harvest_sources.specs.Steps.{Stepped, claimed, idle, is_accepted, is_unsettled, on_job, outcome_of, settled}
use Rattle.harvest_sources.specs.Steps.{with_open_job}
use Rattle.harvest_sources.specs.declared.job.Job.{Job}
use Rattle.harvest_sources.specs.declared.job.JobState.TheVariants as state
use Rattle.harvest_sources.specs.declared.job.SourceReport.{SourceReport}
use Rattle.harvest_sources.specs.declared.listing.Listing.{Listing}
use Rattle.harvest_sources.specs.declared.listing.Outcome.{Outcome}
use Rattle.harvest_sources.specs.declared.listing.Progress.TheVariants.{Claimed, Done as is_done_as}
use Rattle.harvest_sources.specs.declared.reading.Reading.{Reading}
use Rattle.harvest_sources.specs.declared.step.Item.{Item}
use Rattle.harvest_sources.specs.declared.step.Step.{Step}
use Rattle.harvest_sources.specs.declared.step.Step.TheVariants.{Claim, Settle}
use Rattle.harvest_sources.specs.declared.step.StepReply.TheVariants.{Nothing, Done, Already}
use Rattle.harvest_pool.specs.WholeRounds.{own_datasets, report_on, source_read, with_job_ended}
use Rattle.harvest_pool.proofs.Done.{AllFit}
use Rattle.harvest_pool.proofs.GatheredLemmas.{AreItems, AreRead, IsReadOf, items-claimed, items-settled, waiting-listed}
use Rattle.harvest_pool.proofs.PastLemmas.{Running, event-same, never-begins, runs-on}
use Rattle.harvest_pool.proofs.QuietLemmas.{IsElsewhere, closed-elsewhere, is_round, quiet}
use Rattle.harvest_pool.proofs.SourceLemmas.{open-found}
use Rattle.harvest_pool.proofs.StageLemmas.{ClaimedOne, begun_source, waits}

-- the source with its running job, and this listing
abbrev pub listed_source : Listing → Job → SourceState → SourceState
listed_source listing job s = with_listing (Some listing) (begun_source job s)

-- The source and its datasets are as before the round.
pub record Untouched (before : HarvestState) (s : SourceState) (st : HarvestState) : Type 0 where
  pub at : source_named st.sources s.source.name ≡ Some s
  pub datasets : own_datasets s.source.name st.datasets ≡ own_datasets s.source.name before.datasets

-- The job runs, and its catalogue is listed. What it gathered so far is what the documents say.
pub record Reads (documents : Documents) (before : HarvestState) (s : SourceState) (job : Job) (st : HarvestState)
    : Type 0 where
  pub catalogue : Catalogue
  pub failed : Bool
  pub lists : catalogue_at documents failed s.source.url ≡ Ok catalogue
  pub g : Gathered
  pub runs : Running before s job st g
  pub listing : Listing
  pub at : source_named st.sources s.source.name ≡ Some (listed_source listing job s)
  pub items : g.items ≡ catalogue.items
  pub unnamed : g.unnamed ≡ catalogue.unnamed
  pub objects : AreItems catalogue.items listing
  pub read : AreRead documents catalogue.items g.settled

-- The job is over, with what it leaves and what is told of it.
pub record Over (documents : Documents) (before : HarvestState) (s : SourceState) (Told : SourceReport → Type 0)
    (st : HarvestState) : Type 0 where
  pub failed : Bool
  pub has_failed : List ℕ → Bool
  pub left : SourceState
  pub at : source_named st.sources s.source.name ≡ Some left
  pub closed : open_job left ≡ None
  pub is : left
      ≡ with_job_ended
      (report_on s.source.name (own_datasets s.source.name before.datasets)
      (source_read documents failed has_failed s.source)) s
  pub datasets : own_datasets s.source.name st.datasets
      ≡ datasets_after (own_datasets s.source.name before.datasets) (source_read documents failed has_failed s.source)
  pub told : Told
      (report_on s.source.name (own_datasets s.source.name before.datasets)
      (source_read documents failed has_failed s.source))

module _ (documents : Documents) (before : HarvestState) (s : SourceState) (job : Job) (Told : SourceReport → Type 0)
    (jobs : HasItsJobs s) (opens : open_job s ≡ Some job) (is_id : id_of_job job ≡ job_id s.source.name job.number)
  where
    -- ---- what holds of the source

    pub own-fit : (st : HarvestState) (u : SourceState) → AllFit st → source_named st.sources s.source.name ≡ Some u
        → u.source ≡ s.source → IsFit s.source st × HasItsNames s.source st
    own-fit st u fit at own =
        let m = (IsIn-named st.sources s.source.name u at).0 in (
          subst (λ source. IsFit source st) own (fit.fit u m),
          subst (λ source. HasItsNames source st) own (fit.named u m),
        )

    pub opened : open_job (begun_source job s) ≡ Some (in_state state.Running job)
    opened = open-replaced s job (in_state state.Running job) jobs opens refl

    -- the job goes on
    pub next-runs : (step : Step) (st : HarvestState) (g : Gathered) (u v : SourceState) → AllFit st
        → AllFit (after_step step st) → source_named st.sources s.source.name ≡ Some u → u.source ≡ s.source
        → source_named (after_step step st).sources s.source.name ≡ Some v → v.source ≡ s.source
        → begins (id_of_job job) st step ≡ false → Running before s job st g
        → Running before s job (after_step step st) (with_event (id_of_job job) st (AStep step) g)
    next-runs step st g u v fit fit_after at own at_after own_after never r =
        let now = own-fit st u fit at own in
        let then = own-fit (after_step step st) v fit_after at_after own_after in
        runs-on before s job st g is_id r step now.0 then.0 then.1 never

    -- its source is found by its id
    pub found : (st : HarvestState) (listing : Listing) → AllFit st
        → source_named st.sources s.source.name ≡ Some (listed_source listing job s)
        → with_open_job st.sources (id_of_job job) ≡ Some (listed_source listing job s)
    found st listing fit at =
        open-found st.sources (listed_source listing job s) (in_state state.Running job) (id_of_job job) fit.sources
        (IsIn-named st.sources s.source.name (listed_source listing job s) at).0 opened refl

    -- ---- steps on other sources

    pub untouched-on : (step : Step) (st : HarvestState) → AllFit st → is_round step ≡ false
        → IsElsewhere step st.sources s.source.name → Untouched before s st → Untouched before s (after_step step st)
    untouched-on step st fit no_round elsewhere w =
        let q = quiet s.source.name st fit step no_round elsewhere in
        record { at = q.0 ∙ w.at; datasets = q.1 ∙ w.datasets }

    pub over-on : (step : Step) (st : HarvestState) → AllFit st → is_round step ≡ false
        → Over documents before s Told st → Over documents before s Told (after_step step st)
    over-on step st fit no_round w =
        let q = quiet s.source.name st fit step no_round
        (closed-elsewhere s.source.name st fit w.left w.at w.closed step) in
        record {
          failed = w.failed;
          has_failed = w.has_failed;
          left = w.left;
          at = q.0 ∙ w.at;
          closed = w.closed;
          is = w.is;
          datasets = q.1 ∙ w.datasets;
          told = w.told;
        }

    pub reads-on : (step : Step) (st : HarvestState) → AllFit st → AllFit (after_step step st) → is_round step ≡ false
        → begins (id_of_job job) st step ≡ false → IsElsewhere step st.sources s.source.name
        → ((g : Gathered) → with_gathered (id_of_job job) step g ≡ g) → Reads documents before s job st
        → Reads documents before s job (after_step step st)
    reads-on step st fit fit_after no_round never elsewhere nothing w =
        let q = quiet s.source.name st fit step no_round elsewhere in
        record {
          catalogue = w.catalogue;
          failed = w.failed;
          lists = w.lists;
          g = w.g;
          runs = subst (Running before s job (after_step step st))
              (event-same (id_of_job job) st step w.g (nothing w.g))
              (next-runs step st w.g (listed_source w.listing job s) (listed_source w.listing job s) fit fit_after w.at
              refl (q.0 ∙ w.at) refl never w.runs);
          listing = w.listing;
          at = q.0 ∙ w.at;
          items = w.items;
          unnamed = w.unnamed;
          objects = w.objects;
          read = w.read;
        }

    -- ---- an object of the job

    -- it is claimed,
    pub reads-claimed : (other : List ℕ) (item : Item) (st : HarvestState) → AllFit st → AllFit (after_step Claim st)
        → (c : ClaimedOne st.sources other item (on_job Nothing claimed (find waits st.sources)).entries)
        → c.at.source.name ≡ s.source.name → Reads documents before s job st
        → (w : Reads documents before s job (after_step Claim st)) × IsIn item w.catalogue.items
    reads-claimed other item st fit fit_after c here w =
        let u : SourceState = listed_source w.listing job s in
        let same : c.at ≡ u = same_source st.sources s.source.name u c.at fit.sources w.at c.there here in
        let both : Some w.listing ≡ Some c.listing = sym (ap (λ (t : SourceState). t.listing) same) ∙ c.listed_so in
        let listings : c.listing ≡ w.listing = cc in
        let waiting : IsIn item w.catalogue.items = waiting-listed w.catalogue.items w.listing item w.objects
        (subst (λ (l : Listing). first_waiting l ≡ Some item) listings c.waiting) in
        let at_after : source_named (after_step Claim st).sources s.source.name
        ≡ Some (listed_source (with_progress item.iri (Claimed item.found) w.listing) job s) =
        ap (λ (entries : List SourceEntry). source_named (sources_after entries st.sources) s.source.name) c.put
        ∙ named-changed s.source.name c.at.source.name
        (with_listing (Some (with_progress item.iri (Claimed item.found) c.listing))) st.sources u (λ t. refl) w.at here
        ∙ ap (λ (l : Listing). Some (with_listing (Some (with_progress item.iri (Claimed item.found) l)) u)) listings in (
          record {
            catalogue = w.catalogue;
            failed = w.failed;
            lists = w.lists;
            g = w.g;
            runs = subst (Running before s job (after_step Claim st)) (event-same (id_of_job job) st Claim w.g refl)
                (next-runs Claim st w.g u (listed_source (with_progress item.iri (Claimed item.found) w.listing) job s) fit
                fit_after w.at refl at_after refl (never-begins (id_of_job job) st Claim refl) w.runs);
            listing = with_progress item.iri (Claimed item.found) w.listing;
            at = at_after;
            items = w.items;
            unnamed = w.unnamed;
            objects = items-claimed w.catalogue.items w.listing item w.objects waiting;
            read = w.read;
          },
          waiting,
        )

    -- and settled.
    pub reads-settled : (iri : List ℕ) (reading : Reading) (st : HarvestState) → AllFit st
        → AllFit (after_step (Settle (id_of_job job) iri reading) st) → (w : Reads documents before s job st)
        → IsReadOf documents w.catalogue.items (record { iri = iri; reading = reading })
        → Reads documents before s job (after_step (Settle (id_of_job job) iri reading) st)
    reads-settled iri reading st fit fit_after w is_read =
        by (is_unsettled iri w.listing) outcome
      where
        id : List ℕ
        id = id_of_job job

        u : SourceState
        u = listed_source w.listing job s

        came : Outcome
        came = outcome_of reading (effect_of (Settle id iri reading) st)

        put : Stepped
        put = record {
          entries = PutListing s.source.name (Some (with_progress iri (is_done_as came) w.listing)) ∷ [];
          reply = Done;
        }

        outcome : on_job Already (settled iri came) (with_open_job st.sources id)
            ≡ cond (is_unsettled iri w.listing) put (idle Already)
        outcome =
            ap (on_job Already (settled iri came)) (found st w.listing fit w.at)
            ∙ ap (λ (o : Option Job). option_map_or (settled iri came u) o (idle Already)) opened

        more : Gathered
        more = record w.g { settled = record { iri = iri; reading = reading } ∷ w.g.settled }

        reads : (r : ListedIri) → IsIn r more.settled → IsReadOf documents w.catalogue.items r
        reads r (inl same) = subst (IsReadOf documents w.catalogue.items) (sym same) is_read
        reads r (inr m) = w.read r m

        next : (v : SourceState) → source_named (after_step (Settle id iri reading) st).sources s.source.name ≡ Some v
            → v.source ≡ s.source
            → Running before s job (after_step (Settle id iri reading) st)
            (with_event id st (AStep (Settle id iri reading)) w.g)
        next v at own =
            next-runs (Settle id iri reading) st w.g u v fit fit_after w.at refl at own
            (never-begins id st (Settle id iri reading) refl) w.runs

        by : (b : Bool) → on_job Already (settled iri came) (with_open_job st.sources id) ≡ cond b put (idle Already)
            → Reads documents before s job (after_step (Settle id iri reading) st)
        by true is =
            let at_after : source_named (after_step (Settle id iri reading) st).sources s.source.name
            ≡ Some (listed_source (with_progress iri (is_done_as came) w.listing) job s) =
            ap (λ (p : Stepped). source_named (sources_after p.entries st.sources) s.source.name) is
            ∙ named-changed s.source.name s.source.name
            (with_listing (Some (with_progress iri (is_done_as came) w.listing))) st.sources u (λ t. refl) w.at refl in
            record {
              catalogue = w.catalogue;
              failed = w.failed;
              lists = w.lists;
              g = more;
              runs = subst (Running before s job (after_step (Settle id iri reading) st))
                  (ap (λ (p : Stepped). cond (is_accepted p.reply) (cond (bytes_eq id id) more w.g) w.g) is
                  ∙ ap (λ (b : Bool). cond b more w.g) ((bytes_eq-Decides id id).1 refl))
                  (next (listed_source (with_progress iri (is_done_as came) w.listing) job s) at_after refl);
              listing = with_progress iri (is_done_as came) w.listing;
              at = at_after;
              items = w.items;
              unnamed = w.unnamed;
              objects = items-settled w.catalogue.items w.listing iri came w.objects;
              read = reads;
            }
        by false is =
            let at_after : source_named (after_step (Settle id iri reading) st).sources s.source.name ≡ Some u =
            ap (λ (p : Stepped). source_named (sources_after p.entries st.sources) s.source.name) is ∙ w.at in
            record {
              catalogue = w.catalogue;
              failed = w.failed;
              lists = w.lists;
              g = w.g;
              runs = subst (Running before s job (after_step (Settle id iri reading) st))
                  (ap (λ (p : Stepped). cond (is_accepted p.reply) (cond (bytes_eq id id) more w.g) w.g) is)
                  (next u at_after refl);
              listing = w.listing;
              at = at_after;
              items = w.items;
              unnamed = w.unnamed;
              objects = w.objects;
              read = w.read;
            }

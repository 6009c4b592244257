-- The beginning of a job in a round: its catalogue is listed, or the job breaks.
use Rattle.std.proofs.Common.{◌≡◌, ◌∙◌, ℕ, Bool, true, false, not, cond, List, [], ◌∷◌, Option, Some, None, Ok}
use Rattle.std.proofs.Common.{Err, refl, sym, ap, subst}
use Rattle.std.specs.Prelude.{filter, find, is_some, option_map}
use Rattle.std.specs.Option.{option_map_or}
use Rattle.std.specs.Str.{bytes_eq}
use Rattle.std.proofs.lemmas.Slice.Eq.{bytes_eq-Decides}
use Rattle.packages.specs.declared.package.Package.{Package}
use Rattle.harvest_readings.specs.Harvests.{Documents, catalogue_at}
use Rattle.harvest_readings.specs.declared.catalogue.Catalogue.{Catalogue}
use Rattle.harvest_results.specs.Effects.{HarvestState, after_step, change_of_step, is_of_source, with_put, without}
use Rattle.harvest_results.specs.Histories.{Gathered, gathers_for, nothing_gathered}
use Rattle.harvest_results.specs.Readings.CatalogueReading.{Broken as broken_reading}
use Rattle.harvest_results.specs.Results.{datasets_after}
use Rattle.harvest_results.proofs.ChangeLemmas.{without-none}
use Rattle.harvest_results.proofs.PhaseLemmas.{Waits, has_jobs}
use Rattle.harvest_results.proofs.SourceEntryLemmas.{IsIn-named, named-changed, open-replaced, same_source}
use Rattle.harvest_sources.specs.Entries.{PutJob, PutListing, SourceEntry, sources_after, with_job, with_listing}
use Rattle.harvest_sources.specs.Jobs.{blank_report, id_of_job, in_state, job_id}
use Rattle.harvest_sources.specs.Listings.{listing_of}
use Rattle.harvest_sources.specs.Sources.{HasItsJobs, SourceState, open_job, source_named}
use Rattle.harvest_sources.specs.Steps.{Stepped, begun, broken, has_new, idle, is_accepted, listed, on_job, with_open_job}
use Rattle.harvest_sources.specs.declared.cause.Cause.{Cause}
use Rattle.harvest_sources.specs.declared.job.Job.{Job}
use Rattle.harvest_sources.specs.declared.job.JobState.TheVariants as state
use Rattle.harvest_sources.specs.declared.job.SourceReport.{SourceReport}
use Rattle.harvest_sources.specs.declared.listing.Listing.{Listing}
use Rattle.harvest_sources.specs.declared.step.Step.TheVariants.{Begin, List as list, Break}
use Rattle.harvest_sources.specs.declared.step.StepReply.TheVariants.{Already, Done, Ended, Gather, Nothing}
use Rattle.harvest_pool.specs.Rounds.{report_of}
use Rattle.harvest_pool.specs.WholeRounds.{all_read, own_datasets, report_on, source_read, with_job_ended}
use Rattle.harvest_pool.proofs.Done.{AllFit}
use Rattle.harvest_pool.proofs.EndedLemmas.{left-is}
use Rattle.harvest_pool.proofs.GatheredLemmas.{items-listed}
use Rattle.harvest_pool.proofs.HarvestingLemmas.{Over, Reads, Untouched, listed_source, next-runs, opened, own-fit}
use Rattle.harvest_pool.proofs.PastLemmas.{Running, never-begins}
use Rattle.harvest_pool.proofs.SourceLemmas.{open-found}
use Rattle.harvest_pool.proofs.StageLemmas.{Begun, begun_source}

module _ (documents : Documents) (before : HarvestState) (s : SourceState) (job : Job) (Told : SourceReport → Type 0)
    (jobs : HasItsJobs s) (opens : open_job s ≡ Some job) (is_id : id_of_job job ≡ job_id s.source.name job.number)
    (own : job.source ≡ s.source.name) (unlisted : s.listing ≡ None) (st : HarvestState) (fit : AllFit st)
    (fit_begun : AllFit (after_step Begin st)) (w : Untouched before s st) (url : List ℕ)
    (answered : Gather (id_of_job job) url ≡ (change_of_step Begin st).reply)
    (b : Begun st.sources (id_of_job job) url (on_job Nothing begun (find has_new st.sources)).entries)
    (here : b.at.source.name ≡ s.source.name) where
  abbrev id : List ℕ
  id = id_of_job job

  abbrev name : List ℕ
  name = s.source.name

  abbrev one : HarvestState
  one = after_step Begin st

  abbrev u : SourceState
  u = begun_source job s

  same_at : b.at ≡ s
  same_at = same_source st.sources name s b.at fit.sources w.at b.there here

  same_job : b.job ≡ job
  same_job =
      let both : Some b.job ≡ Some job = sym b.opens ∙ ap open_job same_at ∙ opens in cc

  -- the source's job runs
  at_begun : source_named one.sources name ≡ Some u
  at_begun =
      ap (λ (entries : List SourceEntry). source_named (sources_after entries st.sources) name) b.put
      ∙ named-changed name b.job.source (with_job (in_state state.Running b.job)) st.sources s (λ t. refl) w.at
      (ap (λ (j : Job). j.source) same_job ∙ own)
      ∙ ap (λ (j : Job). Some (with_job (in_state state.Running j) s)) same_job

  kept : (c : Bool) (ds : List Package)
      → filter (is_of_source name) (without (cond c [] []) (with_put (cond c None None) ds))
      ≡ filter (is_of_source name) ds
  kept true ds = ap (filter (is_of_source name)) (without-none ds)
  kept false ds = ap (filter (is_of_source name)) (without-none ds)

  datasets_begun : own_datasets name one.datasets ≡ own_datasets name st.datasets
  datasets_begun = kept (is_accepted (change_of_step Begin st).reply) st.datasets

  running : Running before s job one nothing_gathered
  running =
      let now = own-fit documents before s job Told jobs opens is_id st s fit w.at refl in
      let then = own-fit documents before s job Told jobs opens is_id one u fit_begun at_begun refl in
      record {
        begun_in = st;
        past = [];
        harvest = record {
          fit = now.0;
          begun = sym (ap (gathers_for id) answered) ∙ (bytes_eq-Decides id id).1 refl;
          of_source = ap (option_map (λ (t : SourceState). t.source))
              (open-found st.sources s job id fit.sources (IsIn-named st.sources name s w.at).0 opens refl);
          fit_begun = then.0;
          events = tt;
          once = tt;
        };
        names = then.1;
        now = refl;
        old = w.datasets;
        gathers = refl;
        holds = record {
          at = u;
          named = at_begun;
          own = refl;
          phase = Waits (in_state state.Running job) (opened documents before s job Told jobs opens is_id) refl unlisted
              refl datasets_begun;
        };
      }

  found_begun : with_open_job one.sources id ≡ Some u
  found_begun =
      open-found one.sources u (in_state state.Running job) id fit_begun.sources
      (IsIn-named one.sources name u at_begun).0 (opened documents before s job Told jobs opens is_id) refl

  -- ---- a catalogue that is read

  module _ (catalogue : Catalogue) (failed : Bool) (lists : catalogue_at documents failed s.source.url ≡ Ok catalogue)
      (fit_listed : AllFit (after_step (list id catalogue.items catalogue.unnamed) one)) where
    abbrev listing : Listing
    listing = listing_of name catalogue.items catalogue.unnamed

    abbrev put_listing : Stepped
    put_listing = record { entries = PutListing name (Some listing) ∷ []; reply = Done }

    listed-is : on_job Already (listed catalogue.items catalogue.unnamed) (with_open_job one.sources id) ≡ put_listing
    listed-is =
        ap (on_job Already (listed catalogue.items catalogue.unnamed)) found_begun
        ∙ ap (λ (o : Option Job). option_map_or (listed catalogue.items catalogue.unnamed u) o (idle Already))
        (opened documents before s job Told jobs opens is_id)
        ∙ ap (λ (l : Option Listing). cond (not (is_some l)) put_listing (idle Already)) unlisted

    at_listed : source_named (after_step (list id catalogue.items catalogue.unnamed) one).sources name
        ≡ Some (listed_source listing job s)
    at_listed =
        ap (λ (p : Stepped). source_named (sources_after p.entries one.sources) name) listed-is
        ∙ named-changed name name (with_listing (Some listing)) one.sources u (λ t. refl) at_begun refl

    abbrev listed_gathered : Gathered
    listed_gathered = record { items = catalogue.items; unnamed = catalogue.unnamed; settled = [] }

    pub started : Reads documents before s job (after_step (list id catalogue.items catalogue.unnamed) one)
    started = record {
      catalogue = catalogue;
      failed = failed;
      lists = lists;
      g = listed_gathered;
      runs = subst
          (Running before s job (after_step (list id catalogue.items catalogue.unnamed) one))
          (ap (λ (p : Stepped). cond (is_accepted p.reply) (cond (bytes_eq id id) listed_gathered nothing_gathered)
          nothing_gathered) listed-is
          ∙ ap (λ (c : Bool). cond c listed_gathered nothing_gathered) ((bytes_eq-Decides id id).1 refl))
          (next-runs documents before s job Told jobs opens is_id (list id catalogue.items catalogue.unnamed) one
          nothing_gathered u (listed_source listing job s) fit_begun fit_listed at_begun refl at_listed refl
          (never-begins id one (list id catalogue.items catalogue.unnamed) refl) running);
      listing = listing;
      at = at_listed;
      items = refl;
      unnamed = refl;
      objects = items-listed name catalogue.items catalogue.unnamed;
      read = λ read m. absurd m;
    }

  -- ---- a catalogue that can't be read

  module _ (cause : Cause) (failed : Bool) (why : catalogue_at documents failed s.source.url ≡ Err cause)
      (tells : (report : SourceReport) → report_of (change_of_step (Break id cause) one).reply ≡ Some report
      → Told report) where
    abbrev broken_job : Job
    broken_job = in_state (state.Broken cause) (in_state state.Running job)

    abbrev report : SourceReport
    report = blank_report job.source (state.Broken cause)

    abbrev put_broken : Stepped
    put_broken = record { entries = PutJob broken_job ∷ []; reply = Ended report }

    broken-is : on_job Already (broken cause) (with_open_job one.sources id) ≡ put_broken
    broken-is =
        ap (on_job Already (broken cause)) found_begun
        ∙ ap (λ (o : Option Job). option_map_or (broken cause u) o (idle Already))
        (opened documents before s job Told jobs opens is_id)
        ∙ ap (λ (l : Option Listing). cond (not (is_some l)) put_broken (idle Already)) unlisted

    abbrev none_failed : List ℕ → Bool
    none_failed iri = false

    read : source_read documents failed none_failed s.source ≡ broken_reading cause
    read = ap (all_read documents none_failed s.source) why

    reported : report ≡ report_on name (own_datasets name before.datasets) (source_read documents failed none_failed s.source)
    reported =
        ap (λ (n : List ℕ). blank_report n (state.Broken cause)) own
        ∙ sym (ap (report_on name (own_datasets name before.datasets)) read)

    pub broke : Over documents before s Told (after_step (Break id cause) one)
    broke = record {
      failed = failed;
      has_failed = none_failed;
      left = with_job broken_job u;
      at = ap (λ (p : Stepped). source_named (sources_after p.entries one.sources) name) broken-is
          ∙ named-changed name job.source (with_job broken_job) one.sources u (λ t. refl) at_begun own;
      closed = open-replaced u (in_state state.Running job) broken_job
          (has_jobs one.sources fit_begun.sources u (IsIn-named one.sources name u at_begun).0)
          (opened documents before s job Told jobs opens is_id) refl;
      is = ap (λ (l : Option Listing). with_listing l (with_job broken_job u)) unlisted
          ∙ left-is s job report jobs opens
          ∙ ap (λ (r : SourceReport). with_job_ended r s) reported;
      datasets = kept (is_accepted (change_of_step (Break id cause) one).reply) one.datasets
          ∙ datasets_begun
          ∙ w.datasets
          ∙ sym (ap (datasets_after (own_datasets name before.datasets)) read);
      told = subst Told reported (tells report (ap (λ (p : Stepped). report_of p.reply) broken-is));
    }

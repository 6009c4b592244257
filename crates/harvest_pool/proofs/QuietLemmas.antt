-- A step is about one source. It leaves all others, with their datasets.
use Rattle.std.proofs.Common.{◌≡◌, ◌≢◌, ◌∙◌, ℕ, Bool, true, false, not, ◌&&◌, cond, List, [], ◌∷◌, Option, Some, None, refl}
use Rattle.std.proofs.Common.{sym, ap, true≢false}
use Rattle.std.specs.Prelude.{filter, find, is_some, option_and_then}
use Rattle.std.specs.List.{list_all}
use Rattle.std.specs.Option.{option_map_or}
use Rattle.std.specs.Str.{bytes_eq}
use Rattle.std.proofs.lemmas.Slice.Eq.{bytes_eq-Decides}
use Rattle.portal_base.proofs.Unique.{Contains-IsIn, IsIn}
use Rattle.packages.specs.declared.package.Package.{Package}
use Rattle.packages.proofs.FindLemmas.{IsIn-find}
use Rattle.harvest_sources.specs.Entries.{PutJob, PutListing, sources_after, with_job, with_listing}
use Rattle.harvest_sources.specs.Jobs.{blank_report, id_of_job, in_state, is_new, is_running, with_report}
use Rattle.harvest_sources.specs.Listings.{finished_report, first_waiting, is_done, listing_of, with_progress}
use Rattle.harvest_sources.specs.Sources.{SourceState, is_listed, open_job, source_named}
use Rattle.harvest_sources.specs.Steps.{Stepped, begun, broken, claimed, claimed_from, claimed_in, count_deleted, ended}
use Rattle.harvest_sources.specs.Steps.{ended_with, has_new, idle, is_accepted, is_unsettled, listed, on_job, outcome_of}
use Rattle.harvest_sources.specs.Steps.{settled, settled_in, with_open_job}
use Rattle.harvest_sources.specs.declared.cause.Cause.{Cause}
use Rattle.harvest_sources.specs.declared.job.Job.{Job}
use Rattle.harvest_sources.specs.declared.job.JobState.TheVariants as state
use Rattle.harvest_sources.specs.declared.listing.Listing.{Listing}
use Rattle.harvest_sources.specs.declared.listing.Outcome.{Outcome}
use Rattle.harvest_sources.specs.declared.listing.Progress.TheVariants.{Claimed, Done as is_done_as}
use Rattle.harvest_sources.specs.declared.reading.Reading.{Reading}
use Rattle.harvest_sources.specs.declared.reading.Reading.TheVariants.{Good, Bad}
use Rattle.harvest_sources.specs.declared.source.HarvestSource.{HarvestSource}
use Rattle.harvest_sources.specs.declared.step.Item.{Item}
use Rattle.harvest_sources.specs.declared.step.Step.{Step}
use Rattle.harvest_sources.specs.declared.step.Step.TheVariants.{NewRound, Begin, List as list, Break, Claim, Settle, End}
use Rattle.harvest_sources.specs.declared.step.StepReply.{StepReply}
use Rattle.harvest_sources.specs.declared.step.StepReply.TheVariants.{Nothing, Done, Ended, Already}
use Rattle.harvest_results.specs.Effects.{HarvestState, after_step, dataset_read, effect_of, gone_from, gone_of, read_in}
use Rattle.harvest_results.specs.Effects.{is_of_source, with_put, without}
use Rattle.harvest_results.specs.Harvested.{harvested_dataset}
use Rattle.harvest_results.proofs.ChangeLemmas.{gone-apart, put-apart, without-none}
use Rattle.harvest_results.proofs.PhaseLemmas.{after_of, has_jobs}
use Rattle.harvest_results.proofs.ResultLemmas.{IsOwn-harvested}
use Rattle.harvest_results.proofs.SettlingLemmas.{harvested-name}
use Rattle.harvest_results.proofs.SourceEntryLemmas.{job_named, named-apart, same_source}
use Rattle.harvest_pool.specs.WholeRounds.{own_datasets}
use Rattle.harvest_pool.proofs.Done.{AllFit}
use Rattle.harvest_pool.proofs.StageLemmas.{waits}

-- the source that a step is about
abbrev pub target : Step → List SourceState → Option SourceState
target NewRound ss = None
target Begin ss = find has_new ss
target (list job items unnamed) ss = with_open_job ss job
target (Break job cause) ss = with_open_job ss job
target Claim ss = find waits ss
target (Settle job iri reading) ss = with_open_job ss job
target (End job) ss = with_open_job ss job

-- The step is about no source of that name.
abbrev pub IsElsewhere : Step → List SourceState → List ℕ → Type 0
IsElsewhere step ss name = (t : SourceState) → target step ss ≡ Some t → t.source.name ≢ name

-- the step begins a round
abbrev pub is_round : Step → Bool
is_round NewRound = true
is_round Begin = false
is_round (list job items unnamed) = false
is_round (Break job cause) = false
is_round Claim = false
is_round (Settle job iri reading) = false
is_round (End job) = false

-- The source of that name and its datasets are in both states the same.
abbrev pub IsSpared : List ℕ → HarvestState → HarvestState → Type 0
IsSpared name st after =
    (source_named after.sources name ≡ source_named st.sources name)
    × (own_datasets name after.datasets ≡ own_datasets name st.datasets)

-- The source has an open job that passes.
pub opened-by : (p : Job → Bool) (t : SourceState) → option_map_or p (open_job t) false ≡ true
    → (job : Job) × (open_job t ≡ Some job)
opened-by p t passes = by (open_job t) refl passes
  where
    by : (o : Option Job) → open_job t ≡ o → option_map_or p o false ≡ true → (job : Job) × (open_job t ≡ Some job)
    by None is e = absurd (true≢false (sym e))
    by (Some job) is e = (job, is)

module _ (name : List ℕ) (st : HarvestState) (fit : AllFit st) where
  still : (p : Stepped) → source_named (sources_after p.entries st.sources) name ≡ source_named st.sources name
      → IsSpared name st (after_of p None [] st)
  still p same = (same, by (is_accepted p.reply))
    where
      by : (b : Bool)
          → filter (is_of_source name) (without (cond b [] []) (with_put (cond b None None) st.datasets))
          ≡ filter (is_of_source name) st.datasets
      by true = ap (filter (is_of_source name)) (without-none st.datasets)
      by false = ap (filter (is_of_source name)) (without-none st.datasets)

  -- a step that changes nothing
  idle-still : (otherwise : StepReply) (put : Option Package) (gone : List Package) → is_accepted otherwise ≡ false
      → IsSpared name st (after_of (idle otherwise) put gone st)
  idle-still otherwise put gone none = (
    refl,
    ap (λ (b : Bool). filter (is_of_source name) (without (cond b gone []) (with_put (cond b put None) st.datasets))) none
        ∙ ap (filter (is_of_source name)) (without-none st.datasets),
  )

  -- a step on the source that is found
  on-found : (test : SourceState → Bool) (otherwise : StepReply) (f : SourceState → Job → Stepped)
      (put : Option SourceState → Option Package) (gone : Option SourceState → List Package)
      → is_accepted otherwise ≡ false
      → ((t : SourceState) → find test st.sources ≡ Some t → t.source.name ≢ name)
      → ((t : SourceState) (job : Job) → IsIn t st.sources → open_job t ≡ Some job → t.source.name ≢ name
      → IsSpared name st (after_of (f t job) (put (Some t)) (gone (Some t)) st))
      → IsSpared name st
      (after_of (on_job otherwise f (find test st.sources)) (put (find test st.sources)) (gone (find test st.sources)) st)
  on-found test otherwise f put gone none apart each = by (find test st.sources) refl
    where
      at_open : (t : SourceState) → find test st.sources ≡ Some t → (o : Option Job) → open_job t ≡ o
          → IsSpared name st
          (after_of (option_map_or (f t) o (idle otherwise)) (put (Some t)) (gone (Some t)) st)
      at_open t is None opens = idle-still otherwise (put (Some t)) (gone (Some t)) none
      at_open t is (Some job) opens = each t job (IsIn-find test t st.sources is).0 opens (apart t is)

      by : (o : Option SourceState) → find test st.sources ≡ o
          → IsSpared name st (after_of (on_job otherwise f o) (put o) (gone o) st)
      by None is = idle-still otherwise (put None) (gone None) none
      by (Some t) is = at_open t is (open_job t) refl

  -- a job of another source is put
  put-job : (t : SourceState) (job next : Job) → IsIn t st.sources → open_job t ≡ Some job → t.source.name ≢ name
      → next.source ≡ job.source → (ss : List SourceState)
      → source_named (sources_after (PutJob next ∷ []) ss) name ≡ source_named ss name
  put-job t job next m opens apart same ss =
      named-apart name next.source (with_job next) ss (λ s. refl)
      (λ e. apart (sym (job_named t job (has_jobs st.sources fit.sources t m) opens) ∙ sym same ∙ e))

  listed-still : (t : SourceState) (job : Job) (items : List Item) (unnamed : ℕ) → t.source.name ≢ name
      → IsSpared name st (after_of (listed items unnamed t job) None [] st)
  listed-still t job items unnamed apart = by (is_running job && not (is_listed t))
    where
      p : Stepped
      p = record {
        entries = PutListing t.source.name (Some (listing_of t.source.name items unnamed)) ∷ [];
        reply = Done;
      }

      by : (b : Bool) → IsSpared name st (after_of (cond b p (idle Already)) None [] st)
      by true =
          still p
          (named-apart name t.source.name (with_listing (Some (listing_of t.source.name items unnamed))) st.sources
          (λ s. refl) apart)
      by false = still (idle Already) refl

  broken-still : (t : SourceState) (job : Job) (cause : Cause) → IsIn t st.sources → open_job t ≡ Some job
      → t.source.name ≢ name → IsSpared name st (after_of (broken cause t job) None [] st)
  broken-still t job cause m opens apart = by (is_running job && not (is_listed t))
    where
      p : Stepped
      p = record {
        entries = PutJob (in_state (state.Broken cause) job) ∷ [];
        reply = Ended (blank_report job.source (state.Broken cause));
      }

      by : (b : Bool) → IsSpared name st (after_of (cond b p (idle Already)) None [] st)
      by true = still p (put-job t job (in_state (state.Broken cause) job) m opens apart refl st.sources)
      by false = still (idle Already) refl

  claimed-still : (t : SourceState) (job : Job) → t.source.name ≢ name
      → IsSpared name st (after_of (claimed t job) None [] st)
  claimed-still t job apart = by t.listing
    where
      at_item : (listing : Listing) (o : Option Item)
          → IsSpared name st (after_of (option_map_or (claimed_in t job listing) o (idle Nothing)) None [] st)
      at_item listing None = still (idle Nothing) refl
      at_item listing (Some item) =
          still (claimed_in t job listing item)
          (named-apart name t.source.name (with_listing (Some (with_progress item.iri (Claimed item.found) listing)))
          st.sources (λ s. refl) apart)

      by : (l : Option Listing) → IsSpared name st (after_of (claimed_from t job l) None [] st)
      by None = still (idle Nothing) refl
      by (Some listing) = at_item listing (first_waiting listing)

  -- The dataset of another source's object isn't one of this name, and has the id of none.
  read-still : (t : SourceState) (iri : List ℕ) (reading : Reading) → IsIn t st.sources → t.source.name ≢ name
      → filter (is_of_source name) (without [] (with_put (dataset_read t iri reading) st.datasets))
      ≡ filter (is_of_source name) st.datasets
  read-still t iri (Bad cause) m apart = ap (filter (is_of_source name)) (without-none st.datasets)
  read-still t iri (Good r) m apart =
      ap (filter (is_of_source name)) (without-none (with_put (Some d) st.datasets))
      ∙ put-apart other d st.datasets (fit.fit t m).ascending
      (λ e. apart (sym (IsOwn-harvested t.source iri r).of_source ∙ e))
      (λ e n ids of_name. apart (sym ((fit.fit t m).apart e iri (Contains-IsIn e st.datasets n)
      (ids ∙ (IsOwn-harvested t.source iri r).id_is_name ∙ harvested-name t.source iri r)) ∙ of_name))
    where
      d : Package
      d = harvested_dataset t.source iri r

      other : HarvestSource
      other = record t.source { name = name }

  settled-still : (t : SourceState) (iri : List ℕ) (reading : Reading) (o : Outcome) → IsIn t st.sources
      → t.source.name ≢ name
      → IsSpared name st (after_of (settled_in iri o t t.listing) (dataset_read t iri reading) [] st)
  settled-still t iri reading o m apart = by t.listing
    where
      p : Listing → Stepped
      p listing = record {
        entries = PutListing t.source.name (Some (with_progress iri (is_done_as o) listing)) ∷ [];
        reply = Done;
      }

      at_iri : (listing : Listing) (b : Bool)
          → IsSpared name st (after_of (cond b (p listing) (idle Already)) (dataset_read t iri reading) [] st)
      at_iri listing true = (
        named-apart name t.source.name (with_listing (Some (with_progress iri (is_done_as o) listing))) st.sources
            (λ s. refl) apart,
        read-still t iri reading m apart,
      )
      at_iri listing false = idle-still Already (dataset_read t iri reading) [] refl

      by : (l : Option Listing)
          → IsSpared name st (after_of (settled_in iri o t l) (dataset_read t iri reading) [] st)
      by None = idle-still Already (dataset_read t iri reading) [] refl
      by (Some listing) = at_iri listing (is_unsettled iri listing)

  ended-still : (t : SourceState) (job : Job) (deleted : ℕ) → IsIn t st.sources → open_job t ≡ Some job
      → t.source.name ≢ name
      → IsSpared name st
      (after_of (ended deleted t job) None (gone_from t.source.name t.listing st.datasets) st)
  ended-still t job deleted m opens apart = by t.listing
    where
      p : Listing → Stepped
      p listing = record {
        entries =
            PutListing t.source.name None ∷ PutJob (with_report (finished_report job.source listing deleted) job) ∷ [];
        reply = Ended (finished_report job.source listing deleted);
      }

      other : HarvestSource
      other = record t.source { name = name }

      if_done : (listing : Listing) (b : Bool)
          → IsSpared name st
          (after_of (cond b (p listing) (idle Already)) None (gone_from t.source.name (Some listing) st.datasets) st)
      if_done listing true = (
        put-job t job (with_report (finished_report job.source listing deleted) job) m opens apart refl
            (sources_after (PutListing t.source.name None ∷ []) st.sources)
            ∙ named-apart name t.source.name (with_listing None) st.sources (λ s. refl) apart,
        gone-apart other t.source.name listing st.datasets (fit.fit t m).ascending apart,
      )
      if_done listing false = idle-still Already None (gone_from t.source.name (Some listing) st.datasets) refl

      by : (l : Option Listing)
          → IsSpared name st (after_of (ended_with deleted t job l) None (gone_from t.source.name l st.datasets) st)
      by None = idle-still Already None [] refl
      by (Some listing) = if_done listing (list_all is_done listing.objects)

  -- A step that is about another source leaves this one.
  pub quiet : (step : Step) → is_round step ≡ false → IsElsewhere step st.sources name
      → IsSpared name st (after_step step st)
  quiet NewRound e spares = absurd (true≢false e)
  quiet Begin e spares =
      on-found has_new Nothing begun (λ o. None) (λ o. []) refl spares
      (λ t job m opens apart. still (begun t job)
      (put-job t job (in_state state.Running job) m opens apart refl st.sources))
  quiet (list job items unnamed) e spares =
      on-found (λ (s : SourceState). option_map_or (λ (j : Job). bytes_eq (id_of_job j) job) (open_job s) false) Already
      (listed items unnamed) (λ o. None) (λ o. []) refl spares
      (λ t j m opens apart. listed-still t j items unnamed apart)
  quiet (Break job cause) e spares =
      on-found (λ (s : SourceState). option_map_or (λ (j : Job). bytes_eq (id_of_job j) job) (open_job s) false) Already
      (broken cause) (λ o. None) (λ o. []) refl spares
      (λ t j m opens apart. broken-still t j cause m opens apart)
  quiet Claim e spares =
      on-found waits Nothing claimed (λ o. None) (λ o. []) refl spares
      (λ t job m opens apart. claimed-still t job apart)
  quiet (Settle job iri reading) e spares =
      on-found (λ (s : SourceState). option_map_or (λ (j : Job). bytes_eq (id_of_job j) job) (open_job s) false) Already
      (settled iri (outcome_of reading (effect_of (Settle job iri reading) st))) (read_in iri reading) (λ o. []) refl
      spares
      (λ t j m opens apart. settled-still t iri reading (outcome_of reading (effect_of (Settle job iri reading) st)) m
      apart)
  quiet (End job) e spares =
      on-found (λ (s : SourceState). option_map_or (λ (j : Job). bytes_eq (id_of_job j) job) (open_job s) false) Already
      (ended (count_deleted (effect_of (End job) st))) (λ o. None) (λ o. gone_of o st.datasets) refl spares
      (λ t j m opens apart. ended-still t j (count_deleted (effect_of (End job) st)) m opens apart)

  -- ---- which steps leave a source

  listed_if_waits : (l : Option Listing) → is_some (option_and_then first_waiting l) ≡ true → is_some l ≡ true
  listed_if_waits None e = e
  listed_if_waits (Some listing) e = refl

  found-in : (t : SourceState) (id : List ℕ) → with_open_job st.sources id ≡ Some t → IsIn t st.sources
  found-in t id is =
      (IsIn-find (λ (s : SourceState). option_map_or (λ (j : Job). bytes_eq (id_of_job j) id) (open_job s) false) t
      st.sources is).0

  found-open : (t : SourceState) (id : List ℕ) → with_open_job st.sources id ≡ Some t
      → (job : Job) × (open_job t ≡ Some job) × (id_of_job job ≡ id)
  found-open t id is =
      by (open_job t) refl
      (IsIn-find (λ (s : SourceState). option_map_or (λ (j : Job). bytes_eq (id_of_job j) id) (open_job s) false) t
      st.sources is).1
    where
      by : (o : Option Job) → open_job t ≡ o → option_map_or (λ (j : Job). bytes_eq (id_of_job j) id) o false ≡ true
          → (job : Job) × (open_job t ≡ Some job) × (id_of_job job ≡ id)
      by None opens e = absurd (true≢false (sym e))
      by (Some job) opens e = (job, opens, (bytes_eq-Decides (id_of_job job) id).0 e)

  pub target-open : (step : Step) (t : SourceState) → target step st.sources ≡ Some t
      → IsIn t st.sources × ((job : Job) × (open_job t ≡ Some job))
  target-open NewRound t is = absurd (cc)
  target-open Begin t is =
      let there = IsIn-find has_new t st.sources is in (there.0, opened-by is_new t there.1)
  target-open (list job items unnamed) t is =
      let w = found-open t job is in (found-in t job is, (w.0, w.1))
  target-open (Break job cause) t is = let w = found-open t job is in (found-in t job is, (w.0, w.1))
  target-open Claim t is =
      let there = IsIn-find waits t st.sources is in (
        there.0,
        opened-by is_running t ((has_jobs st.sources fit.sources t there.0).runs (listed_if_waits t.listing there.1)),
      )
  target-open (Settle job iri reading) t is = let w = found-open t job is in (found-in t job is, (w.0, w.1))
  target-open (End job) t is = let w = found-open t job is in (found-in t job is, (w.0, w.1))

  module _ (u : SourceState) (named : source_named st.sources name ≡ Some u) where
    -- no other source has the name
    itself : (t : SourceState) → IsIn t st.sources → t.source.name ≡ name → t ≡ u
    itself t m same = same_source st.sources name u t fit.sources named m same

    -- No step is about a source without an open job.
    pub closed-elsewhere : open_job u ≡ None → (step : Step) → IsElsewhere step st.sources name
    closed-elsewhere none step t is same =
        let w = target-open step t is in
        let no : open_job t ≡ None = ap open_job (itself t w.0 same) ∙ none in
        let yes : open_job t ≡ Some w.1.0 = w.1.1 in
        absurd (cc)

    -- A step on the job of another id is about another source.
    pub other-elsewhere : (job : Job) → open_job u ≡ Some job → (other : List ℕ) → id_of_job job ≢ other
        → (t : SourceState) → with_open_job st.sources other ≡ Some t → t.source.name ≢ name
    other-elsewhere job opens other apart t is same =
        let w = found-open t other is in
        let here : open_job t ≡ Some job = ap open_job (itself t (found-in t other is) same) ∙ opens in
        let there : open_job t ≡ Some w.0 = w.1 in
        let alike : job ≡ w.0 = cc in
        apart (ap id_of_job alike ∙ w.2)

    -- A job that isn't new doesn't begin.
    pub old-elsewhere : has_new u ≡ false → IsElsewhere Begin st.sources name
    old-elsewhere old t is same =
        let there = IsIn-find has_new t st.sources is in
        true≢false (sym there.1 ∙ ap has_new (itself t there.0 same) ∙ old)

    -- No object of a source is claimed that isn't listed.
    pub unlisted-elsewhere : u.listing ≡ None → IsElsewhere Claim st.sources name
    unlisted-elsewhere none t is same =
        let there = IsIn-find waits t st.sources is in
        true≢false (sym there.1 ∙ ap waits (itself t there.0 same)
        ∙ ap (λ (l : Option Listing). is_some (option_and_then first_waiting l)) none)

-- The steps of a round take a source with a new job from before its job to its end.
use Rattle.std.proofs.Common.{◌≡◌, ◌≢◌, ◌∙◌, ◌⊎◌, ℕ, Bool, true, false, cond, List, [], ◌∷◌, Option, Some, None, Result, Ok}
use Rattle.std.proofs.Common.{Err, refl, sym, ap, subst, inl, inr, true≢false}
use Rattle.std.specs.Prelude.{find, is_some, option_and_then}
use Rattle.std.specs.List.{flat_map}
use Rattle.std.specs.Option.{option_map_or}
use Rattle.std.specs.Str.{bytes_eq}
use Rattle.std.proofs.lemmas.Slice.Eq.{bytes_eq-Decides}
use Rattle.portal_base.proofs.Unique.{IsIn}
use Rattle.packages.proofs.FindLemmas.{IsIn-find, fails, find-none}
use Rattle.harvest_readings.specs.Harvests.{Documents, catalogue_at}
use Rattle.harvest_readings.specs.declared.catalogue.Catalogue.{Catalogue}
use Rattle.harvest_results.specs.Effects.{HarvestState, after_step, change_of_step}
use Rattle.harvest_results.specs.Histories.{Gathered}
use Rattle.harvest_results.proofs.JobIdLemmas.{job_id-source}
use Rattle.harvest_results.proofs.PhaseLemmas.{has_jobs, which}
use Rattle.harvest_results.proofs.SourceEntryLemmas.{IsIn-named, job_named, same_source}
use Rattle.harvest_sources.specs.Jobs.{id_of_job, in_state, is_new, job_id}
use Rattle.harvest_sources.specs.Listings.{first_waiting}
use Rattle.harvest_sources.specs.Sources.{HasItsJobs, SourceState, open_job}
use Rattle.harvest_sources.specs.Steps.{begun, claimed, claimed_from, claimed_in, has_new, idle, on_job}
use Rattle.harvest_sources.specs.Steps.{with_open_job}
use Rattle.harvest_sources.specs.declared.cause.Cause.{Cause}
use Rattle.harvest_sources.specs.declared.job.Job.{Job}
use Rattle.harvest_sources.specs.declared.job.JobState.TheVariants as state
use Rattle.harvest_sources.specs.declared.job.SourceReport.{SourceReport}
use Rattle.harvest_sources.specs.declared.listing.Listing.{Listing}
use Rattle.harvest_sources.specs.declared.step.Item.{Item}
use Rattle.harvest_sources.specs.declared.step.Step.TheVariants.{Begin, List as list, Break, Claim, Settle, End}
use Rattle.harvest_sources.specs.declared.step.StepReply.{StepReply}
use Rattle.harvest_sources.specs.declared.step.StepReply.TheVariants.{Gather, Nothing}
use Rattle.harvest_pool.specs.Made.{AreAnswered, state_after}
use Rattle.harvest_pool.specs.Rounds.{CatalogueRead, IsCatalogueOf, IsReadingOf, JobEnded, ObjectSettled}
use Rattle.harvest_pool.specs.Rounds.{is_gather, is_object, report_of}
use Rattle.harvest_pool.specs.Rounds.{step_of_catalogue, steps_of_catalogue, steps_of_ends}
use Rattle.harvest_pool.specs.Rounds.{steps_of_object}
use Rattle.harvest_pool.proofs.Done.{AllFit}
use Rattle.harvest_pool.proofs.EndedLemmas.{reads-ended}
use Rattle.harvest_pool.proofs.FitLemmas.{all_fit-after}
use Rattle.harvest_pool.proofs.HarvestingLemmas.{Over, Reads, Untouched, listed_source, opened, over-on, reads-claimed, reads-on}
use Rattle.harvest_pool.proofs.HarvestingLemmas.{reads-settled, untouched-on}
use Rattle.harvest_pool.proofs.PastLemmas.{begins-elsewhere, never-begins}
use Rattle.harvest_pool.proofs.QuietLemmas.{IsElsewhere, old-elsewhere, is_round, other-elsewhere, target-open}
use Rattle.harvest_pool.proofs.StageLemmas.{Begun, ClaimedOne, begun-job, claimed-one, waits}
use Rattle.harvest_pool.proofs.StartedLemmas.{broke, started}

-- the report of the answer, if it has one, is told
abbrev pub Tells : (SourceReport → Type 0) → StepReply → Type 0
Tells Told answer = (report : SourceReport) → report_of answer ≡ Some report → Told report

-- The job's catalogue is listed, or the job is over.
abbrev pub Started : Documents → HarvestState → SourceState → Job → (SourceReport → Type 0) → HarvestState → Type 0
Started documents before s job Told st = Reads documents before s job st ⊎ Over documents before s Told st

-- Or it hasn't begun.
abbrev pub Harvesting : Documents → HarvestState → SourceState → Job → (SourceReport → Type 0) → HarvestState → Type 0
Harvesting documents before s job Told st = Untouched before s st ⊎ Started documents before s job Told st

module _ (documents : Documents) (before : HarvestState) (s : SourceState) (job : Job) (Told : SourceReport → Type 0)
    (jobs : HasItsJobs s) (opens : open_job s ≡ Some job) (new : has_new s ≡ true)
    (is_id : id_of_job job ≡ job_id s.source.name job.number) (own : job.source ≡ s.source.name)
    (unlisted : s.listing ≡ None) where
  abbrev id : List ℕ
  id = id_of_job job

  abbrev name : List ℕ
  name = s.source.name

  abbrev running : Job
  running = in_state state.Running job

  opened_job : (w : Listing) → open_job (listed_source w job s) ≡ Some running
  opened_job w = opened documents before s job Told jobs opens is_id

  listed-old : (w : Listing) → has_new (listed_source w job s) ≡ false
  listed-old w = ap (λ (o : Option Job). option_map_or is_new o false) (opened_job w)

  -- a job of another source has another id
  ids-apart : (st : HarvestState) → AllFit st → (t : SourceState) (other : Job) (named : List ℕ) → IsIn t st.sources
      → open_job t ≡ Some other → id_of_job other ≡ named → t.source.name ≢ name → id ≢ named
  ids-apart st fit t other named m opened_so is apart same =
      apart (sym (job_named t other (has_jobs st.sources fit.sources t m) opened_so)
      ∙ job_id-source other.source name other.number job.number (is ∙ sym same ∙ is_id))

  ids-unlike : (other : List ℕ) → id ≢ other → bytes_eq other id ≡ false
  ids-unlike other apart = fails (bytes_eq other id) (λ like. apart (sym ((bytes_eq-Decides other id).0 like)))

  -- ---- a catalogue

  follow-no_round : (other : List ℕ) (read : Result Catalogue Cause) → is_round (step_of_catalogue other read) ≡ false
  follow-no_round other (Ok catalogue) = refl
  follow-no_round other (Err cause) = refl

  follow-elsewhere : (other : List ℕ) (read : Result Catalogue Cause) (one : HarvestState)
      → ((t : SourceState) → with_open_job one.sources other ≡ Some t → t.source.name ≢ name)
      → IsElsewhere (step_of_catalogue other read) one.sources name
  follow-elsewhere other (Ok catalogue) one apart = apart
  follow-elsewhere other (Err cause) one apart = apart

  reads-follow : (other : List ℕ) (read : Result Catalogue Cause) (one : HarvestState) → AllFit one → id ≢ other
      → Reads documents before s job one
      → Reads documents before s job (after_step (step_of_catalogue other read) one)
  reads-follow other (Ok catalogue) one fit apart w =
      reads-on documents before s job Told jobs opens is_id (list other catalogue.items catalogue.unnamed) one fit
      (all_fit-after (list other catalogue.items catalogue.unnamed) one fit) refl
      (never-begins id one (list other catalogue.items catalogue.unnamed) refl)
      (other-elsewhere name one fit (listed_source w.listing job s) w.at running (opened_job w.listing) other apart)
      (λ (g : Gathered). ap (λ (b : Bool). cond b (record g { items = catalogue.items; unnamed = catalogue.unnamed }) g)
      (ids-unlike other apart)) w
  reads-follow other (Err cause) one fit apart w =
      reads-on documents before s job Told jobs opens is_id (Break other cause) one fit
      (all_fit-after (Break other cause) one fit) refl (never-begins id one (Break other cause) refl)
      (other-elsewhere name one fit (listed_source w.listing job s) w.at running (opened_job w.listing) other apart)
      (λ (g : Gathered). refl) w

  -- no other job of the source begins
  reads-begin : (st : HarvestState) → AllFit st → Reads documents before s job st
      → Reads documents before s job (after_step Begin st)
  reads-begin st fit w =
      let apart : IsElsewhere Begin st.sources name =
      old-elsewhere name st fit (listed_source w.listing job s) w.at (listed-old w.listing) in
      reads-on documents before s job Told jobs opens is_id Begin st fit (all_fit-after Begin st fit) refl
      (begins-elsewhere id st fit name job.number is_id apart) apart (λ (g : Gathered). refl) w

  -- the source's own job begins
  own-begin : (st : HarvestState) → AllFit st → Untouched before s st → (other url : List ℕ)
      (read : Result Catalogue Cause) → id ≡ other → Gather other url ≡ (change_of_step Begin st).reply
      → (b : Begun st.sources other url (on_job Nothing begun (find has_new st.sources)).entries)
      → b.at.source.name ≡ name → (failed : Bool) → read ≡ catalogue_at documents failed s.source.url
      → Tells Told (change_of_step (step_of_catalogue other read) (after_step Begin st)).reply
      → Started documents before s job Told (after_step (step_of_catalogue other read) (after_step Begin st))
  own-begin st fit w other url read same =
      subst (λ (j : List ℕ). Gather j url ≡ (change_of_step Begin st).reply
      → (b : Begun st.sources j url (on_job Nothing begun (find has_new st.sources)).entries)
      → b.at.source.name ≡ name → (failed : Bool) → read ≡ catalogue_at documents failed s.source.url
      → Tells Told (change_of_step (step_of_catalogue j read) (after_step Begin st)).reply
      → Started documents before s job Told (after_step (step_of_catalogue j read) (after_step Begin st))) same
      (by read)
    where
      one : HarvestState
      one = after_step Begin st

      by : (r : Result Catalogue Cause) → Gather id url ≡ (change_of_step Begin st).reply
          → (b : Begun st.sources id url (on_job Nothing begun (find has_new st.sources)).entries)
          → b.at.source.name ≡ name → (failed : Bool) → r ≡ catalogue_at documents failed s.source.url
          → Tells Told (change_of_step (step_of_catalogue id r) one).reply
          → Started documents before s job Told (after_step (step_of_catalogue id r) one)
      by (Ok catalogue) answered b here failed is tells =
          inl (started documents before s job Told jobs opens is_id own unlisted st fit (all_fit-after Begin st fit) w url
          answered b here catalogue failed (sym is)
          (all_fit-after (list id catalogue.items catalogue.unnamed) one (all_fit-after Begin st fit)))
      by (Err cause) answered b here failed is tells =
          inr (broke documents before s job Told jobs opens is_id own unlisted st fit (all_fit-after Begin st fit) w url
          answered b here cause failed (sym is) tells)

  catalogue-on : (c : CatalogueRead) (st : HarvestState) → AllFit st → AreAnswered (steps_of_catalogue c) st
      → IsCatalogueOf (Some documents) c → Tells Told c.answer → Harvesting documents before s job Told st
      → Harvesting documents before s job Told (state_after (steps_of_catalogue c) st)
  catalogue-on c st fit answered is tells (inr (inr w)) =
      inr (inr (over-on documents before s job Told jobs opens is_id (step_of_catalogue c.job c.read) (after_step Begin st)
      (all_fit-after Begin st fit) (follow-no_round c.job c.read)
      (over-on documents before s job Told jobs opens is_id Begin st fit refl w)))
  catalogue-on c st fit answered is tells (inr (inl w)) =
      let b = begun-job st.sources c.job c.url answered.0 in
      let apart : b.at.source.name ≢ name =
      old-elsewhere name st fit (listed_source w.listing job s) w.at (listed-old w.listing) b.at b.found in
      inr (inl (reads-follow c.job c.read (after_step Begin st) (all_fit-after Begin st fit)
      (ids-apart st fit b.at b.job c.job b.there b.opens b.named apart) (reads-begin st fit w)))
  catalogue-on c st fit answered is tells (inl w) = by (which b.at.source.name name)
    where
      b : Begun st.sources c.job c.url (on_job Nothing begun (find has_new st.sources)).entries
      b = begun-job st.sources c.job c.url answered.0

      by : (b.at.source.name ≡ name) ⊎ (b.at.source.name ≢ name)
          → Harvesting documents before s job Told (state_after (steps_of_catalogue c) st)
      by (inr apart) =
          let elsewhere : IsElsewhere Begin st.sources name = λ t found.
          let both : Some b.at ≡ Some t = sym b.found ∙ found in
          let same : b.at ≡ t = cc in
          subst (λ (x : SourceState). x.source.name ≢ name) same apart in
          let v = untouched-on documents before s job Told jobs opens is_id Begin st fit refl elsewhere w in
          inl (untouched-on documents before s job Told jobs opens is_id (step_of_catalogue c.job c.read)
          (after_step Begin st) (all_fit-after Begin st fit) (follow-no_round c.job c.read)
          (follow-elsewhere c.job c.read (after_step Begin st)
          (other-elsewhere name (after_step Begin st) (all_fit-after Begin st fit) s v.at job opens c.job
          (ids-apart st fit b.at b.job c.job b.there b.opens b.named apart))) v)
      by (inl here) =
          let same : b.at ≡ s = same_source st.sources name s b.at fit.sources w.at b.there here in
          let both : Some b.job ≡ Some job = sym b.opens ∙ ap open_job same ∙ opens in
          let alike : b.job ≡ job = cc in
          let url : c.url ≡ s.source.url = b.location ∙ ap (λ (t : SourceState). t.source.url) same in
          inr (own-begin st fit w c.job c.url c.read (ap id_of_job (sym alike) ∙ b.named) answered.0 b here is.0
          (is.1 ∙ ap (catalogue_at documents is.0) url) (subst (Tells Told) answered.1.0 tells))

  pub catalogues-on : (cs : List CatalogueRead) (st : HarvestState) → AllFit st
      → AreAnswered (flat_map steps_of_catalogue cs) st
      → ((c : CatalogueRead) → IsIn c cs → IsCatalogueOf (Some documents) c × Tells Told c.answer)
      → Harvesting documents before s job Told st
      → Harvesting documents before s job Told (state_after (flat_map steps_of_catalogue cs) st)
  catalogues-on [] st fit answered each w = w
  catalogues-on (c ∷ cs) st fit answered each w =
      let first = each c (inl refl) in
      catalogues-on cs (state_after (steps_of_catalogue c) st)
      (all_fit-after (step_of_catalogue c.job c.read) (after_step Begin st) (all_fit-after Begin st fit)) answered.1.1
      (λ d m. each d (inr m))
      (catalogue-on c st fit (answered.0, (answered.1.0, tt)) first.0 first.1 w)

  -- Once no job is new, the job has begun.
  pub all-begun : (last : StepReply) (st : HarvestState) → AllFit st → last ≡ (change_of_step Begin st).reply
      → is_gather last ≡ false → Harvesting documents before s job Told st
      → Started documents before s job Told (after_step Begin st)
  all-begun last st fit answered stops (inr (inl w)) = inl (reads-begin st fit w)
  all-begun last st fit answered stops (inr (inr w)) =
      inr (over-on documents before s job Told jobs opens is_id Begin st fit refl w)
  all-begun last st fit answered stops (inl w) =
      absurd (by (find has_new st.sources) refl (ap is_gather (sym answered) ∙ stops))
    where
      at_open : (t : SourceState) → has_new t ≡ true → (o : Option Job) → open_job t ≡ o
          → is_gather (option_map_or (begun t) o (idle Nothing)).reply ≡ false → ⊥
      at_open t is None opened_so e =
          true≢false (sym is ∙ ap (λ (o : Option Job). option_map_or is_new o false) opened_so)
      at_open t is (Some j) opened_so e = true≢false e

      by : (o : Option SourceState) → find has_new st.sources ≡ o → is_gather (on_job Nothing begun o).reply ≡ false → ⊥
      by None is e = true≢false (sym new ∙ find-none has_new s st.sources is (IsIn-named st.sources name s w.at).0)
      by (Some t) is e = at_open t (IsIn-find has_new t st.sources is).1 (open_job t) refl e

  -- ---- an object

  object-on : (o : ObjectSettled) (st : HarvestState) → AllFit st → AreAnswered (steps_of_object o) st
      → IsReadingOf (Some documents) o → Started documents before s job Told st
      → Started documents before s job Told (state_after (steps_of_object o) st)
  object-on o st fit answered is (inr w) =
      inr (over-on documents before s job Told jobs opens is_id (Settle o.job o.item.iri o.reading) (after_step Claim st)
      (all_fit-after Claim st fit) refl (over-on documents before s job Told jobs opens is_id Claim st fit refl w))
  object-on o st fit answered is (inl w) = by (which c.at.source.name name)
    where
      one : HarvestState
      one = after_step Claim st

      fit_one : AllFit one
      fit_one = all_fit-after Claim st fit

      c : ClaimedOne st.sources o.job o.item (on_job Nothing claimed (find waits st.sources)).entries
      c = claimed-one st.sources o.job o.item answered.0

      by : (c.at.source.name ≡ name) ⊎ (c.at.source.name ≢ name)
          → Started documents before s job Told (state_after (steps_of_object o) st)
      by (inr apart) =
          let elsewhere : IsElsewhere Claim st.sources name = λ t found.
          let both : Some c.at ≡ Some t = sym c.found ∙ found in
          let same : c.at ≡ t = cc in
          subst (λ (x : SourceState). x.source.name ≢ name) same apart in
          let v = reads-on documents before s job Told jobs opens is_id Claim st fit fit_one refl
          (never-begins id st Claim refl) elsewhere (λ (g : Gathered). refl) w in
          let other : id ≢ o.job = ids-apart st fit c.at c.job o.job c.there c.opens c.named apart in
          inl (reads-on documents before s job Told jobs opens is_id (Settle o.job o.item.iri o.reading) one fit_one
          (all_fit-after (Settle o.job o.item.iri o.reading) one fit_one) refl
          (never-begins id one (Settle o.job o.item.iri o.reading) refl)
          (other-elsewhere name one fit_one (listed_source v.listing job s) v.at running (opened_job v.listing) o.job
          other)
          (λ (g : Gathered). ap (λ (b : Bool). cond b
          (record g { settled = record { iri = o.item.iri; reading = o.reading } ∷ g.settled }) g)
          (ids-unlike o.job other)) v)
      by (inl here) =
          let u : SourceState = listed_source w.listing job s in
          let same : c.at ≡ u = same_source st.sources name u c.at fit.sources w.at c.there here in
          let both : Some c.job ≡ Some running = sym c.opens ∙ ap open_job same ∙ opened_job w.listing in
          let alike : c.job ≡ running = cc in
          let v = reads-claimed documents before s job Told jobs opens is_id o.job o.item st fit fit_one c here w in
          inl (subst (λ (j : List ℕ). Reads documents before s job (after_step (Settle j o.item.iri o.reading) one))
          (ap id_of_job (sym alike) ∙ c.named)
          (reads-settled documents before s job Told jobs opens is_id o.item.iri o.reading one fit_one
          (all_fit-after (Settle id o.item.iri o.reading) one fit_one) v.0 (o.item, v.1, refl, is.fetched)))

  pub objects-on : (os : List ObjectSettled) (st : HarvestState) → AllFit st
      → AreAnswered (flat_map steps_of_object os) st
      → ((o : ObjectSettled) → IsIn o os → IsReadingOf (Some documents) o) → Started documents before s job Told st
      → Started documents before s job Told (state_after (flat_map steps_of_object os) st)
  objects-on [] st fit answered each w = w
  objects-on (o ∷ os) st fit answered each w =
      objects-on os (state_after (steps_of_object o) st)
      (all_fit-after (Settle o.job o.item.iri o.reading) (after_step Claim st) (all_fit-after Claim st fit)) answered.1.1
      (λ p m. each p (inr m)) (object-on o st fit (answered.0, (answered.1.0, tt)) (each o (inl refl)) w)

  -- A claim that finds no object changes nothing.
  pub all-claimed : (last : StepReply) (st : HarvestState) → AllFit st → last ≡ (change_of_step Claim st).reply
      → is_object last ≡ false → Started documents before s job Told st
      → Started documents before s job Told (after_step Claim st)
  all-claimed last st fit answered stops (inr w) =
      inr (over-on documents before s job Told jobs opens is_id Claim st fit refl w)
  all-claimed last st fit answered stops (inl w) =
      inl (reads-on documents before s job Told jobs opens is_id Claim st fit (all_fit-after Claim st fit) refl
      (never-begins id st Claim refl) (λ t is named. none t is) (λ (g : Gathered). refl) w)
    where
      at_item : (t : SourceState) (j : Job) (l : Listing) (o : Option Item) → is_some o ≡ true
          → is_object (option_map_or (claimed_in t j l) o (idle Nothing)).reply ≡ false → ⊥
      at_item t j l None some e = true≢false (sym some)
      at_item t j l (Some item) some e = true≢false e

      at_listing : (t : SourceState) (j : Job) (l : Option Listing) → is_some (option_and_then first_waiting l) ≡ true
          → is_object (claimed_from t j l).reply ≡ false → ⊥
      at_listing t j None some e = true≢false (sym some)
      at_listing t j (Some l) some e = at_item t j l (first_waiting l) some e

      none : (t : SourceState) → find waits st.sources ≡ Some t → ⊥
      none t is =
          let open_so = (target-open name st fit Claim t is).1 in
          at_listing t open_so.0 t.listing (IsIn-find waits t st.sources is).1
          (ap (λ (o : Option Job). is_object (option_map_or (claimed t) o (idle Nothing)).reply) (sym open_so.1)
          ∙ ap (λ (o : Option SourceState). is_object (on_job Nothing claimed o).reply) (sym is)
          ∙ ap is_object (sym answered) ∙ stops)

  -- ---- an end

  end-on : (e : JobEnded) (st : HarvestState) → AllFit st → e.answer ≡ (change_of_step (End e.job) st).reply
      → Tells Told e.answer → Started documents before s job Told st
      → Started documents before s job Told (after_step (End e.job) st)
  end-on e st fit answered tells (inr w) =
      inr (over-on documents before s job Told jobs opens is_id (End e.job) st fit refl w)
  end-on e st fit answered tells (inl w) = by (which id e.job)
    where
      by : (id ≡ e.job) ⊎ (id ≢ e.job) → Started documents before s job Told (after_step (End e.job) st)
      by (inl same) =
          subst (λ (j : List ℕ). Tells Told (change_of_step (End j) st).reply
          → Started documents before s job Told (after_step (End j) st)) same
          (λ told. reads-ended documents before s job Told jobs opens is_id own st fit (all_fit-after (End id) st fit) w
          told) (subst (Tells Told) answered tells)
      by (inr apart) =
          inl (reads-on documents before s job Told jobs opens is_id (End e.job) st fit (all_fit-after (End e.job) st fit)
          refl (never-begins id st (End e.job) refl)
          (other-elsewhere name st fit (listed_source w.listing job s) w.at running (opened_job w.listing) e.job apart)
          (λ (g : Gathered). refl) w)

  pub ends-on : (es : List JobEnded) (st : HarvestState) → AllFit st → AreAnswered (steps_of_ends es) st
      → ((e : JobEnded) → IsIn e es → Tells Told e.answer) → Started documents before s job Told st
      → Started documents before s job Told (state_after (steps_of_ends es) st)
  ends-on [] st fit answered tell w = w
  ends-on (e ∷ es) st fit answered tell w =
      ends-on es (after_step (End e.job) st) (all_fit-after (End e.job) st fit) answered.1 (λ x m. tell x (inr m))
      (end-on e st fit answered.0 (tell e (inl refl)) w)

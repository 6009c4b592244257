-- The reports of a round: each is of a source that had an open job, and no two are of one source.
use Rattle.std.proofs.Common.{◌≡◌, ◌∙◌, ℕ, Bool, true, false, ◌&&◌, not, cond, List, [], ◌∷◌, ◌++◌, Option, Some, None, refl}
use Rattle.std.proofs.Common.{sym, ap, ap₂, subst, inl, inr}
use Rattle.std.specs.Prelude.{⊤, find, is_some}
use Rattle.std.specs.List.{cons_option, filter_map, flat_map, list_all}
use Rattle.std.specs.Option.{option_map_or}
use Rattle.std.specs.Ordering.{is_eq}
use Rattle.std.specs.Str.{bytes_eq}
use Rattle.std.proofs.lemmas.List.{append-nil}
use Rattle.std.proofs.lemmas.Map.Text.{is_eq-slice_cmp}
use Rattle.std.proofs.lemmas.Slice.Eq.{bytes_eq-Decides}
use Rattle.portal_base.proofs.Inserted.{AreApart}
use Rattle.portal_base.proofs.Unique.{IsIn}
use Rattle.packages.proofs.FindLemmas.{IsIn-find, fails, none-list_any}
use Rattle.harvest_sources.specs.Entries.{PutJob, PutListing, sources_after, with_job, with_listing, with_source_at}
use Rattle.harvest_sources.specs.Jobs.{blank_report, id_of_job, in_state, is_running, with_report}
use Rattle.harvest_sources.specs.Listings.{finished_report, first_waiting, is_done, listing_of, with_progress}
use Rattle.harvest_sources.specs.Sources.{AreSources, SourceState, is_listed, open_job}
use Rattle.harvest_sources.specs.Steps.{Stepped, begun, broken, claimed, claimed_from, claimed_in, count_deleted, ended}
use Rattle.harvest_sources.specs.Steps.{ended_with, has_new, idle, is_unsettled, listed, on_job, outcome_of, settled, settled_in}
use Rattle.harvest_sources.specs.Steps.{waiting_of}
use Rattle.harvest_sources.specs.declared.cause.Cause.{Cause}
use Rattle.harvest_sources.specs.declared.job.Job.{Job}
use Rattle.harvest_sources.specs.declared.job.JobState.TheVariants as state
use Rattle.harvest_sources.specs.declared.job.SourceReport.{SourceReport}
use Rattle.harvest_sources.specs.declared.listing.Listing.{Listing}
use Rattle.harvest_sources.specs.declared.listing.Outcome.{Outcome}
use Rattle.harvest_sources.specs.declared.listing.Progress.TheVariants.{Done as is_done_as}
use Rattle.harvest_sources.specs.declared.step.Item.{Item}
use Rattle.harvest_sources.specs.declared.step.Step.{Step}
use Rattle.harvest_sources.specs.declared.step.Step.TheVariants.{NewRound, Begin, List as list, Break, Claim, Settle, End}
use Rattle.harvest_sources.specs.declared.step.StepReply.{StepReply}
use Rattle.harvest_sources.specs.declared.step.StepReply.TheVariants.{Nothing, Done, Ended, Already}
use Rattle.harvest_results.specs.Effects.{HarvestState, after_step, change_of_step, effect_of}
use Rattle.harvest_results.proofs.PhaseLemmas.{has_jobs}
use Rattle.harvest_results.proofs.SourceEntryLemmas.{job_named, open-replaced}
use Rattle.harvest_pool.specs.Made.{AreAnswered, Made, state_after}
use Rattle.harvest_pool.specs.Rounds.{CatalogueRead, JobEnded, ObjectSettled, Round, report_cmp, report_of}
use Rattle.harvest_pool.specs.Rounds.{reports_of_catalogues, reports_of_ends, reports_of_round, steps_of_catalogue}
use Rattle.harvest_pool.specs.Rounds.{steps_of_catalogues, steps_of_ends, steps_of_object, steps_of_objects, steps_of_round}
use Rattle.harvest_pool.proofs.Done.{AllFit}
use Rattle.harvest_pool.proofs.FitLemmas.{all_fit-after}
use Rattle.harvest_pool.proofs.IdleLemmas.{IsIdle, open-before}
use Rattle.harvest_pool.proofs.SourceLemmas.{HasOpen, answered-parts, both-at, each-at}

-- ---- a step that reports

-- A source with an open job is the one that the report is of, and its job is closed after the entries.
record Closes (ss : List SourceState) (p : Stepped) (report : SourceReport) : Type 0 where
  pub had : HasOpen ss report.source
  pub closed : (s : SourceState) → IsIn s (sources_after p.entries ss) → s.source.name ≡ report.source
      → open_job s ≡ None

module _ (ss : List SourceState) (fit : AreSources ss) (t : SourceState) (job : Job) (m : IsIn t ss)
    (opens : open_job t ≡ Some job) where
  name : job.source ≡ t.source.name
  name = job_named t job (has_jobs ss fit t m) opens

  -- what the sources of that name have open
  abbrev None_open : SourceState → Type 0
  None_open s = s.source.name ≡ t.source.name → open_job s ≡ None

  abbrev with_broken : Cause → SourceState → SourceState
  with_broken cause = with_job (in_state (state.Broken cause) job)

  broken-closed : (cause : Cause) (s : SourceState) → IsIn s (with_source_at job.source (with_broken cause) ss)
      → s.source.name ≡ job.source → open_job s ≡ None
  broken-closed cause s n named =
      each-at None_open ss t (with_broken cause) fit m (λ u k apart same. absurd (apart same))
      (λ same. open-replaced t job (in_state (state.Broken cause) job) (has_jobs ss fit t m) opens refl) s
      (subst (λ (l : List ℕ). IsIn s (with_source_at l (with_broken cause) ss)) name n) (named ∙ name)

  broken-closes : (cause : Cause) (report : SourceReport) (b : Bool)
      → report_of (cond b (record {
        entries = PutJob (in_state (state.Broken cause) job) ∷ [];
        reply = Ended (blank_report job.source (state.Broken cause));
      }) (idle Already)).reply ≡ Some report
      → Closes ss (cond b (record {
        entries = PutJob (in_state (state.Broken cause) job) ∷ [];
        reply = Ended (blank_report job.source (state.Broken cause));
      }) (idle Already)) report
  broken-closes cause report false e = absurd (cc)
  broken-closes cause report true e =
      let same : blank_report job.source (state.Broken cause) ≡ report = cc in
      let of_job : job.source ≡ report.source = ap (λ (r : SourceReport). r.source) same in
      record {
        had = (t, m, sym name ∙ of_job, (job, opens));
        closed = λ s n named. broken-closed cause s n (named ∙ sym of_job);
      }

  module _ (deleted : ℕ) (l : Listing) where
    abbrev ended_job : Job
    ended_job = with_report (finished_report job.source l deleted) job

    ended-closed : (s : SourceState)
        → IsIn s (with_source_at job.source (with_job ended_job) (with_source_at t.source.name (with_listing None) ss))
        → s.source.name ≡ job.source → open_job s ≡ None
    ended-closed s n named =
        both-at None_open ss t (with_listing None) (with_job ended_job) fit m (λ u. refl)
        (λ u k apart same. absurd (apart same))
        (λ same. open-replaced t job ended_job (has_jobs ss fit t m) opens refl) s
        (subst (λ (k : List ℕ). IsIn s (with_source_at k (with_job ended_job)
        (with_source_at t.source.name (with_listing None) ss))) name n) (named ∙ name)

    ended-closes : (report : SourceReport) (b : Bool)
        → report_of (cond b (record {
          entries = PutListing t.source.name None ∷ PutJob ended_job ∷ [];
          reply = Ended (finished_report job.source l deleted);
        }) (idle Already)).reply ≡ Some report
        → Closes ss (cond b (record {
          entries = PutListing t.source.name None ∷ PutJob ended_job ∷ [];
          reply = Ended (finished_report job.source l deleted);
        }) (idle Already)) report
    ended-closes report false e = absurd (cc)
    ended-closes report true e =
        let same : finished_report job.source l deleted ≡ report = cc in
        let of_job : job.source ≡ report.source = ap (λ (r : SourceReport). r.source) same in
        record {
          had = (t, m, sym name ∙ of_job, (job, opens));
          closed = λ s n named. ended-closed s n (named ∙ sym of_job);
        }

  ended-listed : (deleted : ℕ) (report : SourceReport) (l : Option Listing)
      → report_of (ended_with deleted t job l).reply ≡ Some report → Closes ss (ended_with deleted t job l) report
  ended-listed deleted report None e = absurd (cc)
  ended-listed deleted report (Some l) e = ended-closes deleted l report (list_all is_done l.objects) e

-- A step on the job of the source that is found.
on-found : (ss : List SourceState) (test : SourceState → Bool) (otherwise : StepReply)
    (f : SourceState → Job → Stepped) (report : SourceReport) → report_of otherwise ≡ None
    → ((t : SourceState) (job : Job) → IsIn t ss → open_job t ≡ Some job → report_of (f t job).reply ≡ Some report
    → Closes ss (f t job) report)
    → report_of (on_job otherwise f (find test ss)).reply ≡ Some report
    → Closes ss (on_job otherwise f (find test ss)) report
on-found ss test otherwise f report none each = by (find test ss) refl
  where
    at_open : (t : SourceState) → IsIn t ss → (o : Option Job) → open_job t ≡ o
        → report_of (option_map_or (f t) o (idle otherwise)).reply ≡ Some report
        → Closes ss (option_map_or (f t) o (idle otherwise)) report
    at_open t m None opens e = absurd (cc)
    at_open t m (Some job) opens e = each t job m opens e

    by : (o : Option SourceState) → find test ss ≡ o → report_of (on_job otherwise f o).reply ≡ Some report
        → Closes ss (on_job otherwise f o) report
    by None is e = absurd (cc)
    by (Some t) is e = at_open t (IsIn-find test t ss is).0 (open_job t) refl e

-- ---- steps that don't report

none-found : (ss : List SourceState) (test : SourceState → Bool) (otherwise : StepReply)
    (f : SourceState → Job → Stepped) → report_of otherwise ≡ None
    → ((t : SourceState) (job : Job) → report_of (f t job).reply ≡ None)
    → report_of (on_job otherwise f (find test ss)).reply ≡ None
none-found ss test otherwise f none each = by (find test ss)
  where
    at_open : (t : SourceState) (o : Option Job) → report_of (option_map_or (f t) o (idle otherwise)).reply ≡ None
    at_open t None = none
    at_open t (Some job) = each t job

    by : (o : Option SourceState) → report_of (on_job otherwise f o).reply ≡ None
    by None = none
    by (Some t) = at_open t (open_job t)

listed-none : (items : List Item) (unnamed : ℕ) (t : SourceState) (job : Job)
    → report_of (listed items unnamed t job).reply ≡ None
listed-none items unnamed t job = by (is_running job && not (is_listed t))
  where
    by : (b : Bool) → report_of (cond b (record {
      entries = PutListing t.source.name (Some (listing_of t.source.name items unnamed)) ∷ [];
      reply = Done;
    }) (idle Already)).reply ≡ None
    by true = refl
    by false = refl

claimed-none : (t : SourceState) (job : Job) → report_of (claimed t job).reply ≡ None
claimed-none t job = by t.listing
  where
    at_item : (l : Listing) (o : Option Item)
        → report_of (option_map_or (claimed_in t job l) o (idle Nothing)).reply ≡ None
    at_item l None = refl
    at_item l (Some item) = refl

    by : (l : Option Listing) → report_of (claimed_from t job l).reply ≡ None
    by None = refl
    by (Some l) = at_item l (first_waiting l)

settled-none : (iri : List ℕ) (came : Outcome) (t : SourceState) (job : Job)
    → report_of (settled iri came t job).reply ≡ None
settled-none iri came t job = by t.listing
  where
    if_unsettled : (l : Listing) (b : Bool) → report_of (cond b (record {
      entries = PutListing t.source.name (Some (with_progress iri (is_done_as came) l)) ∷ [];
      reply = Done;
    }) (idle Already)).reply ≡ None
    if_unsettled l true = refl
    if_unsettled l false = refl

    by : (l : Option Listing) → report_of (settled_in iri came t l).reply ≡ None
    by None = refl
    by (Some l) = if_unsettled l (is_unsettled iri l)

-- the source has an open job of that id
abbrev has_job : List ℕ → SourceState → Bool
has_job id s = option_map_or (λ (j : Job). bytes_eq (id_of_job j) id) (open_job s) false

-- only steps that break a job or end one report
abbrev pub Reports : Step → Type 0
Reports NewRound = ⊥
Reports Begin = ⊥
Reports (list job items unnamed) = ⊥
Reports (Break job cause) = ⊤
Reports Claim = ⊥
Reports (Settle job iri reading) = ⊥
Reports (End job) = ⊤

pub reports-none : (step : Step) (st : HarvestState) → (Reports step → ⊥) → report_of (change_of_step step st).reply ≡ None
reports-none NewRound st never = refl
reports-none Begin st never = none-found st.sources has_new Nothing begun refl (λ t job. refl)
reports-none (list id items unnamed) st never =
    none-found st.sources (has_job id) Already (listed items unnamed) refl (listed-none items unnamed)
reports-none (Break id cause) st never = absurd (never tt)
reports-none Claim st never = none-found st.sources (λ (s : SourceState). is_some (waiting_of s)) Nothing claimed refl claimed-none
reports-none (Settle id iri reading) st never =
    let came = outcome_of reading (effect_of (Settle id iri reading) st) in
    none-found st.sources (has_job id) Already (settled iri came) refl (settled-none iri came)
reports-none (End id) st never = absurd (never tt)

-- ---- every step

-- The source that a step reports had an open job, and has none after it.
pub step-closes : (step : Step) (st : HarvestState) → AllFit st → (report : SourceReport)
    → report_of (change_of_step step st).reply ≡ Some report
    → HasOpen st.sources report.source × IsIdle report.source (after_step step st)
step-closes NewRound st fit report e = absurd (cc)
step-closes Begin st fit report e = let none = reports-none Begin st (λ m. m) in absurd (cc)
step-closes (list id items unnamed) st fit report e =
    let none = reports-none (list id items unnamed) st (λ m. m) in absurd (cc)
step-closes Claim st fit report e = let none = reports-none Claim st (λ m. m) in absurd (cc)
step-closes (Settle id iri reading) st fit report e =
    let none = reports-none (Settle id iri reading) st (λ m. m) in absurd (cc)
step-closes (Break id cause) st fit report e =
    let c = on-found st.sources (has_job id) Already (broken cause) report refl
    (λ t job m opens k. broken-closes st.sources fit.sources t job m opens cause report (is_running job && not (is_listed t)) k)
    e in
    (c.had, c.closed)
step-closes (End id) st fit report e =
    let deleted = count_deleted (effect_of (End id) st) in
    let c = on-found st.sources (has_job id) Already (ended deleted) report refl
    (λ t job m opens k. ended-listed st.sources fit.sources t job m opens deleted report t.listing k) e in
    (c.had, c.closed)

-- ---- steps one after the other

-- the reports of the answers
abbrev pub reports_in : List Made → List SourceReport
reports_in made = filter_map (λ m. report_of m.answer) made

pub reports-append : (xs ys : List Made) → reports_in (xs ++ ys) ≡ reports_in xs ++ reports_in ys
reports-append [] ys = refl
reports-append (x ∷ xs) ys = by (report_of x.answer) (reports-append xs ys)
  where
    by : (o : Option SourceReport) → reports_in (xs ++ ys) ≡ reports_in xs ++ reports_in ys
        → cons_option o (reports_in (xs ++ ys)) ≡ cons_option o (reports_in xs) ++ reports_in ys
    by None e = e
    by (Some r) e = ap (λ l. r ∷ l) e

-- Each report is of a source that had an open job, and no two are of one source.
pub told-once : (made : List Made) (st : HarvestState) → AllFit st → AreAnswered made st
    → ((r : SourceReport) → IsIn r (reports_in made) → HasOpen st.sources r.source)
    × AreApart report_cmp (reports_in made)
told-once [] st fit answered = (λ r m. absurd m, tt)
told-once (x ∷ made) st fit answered =
    by (report_of x.answer) refl
    (told-once made (after_step x.step st) (all_fit-after x.step st fit) answered.1)
  where
    by : (o : Option SourceReport) → report_of x.answer ≡ o
        → ((r : SourceReport) → IsIn r (reports_in made) → HasOpen (after_step x.step st).sources r.source)
        × AreApart report_cmp (reports_in made)
        → ((r : SourceReport) → IsIn r (cons_option o (reports_in made)) → HasOpen st.sources r.source)
        × AreApart report_cmp (cons_option o (reports_in made))
    by None is rest = (λ r m. open-before r.source st fit x.step (rest.0 r m), rest.1)
    by (Some report) is rest =
        let c = step-closes x.step st fit report (sym (ap report_of answered.0) ∙ is) in (
          each c.0 rest.0,
          (
            none-list_any (λ (y : SourceReport). is_eq (report_cmp y report)) (reports_in made)
                (λ y m. fails (is_eq (report_cmp y report)) (λ like.
                let same : y.source ≡ report.source =
                (bytes_eq-Decides y.source report.source).0 (sym (is_eq-slice_cmp y.source report.source) ∙ like) in
                let w = rest.0 y m in
                let none : open_job w.0 ≡ None = c.1 w.0 w.1 (w.2 ∙ same) in
                let some : open_job w.0 ≡ Some w.3.0 = w.3.1 in
                absurd (cc))),
            rest.1,
          ),
        )
      where
        each : HasOpen st.sources report.source
            → ((r : SourceReport) → IsIn r (reports_in made) → HasOpen (after_step x.step st).sources r.source)
            → (r : SourceReport) → IsIn r (report ∷ reports_in made) → HasOpen st.sources r.source
        each had others r (inl same) = subst (λ (s : SourceReport). HasOpen st.sources s.source) (sym same) had
        each had others r (inr m) = open-before r.source st fit x.step (others r m)

-- ---- the reports of a round

catalogues-told : (cs : List CatalogueRead)
    → reports_in (flat_map steps_of_catalogue cs) ≡ reports_of_catalogues cs
catalogues-told [] = refl
catalogues-told (c ∷ cs) = ap (cons_option (report_of c.answer)) (catalogues-told cs)

objects-told : (os : List ObjectSettled) (st : HarvestState) → AreAnswered (flat_map steps_of_object os) st
    → reports_in (flat_map steps_of_object os) ≡ []
objects-told [] st answered = refl
objects-told (o ∷ os) st answered =
    ap (λ (r : Option SourceReport). cons_option r (reports_in (flat_map steps_of_object os)))
    (ap report_of answered.1.0
    ∙ reports-none (Settle o.job o.item.iri o.reading) (after_step Claim st) (λ m. m))
    ∙ objects-told os (after_step (Settle o.job o.item.iri o.reading) (after_step Claim st)) answered.1.1

-- the last step of a work reports nothing
last-told : (step : Step) (answer : StepReply) (st : HarvestState) → (Reports step → ⊥)
    → AreAnswered (record { step = step; answer = answer } ∷ []) st
    → reports_in (record { step = step; answer = answer } ∷ []) ≡ []
last-told step answer st never answered =
    ap (λ (r : Option SourceReport). cons_option r []) (ap report_of answered.0 ∙ reports-none step st never)

ends-told : (es : List JobEnded) → reports_in (steps_of_ends es) ≡ reports_of_ends es
ends-told [] = refl
ends-told (e ∷ es) = ap (cons_option (report_of e.answer)) (ends-told es)

pub round-told : (r : Round) (st : HarvestState) → AreAnswered (steps_of_round r) st
    → reports_in (steps_of_round r) ≡ reports_of_round r
round-told r st answered =
    let one : HarvestState = after_step NewRound st in
    let parts = answered-parts (steps_of_catalogues r.catalogues) (steps_of_objects r.objects ++ steps_of_ends r.ends)
    one answered.1 in
    let two : HarvestState = state_after (steps_of_catalogues r.catalogues) one in
    let more = answered-parts (steps_of_objects r.objects) (steps_of_ends r.ends) two parts.1 in
    ap (λ (o : Option SourceReport). cons_option o (reports_in (steps_of_catalogues r.catalogues
    ++ (steps_of_objects r.objects ++ steps_of_ends r.ends)))) (ap report_of answered.0)
    ∙ reports-append (steps_of_catalogues r.catalogues) (steps_of_objects r.objects ++ steps_of_ends r.ends)
    ∙ ap₂ (λ (xs ys : List SourceReport). xs ++ ys) (catalogues one parts.0)
    (reports-append (steps_of_objects r.objects) (steps_of_ends r.ends)
    ∙ ap₂ (λ (xs ys : List SourceReport). xs ++ ys) (objects two more.0) (ends-told r.ends))
  where
    catalogues : (s : HarvestState) → AreAnswered (steps_of_catalogues r.catalogues) s
        → reports_in (steps_of_catalogues r.catalogues) ≡ reports_of_catalogues r.catalogues.done
    catalogues s all =
        let last : List Made = record { step = Begin; answer = r.catalogues.last } ∷ [] in
        let both = answered-parts (flat_map steps_of_catalogue r.catalogues.done) last s all in
        reports-append (flat_map steps_of_catalogue r.catalogues.done) last
        ∙ ap₂ (λ (xs ys : List SourceReport). xs ++ ys) (catalogues-told r.catalogues.done)
        (last-told Begin r.catalogues.last (state_after (flat_map steps_of_catalogue r.catalogues.done) s) (λ m. m)
        both.1)
        ∙ append-nil (reports_of_catalogues r.catalogues.done)

    objects : (s : HarvestState) → AreAnswered (steps_of_objects r.objects) s
        → reports_in (steps_of_objects r.objects) ≡ []
    objects s all =
        let last : List Made = record { step = Claim; answer = r.objects.last } ∷ [] in
        let both = answered-parts (flat_map steps_of_object r.objects.done) last s all in
        reports-append (flat_map steps_of_object r.objects.done) last
        ∙ ap₂ (λ (xs ys : List SourceReport). xs ++ ys) (objects-told r.objects.done s both.0)
        (last-told Claim r.objects.last (state_after (flat_map steps_of_object r.objects.done) s) (λ m. m) both.1)

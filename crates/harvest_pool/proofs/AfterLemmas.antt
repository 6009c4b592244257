-- What a whole round leaves and reports is what the documents say.
use Rattle.std.proofs.Common.{◌≡◌, ◌∙◌, ◌⊎◌, ℕ, Bool, true, false, ◌&&◌, cond, List, [], ◌∷◌, map, Option, Some}
use Rattle.std.proofs.Common.{None, refl, sym, ap, ap₂, subst, inl, inr, true≢false}
use Rattle.std.specs.Prelude.{find}
use Rattle.std.specs.Cmp.{IsTotalOrder}
use Rattle.std.specs.Cmp.Lexicographic.{slice_cmp}
use Rattle.std.specs.List.{All, Contains, cons_option, filter_map}
use Rattle.std.specs.List.Sorted.{IsPermutation, IsSorted}
use Rattle.std.specs.Option.{option_map_or}
use Rattle.std.specs.Ordering.{nat_cmp}
use Rattle.std.specs.Str.{bytes_eq}
use Rattle.std.specs.declared.cmp.Ordering.{Ordering}
use Rattle.std.proofs.lemmas.Bool.{and_parts}
use Rattle.std.proofs.lemmas.Cmp.{nat_list_cmp_total, on_total}
use Rattle.std.proofs.lemmas.List.Sorted.{Contains-permutation, IsPermutation-sym}
use Rattle.std.proofs.lemmas.Slice.Eq.{bytes_eq-Decides}
use Rattle.portal_base.specs.Ordered.{IsAscending, IsBelowAll}
use Rattle.portal_base.proofs.Filtered.{IsIn-filter, filter-IsIn}
use Rattle.portal_base.proofs.Inserted.{AreApart}
use Rattle.portal_base.proofs.Sorted.{IsAscending-sort}
use Rattle.portal_base.proofs.Unique.{Contains-IsIn, IsIn, IsIn-Contains, unique}
use Rattle.portal_base.proofs.Upserted.{All-IsIn}
use Rattle.packages.specs.Order.{dataset_cmp, dataset_cmp_total}
use Rattle.packages.specs.declared.package.Package.{Package}
use Rattle.packages.proofs.FindLemmas.{IsIn-find, IsIn-map, fails, find-none, map-IsIn}
use Rattle.harvest_readings.specs.Harvests.{Documents}
use Rattle.harvest_results.specs.Effects.{HarvestState, after_step, is_of_source}
use Rattle.harvest_results.specs.Readings.{CatalogueReading}
use Rattle.harvest_results.specs.Results.{datasets_after}
use Rattle.harvest_results.proofs.ChangeLemmas.{without-none}
use Rattle.harvest_results.proofs.ResultLemmas.{filter_map-IsIn}
use Rattle.harvest_results.proofs.SourceEntryLemmas.{IsIn-named, same_bytes, same_member}
use Rattle.harvest_sources.specs.Entries.{with_job, with_listing}
use Rattle.harvest_sources.specs.Jobs.{is_new, is_open, is_running, with_report}
use Rattle.harvest_sources.specs.Sources.{SourceState, open_job, source_cmp, source_cmp_total}
use Rattle.harvest_sources.specs.Steps.{has_new, has_running}
use Rattle.harvest_sources.specs.declared.job.Job.{Job}
use Rattle.harvest_sources.specs.declared.job.SourceReport.{SourceReport}
use Rattle.harvest_sources.specs.declared.step.Step.{Step}
use Rattle.harvest_sources.specs.declared.step.Step.TheVariants.{NewRound, Begin, List as list, Break, Claim, Settle, End}
use Rattle.harvest_stages.proofs.MapLemmas.{IsAscending-map}
use Rattle.harvest_pool.specs.Made.{AreAnswered, Made, state_after}
use Rattle.harvest_pool.specs.Rounds.{IsCatalogueOf, IsReadingOf, IsWhole, Round, report_cmp, reports_of_round, steps_of_round}
use Rattle.harvest_pool.specs.WholeRounds.{Failures, IsAtRest, after_round, datasets_after_round, failures_told, own_after}
use Rattle.harvest_pool.specs.WholeRounds.{own_datasets, report_if_new, report_on, round_reading, round_report, round_reports}
use Rattle.harvest_pool.specs.WholeRounds.{source_after, source_read, with_job_ended}
use Rattle.harvest_pool.proofs.DatasetLemmas.{IsAscending-left, IsBeside, IsLeft, beside-stays, left-there, what_is_left}
use Rattle.harvest_pool.proofs.Done.{AllFit, IsHarvested}
use Rattle.harvest_pool.proofs.FailedLemmas.{report_name, told-reading}
use Rattle.harvest_pool.proofs.FitLemmas.{all_fit-through, ascending-through, bare-through, rest-fit, same-bare}
use Rattle.harvest_pool.proofs.HarvestedLemmas.{harvested}
use Rattle.harvest_pool.proofs.IdleLemmas.{IsIdle, Stays, idle-through}
use Rattle.harvest_pool.proofs.ReportedLemmas.{reports_in, round-told, told-once}
use Rattle.harvest_pool.proofs.SourceLemmas.{HasOpen, IsIn-filter_map, open-new, same-named}

-- ---- lists

report_cmp_total : IsTotalOrder report_cmp
report_cmp_total = on_total (λ (r : SourceReport). r.source) nat_list_cmp_total

-- What is picked from an ascending list ascends, where it is in the order of what it is picked by.
module _ {X Y : Type 0} (under : X → X → Ordering) (over : Y → Y → Ordering) (f : X → Option Y)
    (same : (x z : X) (y w : Y) → f x ≡ Some y → f z ≡ Some w → over y w ≡ under x z) where
  IsBelowAll-picked : (x : X) (y : Y) → f x ≡ Some y → (xs : List X) → IsBelowAll under x xs
      → IsBelowAll over y (filter_map f xs)
  IsBelowAll-picked x y is [] below = tt
  IsBelowAll-picked x y is (z ∷ zs) below = by (f z) refl (IsBelowAll-picked x y is zs below.1)
    where
      by : (o : Option Y) → f z ≡ o → IsBelowAll over y (filter_map f zs)
          → IsBelowAll over y (cons_option o (filter_map f zs))
      by None e rest = rest
      by (Some w) e rest = (same x z y w is e ∙ below.0, rest)

  IsAscending-picked : (xs : List X) → IsAscending under xs → IsAscending over (filter_map f xs)
  IsAscending-picked [] up = tt
  IsAscending-picked (x ∷ xs) up = by (f x) refl (IsAscending-picked xs up.1)
    where
      by : (o : Option Y) → f x ≡ o → IsAscending over (filter_map f xs)
          → IsAscending over (cons_option o (filter_map f xs))
      by None e rest = rest
      by (Some y) e rest = (IsBelowAll-picked x y e xs up.0, rest)

-- ---- without sources

abbrev no_sources : List Package → HarvestState
no_sources ds = record { sources = []; datasets = ds }

none-after : (step : Step) (ds : List Package) → after_step step (no_sources ds) ≡ no_sources ds
none-after NewRound ds = ap no_sources (without-none ds)
none-after Begin ds = ap no_sources (without-none ds)
none-after (list job items unnamed) ds = ap no_sources (without-none ds)
none-after (Break job cause) ds = ap no_sources (without-none ds)
none-after Claim ds = ap no_sources (without-none ds)
none-after (Settle job iri reading) ds = ap no_sources (without-none ds)
none-after (End job) ds = ap no_sources (without-none ds)

none-through : (made : List Made) (ds : List Package) → state_after made (no_sources ds) ≡ no_sources ds
none-through [] ds = refl
none-through (m ∷ made) ds = ap (state_after made) (none-after m.step ds) ∙ none-through made ds

-- ---- a source that is left

with_job_ended-source : (report : SourceReport) (s : SourceState) → (with_job_ended report s).source ≡ s.source
with_job_ended-source report s = by (open_job s)
  where
    by : (o : Option Job)
        → (option_map_or (λ (job : Job). with_job (with_report report job) (with_listing None s)) o s).source ≡ s.source
    by None = refl
    by (Some job) = refl

source_after-source : (documents : Documents) (failures : Failures) (ds : List Package) (s : SourceState)
    → (source_after documents failures ds s).source ≡ s.source
source_after-source documents failures ds s = by (has_new s)
  where
    by : (b : Bool) → (cond b (with_job_ended (round_report documents failures ds s) s) s).source ≡ s.source
    by true = with_job_ended-source (round_report documents failures ds s) s
    by false = refl

report_if_new-parts : (documents : Documents) (failures : Failures) (ds : List Package) (s : SourceState)
    (r : SourceReport) → report_if_new documents failures ds s ≡ Some r
    → (has_new s ≡ true) × (round_report documents failures ds s ≡ r)
report_if_new-parts documents failures ds s r is = by (has_new s) refl is
  where
    by : (b : Bool) → has_new s ≡ b → cond b (Some (round_report documents failures ds s)) None ≡ Some r
        → (has_new s ≡ true) × (round_report documents failures ds s ≡ r)
    by true new e = (new, cc)
    by false old e = absurd (cc)

-- ---- a round

module _ (documents : Documents) (before : HarvestState) (round : Round) (reports : List SourceReport)
    (rest : IsAtRest before) (whole : IsWhole round) (answered : AreAnswered (steps_of_round round) before)
    (catalogues : All (IsCatalogueOf (Some documents)) round.catalogues.done)
    (objects : All (IsReadingOf (Some documents)) round.objects.done)
    (moved : IsPermutation (reports_of_round round) reports) (sorted : IsSorted report_cmp reports) where
  abbrev after : HarvestState
  after = state_after (steps_of_round round) before

  abbrev failures : Failures
  failures = failures_told reports

  abbrev old_of : SourceState → List Package
  old_of s = own_datasets s.source.name before.datasets

  fit : AllFit before
  fit = rest-fit before rest

  fit_after : AllFit after
  fit_after = all_fit-through (steps_of_round round) before fit

  -- ---- open jobs

  open_is_new : (s : SourceState) → IsIn s before.sources → (job : Job) → open_job s ≡ Some job → has_new s ≡ true
  open_is_new s m job opens =
      ap (λ (o : Option Job). option_map_or is_new o false) opens
      ∙ open-new job.report.state (IsIn-find is_open job s.jobs opens).1
      (sym (ap (λ (o : Option Job). option_map_or is_running o false) opens)
      ∙ All-IsIn (λ (t : SourceState). has_running t ≡ false) before.sources rest.none_runs s m)

  closed_if_old : (s : SourceState) → IsIn s before.sources → has_new s ≡ false → open_job s ≡ None
  closed_if_old s m old = by (open_job s) refl
    where
      by : (o : Option Job) → open_job s ≡ o → o ≡ None
      by None is = refl
      by (Some job) is = absurd (true≢false (sym (open_is_new s m job is) ∙ old))

  -- ---- the reports

  told : reports_in (steps_of_round round) ≡ reports_of_round round
  told = round-told round before answered

  once : ((r : SourceReport) → IsIn r (reports_in (steps_of_round round)) → HasOpen before.sources r.source)
      × AreApart report_cmp (reports_in (steps_of_round round))
  once = told-once (steps_of_round round) before fit answered

  up : IsAscending report_cmp reports
  up =
      IsAscending-sort report_cmp report_cmp_total (reports_of_round round) reports
      (subst (AreApart report_cmp) told once.1) moved sorted

  among : (r : SourceReport) → Contains (reports_of_round round) r → IsIn r reports
  among r c = IsIn-Contains r reports (Contains-permutation (reports_of_round round) reports r moved c)

  had_open : (r : SourceReport) → IsIn r reports → HasOpen before.sources r.source
  had_open r m =
      once.0 r (subst (λ (l : List SourceReport). IsIn r l) (sym told)
      (IsIn-Contains r (reports_of_round round)
      (Contains-permutation reports (reports_of_round round) r
      (IsPermutation-sym (reports_of_round round) reports moved) (Contains-IsIn r reports m))))

  same_report : (r q : SourceReport) → IsIn r reports → IsIn q reports → r.source ≡ q.source → r ≡ q
  same_report r q m n same = same_member report_cmp report_cmp_total r q reports up m n (same_bytes r.source q.source same)

  -- ---- a source with a new job

  module _ (s : SourceState) (m : IsIn s before.sources) (new : has_new s ≡ true) where
    done : IsHarvested documents before after (reports_of_round round) s
    done = harvested documents before round rest whole answered catalogues objects s m new

    abbrev read : CatalogueReading
    read = source_read documents done.failed done.has_failed s.source

    read_told : round_reading documents failures s.source ≡ read
    read_told =
        told-reading documents done.failed done.has_failed s.source (old_of s) reports (among _ done.reported)
        (λ r n named. same_report r (report_on s.source.name (old_of s) read) n (among _ done.reported)
        (named ∙ sym (report_name s.source.name (old_of s) read)))

    reported : IsIn (round_report documents failures before.datasets s) reports
    reported =
        subst (λ (r : CatalogueReading). IsIn (report_on s.source.name (old_of s) r) reports) (sym read_told)
        (among _ done.reported)

    datasets_left : own_datasets s.source.name after.datasets ≡ own_after documents failures before.datasets s.source
    datasets_left = done.datasets ∙ sym (ap (datasets_after (old_of s)) read_told)

    source_left : IsIn (source_after documents failures before.datasets s) after.sources
    source_left =
        (IsIn-named after.sources s.source.name (source_after documents failures before.datasets s)
        (done.source
        ∙ sym (ap (λ (r : CatalogueReading). Some (with_job_ended (report_on s.source.name (old_of s) r) s)) read_told)
        ∙ ap (λ b. Some (cond b (with_job_ended (round_report documents failures before.datasets s) s) s)) (sym new))).0

  -- ---- what no open job is about

  idle : (name : List ℕ) → IsIdle name before → Stays name before after
  idle name none = idle-through name (steps_of_round round) before fit none

  source_there : (s : SourceState) → IsIn s before.sources
      → IsIn (source_after documents failures before.datasets s) after.sources
  source_there s m = by (has_new s) refl
    where
      by : (b : Bool) → has_new s ≡ b → IsIn (source_after documents failures before.datasets s) after.sources
      by true new = source_left s m new
      by false old =
          subst (λ (t : SourceState). IsIn t after.sources)
          (ap (λ b. cond b (with_job_ended (round_report documents failures before.datasets s) s) s) (sym old))
          ((idle s.source.name (λ t n named. ap open_job (same-named before.sources t s fit.sources n m named)
          ∙ closed_if_old s m old)).there s m refl)

  beside_idle : (z : Package) → IsBeside documents failures before before.sources z → IsIdle z.source before
  beside_idle z apart s m named = closed_if_old s m (fails (has_new s) (λ new. apart s m new (sym named)))

  -- ---- what is left

  sources_are : after.sources ≡ map (source_after documents failures before.datasets) before.sources
  sources_are =
      unique source_cmp source_cmp_total after.sources (map f before.sources) fit_after.sources.ascending
      (IsAscending-map f source_cmp source_cmp same_order before.sources fit.sources.ascending) to from
    where
      f : SourceState → SourceState
      f = source_after documents failures before.datasets

      keeps : (s : SourceState) → (f s).source ≡ s.source
      keeps s = source_after-source documents failures before.datasets s

      same_order : (s t : SourceState) → source_cmp (f s) (f t) ≡ source_cmp s t
      same_order s t = ap₂ (λ source other. slice_cmp nat_cmp source.name other.name) (keeps s) (keeps t)

      to : (z : SourceState) → IsIn z after.sources → IsIn z (map f before.sources)
      to z m =
          let w = same-bare before.sources after.sources (bare-through (steps_of_round round) before fit.sources) z m in
          let same : z ≡ f w.0 = same-named after.sources z (f w.0) fit_after.sources m (source_there w.0 w.1)
          (ap (λ source. source.name) (w.2 ∙ sym (keeps w.0))) in
          subst (λ (t : SourceState). IsIn t (map f before.sources)) (sym same) (IsIn-map f w.0 before.sources w.1)

      from : (z : SourceState) → IsIn z (map f before.sources) → IsIn z after.sources
      from z m =
          let w = map-IsIn f z before.sources m in
          subst (λ (t : SourceState). IsIn t after.sources) (sym w.2) (source_there w.0 w.1)

  abbrev datasets_left_by : List Package
  datasets_left_by = datasets_after_round documents failures before.datasets before.sources

  -- the source has a new job, and this name
  abbrev is_harvested_as : List ℕ → SourceState → Bool
  is_harvested_as name s = has_new s && bytes_eq s.source.name name

  dataset_to : (z : Package) → IsIn z after.datasets → IsIn z datasets_left_by
  dataset_to z m = by (find (is_harvested_as z.source) before.sources) refl
    where
      among_own : (name : List ℕ) → z.source ≡ name → IsIn z (own_datasets name after.datasets)
      among_own name named =
          filter-IsIn (is_of_source name) z after.datasets m ((bytes_eq-Decides z.source name).1 named)

      of_new : (s : SourceState) → IsIn s before.sources → has_new s ≡ true → s.source.name ≡ z.source
          → IsIn z datasets_left_by
      of_new s n new named =
          left-there documents failures before before.sources z fit.sources.ascending (λ t k. fit.fit t k) s n new
          (subst (IsIn z) (datasets_left s n new) (among_own s.source.name (sym named)))

      by : (o : Option SourceState) → find (is_harvested_as z.source) before.sources ≡ o → IsIn z datasets_left_by
      by (Some s) is =
          let there = IsIn-find (is_harvested_as z.source) s before.sources is in
          let parts = and_parts (has_new s) (bytes_eq s.source.name z.source) there.1 in
          of_new s there.0 parts.0 ((bytes_eq-Decides s.source.name z.source).0 parts.1)
      by None is =
          let apart : IsBeside documents failures before before.sources z = λ s n new named.
          true≢false (sym (ap₂ (λ a b. a && b) new ((bytes_eq-Decides s.source.name z.source).1 (sym named)))
          ∙ find-none (is_harvested_as z.source) s before.sources is n) in
          let own : IsIn z (own_datasets z.source before.datasets) =
          subst (IsIn z) (idle z.source (beside_idle z apart)).datasets (among_own z.source refl) in
          beside-stays documents failures before before.sources z (λ t k. fit.fit t k)
          (IsIn-filter (is_of_source z.source) z before.datasets own).0 apart

  dataset_from : (z : Package) → IsIn z datasets_left_by → IsIn z after.datasets
  dataset_from z m = by (what_is_left documents failures before before.sources z m)
    where
      by : IsLeft documents failures before before.sources z
          ⊎ (IsIn z before.datasets × IsBeside documents failures before before.sources z) → IsIn z after.datasets
      by (inl w) =
          (IsIn-filter (is_of_source w.at.source.name) z after.datasets
          (subst (IsIn z) (sym (datasets_left w.at w.there w.new)) w.left)).0
      by (inr w) =
          (IsIn-filter (is_of_source z.source) z after.datasets
          (subst (IsIn z) (sym (idle z.source (beside_idle z w.1)).datasets)
          (filter-IsIn (is_of_source z.source) z before.datasets w.0 ((bytes_eq-Decides z.source z.source).1 refl)))).0

  datasets_are : after.datasets ≡ datasets_left_by
  datasets_are = by before.sources refl
    where
      by : (ss : List SourceState) → before.sources ≡ ss → after.datasets ≡ datasets_left_by
      by [] is =
          ap (λ (l : List SourceState). (state_after (steps_of_round round)
          (record { sources = l; datasets = before.datasets })).datasets) is
          ∙ ap (λ (st : HarvestState). st.datasets) (none-through (steps_of_round round) before.datasets)
          ∙ sym (ap (datasets_after_round documents failures before.datasets) is)
      by (s ∷ ss) is =
          let up_before : IsAscending dataset_cmp before.datasets = (fit.fit s (at is)).ascending in
          unique dataset_cmp dataset_cmp_total after.datasets datasets_left_by
          (ascending-through (steps_of_round round) before up_before)
          (IsAscending-left documents failures before before.sources up_before) dataset_to dataset_from
        where
          at : before.sources ≡ s ∷ ss → IsIn s before.sources
          at e = subst (IsIn s) (sym e) (inl refl)

  -- The round leaves what the documents say.
  pub left : after ≡ after_round documents failures before
  left = ap₂ (λ (ss : List SourceState) (ds : List Package). record { sources = ss; datasets = ds }) sources_are datasets_are

  -- ---- what is reported

  abbrev pick : SourceState → Option SourceReport
  pick s = report_if_new documents failures before.datasets s

  picked_name : (s : SourceState) (r : SourceReport) → pick s ≡ Some r → r.source ≡ s.source.name
  picked_name s r is =
      ap (λ (q : SourceReport). q.source) (sym (report_if_new-parts documents failures before.datasets s r is).1)
      ∙ report_name s.source.name (old_of s) (round_reading documents failures s.source)

  -- It reports what they say.
  pub reports-are : reports ≡ round_reports documents failures before
  reports-are =
      unique report_cmp report_cmp_total reports (round_reports documents failures before) up
      (IsAscending-picked source_cmp report_cmp pick
      (λ s t r q is also. ap₂ (slice_cmp nat_cmp) (picked_name s r is) (picked_name t q also)) before.sources
      fit.sources.ascending) to from
    where
      to : (r : SourceReport) → IsIn r reports → IsIn r (round_reports documents failures before)
      to r m =
          let w = had_open r m in
          let new : has_new w.0 ≡ true = open_is_new w.0 w.1 w.3.0 w.3.1 in
          let same : r ≡ round_report documents failures before.datasets w.0 =
          same_report r (round_report documents failures before.datasets w.0) m (reported w.0 w.1 new)
          (sym w.2 ∙ sym (report_name w.0.source.name (old_of w.0) (round_reading documents failures w.0.source))) in
          IsIn-filter_map pick r w.0 before.sources w.1
          (ap (λ b. cond b (Some (round_report documents failures before.datasets w.0)) None) new ∙ ap Some (sym same))

      from : (r : SourceReport) → IsIn r (round_reports documents failures before) → IsIn r reports
      from r m =
          let w = filter_map-IsIn pick r before.sources m in
          let parts = report_if_new-parts documents failures before.datasets w.0 r w.2 in
          subst (λ (q : SourceReport). IsIn q reports) parts.1 (reported w.0 w.1 parts.0)

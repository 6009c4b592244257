-- What is restored from sources and jobs, and what is restored again.
use Rattle.std.proofs.Common.{◌≡◌, ◌≢◌, ◌∙◌, ◌≤◌, ℕ, Bool, true, false, ◌&&◌, ◌||◌, ◌==◌, cond, not, List, [], ◌∷◌}
use Rattle.std.proofs.Common.{Option, Some, None, length, map, map-id, append-nil, refl, sym, ap, subst, arith, inl, inr}
use Rattle.std.proofs.Common.{◌++◌, le-leb, lt-ltb, ne_eqb}
use Rattle.std.specs.Prelude.{nat_lt, nat_le}
use Rattle.std.specs.List.{All, count_by, filter, flat_map, list_all, sum_by}
use Rattle.std.specs.List.Sorted.{IsPermutation}
use Rattle.std.specs.Ordering.{is_eq}
use Rattle.std.specs.Str.{bytes_eq}
use Rattle.std.specs.declared.cmp.Ordering.TheVariants.{Less}
use Rattle.std.proofs.lemmas.Bool.{and_from, and_parts}
use Rattle.std.proofs.lemmas.List.Elements.{All-map, filter-append}
use Rattle.std.proofs.lemmas.List.Sorted.{Contains-permutation, IsPermutation-append, IsPermutation-filter_both}
use Rattle.std.proofs.lemmas.List.Sorted.{IsPermutation-refl, IsPermutation-sym, IsPermutation-trans}
use Rattle.std.proofs.lemmas.Map.Text.{is_eq-slice_cmp}
use Rattle.std.proofs.lemmas.Simd.{map-map}
use Rattle.std.proofs.lemmas.Slice.Eq.{bytes_eq-Decides}
use Rattle.portal_base.specs.Ordered.{IsAscending, are_apart, ascending}
use Rattle.portal_base.proofs.Filtered.{IsIn-filter, IsIn-list_all, filter-IsIn, filter-all, list_all-IsIn}
use Rattle.portal_base.proofs.Inserted.{AreApart, IsAscending-ascending, list_any-ascending}
use Rattle.portal_base.proofs.Removed.{AreApart-are_apart}
use Rattle.portal_base.proofs.Sorted.{apart_count, count_apart}
use Rattle.portal_base.proofs.Unique.{Contains-IsIn, IsIn, IsIn-Contains, ascending-IsIn, below_in, unique, IsIn-ascending}
use Rattle.portal_base.proofs.Upserted.{All-IsIn, All-each, are_apart-IsAscending, ascending-same}
use Rattle.harvest_sources.specs.Jobs.{is_open, job_cmp}
use Rattle.harvest_sources.specs.Sources.{AreSources, HasItsJobs, IsJobOf, SourceState, source_cmp}
use Rattle.harvest_sources.specs.declared.job.Job.{Job}
use Rattle.harvest_sources.specs.declared.source.HarvestSource.{HarvestSource}
use Rattle.harvest_stages.specs.AtRest.{IsAtRest, all_jobs, at_rest, bare_sources, job_at_rest}
use Rattle.harvest_stages.specs.Groups.{group_cmp, group_cmp_total, sources_of, with_all_own, without_jobs}
use Rattle.harvest_stages.specs.Restored.{are_restorable, is_at_rest, is_of, is_restorable_job, is_sound, jobs_of}
use Rattle.harvest_stages.specs.Restored.{name_cmp, name_cmp_total, restored, was_given, with_its_jobs}
use Rattle.harvest_stages.specs.declared.groups.Group.{Group}
use Rattle.harvest_stages.proofs.GroupLemmas.{ascends_still}
use Rattle.harvest_stages.proofs.MapLemmas.{IsAscending-map, IsIn-map, are_apart-map, ascending-map, list_all-map}
use Rattle.harvest_stages.proofs.FoundLemmas.{distinct-apart}
use Rattle.harvest_stages.proofs.PartLemmas.{IsPermutation-ascending, any-IsIn, filter-none}
use Rattle.harvest_stages.proofs.PartLemmas.{filter-others, flat_map-IsIn, flat_map-map, flat_map-same, left-IsIn}
use Rattle.harvest_stages.proofs.PartLemmas.{map-left, sum_by-part}
use Rattle.harvest_stages.proofs.RestLemmas.{can_stay, stays}
use Rattle.harvest_stages.proofs.RestoreLemmas.{AreSources-states, job_cmp_total, own_groups, restored-groups}

-- ---- jobs of different sources

-- A job of a later source is none of an earlier one,
not_earlier : (s t : HarvestSource) (job : Job) → name_cmp s t ≡ Less → is_of t job ≡ true → is_of s job ≡ false
not_earlier s t job less own =
    let named : t.name ≡ job.source = (bytes_eq-Decides t.name job.source).0 own in
    ap (λ name. bytes_eq s.name name) (sym named) ∙ sym (is_eq-slice_cmp s.name t.name) ∙ ap is_eq less

-- nor the other way round.
not_later : (s t : HarvestSource) (job : Job) → name_cmp s t ≡ Less → is_of s job ≡ true → is_of t job ≡ false
not_later s t job less own = by (is_of t job) refl
  where
    by : (b : Bool) → is_of t job ≡ b → b ≡ false
    by true other = let never : is_of s job ≡ false = not_earlier s t job less other in absurd (cc)
    by false other = refl

-- ---- what is restored

-- the jobs of each source in order, one source after the other
abbrev jobs_by : List HarvestSource → List Job → List Job
jobs_by sources jobs = flat_map (λ s. ascending job_cmp (jobs_of jobs s)) sources

no_jobs : (jobs : List Job) → ((job : Job) → IsIn job jobs → was_given [] job ≡ true) → jobs ≡ []
no_jobs [] given = refl
no_jobs (job ∷ jobs) given = let never : false ≡ true = given job (inl refl) in absurd (cc)

-- If each job has a source, these are all the jobs.
all_there : (sources : List HarvestSource) (jobs : List Job) → IsAscending name_cmp sources
    → ((job : Job) → IsIn job jobs → was_given sources job ≡ true) → IsPermutation jobs (jobs_by sources jobs)
all_there [] jobs up given = subst (λ (l : List Job). IsPermutation l []) (sym (no_jobs jobs given)) (IsPermutation-refl [])
all_there (s ∷ rest) jobs up given =
    let own : List Job = jobs_of jobs s in
    let others : List Job = filter (λ job. not (is_of s job)) jobs in
    let given_later : (job : Job) → IsIn job others → was_given rest job ≡ true =
    λ job there. let was = IsIn-filter (λ job. not (is_of s job)) job jobs there in later job was.1 (given job was.0) in
    let same : jobs_by rest others ≡ jobs_by rest jobs =
    flat_map-same (λ t. ascending job_cmp (jobs_of others t)) (λ t. ascending job_cmp (jobs_of jobs t)) rest
    (λ t there. ap (ascending job_cmp)
    (filter-others (is_of s) (is_of t) (λ job. not_earlier s t job (below_in name_cmp s t rest up.0 there)) jobs)) in
    IsPermutation-trans jobs (own ++ others) (jobs_by (s ∷ rest) jobs)
    (IsPermutation-filter_both (is_of s) (λ job. not (is_of s job)) (λ job. refl) jobs)
    (IsPermutation-append own (ascending job_cmp own) others (jobs_by rest jobs) (IsPermutation-ascending job_cmp own)
    (subst (IsPermutation others) same (all_there rest others up.1 given_later)))
  where
    later : (job : Job) → not (is_of s job) ≡ true → was_given (s ∷ rest) job ≡ true → was_given rest job ≡ true
    later job other given = by (is_of s job) other given
      where
        by : (b : Bool) → not b ≡ true → ((b && nat_lt job.number s.next_job) || was_given rest job) ≡ true
            → was_given rest job ≡ true
        by true different given = absurd (cc)
        by false different given = given

module _ (sources : List HarvestSource) (jobs : List Job) (made : List SourceState)
    (reported : All (λ (job : Job). job.report.source ≡ job.source) jobs) (is : restored sources jobs ≡ Some made) where
  abbrev sorted : List HarvestSource
  sorted = ascending name_cmp sources

  -- What is made, where the sources can be restored.
  fit_and_made : (are_restorable sources jobs ≡ true) × (made ≡ map (with_its_jobs jobs) sorted)
  fit_and_made = by (are_restorable sources jobs) refl is
    where
      by : (b : Bool) → are_restorable sources jobs ≡ b
          → cond {A = Option (List SourceState)} b (Some (map (with_its_jobs jobs) sorted)) None ≡ Some made
          → (are_restorable sources jobs ≡ true) × (made ≡ map (with_its_jobs jobs) sorted)
      by true fit e = let same : made ≡ map (with_its_jobs jobs) sorted = cc in (fit, same)
      by false fit e = absurd (cc)

  parts : (are_apart name_cmp sources ≡ true) × (list_all (is_restorable_job sources) jobs ≡ true)
  parts =
      let fit = and_parts (are_apart name_cmp sources && list_all (is_restorable_job sources) jobs)
      (list_all (λ source. is_sound source (jobs_of jobs source)) sources) fit_and_made.0 in
      let both = and_parts (are_apart name_cmp sources) (list_all (is_restorable_job sources) jobs) fit.0 in
      (both.0, both.1)

  ascends : IsAscending name_cmp sorted
  ascends = IsAscending-ascending name_cmp name_cmp_total sources (AreApart-are_apart name_cmp sources parts.0)

  fits : (job : Job) → IsIn job jobs → (was_given sorted job ≡ true) × (is_at_rest job ≡ true)
  fits job there =
      let both = and_parts (was_given sources job) (is_at_rest job)
      (list_all-IsIn (is_restorable_job sources) jobs parts.1 job there) in (
        list_any-ascending name_cmp (λ source. is_of source job && nat_lt job.number source.next_job) sources ∙ both.0,
        both.1,
      )

  -- The sources have their jobs.
  pub made_sound : AreSources made
  made_sound =
      let groups : List Group = ascending group_cmp (map without_jobs sources) in
      let apart : are_apart group_cmp (map without_jobs sources) ≡ true =
      are_apart-map without_jobs name_cmp group_cmp (λ s t. refl) sources ∙ parts.0 in
      let above : IsAscending group_cmp groups = IsAscending-ascending group_cmp group_cmp_total
      (map without_jobs sources) (AreApart-are_apart group_cmp (map without_jobs sources) apart) in
      let same : sources_of groups ≡ sorted =
      ap sources_of (ascending-map without_jobs name_cmp group_cmp (λ s t. refl) sources)
      ∙ map-map (λ (g : Group). g.source) without_jobs sorted
      ∙ map-id sorted in
      let fit : list_all (is_restorable_job (sources_of groups)) jobs ≡ true =
      IsIn-list_all (is_restorable_job (sources_of groups)) jobs
      (λ job there. subst (λ (ss : List HarvestSource). is_restorable_job ss job ≡ true) (sym same)
      (and_from (was_given sorted job) (is_at_rest job) (fits job there).0 (fits job there).1)) in
      AreSources-states (map (with_all_own jobs) groups) made (ascends_still groups jobs above)
      (own_groups sources jobs groups above refl reported fit)
      (sym is ∙ sym (restored-groups sources jobs groups apart refl fit))

  -- They are at rest.
  pub made_rests : All IsAtRest made
  made_rests =
      subst (All IsAtRest) (sym fit_and_made.1)
      (All-map IsAtRest (with_its_jobs jobs) sorted
      (All-each (λ s. IsAtRest (with_its_jobs jobs s)) sorted (λ s there. rests s)))
    where
      rests : (s : HarvestSource) → IsAtRest (with_its_jobs jobs s)
      rests s =
          ap (λ (js : List Job). record { source = s; jobs = js; listing = None })
          (map-left job_at_rest (ascending job_cmp (jobs_of jobs s))
          (λ job there. stays job
          (fits job (IsIn-filter (is_of s) job jobs (ascending-IsIn job_cmp job (jobs_of jobs s) there)).0).1))

  -- They are those that were given, in order,
  pub made_order : bare_sources made ≡ ascending name_cmp sources
  made_order =
      ap bare_sources fit_and_made.1 ∙ map-map (λ (s : SourceState). s.source) (with_its_jobs jobs) sorted ∙ map-id sorted

  -- and so are the jobs.
  pub made_jobs : IsPermutation jobs (all_jobs made)
  made_jobs =
      subst (IsPermutation jobs)
      (sym (ap all_jobs fit_and_made.1 ∙ flat_map-map (λ (s : SourceState). s.jobs) (with_its_jobs jobs) sorted))
      (all_there sorted jobs ascends (λ job there. (fits job there).0))

-- ---- what is restored again

-- A job of the source is one by its name.
is_own : (s : SourceState) → HasItsJobs s → (job : Job) → IsIn job s.jobs → is_of s.source job ≡ true
is_own s has job there =
    (bytes_eq-Decides s.source.name job.source).1 (sym (All-IsIn (IsJobOf s.source) s.jobs has.own job there).own)

-- Those of all jobs that are the source's by its name are its jobs.
own_of_all : (sources : List SourceState) → IsAscending source_cmp sources
    → ((s : SourceState) → IsIn s sources → HasItsJobs s) → (s : SourceState) → IsIn s sources
    → jobs_of (all_jobs sources) s.source ≡ s.jobs
own_of_all [] up has s there = absurd there
own_of_all (t ∷ rest) up has s (inl e) =
    filter-append (is_of s.source) t.jobs (all_jobs rest)
    ∙ ap (λ (l : List Job). l ++ jobs_of (all_jobs rest) s.source)
    (subst (λ (u : SourceState). jobs_of u.jobs s.source ≡ s.jobs) e
    (filter-all (is_of s.source) s.jobs (is_own s (has s (inl e)))))
    ∙ ap (λ (l : List Job). s.jobs ++ l) (filter-none (is_of s.source) (all_jobs rest) others)
    ∙ append-nil s.jobs
  where
    others : (job : Job) → IsIn job (all_jobs rest) → is_of s.source job ≡ false
    others job among =
        let w = flat_map-IsIn (λ (u : SourceState). u.jobs) job rest among in
        not_earlier s.source w.0.source job
        (subst (λ (u : SourceState). source_cmp u w.0 ≡ Less) (sym e) (below_in source_cmp t w.0 rest up.0 w.1))
        (is_own w.0 (has w.0 (inr w.1)) job w.2)
own_of_all (t ∷ rest) up has s (inr there) =
    filter-append (is_of s.source) t.jobs (all_jobs rest)
    ∙ ap (λ (l : List Job). l ++ jobs_of (all_jobs rest) s.source)
    (filter-none (is_of s.source) t.jobs (λ job among. not_later t.source s.source job
    (below_in source_cmp t s rest up.0 there) (is_own t (has t (inl refl)) job among)))
    ∙ own_of_all rest up.1 (λ u m. has u (inr m)) s there

named : (name : List ℕ) → name ≢ [] → not (length name == 0) ≡ true
named [] some = absurd (some refl)
named (x ∷ xs) some = ap not (ne_eqb (length (x ∷ xs)) 0 (λ e. omega arith))

module _ (sources : List SourceState) (jobs : List Job) (are : AreSources sources) (rest : All IsAtRest sources)
    (all : IsPermutation jobs (all_jobs sources)) where
  has_jobs : (s : SourceState) → IsIn s sources → HasItsJobs s
  has_jobs s there = All-IsIn HasItsJobs sources are.jobs s there

  rests : (s : SourceState) → IsIn s sources → at_rest s ≡ s
  rests s there = All-IsIn IsAtRest sources rest s there

  to_all : (job : Job) → IsIn job jobs → IsIn job (all_jobs sources)
  to_all job there =
      IsIn-Contains job (all_jobs sources) (Contains-permutation jobs (all_jobs sources) job all (Contains-IsIn job jobs there))

  from_all : (job : Job) → IsIn job (all_jobs sources) → IsIn job jobs
  from_all job there =
      IsIn-Contains job jobs (Contains-permutation (all_jobs sources) jobs job
      (IsPermutation-sym jobs (all_jobs sources) all) (Contains-IsIn job (all_jobs sources) there))

  own_jobs : (s : SourceState) → IsIn s sources → jobs_of (all_jobs sources) s.source ≡ s.jobs
  own_jobs = own_of_all sources are.ascending has_jobs

  -- Those of the jobs that are the source's have the sums of its jobs.
  same_sum : (f : Job → ℕ) (s : SourceState) → IsIn s sources → sum_by f (jobs_of jobs s.source) ≡ sum_by f s.jobs
  same_sum f s there = sum_by-part f (is_of s.source) jobs (all_jobs sources) all ∙ ap (sum_by f) (own_jobs s there)

  apart : (s : SourceState) → IsIn s sources → AreApart job_cmp (jobs_of jobs s.source)
  apart s there =
      apart_count job_cmp job_cmp_total (jobs_of jobs s.source)
      (λ z. subst (λ (n : ℕ). n ≤ 1) (sym (same_sum (λ y. cond (is_eq (job_cmp y z)) 1 0) s there))
      (count_apart job_cmp job_cmp_total z s.jobs (AreApart-are_apart job_cmp s.jobs
      (are_apart-IsAscending job_cmp job_cmp_total s.jobs (has_jobs s there).ascending))))

  -- In order they are its jobs.
  in_order : (s : SourceState) → IsIn s sources → ascending job_cmp (jobs_of jobs s.source) ≡ s.jobs
  in_order s there =
      unique job_cmp job_cmp_total (ascending job_cmp (jobs_of jobs s.source)) s.jobs
      (IsAscending-ascending job_cmp job_cmp_total (jobs_of jobs s.source) (apart s there)) (has_jobs s there).ascending
      (λ job m. let was = IsIn-filter (is_of s.source) job jobs (ascending-IsIn job_cmp job (jobs_of jobs s.source) m) in
      subst (IsIn job) (own_jobs s there)
      (filter-IsIn (is_of s.source) job (all_jobs sources) (to_all job was.0) was.1))
      (λ job m. let was = IsIn-filter (is_of s.source) job (all_jobs sources) (subst (IsIn job) (sym (own_jobs s there)) m) in
      IsIn-ascending job_cmp job (jobs_of jobs s.source) (filter-IsIn (is_of s.source) job jobs (from_all job was.0) was.1))

  -- So each source is as it was,
  as_before : (s : SourceState) → IsIn s sources → with_its_jobs jobs s.source ≡ s
  as_before s there =
      ap (λ (js : List Job). record { source = s.source; jobs = js; listing = None }) (in_order s there)
      ∙ ap (λ listing. record { source = s.source; jobs = s.jobs; listing = listing })
      (ap (λ (t : SourceState). t.listing) (rests s there))

  -- and sound,
  sound : (s : SourceState) → IsIn s sources → is_sound s.source (jobs_of jobs s.source) ≡ true
  sound s there =
      and_from _ (are_apart job_cmp (jobs_of jobs s.source))
      (and_from (not (length s.source.name == 0)) (nat_le (count_by is_open (jobs_of jobs s.source)) 1)
      (named s.source.name (All-IsIn (λ (t : SourceState). t.source.name ≢ []) sources are.named s there))
      (le-leb (count_by is_open (jobs_of jobs s.source)) 1
      (subst (λ (n : ℕ). n ≤ 1) (sym (same_sum (λ job. cond (is_open job) 1 0) s there)) (has_jobs s there).one_open)))
      (distinct-apart job_cmp (jobs_of jobs s.source) (apart s there))

  -- and each job can be restored.
  fit : (job : Job) → IsIn job jobs → is_restorable_job (bare_sources sources) job ≡ true
  fit job there =
      let w = flat_map-IsIn (λ (s : SourceState). s.jobs) job sources (to_all job there) in
      let of : IsJobOf w.0.source job =
      All-IsIn (IsJobOf w.0.source) w.0.jobs (has_jobs w.0 w.1).own job w.2 in
      let stays : job_at_rest job ≡ job =
      left-IsIn job_at_rest w.0.jobs (ap (λ (s : SourceState). s.jobs) (rests w.0 w.1)) job w.2 in
      and_from (was_given (bare_sources sources) job) (is_at_rest job)
      (any-IsIn (λ (source : HarvestSource). is_of source job && nat_lt job.number source.next_job) w.0.source
      (bare_sources sources) (IsIn-map (λ (s : SourceState). s.source) w.0 sources w.1)
      (and_from (is_of w.0.source job) (nat_lt job.number w.0.source.next_job) (is_own w.0 (has_jobs w.0 w.1) job w.2)
      (lt-ltb job.number w.0.source.next_job of.given)))
      (can_stay w.0.source job of stays)

  -- The sources are restored.
  pub restored_again : restored (bare_sources sources) jobs ≡ Some sources
  restored_again =
      let bare : List HarvestSource = bare_sources sources in
      let up : IsAscending name_cmp bare =
      IsAscending-map (λ (s : SourceState). s.source) source_cmp name_cmp (λ s t. refl) sources are.ascending in
      let can : are_restorable bare jobs ≡ true =
      and_from (are_apart name_cmp bare && list_all (is_restorable_job bare) jobs)
      (list_all (λ source. is_sound source (jobs_of jobs source)) bare)
      (and_from (are_apart name_cmp bare) (list_all (is_restorable_job bare) jobs)
      (are_apart-IsAscending name_cmp name_cmp_total bare up) (IsIn-list_all (is_restorable_job bare) jobs fit))
      (list_all-map (λ (s : SourceState). s.source) (λ source. is_sound source (jobs_of jobs source)) sources
      ∙ IsIn-list_all (λ (s : SourceState). is_sound s.source (jobs_of jobs s.source)) sources sound) in
      ap (λ b. cond {A = Option (List SourceState)} b (Some (map (with_its_jobs jobs) (ascending name_cmp bare))) None) can
      ∙ ap Some (ap (map (with_its_jobs jobs)) (ascending-same name_cmp name_cmp_total bare up)
      ∙ map-map (with_its_jobs jobs) (λ (s : SourceState). s.source) sources
      ∙ map-left (λ (s : SourceState). with_its_jobs jobs s.source) sources as_before)

-- What is restored, and that it holds of sources with their jobs.
use Rattle.std.proofs.Common.{◌≡◌, ◌≢◌, ◌∙◌, ◌≤◌, ℕ, Bool, true, false, ◌&&◌, ◌==◌, cond, not, List, [], ◌∷◌}
use Rattle.std.proofs.Common.{Option, Some, None, length, map, map-id, refl, sym, ap, subst, arith, eqb-true, ltb-true, leb-true}
use Rattle.std.specs.Prelude.{nat_lt, nat_le}
use Rattle.std.specs.Cmp.{IsTotalOrder}
use Rattle.std.specs.List.{All, count_by, list_all}
use Rattle.std.specs.Option.{option_map_or}
use Rattle.std.specs.declared.cmp.Ordering.TheVariants.{Equal}
use Rattle.std.proofs.lemmas.Bool.{and_parts}
use Rattle.std.proofs.lemmas.Cmp.{nat_cmp_total, on_total}
use Rattle.std.proofs.lemmas.List.Elements.{All-map}
use Rattle.std.proofs.lemmas.Map.Text.{is_eq-slice_cmp}
use Rattle.std.proofs.lemmas.Simd.{map-map}
use Rattle.std.proofs.lemmas.Slice.Eq.{bytes_eq-Decides}
use Rattle.portal_base.specs.Ordered.{IsAscending, are_apart, ascending, found}
use Rattle.portal_base.proofs.Filtered.{IsIn-filter, list_all-IsIn}
use Rattle.portal_base.proofs.Inserted.{IsAscending-ascending, list_any-ascending}
use Rattle.portal_base.proofs.Removed.{AreApart-are_apart, is_eq_true}
use Rattle.portal_base.proofs.Unique.{IsIn, ascending-IsIn}
use Rattle.portal_base.proofs.Upserted.{All-IsIn, All-each}
use Rattle.harvest_sources.specs.Jobs.{blank_report, is_open, is_open_state, job_cmp}
use Rattle.harvest_sources.specs.Sources.{AreSources, HasItsJobs, IsJobOf, SourceState, source_cmp}
use Rattle.harvest_sources.specs.declared.job.Job.{Job}
use Rattle.harvest_sources.specs.declared.job.JobState.{JobState}
use Rattle.harvest_sources.specs.declared.job.JobState.TheVariants.{New, Running, Finished, Broken}
use Rattle.harvest_sources.specs.declared.job.SourceReport.{SourceReport}
use Rattle.harvest_sources.specs.declared.source.HarvestSource.{HarvestSource}
use Rattle.harvest_stages.specs.Groups.{HasOwnJobs, group_at, group_cmp, group_cmp_total, group_of, IsKey-group_at}
use Rattle.harvest_stages.specs.Groups.{is_sound_group, sources_of, state_of, states_of, with_all_own, without_jobs}
use Rattle.harvest_stages.specs.Restored.{counts_nothing, is_at_rest, is_at_rest_in, is_of, is_restorable_job}
use Rattle.harvest_stages.specs.Restored.{is_sound, jobs_of, name_cmp, restored, was_given, with_its_jobs}
use Rattle.harvest_stages.specs.declared.groups.Group.{Group}
use Rattle.harvest_stages.proofs.FoundLemmas.{found-IsIn}
use Rattle.harvest_stages.proofs.GroupLemmas.{given_found}
use Rattle.harvest_stages.proofs.MapLemmas.{IsAscending-map, IsIn-map, are_apart-map, ascending-map, count_by-ascending}
use Rattle.harvest_stages.proofs.MapLemmas.{list_all-ascending, list_all-map, list_all-same}

-- ---- the rules by groups

pub job_cmp_total : IsTotalOrder job_cmp
job_cmp_total = on_total (λ (job : Job). job.number) nat_cmp_total

-- the sources in order
abbrev in_order : List HarvestSource → List HarvestSource
in_order sources = ascending name_cmp sources

-- the groups in order are those of the sources in order
groups_in_order : (sources : List HarvestSource)
    → ascending group_cmp (map without_jobs sources) ≡ map without_jobs (in_order sources)
groups_in_order sources = ascending-map without_jobs name_cmp group_cmp (λ s t. refl) sources

groups_apart : (sources : List HarvestSource)
    → are_apart group_cmp (map without_jobs sources) ≡ are_apart name_cmp sources
groups_apart sources = are_apart-map without_jobs name_cmp group_cmp (λ s t. refl) sources

sources_in_order : (sources : List HarvestSource) (groups : List Group)
    → groups ≡ ascending group_cmp (map without_jobs sources) → sources_of groups ≡ in_order sources
sources_in_order sources groups is =
    ap sources_of (is ∙ groups_in_order sources)
    ∙ map-map (λ (g : Group). g.source) without_jobs (in_order sources)
    ∙ map-id (in_order sources)

-- the groups with their jobs
filled : (sources : List HarvestSource) (jobs : List Job) (groups : List Group)
    → groups ≡ ascending group_cmp (map without_jobs sources)
    → map (with_all_own jobs) groups ≡ map (group_of jobs) (in_order sources)
filled sources jobs groups is =
    ap (map (with_all_own jobs)) (is ∙ groups_in_order sources)
    ∙ map-map (with_all_own jobs) without_jobs (in_order sources)

given_in_order : (sources : List HarvestSource) (job : Job)
    → is_restorable_job (in_order sources) job ≡ is_restorable_job sources job
given_in_order sources job =
    ap (λ b. b && is_at_rest job)
    (list_any-ascending name_cmp (λ source. is_of source job && nat_lt job.number source.next_job) sources)

fit_in_order : (sources : List HarvestSource) (jobs : List Job) (groups : List Group)
    → groups ≡ ascending group_cmp (map without_jobs sources)
    → list_all (is_restorable_job (sources_of groups)) jobs ≡ list_all (is_restorable_job sources) jobs
fit_in_order sources jobs groups is =
    ap (λ (ss : List HarvestSource). list_all (is_restorable_job ss) jobs) (sources_in_order sources groups is)
    ∙ list_all-same _ _ (given_in_order sources) jobs

sound_in_order : (sources : List HarvestSource) (jobs : List Job)
    → list_all is_sound_group (map (group_of jobs) (in_order sources))
    ≡ list_all (λ source. is_sound source (jobs_of jobs source)) sources
sound_in_order sources jobs =
    list_all-map (group_of jobs) is_sound_group (in_order sources)
    ∙ list_all-ascending name_cmp (λ source. is_sound source (jobs_of jobs source)) sources

-- ---- what is restored

-- the three rules
abbrev by_rules : List HarvestSource → List Job → Bool → Bool → Bool → Option (List SourceState)
by_rules sources jobs apart fit sound =
    cond (apart && fit && sound) (Some (map (with_its_jobs jobs) (in_order sources))) None

-- Nothing, where two sources have the same name
pub restored-equal : (sources : List HarvestSource) (jobs : List Job) → are_apart group_cmp (map without_jobs sources) ≡ false
    → restored sources jobs ≡ None
restored-equal sources jobs equal =
    ap (λ b. by_rules sources jobs b (list_all (is_restorable_job sources) jobs)
    (list_all (λ source. is_sound source (jobs_of jobs source)) sources))
    (sym (groups_apart sources) ∙ equal)

-- Nothing, where a job doesn't fit.
pub restored-unfit : (sources : List HarvestSource) (jobs : List Job) (groups : List Group)
    → groups ≡ ascending group_cmp (map without_jobs sources)
    → list_all (is_restorable_job (sources_of groups)) jobs ≡ false → restored sources jobs ≡ None
restored-unfit sources jobs groups is unfit =
    ap (λ b. by_rules sources jobs (are_apart name_cmp sources) b
    (list_all (λ source. is_sound source (jobs_of jobs source)) sources))
    (sym (fit_in_order sources jobs groups is) ∙ unfit)
    ∙ none (are_apart name_cmp sources)
  where
    none : (a : Bool)
        → by_rules sources jobs a false (list_all (λ source. is_sound source (jobs_of jobs source)) sources) ≡ None
    none true = refl
    none false = refl

-- Else what the groups give.
pub restored-groups : (sources : List HarvestSource) (jobs : List Job) (groups : List Group)
    → are_apart group_cmp (map without_jobs sources) ≡ true
    → groups ≡ ascending group_cmp (map without_jobs sources)
    → list_all (is_restorable_job (sources_of groups)) jobs ≡ true
    → states_of (map (with_all_own jobs) groups) ≡ restored sources jobs
restored-groups sources jobs groups apart is fit =
    ap states_of (filled sources jobs groups is)
    ∙ ap (λ (ss : List SourceState). cond (list_all is_sound_group (map (group_of jobs) (in_order sources))) (Some ss) None)
    (map-map state_of (group_of jobs) (in_order sources))
    ∙ ap (by_rules sources jobs true true) (sound_in_order sources jobs)
    ∙ ap (λ b. by_rules sources jobs b true (list_all (λ source. is_sound source (jobs_of jobs source)) sources))
    (sym apart ∙ groups_apart sources)
    ∙ ap (λ b. by_rules sources jobs (are_apart name_cmp sources) b
    (list_all (λ source. is_sound source (jobs_of jobs source)) sources))
    (sym fit ∙ fit_in_order sources jobs groups is)

-- ---- jobs of their sources

nothing : {X : Type 0} (xs : List X) → (length xs == 0) ≡ true → xs ≡ []
nothing [] e = refl
nothing (x ∷ xs) e = absurd (omega (arith, eqb-true (length (x ∷ xs)) 0 e))

-- A report that counts nothing is blank.
blank : (source : List ℕ) (r : SourceReport) → r.source ≡ source → counts_nothing r ≡ true
    → r ≡ blank_report source r.state
blank source r own h =
    let bad = and_parts _ (length r.bad == 0) h in
    let unnamed = and_parts _ (r.unnamed == 0) bad.0 in
    let deleted = and_parts _ (r.deleted == 0) unnamed.0 in
    let unchanged = and_parts _ (r.unchanged == 0) deleted.0 in
    let both = and_parts (r.added == 0) (r.updated == 0) unchanged.0 in
    ap (λ v. record r { source = v }) own
    ∙ ap (λ v. record r { source = source; added = v }) (eqb-true r.added 0 both.0)
    ∙ ap (λ v. record r { source = source; added = 0; updated = v }) (eqb-true r.updated 0 both.1)
    ∙ ap (λ v. record r { source = source; added = 0; updated = 0; unchanged = v }) (eqb-true r.unchanged 0 unchanged.1)
    ∙ ap (λ v. record r { source = source; added = 0; updated = 0; unchanged = 0; deleted = v })
    (eqb-true r.deleted 0 deleted.1)
    ∙ ap (λ v. record r { source = source; added = 0; updated = 0; unchanged = 0; deleted = 0; unnamed = v })
    (eqb-true r.unnamed 0 unnamed.1)
    ∙ ap (λ v. record r { source = source; added = 0; updated = 0; unchanged = 0; deleted = 0; unnamed = 0; bad = v })
    (nothing r.bad bad.1)

-- An open job at rest has done nothing.
open_blank : (state : JobState) (source : List ℕ) (r : SourceReport) → r.source ≡ source
    → is_at_rest_in state r ≡ true → is_open_state state ≡ true → r ≡ blank_report source r.state
open_blank New source r own rests opened = blank source r own rests
open_blank Running source r own rests opened = absurd (cc)
open_blank Finished source r own rests opened = absurd (cc)
open_blank (Broken cause) source r own rests opened = absurd (cc)

-- A job that can be restored is one of the source of its name.
own_job : (groups : List Group) (g : Group) (job : Job) → IsAscending group_cmp groups → IsIn g groups
    → is_of g.source job ≡ true → is_restorable_job (sources_of groups) job ≡ true → job.report.source ≡ job.source
    → IsJobOf g.source job
own_job groups g job up there own fits reported =
    let both = and_parts (was_given (sources_of groups) job) (is_at_rest job) fits in
    let named : g.source.name ≡ job.source = (bytes_eq-Decides g.source.name job.source).0 own in
    let here : group_at job.source g ≡ Equal = is_eq_true _ (is_eq-slice_cmp g.source.name job.source ∙ own) in
    let is : found (group_at job.source) groups ≡ Some g =
    found-IsIn group_cmp group_cmp_total (group_at job.source) (IsKey-group_at job.source) groups g up there here in
    record {
      own = sym named;
      reported = reported ∙ sym named;
      given = ltb-true job.number g.source.next_job
          (sym (given_found groups job up
          ∙ ap (λ o. option_map_or (λ (h : Group). nat_lt job.number h.source.next_job) o false) is) ∙ both.0);
      blank = λ opened. open_blank job.report.state g.source.name job.report (reported ∙ sym named) both.1 opened;
    }

own_jobs : (sources : List HarvestSource) (jobs : List Job) (groups : List Group)
    → IsAscending group_cmp groups → groups ≡ ascending group_cmp (map without_jobs sources)
    → All (λ (job : Job). job.report.source ≡ job.source) jobs
    → list_all (is_restorable_job (sources_of groups)) jobs ≡ true
    → (s : HarvestSource) → IsIn s (in_order sources) → HasOwnJobs (group_of jobs s)
own_jobs sources jobs groups up is reported fit s there =
    All-each (IsJobOf s) (jobs_of jobs s)
    (λ job among. let was = IsIn-filter (is_of s) job jobs among in
    own_job groups (without_jobs s) job up
    (subst (IsIn (without_jobs s)) (sym (is ∙ groups_in_order sources)) (IsIn-map without_jobs s (in_order sources) there))
    was.1 (list_all-IsIn (is_restorable_job (sources_of groups)) jobs fit job was.0)
    (All-IsIn (λ (j : Job). j.report.source ≡ j.source) jobs reported job was.0))

pub own_groups : (sources : List HarvestSource) (jobs : List Job) (groups : List Group)
    → IsAscending group_cmp groups → groups ≡ ascending group_cmp (map without_jobs sources)
    → All (λ (job : Job). job.report.source ≡ job.source) jobs
    → list_all (is_restorable_job (sources_of groups)) jobs ≡ true
    → All HasOwnJobs (map (with_all_own jobs) groups)
own_groups sources jobs groups up is reported fit =
    subst (All HasOwnJobs) (sym (filled sources jobs groups is))
    (All-map HasOwnJobs (group_of jobs) (in_order sources)
    (All-each (λ s. HasOwnJobs (group_of jobs s)) (in_order sources)
    (own_jobs sources jobs groups up is reported fit)))

-- ---- the sources that are restored

named : (name : List ℕ) → not (length name == 0) ≡ true → name ≢ []
named [] h e = absurd (cc)
named (x ∷ xs) h e = absurd (cc)

-- A sound source has its jobs.
pub has_its_jobs : (g : Group) → HasOwnJobs g → is_sound_group g ≡ true → HasItsJobs (state_of g)
has_its_jobs g own sound =
    let both = and_parts _ (are_apart job_cmp g.jobs) sound in
    let few = and_parts (not (length g.source.name == 0)) (nat_le (count_by is_open g.jobs) 1) both.0 in
    let one : count_by is_open g.jobs ≤ 1 = leb-true (count_by is_open g.jobs) 1 few.1 in
    record {
      own = All-each (IsJobOf g.source) (ascending job_cmp g.jobs)
          (λ job there. All-IsIn (IsJobOf g.source) g.jobs own job (ascending-IsIn job_cmp job g.jobs there));
      ascending = IsAscending-ascending job_cmp job_cmp_total g.jobs (AreApart-are_apart job_cmp g.jobs both.1);
      one_open = subst (λ n. n ≤ 1) (sym (count_by-ascending job_cmp is_open g.jobs)) one;
      runs = λ listed. absurd (cc);
      listed = tt;
    }

-- It is one if it passes the tests one after the other.
pub sound_by_steps : (g : Group) (one_open : Bool)
    → one_open ≡ (not (length g.source.name == 0) && nat_le (count_by is_open g.jobs) 1)
    → one_open ≡ true → are_apart job_cmp g.jobs ≡ true → is_sound_group g ≡ true
sound_by_steps g one_open is passes apart =
    ap (λ b. b && are_apart job_cmp g.jobs) (sym is ∙ passes) ∙ apart

pub restored_holds : (g : Group) (one_open : Bool) (sorted : List Job) → HasOwnJobs g
    → one_open ≡ (not (length g.source.name == 0) && nat_le (count_by is_open g.jobs) 1)
    → one_open ≡ true → are_apart job_cmp g.jobs ≡ true → sorted ≡ ascending job_cmp g.jobs
    → HasItsJobs (record { source = g.source; jobs = sorted; listing = None })
restored_holds g one_open sorted own is passes apart order =
    subst (λ (jobs : List Job). HasItsJobs (record { source = g.source; jobs = jobs; listing = None })) (sym order)
    (has_its_jobs g own (sound_by_steps g one_open is passes apart))

are_sources : (groups : List Group) → IsAscending group_cmp groups → All HasOwnJobs groups
    → list_all is_sound_group groups ≡ true → AreSources (map state_of groups)
are_sources groups up own sound = record {
  ascending = IsAscending-map state_of group_cmp source_cmp (λ g h. refl) groups up;
  named = All-map (λ (s : SourceState). s.source.name ≢ []) state_of groups
      (All-each (λ (g : Group). g.source.name ≢ []) groups (λ g there. named g.source.name
      (and_parts _ _ (and_parts _ (are_apart job_cmp g.jobs) (list_all-IsIn is_sound_group groups sound g there)).0).0));
  jobs = All-map HasItsJobs state_of groups
      (All-each (λ g. HasItsJobs (state_of g)) groups (λ g there. has_its_jobs g (All-IsIn HasOwnJobs groups own g there)
      (list_all-IsIn is_sound_group groups sound g there)));
}

-- What the groups give holds of sources.
pub AreSources-states : (groups : List Group) (given : List SourceState) → IsAscending group_cmp groups
    → All HasOwnJobs groups → Some given ≡ states_of groups → AreSources given
AreSources-states groups given up own is = by (list_all is_sound_group groups) refl is
  where
    by : (b : Bool) → list_all is_sound_group groups ≡ b
        → Some given ≡ cond {A = Option (List SourceState)} b (Some (map state_of groups)) None → AreSources given
    by true sound e = let same : given ≡ map state_of groups = cc in
        subst AreSources (sym same) (are_sources groups up own sound)
    by false sound e = absurd (cc)

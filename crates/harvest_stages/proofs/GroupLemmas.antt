-- Jobs that are put to their sources.
use Rattle.std.proofs.Common.{◌≡◌, ◌∙◌, ◌<◌, ℕ, Bool, true, false, ◌&&◌, cond, List, [], ◌∷◌, ◌++◌, Some, None}
use Rattle.std.proofs.Common.{length, get_or, set, map, refl, sym, ap, append_assoc, arith, subst}
use Rattle.std.proofs.lemmas.List.{append-nil}
use Rattle.std.specs.Prelude.{IfSome, position, nat_lt, slice_get}
use Rattle.std.specs.List.{HoldsAt}
use Rattle.std.specs.Option.{option_map_or}
use Rattle.std.specs.Ordering.{is_eq}
use Rattle.std.specs.declared.cmp.Ordering.TheVariants.{Equal}
use Rattle.std.proofs.lemmas.List.Elements.{filter-append}
use Rattle.std.proofs.lemmas.Option.{slice_get-get_or}
use Rattle.std.proofs.lemmas.Map.Text.{is_eq-slice_cmp}
use Rattle.std.proofs.lemmas.Simd.{map-map}
use Rattle.portal_base.specs.Ordered.{IsAscending, found}
use Rattle.portal_base.proofs.Inserted.{list_any-same}
use Rattle.portal_base.proofs.Removed.{is_eq_true, removed-none}
use Rattle.harvest_sources.specs.declared.job.Job.{Job}
use Rattle.harvest_sources.specs.declared.source.HarvestSource.{HarvestSource}
use Rattle.harvest_stages.specs.Groups.{group_at, group_cmp, group_cmp_total, IsKey-group_at, sources_of, with_all_own}
use Rattle.harvest_stages.specs.Groups.{with_last, with_own}
use Rattle.harvest_stages.specs.Restored.{is_at_rest, is_of, is_restorable_job, jobs_of, was_given}
use Rattle.harvest_stages.specs.declared.groups.Group.{Group}
use Rattle.harvest_stages.proofs.MapLemmas.{IsAscending-map, list_any-map, map-same}
use Rattle.harvest_stages.proofs.FoundLemmas.{any_found, changed_at-set, placed}

-- ---- the source of a job

-- A job's number is given if its source is found and has given it.
pub given_found : (groups : List Group) (job : Job) → IsAscending group_cmp groups
    → was_given (sources_of groups) job
    ≡ option_map_or (λ g. nat_lt job.number g.source.next_job) (found (group_at job.source) groups) false
given_found groups job up =
    list_any-map (λ (g : Group). g.source) (λ source. is_of source job && nat_lt job.number source.next_job) groups
    ∙ list_any-same _ _
    (λ g. ap (λ b. b && nat_lt job.number g.source.next_job) (sym (is_eq-slice_cmp g.source.name job.source))) groups
    ∙ any_found group_cmp group_cmp_total (group_at job.source) (IsKey-group_at job.source)
    (λ g. nat_lt job.number g.source.next_job) groups up

pub fits_nowhere : (groups : List Group) (job : Job) → IsAscending group_cmp groups
    → position (λ g. is_eq (group_at job.source g)) groups ≡ None
    → is_restorable_job (sources_of groups) job ≡ false
fits_nowhere groups job up nowhere =
    ap (λ b. b && is_at_rest job) (given_found groups job up
    ∙ ap (λ o. option_map_or (λ g. nat_lt job.number g.source.next_job) o false)
    (removed-none (group_at job.source) groups nowhere).0)

pub fits_there : (groups : List Group) (job : Job) (place : ℕ) (d : Group) → IsAscending group_cmp groups
    → position (λ g. is_eq (group_at job.source g)) groups ≡ Some place
    → is_restorable_job (sources_of groups) job
    ≡ (nat_lt job.number (get_or groups place d).source.next_job && is_at_rest job)
fits_there groups job place d up there =
    ap (λ b. b && is_at_rest job) (given_found groups job up
    ∙ ap (λ o. option_map_or (λ h. nat_lt job.number h.source.next_job) o false)
    (placed group_cmp group_cmp_total (group_at job.source) (IsKey-group_at job.source) groups place d there).0)

pub own_there : (groups : List Group) (job : Job) (place : ℕ)
    → position (λ g. is_eq (group_at job.source g)) groups ≡ Some place
    → HoldsAt (λ g. is_of g.source job ≡ true) groups place
own_there groups job place there = λ d.
    sym (is_eq-slice_cmp (get_or groups place d).source.name job.source)
    ∙ ap is_eq
    (placed group_cmp group_cmp_total (group_at job.source) (IsKey-group_at job.source) groups place d there).1

-- ---- a job that is put

-- With only the group at the place of the job's source changed, the job is put.
pub put_there : (groups : List Group) (job : Job) (place : ℕ) (g : Group) → IsAscending group_cmp groups
    → place < length groups → HoldsAt (λ g. is_of g.source job ≡ true) groups place
    → set groups place (with_last job (get_or groups place g)) ≡ map (with_own job) groups
put_there groups job place g up within own =
    sym (map-same (with_own job) (λ h. cond (is_eq (group_at job.source h)) (with_last job h) h)
    (λ h. ap (λ b. cond b (with_last job h) h) (sym (is_eq-slice_cmp h.source.name job.source))) groups
    ∙ changed_at-set group_cmp group_cmp_total (group_at job.source) (IsKey-group_at job.source) (with_last job) groups up
    place g within (here (own g)))
  where
    here : is_of (get_or groups place g).source job ≡ true → group_at job.source (get_or groups place g) ≡ Equal
    here h = is_eq_true _ (is_eq-slice_cmp (get_or groups place g).source.name job.source ∙ h)

-- ---- jobs that are put one after the other

jobs_of-push : (jobs : List Job) (job : Job) (source : HarvestSource)
    → jobs_of (jobs ++ job ∷ []) source ≡ jobs_of jobs source ++ cond (is_of source job) (job ∷ []) []
jobs_of-push jobs job source = filter-append (is_of source) jobs (job ∷ [])

with_own-more : (jobs : List Job) (job : Job) (g : Group)
    → with_own job (with_all_own jobs g) ≡ with_all_own (jobs ++ job ∷ []) g
with_own-more jobs job g =
    by (is_of g.source job)
    ∙ ap (λ l. record g { jobs = g.jobs ++ l }) (sym (jobs_of-push jobs job g.source))
  where
    by : (b : Bool)
        → cond b (record g { jobs = (g.jobs ++ jobs_of jobs g.source) ++ job ∷ [] })
        (record g { jobs = g.jobs ++ jobs_of jobs g.source })
        ≡ record g { jobs = g.jobs ++ (jobs_of jobs g.source ++ cond b (job ∷ []) []) }
    by true = ap (λ l. record g { jobs = l }) (append_assoc g.jobs (jobs_of jobs g.source) (job ∷ []))
    by false = ap (λ l. record g { jobs = g.jobs ++ l }) (sym (append-nil (jobs_of jobs g.source)))

-- One more job is put.
pub put_more : (groups : List Group) (jobs : List Job) (job : Job)
    → map (with_own job) (map (with_all_own jobs) groups) ≡ map (with_all_own (jobs ++ job ∷ [])) groups
put_more groups jobs job =
    map-map (with_own job) (with_all_own jobs) groups ∙ map-same _ _ (with_own-more jobs job) groups

pub put_none : (groups : List Group) → map (with_all_own []) groups ≡ groups
put_none [] = refl
put_none (g ∷ groups) =
    ap (λ l. record g { jobs = l } ∷ map (with_all_own []) groups) (append-nil g.jobs)
    ∙ ap (λ gs. g ∷ gs) (put_none groups)

-- The groups stay in order, and their sources stay.
pub ascends_still : (groups : List Group) (jobs : List Job) → IsAscending group_cmp groups
    → IsAscending group_cmp (map (with_all_own jobs) groups)
ascends_still groups jobs up = IsAscending-map (with_all_own jobs) group_cmp group_cmp (λ g h. refl) groups up

pub sources_still : (groups : List Group) (jobs : List Job)
    → sources_of (map (with_all_own jobs) groups) ≡ sources_of groups
sources_still groups jobs = map-map (λ (g : Group). g.source) (with_all_own jobs) groups

-- The job is put, if it is put to the source that was found for it.
pub put_got : (groups lent : List Group) (job : Job) (place : ℕ) (after : List Group) → lent ≡ groups
    → IsAscending group_cmp groups
    → (is_restorable_job (sources_of lent) job ≡ true) × (place < length lent)
    × HoldsAt (λ g. is_of g.source job ≡ true) lent place
    → IfSome (slice_get groups place) (λ g. after ≡ set groups place (with_last job g))
    → after ≡ map (with_own job) groups
put_got [] lent job place after same up found put = let within : place < length lent = found.1 in absurd (omega (arith, ap length same))
put_got (g ∷ rest) lent job place after same up found put =
    let groups : List Group = g ∷ rest in
    let within : place < length groups = subst (λ (l : List Group). place < length l) same found.1 in
    let own = subst (λ (l : List Group). HoldsAt (λ g. is_of g.source job ≡ true) l place) same found.2 in
    rw (slice_get-get_or groups place g within) at put ∙ put_there groups job place g up within own

-- So whether a job can be restored stays.
pub restorable_still : (groups now : List Group) (jobs : List Job) (job : Job) → now ≡ map (with_all_own jobs) groups
    → is_restorable_job (sources_of groups) job ≡ is_restorable_job (sources_of now) job
restorable_still groups now jobs job is =
    ap (λ sources. is_restorable_job sources job) (sym (sources_still groups jobs) ∙ ap sources_of (sym is))

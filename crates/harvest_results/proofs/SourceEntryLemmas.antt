-- The source of a name, after entries of sources and jobs.
use Rattle.std.proofs.Common.{◌≡◌, ◌≢◌, ℕ, ◌≤◌, Bool, true, false, not, ◌||◌, cond, List, [], ◌∷◌, ◌++◌, length, map}
use Rattle.std.proofs.Common.{Option}
use Rattle.std.proofs.Common.{Some, None, refl, sym, ap, ◌∙◌, subst, inl, inr, arith}
use Rattle.std.specs.Prelude.{filter, option_map}
use Rattle.std.specs.declared.cmp.Ordering.{Ordering}
use Rattle.std.specs.declared.cmp.Ordering.TheVariants.{Less, Equal, Greater}
use Rattle.std.specs.Cmp.{IsTotalOrder}
use Rattle.std.specs.Cmp.Lexicographic.{nat_list_cmp_total, slice_cmp}
use Rattle.std.specs.List.{find, flat_map, list_any}
use Rattle.std.specs.Ordering.{is_eq, nat_cmp, ordering_reverse}
use Rattle.std.specs.Str.{bytes_eq}
use Rattle.std.proofs.lemmas.Cmp.{nat_cmp_total, tied_itself}
use Rattle.std.proofs.lemmas.List.Sums.{length-filter}
use Rattle.std.proofs.lemmas.Slice.Eq.{bytes_eq-Decides}
use Rattle.portal_base.specs.Ordered.{IsAscending, dropped, upserted}
use Rattle.portal_base.proofs.Filtered.{find-list_any}
use Rattle.portal_base.proofs.Inserted.{find-inserted_found, find-inserted_other}
use Rattle.portal_base.proofs.Unique.{IsIn, below_in}
use Rattle.portal_base.proofs.Upserted.{All-IsIn}
use Rattle.packages.proofs.FindLemmas.{IsIn-find, find-alone}
use Rattle.harvest_sources.specs.Entries.{PutJob, SourceEntry, changed_by, sources_after, with_job, with_listing}
use Rattle.harvest_sources.specs.Entries.{with_source_at}
use Rattle.harvest_sources.specs.Jobs.{in_state, is_open, is_running, job_cmp}
use Rattle.harvest_sources.specs.Listings.{with_all_released}
use Rattle.harvest_sources.specs.Sources.{AreSources, HasItsJobs, IsJobOf, SourceState, open_job, source_cmp}
use Rattle.harvest_sources.specs.Sources.{source_cmp_total, source_named}
use Rattle.harvest_sources.specs.Steps.{renewal, renewals}
use Rattle.harvest_sources.specs.declared.job.Job.{Job}
use Rattle.harvest_sources.specs.declared.job.JobState.TheVariants.{New}
use Rattle.harvest_sources.specs.declared.listing.Listing.{Listing}
use Rattle.harvest_sources.specs.declared.source.HarvestSource.{HarvestSource}

-- ---- one source of a name

-- Two members of an ascending list that are equal by the order are the same.
pub same_member : {X : Type 0} (cmp : X → X → Ordering) (o : IsTotalOrder cmp) (x y : X) (xs : List X)
    → IsAscending cmp xs → IsIn x xs → IsIn y xs → cmp x y ≡ Equal → x ≡ y
same_member cmp o x y [] up m n like = absurd m
same_member cmp o x y (z ∷ zs) up (inl a) (inl b) like = a ∙ sym b
same_member cmp o x y (z ∷ zs) up (inl a) (inr n) like =
    let below : cmp x y ≡ Less = subst (λ w. cmp w y ≡ Less) (sym a) (below_in cmp z y zs up.0 n) in absurd (cc)
same_member cmp o x y (z ∷ zs) up (inr m) (inl b) like =
    let below : cmp y x ≡ Less = subst (λ w. cmp w x ≡ Less) (sym b) (below_in cmp z x zs up.0 m) in
    let back : cmp x y ≡ ordering_reverse (cmp y x) = o.antisymm x y in
    let turned : ordering_reverse (cmp y x) ≡ Greater = ap ordering_reverse below in
    absurd (cc)
same_member cmp o x y (z ∷ zs) up (inr m) (inr n) like = same_member cmp o x y zs up.1 m n like

pub same_bytes : (xs ys : List ℕ) → xs ≡ ys → slice_cmp nat_cmp xs ys ≡ Equal
same_bytes xs ys e = ap (slice_cmp nat_cmp xs) (sym e) ∙ tied_itself nat_list_cmp_total xs

pub IsIn-named : (sources : List SourceState) (name : List ℕ) (s : SourceState) → source_named sources name ≡ Some s
    → IsIn s sources × (s.source.name ≡ name)
IsIn-named sources name s is =
    let there = IsIn-find (λ (t : SourceState). bytes_eq t.source.name name) s sources is in
    (there.0, (bytes_eq-Decides s.source.name name).0 there.1)

-- No other source has its name.
pub same_source : (sources : List SourceState) (name : List ℕ) (s t : SourceState) → AreSources sources
    → source_named sources name ≡ Some s → IsIn t sources → t.source.name ≡ name → t ≡ s
same_source sources name s t fit is m named =
    let there = IsIn-named sources name s is in
    same_member source_cmp source_cmp_total t s sources fit.ascending m there.0
    (same_bytes t.source.name s.source.name (named ∙ sym there.1))

pub job_named : (t : SourceState) (job : Job) → HasItsJobs t → open_job t ≡ Some job → job.source ≡ t.source.name
job_named t job fit is =
    (All-IsIn (IsJobOf t.source) t.jobs fit.own job (IsIn-find is_open job t.jobs is).0).own

-- A source is found by its name.
pub named-member : (sources : List SourceState) (name : List ℕ) (t : SourceState) → AreSources sources → IsIn t sources
    → t.source.name ≡ name → source_named sources name ≡ Some t
named-member sources name t fit m named =
    find-alone (λ (s : SourceState). bytes_eq s.source.name name) t sources m
    ((bytes_eq-Decides t.source.name name).1 named)
    (λ s n also. same_member source_cmp source_cmp_total s t sources fit.ascending n m
    (same_bytes s.source.name t.source.name ((bytes_eq-Decides s.source.name name).0 also ∙ sym named)))

-- ---- a source, after a change of the one of a name

abbrev touched : List ℕ → (SourceState → SourceState) → SourceState → SourceState
touched name change s = cond (bytes_eq s.source.name name) (change s) s

pub find-map : {X Y : Type 0} (f : X → Y) (p : Y → Bool) (q : X → Bool) → ((x : X) → p (f x) ≡ q x) → (xs : List X)
    → find p (map f xs) ≡ option_map f (find q xs)
find-map f p q same [] = refl
find-map {X} {Y} f p q same (x ∷ xs) =
    ap (λ b. cond b (Some (f x)) (find p (map f xs))) (same x) ∙ by (q x) (find-map f p q same xs)
  where
    by : (b : Bool) → find p (map f xs) ≡ option_map f (find q xs)
        → cond b (Some (f x)) (find p (map f xs)) ≡ option_map f (cond b (Some x) (find q xs))
    by true e = refl
    by false e = e

named-touched : (name other : List ℕ) (change : SourceState → SourceState) (sources : List SourceState)
    → ((s : SourceState) → (change s).source ≡ s.source)
    → source_named (with_source_at other change sources) name
    ≡ option_map (touched other change) (source_named sources name)
named-touched name other change sources keeps =
    find-map (touched other change) (λ (s : SourceState). bytes_eq s.source.name name)
    (λ (s : SourceState). bytes_eq s.source.name name) same sources
  where
    by : (s : SourceState) (b : Bool) → bytes_eq (cond b (change s) s).source.name name ≡ bytes_eq s.source.name name
    by s true = ap (λ (t : HarvestSource). bytes_eq t.name name) (keeps s)
    by s false = refl

    same : (s : SourceState) → bytes_eq (touched other change s).source.name name ≡ bytes_eq s.source.name name
    same s = by s (bytes_eq s.source.name other)

pub named-changed : (name other : List ℕ) (change : SourceState → SourceState) (sources : List SourceState)
    (s : SourceState) → ((t : SourceState) → (change t).source ≡ t.source) → source_named sources name ≡ Some s → other ≡ name
    → source_named (with_source_at other change sources) name ≡ Some (change s)
named-changed name other change sources s keeps is same =
    let named : s.source.name ≡ name = (IsIn-named sources name s is).1 in
    let here : bytes_eq s.source.name other ≡ true = (bytes_eq-Decides s.source.name other).1 (named ∙ sym same) in
    named-touched name other change sources keeps
    ∙ ap (option_map (touched other change)) is
    ∙ ap (λ b. Some (cond b (change s) s)) here

pub named-apart : (name other : List ℕ) (change : SourceState → SourceState) (sources : List SourceState)
    → ((t : SourceState) → (change t).source ≡ t.source) → other ≢ name
    → source_named (with_source_at other change sources) name ≡ source_named sources name
named-apart name other change sources keeps apart =
    named-touched name other change sources keeps ∙ by (source_named sources name) refl
  where
    there : (s : SourceState) → source_named sources name ≡ Some s → (b : Bool) → bytes_eq s.source.name other ≡ b
        → Some (cond b (change s) s) ≡ Some s
    there s is true like =
        absurd (apart (sym ((bytes_eq-Decides s.source.name other).0 like) ∙ (IsIn-named sources name s is).1))
    there s is false unlike = refl

    by : (o : Option SourceState) → source_named sources name ≡ o → option_map (touched other change) o ≡ o
    by None is = refl
    by (Some s) is = there s is (bytes_eq s.source.name other) refl

-- ---- the open job

none_open : (jobs : List Job) → length (filter is_open jobs) ≤ 0 → list_any is_open jobs ≡ false
none_open [] few = refl
none_open (job ∷ jobs) few = by (is_open job) few (none_open jobs)
  where
    by : (b : Bool) → length (cond b (job ∷ filter is_open jobs) (filter is_open jobs)) ≤ 0
        → (length (filter is_open jobs) ≤ 0 → list_any is_open jobs ≡ false) → (b || list_any is_open jobs) ≡ false
    by true few go = absurd (omega arith)
    by false few go = go (omega arith)

none_kept : (q : Job → Bool) (jobs : List Job) → list_any is_open jobs ≡ false
    → list_any is_open (filter q jobs) ≡ false
none_kept q [] none = refl
none_kept q (job ∷ jobs) none = by (is_open job) refl none (q job) (none_kept q jobs)
  where
    by : (b : Bool) → is_open job ≡ b → (b || list_any is_open jobs) ≡ false → (k : Bool)
        → (list_any is_open jobs ≡ false → list_any is_open (filter q jobs) ≡ false)
        → list_any is_open (cond k (job ∷ filter q jobs) (filter q jobs)) ≡ false
    by true is none k go = absurd (cc)
    by false is none true go = ap (λ b. b || list_any is_open (filter q jobs)) is ∙ go none
    by false is none false go = go none

-- Without its only open job no job is open.
none_without : (q : Job → Bool) (active : Job) (jobs : List Job) → length (filter is_open jobs) ≤ 1
    → find is_open jobs ≡ Some active → q active ≡ false → list_any is_open (filter q jobs) ≡ false
none_without q active [] few is goes = absurd (cc)
none_without q active (job ∷ jobs) few is goes =
    by (is_open job) refl few is
    (λ less found. none_without q active jobs less found goes)
  where
    other : (k : Bool) → is_open job ≡ false → list_any is_open (filter q jobs) ≡ false
        → list_any is_open (cond k (job ∷ filter q jobs) (filter q jobs)) ≡ false
    other true closed none = ap (λ b. b || list_any is_open (filter q jobs)) closed ∙ none
    other false closed none = none

    by : (b : Bool) → is_open job ≡ b → length (cond b (job ∷ filter is_open jobs) (filter is_open jobs)) ≤ 1
        → cond b (Some job) (find is_open jobs) ≡ Some active
        → (length (filter is_open jobs) ≤ 1 → find is_open jobs ≡ Some active
        → list_any is_open (filter q jobs) ≡ false)
        → list_any is_open (filter q (job ∷ jobs)) ≡ false
    by true is few found go =
        let same : job ≡ active = cc in
        ap (λ k. list_any is_open (cond k (job ∷ filter q jobs) (filter q jobs))) (ap q same ∙ goes)
        ∙ none_kept q jobs (none_open jobs (omega arith))
    by false is few found go = other (q job) is (go (omega arith) found)

-- the job, if it is open
abbrev pub if_open : Job → Option Job
if_open job = cond (is_open job) (Some job) None

-- Where a job replaces the open one, it is the open one, or there is none.
pub open-replaced : (s : SourceState) (job next : Job) → HasItsJobs s → open_job s ≡ Some job → next.number ≡ job.number
    → open_job (with_job next s) ≡ if_open next
open-replaced s job next fit is same = by (is_open next) refl
  where
    rest : List Job
    rest = dropped (λ (j : Job). job_cmp j next) s.jobs

    none : list_any is_open rest ≡ false
    none =
        none_without (λ (j : Job). not (is_eq (job_cmp j next))) job s.jobs
        (subst (λ n. n ≤ 1) (sym (length-filter is_open s.jobs)) fit.one_open) is
        (ap (λ n. not (is_eq (nat_cmp job.number n))) same
        ∙ ap (λ r. not (is_eq r)) (tied_itself nat_cmp_total job.number))

    by : (b : Bool) → is_open next ≡ b
        → find is_open (upserted job_cmp next s.jobs) ≡ cond b (Some next) None
    by true opens = find-inserted_found job_cmp is_open next rest opens none
    by false closed =
        find-inserted_other job_cmp is_open next rest closed ∙ find-list_any is_open rest none

-- ---- a new round

abbrev pub renewed_from : SourceState → Option Listing → Option Job → SourceState
renewed_from s None None = s
renewed_from s (Some listing) None = s
renewed_from s (Some listing) (Some job) = with_listing (Some (with_all_released listing)) s
renewed_from s None (Some job) = cond (is_running job) (with_job (in_state New job) s) s

-- the source after a new round
abbrev pub renewed : SourceState → SourceState
renewed s = renewed_from s s.listing (open_job s)

sources_after-append : (es fs : List SourceEntry) (sources : List SourceState)
    → sources_after (es ++ fs) sources ≡ sources_after fs (sources_after es sources)
sources_after-append [] fs sources = refl
sources_after-append (e ∷ es) fs sources = sources_after-append es fs (changed_by e sources)

renewals-apart : (name : List ℕ) (t : SourceState) (sources : List SourceState) → HasItsJobs t → t.source.name ≢ name
    → source_named (sources_after (renewals t) sources) name ≡ source_named sources name
renewals-apart name t sources fit apart = by t.listing (open_job t) refl
  where
    running : (job : Job) (b : Bool) → open_job t ≡ Some job
        → source_named (sources_after (cond b (PutJob (in_state New job) ∷ []) []) sources) name
        ≡ source_named sources name
    running job true is =
        named-apart name job.source (with_job (in_state New job)) sources (λ s. refl)
        (λ same. apart (sym (job_named t job fit is) ∙ same))
    running job false is = refl

    by : (l : Option Listing) (o : Option Job) → open_job t ≡ o
        → source_named (sources_after (renewal t l o) sources) name ≡ source_named sources name
    by None None is = refl
    by (Some listing) None is = refl
    by (Some listing) (Some job) is =
        named-apart name t.source.name (with_listing (Some (with_all_released listing))) sources (λ s. refl) apart
    by None (Some job) is = running job (is_running job) is

renewals-own : (s : SourceState) (sources : List SourceState) → HasItsJobs s
    → source_named sources s.source.name ≡ Some s
    → source_named (sources_after (renewals s) sources) s.source.name ≡ Some (renewed s)
renewals-own s sources fit found = by s.listing (open_job s) refl
  where
    running : (job : Job) (b : Bool) → open_job s ≡ Some job
        → source_named (sources_after (cond b (PutJob (in_state New job) ∷ []) []) sources) s.source.name
        ≡ Some (cond b (with_job (in_state New job) s) s)
    running job true is =
        named-changed s.source.name job.source (with_job (in_state New job)) sources s (λ s. refl) found
        (job_named s job fit is)
    running job false is = found

    by : (l : Option Listing) (o : Option Job) → open_job s ≡ o
        → source_named (sources_after (renewal s l o) sources) s.source.name ≡ Some (renewed_from s l o)
    by None None is = found
    by (Some listing) None is = found
    by (Some listing) (Some job) is =
        named-changed s.source.name s.source.name (with_listing (Some (with_all_released listing))) sources s
        (λ s. refl) found refl
    by None (Some job) is = running job (is_running job) is

round-apart : (name : List ℕ) (ts sources : List SourceState) → ((t : SourceState) → IsIn t ts → HasItsJobs t)
    → ((t : SourceState) → IsIn t ts → t.source.name ≢ name)
    → source_named (sources_after (flat_map renewals ts) sources) name ≡ source_named sources name
round-apart name [] sources fit apart = refl
round-apart name (t ∷ ts) sources fit apart =
    ap (λ (l : List SourceState). source_named l name) (sources_after-append (renewals t) (flat_map renewals ts) sources)
    ∙ round-apart name ts (sources_after (renewals t) sources) (λ u m. fit u (inr m)) (λ u m. apart u (inr m))
    ∙ renewals-apart name t sources (fit t (inl refl)) (apart t (inl refl))

below_apart : (s t : SourceState) → source_cmp s t ≡ Less → s.source.name ≢ t.source.name
below_apart s t less same = let no : source_cmp s t ≡ Equal = same_bytes s.source.name t.source.name same in absurd (cc)

-- A new round changes each source once.
pub round-own : (s : SourceState) (ts sources : List SourceState) → ((t : SourceState) → IsIn t ts → HasItsJobs t)
    → IsAscending source_cmp ts → IsIn s ts → source_named sources s.source.name ≡ Some s
    → source_named (sources_after (flat_map renewals ts) sources) s.source.name ≡ Some (renewed s)
round-own s [] sources fit up m found = absurd m
round-own s (t ∷ ts) sources fit up (inl same) found =
    ap (λ (l : List SourceState). source_named l s.source.name)
    (sources_after-append (renewals t) (flat_map renewals ts) sources)
    ∙ round-apart s.source.name ts (sources_after (renewals t) sources) (λ u m. fit u (inr m))
    (λ u m alike. below_apart t u (below_in source_cmp t u ts up.0 m)
    (ap (λ (v : SourceState). v.source.name) (sym same) ∙ sym alike))
    ∙ ap (λ (v : SourceState). source_named (sources_after (renewals v) sources) s.source.name) (sym same)
    ∙ renewals-own s sources (subst HasItsJobs (sym same) (fit t (inl refl))) found
round-own s (t ∷ ts) sources fit up (inr m) found =
    ap (λ (l : List SourceState). source_named l s.source.name)
    (sources_after-append (renewals t) (flat_map renewals ts) sources)
    ∙ round-own s ts (sources_after (renewals t) sources) (λ u n. fit u (inr n)) up.1 m
    (renewals-apart s.source.name t sources (fit t (inl refl))
    (below_apart t s (below_in source_cmp t s ts up.0 m)) ∙ found)

-- The job of an id: its source is the one that the id names before its last dot.
use Rattle.std.proofs.Common.{◌≡◌, ℕ, Bool, true, false, cond, List, [], ◌∷◌, Option, Some, None, refl, sym, ap, ◌∙◌}
use Rattle.std.proofs.Common.{subst, inl, inr, map, true≢false}
use Rattle.std.specs.Prelude.{filter, find}
use Rattle.std.specs.Ordering.{nat_cmp}
use Rattle.std.specs.Cmp.Lexicographic.{slice_cmp}
use Rattle.std.specs.List.{flat_map}
use Rattle.std.specs.Option.{option_and_then, option_or}
use Rattle.std.specs.Str.{bytes_eq}
use Rattle.std.proofs.lemmas.List.Folds.{find-append}
use Rattle.std.proofs.lemmas.Slice.Eq.{bytes_eq-Decides}
use Rattle.portal_base.specs.Ordered.{IsAscending, IsBelowAll}
use Rattle.portal_base.specs.declared.caller.Caller.{Caller}
use Rattle.portal_base.proofs.Filtered.{IsAscending-filter, IsIn-filter}
use Rattle.portal_base.proofs.Unique.{IsIn, below_in, not_below_itself}
use Rattle.portal_base.proofs.Upserted.{All-IsIn}
use Rattle.org_roles.specs.PeopleLists.{PeopleLists}
use Rattle.packages.proofs.FindLemmas.{IsAlone, fails, map-IsIn, none-find}
use Rattle.harvest_sources.proofs.JobIds.{split_of_job_id}
use Rattle.harvest_sources.specs.Jobs.{id_of_job, job_id, split_job_id}
use Rattle.harvest_sources.specs.Sources.{AreSources, HasItsJobs, IsJobOf, SourceState, source_cmp, source_cmp_total}
use Rattle.harvest_sources.specs.Sources.{source_named}
use Rattle.harvest_sources.specs.declared.job.Job.{Job}
use Rattle.harvest_answers.specs.Lookup.{job_named}
use Rattle.harvest_answers.specs.View.{sees_source, sources_seen, without_listing}

-- ---- the source in a job's id

-- If the text is a job's id, this is the name of the job's source.
abbrev pub Names : List ℕ → Option (List ℕ) → Type 0
Names id part = (source : List ℕ) (number : ℕ) → job_id source number ≡ id → part ≡ Some source

abbrev first_part : Option (List ℕ × List ℕ) → Option (List ℕ)
first_part None = None
first_part (Some parts) = Some parts.0

-- What precedes the last dot is the name.
pub part_names : (id : List ℕ) (parts : Option (List ℕ × List ℕ)) → parts ≡ split_job_id id
    → Names id (first_part parts)
part_names id parts split source n is =
    ap first_part (split ∙ ap split_job_id (sym is) ∙ split_of_job_id source n)

-- ---- a search through lists

none-flat_map : {X Y : Type 0} (p : Y → Bool) (g : X → List Y) (xs : List X)
    → ((x : X) → IsIn x xs → find p (g x) ≡ None) → find p (flat_map g xs) ≡ None
none-flat_map p g [] none = refl
none-flat_map p g (x ∷ xs) none =
    find-append p (g x) (flat_map g xs)
    ∙ ap (λ o. option_or o (find p (flat_map g xs))) (none x (inl refl))
    ∙ none-flat_map p g xs (λ y m. none y (inr m))

-- What is found in the lists of all items is what is found in the list of the one that passes r, if no other list has
-- it.
find-flat_map : {X Y : Type 0} (p : Y → Bool) (g : X → List Y) (r : X → Bool) (xs : List X) → IsAlone r xs
    → ((x : X) → IsIn x xs → r x ≡ false → find p (g x) ≡ None)
    → find p (flat_map g xs) ≡ option_and_then (λ x. find p (g x)) (find r xs)
find-flat_map p g r [] alone others = refl
find-flat_map {X} {Y} p g r (x ∷ xs) alone others =
    find-append p (g x) (flat_map g xs)
    ∙ by (r x) refl (find-flat_map p g r xs (λ y z m n. alone y z (inr m) (inr n)) (λ y m. others y (inr m)))
  where
    here : r x ≡ true → (o : Option Y) → find p (g x) ≡ o → option_or o (find p (flat_map g xs)) ≡ o
    here passes (Some y) is = refl
    here passes None is = none-flat_map p g xs (λ y m. each y m (r y) refl)
      where
        each : (y : X) → IsIn y xs → (b : Bool) → r y ≡ b → find p (g y) ≡ None
        each y m true also = ap (λ z. find p (g z)) (alone y x (inr m) (inl refl) also passes) ∙ is
        each y m false fail = others y (inr m) fail

    by : (b : Bool) → r x ≡ b
        → find p (flat_map g xs) ≡ option_and_then (λ y. find p (g y)) (find r xs)
        → option_or (find p (g x)) (find p (flat_map g xs))
        ≡ option_and_then (λ y. find p (g y)) (cond b (Some x) (find r xs))
    by true passes rest = here passes (find p (g x)) refl
    by false fail rest = ap (λ o. option_or o (find p (flat_map g xs))) (others x (inl refl) fail) ∙ rest

-- ---- the job of an id

-- each job has its source's name
abbrev pub AreOwn : List SourceState → Type 0
AreOwn sources = (s : SourceState) → IsIn s sources → (job : Job) → IsIn job s.jobs → job.source ≡ s.source.name

job_elsewhere : (sources : List SourceState) (id part : List ℕ) → AreOwn sources → Names id (Some part)
    → (s : SourceState) → IsIn s sources → bytes_eq s.source.name part ≡ false
    → find (λ (job : Job). bytes_eq (id_of_job job) id) s.jobs ≡ None
job_elsewhere sources id part own names s m other =
    none-find (λ (job : Job). bytes_eq (id_of_job job) id) s.jobs
    (λ job n. fails (bytes_eq (id_of_job job) id)
    (λ same. let named = names job.source job.number ((bytes_eq-Decides (id_of_job job) id).0 same) in
    let is : part ≡ job.source = cc in
    let yes : bytes_eq s.source.name part ≡ true =
    (bytes_eq-Decides s.source.name part).1 (sym (own s m job n) ∙ sym is) in
    true≢false (sym yes ∙ other)))

job_of_part : (sources : List SourceState) (id part : List ℕ) → AreOwn sources
    → IsAlone (λ s. bytes_eq s.source.name part) sources → Names id (Some part)
    → job_named sources id
    ≡ option_and_then (λ s. find (λ (job : Job). bytes_eq (id_of_job job) id) s.jobs) (source_named sources part)
job_of_part sources id part own alone names =
    find-flat_map (λ (job : Job). bytes_eq (id_of_job job) id) (λ s. s.jobs) (λ s. bytes_eq s.source.name part) sources
    alone (λ s m other. job_elsewhere sources id part own names s m other)

-- ---- the sources that a caller sees

-- each comes from a source that the caller may see
seen-IsIn : (caller : Caller) (people : PeopleLists) (sources : List SourceState) (s : SourceState)
    → IsIn s (sources_seen caller people sources)
    → (t : SourceState) × IsIn t sources × (s ≡ without_listing t)
seen-IsIn caller people sources s m =
    let w = map-IsIn without_listing s (filter (sees_source people caller) sources) m in
    (w.0, (IsIn-filter (sees_source people caller) w.0 sources w.1).0, w.2)

own-jobs : (sources : List SourceState) → AreSources sources → AreOwn sources
own-jobs sources are s m job n =
    let has : HasItsJobs s = All-IsIn HasItsJobs sources are.jobs s m in
    let is : IsJobOf s.source job = All-IsIn (IsJobOf s.source) s.jobs has.own job n in
    is.own

own-seen : (caller : Caller) (people : PeopleLists) (sources : List SourceState) → AreSources sources
    → AreOwn (sources_seen caller people sources)
own-seen caller people sources are s m job n =
    let w = seen-IsIn caller people sources s m in
    own-jobs sources are w.0 w.1 job (subst (λ u. IsIn job u.jobs) w.2 n)
    ∙ ap (λ u. u.source.name) (sym w.2)

-- ---- one source of a name

unequal-names : (s t : SourceState) (name : List ℕ) (ts : List SourceState) → IsBelowAll source_cmp s ts → IsIn t ts
    → bytes_eq s.source.name name ≡ true → bytes_eq t.source.name name ≡ true → ⊥
unequal-names s t name ts below m named also =
    let same : t.source.name ≡ s.source.name =
    (bytes_eq-Decides t.source.name name).0 also ∙ sym ((bytes_eq-Decides s.source.name name).0 named) in
    not_below_itself source_cmp source_cmp_total t
    (ap (λ n. slice_cmp nat_cmp n t.source.name) same ∙ below_in source_cmp s t ts below m)

alone-named : (name : List ℕ) (ss : List SourceState) → IsAscending source_cmp ss
    → IsAlone (λ s. bytes_eq s.source.name name) ss
alone-named name [] up x y m n named also = absurd m
alone-named name (s ∷ ss) up x y (inl a) (inl b) named also = a ∙ sym b
alone-named name (s ∷ ss) up x y (inl a) (inr n) named also =
    absurd (unequal-names s y name ss up.0 n (ap (λ t. bytes_eq t.source.name name) (sym a) ∙ named) also)
alone-named name (s ∷ ss) up x y (inr m) (inl b) named also =
    absurd (unequal-names s x name ss up.0 m (ap (λ t. bytes_eq t.source.name name) (sym b) ∙ also) named)
alone-named name (s ∷ ss) up x y (inr m) (inr n) named also = alone-named name ss up.1 x y m n named also

below-unlisted : (s : SourceState) (ss : List SourceState) → IsBelowAll source_cmp s ss
    → IsBelowAll source_cmp (without_listing s) (map without_listing ss)
below-unlisted s [] below = tt
below-unlisted s (t ∷ ts) below = (below.0, below-unlisted s ts below.1)

ascending-unlisted : (ss : List SourceState) → IsAscending source_cmp ss
    → IsAscending source_cmp (map without_listing ss)
ascending-unlisted [] up = tt
ascending-unlisted (s ∷ ss) up = (below-unlisted s ss up.0, ascending-unlisted ss up.1)

alone-seen : (caller : Caller) (people : PeopleLists) (sources : List SourceState) (name : List ℕ)
    → IsAscending source_cmp sources
    → IsAlone (λ s. bytes_eq s.source.name name) (sources_seen caller people sources)
alone-seen caller people sources name up =
    alone-named name (sources_seen caller people sources)
    (ascending-unlisted (filter (sees_source people caller) sources)
    (IsAscending-filter source_cmp (sees_source people caller) sources up))

-- ---- the job that a caller sees

-- the job of an id is one of the source that the id names
pub job_found : (caller : Caller) (people : PeopleLists) (sources : List SourceState) (id part : List ℕ)
    → AreSources sources → Names id (Some part)
    → job_named (sources_seen caller people sources) id
    ≡ option_and_then (λ s. find (λ (job : Job). bytes_eq (id_of_job job) id) s.jobs)
    (source_named (sources_seen caller people sources) part)
job_found caller people sources id part are names =
    job_of_part (sources_seen caller people sources) id part (own-seen caller people sources are)
    (alone-seen caller people sources part are.ascending) names

-- a text that is no job's id has no job
pub job_missing : (sources : List SourceState) (id : List ℕ)
    → Names id None → job_named sources id ≡ None
job_missing sources id none =
    none-flat_map (λ (job : Job). bytes_eq (id_of_job job) id) (λ s. s.jobs) sources
    (λ s m. none-find (λ (job : Job). bytes_eq (id_of_job job) id) s.jobs
    (λ job n. fails (bytes_eq (id_of_job job) id)
    (λ same. let named = none job.source job.number ((bytes_eq-Decides (id_of_job job) id).0 same) in absurd (cc))))

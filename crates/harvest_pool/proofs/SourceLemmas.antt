-- Sources whose open jobs go on: what holds of each, and of listings.
use Rattle.std.proofs.Common.{◌≡◌, ◌≢◌, ◌∙◌, ◌⊎◌, ℕ, Bool, true, false, not, ◌&&◌, cond, List, [], ◌∷◌, ◌++◌, Option, Some}
use Rattle.std.proofs.Common.{None, refl, sym, ap, subst, inl, inr, true≢false}
use Rattle.std.specs.Prelude.{find, is_some, option_and_then, option_map}
use Rattle.std.specs.List.{cons_option, filter_map, All, list_all}
use Rattle.std.specs.Option.{option_map_or}
use Rattle.std.specs.Ordering.{is_eq, nat_cmp}
use Rattle.std.specs.Cmp.Lexicographic.{slice_cmp}
use Rattle.std.specs.Str.{bytes_eq}
use Rattle.std.proofs.lemmas.List.Elements.{All-cons, All-nil}
use Rattle.std.proofs.lemmas.Slice.Eq.{bytes_eq-Decides}
use Rattle.portal_base.proofs.Unique.{IsIn}
use Rattle.portal_base.proofs.Upserted.{IsIn-upserted, found-upserted}
use Rattle.packages.proofs.FindLemmas.{IsIn-find, IsIn-map, find-alone, find-none, map-IsIn}
use Rattle.harvest_sources.specs.Entries.{with_source_at}
use Rattle.harvest_sources.specs.Jobs.{id_of_job, is_new, is_new_state, is_open_state}
use Rattle.harvest_sources.specs.Jobs.{is_running, is_running_state}
use Rattle.harvest_sources.specs.Listings.{IsKey-object_at, first_items, first_progress, first_waiting}
use Rattle.harvest_sources.specs.Listings.{has_lesser_namesake, is_done, listing_of, object_at, object_cmp, object_of, released}
use Rattle.harvest_sources.specs.Listings.{outcome_if_done, released_object, waiting_item, waits_at, with_all_released, with_progress}
use Rattle.harvest_sources.specs.Sources.{AreSources, HasItsJobs, SourceState, open_job}
use Rattle.harvest_sources.specs.Steps.{has_new, is_unsettled}
use Rattle.harvest_sources.specs.Steps.{with_open_job}
use Rattle.harvest_sources.specs.declared.job.Job.{Job}
use Rattle.harvest_sources.specs.declared.job.JobState.{JobState}
use Rattle.harvest_sources.specs.declared.job.JobState.TheVariants as state
use Rattle.harvest_sources.specs.declared.listing.ListedObject.{ListedObject}
use Rattle.harvest_sources.specs.declared.listing.Listing.{Listing}
use Rattle.harvest_sources.specs.declared.listing.Outcome.{Outcome}
use Rattle.harvest_sources.specs.declared.listing.Progress.{Progress}
use Rattle.harvest_sources.specs.declared.listing.Progress.TheVariants.{Waiting, Claimed, Done as is_done_as}
use Rattle.harvest_sources.specs.declared.step.Found.{Found}
use Rattle.harvest_sources.specs.declared.step.Item.{Item}
use Rattle.harvest_sources.specs.declared.step.Step.{Step}
use Rattle.harvest_results.specs.Effects.{HarvestState, after_step, effect_of}
use Rattle.harvest_results.proofs.JobIdLemmas.{job_id-source}
use Rattle.harvest_results.proofs.PhaseLemmas.{has_jobs, which}
use Rattle.harvest_results.proofs.SourceEntryLemmas.{job_named, named-member, same_bytes, same_source}
use Rattle.harvest_stages.proofs.KeptLemmas.{step_kept}
use Rattle.harvest_pool.specs.Made.{AreAnswered, Made, state_after}

-- ---- members

pub IsIn-filter_map : {X Y : Type 0} (h : X → Option Y) (y : Y) (x : X) (xs : List X) → IsIn x xs → h x ≡ Some y
    → IsIn y (filter_map h xs)
IsIn-filter_map h y x [] m e = absurd m
IsIn-filter_map {X} {Y} h y x (z ∷ zs) (inl same) e =
    subst (λ (o : Option Y). IsIn y (cons_option o (filter_map h zs))) (sym (ap h (sym same) ∙ e)) (inl refl)
IsIn-filter_map {X} {Y} h y x (z ∷ zs) (inr m) e = by (h z) (IsIn-filter_map h y x zs m e)
  where
    by : (o : Option Y) → IsIn y (filter_map h zs) → IsIn y (cons_option o (filter_map h zs))
    by None k = k
    by (Some w) k = inr k

-- ---- steps, one after the other

pub answered-parts : (xs ys : List Made) (state : HarvestState) → AreAnswered (xs ++ ys) state
    → AreAnswered xs state × AreAnswered ys (state_after xs state)
answered-parts [] ys state all = (tt, all)
answered-parts (x ∷ xs) ys state all =
    let rest = answered-parts xs ys (after_step x.step state) all.1 in ((all.0, rest.0), rest.1)

pub after-append : (xs ys : List Made) (state : HarvestState)
    → state_after (xs ++ ys) state ≡ state_after ys (state_after xs state)
after-append [] ys state = refl
after-append (x ∷ xs) ys state = after-append xs ys (after_step x.step state)

-- the sources still have their jobs after a step
pub fit-after : (step : Step) (state : HarvestState) → AreSources state.sources → AreSources (after_step step state).sources
fit-after step state fit = (step_kept step (effect_of step state) state.sources fit).sound

-- ---- what holds of each source

abbrev pub Each : (SourceState → Type 0) → List SourceState → Type 0
Each P ss = (s : SourceState) → IsIn s ss → P s

-- of each but the one of that name
abbrev pub EachBut : List ℕ → (SourceState → Type 0) → List SourceState → Type 0
EachBut name P ss = (s : SourceState) → IsIn s ss → s.source.name ≢ name → P s

pub each-All : (P : SourceState → Type 0) (ss : List SourceState) → Each P ss → All P ss
each-All P [] each = All-nil P
each-All P (s ∷ ss) each = All-cons P s ss (each s (inl refl)) (each-All P ss (λ t m. each t (inr m)))

pub same-named : (ss : List SourceState) (s t : SourceState) → AreSources ss → IsIn s ss → IsIn t ss
    → s.source.name ≡ t.source.name → s ≡ t
same-named ss s t fit m n named =
    same_source ss t.source.name t s fit (named-member ss t.source.name t fit n refl) m named

-- What holds of the others, and of the changed source, holds of each.
pub each-at : (P : SourceState → Type 0) (ss : List SourceState) (t : SourceState)
    (change : SourceState → SourceState) → AreSources ss → IsIn t ss → EachBut t.source.name P ss → P (change t)
    → Each P (with_source_at t.source.name change ss)
each-at P ss t change fit m others done z n =
    let w = map-IsIn (λ (s : SourceState). cond (bytes_eq s.source.name t.source.name) (change s) s) z ss n in
    by w.0 w.1 w.2 (bytes_eq w.0.source.name t.source.name) refl
  where
    by : (s : SourceState) → IsIn s ss → z ≡ cond (bytes_eq s.source.name t.source.name) (change s) s → (b : Bool)
        → bytes_eq s.source.name t.source.name ≡ b → P z
    by s k is true like =
        let same : s ≡ t = same-named ss s t fit k m ((bytes_eq-Decides s.source.name t.source.name).0 like) in
        subst P (sym (is ∙ ap (λ b. cond b (change s) s) like ∙ ap change same)) done
    by s k is false unlike =
        subst P (sym (is ∙ ap (λ b. cond b (change s) s) unlike))
        (others s k (λ named. true≢false (sym ((bytes_eq-Decides s.source.name t.source.name).1 named) ∙ unlike)))

-- The others stay as they are.
pub but-at : (P : SourceState → Type 0) (ss : List SourceState) (name : List ℕ) (change : SourceState → SourceState)
    → ((s : SourceState) → (change s).source ≡ s.source) → EachBut name P ss
    → EachBut name P (with_source_at name change ss)
but-at P ss name change keeps others z n apart =
    let w = map-IsIn (λ (s : SourceState). cond (bytes_eq s.source.name name) (change s) s) z ss n in
    by w.0 w.1 w.2 (bytes_eq w.0.source.name name) refl
  where
    by : (s : SourceState) → IsIn s ss → z ≡ cond (bytes_eq s.source.name name) (change s) s → (b : Bool)
        → bytes_eq s.source.name name ≡ b → P z
    by s k is true like =
        absurd (apart (ap (λ (u : SourceState). u.source.name) (is ∙ ap (λ b. cond b (change s) s) like)
        ∙ ap (λ source. source.name) (keeps s) ∙ (bytes_eq-Decides s.source.name name).0 like))
    by s k is false unlike =
        subst P (sym (is ∙ ap (λ b. cond b (change s) s) unlike))
        (others s k (λ named. true≢false (sym ((bytes_eq-Decides s.source.name name).1 named) ∙ unlike)))

-- The changed source is there.
pub there-at : (ss : List SourceState) (t : SourceState) (name : List ℕ) (change : SourceState → SourceState)
    → t.source.name ≡ name → IsIn t ss → IsIn (change t) (with_source_at name change ss)
there-at ss t name change named m =
    subst (λ (z : SourceState). IsIn z (with_source_at name change ss))
    (ap (λ b. cond b (change t) t) ((bytes_eq-Decides t.source.name name).1 named))
    (IsIn-map (λ (s : SourceState). cond (bytes_eq s.source.name name) (change s) s) t ss m)

-- What holds of the others, and of the source that is changed twice, holds of each.
pub both-at : (P : SourceState → Type 0) (ss : List SourceState) (t : SourceState) (f g : SourceState → SourceState)
    → AreSources ss → IsIn t ss → ((s : SourceState) → (f s).source ≡ s.source) → EachBut t.source.name P ss
    → P (g (f t))
    → Each P (with_source_at t.source.name g (with_source_at t.source.name f ss))
both-at P ss t f g fit m keeps others done z n =
    let w = map-IsIn (λ (s : SourceState). cond (bytes_eq s.source.name t.source.name) (g s) s) z
    (with_source_at t.source.name f ss) n in
    let v = map-IsIn (λ (s : SourceState). cond (bytes_eq s.source.name t.source.name) (f s) s) w.0 ss w.1 in
    by w.0 v.0 w.2 v.1 v.2 (bytes_eq v.0.source.name t.source.name) refl
  where
    by : (u s : SourceState) → z ≡ cond (bytes_eq u.source.name t.source.name) (g u) u → IsIn s ss
        → u ≡ cond (bytes_eq s.source.name t.source.name) (f s) s → (b : Bool)
        → bytes_eq s.source.name t.source.name ≡ b → P z
    by u s last k first true like =
        let same : s ≡ t = same-named ss s t fit k m ((bytes_eq-Decides s.source.name t.source.name).0 like) in
        let is : u ≡ f t = first ∙ ap (λ b. cond b (f s) s) like ∙ ap f same in
        let here : bytes_eq u.source.name t.source.name ≡ true =
        (bytes_eq-Decides u.source.name t.source.name).1
        (ap (λ (x : SourceState). x.source.name) is ∙ ap (λ source. source.name) (keeps t)) in
        subst P (sym (last ∙ ap (λ b. cond b (g u) u) here ∙ ap g is)) done
    by u s last k first false unlike =
        let is : u ≡ s = first ∙ ap (λ b. cond b (f s) s) unlike in
        let there : bytes_eq u.source.name t.source.name ≡ false =
        ap (λ (x : SourceState). bytes_eq x.source.name t.source.name) is ∙ unlike in
        subst P (sym (last ∙ ap (λ b. cond b (g u) u) there ∙ is))
        (others s k (λ named. true≢false (sym ((bytes_eq-Decides s.source.name t.source.name).1 named) ∙ unlike)))

-- ---- open jobs

-- what holds of the open job, if there is one, and of what is listed
abbrev pub OfOpen : (Option Listing → Job → Type 0) → SourceState → Type 0
OfOpen Q s = (job : Job) → open_job s ≡ Some job → Q s.listing job

pub of-open : (Q : Option Listing → Job → Type 0) (s : SourceState) (job : Job) → open_job s ≡ Some job → Q s.listing job
    → OfOpen Q s
of-open Q s job opens holds other is =
    let same : job ≡ other = cc in subst (Q s.listing) same holds

pub of-none : (Q : Option Listing → Job → Type 0) (s : SourceState) → open_job s ≡ None → OfOpen Q s
of-none Q s none job is = absurd (cc)

-- The source of an open job is found by the job's id.
pub open-found : (ss : List SourceState) (t : SourceState) (job : Job) (id : List ℕ) → AreSources ss → IsIn t ss
    → open_job t ≡ Some job → id_of_job job ≡ id → with_open_job ss id ≡ Some t
open-found ss t job id fit m opens named =
    find-alone (λ (s : SourceState). option_map_or (λ (j : Job). bytes_eq (id_of_job j) id) (open_job s) false) t ss m
    (ap (λ (o : Option Job). option_map_or (λ (j : Job). bytes_eq (id_of_job j) id) o false) opens
    ∙ (bytes_eq-Decides (id_of_job job) id).1 named)
    (λ s n also. by s n (open_job s) refl also)
  where
    by : (s : SourceState) → IsIn s ss → (o : Option Job) → open_job s ≡ o
        → option_map_or (λ (j : Job). bytes_eq (id_of_job j) id) o false ≡ true → s ≡ t
    by s n None is also = absurd (true≢false (sym also))
    by s n (Some j) is also =
        same-named ss s t fit n m
        (sym (job_named s j (has_jobs ss fit s n) is)
        ∙ job_id-source j.source job.source j.number job.number
        ((bytes_eq-Decides (id_of_job j) id).0 also ∙ sym named)
        ∙ job_named t job (has_jobs ss fit t m) opens)

-- an open job that isn't running is new
pub open-new : (s : JobState) → is_open_state s ≡ true → is_running_state s ≡ false → is_new_state s ≡ true
open-new state.New a b = refl
open-new state.Running a b = absurd (true≢false b)
open-new state.Finished a b = absurd (true≢false (sym a))
open-new (state.Broken cause) a b = absurd (true≢false (sym a))

pub not_both : (s : JobState) → is_new_state s ≡ true → is_running_state s ≡ true → ⊥
not_both state.New a b = true≢false (sym b)
not_both state.Running a b = true≢false (sym a)
not_both state.Finished a b = true≢false (sym a)
not_both (state.Broken cause) a b = true≢false (sym a)

-- The open job of a listed source runs.
pub listed-runs : (s : SourceState) (job : Job) (listing : Listing) → HasItsJobs s → open_job s ≡ Some job
    → s.listing ≡ Some listing → is_running job ≡ true
listed-runs s job listing fit opens is =
    sym (ap (λ (o : Option Job). option_map_or is_running o false) opens) ∙ fit.runs (ap is_some is)

-- A source with a new job has no listing.
pub new-unlisted : (s : SourceState) (job : Job) → HasItsJobs s → open_job s ≡ Some job → has_new s ≡ true
    → s.listing ≡ None
new-unlisted s job fit opens new = by s.listing refl
  where
    by : (l : Option Listing) → s.listing ≡ l → l ≡ None
    by None is = refl
    by (Some listing) is =
        absurd (not_both job.report.state
        (sym (ap (λ (o : Option Job). option_map_or is_new o false) opens) ∙ new)
        (listed-runs s job listing fit opens is))

-- ---- sources with an open job

-- a source of that name has an open job
abbrev pub HasOpen : List SourceState → List ℕ → Type 0
HasOpen ss name =
    (s : SourceState) × IsIn s ss × (s.source.name ≡ name) × ((job : Job) × (open_job s ≡ Some job))

-- so has the changed source,
pub this-open : (ss : List SourceState) (t : SourceState) (change : SourceState → SourceState) (job : Job)
    → ((s : SourceState) → (change s).source ≡ s.source) → IsIn t ss → open_job (change t) ≡ Some job
    → HasOpen (with_source_at t.source.name change ss) t.source.name
this-open ss t change job keeps m opens = (
  change t,
  there-at ss t t.source.name change refl m,
  ap (λ source. source.name) (keeps t),
  (job, opens),
)

-- and each other one that had it.
pub other-open : (ss : List SourceState) (name other : List ℕ) (change : SourceState → SourceState) → other ≢ name
    → HasOpen ss other → HasOpen (with_source_at name change ss) other
other-open ss name other change apart w =
    (w.0, by (bytes_eq w.0.source.name name) refl, w.2, w.3)
  where
    by : (b : Bool) → bytes_eq w.0.source.name name ≡ b → IsIn w.0 (with_source_at name change ss)
    by true like = absurd (apart (sym w.2 ∙ (bytes_eq-Decides w.0.source.name name).0 like))
    by false unlike =
        subst (λ (z : SourceState). IsIn z (with_source_at name change ss))
        (ap (λ b. cond b (change w.0) w.0) unlike)
        (IsIn-map (λ (s : SourceState). cond (bytes_eq s.source.name name) (change s) s) w.0 ss w.1)

-- Each of these names has an open job, or is told.
abbrev pub Owed : List (List ℕ) → List (List ℕ) → List SourceState → Type 0
Owed names told ss = (name : List ℕ) → IsIn name names → HasOpen ss name ⊎ IsIn name told

pub owed-open : (names told : List (List ℕ)) (ss : List SourceState) (t : SourceState)
    (change : SourceState → SourceState) (job : Job) → ((s : SourceState) → (change s).source ≡ s.source) → IsIn t ss
    → open_job (change t) ≡ Some job → Owed names told ss
    → Owed names told (with_source_at t.source.name change ss)
owed-open names told ss t change job keeps m opens owed name among =
    by (which name t.source.name) (owed name among)
  where
    by : (name ≡ t.source.name) ⊎ (name ≢ t.source.name) → HasOpen ss name ⊎ IsIn name told
        → HasOpen (with_source_at t.source.name change ss) name ⊎ IsIn name told
    by same (inr said) = inr said
    by (inl same) (inl w) =
        inl (subst (HasOpen (with_source_at t.source.name change ss)) (sym same)
        (this-open ss t change job keeps m opens))
    by (inr apart) (inl w) = inl (other-open ss t.source.name name change apart w)

pub owed-told : (names told : List (List ℕ)) (ss : List SourceState) (t : SourceState)
    (change : SourceState → SourceState) → IsIn t.source.name told → Owed names told ss
    → Owed names told (with_source_at t.source.name change ss)
owed-told names told ss t change said owed name among = by (which name t.source.name) (owed name among)
  where
    by : (name ≡ t.source.name) ⊎ (name ≢ t.source.name) → HasOpen ss name ⊎ IsIn name told
        → HasOpen (with_source_at t.source.name change ss) name ⊎ IsIn name told
    by same (inr already) = inr already
    by (inl same) (inl w) = inr (subst (λ (n : List ℕ). IsIn n told) (sym same) said)
    by (inr apart) (inl w) = inl (other-open ss t.source.name name change apart w)

-- ---- listings

abbrev pub is_claimed : Progress → Bool
is_claimed (Waiting found) = false
is_claimed (Claimed found) = true
is_claimed (is_done_as o) = false

abbrev pub NoneClaimed : Listing → Type 0
NoneClaimed l = (o : ListedObject) → IsIn o l.objects → is_claimed o.progress ≡ false

pub released-free : (l : Listing) → NoneClaimed (with_all_released l)
released-free l o m =
    let w = map-IsIn released_object o l.objects m in
    ap (λ (x : ListedObject). is_claimed x.progress) w.2 ∙ by w.0.progress
  where
    by : (p : Progress) → is_claimed (released p) ≡ false
    by (Waiting found) = refl
    by (Claimed found) = refl
    by (is_done_as o) = refl

pub listed-free : (source : List ℕ) (items : List Item) (unnamed : ℕ) → NoneClaimed (listing_of source items unnamed)
listed-free source items unnamed o m =
    let w = map-IsIn (object_of source (first_items items)) o (first_items items) m in
    ap (λ (x : ListedObject). is_claimed x.progress) w.2
    ∙ by (has_lesser_namesake source (first_items items) w.0) w.0.found
  where
    by : (b : Bool) (found : Found) → is_claimed (first_progress b found) ≡ false
    by true found = refl
    by false found = refl

-- no object is claimed once that which was is done
pub done-free : (l : Listing) (iri : List ℕ) (found : Found) (came : Outcome) → NoneClaimed l
    → NoneClaimed (with_progress iri (is_done_as came) (with_progress iri (Claimed found) l))
done-free l iri found came free o m =
    outer (IsIn-upserted object_cmp (record { iri = iri; progress = is_done_as came }) o
    (with_progress iri (Claimed found) l).objects m)
  where
    itself : is_eq (slice_cmp nat_cmp iri iri) ≡ true
    itself = ap is_eq (same_bytes iri iri refl)

    inner : is_eq (object_cmp o (record { iri = iri; progress = is_done_as came })) ≡ false
        → (o ≡ record { iri = iri; progress = Claimed found })
        ⊎ (IsIn o l.objects × (is_eq (object_cmp o (record { iri = iri; progress = Claimed found })) ≡ false))
        → is_claimed o.progress ≡ false
    inner apart (inl same) =
        absurd (true≢false (sym itself
        ∙ sym (ap (λ (x : ListedObject). is_eq (slice_cmp nat_cmp x.iri iri)) same) ∙ apart))
    inner apart (inr old) = free o old.0

    outer : (o ≡ record { iri = iri; progress = is_done_as came })
        ⊎ (IsIn o (with_progress iri (Claimed found) l).objects
        × (is_eq (object_cmp o (record { iri = iri; progress = is_done_as came })) ≡ false))
        → is_claimed o.progress ≡ false
    outer (inl same) = ap (λ (x : ListedObject). is_claimed x.progress) same
    outer (inr old) =
        inner old.1 (IsIn-upserted object_cmp (record { iri = iri; progress = Claimed found }) o l.objects old.0)

-- a claimed object isn't settled
pub claimed-unsettled : (l : Listing) (iri : List ℕ) (found : Found)
    → is_unsettled iri (with_progress iri (Claimed found) l) ≡ true
claimed-unsettled l iri found =
    ap (λ (o : Option ListedObject). option_map_or (λ object. not (is_done object)) o false)
    (found-upserted object_cmp (object_at iri) (IsKey-object_at iri) (record { iri = iri; progress = Claimed found })
    l.objects (same_bytes iri iri refl))

pub list_all-each : {X : Type 0} (p : X → Bool) (xs : List X) → ((x : X) → IsIn x xs → p x ≡ true) → list_all p xs ≡ true
list_all-each p [] each = refl
list_all-each p (x ∷ xs) each =
    ap (λ b. b && list_all p xs) (each x (inl refl)) ∙ list_all-each p xs (λ y m. each y (inr m))

abbrev pub item_at : List ℕ → Found → Item
item_at iri found = record { iri = iri; found = found }

-- An object that neither waits nor is claimed is done.
pub all-done : (l : Listing) → NoneClaimed l → is_some (first_waiting l) ≡ false → list_all is_done l.objects ≡ true
all-done l free none = list_all-each is_done l.objects (λ o m. done o m (o.progress) refl)
  where
    nothing : find (λ (o : ListedObject). is_some (waiting_item o)) l.objects ≡ None
    nothing = by (find (λ (o : ListedObject). is_some (waiting_item o)) l.objects) refl none
      where
        by : (r : Option ListedObject) → find (λ (o : ListedObject). is_some (waiting_item o)) l.objects ≡ r
            → is_some (option_and_then waiting_item r) ≡ false → r ≡ None
        by None is e = refl
        by (Some o) is e =
            absurd (true≢false
            (sym (IsIn-find (λ (x : ListedObject). is_some (waiting_item x)) o l.objects is).1 ∙ e))

    done : (o : ListedObject) → IsIn o l.objects → (p : Progress) → o.progress ≡ p → is_done o ≡ true
    done o m (Waiting found) is =
        let no : is_some (waiting_item o) ≡ false =
        find-none (λ (x : ListedObject). is_some (waiting_item x)) o l.objects nothing m in
        let yes : is_some (waiting_item o) ≡ true =
        ap (λ (q : Progress). is_some (option_map (λ (f : Found). item_at o.iri f) (waits_at q))) is in
        absurd (true≢false (sym yes ∙ no))
    done o m (Claimed found) is =
        absurd (true≢false (sym (ap is_claimed is) ∙ free o m))
    done o m (is_done_as came) is = ap (λ (q : Progress). is_some (outcome_if_done q)) is

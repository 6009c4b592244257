-- Sources after steps that are made.
use Rattle.std.proofs.Common.{◌≡◌, ◌≢◌, ◌∙◌, ◌<◌, ℕ, Bool, true, false, cond, List, [], ◌∷◌, ◌++◌, Option, Some, None}
use Rattle.std.proofs.Common.{◌+◌, ◌⊎◌, zero, suc, drop, take, get_or-set_same, map, length, get_or, set, refl, sym, ap, subst, arith, inl, inr}
use Rattle.std.specs.Prelude.{IfSome, find, slice_get}
use Rattle.std.specs.List.{All, flat_map}
use Rattle.std.specs.Ordering.{is_eq}
use Rattle.std.specs.Str.{bytes_eq}
use Rattle.std.specs.declared.cmp.Ordering.TheVariants.{Less}
use Rattle.std.proofs.Math.Seq.{take-append_seam}
use Rattle.std.proofs.lemmas.Bool.{cases_eq}
use Rattle.std.proofs.lemmas.List.{get_or-map, get_or-set_other, length-append, length-map, map-set, take-append-drop}
use Rattle.std.proofs.lemmas.List.Edits.{map_over_more}
use Rattle.std.proofs.lemmas.Map.Text.{is_eq-slice_cmp}
use Rattle.std.proofs.lemmas.Option.{slice_get-get_or}
use Rattle.std.proofs.lemmas.Simd.{map-map}
use Rattle.std.proofs.lemmas.Slice.Eq.{bytes_eq-Decides}
use Rattle.portal_base.specs.Ordered.{IsAscending, IsBelowAll}
use Rattle.portal_base.proofs.Unique.{IsIn}
use Rattle.portal_base.proofs.Upserted.{All-IsIn}
use Rattle.harvest_sources.specs.Entries.{DropJob, DropSource, PutJob, PutListing, PutSource, SourceEntry, changed_by}
use Rattle.harvest_sources.specs.Entries.{sources_after, with_job, with_listing, with_source_at}
use Rattle.harvest_sources.specs.Jobs.{in_state, is_open, is_running}
use Rattle.harvest_sources.specs.Listings.{first_waiting}
use Rattle.harvest_sources.specs.Sources.{AreSources, HasItsJobs, IsJobOf, SourceState, SourceWithRoom, open_job}
use Rattle.harvest_sources.specs.Sources.{source_cmp, states}
use Rattle.harvest_sources.specs.Steps.{renewal, renewals, renewed, renewed_with}
use Rattle.harvest_sources.specs.declared.job.Job.{Job}
use Rattle.harvest_sources.specs.declared.job.JobState.{JobState}
use Rattle.harvest_sources.specs.declared.job.JobState.TheVariants.{New}
use Rattle.harvest_sources.specs.declared.job.SourceReport.{SourceReport}
use Rattle.harvest_sources.specs.declared.listing.Listing.{Listing}
use Rattle.harvest_sources.specs.declared.listing.Outcome.{Outcome}
use Rattle.harvest_sources.specs.declared.step.Item.{Item}
use Rattle.harvest_stages.specs.Prepared.{changed_itself, claim_entries, entries_at, entries_there, item_entries}
use Rattle.harvest_stages.specs.Prepared.{itself_after, report_entries, settle_entries, state_entries}
use Rattle.harvest_stages.specs.declared.prepared.SourceStep.{SourceStep}
use Rattle.harvest_stages.specs.declared.prepared.SourceStep.TheVariants.{Begin, Break, List as list, Claim, Settle, End}
use Rattle.harvest_stages.proofs.ChangeLemmas.{AreSources-upserted, set_upserted}
use Rattle.harvest_stages.proofs.MapLemmas.{IsAscending-map, map-same}
use Rattle.harvest_stages.proofs.SourceLemmas.{changed_there, item_at}

-- ---- entries of one source

-- The entry is of the source of that name.
abbrev pub IsOwn : List ℕ → SourceEntry → Type 0
IsOwn name (PutSource source) = ⊥
IsOwn name (DropSource other) = ⊥
IsOwn name (PutJob job) = job.source ≡ name
IsOwn name (DropJob other number) = other ≡ name
IsOwn name (PutListing other listing) = other ≡ name

abbrev pub AreOwn : List ℕ → List SourceEntry → Type 0
AreOwn name [] = Unit {0}
AreOwn name (entry ∷ entries) = IsOwn name entry × AreOwn name entries

pub changed_own : (name : List ℕ) (entry : SourceEntry) (ss : List SourceState) → IsOwn name entry
    → changed_by entry ss ≡ with_source_at name (changed_itself entry) ss
changed_own name (PutSource source) ss own = absurd own
changed_own name (DropSource other) ss own = absurd own
changed_own name (PutJob job) ss own = ap (λ n. with_source_at n (with_job job) ss) own
changed_own name (DropJob other number) ss own = ap (λ n. with_source_at n (changed_itself (DropJob other number)) ss) own
changed_own name (PutListing other listing) ss own = ap (λ n. with_source_at n (with_listing listing) ss) own

pub source_kept : (name : List ℕ) (entry : SourceEntry) (s : SourceState) → IsOwn name entry
    → (changed_itself entry s).source ≡ s.source
source_kept name (PutSource source) s own = absurd own
source_kept name (DropSource other) s own = absurd own
source_kept name (PutJob job) s own = refl
source_kept name (DropJob other number) s own = refl
source_kept name (PutListing other listing) s own = refl

pub sources_kept : (name : List ℕ) (entries : List SourceEntry) (s : SourceState) → AreOwn name entries
    → (itself_after entries s).source ≡ s.source
sources_kept name [] s own = refl
sources_kept name (entry ∷ entries) s own =
    sources_kept name entries (changed_itself entry s) own.1 ∙ source_kept name entry s own.0

unchanged : (name : List ℕ) (ss : List SourceState) → with_source_at name (λ s. s) ss ≡ ss
unchanged name [] = refl
unchanged name (s ∷ ss) = by (bytes_eq s.source.name name) ∙ ap (λ l. s ∷ l) (unchanged name ss)
  where
    by : (b : Bool) → cond b s s ∷ with_source_at name (λ t. t) ss ≡ s ∷ with_source_at name (λ t. t) ss
    by true = refl
    by false = refl

-- Entries of one source change only that one.
pub after_own : (name : List ℕ) (entries : List SourceEntry) (ss : List SourceState) → AreOwn name entries
    → sources_after entries ss ≡ with_source_at name (itself_after entries) ss
after_own name [] ss own = sym (unchanged name ss)
after_own name (entry ∷ entries) ss own =
    ap (sources_after entries) (changed_own name entry ss own.0)
    ∙ after_own name entries (with_source_at name (changed_itself entry) ss) own.1
    ∙ map-map (λ (s : SourceState). cond (bytes_eq s.source.name name) (itself_after entries s) s)
    (λ (s : SourceState). cond (bytes_eq s.source.name name) (changed_itself entry s) s) ss
    ∙ map-same _ _ both ss
  where
    both : (s : SourceState)
        → cond (bytes_eq (cond (bytes_eq s.source.name name) (changed_itself entry s) s).source.name name)
        (itself_after entries (cond (bytes_eq s.source.name name) (changed_itself entry s) s))
        (cond (bytes_eq s.source.name name) (changed_itself entry s) s)
        ≡ cond (bytes_eq s.source.name name) (itself_after entries (changed_itself entry s)) s
    both s = by (bytes_eq s.source.name name) refl
      where
        by : (b : Bool) → bytes_eq s.source.name name ≡ b
            → cond (bytes_eq (cond b (changed_itself entry s) s).source.name name)
            (itself_after entries (cond b (changed_itself entry s) s)) (cond b (changed_itself entry s) s)
            ≡ cond b (itself_after entries (changed_itself entry s)) s
        by true is =
            ap (λ source. cond (bytes_eq source.name name) (itself_after entries (changed_itself entry s))
            (changed_itself entry s)) (source_kept name entry s own.0)
            ∙ ap (λ b. cond b (itself_after entries (changed_itself entry s)) (changed_itself entry s)) is
        by false is = ap (λ b. cond b (itself_after entries s) s) is

-- ---- the entries of a step

pub find_in : {X : Type 0} (p : X → Bool) (xs : List X) (x : X) → find p xs ≡ Some x → IsIn x xs
find_in p [] x e = absurd (cc)
find_in p (y ∷ ys) x e = by (p y) e (find_in p ys x)
  where
    by : (b : Bool) → cond b (Some y) (find p ys) ≡ Some x → (find p ys ≡ Some x → IsIn x ys) → IsIn x (y ∷ ys)
    by true e rest = let same : y ≡ x = cc in inl (sym same)
    by false e rest = inr (rest e)

-- the open job is the source's own
pub open_is_own : (s : SourceState) (job : Job) → HasItsJobs s → open_job s ≡ Some job → job.source ≡ s.source.name
open_is_own s job holds is = (All-IsIn (IsJobOf s.source) s.jobs holds.own job (find_in is_open s.jobs job is)).own

pub entries_own : (step : SourceStep) (s : SourceState) → HasItsJobs s → AreOwn s.source.name (entries_at step s)
entries_own step s holds = by step
  where
    put_state : (state : JobState) (o : Option Job) → open_job s ≡ o → AreOwn s.source.name (state_entries state o)
    put_state state None is = tt
    put_state state (Some job) is = (open_is_own s job holds is, tt)

    put_report : (report : SourceReport) (o : Option Job) → open_job s ≡ o
        → AreOwn s.source.name (report_entries report o)
    put_report report None is = tt
    put_report report (Some job) is = (open_is_own s job holds is, tt)

    put_item : (listing : Listing) (o : Option Item) → AreOwn s.source.name (item_entries s.source.name listing o)
    put_item listing None = tt
    put_item listing (Some item) = (refl, tt)

    put_claim : (o : Option Listing) → AreOwn s.source.name (claim_entries s.source.name o)
    put_claim None = tt
    put_claim (Some listing) = put_item listing (first_waiting listing)

    put_settle : (iri : List ℕ) (came : Outcome) (o : Option Listing)
        → AreOwn s.source.name (settle_entries s.source.name iri came o)
    put_settle iri came None = tt
    put_settle iri came (Some listing) = (refl, tt)

    by : (step : SourceStep) → AreOwn s.source.name (entries_at step s)
    by Begin = put_state _ (open_job s) refl
    by (Break cause) = put_state _ (open_job s) refl
    by (list listing) = (refl, tt)
    by Claim = put_claim s.listing
    by (Settle iri came) = put_settle iri came s.listing
    by (End report) = (refl, put_report report (open_job s) refl)

-- ---- a source in its place

pub within_items : (items : List SourceWithRoom) (place : ℕ) → place < length (states items) → place < length items
within_items items place lt = rw (length-map items (λ (t : SourceWithRoom). t.state)) at lt

-- The source at the place, with the entries of its step, is what they change of all sources.
pub changed_so : (items after : List SourceWithRoom) (place : ℕ) (step : SourceStep) → AreSources (states items)
    → place < length items
    → IfSome (slice_get items place) (λ old. (new : SourceWithRoom)
    × (new.state ≡ itself_after (entries_at step old.state) old.state) × HasItsJobs new.state
    × (after ≡ set items place new))
    → (states after ≡ sources_after (entries_there step (slice_get (states items) place)) (states items))
    × AreSources (states after)
changed_so items after place step was within made =
    let at = item_at (λ old. (new : SourceWithRoom)
    × (new.state ≡ itself_after (entries_at step old.state) old.state) × HasItsJobs new.state
    × (after ≡ set items place new)) items place within made in
    let xs : List SourceState = states items in
    let s : SourceState = at.0.state in
    let new : SourceState = at.2.0.state in
    let lt : place < length xs = rw (length-map items (λ (t : SourceWithRoom). t.state)) within in
    let read : get_or xs place s ≡ s =
    get_or-map (λ (t : SourceWithRoom). t.state) items place at.0 s within
    ∙ ap (λ (t : SourceWithRoom). t.state) at.1 in
    let there : slice_get xs place ≡ Some s = slice_get-get_or xs place s lt ∙ ap Some read in
    let holds : HasItsJobs s = subst HasItsJobs read (was.jobs place s lt) in
    let own : AreOwn s.source.name (entries_at step s) = entries_own step s holds in
    let alike : new.source.name ≡ s.source.name =
    ap (λ (t : SourceState). t.source.name) at.2.1 ∙ ap (λ source. source.name) (sources_kept s.source.name (entries_at step s) s own) in
    let put : states after ≡ set xs place new =
    ap states at.2.3 ∙ map-set (λ (t : SourceWithRoom). t.state) items place at.2.0 in
    let changed : sources_after (entries_at step s) xs ≡ set xs place (itself_after (entries_at step s) s) =
    after_own s.source.name (entries_at step s) xs own
    ∙ changed_there xs s.source.name (itself_after (entries_at step s)) place s was.ascending lt
    (ap (λ (t : SourceState). t.source.name) read)
    ∙ ap (λ (t : SourceState). set xs place (itself_after (entries_at step s) t)) read in
    let upserts = ap states at.2.3 ∙ set_upserted items place at.0 at.2.0 was.ascending within at.1 alike in
    let named : s.source.name ≢ [] =
    subst (λ (t : SourceState). t.source.name ≢ []) read (was.named place s lt) in (
      put ∙ ap (set xs place) at.2.1 ∙ sym changed
          ∙ ap (λ (o : Option SourceState). sources_after (entries_there step o) xs) (sym there),
      subst AreSources (sym upserts) (AreSources-upserted xs new was (λ e. named (sym alike ∙ e)) at.2.2),
    )

-- ---- a new round

pub get_or_states : (items : List SourceWithRoom) (i : ℕ) (s : SourceWithRoom)
    → get_or (states items) i s.state ≡ (get_or items i s).state
get_or_states [] i s = refl
get_or_states (t ∷ items) zero s = refl
get_or_states (t ∷ items) (suc i) s = get_or_states items i s

module _ (first now : List SourceWithRoom) (i : ℕ) (s new : SourceWithRoom) (within : i < length first)
    (made : states now ≡ map renewed (take i (states first)) ++ drop i (states first)) where
  -- One more source is renewed.
  pub renewed_more : s ≡ get_or now i s → new.state ≡ renewed (get_or now i s).state
      → states (set now i new) ≡ map renewed (take (i + 1) (states first)) ++ drop (i + 1) (states first)
  renewed_more read is =
      map-set (λ (t : SourceWithRoom). t.state) now i new
      ∙ ap (set (states now) i) (is ∙ ap (λ (t : SourceWithRoom). renewed t.state) (sym read))
      ∙ map_over_more renewed (states first) (states now) i s.state
      (rw (length-map first (λ (t : SourceWithRoom). t.state)) within) made
      (ap (λ (t : SourceWithRoom). t.state) read ∙ sym (get_or_states now i s))

  long : length (states now) ≡ length (states first)
  long =
      let xs : List SourceState = states first in
      ap length made ∙ length-append (map renewed (take i xs)) (drop i xs)
      ∙ ap (λ n. n + length (drop i xs)) (length-map (take i xs) renewed)
      ∙ sym (length-append (take i xs) (drop i xs)) ∙ ap length (take-append-drop i xs)

  pub holds_more : ((k : ℕ) (d : SourceState) → k < i → HasItsJobs (get_or (states now) k d)) → HasItsJobs new.state
      → (k : ℕ) (d : SourceState) → k < i + 1 → HasItsJobs (get_or (states (set now i new)) k d)
  holds_more before holds k d lt =
      let lt_now : i < length (states now) =
      let same = long in rw (same, length-map first (λ (t : SourceWithRoom). t.state)) within in
      subst (λ (l : List SourceState). HasItsJobs (get_or l k d)) (sym (map-set (λ (t : SourceWithRoom). t.state) now i new))
      (by lt_now (cases_eq k i))
    where
      less : (k ≡ i → ⊥) → k < i
      less n = omega (arith, n, lt)

      by : i < length (states now) → (k ≡ i) ⊎ (k ≡ i → ⊥) → HasItsJobs (get_or (set (states now) i new.state) k d)
      by lt_now (inl e) =
          subst HasItsJobs (sym (ap (λ n. get_or (set (states now) i new.state) n d) e
          ∙ get_or-set_same (states now) i new.state d lt_now)) holds
      by lt_now (inr n) =
          subst HasItsJobs (sym (get_or-set_other (states now) i k new.state d n))
          (before k d (less n))

pub sources_after-append : (first rest : List SourceEntry) (ss : List SourceState)
    → sources_after (first ++ rest) ss ≡ sources_after rest (sources_after first ss)
sources_after-append [] rest ss = refl
sources_after-append (entry ∷ first) rest ss = sources_after-append first rest (changed_by entry ss)

pub renewals_own : (s : SourceState) → HasItsJobs s → AreOwn s.source.name (renewals s)
renewals_own s holds = by s.listing (open_job s) refl
  where
    run : (b : Bool) (job : Job) → open_job s ≡ Some job → AreOwn s.source.name (cond b (PutJob (in_state New job) ∷ []) [])
    run true job is = (open_is_own s job holds is, tt)
    run false job is = tt

    by : (listing : Option Listing) (o : Option Job) → open_job s ≡ o → AreOwn s.source.name (renewal s listing o)
    by listing None is = tt
    by (Some listing) (Some job) is = (refl, tt)
    by None (Some job) is = run (is_running job) job is

pub renewals_renew : (s : SourceState) → itself_after (renewals s) s ≡ renewed s
renewals_renew s = by s.listing (open_job s)
  where
    run : (b : Bool) (job : Job)
        → itself_after (cond b (PutJob (in_state New job) ∷ []) []) s ≡ cond b (with_job (in_state New job) s) s
    run true job = refl
    run false job = refl

    by : (listing : Option Listing) (o : Option Job) → itself_after (renewal s listing o) s ≡ renewed_with s listing o
    by listing None = refl
    by (Some listing) (Some job) = refl
    by None (Some job) = run (is_running job) job

pub renewed_source : (s : SourceState) → (renewed s).source ≡ s.source
renewed_source s = by s.listing (open_job s)
  where
    run : (b : Bool) (job : Job) → (cond b (with_job (in_state New job) s) s).source ≡ s.source
    run true job = refl
    run false job = refl

    by : (listing : Option Listing) (o : Option Job) → (renewed_with s listing o).source ≡ s.source
    by listing None = refl
    by (Some listing) (Some job) = refl
    by None (Some job) = run (is_running job) job

-- A lesser source isn't changed.
lesser_kept : (x y s : SourceState) (rest : List SourceState) (change : SourceState → SourceState)
    → y.source ≡ x.source → source_cmp x s ≡ Less
    → with_source_at s.source.name change (y ∷ rest) ≡ y ∷ with_source_at s.source.name change rest
lesser_kept x y s rest change same less =
    ap (λ b. cond b (change y) y ∷ with_source_at s.source.name change rest)
    (ap (λ source. bytes_eq source.name s.source.name) same
    ∙ sym (is_eq-slice_cmp x.source.name s.source.name) ∙ ap is_eq less)

others_kept : (x y : SourceState) (ss rest : List SourceState) → y.source ≡ x.source → IsBelowAll source_cmp x ss
    → ((s : SourceState) → IsIn s ss → HasItsJobs s)
    → sources_after (flat_map renewals ss) (y ∷ rest) ≡ y ∷ sources_after (flat_map renewals ss) rest
others_kept x y [] rest same below holds = refl
others_kept x y (s ∷ ss) rest same below holds =
    let own : AreOwn s.source.name (renewals s) = renewals_own s (holds s (inl refl)) in
    sources_after-append (renewals s) (flat_map renewals ss) (y ∷ rest)
    ∙ ap (sources_after (flat_map renewals ss))
    (after_own s.source.name (renewals s) (y ∷ rest) own
    ∙ lesser_kept x y s rest (itself_after (renewals s)) same below.0
    ∙ ap (λ l. y ∷ l) (sym (after_own s.source.name (renewals s) rest own)))
    ∙ others_kept x y ss (sources_after (renewals s) rest) same below.1 (λ t there. holds t (inr there))
    ∙ ap (λ l. y ∷ l) (sym (sources_after-append (renewals s) (flat_map renewals ss) rest))

itself_changed : (x : SourceState) (xs : List SourceState) (change : SourceState → SourceState)
    → IsBelowAll source_cmp x xs → with_source_at x.source.name change xs ≡ xs
itself_changed x [] change below = refl
itself_changed x (y ∷ ys) change below =
    ap (λ b. cond b (change y) y ∷ with_source_at x.source.name change ys) other
    ∙ ap (λ l. y ∷ l) (itself_changed x ys change below.1)
  where
    swap : (a b : List ℕ) → bytes_eq a b ≡ false → (r : Bool) → bytes_eq b a ≡ r → r ≡ false
    swap a b unlike true is =
        let yes : bytes_eq a b ≡ true = (bytes_eq-Decides a b).1 (sym ((bytes_eq-Decides b a).0 is)) in absurd (cc)
    swap a b unlike false is = refl

    other : bytes_eq y.source.name x.source.name ≡ false
    other =
        swap x.source.name y.source.name
        (sym (is_eq-slice_cmp x.source.name y.source.name) ∙ ap is_eq below.0)
        (bytes_eq y.source.name x.source.name) refl

pub all_renewed : (ss : List SourceState) → IsAscending source_cmp ss → ((s : SourceState) → IsIn s ss → HasItsJobs s)
    → sources_after (flat_map renewals ss) ss ≡ map renewed ss
all_renewed [] up holds = refl
all_renewed (x ∷ xs) up holds =
    let own : AreOwn x.source.name (renewals x) = renewals_own x (holds x (inl refl)) in
    sources_after-append (renewals x) (flat_map renewals xs) (x ∷ xs)
    ∙ ap (sources_after (flat_map renewals xs))
    (after_own x.source.name (renewals x) (x ∷ xs) own
    ∙ ap (λ b. cond b (itself_after (renewals x) x) x ∷ with_source_at x.source.name (itself_after (renewals x)) xs)
    ((bytes_eq-Decides x.source.name x.source.name).1 refl)
    ∙ ap (λ l. itself_after (renewals x) x ∷ l) (itself_changed x xs (itself_after (renewals x)) up.0)
    ∙ ap (λ y. y ∷ xs) (renewals_renew x))
    ∙ others_kept x (renewed x) xs xs (renewed_source x) up.0 (λ t there. holds t (inr there))
    ∙ ap (λ l. renewed x ∷ l) (all_renewed xs up.1 (λ t there. holds t (inr there)))

-- Sources that are renewed are those after the renewals of each.
pub renewed_so : (items after : List SourceWithRoom) → AreSources (states items)
    → states after ≡ map renewed (states items) → All HasItsJobs (states after)
    → (states after ≡ sources_after (flat_map renewals (states items)) (states items)) × AreSources (states after)
renewed_so items after was is holds =
    let xs : List SourceState = states items in (
      is ∙ sym (all_renewed xs was.ascending (λ s there. All-IsIn HasItsJobs xs was.jobs s there)),
      record {
        ascending = subst (IsAscending source_cmp) (sym is)
            (IsAscending-map renewed source_cmp source_cmp same_order xs was.ascending);
        named = subst (All (λ (s : SourceState). s.source.name ≢ [])) (sym is) full;
        jobs = holds;
      },
    )
  where
    same_order : (s t : SourceState) → source_cmp (renewed s) (renewed t) ≡ source_cmp s t
    same_order s t =
        ap (λ source. source_cmp (record (renewed s) { source = source }) (renewed t)) (renewed_source s)
        ∙ ap (λ source. source_cmp s (record (renewed t) { source = source })) (renewed_source t)

    full : All (λ (s : SourceState). s.source.name ≢ []) (map renewed (states items))
    full k d lt e =
        let within : k < length (states items) = rw (length-map (states items) renewed) at lt in
        was.named k d within
        (sym (ap (λ (s : SourceState). s.source.name) (get_or-map renewed (states items) k d d within)
        ∙ ap (λ source. source.name) (renewed_source (get_or (states items) k d))) ∙ e)

-- The sources in memory are those of the slice that was lent.
pub renewed_back : (n : ℕ) (lent items new : List SourceWithRoom) → lent ≡ items → length lent ≡ n
    → AreSources (states items) → states new ≡ map renewed (states lent) → All HasItsJobs (states new)
    → (states (take n (new ++ drop (length new) items))
    ≡ sources_after (flat_map renewals (states items)) (states items))
    × AreSources (states (take n (new ++ drop (length new) items)))
renewed_back n lent items new value len was made holds =
    subst (λ (l : List SourceWithRoom). (states l ≡ sources_after (flat_map renewals (states items)) (states items))
    × AreSources (states l)) (sym same)
    (renewed_so items new was (made ∙ ap (λ (l : List SourceWithRoom). map renewed (states l)) value) holds)
  where
    as_long : length new ≡ length lent
    as_long =
        sym (length-map new (λ (t : SourceWithRoom). t.state)) ∙ ap length made ∙ length-map (states lent) renewed
        ∙ length-map lent (λ (t : SourceWithRoom). t.state)

    same : take n (new ++ drop (length new) items) ≡ new
    same =
        ap (λ k. take k (new ++ drop (length new) items)) (sym (as_long ∙ len))
        ∙ take-append_seam new (drop (length new) items)

-- Sources after changes that are prepared or made.
use Rattle.std.proofs.Common.{◌≡◌, ◌≢◌, ◌∙◌, ◌<◌, ℕ, ℤ, Bool, true, false, List, [], ◌∷◌, Option, Some, None, length}
use Rattle.std.proofs.Common.{cond, get_or, inl, inr, set, refl, sym, ap, subst, arith}
use Rattle.std.specs.Prelude.{IfOk, IfSome, IsTrue, OnOk, Result, Ok, Err, option_map, position, slice_get}
use Rattle.std.specs.Option.{option_map_or}
use Rattle.std.specs.Ordering.{is_eq}
use Rattle.std.specs.Prelude.{if◌then◌else◌, is_none, is_some}
use Rattle.std.specs.Str.{bytes_eq}
use Rattle.portal_base.specs.Ordered.{dropped, inserted}
use Rattle.harvest_sources.specs.Entries.{fault_if_open, source_fault}
use Rattle.harvest_sources.specs.Sources.{stored_cmp}
use Rattle.harvest_sources.specs.declared.change.SourceChange.TheVariants.{Create}
use Rattle.harvest_sources.specs.declared.change.StageFault.TheVariants.{NotFinished, SourceNameInUse}
use Rattle.harvest_sources.specs.declared.source.HarvestSource.{HarvestSource}
use Rattle.harvest_stages.proofs.MapLemmas.{inserted-map}
use Rattle.harvest_stages.proofs.SourceLemmas.{states-dropped}
use Rattle.std.specs.declared.alloc.AllocError.{AllocError}
use Rattle.std.specs.declared.cmp.Ordering.TheVariants.{Equal}
use Rattle.std.proofs.lemmas.Cmp.{tied_itself}
use Rattle.std.proofs.lemmas.List.{get_or-map, length-map, map-set}
use Rattle.std.proofs.lemmas.Map.Text.{is_eq-slice_cmp}
use Rattle.portal_base.specs.Ordered.{IsAscending, found, upserted}
use Rattle.portal_base.proofs.Filtered.{find-same}
use Rattle.portal_base.proofs.Halved.{index_by_halving}
use Rattle.portal_base.proofs.Unique.{IsIn}
use Rattle.portal_base.proofs.Upserted.{All-IsIn, All-upserted, IsAscending-upserted}
use Rattle.harvest_sources.specs.Entries.{changed_sources, sources_after, updated_source, with_jobs_of, with_texts}
use Rattle.harvest_sources.specs.Entries.{added_job, with_job, with_new_job, with_source_at}
use Rattle.std.proofs.Common.{◌+◌, get_or-set_same, ltb-true}
use Rattle.std.specs.Prelude.{◌^◌, nat_lt}
use Rattle.std.proofs.lemmas.Bool.{and_parts}
use Rattle.std.proofs.lemmas.Option.{slice_get-get_or}
use Rattle.harvest_sources.specs.Sources.{open_job}
use Rattle.std.proofs.lemmas.List.{get_or_default, set-set}
use Rattle.std.proofs.Math.ListN.{length-set}
use Rattle.std.specs.Cmp.Lexicographic.{slice_cmp}
use Rattle.std.specs.Ordering.{nat_cmp}
use Rattle.harvest_sources.specs.Sources.{AreSources, HasItsJobs, SourceState, SourceWithRoom, source_at, source_cmp}
use Rattle.harvest_sources.specs.Sources.{source_cmp_total, source_named, states, stored_at}
use Rattle.harvest_sources.specs.declared.change.SourceChange.TheVariants.{AddJob, Update}
use Rattle.harvest_sources.specs.declared.job.Job.{Job}
use Rattle.harvest_stages.specs.Ready.{CanAdd, can_add, next_job_of}
use Rattle.harvest_stages.proofs.SourceLemmas.{changed_there, found_there, item_at, name_here, named_here, same_state}

some_ok : (r : Result Job AllocError) (j : Job) → IfOk r (λ job. job ≡ j) → IfOk r (λ job. Some job ≡ Some j)
some_ok (Ok job) j is = ap Some is
some_ok (Err e) j is = tt

-- The sources stay, and the one that is found has room for the job.
pub ready_so : (items after : List SourceWithRoom) (name : List ℕ) (place : ℕ) (result : Result Job AllocError)
    (created : ℤ) → IsAscending source_cmp (states items)
    → position (λ s. is_eq (stored_at name s)) items ≡ Some place → place < length items
    → IfSome (slice_get items place) (λ old. (new : SourceWithRoom) × (new.state ≡ old.state)
    × (after ≡ set items place new) × OnOk result (IsTrue (can_add new))
    × IfOk result (λ job. job ≡ next_job_of created old.state))
    → (states after ≡ states items)
    × OnOk result (IsTrue (option_map_or can_add (found (stored_at name) after) false))
    × IfOk result (λ job. Some job ≡ option_map (next_job_of created) (source_named (states items) name))
ready_so items after name place result created up there within made =
    let at = item_at (λ old. (new : SourceWithRoom) × (new.state ≡ old.state)
    × (after ≡ set items place new) × OnOk result (IsTrue (can_add new))
    × IfOk result (λ job. job ≡ next_job_of created old.state)) items place within made in
    let both = same_state items name place up there within at.0 at.1 after at.2.0 at.2.1 at.2.2 in (
      both.0,
      subst (λ (o : Option SourceWithRoom). OnOk result (IsTrue (option_map_or can_add o false))) (sym both.1) at.2.3,
      subst (λ (o : Option SourceState). IfOk result (λ job. Some job ≡ option_map (next_job_of created) o))
          (sym (named_here items name place up there within at.0 at.1))
          (some_ok result (next_job_of created at.0.state) at.2.4),
    )

-- ---- a source in place of that of its name

pub found_named : (sources : List SourceState) (name : List ℕ)
    → found (source_at name) sources ≡ source_named sources name
found_named sources name = find-same _ _ (λ s. is_eq-slice_cmp s.source.name name) sources

pub AreSources-upserted : (sources : List SourceState) (s : SourceState) → AreSources sources → s.source.name ≢ []
    → HasItsJobs s → AreSources (upserted source_cmp s sources)
AreSources-upserted sources s was named holds = record {
  ascending = IsAscending-upserted source_cmp source_cmp_total s sources was.ascending;
  named = All-upserted (λ (t : SourceState). t.source.name ≢ []) source_cmp s sources named was.named;
  jobs = All-upserted HasItsJobs source_cmp s sources holds was.jobs;
}

-- With an item of the same name in its place, the sources are those with its state.
pub set_upserted : (items : List SourceWithRoom) (place : ℕ) (old new : SourceWithRoom) → IsAscending source_cmp (states items)
    → place < length items → get_or items place old ≡ old → new.state.source.name ≡ old.state.source.name
    → states (set items place new) ≡ upserted source_cmp new.state (states items)
set_upserted items place old new up within read alike =
    map-set (λ (t : SourceWithRoom). t.state) items place new
    ∙ sym (index_by_halving source_cmp source_cmp_total new.state (states items) up (Ok place)
    (rw (length-map items (λ (t : SourceWithRoom). t.state)) within) same).1
  where
    same : (d : SourceState) → source_cmp (get_or (states items) place d) new.state ≡ Equal
    same d =
        let is : get_or (states items) place d ≡ old.state =
        get_or-map (λ (t : SourceWithRoom). t.state) items place old d within
        ∙ ap (λ (t : SourceWithRoom). t.state) read in
        subst (λ (t : SourceState). source_cmp t new.state ≡ Equal) (sym is)
        (subst (λ (name : List ℕ). source_cmp old.state (record new.state { source = record new.state.source { name = name } }) ≡ Equal)
        (sym alike) (tied_itself source_cmp_total old.state))

by_name : (b : Bool) (x t : SourceState) (ss : List SourceState) (n : List ℕ)
    → cond b (Some x) (source_named ss n) ≡ Some t → (source_named ss n ≡ Some t → IsIn t ss) → IsIn t (x ∷ ss)
by_name true x t ss n h rest = let same : x ≡ t = cc in inl (sym same)
by_name false x t ss n h rest = inr (rest h)

source_in : (ss : List SourceState) (n : List ℕ) (t : SourceState) → source_named ss n ≡ Some t → IsIn t ss
source_in [] n t e = absurd (cc)
source_in (x ∷ ss) n t e = by_name (bytes_eq x.source.name n) x t ss n e (source_in ss n t)

-- A source with other texts is one that is updated.
pub texts_so : (items after : List SourceWithRoom) (name title url : List ℕ) (place : ℕ) → AreSources (states items)
    → position (λ s. is_eq (stored_at name s)) items ≡ Some place → place < length items
    → IfSome (slice_get items place) (λ old. (new : SourceWithRoom) × (new.state ≡ with_texts title url old.state)
    × HasItsJobs new.state × (after ≡ set items place new))
    → (states after ≡ changed_sources (Update name title url) (states items)) × AreSources (states after)
texts_so items after name title url place was there within made =
    let at = item_at (λ old. (new : SourceWithRoom) × (new.state ≡ with_texts title url old.state)
    × HasItsJobs new.state × (after ≡ set items place new)) items place within made in
    let xs : List SourceState = states items in
    let s : SourceState = at.0.state in
    let new : SourceState = at.2.0.state in
    let up : IsAscending source_cmp xs = was.ascending in
    let named : source_named xs name ≡ Some s = named_here items name place up there within at.0 at.1 in
    let is_named : s.source.name ≡ name = name_here items name place up there within at.0 at.1 in
    let seen : found (source_at s.source.name) xs ≡ Some s =
    found_named xs s.source.name ∙ ap (source_named xs) is_named ∙ named in
    let alike : new.source.name ≡ s.source.name = ap (λ (t : SourceState). t.source.name) at.2.1 in
    let put : states after ≡ upserted source_cmp new xs =
    ap states at.2.3 ∙ set_upserted items place at.0 at.2.0 up within at.1 alike in
    let updated : changed_sources (Update name title url) xs ≡ upserted source_cmp (with_texts title url s) xs =
    ap (λ (o : Option SourceState). sources_after (updated_source title url o) xs) named
    ∙ ap (λ (o : Option SourceState).
    upserted source_cmp (with_jobs_of (record s.source { title = title; url = url }) o) xs) seen in
    let full : new.source.name ≢ [] =
    λ e. All-IsIn (λ (t : SourceState). t.source.name ≢ []) xs was.named s
    (source_in xs name s named) (sym alike ∙ e) in (
      put ∙ ap (λ (t : SourceState). upserted source_cmp t xs) at.2.1 ∙ sym updated,
      subst AreSources (sym put) (AreSources-upserted xs new was full at.2.2),
    )

-- ---- a new job

-- A source that is put and then changed is put as changed.
put_changed : (xs : List SourceState) (s : SourceState) (change : SourceState → SourceState) (name : List ℕ) (place : ℕ)
    → IsAscending source_cmp xs → place < length xs → (get_or xs place s).source.name ≡ name → s.source.name ≡ name
    → (change s).source.name ≡ name
    → with_source_at name change (upserted source_cmp s xs) ≡ upserted source_cmp (change s) xs
put_changed xs s change name place up within here own kept =
    let put : (t : SourceState) → t.source.name ≡ name → upserted source_cmp t xs ≡ set xs place t =
    λ t same. (index_by_halving source_cmp source_cmp_total t xs up (Ok place) within
    (λ d. subst (λ (u : List ℕ). slice_cmp nat_cmp u t.source.name ≡ Equal)
    (sym (ap (λ (u : SourceState). u.source.name) (get_or_default xs place d s within) ∙ here ∙ sym same))
    (tied_itself source_cmp_total t))).1 in
    let there : get_or (set xs place s) place s ≡ s = get_or-set_same xs place s s within in
    ap (with_source_at name change) (put s own)
    ∙ changed_there (set xs place s) name change place s
    (subst (IsAscending source_cmp) (put s own) (IsAscending-upserted source_cmp source_cmp_total s xs up))
    (rw (length-set xs place s) within) (ap (λ (t : SourceState). t.source.name) there ∙ own)
    ∙ ap (λ (t : SourceState). set (set xs place s) place (change t)) there
    ∙ set-set xs place s (change s)
    ∙ sym (put (change s) kept)

job_made : (o : Option SourceState) (s : SourceState) (job : Job) → o ≡ Some s
    → Some job ≡ option_map (next_job_of job.created) o → job ≡ next_job_of job.created s
job_made o s job is made =
    let both : Some job ≡ Some (next_job_of job.created s) = made ∙ ap (option_map (next_job_of job.created)) is in
    cc (both)

ended_if : (s : SourceState) → IsTrue (is_none (fault_if_open (Some s))) → open_job s ≡ None
ended_if s allowed = by (open_job s) allowed
  where
    by : (o : Option Job) → IsTrue (is_none (if is_some o then Some NotFinished else None)) → o ≡ None
    by None h = refl
    by (Some job) h = absurd (cc)

-- The source at the place of the name can get the job.
pub can_add_there : (items : List SourceWithRoom) (name : List ℕ) (job : Job) (place : ℕ)
    → IsAscending source_cmp (states items) → position (λ s. is_eq (stored_at name s)) items ≡ Some place
    → place < length items → IsTrue (is_none (source_fault (AddJob name job.created) (states items)))
    → IsTrue (option_map_or can_add (found (stored_at name) items) false)
    → Some job ≡ option_map (next_job_of job.created) (source_named (states items) name)
    → IfSome (slice_get items place) (λ old. CanAdd job old)
can_add_there items name job place up there within allowed room next =
    subst (λ (o : Option SourceWithRoom). IfSome o (λ old. CanAdd job old))
    (sym (slice_get-get_or items place d within)) (add (get_or items place d) same)
  where
    d : SourceWithRoom
    d = record { state = record { source = record { name = []; title = []; url = []; owner_org = []; next_job = 0 }; jobs = []; listing = None }; room = false }

    same : get_or items place (get_or items place d) ≡ get_or items place d
    same = get_or_default items place (get_or items place d) d within

    add : (s : SourceWithRoom) → get_or items place s ≡ s → CanAdd job s
    add s read =
        let named : source_named (states items) name ≡ Some s.state = named_here items name place up there within s read in
        let here : found (stored_at name) items ≡ Some s = found_there items name place up there within s read in
        let fits = and_parts s.room (nat_lt (s.state.source.next_job + 1) (2 ^ 64))
        (subst (λ (o : Option SourceWithRoom). IsTrue (option_map_or can_add o false)) here room) in
        record {
          ended = ended_if s.state (subst (λ (o : Option SourceState). IsTrue (is_none (fault_if_open o))) named allowed);
          room = fits.0;
          number = ltb-true (s.state.source.next_job + 1) (2 ^ 64) fits.1;
          next = job_made (source_named (states items) name) s.state job named next;
        }

-- A source with its next job is one to which a job is added.
pub added_so : (items after : List SourceWithRoom) (name : List ℕ) (job : Job) (place : ℕ) → AreSources (states items)
    → position (λ s. is_eq (stored_at name s)) items ≡ Some place → place < length items
    → Some job ≡ option_map (next_job_of job.created) (source_named (states items) name)
    → IfSome (slice_get items place) (λ old. (new : SourceWithRoom) × (new.state ≡ with_new_job job old.state)
    × HasItsJobs new.state × (after ≡ set items place new))
    → (states after ≡ changed_sources (AddJob name job.created) (states items)) × AreSources (states after)
added_so items after name job place was there within next made =
    let at = item_at (λ old. (new : SourceWithRoom) × (new.state ≡ with_new_job job old.state)
    × HasItsJobs new.state × (after ≡ set items place new)) items place within made in
    let xs : List SourceState = states items in
    let s : SourceState = at.0.state in
    let new : SourceState = at.2.0.state in
    let up : IsAscending source_cmp xs = was.ascending in
    let named : source_named xs name ≡ Some s = named_here items name place up there within at.0 at.1 in
    let is_named : s.source.name ≡ name = name_here items name place up there within at.0 at.1 in
    let seen : found (source_at s.source.name) xs ≡ Some s =
    found_named xs s.source.name ∙ ap (source_named xs) is_named ∙ named in
    let alike : new.source.name ≡ s.source.name = ap (λ (t : SourceState). t.source.name) at.2.1 in
    let put : states after ≡ upserted source_cmp new xs =
    ap states at.2.3 ∙ set_upserted items place at.0 at.2.0 up within at.1 alike in
    let s' : SourceState = with_jobs_of (record s.source { next_job = s.source.next_job + 1 }) (Some s) in
    let made_of : job ≡ next_job_of job.created s = job_made (source_named xs name) s job named next in
    let read : (get_or xs place s').source.name ≡ s.source.name =
    ap (λ (t : SourceState). t.source.name)
    (get_or-map (λ (t : SourceWithRoom). t.state) items place at.0 s' within
    ∙ ap (λ (t : SourceWithRoom). t.state) at.1) in
    let added : changed_sources (AddJob name job.created) xs ≡ upserted source_cmp (with_new_job job s) xs =
    ap (λ (o : Option SourceState). sources_after (added_job job.created o) xs) named
    ∙ ap (λ (o : Option SourceState).
    with_source_at s.source.name (with_job (next_job_of job.created s))
    (upserted source_cmp (with_jobs_of (record s.source { next_job = s.source.next_job + 1 }) o) xs)) seen
    ∙ ap (λ (j : Job). with_source_at s.source.name (with_job j) (upserted source_cmp s' xs)) (sym made_of)
    ∙ put_changed xs s' (with_job job) s.source.name place up
    (rw (length-map items (λ (t : SourceWithRoom). t.state)) within) read refl refl in
    let full : new.source.name ≢ [] =
    λ e. All-IsIn (λ (t : SourceState). t.source.name ≢ []) xs was.named s
    (source_in xs name s named) (sym alike ∙ e) in (
      put ∙ ap (λ (t : SourceState). upserted source_cmp t xs) at.2.1 ∙ sym added,
      subst AreSources (sym put) (AreSources-upserted xs new was full at.2.2),
    )

-- ---- a source that is put

-- A new source has its jobs, of which there are none.
new_holds : (source : HarvestSource) → HasItsJobs (with_jobs_of source None)
new_holds source = record {
  own = λ k d lt. absurd (omega (arith, lt));
  ascending = tt;
  one_open = omega arith;
  runs = λ listed. absurd (cc);
  listed = tt;
}

states-upserted : (items : List SourceWithRoom) (new : SourceWithRoom)
    → states (upserted stored_cmp new items) ≡ upserted source_cmp new.state (states items)
states-upserted items new =
    sym (inserted-map (λ (s : SourceWithRoom). s.state) stored_cmp source_cmp (λ s t. refl) new
    (dropped (stored_at new.state.source.name) items))
    ∙ ap (inserted source_cmp new.state) (states-dropped new.state.source.name items)

none_named : (o : Option SourceState) → IsTrue (is_none (if is_some o then Some SourceNameInUse else None)) → o ≡ None
none_named None h = refl
none_named (Some s) h = absurd (cc)

pub put_so : (items after : List SourceWithRoom) (new : SourceWithRoom) (source : HarvestSource)
    → AreSources (states items) → new.state ≡ with_jobs_of source None → source.name ≢ []
    → IsTrue (is_none (source_fault (Create source) (states items))) → after ≡ upserted stored_cmp new items
    → (states after ≡ changed_sources (Create source) (states items)) × AreSources (states after)
put_so items after new source was is named free put =
    let xs : List SourceState = states items in
    let seen : found (source_at source.name) xs ≡ None =
    found_named xs source.name ∙ none_named (source_named xs source.name) free in
    let kept : states after ≡ upserted source_cmp (with_jobs_of source None) xs =
    ap states put ∙ states-upserted items new ∙ ap (λ (s : SourceState). upserted source_cmp s xs) is in (
      kept ∙ ap (λ (o : Option SourceState). upserted source_cmp (with_jobs_of source o) xs) (sym seen),
      subst AreSources (sym kept) (AreSources-upserted xs (with_jobs_of source None) was named (new_holds source)),
    )

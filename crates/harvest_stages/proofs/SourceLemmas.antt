-- Sources that are looked up by their names, and changed at their places.
use Rattle.std.proofs.Common.{◌≡◌, ◌≢◌, ◌∙◌, ◌<◌, ℕ, zero, suc, Bool, true, false, cond, not, List, [], ◌∷◌, ◌++◌, Option}
use Rattle.std.proofs.Common.{Some, None, map, length, get_or, set, refl, sym, ap, subst, arith, get_or-set_same}
use Rattle.std.specs.Prelude.{IfSome, option_map, position, slice_get}
use Rattle.std.specs.Ordering.{is_eq}
use Rattle.std.specs.Str.{bytes_eq}
use Rattle.std.specs.declared.cmp.Ordering.TheVariants.{Equal}
use Rattle.std.proofs.Math.ListN.{length-set}
use Rattle.std.proofs.lemmas.List.{get_or-map, get_or_default, length-map, map-set}
use Rattle.std.proofs.lemmas.Map.Text.{is_eq-slice_cmp}
use Rattle.std.proofs.lemmas.Option.{slice_get-get_or}
use Rattle.std.proofs.lemmas.Slice.Eq.{bytes_eq-Decides}
use Rattle.portal_base.specs.Ordered.{IsAscending, dropped, found}
use Rattle.portal_base.proofs.Removed.{is_eq_true, removed-none}
use Rattle.portal_base.proofs.Unique.{IsIn, IsIn-get_or}
use Rattle.portal_base.proofs.Upserted.{All-dropped, IsAscending-dropped}
use Rattle.harvest_sources.specs.Entries.{DropJob, DropSource, changed_sources, job_drops, sources_after, with_source_at}
use Rattle.harvest_sources.specs.Entries.{without_job}
use Rattle.harvest_sources.specs.Sources.{AreSources, HasItsJobs, IsKey-stored_at, SourceState, SourceWithRoom, source_at}
use Rattle.harvest_sources.specs.Sources.{IsKey-source_at, source_cmp_total}
use Rattle.harvest_sources.specs.Sources.{source_cmp, source_named, states, stored_at, stored_cmp, stored_cmp_total}
use Rattle.harvest_sources.specs.declared.change.SourceChange.TheVariants.{Remove}
use Rattle.harvest_sources.specs.declared.job.Job.{Job}
use Rattle.harvest_stages.proofs.FoundLemmas.{changed_at-set, found-IsIn, placed}
use Rattle.harvest_stages.proofs.MapLemmas.{map-IsAscending, map-same}

-- The source of a name is the one that is found at it.
pub named_stored : (stored : List SourceWithRoom) (name : List ℕ)
    → source_named (states stored) name ≡ option_map (λ s. s.state) (found (stored_at name) stored)
named_stored [] name = refl
named_stored (s ∷ stored) name =
    ap (λ b. cond b (Some s.state) (source_named (states stored) name)) (sym (is_eq-slice_cmp s.state.source.name name))
    ∙ by (is_eq (stored_at name s)) (named_stored stored name)
  where
    by : (b : Bool) → source_named (states stored) name ≡ option_map (λ s. s.state) (found (stored_at name) stored)
        → cond b (Some s.state) (source_named (states stored) name)
        ≡ option_map (λ t. t.state) (cond b (Some s) (found (stored_at name) stored))
    by true rest = refl
    by false rest = rest

-- ---- the item at a place

set_self : {X : Type 0} (xs : List X) (i : ℕ) (x d : X) → i < length xs → x ≡ get_or xs i d → set xs i x ≡ xs
set_self [] i x d lt is = absurd (omega arith)
set_self (y ∷ ys) zero x d lt is = ap (λ z. z ∷ ys) is
set_self (y ∷ ys) (suc i) x d lt is = ap (λ l. y ∷ l) (set_self ys i x d (omega arith) is)

-- What holds of the item at a place.
pub item_at : {X : Type 0} (Q : X → Type 0) (xs : List X) (place : ℕ) → place < length xs
    → IfSome (slice_get xs place) Q → (x : X) × (get_or xs place x ≡ x) × Q x
item_at Q [] place lt holds = absurd (omega arith)
item_at Q (y ∷ ys) place lt holds = (
  get_or (y ∷ ys) place y,
  get_or_default (y ∷ ys) place (get_or (y ∷ ys) place y) y lt,
  subst (λ o. IfSome o Q) (slice_get-get_or (y ∷ ys) place y lt) holds,
)

module _ (items : List SourceWithRoom) (name : List ℕ) (place : ℕ) (up : IsAscending source_cmp (states items))
    (there : position (λ s. is_eq (stored_at name s)) items ≡ Some place) (within : place < length items)
    (s : SourceWithRoom) (read : get_or items place s ≡ s) where
  stored_up : IsAscending stored_cmp items
  stored_up = map-IsAscending (λ (t : SourceWithRoom). t.state) stored_cmp source_cmp (λ t u. refl) items up

  here : stored_at name s ≡ Equal
  here =
      subst (λ (t : SourceWithRoom). stored_at name t ≡ Equal) read
      (placed stored_cmp stored_cmp_total (stored_at name) (IsKey-stored_at name) items place s there).1

  pub name_here : s.state.source.name ≡ name
  name_here =
      (bytes_eq-Decides s.state.source.name name).0
      (sym (is_eq-slice_cmp s.state.source.name name) ∙ ap is_eq here)

  pub found_there : found (stored_at name) items ≡ Some s
  found_there =
      (placed stored_cmp stored_cmp_total (stored_at name) (IsKey-stored_at name) items place s there).0 ∙ ap Some read

  pub named_here : source_named (states items) name ≡ Some s.state
  named_here =
      named_stored items name
      ∙ ap (option_map (λ (t : SourceWithRoom). t.state))
      ((placed stored_cmp stored_cmp_total (stored_at name) (IsKey-stored_at name) items place s there).0 ∙ ap Some read)

  -- An item with the same state in its place changes no source, and is found.
  pub same_state : (after : List SourceWithRoom) (new : SourceWithRoom) → new.state ≡ s.state
      → after ≡ set items place new
      → (states after ≡ states items) × (found (stored_at name) after ≡ Some new)
  same_state after new state is =
      let lt : place < length (states items) = rw (length-map items (λ (t : SourceWithRoom). t.state)) within in
      let read_state : s.state ≡ get_or (states items) place s.state =
      sym (get_or-map (λ (t : SourceWithRoom). t.state) items place s s.state within ∙ ap (λ (t : SourceWithRoom). t.state) read) in
      let same : states after ≡ states items =
      ap states is ∙ map-set (λ (t : SourceWithRoom). t.state) items place new
      ∙ set_self (states items) place new.state s.state lt (state ∙ read_state) in
      let after_up : IsAscending stored_cmp after =
      map-IsAscending (λ (t : SourceWithRoom). t.state) stored_cmp source_cmp (λ t u. refl) after
      (subst (IsAscending source_cmp) (sym same) up) in
      let among : IsIn new after =
      subst (IsIn new) (sym is) (IsIn-get_or new (set items place new) place
      (rw (length-set items place new) within) (get_or-set_same items place new new within)) in
      let at : stored_at name new ≡ Equal = subst (λ (t : SourceState). source_at name t ≡ Equal) (sym state) here in (
        same,
        found-IsIn stored_cmp stored_cmp_total (stored_at name) (IsKey-stored_at name) after new after_up among at,
      )

-- In sources in order only the one at the place of the name changes.
pub changed_there : (sources : List SourceState) (name : List ℕ) (change : SourceState → SourceState) (place : ℕ)
    (d : SourceState) → IsAscending source_cmp sources → place < length sources
    → (get_or sources place d).source.name ≡ name
    → with_source_at name change sources ≡ set sources place (change (get_or sources place d))
changed_there sources name change place d up within here =
    map-same (λ (s : SourceState). cond (bytes_eq s.source.name name) (change s) s)
    (λ (s : SourceState). cond (is_eq (source_at name s)) (change s) s)
    (λ s. ap (λ b. cond b (change s) s) (sym (is_eq-slice_cmp s.source.name name))) sources
    ∙ changed_at-set source_cmp source_cmp_total (source_at name) (IsKey-source_at name) change sources up place d within
    (is_eq_true (source_at name (get_or sources place d))
    (is_eq-slice_cmp (get_or sources place d).source.name name
    ∙ (bytes_eq-Decides (get_or sources place d).source.name name).1 here))

-- There is no source of a name that has no place.
pub nowhere : (items : List SourceWithRoom) (name : List ℕ) → position (λ s. is_eq (stored_at name s)) items ≡ None
    → source_named (states items) name ≡ None
nowhere items name none =
    named_stored items name
    ∙ ap (option_map (λ (s : SourceWithRoom). s.state)) (removed-none (stored_at name) items none).0

-- ---- sources that are dropped

without_all : (name : List ℕ) (jobs : List Job) (sources : List SourceState)
    → sources_after (map (λ job. DropJob name job.number) jobs ++ DropSource name ∷ []) sources
    ≡ dropped (source_at name) sources
without_all name [] sources = refl
without_all name (job ∷ jobs) sources =
    without_all name jobs (with_source_at name (without_job job.number) sources) ∙ unchanged sources
  where
    unchanged : (ss : List SourceState)
        → dropped (source_at name) (with_source_at name (without_job job.number) ss) ≡ dropped (source_at name) ss
    unchanged [] = refl
    unchanged (s ∷ ss) =
        ap (λ b. cond (not (is_eq (source_at name (cond b (without_job job.number s) s))))
        (cond b (without_job job.number s) s ∷ dropped (source_at name) (with_source_at name (without_job job.number) ss))
        (dropped (source_at name) (with_source_at name (without_job job.number) ss)))
        (sym (is_eq-slice_cmp s.source.name name))
        ∙ by (is_eq (source_at name s)) refl (unchanged ss)
      where
        by : (b : Bool) → is_eq (source_at name s) ≡ b
            → dropped (source_at name) (with_source_at name (without_job job.number) ss) ≡ dropped (source_at name) ss
            → cond (not (is_eq (source_at name (cond b (without_job job.number s) s))))
            (cond b (without_job job.number s) s ∷ dropped (source_at name) (with_source_at name (without_job job.number) ss))
            (dropped (source_at name) (with_source_at name (without_job job.number) ss))
            ≡ dropped (source_at name) (s ∷ ss)
        by true is rest = rw is rest
        by false is rest = rw is (ap (λ l. s ∷ l) rest)

removed : (name : List ℕ) (sources : List SourceState)
    → changed_sources (Remove name) sources ≡ dropped (source_at name) sources
removed name sources = by (source_named sources name)
  where
    by : (o : Option SourceState)
        → sources_after (job_drops name o ++ DropSource name ∷ []) sources ≡ dropped (source_at name) sources
    by None = refl
    by (Some s) = without_all name s.jobs sources

pub states-dropped : (name : List ℕ) (items : List SourceWithRoom)
    → states (dropped (stored_at name) items) ≡ dropped (source_at name) (states items)
states-dropped name [] = refl
states-dropped name (s ∷ items) = by (is_eq (stored_at name s)) (states-dropped name items)
  where
    by : (b : Bool) → states (dropped (stored_at name) items) ≡ dropped (source_at name) (states items)
        → states (cond (not b) (s ∷ dropped (stored_at name) items) (dropped (stored_at name) items))
        ≡ cond (not b) (s.state ∷ dropped (source_at name) (states items)) (dropped (source_at name) (states items))
    by true rest = rest
    by false rest = ap (λ l. s.state ∷ l) rest

-- Sources without one are those after its removal.
pub dropped_so : (name : List ℕ) (items after : List SourceWithRoom) → AreSources (states items)
    → after ≡ dropped (stored_at name) items
    → (states after ≡ changed_sources (Remove name) (states items)) × AreSources (states after)
dropped_so name items after was is =
    let kept : states after ≡ dropped (source_at name) (states items) = ap states is ∙ states-dropped name items in (
      kept ∙ sym (removed name (states items)),
      subst AreSources (sym kept) (record {
        ascending = IsAscending-dropped source_cmp (source_at name) (states items) was.ascending;
        named = All-dropped (λ (s : SourceState). s.source.name ≢ []) (source_at name) (states items) was.named;
        jobs = All-dropped HasItsJobs (source_at name) (states items) was.jobs;
      }),
    )

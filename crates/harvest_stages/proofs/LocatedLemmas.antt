-- Sources that steps look for.
use Rattle.std.proofs.Common.{◌≡◌, ◌∙◌, ◌<◌, ℕ, zero, suc, Bool, true, false, cond, List, [], ◌∷◌, Option, Some, None}
use Rattle.std.proofs.Common.{◌+◌, ◌++◌, take, length, get_or, refl, sym, ap, inl, inr}
use Rattle.std.specs.Prelude.{option_to_list, find, option_and_then, option_map, position, slice_get, decimal}
use Rattle.std.specs.Option.{option_map_or}
use Rattle.std.specs.Ordering.{is_eq}
use Rattle.std.specs.Str.{bytes_eq}
use Rattle.std.proofs.lemmas.Bool.{and_parts}
use Rattle.std.proofs.lemmas.List.{length-map}
use Rattle.std.proofs.lemmas.Map.Text.{is_eq-slice_cmp}
use Rattle.std.proofs.lemmas.Option.{slice_get-get_or}
use Rattle.std.specs.List.{filter_map}
use Rattle.std.proofs.lemmas.Slice.Eq.{bytes_eq-Decides}
use Rattle.portal_base.specs.Ordered.{IsAscending}
use Rattle.portal_base.proofs.Removed.{is_eq_true, none_above}
use Rattle.portal_base.proofs.Unique.{IsIn}
use Rattle.portal_base.proofs.Upserted.{All-IsIn}
use Rattle.harvest_sources.specs.Jobs.{id_of_job, job_id, split_job_id}
use Rattle.harvest_sources.specs.Sources.{AreSources, HasItsJobs, IsKey-source_at, SourceState, SourceWithRoom, open_job}
use Rattle.harvest_sources.specs.Sources.{source_at, source_cmp, source_cmp_total, source_named, states, stored_at}
use Rattle.harvest_sources.specs.Steps.{with_open_job}
use Rattle.harvest_sources.specs.declared.job.Job.{Job}
use Rattle.harvest_sources.proofs.JobIds.{is_id-none, is_id-parts}
use Rattle.harvest_sources.proofs.PlaceLemmas.{filter_map_more, find-no_position, find-position, passes-position}
use Rattle.harvest_stages.proofs.ChangeLemmas.{found_named}
use Rattle.harvest_stages.proofs.SourceLemmas.{named_here}
use Rattle.harvest_stages.proofs.StepLemmas.{get_or_states, open_is_own}

-- ---- the first that passes a test

pub find-states : (test : SourceState → Bool) (items : List SourceWithRoom)
    → find test (states items) ≡ option_map (λ s. s.state) (find (λ s. test s.state) items)
find-states test [] = refl
find-states test (s ∷ items) = by (test s.state) (find-states test items)
  where
    by : (b : Bool) → find test (states items) ≡ option_map (λ s. s.state) (find (λ s. test s.state) items)
        → cond b (Some s.state) (find test (states items))
        ≡ option_map (λ t. t.state) (cond b (Some s) (find (λ t. test t.state) items))
    by true rest = refl
    by false rest = rest

-- the source at a place
pub state_at : (items : List SourceWithRoom) (place : ℕ) (s : SourceWithRoom) → slice_get items place ≡ Some s
    → slice_get (states items) place ≡ Some s.state
state_at [] place s is = absurd (cc)
state_at (t ∷ items) zero s is = let same : t ≡ s = cc in ap (λ (u : SourceWithRoom). Some u.state) same
state_at (t ∷ items) (suc place) s is = state_at items place s is

-- Where none passes, none is found.
pub none_passes : (test : SourceState → Bool) (items : List SourceWithRoom)
    → position (λ s. test s.state) items ≡ None → find test (states items) ≡ None
none_passes test items none =
    find-states test items
    ∙ ap (option_map (λ (s : SourceWithRoom). s.state)) (find-no_position (λ (s : SourceWithRoom). test s.state) items none)

-- What is read at a place.
pub read_at : (items : List SourceWithRoom) (place : ℕ) (s : SourceWithRoom) → place < length items
    → s ≡ get_or items place s → slice_get items place ≡ Some s
read_at items place s within read = slice_get-get_or items place s within ∙ ap Some (sym read)

-- The first that passes is the one at the position.
pub first_passes : (test : SourceState → Bool) (items : List SourceWithRoom) (place : ℕ) (s : SourceWithRoom)
    → position (λ s. test s.state) items ≡ Some place → place < length items → s ≡ get_or items place s
    → find test (states items) ≡ Some s.state
first_passes test items place s there within read =
    find-states test items
    ∙ ap (option_map (λ (t : SourceWithRoom). t.state))
    (find-position (λ (t : SourceWithRoom). test t.state) items place there ∙ read_at items place s within read)

pub passes_there : (test : SourceState → Bool) (items : List SourceWithRoom) (place : ℕ) (s : SourceWithRoom)
    → position (λ s. test s.state) items ≡ Some place → s ≡ get_or items place s → test s.state ≡ true
passes_there test items place s there read =
    ap (λ (t : SourceWithRoom). test t.state) read
    ∙ passes-position (λ (t : SourceWithRoom). test t.state) items place s there

-- ---- the open job of an id

-- the source's open job has the id
abbrev pub has_id : List ℕ → SourceState → Bool
has_id id s = option_map_or (λ job. bytes_eq (id_of_job job) id) (open_job s) false

find-none : {X : Type 0} (p : X → Bool) → ((x : X) → p x ≡ false) → (xs : List X) → find p xs ≡ None
find-none p fails [] = refl
find-none p fails (x ∷ xs) = ap (λ b. cond b (Some x) (find p xs)) (fails x) ∙ find-none p fails xs

-- Nothing has an id without a dot.
pub undotted_nowhere : (ss : List SourceState) (id : List ℕ) → split_job_id id ≡ None → with_open_job ss id ≡ None
undotted_nowhere ss id none = find-none (has_id id) (λ s. by (open_job s)) ss
  where
    by : (o : Option Job) → option_map_or (λ job. bytes_eq (id_of_job job) id) o false ≡ false
    by None = refl
    by (Some job) = is_id-none id job.source job.number none

-- the source, if it passes the test
abbrev kept : (SourceState → Bool) → SourceState → Option SourceState
kept test s = cond (test s) (Some s) None

-- If only a source of the name can pass, the first that passes is the one of the name.
find_by_name : (test : SourceState → Bool) (name : List ℕ) (ss : List SourceState) → IsAscending source_cmp ss
    → ((s : SourceState) → IsIn s ss → test s ≡ true → s.source.name ≡ name)
    → find test ss ≡ option_and_then (kept test) (source_named ss name)
find_by_name test name [] up only = refl
find_by_name test name (x ∷ xs) up only =
    by (bytes_eq x.source.name name) refl (test x) refl
    (find_by_name test name xs up.1 (λ s there passes. only s (inr there) passes))
  where
    by : (b : Bool) → bytes_eq x.source.name name ≡ b → (t : Bool) → test x ≡ t
        → find test xs ≡ option_and_then (kept test) (source_named xs name)
        → cond t (Some x) (find test xs) ≡ option_and_then (kept test) (cond b (Some x) (source_named xs name))
    by true here true is rest = sym (ap (λ t. cond t (Some x) None) is)
    by true here false is rest =
        let none : source_named xs name ≡ None =
        sym (found_named xs name)
        ∙ none_above source_cmp source_cmp_total (source_at name) (IsKey-source_at name) x xs
        (is_eq_true (source_at name x) (is_eq-slice_cmp x.source.name name ∙ here)) up.0 in
        rest ∙ ap (option_and_then (kept test)) none ∙ sym (ap (λ t. cond t (Some x) None) is)
    by false other true is rest =
        let yes : bytes_eq x.source.name name ≡ true =
        (bytes_eq-Decides x.source.name name).1 (only x (inl refl) is) in
        absurd (cc)
    by false other false is rest = rest

-- A source whose open job has the id has the name that the id begins with.
has_id-named : (id front back : List ℕ) (s : SourceState) → split_job_id id ≡ Some (front, back) → HasItsJobs s
    → has_id id s ≡ true → s.source.name ≡ front
has_id-named id front back s split holds is = by (open_job s) refl is
  where
    by : (o : Option Job) → open_job s ≡ o → option_map_or (λ job. bytes_eq (id_of_job job) id) o false ≡ true
        → s.source.name ≡ front
    by None is_open e = absurd (cc)
    by (Some job) is_open e =
        let parts = and_parts (bytes_eq job.source front) (bytes_eq (decimal job.number) back)
        (sym (is_id-parts id job.source front back job.number split) ∙ e) in
        sym (open_is_own s job holds is_open) ∙ (bytes_eq-Decides job.source front).0 parts.0

-- The source whose open job has the id is the one that the id names, if its open job has it.
pub with_id : (ss : List SourceState) (id front back : List ℕ) → AreSources ss → split_job_id id ≡ Some (front, back)
    → with_open_job ss id ≡ option_and_then (kept (has_id id)) (source_named ss front)
with_id ss id front back was split =
    find_by_name (has_id id) front ss was.ascending
    (λ s there is. has_id-named id front back s split (All-IsIn HasItsJobs ss was.jobs s there) is)

-- If no source has the name, none has the job.
pub named_nowhere : (ss : List SourceState) (id front back : List ℕ) → AreSources ss
    → split_job_id id ≡ Some (front, back) → source_named ss front ≡ None → with_open_job ss id ≡ None
named_nowhere ss id front back was split none =
    with_id ss id front back was split ∙ ap (option_and_then (kept (has_id id))) none

-- If the source of the name has no open job, none has the job.
pub ended_nowhere : (ss : List SourceState) (id front back : List ℕ) (s : SourceState) → AreSources ss
    → split_job_id id ≡ Some (front, back) → source_named ss front ≡ Some s → open_job s ≡ None
    → with_open_job ss id ≡ None
ended_nowhere ss id front back s was split named none =
    with_id ss id front back was split ∙ ap (option_and_then (kept (has_id id))) named
    ∙ ap (λ (o : Option Job). cond (option_map_or (λ job. bytes_eq (id_of_job job) id) o false) (Some s) None) none

-- Otherwise it is the source of the name, if its open job has the id.
pub named_with : (ss : List SourceState) (id front back : List ℕ) (s : SourceState) (job : Job) → AreSources ss
    → split_job_id id ≡ Some (front, back) → source_named ss front ≡ Some s → open_job s ≡ Some job
    → with_open_job ss id ≡ cond (bytes_eq (id_of_job job) id) (Some s) None
named_with ss id front back s job was split named is =
    with_id ss id front back was split ∙ ap (option_and_then (kept (has_id id))) named
    ∙ ap (λ (o : Option Job). cond (option_map_or (λ j. bytes_eq (id_of_job j) id) o false) (Some s) None) is

module _ (items : List SourceWithRoom) (id front back : List ℕ) (place : ℕ) (s : SourceWithRoom)
    (was : AreSources (states items)) (split : split_job_id id ≡ Some (front, back))
    (there : position (λ t. is_eq (stored_at front t)) items ≡ Some place) (within : place < length items)
    (read : s ≡ get_or items place s) where
  pub none_at : open_job s.state ≡ None → with_open_job (states items) id ≡ None
  none_at =
      ended_nowhere (states items) id front back s.state was split
      (named_here items front place was.ascending there within s (sym read))

  pub found_at : (job : Job) (source : List ℕ) (b : Bool) → open_job s.state ≡ Some job → source ≡ job.source
      → b ≡ bytes_eq (job_id source job.number) id → with_open_job (states items) id ≡ cond b (Some s.state) None
  found_at job source b is named test =
      named_with (states items) id front back s.state job was split
      (named_here items front place was.ascending there within s (sym read)) is
      ∙ ap (λ (n : List ℕ). cond (bytes_eq (job_id n job.number) id) (Some s.state) None) (sym named)
      ∙ ap (λ t. cond t (Some s.state) None) (sym test)

-- ---- the ids of the open jobs

-- the id of the source's open job
abbrev pub open_id : SourceState → Option (List ℕ)
open_id s = option_map id_of_job (open_job s)

-- The ids of one more source.
pub ids_more : (items : List SourceWithRoom) (i : ℕ) (s : SourceWithRoom) → i < length items → s ≡ get_or items i s
    → filter_map open_id (take (i + 1) (states items))
    ≡ filter_map open_id (take i (states items)) ++ option_to_list (open_id s.state)
ids_more items i s within read =
    filter_map_more open_id (states items) i s.state (rw (length-map items (λ (t : SourceWithRoom). t.state)) within)
    ∙ ap (λ (t : SourceState). filter_map open_id (take i (states items)) ++ option_to_list (open_id t))
    (get_or_states items i s ∙ ap (λ (t : SourceWithRoom). t.state) (sym read))

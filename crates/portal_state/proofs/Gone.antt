-- The datasets that go with a source, or where a job ends: their names are their ids, and what is left without them.
use Rattle.std.proofs.Common.{◌≡◌, ◌≢◌, ℕ, true, false, not, List, [], ◌∷◌, Option, Some, None, refl, sym}
use Rattle.std.proofs.Common.{map, ap, ◌∙◌, cond, inl, inr, subst}
use Rattle.std.specs.Prelude.{filter, is_none}
use Rattle.std.specs.declared.cmp.Ordering.TheVariants.{Less}
use Rattle.std.specs.Ordering.{nat_cmp}
use Rattle.std.specs.Cmp.Lexicographic.{nat_list_cmp_total, slice_cmp}
use Rattle.std.specs.Str.{bytes_eq}
use Rattle.std.proofs.lemmas.Bool.{and_parts}
use Rattle.std.proofs.lemmas.Slice.Eq.{bytes_eq-Decides}
use Rattle.portal_base.specs.Ordered.{IsAscending, IsBelowAll, dropped, inserted}
use Rattle.portal_base.proofs.Removed.{inserted_front}
use Rattle.portal_base.proofs.Filtered.{IsAscending-filter, IsIn-filter}
use Rattle.portal_base.proofs.Unique.{IsIn, below_in, not_below_itself}
use Rattle.packages.specs.Order.{dataset_cmp}
use Rattle.packages.specs.Shelf.{datasets_of}
use Rattle.packages.specs.Tags.{text_added, text_set}
use Rattle.packages.specs.declared.package.Package.{Package}
use Rattle.packages.proofs.FindLemmas.{IsIn-find, fails, none-list_any}
use Rattle.dataset_answers.specs.Changed.{dataset_at_id}
use Rattle.harvest_results.specs.Effects.{gone_of, is_of_source, is_unlisted, without}
use Rattle.harvest_results.proofs.SourceEntryLemmas.{IsIn-named}
use Rattle.harvest_sources.specs.Entries.{fault_if_open}
use Rattle.harvest_sources.specs.Listings.{has_object}
use Rattle.harvest_sources.specs.Sources.{SourceState, open_job, source_named}
use Rattle.std.specs.Option.{option_map_or}
use Rattle.harvest_sources.specs.Jobs.{id_of_job}
use Rattle.harvest_sources.specs.Steps.{with_open_job}
use Rattle.harvest_sources.specs.declared.change.SourceChange.{SourceChange}
use Rattle.harvest_sources.specs.declared.change.SourceChange.TheVariants.{Create, Update, Remove, AddJob}
use Rattle.harvest_sources.specs.declared.job.Job.{Job}
use Rattle.harvest_sources.specs.declared.listing.Listing.{Listing}
use Rattle.portal_calls.specs.declared.call.Call.{Call}
use Rattle.portal_state.specs.Changed.{AreUnused, datasets_left}
use Rattle.portal_state.specs.Fit.{IsFit}
use Rattle.portal_state.specs.Parts.{AreGoneByName, GoesByName, IsConsistent, IsTakenBySources, ids_gone, state_of}
use Rattle.portal_state.specs.Planned.{PlannedChange, People, Datasets, Tables, Sources, claims_of}
use Rattle.portal_state.specs.State.{State}
use Rattle.portal_state.specs.Stepped.{without_ids}
use Rattle.portal_state.specs.Valid.{IsValid}
use Rattle.portal_state.specs.declared.parts.Parts.{Parts}
use Rattle.portal_state.proofs.DatasetEntries.{at_dataset, datasets-dropped, dropped-without}
use Rattle.portal_state.proofs.DropLemmas.{all_dropped}
use Rattle.portal_state.proofs.Harvested.{of-source_harvested, sound-harvested, sound-in, source-named}
use Rattle.portal_state.proofs.Keeping.{source-taken}

-- ---- names that are ids

below-ids : (d : Package) (ds : List Package) → IsBelowAll dataset_cmp d ds
    → IsBelowAll (slice_cmp nat_cmp) d.id (map (λ (e : Package). e.id) ds)
below-ids d [] below = tt
below-ids d (e ∷ es) below = (below.0, below-ids d es below.1)

ids-up : (ds : List Package) → IsAscending dataset_cmp ds
    → IsAscending (slice_cmp nat_cmp) (map (λ (e : Package). e.id) ds)
ids-up [] up = tt
ids-up (d ∷ ds) up = (below-ids d ds up.0, ids-up ds up.1)

-- Texts that ascend are a set.
set-same : (texts : List (List ℕ)) → IsAscending (slice_cmp nat_cmp) texts → text_set texts ≡ texts
set-same [] up = refl
set-same (text ∷ texts) up =
    ap (text_added text) (set-same texts up.1)
    ∙ ap (λ b. cond b texts (inserted (slice_cmp nat_cmp) text texts))
    (none-list_any (λ (t : List ℕ). bytes_eq t text) texts
    (λ t m. fails (bytes_eq t text) (λ like.
    not_below_itself (slice_cmp nat_cmp) nat_list_cmp_total text
    (subst (λ (u : List ℕ). slice_cmp nat_cmp text u ≡ Less) ((bytes_eq-Decides t text).0 like)
    (below_in (slice_cmp nat_cmp) text t texts up.0 m)))))
    ∙ inserted_front (slice_cmp nat_cmp) nat_list_cmp_total text texts up.0

names-same : (ds : List Package) → ((d : Package) → IsIn d ds → d.name ≡ d.id)
    → map (λ (d : Package). d.name) ds ≡ map (λ (d : Package). d.id) ds
names-same [] same = refl
names-same (d ∷ ds) same =
    ap (λ (name : List ℕ). name ∷ map (λ (e : Package). e.name) ds) (same d (inl refl))
    ∙ ap (λ (ids : List (List ℕ)). d.id ∷ ids) (names-same ds (λ e m. same e (inr m)))

-- The set of the names of datasets whose names are their ids is the list of their ids.
pub names-ids : (ds : List Package) → IsAscending dataset_cmp ds → ((d : Package) → IsIn d ds → d.name ≡ d.id)
    → text_set (map (λ (d : Package). d.name) ds) ≡ map (λ (d : Package). d.id) ds
names-ids ds up same = ap text_set (names-same ds same) ∙ set-same (map (λ (d : Package). d.id) ds) (ids-up ds up)

-- In a valid state a dataset of a source has its id as its name.
pub name-id : (state : State) (name : List ℕ) (d : Package) → IsValid state → name ≢ [] → IsIn d state.datasets
    → is_of_source name d ≡ true → d.name ≡ d.id
name-id state name d valid named m own =
    let harvested = of-source_harvested d name named ((bytes_eq-Decides d.source name).0 own) in
    sym (sound-harvested state.people state.sources d valid.sources (sound-in state d valid m) harvested).own.id_is_name

pub gone-ids : (name : List ℕ) (state : State) → IsValid state → name ≢ []
    → text_set (map (λ (d : Package). d.name) (filter (is_of_source name) state.datasets))
    ≡ map (λ (d : Package). d.id) (filter (is_of_source name) state.datasets)
gone-ids name state valid named =
    names-ids (filter (is_of_source name) state.datasets)
    (IsAscending-filter dataset_cmp (is_of_source name) state.datasets valid.datasets)
    (λ d m. let there = IsIn-filter (is_of_source name) d state.datasets m in
    name-id state name d valid named there.0 there.1)

-- ---- datasets that go with a source

-- a source that is removed is there, so that its name isn't empty
removed-named : (name : List ℕ) (state : State) → IsValid state
    → is_none (fault_if_open (source_named state.sources name)) ≡ true → name ≢ []
removed-named name state valid allowed = by (source_named state.sources name) refl allowed
  where
    by : (found : Option SourceState) → source_named state.sources name ≡ found → is_none (fault_if_open found) ≡ true
        → name ≢ []
    by None is a = absurd (cc)
    by (Some s) is a = λ none.
        let there = IsIn-named state.sources name s is in
        source-named state.sources s valid.sources there.0 (there.1 ∙ none)

pub gone-named : (change : SourceChange) (state : State) → IsValid state → IsTakenBySources change state.sources
    → AreGoneByName change state.datasets
gone-named (Create new) state valid taken = refl
gone-named (Update name title url) state valid taken = refl
gone-named (Remove name) state valid taken = gone-ids name state valid (removed-named name state valid taken.allowed)
gone-named (AddJob name created) state valid taken = refl

-- The names of the datasets that go with a change that is fit are their ids.
pub goes_by_name : (change : PlannedChange) (parts : Parts) (call : Call) → IsConsistent parts
    → IsFit call (state_of parts) change → AreUnused (state_of parts) (claims_of change)
    → GoesByName change (datasets_of parts.shelf)
goes_by_name (People change) parts call consistent fit unused = tt
goes_by_name (Datasets change) parts call consistent fit unused = tt
goes_by_name (Tables change) parts call consistent fit unused = tt
goes_by_name (Sources change) parts call consistent fit unused =
    gone-named change (state_of parts) consistent.valid (source-taken change call (state_of parts) fit unused)

-- ---- datasets that go where a job ends

of_source-unlisted : (name : List ℕ) (listing : Listing) (d : Package) → is_unlisted name listing d ≡ true
    → is_of_source name d ≡ true
of_source-unlisted name listing d unlisted =
    (and_parts (is_of_source name d) (not (has_object d.iri listing)) unlisted).0

pub ended-ids : (job : List ℕ) (state : State) → IsValid state
    → text_set (map (λ (d : Package). d.name) (gone_of (with_open_job state.sources job) state.datasets))
    ≡ map (λ (d : Package). d.id) (gone_of (with_open_job state.sources job) state.datasets)
ended-ids job state valid = by (with_open_job state.sources job) refl
  where
    listed : (s : SourceState) → IsIn s state.sources → (listing : Option Listing) → s.listing ≡ listing
        → text_set (map (λ (d : Package). d.name) (gone_of (Some s) state.datasets))
        ≡ map (λ (d : Package). d.id) (gone_of (Some s) state.datasets)
    listed s m None is = rw is refl
    listed s m (Some listing) is =
        let unlisted = is_unlisted s.source.name listing in
        rw is (names-ids (filter unlisted state.datasets)
        (IsAscending-filter dataset_cmp unlisted state.datasets valid.datasets)
        (λ d n. let there = IsIn-filter unlisted d state.datasets n in
        name-id state s.source.name d valid (source-named state.sources s valid.sources m) there.0
        (of_source-unlisted s.source.name listing d there.1)))

    by : (found : Option SourceState) → with_open_job state.sources job ≡ found
        → text_set (map (λ (d : Package). d.name) (gone_of found state.datasets))
        ≡ map (λ (d : Package). d.id) (gone_of found state.datasets)
    by None is = refl
    by (Some s) is =
        listed s
        (IsIn-find (λ (t : SourceState). option_map_or (λ (j : Job). bytes_eq (id_of_job j) job) (open_job t) false) s
        state.sources is).0
        s.listing refl

-- ---- what is left

ids-dropped : (gone ds : List Package)
    → without_ids (map (λ (d : Package). d.id) gone) ds ≡ all_dropped at_dataset gone ds
ids-dropped [] ds = refl
ids-dropped (g ∷ gs) ds = ids-dropped gs (dropped (dataset_at_id g.id) ds)

-- Datasets without those with some ids, one after the other, are those with none of the ids.
pub ids-without : (gone ds : List Package) → without_ids (map (λ (d : Package). d.id) gone) ds ≡ without gone ds
ids-without gone ds = ids-dropped gone ds ∙ dropped-without gone ds

-- The datasets that go with a change of sources leave those that it leaves.
pub gone-left : (change : SourceChange) (ds : List Package) → IsAscending dataset_cmp ds
    → without_ids (ids_gone change ds) ds ≡ datasets_left change ds
gone-left (Create new) ds up = refl
gone-left (Update name title url) ds up = refl
gone-left (Remove name) ds up =
    ids-dropped (filter (is_of_source name) ds) ds ∙ datasets-dropped name ds up
gone-left (AddJob name created) ds up = refl

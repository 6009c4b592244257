-- What a caller sees of sources is changed by a change of the caller's own as the sources are.
use Rattle.std.proofs.Common.{◌≡◌, ℕ, Bool, true, false, cond, not, List, [], ◌∷◌, ◌++◌, Option, Some, None, map, refl, sym}
use Rattle.std.proofs.Common.{ap, ◌∙◌, ◌+◌, if◌then◌else◌, subst}
use Rattle.std.specs.Prelude.{filter}
use Rattle.std.specs.Option.{option_and_then}
use Rattle.std.specs.Ordering.{is_eq}
use Rattle.std.specs.Str.{bytes_eq}
use Rattle.std.proofs.lemmas.Map.Text.{is_eq-slice_cmp}
use Rattle.std.proofs.lemmas.Slice.Eq.{bytes_eq-Decides}
use Rattle.portal_base.specs.Ordered.{IsAscending, dropped, found, inserted, upserted}
use Rattle.portal_base.specs.declared.caller.Caller.{Caller}
use Rattle.portal_base.specs.declared.caller.Caller.TheVariants.{Anonymous}
use Rattle.portal_base.proofs.Filtered.{find-same}
use Rattle.portal_base.proofs.Upserted.{filter-dropped, filter-upserted}
use Rattle.org_roles.specs.PeopleLists.{PeopleLists}
use Rattle.packages.proofs.FindLemmas.{IsIn-find}
use Rattle.visibility.specs.CallView.{CallView}
use Rattle.visibility.specs.View.{administers}
use Rattle.harvest_answers.proofs.ViewLemmas.{source_seen}
use Rattle.harvest_answers.specs.Fit.{IsFitSource}
use Rattle.harvest_answers.specs.View.{seen_part, sees_source, sources_seen, without_listing}
use Rattle.harvest_sources.specs.Entries.{DropJob, DropSource, PutSource, added_job, changed_by, changed_sources}
use Rattle.harvest_sources.specs.Entries.{entries_of_change, fault_if_open, job_drops, sources_after, updated_source}
use Rattle.harvest_sources.specs.Entries.{with_job, with_jobs_of, with_source_at, without_job}
use Rattle.harvest_sources.specs.Jobs.{new_job}
use Rattle.harvest_sources.specs.Sources.{SourceState, source_at, source_cmp, source_cmp_total, source_named}
use Rattle.harvest_sources.specs.declared.change.SourceChange.{SourceChange}
use Rattle.harvest_sources.specs.declared.change.SourceChange.TheVariants.{Create, Update, Remove, AddJob}
use Rattle.harvest_sources.specs.declared.job.Job.{Job}
use Rattle.harvest_sources.specs.declared.source.HarvestSource.{HarvestSource}
use Rattle.harvest_stages.proofs.MapLemmas.{inserted-map}

-- the sources that pass, as a caller sees them
abbrev unlisted : (SourceState → Bool) → List SourceState → List SourceState
unlisted p sources = map without_listing (filter p sources)

-- ---- what is seen of what is seen

-- Of what is seen by a test as much is seen by a narrower one as of all.
pub seen-narrower : (p q : SourceState → Bool) → ((s : SourceState) → p (without_listing s) ≡ p s)
    → ((s : SourceState) → p s ≡ true → q s ≡ true) → (sources : List SourceState)
    → map without_listing (filter p (map without_listing (filter q sources))) ≡ map without_listing (filter p sources)
seen-narrower p q same narrower [] = refl
seen-narrower p q same narrower (s ∷ ss) = by (p s) refl (q s) refl (seen-narrower p q same narrower ss)
  where
    seen : List SourceState
    seen = filter p (map without_listing (filter q ss))

    by : (a : Bool) → p s ≡ a → (b : Bool) → q s ≡ b
        → map without_listing seen ≡ map without_listing (filter p ss)
        → map without_listing (filter p (map without_listing (cond b (s ∷ filter q ss) (filter q ss))))
        ≡ map without_listing (cond a (s ∷ filter p ss) (filter p ss))
    by true is true keeps rest =
        ap (λ c. map without_listing (cond c (without_listing s ∷ seen) seen)) (same s ∙ is)
        ∙ ap (λ l. without_listing s ∷ l) rest
    by false is true keeps rest =
        ap (λ c. map without_listing (cond c (without_listing s ∷ seen) seen)) (same s ∙ is) ∙ rest
    by true is false hides rest = let keeps : q s ≡ true = narrower s is in absurd (cc)
    by false is false hides rest = rest

-- Nobody sees a source.
pub no-sources : (people : PeopleLists) (sources : List SourceState) → sources_seen Anonymous people sources ≡ []
no-sources people [] = refl
no-sources people (s ∷ ss) = no-sources people ss

-- ---- the source of a name

pub found-named : (sources : List SourceState) (name : List ℕ)
    → found (source_at name) sources ≡ source_named sources name
found-named sources name = find-same _ _ (λ s. is_eq-slice_cmp s.source.name name) sources

-- There is a source of that name, and the caller sees it.
pub record IsSeenThere (caller : Caller) (people : PeopleLists) (sources : List SourceState) (name : List ℕ)
    : Type 0 where
  pub source : SourceState
  pub sees : sees_source people caller source ≡ true
  pub there : source_named sources name ≡ Some source
  pub seen : source_named (sources_seen caller people sources) name ≡ Some (without_listing source)

-- A source that has no fault among those that are seen is one of them.
pub unfaulted-there : (caller : Caller) (people : PeopleLists) (sources : List SourceState) (name : List ℕ)
    → IsAscending source_cmp sources
    → fault_if_open (source_named (sources_seen caller people sources) name) ≡ None
    → IsSeenThere caller people sources name
unfaulted-there caller people sources name up none = by (source_named sources name) refl
  where
    part : source_named (sources_seen caller people sources) name
        ≡ option_and_then (seen_part people caller) (source_named sources name)
    part =
        source_seen caller people sources name up
        ∙ ap (option_and_then (seen_part people caller)) (found-named sources name)

    unseen : source_named (sources_seen caller people sources) name ≡ None → ⊥
    unseen gone = let never : fault_if_open None ≡ None = sym (ap fault_if_open gone) ∙ none in cc

    by_sight : (s : SourceState) → source_named sources name ≡ Some s → (b : Bool) → sees_source people caller s ≡ b
        → IsSeenThere caller people sources name
    by_sight s is true sees = record {
      source = s;
      sees = sees;
      there = is;
      seen = part ∙ ap (option_and_then (seen_part people caller)) is
          ∙ ap (λ b. if b then Some (without_listing s) else None) sees;
    }
    by_sight s is false hides =
        absurd (unseen (part ∙ ap (option_and_then (seen_part people caller)) is
        ∙ ap (λ b. if b then Some (without_listing s) else None) hides))

    by : (o : Option SourceState) → source_named sources name ≡ o → IsSeenThere caller people sources name
    by None is = absurd (unseen (part ∙ ap (option_and_then (seen_part people caller)) is))
    by (Some s) is = by_sight s is (sees_source people caller s) refl

-- ---- the entries of a change

-- A change that is fit on what its caller sees has the same entries there as in all sources.
pub entries-seen : (view : CallView) (caller : Caller) (people : PeopleLists) (sources : List SourceState)
    (change : SourceChange) → IsAscending source_cmp sources
    → IsFitSource view (sources_seen caller people sources) change
    → entries_of_change change (sources_seen caller people sources) ≡ entries_of_change change sources
entries-seen view caller people sources (Create new) up fit = refl
entries-seen view caller people sources (Update name title url) up fit =
    let is = unfaulted-there caller people sources name up fit.possible in
    ap (updated_source title url) is.seen ∙ sym (ap (updated_source title url) is.there)
entries-seen view caller people sources (Remove name) up fit =
    let is = unfaulted-there caller people sources name up fit.possible in
    ap (λ o. job_drops name o ++ DropSource name ∷ []) is.seen
    ∙ sym (ap (λ o. job_drops name o ++ DropSource name ∷ []) is.there)
entries-seen view caller people sources (AddJob name created) up fit =
    let is = unfaulted-there caller people sources name up fit.possible in
    ap (added_job created) is.seen ∙ sym (ap (added_job created) is.there)

-- ---- what is seen after an entry

map-dropped : (name : List ℕ) (sources : List SourceState)
    → map without_listing (dropped (source_at name) sources) ≡ dropped (source_at name) (map without_listing sources)
map-dropped name [] = refl
map-dropped name (s ∷ ss) = by (is_eq (source_at name s)) (map-dropped name ss)
  where
    by : (b : Bool) → map without_listing (dropped (source_at name) ss) ≡ dropped (source_at name) (map without_listing ss)
        → map without_listing (cond (not b) (s ∷ dropped (source_at name) ss) (dropped (source_at name) ss))
        ≡ cond (not b) (without_listing s ∷ dropped (source_at name) (map without_listing ss))
        (dropped (source_at name) (map without_listing ss))
    by true rest = rest
    by false rest = ap (λ l. without_listing s ∷ l) rest

drop_seen : (caller : Caller) (people : PeopleLists) (name : List ℕ) (sources : List SourceState)
    → sources_seen caller people (dropped (source_at name) sources)
    ≡ dropped (source_at name) (sources_seen caller people sources)
drop_seen caller people name sources =
    ap (map without_listing) (filter-dropped (sees_source people caller) (source_at name) sources)
    ∙ map-dropped name (filter (sees_source people caller) sources)

-- A source that is put is put into what is seen, where the caller sees it.
put_seen : (caller : Caller) (people : PeopleLists) (s : SourceState) (sources : List SourceState)
    → IsAscending source_cmp sources → sees_source people caller s ≡ true
    → sources_seen caller people (upserted source_cmp s sources)
    ≡ upserted source_cmp (without_listing s) (sources_seen caller people sources)
put_seen caller people s sources up sees =
    ap (map without_listing)
    (filter-upserted source_cmp source_cmp_total (sees_source people caller) s sources up
    ∙ ap (λ b. cond b (upserted source_cmp s seen) (dropped (λ t. source_cmp t s) seen)) sees)
    ∙ sym (inserted-map without_listing source_cmp source_cmp (λ t u. refl) s (dropped (λ t. source_cmp t s) seen))
    ∙ ap (inserted source_cmp (without_listing s)) (map-dropped s.source.name seen)
  where
    seen : List SourceState
    seen = filter (sees_source people caller) sources

-- The caller sees the source, if there is one.
abbrev IsSeenIfThere : PeopleLists → Caller → Option SourceState → Type 0
IsSeenIfThere people caller None = Unit {0}
IsSeenIfThere people caller (Some s) = sees_source people caller s ≡ true

put_source_seen : (caller : Caller) (people : PeopleLists) (source : HarvestSource) (sources : List SourceState)
    → IsAscending source_cmp sources → administers people caller source.owner_org ≡ true
    → IsSeenIfThere people caller (found (source_at source.name) sources)
    → sources_seen caller people (changed_by (PutSource source) sources)
    ≡ changed_by (PutSource source) (sources_seen caller people sources)
put_source_seen caller people source sources up own seen =
    put_seen caller people (with_jobs_of source old) sources up (owner old)
    ∙ ap (λ s. upserted source_cmp s (sources_seen caller people sources))
    (made old seen ∙ ap (with_jobs_of source) (sym part))
  where
    old : Option SourceState
    old = found (source_at source.name) sources

    part : found (source_at source.name) (sources_seen caller people sources)
        ≡ option_and_then (seen_part people caller) old
    part =
        found-named (sources_seen caller people sources) source.name
        ∙ source_seen caller people sources source.name up

    owner : (o : Option SourceState) → sees_source people caller (with_jobs_of source o) ≡ true
    owner None = own
    owner (Some s) = own

    made : (o : Option SourceState) → IsSeenIfThere people caller o
        → without_listing (with_jobs_of source o)
        ≡ with_jobs_of source (option_and_then (seen_part people caller) o)
    made None is = refl
    made (Some s) sees = sym (ap (λ b. with_jobs_of source (if b then Some (without_listing s) else None)) sees)

-- A change of the source of a name that leaves what its view depends on is made before or after it is seen.
change_seen : (caller : Caller) (people : PeopleLists) (name : List ℕ) (f : SourceState → SourceState)
    → ((s : SourceState) → (f s).source ≡ s.source)
    → ((s : SourceState) → without_listing (f s) ≡ f (without_listing s)) → (sources : List SourceState)
    → sources_seen caller people (with_source_at name f sources)
    ≡ with_source_at name f (sources_seen caller people sources)
change_seen caller people name f keeps alike [] = refl
change_seen caller people name f keeps alike (s ∷ ss) =
    by (bytes_eq s.source.name name) refl (sees_source people caller s) refl
    (change_seen caller people name f keeps alike ss)
  where
    now : List SourceState
    now = filter (sees_source people caller) (with_source_at name f ss)

    seen : List SourceState
    seen = sources_seen caller people ss

    by : (b : Bool) → bytes_eq s.source.name name ≡ b → (k : Bool) → sees_source people caller s ≡ k
        → map without_listing now ≡ with_source_at name f seen
        → map without_listing (cond (sees_source people caller (if b then f s else s)) ((if b then f s else s) ∷ now) now)
        ≡ with_source_at name f (map without_listing (cond k (s ∷ filter (sees_source people caller) ss)
        (filter (sees_source people caller) ss)))
    by true is true sees rest =
        ap (λ k. map without_listing (cond k (f s ∷ now) now))
        (ap (λ (source : HarvestSource). administers people caller source.owner_org) (keeps s) ∙ sees)
        ∙ ap (λ l. without_listing (f s) ∷ l) rest
        ∙ ap (λ t. t ∷ with_source_at name f seen) (alike s)
        ∙ ap (λ b. (if b then f (without_listing s) else without_listing s) ∷ with_source_at name f seen) (sym is)
    by false is true sees rest =
        ap (λ k. map without_listing (cond k (s ∷ now) now)) sees
        ∙ ap (λ l. without_listing s ∷ l) rest
        ∙ ap (λ b. (if b then f (without_listing s) else without_listing s) ∷ with_source_at name f seen) (sym is)
    by true is false hides rest =
        ap (λ k. map without_listing (cond k (f s ∷ now) now))
        (ap (λ (source : HarvestSource). administers people caller source.owner_org) (keeps s) ∙ hides)
        ∙ rest
    by false is false hides rest = ap (λ k. map without_listing (cond k (s ∷ now) now)) hides ∙ rest

-- ---- what is seen after a change

-- There is no source of a new one's name, and the caller administers its organization. The caller sees a source that it
-- changes.
abbrev pub IsOwnSources : Caller → PeopleLists → List SourceState → SourceChange → Type 0
IsOwnSources caller people sources (Create new) =
    (administers people caller new.owner_org ≡ true) × (source_named sources new.name ≡ None)
IsOwnSources caller people sources (Update name title url) = IsSeenThere caller people sources name
IsOwnSources caller people sources (Remove name) = IsSeenThere caller people sources name
IsOwnSources caller people sources (AddJob name created) = IsSeenThere caller people sources name

-- The source that is there is the one that has the name of what is there.
seen-itself : (caller : Caller) (people : PeopleLists) (sources : List SourceState) (name : List ℕ)
    (is : IsSeenThere caller people sources name)
    → IsSeenIfThere people caller (found (source_at is.source.source.name) sources)
seen-itself caller people sources name is =
    subst (IsSeenIfThere people caller)
    (sym (found-named sources is.source.source.name ∙ ap (source_named sources) named ∙ is.there)) is.sees
  where
    named : is.source.source.name ≡ name
    named =
        (bytes_eq-Decides is.source.source.name name).0
        (IsIn-find (λ s. bytes_eq s.source.name name) is.source sources is.there).1

drops_seen : (caller : Caller) (people : PeopleLists) (name : List ℕ) (jobs : List Job) (sources : List SourceState)
    → sources_seen caller people
    (sources_after (map (λ job. DropJob name job.number) jobs ++ DropSource name ∷ []) sources)
    ≡ sources_after (map (λ job. DropJob name job.number) jobs ++ DropSource name ∷ []) (sources_seen caller people sources)
drops_seen caller people name [] sources = drop_seen caller people name sources
drops_seen caller people name (job ∷ jobs) sources =
    drops_seen caller people name jobs (with_source_at name (without_job job.number) sources)
    ∙ ap (sources_after (map (λ job. DropJob name job.number) jobs ++ DropSource name ∷ []))
    (change_seen caller people name (without_job job.number) (λ s. refl) (λ s. refl) sources)

pub changed_sources-seen : (caller : Caller) (people : PeopleLists) (sources : List SourceState) (change : SourceChange)
    → IsAscending source_cmp sources → IsOwnSources caller people sources change
    → sources_seen caller people (changed_sources change sources)
    ≡ changed_sources change (sources_seen caller people sources)
changed_sources-seen caller people sources (Create new) up own =
    put_source_seen caller people new sources up own.0
    (subst (IsSeenIfThere people caller) (sym (found-named sources new.name ∙ own.1)) tt)
changed_sources-seen caller people sources (Update name title url) up is =
    ap (λ o. sources_seen caller people (sources_after (updated_source title url o) sources)) is.there
    ∙ put_source_seen caller people (record is.source.source { title = title; url = url }) sources up is.sees
    (seen-itself caller people sources name is)
    ∙ sym (ap (λ o. sources_after (updated_source title url o) (sources_seen caller people sources)) is.seen)
changed_sources-seen caller people sources (Remove name) up is =
    ap (λ o. sources_seen caller people (sources_after (job_drops name o ++ DropSource name ∷ []) sources)) is.there
    ∙ drops_seen caller people name is.source.jobs sources
    ∙ sym (ap (λ o. sources_after (job_drops name o ++ DropSource name ∷ []) (sources_seen caller people sources)) is.seen)
changed_sources-seen caller people sources (AddJob name created) up is =
    ap (λ o. sources_seen caller people (sources_after (added_job created o) sources)) is.there
    ∙ change_seen caller people is.source.source.name (with_job job) (λ s. refl) (λ s. refl)
    (changed_by (PutSource source) sources)
    ∙ ap (with_source_at is.source.source.name (with_job job))
    (put_source_seen caller people source sources up is.sees (seen-itself caller people sources name is))
    ∙ sym (ap (λ o. sources_after (added_job created o) (sources_seen caller people sources)) is.seen)
  where
    source : HarvestSource
    source = record is.source.source { next_job = is.source.source.next_job + 1 }

    job : Job
    job = new_job is.source.source.name is.source.source.next_job created

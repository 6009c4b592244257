-- Harvested datasets: no made dataset has the name or the id of one, and each stays as it is while its source does.
use Rattle.std.proofs.Common.{◌≡◌, ◌≢◌, ◌+◌, ◌≤◌, ◌<◌, ◌==◌, ◌&&◌, ◌||◌, ℕ, Bool, true, false, cond, not, List, [], ◌∷◌}
use Rattle.std.proofs.Common.{length, refl, sym, ap, ◌∙◌, subst, inl, inr, arith, true≢false}
use Rattle.std.specs.Prelude.{if◌then◌else◌, is_none, Some, None, take}
use Rattle.std.specs.List.{All, AllPairs}
use Rattle.std.specs.Ordering.{nat_cmp}
use Rattle.std.specs.Cmp.Lexicographic.{nat_list_cmp_total, slice_cmp}
use Rattle.std.proofs.lemmas.List.Elements.{All-cons, All-nil, All-weaker}
use Rattle.std.proofs.lemmas.List.Kept.{AllPairs-cons}
use Rattle.std.proofs.lemmas.Map.Text.{is_eq-slice_cmp}
use Rattle.portal_base.specs.Id.{id_text}
use Rattle.portal_base.specs.Kinds.{is_among}
use Rattle.portal_base.specs.Name.{has_name_characters, has_name_length, is_id_shaped, is_name, is_portal_address}
use Rattle.portal_base.specs.Name.{is_reserved}
use Rattle.portal_base.specs.Ordered.{IsAscending, inserted}
use Rattle.portal_base.specs.declared.name.NameFault.TheVariants.{Length, Character, Reserved}
use Rattle.portal_base.proofs.IdForms.{is_id_shaped-id_text}
use Rattle.portal_base.proofs.Inserted.{IsAscending-inserted, list_any-same}
use Rattle.portal_base.proofs.Unique.{Contains-IsIn, IsIn, IsIn-Contains}
use Rattle.portal_base.proofs.Upserted.{All-IsIn}
use Rattle.org_roles.specs.PeopleLists.{PeopleLists}
use Rattle.packages.proofs.FindLemmas.{IsIn-map, map-IsIn}
use Rattle.packages.specs.Numbered.{AreNumbered}
use Rattle.packages.specs.Tags.{text_added, text_set}
use Rattle.packages.specs.Texts.{longest_name}
use Rattle.packages.specs.declared.package.Package.{Package}
use Rattle.packages.specs.declared.package.Resource.{Resource}
use Rattle.dataset_answers.specs.Sound.{IsSound, OrgExists}
use Rattle.visibility.specs.Visibility.{is_harvested, is_public, is_source, may_edit_in}
use Rattle.portal_base.specs.declared.caller.Caller.{Caller}
use Rattle.harvest_records.specs.Names.{harvested_name}
use Rattle.harvest_records.specs.declared.record.Distribution.{Distribution}
use Rattle.harvest_records.specs.declared.record.HarvestRecord.{HarvestRecord}
use Rattle.harvest_results.proofs.ResultLemmas.{IsOwn-harvested}
use Rattle.harvest_results.specs.Harvested.{harvested_dataset, harvested_resource, max_resources, numbered_from}
use Rattle.harvest_results.specs.Results.{IsOwn}
use Rattle.harvest_sources.specs.Sources.{AreSources, SourceState}
use Rattle.harvest_sources.specs.declared.source.HarvestSource.{HarvestSource}
use Rattle.harvest_stages.specs.AtRest.{bare_sources}
use Rattle.portal_state.specs.State.{State}
use Rattle.portal_state.specs.Valid.{IsHarvestedFrom, IsSoundAmong, IsValid}

-- ---- names and ids

second : (a b c : Bool) → b ≡ true → (a || b || c) ≡ true
second true b c is = refl
second false true c is = refl
second false false c is = absurd (cc)

-- the names of harvested datasets are reserved
reserved : (source iri : List ℕ) → is_reserved (harvested_name source iri) ≡ true
unfolding harvested_name
reserved source iri =
    second (is_portal_address (harvested_name source iri)) true (is_id_shaped (harvested_name source iri)) refl

no_name : (text : List ℕ) (longest : ℕ) → is_reserved text ≡ true → is_name text longest ≡ false
no_name text longest is =
    ap (λ b. is_none (if not (has_name_length text longest) then Some Length
    else if not (has_name_characters text) then Some Character else if b then Some Reserved else None)) is
    ∙ by (has_name_length text longest) (has_name_characters text)
  where
    by : (long characters : Bool)
        → is_none (if not long then Some Length else if not characters then Some Character
        else if true then Some Reserved else None) ≡ false
    by false characters = refl
    by true false = refl
    by true true = refl

-- No made dataset may have such a name,
pub harvested-no_name : (source iri : List ℕ) (longest : ℕ) → is_name (harvested_name source iri) longest ≡ false
harvested-no_name source iri longest = no_name (harvested_name source iri) longest (reserved source iri)

neither : (a : Bool) → (a && false) ≡ false
neither true = refl
neither false = refl

unshaped : (source iri : List ℕ) → is_id_shaped (harvested_name source iri) ≡ false
unfolding harvested_name
unshaped source iri = neither (length (harvested_name source iri) == 36)

-- and no id is one.
pub harvested-no_id : (number : ℕ) (source iri : List ℕ) → id_text number ≢ harvested_name source iri
harvested-no_id number source iri same =
    true≢false (sym (ap is_id_shaped (sym same) ∙ is_id_shaped-id_text number) ∙ unshaped source iri)

pub made-name_apart : (people : PeopleLists) (d : Package) (source iri : List ℕ) → IsSound people d
    → d.name ≢ harvested_name source iri
made-name_apart people d source iri sound same =
    true≢false (sym sound.name ∙ ap (λ (text : List ℕ). is_name text longest_name) same
    ∙ harvested-no_name source iri longest_name)

pub made-id_apart : (people : PeopleLists) (d : Package) (source iri : List ℕ) → IsSound people d
    → d.id ≢ harvested_name source iri
made-id_apart people d source iri sound same = harvested-no_id sound.id.0 source iri (sym sound.id.1 ∙ same)

-- ---- which datasets are harvested

named-source : (name : List ℕ) → name ≢ [] → is_source name ≡ true
named-source [] named = absurd (named refl)
named-source (b ∷ bs) named = refl

-- A dataset of a source was harvested.
pub of-source_harvested : (d : Package) (name : List ℕ) → name ≢ [] → d.source ≡ name → is_harvested d ≡ true
of-source_harvested d name named is = named-source d.source (λ none. named (sym is ∙ none))

pub source-named : (sources : List SourceState) (s : SourceState) → AreSources sources → IsIn s sources
    → s.source.name ≢ []
source-named sources s fit m = All-IsIn (λ (t : SourceState). t.source.name ≢ []) sources fit.named s m

pub harvested-is : (sources : List SourceState) (d : Package) → AreSources sources → IsHarvestedFrom sources d
    → is_harvested d ≡ true
harvested-is sources d fit from =
    of-source_harvested d from.source.source.name
    (source-named sources from.source fit (IsIn-Contains from.source sources from.is_present)) from.own.of_source

-- A made dataset is sound by itself,
pub sound-made : (people : PeopleLists) (sources : List SourceState) (d : Package) → AreSources sources
    → IsSoundAmong people sources d → is_harvested d ≡ false → IsSound people d
sound-made people sources d fit (inl sound) made = sound
sound-made people sources d fit (inr from) made =
    absurd (true≢false (sym (harvested-is sources d fit from) ∙ made))

-- and a harvested one by its source.
pub sound-harvested : (people : PeopleLists) (sources : List SourceState) (d : Package) → AreSources sources
    → IsSoundAmong people sources d → is_harvested d ≡ true → IsHarvestedFrom sources d
sound-harvested people sources d fit (inl sound) harvested = absurd (true≢false (sym harvested ∙ sound.not_harvested))
sound-harvested people sources d fit (inr from) harvested = from

-- In a valid state a dataset is sound among its sources,
pub sound-in : (state : State) (d : Package) → IsValid state → IsIn d state.datasets
    → IsSoundAmong state.people state.sources d
sound-in state d valid m = All-IsIn (IsSoundAmong state.people state.sources) state.datasets valid.sound d m

-- and its organization exists.
pub sound-org : (state : State) (d : Package) → IsValid state → IsIn d state.datasets
    → OrgExists state.people d.owner_org
sound-org state d valid m = by (sound-in state d valid m)
  where
    by : IsSoundAmong state.people state.sources d → OrgExists state.people d.owner_org
    by (inl sound) = sound.org
    by (inr from) =
        subst (OrgExists state.people) (sym from.own.of_org)
        (All-IsIn (λ (s : SourceState). OrgExists state.people s.source.owner_org) state.sources valid.owners
        from.source (IsIn-Contains from.source state.sources from.is_present))

not_so : (b : Bool) → not b ≡ true → b ≡ false
not_so true is = absurd (cc)
not_so false is = refl

both_so : (a b : Bool) → (a && b) ≡ true → a ≡ true
both_so true b is = refl
both_so false b is = absurd (cc)

-- A dataset that somebody may edit wasn't harvested.
pub edited-made : (people : PeopleLists) (caller : Caller) (d : Package) → may_edit_in people caller d ≡ true
    → is_harvested d ≡ false
edited-made people caller d edits = not_so (is_harvested d) (both_so (not (is_harvested d)) _ edits)

-- ---- sources that stay

-- one of these has the name and the organization of the source
abbrev pub IsLike : List SourceState → SourceState → Type 0
IsLike others s =
    (t : SourceState) × IsIn t others × (t.source.name ≡ s.source.name) × (t.source.owner_org ≡ s.source.owner_org)

own-like : (s t : HarvestSource) (d : Package) → t.name ≡ s.name → t.owner_org ≡ s.owner_org → IsOwn s d → IsOwn t d
own-like s t d named of_org own = record {
  of_source = own.of_source ∙ sym named;
  of_org = own.of_org ∙ sym of_org;
  named = own.named ∙ ap (λ (name : List ℕ). harvested_name name d.iri) (sym named);
  id_is_name = own.id_is_name;
}

-- A harvested dataset stays one where its source stays, whatever else of the source changes.
pub harvested-among : (sources others : List SourceState) (d : Package)
    → ((s : SourceState) → IsIn s sources → d.source ≡ s.source.name → IsLike others s) → IsHarvestedFrom sources d
    → IsHarvestedFrom others d
harvested-among sources others d stays from =
    let like = stays from.source (IsIn-Contains from.source sources from.is_present) from.own.of_source in
    record {
      source = like.0;
      is_present = Contains-IsIn like.0 others like.1;
      own = own-like from.source.source like.0.source d like.2 like.3 from.own;
      seen = from.seen;
      resources = from.resources;
      tags = from.tags;
    }

pub bare-like : (sources others : List SourceState) → bare_sources others ≡ bare_sources sources → (s : SourceState)
    → IsIn s sources → IsLike others s
bare-like sources others same s m =
    let there = map-IsIn (λ (t : SourceState). t.source) s.source others
    (subst (IsIn s.source) (sym same) (IsIn-map (λ (t : SourceState). t.source) s sources m)) in (
      there.0,
      there.1,
      ap (λ (source : HarvestSource). source.name) (sym there.2),
      ap (λ (source : HarvestSource). source.owner_org) (sym there.2),
    )

-- So it does where all sources stay, whatever becomes of their jobs.
pub harvested-bare : (sources others : List SourceState) (d : Package) → bare_sources others ≡ bare_sources sources
    → IsHarvestedFrom sources d → IsHarvestedFrom others d
harvested-bare sources others d same from =
    harvested-among sources others d (λ s m is. bare-like sources others same s m) from

-- ---- the dataset of a record

-- numbers that are given from one on are within these bounds
between : (low bound number : ℕ) (distributions : List Distribution) → low ≤ number
    → number + length distributions ≤ bound
    → All (λ (r : Resource). (low ≤ r.number) × (r.number < bound)) (numbered_from number distributions)
between low bound number [] above below = All-nil (λ (r : Resource). (low ≤ r.number) × (r.number < bound))
between low bound number (d ∷ ds) above below =
    All-cons (λ (r : Resource). (low ≤ r.number) × (r.number < bound)) (harvested_resource number d)
    (numbered_from (number + 1) ds) (above, omega (arith, below))
    (between low bound (number + 1) ds (omega (arith, above)) (omega (arith, below)))

apart-numbers : (number : ℕ) (distributions : List Distribution)
    → AllPairs (λ (r s : Resource). r.number ≢ s.number) (numbered_from number distributions)
apart-numbers number [] = λ i j d lt within. absurd (omega arith)
apart-numbers number (d ∷ ds) =
    AllPairs-cons (λ (r s : Resource). r.number ≢ s.number) (harvested_resource number d) (numbered_from (number + 1) ds)
    (All-weaker (λ (r : Resource). (number + 1 ≤ r.number) × (r.number < number + 1 + length ds))
    (λ (r : Resource). number ≢ r.number) (λ r later same. absurd (omega (arith, later.0, same)))
    (numbered_from (number + 1) ds)
    (between (number + 1) (number + 1 + length ds) (number + 1) ds (omega arith) (omega arith)))
    (apart-numbers (number + 1) ds)

numbered : (source : HarvestSource) (iri : List ℕ) (r : HarvestRecord) → AreNumbered (harvested_dataset source iri r)
unfolding harvested_dataset
numbered source iri r =
    let given : List Distribution = take max_resources r.resources in
    record {
      next = omega arith;
      within = between 1 (length given + 1) 1 given (omega arith) (omega arith);
      distinct = apart-numbers 1 given;
    }

added-up : (text : List ℕ) (texts : List (List ℕ)) → IsAscending (slice_cmp nat_cmp) texts
    → IsAscending (slice_cmp nat_cmp) (text_added text texts)
added-up text texts up =
    let P : Bool → Type 0 =
    λ b. is_among texts text ≡ b
    → IsAscending (slice_cmp nat_cmp) (cond b texts (inserted (slice_cmp nat_cmp) text texts)) in
    (elim (is_among texts text) as P [
      | true ↦ λ e. up
      | false ↦ λ e. IsAscending-inserted (slice_cmp nat_cmp) nat_list_cmp_total text texts up
          (list_any-same _ _ (λ (t : List ℕ). is_eq-slice_cmp t text) texts ∙ e)
    ]) refl

set-up : (texts : List (List ℕ)) → IsAscending (slice_cmp nat_cmp) (text_set texts)
set-up [] = tt
set-up (text ∷ texts) = added-up text (text_set texts) (set-up texts)

tagged : (source : HarvestSource) (iri : List ℕ) (r : HarvestRecord)
    → IsAscending (slice_cmp nat_cmp) (harvested_dataset source iri r).tags
unfolding harvested_dataset
tagged source iri r = set-up r.tags

open-to_all : (source : HarvestSource) (iri : List ℕ) (r : HarvestRecord)
    → is_public (harvested_dataset source iri r) ≡ true
unfolding harvested_dataset
open-to_all source iri r = refl

-- What is harvested from a source may exist beside it.
pub harvested-sound : (sources : List SourceState) (s : SourceState) (iri : List ℕ) (r : HarvestRecord) → IsIn s sources
    → IsHarvestedFrom sources (harvested_dataset s.source iri r)
harvested-sound sources s iri r m = record {
  source = s;
  is_present = Contains-IsIn s sources m;
  own = IsOwn-harvested s.source iri r;
  seen = open-to_all s.source iri r;
  resources = numbered s.source iri r;
  tags = tagged s.source iri r;
}

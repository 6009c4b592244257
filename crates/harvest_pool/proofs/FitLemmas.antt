-- Sources keep their datasets and their names through every step of a harvest.
use Rattle.std.proofs.Common.{◌≡◌, ◌∙◌, ◌⊎◌, Bool, true, false, not, cond, List, [], ◌∷◌, Option, Some, None}
use Rattle.std.proofs.Common.{refl, sym, ap, subst, inl, inr}
use Rattle.std.specs.List.{Contains, list_any}
use Rattle.std.specs.Ordering.{is_eq}
use Rattle.std.specs.Str.{bytes_eq}
use Rattle.portal_base.specs.Ordered.{IsAscending}
use Rattle.portal_base.proofs.Filtered.{IsAscending-filter, IsIn-filter}
use Rattle.portal_base.proofs.Unique.{IsIn, IsIn-Contains, Contains-IsIn}
use Rattle.portal_base.proofs.Upserted.{All-IsIn, IsAscending-upserted, IsIn-upserted}
use Rattle.packages.specs.Order.{dataset_cmp, dataset_cmp_total}
use Rattle.packages.specs.declared.package.Package.{Package}
use Rattle.packages.proofs.FindLemmas.{IsIn-find, IsIn-map, map-IsIn}
use Rattle.harvest_sources.specs.Sources.{AreSources, SourceState}
use Rattle.harvest_sources.specs.Steps.{is_accepted, with_open_job}
use Rattle.harvest_sources.specs.declared.reading.Reading.{Reading}
use Rattle.harvest_sources.specs.declared.reading.Reading.TheVariants.{Good, Bad}
use Rattle.harvest_sources.specs.declared.source.HarvestSource.{HarvestSource}
use Rattle.harvest_sources.specs.declared.step.Step.{Step}
use Rattle.harvest_sources.specs.declared.step.Step.TheVariants.{NewRound, Begin, List as list, Break, Claim, Settle, End}
use Rattle.harvest_results.specs.Effects.{HarvestState, after_step, change_of_step, dataset_read, effect_of, put_by, read_in}
use Rattle.harvest_results.specs.Effects.{with_put}
use Rattle.harvest_results.specs.Harvested.{harvested_dataset}
use Rattle.harvest_results.specs.Histories.{HasItsNames, IsFit}
use Rattle.harvest_results.specs.Results.{IsOwn}
use Rattle.harvest_results.proofs.NameLemmas.{harvested_name-source}
use Rattle.harvest_results.proofs.ResultLemmas.{IsOwn-harvested}
use Rattle.harvest_stages.specs.AtRest.{bare_sources}
use Rattle.harvest_stages.proofs.KeptLemmas.{step_kept}
use Rattle.harvest_pool.specs.Made.{Made, state_after}
use Rattle.harvest_pool.specs.WholeRounds.{IsAtRest}
use Rattle.harvest_pool.proofs.Done.{AllFit}
use Rattle.harvest_pool.proofs.SourceLemmas.{fit-after, same-named}

-- ---- the sources

pub bare-after : (step : Step) (st : HarvestState) → AreSources st.sources
    → bare_sources (after_step step st).sources ≡ bare_sources st.sources
bare-after step st fit = (step_kept step (effect_of step st) st.sources fit).same

pub bare-through : (made : List Made) (st : HarvestState) → AreSources st.sources
    → bare_sources (state_after made st).sources ≡ bare_sources st.sources
bare-through [] st fit = refl
bare-through (m ∷ made) st fit =
    bare-through made (after_step m.step st) (fit-after m.step st fit) ∙ bare-after m.step st fit

-- Where two lists have the same sources, each source of one is in the other, with other jobs maybe.
pub same-bare : (ss ts : List SourceState) → bare_sources ts ≡ bare_sources ss → (t : SourceState) → IsIn t ts
    → (s : SourceState) × IsIn s ss × (t.source ≡ s.source)
same-bare ss ts same t m =
    let there : IsIn t.source (bare_sources ss) =
    subst (IsIn t.source) same (IsIn-map (λ (u : SourceState). u.source) t ts m) in
    map-IsIn (λ (u : SourceState). u.source) t.source ss there

-- ---- the datasets

-- a dataset that a source of the state gave
pub record IsGiven (st : HarvestState) (d : Package) : Type 0 where
  pub at : SourceState
  pub there : IsIn at st.sources
  pub own : IsOwn at.source d

put-given : (step : Step) (st : HarvestState) (d : Package) → put_by step st ≡ Some d → IsGiven st d
put-given NewRound st d is = absurd (cc)
put-given Begin st d is = absurd (cc)
put-given (list job items unnamed) st d is = absurd (cc)
put-given (Break job cause) st d is = absurd (cc)
put-given Claim st d is = absurd (cc)
put-given (End job) st d is = absurd (cc)
put-given (Settle job iri reading) st d is = by (with_open_job st.sources job) refl is
  where
    at : (s : SourceState) → with_open_job st.sources job ≡ Some s → (r : Reading)
        → dataset_read s iri r ≡ Some d → IsGiven st d
    at s found (Bad cause) e = absurd (cc)
    at s found (Good r) e =
        let same : harvested_dataset s.source iri r ≡ d = cc in
        record {
          at = s;
          there = (IsIn-find _ s st.sources found).0;
          own = subst (IsOwn s.source) same (IsOwn-harvested s.source iri r);
        }

    by : (o : Option SourceState) → with_open_job st.sources job ≡ o → read_in iri reading o ≡ Some d → IsGiven st d
    by None found e = absurd (cc)
    by (Some s) found e = at s found reading e

-- Each dataset after a step was there, or one of the sources gave it.
pub dataset-origin : (step : Step) (st : HarvestState) (d : Package) → IsIn d (after_step step st).datasets
    → IsIn d st.datasets ⊎ IsGiven st d
dataset-origin step st d m =
    let change = change_of_step step st in
    by (is_accepted change.reply) (put_by step st) refl
    (IsIn-filter (λ (e : Package). not (list_any (λ (other : Package). bytes_eq other.id e.id) change.gone)) d
    (with_put change.put st.datasets) m).0
  where
    put : (e : Package) → put_by step st ≡ Some e
        → (d ≡ e) ⊎ (IsIn d st.datasets × (is_eq (dataset_cmp d e) ≡ false)) → IsIn d st.datasets ⊎ IsGiven st d
    put e is (inl same) = inr (put-given step st d (is ∙ ap Some (sym same)))
    put e is (inr n) = inl n.0

    by : (b : Bool) (o : Option Package) → put_by step st ≡ o → IsIn d (with_put (cond b o None) st.datasets)
        → IsIn d st.datasets ⊎ IsGiven st d
    by false o is n = inl n
    by true None is n = inl n
    by true (Some e) is n = put e is (IsIn-upserted dataset_cmp e d st.datasets n)

pub ascending-after : (step : Step) (st : HarvestState) → IsAscending dataset_cmp st.datasets
    → IsAscending dataset_cmp (after_step step st).datasets
ascending-after step st up =
    let change = change_of_step step st in
    IsAscending-filter dataset_cmp (λ (e : Package). not (list_any (λ (other : Package). bytes_eq other.id e.id) change.gone))
    (with_put change.put st.datasets) (put change.put)
  where
    put : (o : Option Package) → IsAscending dataset_cmp (with_put o st.datasets)
    put None = up
    put (Some d) = IsAscending-upserted dataset_cmp dataset_cmp_total d st.datasets up

pub ascending-through : (made : List Made) (st : HarvestState) → IsAscending dataset_cmp st.datasets
    → IsAscending dataset_cmp (state_after made st).datasets
ascending-through [] st up = up
ascending-through (m ∷ made) st up = ascending-through made (after_step m.step st) (ascending-after m.step st up)

-- ---- what holds of each source

module _ (step : Step) (st : HarvestState) (all : AllFit st) (t : SourceState) (m : IsIn t (after_step step st).sources) where
  was : (s : SourceState) × IsIn s st.sources × (t.source ≡ s.source)
  was = same-bare st.sources (after_step step st).sources (bare-after step st all.sources) t m

  fit_was : IsFit t.source st
  fit_was = subst (λ (source : HarvestSource). IsFit source st) (sym was.2) (all.fit was.0 was.1)

  names_was : HasItsNames t.source st
  names_was = subst (λ (source : HarvestSource). HasItsNames source st) (sym was.2) (all.named was.0 was.1)

  -- the source that gave a dataset of this name is this one
  given-own : (d : Package) (g : IsGiven st d) → g.at.source.name ≡ t.source.name → g.at.source ≡ t.source
  given-own d g named =
      ap (λ (s : SourceState). s.source)
      (same-named st.sources g.at was.0 all.sources g.there was.1
      (named ∙ ap (λ (source : HarvestSource). source.name) was.2))
      ∙ sym was.2

  own : (d : Package) → Contains (after_step step st).datasets d → d.source ≡ t.source.name → IsOwn t.source d
  own d c named = by (dataset-origin step st d (IsIn-Contains d (after_step step st).datasets c))
    where
      by : IsIn d st.datasets ⊎ IsGiven st d → IsOwn t.source d
      by (inl n) = fit_was.own d (Contains-IsIn d st.datasets n) named
      by (inr g) =
          subst (λ (source : HarvestSource). IsOwn source d)
          (given-own d g (sym g.own.of_source ∙ named)) g.own

  either : (d : Package) → Contains (after_step step st).datasets d → (IsIn d st.datasets → d.source ≡ t.source.name)
      → (IsGiven st d → d.source ≡ t.source.name) → d.source ≡ t.source.name
  either d c old new = by (dataset-origin step st d (IsIn-Contains d (after_step step st).datasets c))
    where
      by : IsIn d st.datasets ⊎ IsGiven st d → d.source ≡ t.source.name
      by (inl n) = old n
      by (inr g) = new g

  fit_now : IsFit t.source (after_step step st)
  fit_now = record {
    sources = fit-after step st all.sources;
    ascending = ascending-after step st fit_was.ascending;
    own = own;
    apart = λ d iri c is.
        either d c (λ n. fit_was.apart d iri (Contains-IsIn d st.datasets n) is)
        (λ g. g.own.of_source
        ∙ harvested_name-source g.at.source.name t.source.name d.iri iri (sym g.own.named ∙ sym g.own.id_is_name ∙ is));
  }

  names_now : HasItsNames t.source (after_step step st)
  names_now d iri c is =
      either d c (λ n. names_was d iri (Contains-IsIn d st.datasets n) is)
      (λ g. g.own.of_source
      ∙ harvested_name-source g.at.source.name t.source.name d.iri iri (sym g.own.named ∙ is))

pub all_fit-after : (step : Step) (st : HarvestState) → AllFit st → AllFit (after_step step st)
all_fit-after step st all = record {
  sources = fit-after step st all.sources;
  fit = λ t m. fit_now step st all t m;
  named = λ t m. names_now step st all t m;
}

pub all_fit-through : (made : List Made) (st : HarvestState) → AllFit st → AllFit (state_after made st)
all_fit-through [] st all = all
all_fit-through (m ∷ made) st all = all_fit-through made (after_step m.step st) (all_fit-after m.step st all)

-- A round may begin where all is fit.
pub rest-fit : (before : HarvestState) → IsAtRest before → AllFit before
rest-fit before rest = record {
  sources = rest.sources;
  fit = λ s m. All-IsIn (λ (t : SourceState). IsFit t.source before) before.sources rest.fit s m;
  named = λ s m. All-IsIn (λ (t : SourceState). HasItsNames t.source before) before.sources rest.named s m;
}

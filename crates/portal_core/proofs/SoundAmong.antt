-- Datasets that may exist among people and sources of harvests: made ones and harvested ones.
use Rattle.std.proofs.Common.{◌≡◌, ◌∙◌, ◌↔◌, Bool, true, false, List, IfOk, Some, None, inl, inr, sym, ap, subst}
use Rattle.std.proofs.Common.{true≢false}
use Rattle.std.specs.Prelude.{Err, IsTrue, Ok, Result, find, is_some}
use Rattle.std.specs.Str.{bytes_eq}
use Rattle.std.proofs.lemmas.Slice.Eq.{bytes_eq-Decides}
use Rattle.portal_base.proofs.Unique.{Contains-IsIn, IsIn-Contains}
use Rattle.org_roles.specs.PeopleLists.{PeopleLists}
use Rattle.org_roles.specs.declared.entry.Org.{Org}
use Rattle.packages.specs.Numbered.{AreNumbered}
use Rattle.packages.specs.declared.package.Package.{Package}
use Rattle.packages.proofs.FindLemmas.{find-none}
use Rattle.dataset_answers.specs.Sound.{IsSound}
use Rattle.harvest_results.specs.Results.{IsOwn}
use Rattle.harvest_results.proofs.SourceEntryLemmas.{IsIn-named, same_source}
use Rattle.harvest_sources.specs.Sources.{AreSources, SourceState, source_named}
use Rattle.harvest_sources.specs.declared.source.HarvestSource.{HarvestSource}
use Rattle.harvest_stages.specs.AtRest.{bare_sources}
use Rattle.visibility.specs.Visibility.{is_harvested}
use Rattle.portal_core.specs.Restored.{IsHarvestOf}
use Rattle.portal_state.specs.Valid.{IsHarvestedFrom, IsSoundAmong}
use Rattle.portal_state.proofs.Harvested.{harvested-bare, sound-harvested, sound-made}

-- Each has numbered resources.
pub among-numbered : (people : PeopleLists) (sources : List SourceState) (d : Package) → IsSoundAmong people sources d
    → AreNumbered d
among-numbered people sources d (inl is) = is.resources
among-numbered people sources d (inr is) = is.resources

-- ---- among other people and other sources

-- Datasets are sound among other people with the same organizations,
pub same-sound : (one other : PeopleLists) (d : Package) → one.orgs ≡ other.orgs → IsSound one d → IsSound other d
same-sound one other d same is = record {
  not_harvested = is.not_harvested;
  id = is.id;
  name = is.name;
  org = ap (λ (orgs : List Org). is_some (find (λ o. bytes_eq o.name d.owner_org) orgs)) (sym same) ∙ is.org;
  resources = is.resources;
  tags = is.tags;
}

-- and among other sources that are the same without their jobs.
pub same-among : (one other : PeopleLists) (before after : List SourceState) (d : Package) → one.orgs ≡ other.orgs
    → bare_sources before ≡ bare_sources after → IsSoundAmong one before d → IsSoundAmong other after d
same-among one other before after d orgs bare (inl is) = inl (same-sound one other d orgs is)
same-among one other before after d orgs bare (inr is) = inr (harvested-bare before after d (sym bare) is)

-- ---- the source of a dataset

-- What has to hold of a dataset of the source of its name has to hold of a harvested one.
found-harvest : (sources : List SourceState) (d : Package) (s : SourceState) → AreSources sources
    → source_named sources d.source ≡ Some s → IsHarvestOf s.source d ↔ IsHarvestedFrom sources d
found-harvest sources d s are is = (
  λ of. record {
    source = s;
    is_present = Contains-IsIn s sources (IsIn-named sources d.source s is).0;
    own = of.0;
    seen = of.1;
    resources = of.2;
    tags = of.3;
  },
  λ from.
      let same : from.source ≡ s =
      same_source sources d.source s from.source are is (IsIn-Contains from.source sources from.is_present)
      (sym from.own.of_source) in (
        subst (λ (t : SourceState). IsOwn t.source d) same from.own,
        from.seen,
        from.resources,
        from.tags,
      ),
)

-- A dataset comes from no source, if there is none of the name of its source.
pub no-harvest : (sources : List SourceState) (d : Package) → source_named sources d.source ≡ None
    → IsHarvestedFrom sources d → ⊥
no-harvest sources d none from =
    true≢false (sym ((bytes_eq-Decides from.source.source.name d.source).1 (sym from.own.of_source))
    ∙ find-none (λ (s : SourceState). bytes_eq s.source.name d.source) from.source sources none
    (IsIn-Contains from.source sources from.is_present))

-- ---- the result of a test

-- A test of two things that imply each other.
tested : {E : Type 0} (P Q : Type 0) (r : Result Bool E) → P ↔ Q → IfOk r (λ b. IsTrue b ↔ P) → IfOk r (λ b. IsTrue b ↔ Q)
tested P Q (Err e) same is = tt
tested P Q (Ok b) same is = (λ holds. same.0 (is.0 holds), λ q. is.1 (same.1 q))

pub harvest-tested : {E : Type 0} (r : Result Bool E) (sources : List SourceState) (d : Package) (s : SourceState)
    (source : HarvestSource) → AreSources sources → source_named sources d.source ≡ Some s → source ≡ s.source
    → IfOk r (λ b. IsTrue b ↔ IsHarvestOf source d) → IfOk r (λ b. IsTrue b ↔ IsHarvestedFrom sources d)
harvest-tested r sources d s source are is same of =
    tested (IsHarvestOf s.source d) (IsHarvestedFrom sources d) r (found-harvest sources d s are is)
    (subst (λ (h : HarvestSource). IfOk r (λ b. IsTrue b ↔ IsHarvestOf h d)) same of)

pub harvested-tested : {E : Type 0} (r : Result Bool E) (people : PeopleLists) (sources : List SourceState) (d : Package)
    → AreSources sources → is_harvested d ≡ true → IfOk r (λ b. IsTrue b ↔ IsHarvestedFrom sources d)
    → IfOk r (λ b. IsTrue b ↔ IsSoundAmong people sources d)
harvested-tested r people sources d are from is =
    tested (IsHarvestedFrom sources d) (IsSoundAmong people sources d) r
    (λ h. inr h, λ either. sound-harvested people sources d are either from) is

pub made-tested : {E : Type 0} (r : Result Bool E) (people : PeopleLists) (sources : List SourceState) (d : Package)
    → AreSources sources → is_harvested d ≡ false → IfOk r (λ b. IsTrue b ↔ IsSound people d)
    → IfOk r (λ b. IsTrue b ↔ IsSoundAmong people sources d)
made-tested r people sources d are made is =
    tested (IsSound people d) (IsSoundAmong people sources d) r
    (λ sound. inl sound, λ either. sound-made people sources d are either made) is

-- A step of a harvest keeps a valid state valid: the sources keep their names and get other jobs, a harvested dataset is put,
-- and harvested datasets are dropped.
use Rattle.std.proofs.Common.{◌≡◌, ◌⊎◌, Bool, true, false, not, List, Option, Some, None, refl, sym, ap, ◌∙◌, subst}
use Rattle.std.proofs.Common.{inl, inr}
use Rattle.std.specs.List.{list_any}
use Rattle.std.specs.Ordering.{is_eq}
use Rattle.std.specs.Str.{bytes_eq}
use Rattle.std.proofs.lemmas.Map.Text.{is_eq-slice_cmp}
use Rattle.std.proofs.lemmas.Slice.Eq.{bytes_eq-Decides}
use Rattle.portal_base.specs.Ordered.{upserted}
use Rattle.portal_base.proofs.Unique.{IsIn, IsIn-Contains}
use Rattle.portal_base.proofs.Upserted.{All-IsIn, All-each, IsIn-upserted}
use Rattle.packages.proofs.FindLemmas.{fails}
use Rattle.packages.specs.Order.{dataset_cmp, dataset_cmp_total}
use Rattle.packages.specs.declared.package.Package.{Package}
use Rattle.dataset_answers.specs.Sound.{OrgExists}
use Rattle.datastore_answers.specs.declared.resource_table.ResourceTable.{ResourceTable}
use Rattle.harvest_results.specs.Effects.{with_put, without, effect_of}
use Rattle.harvest_sources.specs.Sources.{AreSources, SourceState}
use Rattle.harvest_stages.specs.AtRest.{bare_sources}
use Rattle.visibility.specs.Visibility.{is_harvested}
use Rattle.portal_state.specs.State.{State}
use Rattle.portal_state.specs.Valid.{HasHome, IsHarvestedFrom, IsSoundAmong, IsValid}
use Rattle.portal_state.proofs.Harvested.{bare-like, harvested-bare, harvested-is, made-id_apart, made-name_apart}
use Rattle.portal_state.proofs.Harvested.{sound-in, sound-made}
use Rattle.portal_state.proofs.Keeping.{home-placed, kept-valid, placed-valid}
use Rattle.portal_state.proofs.Kept.{unique-at}
use Rattle.portal_state.proofs.TableViewing.{any-is}
use Rattle.harvest_sources.specs.declared.step.Step.{Step}
use Rattle.harvest_stages.proofs.KeptLemmas.{step_kept}
use Rattle.portal_state.specs.Harvest.{harvest_change, harvest_of, state_after_step}
use Rattle.portal_state.proofs.HarvestEntries.{gone-in, harvested_in, state_after-harvest}
use Rattle.portal_state.proofs.HarvestKeeping.{put-from}

-- ---- the jobs of sources

-- A state stays valid where its sources get other jobs.
pub relisted-valid : (others : List SourceState) (state : State) → IsValid state → AreSources others
    → bare_sources others ≡ bare_sources state.sources → IsValid (record state { sources = others })
relisted-valid others state valid fit same = record {
  people = valid.people;
  orgs = valid.orgs;
  roles = valid.roles;
  datasets = valid.datasets;
  names = valid.names;
  sound = All-each (IsSoundAmong state.people others) state.datasets (λ d m. sound-still d (sound-in state d valid m));
  tables = valid.tables;
  homes = valid.homes;
  sources = fit;
  owners = All-each (λ (s : SourceState). OrgExists state.people s.source.owner_org) others
      (λ s m. let like = bare-like others state.sources (sym same) s m in
      subst (OrgExists state.people) like.3
      (All-IsIn (λ (t : SourceState). OrgExists state.people t.source.owner_org) state.sources valid.owners like.0
      like.1));
  quota_used = valid.quota_used;
}
  where
    sound-still : (d : Package) → IsSoundAmong state.people state.sources d → IsSoundAmong state.people others d
    sound-still d (inl sound) = inl sound
    sound-still d (inr from) = inr (harvested-bare state.sources others d same from)

-- ---- a dataset that is put

module _ (d : Package) (state : State) (valid : IsValid state) (from : IsHarvestedFrom state.sources d) where
  -- a dataset of its name is the one that it replaces
  same-name_id : (e : Package) → IsSoundAmong state.people state.sources e → e.name ≡ d.name
      → is_eq (dataset_cmp e d) ≡ true
  same-name_id e (inl sound) same =
      absurd (made-name_apart state.people e from.source.source.name d.iri sound (same ∙ from.own.named))
  same-name_id e (inr other) same =
      is_eq-slice_cmp e.id d.id
      ∙ (bytes_eq-Decides e.id d.id).1 (other.own.id_is_name ∙ same ∙ sym from.own.id_is_name)

  -- a table is of another dataset
  table-apart : (t : ResourceTable) → HasHome state.datasets t → bytes_eq t.address.dataset d.id ≡ false
  table-apart t home =
      let sound = sound-made state.people state.sources home.dataset valid.sources
      (sound-in state home.dataset valid (IsIn-Contains home.dataset state.datasets home.is_present)) home.made in
      fails (bytes_eq t.address.dataset d.id)
      (λ like. made-id_apart state.people home.dataset from.source.source.name d.iri sound
      (home.id ∙ (bytes_eq-Decides t.address.dataset d.id).0 like ∙ from.own.id_is_name ∙ from.own.named))

  -- A state stays valid where a harvested dataset is put.
  pub put-valid : IsValid (record state { datasets = upserted dataset_cmp d state.datasets })
  put-valid =
      placed-valid d state.tables state valid (inr from)
      (λ e m same. same-name_id e (sound-in state e valid (IsIn-Contains e state.datasets m)) same)
      valid.tables
      (All-each (HasHome (upserted dataset_cmp d state.datasets)) state.tables
      (λ t m. let home = All-IsIn (HasHome state.datasets) state.tables valid.homes t m in
      home-placed d state.datasets t home (inl (table-apart t home))))

-- the dataset, if there is one, was harvested from one of these sources
abbrev pub IsFromIfSome : List SourceState → Option Package → Type 0
IsFromIfSome sources None = Unit {0}
IsFromIfSome sources (Some d) = IsHarvestedFrom sources d

pub with_put-valid : (put : Option Package) (state : State) → IsValid state → IsFromIfSome state.sources put
    → IsValid (record state { datasets = with_put put state.datasets })
with_put-valid None state valid from = valid
with_put-valid (Some d) state valid from = put-valid d state valid from

-- ---- datasets that are dropped

turned : (b : Bool) → not b ≡ false → b ≡ true
turned true is = refl
turned false is = absurd (cc)

module _ (gone : List Package) (put : Option Package) (state : State) (valid : IsValid state)
    (from : IsFromIfSome state.sources put)
    (goes : (d : Package) → IsIn d gone → IsIn d state.datasets × (is_harvested d ≡ true)) where
  -- a dataset with the id of one that goes was harvested
  old-harvested : (d other : Package) → IsIn d state.datasets → IsIn other gone → bytes_eq other.id d.id ≡ true
      → is_harvested d ≡ true
  old-harvested d other m n like =
      let was = goes other n in
      let same : other ≡ d =
      unique-at dataset_cmp dataset_cmp_total state.datasets valid.datasets other d was.0 m
      (is_eq-slice_cmp other.id d.id ∙ like) in
      subst (λ (e : Package). is_harvested e ≡ true) same was.1

  new-harvested : (p : Option Package) → IsFromIfSome state.sources p → (d other : Package)
      → IsIn d (with_put p state.datasets) → IsIn other gone → bytes_eq other.id d.id ≡ true → is_harvested d ≡ true
  new-harvested None is d other m n like = old-harvested d other m n like
  new-harvested (Some p) is d other m n like = by (IsIn-upserted dataset_cmp p d state.datasets m)
    where
      by : (d ≡ p) ⊎ (IsIn d state.datasets × (is_eq (dataset_cmp d p) ≡ false)) → is_harvested d ≡ true
      by (inl same) = ap is_harvested same ∙ harvested-is state.sources p valid.sources is
      by (inr old) = old-harvested d other old.0 n like

  -- A state stays valid where a harvested dataset is put and others are dropped.
  pub changed-valid : IsValid (record state { datasets = without gone (with_put put state.datasets) })
  changed-valid =
      kept-valid (λ d. not (list_any (λ other. bytes_eq other.id d.id) gone))
      (record state { datasets = with_put put state.datasets }) (with_put-valid put state valid from)
      (λ d m drops. let like = any-is (λ (other : Package). bytes_eq other.id d.id) gone
      (turned (list_any (λ (other : Package). bytes_eq other.id d.id) gone) drops) in
      new-harvested put from d like.0 m like.1 like.2)

-- ---- the state after a step

-- A step of a harvest keeps a valid state valid.
pub stepped_valid : (step : Step) (state : State) → IsValid state → IsValid (state_after_step step state)
stepped_valid step state valid =
    let change = harvest_change step state in
    let kept = step_kept step (effect_of step (harvest_of state)) state.sources valid.sources in
    let next : State = record (harvested_in change state) { datasets = state.datasets } in
    let listed_valid : IsValid next = relisted-valid next.sources state valid kept.sound kept.same in
    subst IsValid (sym (state_after-harvest change state))
    (changed-valid change.gone change.put next listed_valid
    (from next.sources change.put (λ d is. harvested-bare state.sources next.sources d kept.same (put-from step state d is)))
    (λ d m. gone-in step state valid d m))
  where
    from : (sources : List SourceState) (put : Option Package)
        → ((d : Package) → put ≡ Some d → IsHarvestedFrom sources d) → IsFromIfSome sources put
    from sources None each = tt
    from sources (Some d) each = each d refl

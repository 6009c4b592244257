-- Parts that are read from values make up a valid state, and no other state has these values.
use Rattle.std.proofs.Common.{◌≡◌, ◌≢◌, ◌∙◌, ℕ, List, [], ◌∷◌, All, map}
use Rattle.std.proofs.Common.{refl, sym, ap, subst, Contains}
use Rattle.std.specs.Prelude.{is_some, find}
use Rattle.std.specs.Str.{bytes_eq}
use Rattle.std.proofs.lemmas.List.Elements.{All-map}
use Rattle.std.proofs.lemmas.Simd.{map-map}
use Rattle.portal_base.specs.Moment.{IsMoment}
use Rattle.portal_base.specs.Ordered.{IsAscending, ascending}
use Rattle.portal_base.proofs.Unique.{IsIn}
use Rattle.portal_base.proofs.Upserted.{All-IsIn, All-each}
use Rattle.org_roles.specs.PeopleLists.{PeopleLists}
use Rattle.org_roles.specs.declared.entry.Membership.{Membership}
use Rattle.org_roles.specs.declared.entry.Org.{Org}
use Rattle.dataset_answers.specs.Sound.{OrgExists}
use Rattle.dataset_rows.specs.Rows.{IsWellTyped}
use Rattle.datastore_answers.specs.Tables.{tables_of}
use Rattle.datastore_answers.specs.declared.resource_table.ResourceTable.{ResourceTable}
use Rattle.harvest_rows.specs.KeptHarvests.{kept_job_cmp}
use Rattle.harvest_rows.specs.declared.kept_harvests.KeptHarvests.{KeptHarvests}
use Rattle.harvest_sources.specs.Sources.{SourceState}
use Rattle.harvest_stages.specs.AtRest.{IsAtRest, all_jobs, at_rest}
use Rattle.harvest_stages.specs.Stages.{sources_in}
use Rattle.harvest_stages.proofs.PartLemmas.{map-left}
use Rattle.harvest_stages.proofs.RestLemmas.{all_rest, sources_rest}
use Rattle.packages.specs.Order.{dataset_cmp}
use Rattle.packages.specs.Shelf.{datasets_of}
use Rattle.packages.specs.declared.package.Package.{Package}
use Rattle.packages.proofs.FindLemmas.{IsIn-map, map-IsIn}
use Rattle.portal_rows.specs.KeptValues.{AreKeptValues}
use Rattle.portal_rows.specs.OrgRows.{IsOrgWithRoles}
use Rattle.portal_rows.specs.declared.kept_values.KeptValues.{KeptValues}
use Rattle.portal_rows.specs.declared.org_reading.OrgWithRoles.{OrgWithRoles}
use Rattle.portal_state.specs.Indexes.{IsIndexed}
use Rattle.portal_state.specs.Parts.{IsConsistent, state_of}
use Rattle.portal_core.specs.Restored.{AreHarvestsOf, ArePeopleOf, AreShelvable, AreTablesOf}
use Rattle.portal_state.specs.State.{State, quota_used_cmp}
use Rattle.portal_state.specs.Typed.{IsTyped}
use Rattle.portal_state.specs.Valid.{HasHome, IsSoundAmong, IsValid}
use Rattle.portal_state.specs.Values.{harvests_of, values_of, with_roles}
use Rattle.portal_state.specs.declared.parts.Parts.{Parts}
use Rattle.portal_core.proofs.RestoredSources.{typed-at_rest}
use Rattle.portal_core.proofs.SoundAmong.{same-among}

-- ---- organizations

-- The organizations with their roles have these organizations.
orgs-back : (roles : List Membership) (orgs : List Org)
    → map (λ (o : OrgWithRoles). o.org) (map (with_roles roles) orgs) ≡ orgs
orgs-back roles [] = refl
orgs-back roles (o ∷ orgs) = ap (λ (l : List Org). o ∷ l) (orgs-back roles orgs)

pub same-orgs : (one other : PeopleLists) (kept : List OrgWithRoles) → map (with_roles one.roles) one.orgs ≡ kept
    → map (with_roles other.roles) other.orgs ≡ kept → one.orgs ≡ other.orgs
same-orgs one other kept first second =
    sym (orgs-back one.roles one.orgs)
    ∙ ap (map (λ (o : OrgWithRoles). o.org)) (first ∙ sym second)
    ∙ orgs-back other.roles other.orgs

-- ---- the state of the parts

pub parts-consistent : (values : KeptValues) (harvests : KeptHarvests) (parts : Parts) → AreKeptValues values
    → ArePeopleOf values.orgs parts.people.people
    → AreShelvable parts.people.people (sources_in parts.sources) values.datasets
    → datasets_of parts.shelf ≡ values.datasets → IsIndexed parts.shelf parts.indexes
    → AreTablesOf (datasets_of parts.shelf) values.tables (tables_of parts.tables)
    → AreHarvestsOf parts.people.people harvests (sources_in parts.sources) → parts.quota_used.used ≡ []
    → IsConsistent parts
parts-consistent values harvests parts kept people shelvable datasets shelved tables sources none = record {
  valid = record {
    people = people.sorted;
    orgs = people.named;
    roles = people.roles_have_orgs;
    datasets = subst (IsAscending dataset_cmp) (sym datasets) kept.datasets_ascend;
    names = subst (λ (ds : List Package). (d e : Package) → Contains ds d → Contains ds e → d.name ≡ e.name → d ≡ e)
        (sym datasets) shelvable.names;
    sound = subst (All (IsSoundAmong parts.people.people (sources_in parts.sources))) (sym datasets) shelvable.sound;
    tables = tables.consistent;
    homes = tables.homes;
    sources = sources.valid;
    owners = sources.owners;
    quota_used = subst (IsAscending quota_used_cmp) (sym none) tt;
  };
  shelved = shelved;
}

pub parts-values : (values : KeptValues) (parts : Parts) → ArePeopleOf values.orgs parts.people.people
    → datasets_of parts.shelf ≡ values.datasets
    → AreTablesOf (datasets_of parts.shelf) values.tables (tables_of parts.tables) → values_of (state_of parts) ≡ values
parts-values values parts people datasets tables = λ i. record {
  orgs = people.orgs i;
  datasets = datasets i;
  tables = tables.same i;
}

pub parts-harvests : (harvests : KeptHarvests) (parts : Parts)
    → AreHarvestsOf parts.people.people harvests (sources_in parts.sources) → harvests_of (state_of parts) ≡ harvests
parts-harvests harvests parts sources =
    let jobs : (harvests_of (state_of parts)).jobs ≡ harvests.jobs =
    ap (λ (ss : List SourceState). ascending kept_job_cmp (all_jobs ss))
    (map-left at_rest (sources_in parts.sources) (All-IsIn IsAtRest (sources_in parts.sources) sources.rest))
    ∙ sources.jobs in
    λ i. record { sources = sources.bare i; jobs = jobs i }

orgs-created : (roles : List Membership) (orgs : List Org) (kept : List OrgWithRoles)
    → map (with_roles roles) orgs ≡ kept → All IsOrgWithRoles kept → All (λ (o : Org). IsMoment o.created) orgs
orgs-created roles orgs kept same all =
    All-each (λ (o : Org). IsMoment o.created) orgs
    (λ o m. (All-IsIn IsOrgWithRoles kept all (with_roles roles o)
    (subst (IsIn (with_roles roles o)) same (IsIn-map (with_roles roles) o orgs m))).created)

pub parts-typed : (values : KeptValues) (harvests : KeptHarvests) (parts : Parts) → AreKeptValues values
    → ArePeopleOf values.orgs parts.people.people → datasets_of parts.shelf ≡ values.datasets
    → AreTablesOf (datasets_of parts.shelf) values.tables (tables_of parts.tables)
    → AreHarvestsOf parts.people.people harvests (sources_in parts.sources) → IsTyped (state_of parts)
parts-typed values harvests parts kept people datasets tables sources = record {
  orgs = orgs-created parts.people.people.roles parts.people.people.orgs values.orgs people.orgs kept.orgs;
  datasets = subst (All IsWellTyped) (sym datasets) kept.datasets;
  tables = tables.sized;
  targets = tables.targets;
  sources = sources.typed;
}

-- ---- no state has these values

-- An organization exists among other people with the same organizations.
same-owner : (one other : PeopleLists) (name : List ℕ) → one.orgs ≡ other.orgs → OrgExists one name → OrgExists other name
same-owner one other name same is =
    ap (λ (orgs : List Org). is_some (find (λ o. bytes_eq o.name name) orgs)) (sym same) ∙ is

-- Each organization of a valid state has a name.
pub no-people : (values : KeptValues) → (All (λ (o : OrgWithRoles). o.org.name ≢ []) values.orgs → ⊥) → (state : State)
    → IsValid state → values_of state ≡ values → ⊥
no-people values none state valid same =
    none
    (subst (All (λ (o : OrgWithRoles). o.org.name ≢ [])) (ap (λ (v : KeptValues). v.orgs) same)
    (All-each (λ (o : OrgWithRoles). o.org.name ≢ []) (map (with_roles state.people.roles) state.people.orgs)
    (λ o m.
    let w = map-IsIn (with_roles state.people.roles) o state.people.orgs m in
    subst (λ (k : OrgWithRoles). k.org.name ≢ []) (sym w.2)
    (All-IsIn (λ (x : Org). x.name ≢ []) state.people.orgs valid.orgs w.0 w.1))))

-- Its sources at rest may be the sources of a state with its people,
pub no-sources : (values : KeptValues) (harvests : KeptHarvests) (people : PeopleLists) → ArePeopleOf values.orgs people
    → ((sources : List SourceState) → AreHarvestsOf people harvests sources → ⊥) → (state : State) → IsValid state
    → IsTyped state → values_of state ≡ values → harvests_of state ≡ harvests → ⊥
no-sources values harvests people of none state valid typed same own =
    let orgs : state.people.orgs ≡ people.orgs =
    same-orgs state.people people values.orgs (ap (λ (v : KeptValues). v.orgs) same) of.orgs in
    none (map at_rest state.sources) (record {
      bare = map-map (λ (s : SourceState). s.source) at_rest state.sources ∙ ap (λ (h : KeptHarvests). h.sources) own;
      jobs = ap (λ (h : KeptHarvests). h.jobs) own;
      valid = sources_rest state.sources valid.sources;
      owners = All-map (λ (s : SourceState). OrgExists people s.source.owner_org) at_rest state.sources
          (All-each (λ (s : SourceState). OrgExists people s.source.owner_org) state.sources
          (λ s m. same-owner state.people people s.source.owner_org orgs
          (All-IsIn (λ (t : SourceState). OrgExists state.people t.source.owner_org) state.sources valid.owners s m)));
      rest = all_rest state.sources;
      typed = typed-at_rest state.sources typed.sources;
    })

-- its datasets may stand on one shelf,
pub no-shelf : (values : KeptValues) (harvests : KeptHarvests) (people : PeopleLists) (sources : List SourceState)
    → ArePeopleOf values.orgs people → AreHarvestsOf people harvests sources
    → (AreShelvable people sources values.datasets → ⊥) → (state : State) → IsValid state → values_of state ≡ values
    → harvests_of state ≡ harvests → ⊥
no-shelf values harvests people sources of restored none state valid same own =
    none (subst (AreShelvable people sources) (ap (λ (v : KeptValues). v.datasets) same) (record {
      sound = All-each (IsSoundAmong people sources) state.datasets (λ d m.
          same-among state.people people state.sources sources d
          (same-orgs state.people people values.orgs (ap (λ (v : KeptValues). v.orgs) same) of.orgs)
          (ap (λ (h : KeptHarvests). h.sources) own ∙ sym restored.bare)
          (All-IsIn (IsSoundAmong state.people state.sources) state.datasets valid.sound d m));
      names = valid.names;
    }))

-- and its tables may be the tables of a state with its datasets.
pub no-tables : (values : KeptValues) (datasets : List Package) → datasets ≡ values.datasets
    → ((tables : List ResourceTable) → AreTablesOf datasets values.tables tables → ⊥) → (state : State) → IsValid state
    → IsTyped state → values_of state ≡ values → ⊥
no-tables values datasets are none state valid typed same =
    none state.tables (record {
      same = ap (λ (v : KeptValues). v.tables) same;
      consistent = valid.tables;
      homes = subst (λ (ds : List Package). All (HasHome ds) state.tables)
          (ap (λ (v : KeptValues). v.datasets) same ∙ sym are) valid.homes;
      sized = typed.tables;
      targets = typed.targets;
    })

-- What a portal is opened with is valid, and a change that is fit keeps it so.
use Rattle.std.proofs.Common.{◌≡◌, ◌≢◌, ℕ, Bool, true, false, cond, not, ◌&&◌, List, [], ◌∷◌, length, Option, Some}
use Rattle.std.proofs.Common.{None}
use Rattle.std.proofs.Common.{is_some, refl, sym, ap, ◌∙◌, subst, inl, inr, ◌⊎◌, nat_lt, ◌||◌, ◌+◌, ◌==◌, slice_get, true≢false}
use Rattle.std.specs.declared.cmp.Ordering.{Ordering}
use Rattle.std.specs.Prelude.{filter, find, is_none, if◌then◌else◌}
use Rattle.std.specs.List.{All, Contains, list_any, list_all}
use Rattle.std.specs.Ordering.{is_eq}
use Rattle.std.specs.Str.{bytes_eq}
use Rattle.std.proofs.lemmas.Slice.Eq.{bytes_eq-Decides}
use Rattle.std.proofs.lemmas.List.Elements.{All-filter, All-nil, All-weaker}
use Rattle.std.proofs.lemmas.List.Sums.{AllPass-from_list_all}
use Rattle.std.proofs.lemmas.Map.Text.{is_eq-slice_cmp}
use Rattle.portal_base.specs.declared.caller.Caller.{Caller}
use Rattle.portal_base.specs.declared.caller.Caller.TheVariants.{Anonymous, Named}
use Rattle.portal_base.specs.Ordered.{IsAscending, ascending, upserted, dropped}
use Rattle.portal_base.proofs.Filtered.{IsAscending-filter, IsIn-filter, IsIn-list_all, filter-IsIn, filter-all}
use Rattle.portal_base.proofs.Filtered.{is_some-find_any}
use Rattle.portal_base.proofs.Inserted.{list_any-ascending, both_false}
use Rattle.portal_base.proofs.Upserted.{All-each, All-IsIn, All-dropped, All-upserted}
use Rattle.portal_base.proofs.Upserted.{IsAscending-upserted, IsAscending-dropped, Contains-upserted, Contains-dropped}
use Rattle.portal_base.proofs.Upserted.{dropped-Contains, upserted-Contains, upserted-Contains_other}
use Rattle.portal_base.proofs.Unique.{Contains-IsIn, IsIn, IsIn-Contains, ascending-IsIn}
use Rattle.org_roles.specs.Changed.{changed_people, org_fault}
use Rattle.org_roles.specs.Order.{org_cmp, membership_cmp, org_at}
use Rattle.org_roles.specs.PeopleLists.{PeopleLists, org_in, is_user_in, role_in}
use Rattle.org_roles.specs.declared.change.OrgChange.{OrgChange}
use Rattle.org_roles.specs.declared.change.OrgChange.TheVariants.{Create, Patch, Remove, SetRole, DropRole}
use Rattle.org_roles.specs.declared.change.OrgFault.{OrgFault}
use Rattle.org_roles.specs.declared.change.OrgFault.TheVariants.{OrgNameInUse, UnknownOrg, UnknownUser, NoRole}
use Rattle.org_roles.specs.declared.entry.Membership.{Membership}
use Rattle.org_roles.specs.declared.entry.Org.{Org}
use Rattle.org_roles.specs.declared.role.Role.{Role}
use Rattle.org_roles.proofs.ChangeLemmas.{AreSorted-changed, RolesHaveOrgs-changed, org_in-without_org_other}
use Rattle.org_roles.proofs.ChangeLemmas.{org_exists-with_org}
use Rattle.org_roles.proofs.PeopleLemmas.{AreSorted-ascending}
use Rattle.packages.proofs.FindLemmas.{IsIn-map}
use Rattle.packages.specs.Order.{dataset_cmp, dataset_cmp_total}
use Rattle.packages.specs.declared.package.Package.{Package}
use Rattle.dataset_answers.specs.Changed.{dataset_at_id, has_id, has_name}
use Rattle.dataset_answers.specs.Fit.{IsFitDataset, KeepsResources}
use Rattle.dataset_answers.specs.Sound.{IsSound, OrgExists}
use Rattle.dataset_answers.specs.declared.change.DatasetChange.{DatasetChange}
use Rattle.dataset_answers.specs.declared.change.DatasetChange.TheVariants as dataset
use Rattle.datastore_answers.proofs.ChangeLemmas.{fit-kept}
use Rattle.datastore_answers.proofs.DropLemmas.{drops-kept, none-breaks_reference}
use Rattle.datastore_answers.proofs.FitLemmas.{put_into-address}
use Rattle.datastore_answers.proofs.ReferenceLemmas.{each-kept}
use Rattle.datastore_answers.proofs.KeepLemmas.{number_itself}
use Rattle.datastore_answers.specs.Changed.{TableChange, changed_tables, without_rows, put_into, with_table_at}
use Rattle.datastore_answers.specs.Changed as table
use Rattle.datastore_answers.specs.Fit.{IsFitTable}
use Rattle.datastore_answers.specs.Summaries.{summaries_of}
use Rattle.datastore_answers.specs.Consistent.{AreConsistent}
use Rattle.datastore_answers.specs.Order.{at_address, is_at, table_cmp}
use Rattle.datastore_answers.specs.Tables.{tables_kept}
use Rattle.datastore_answers.specs.declared.address.Address.{Address}
use Rattle.datastore_answers.specs.declared.resource_table.ResourceTable.{ResourceTable}
use Rattle.harvest_answers.specs.Fit.{IsFitSource}
use Rattle.harvest_results.specs.Effects.{is_of_source}
use Rattle.harvest_sources.specs.Entries.{changed_sources, source_fault}
use Rattle.harvest_sources.specs.Sources.{HasItsJobs, SourceState}
use Rattle.harvest_sources.specs.declared.change.SourceChange.{SourceChange}
use Rattle.harvest_sources.specs.declared.change.SourceChange.TheVariants as source
use Rattle.harvest_sources.specs.declared.change.StageFault.{StageFault}
use Rattle.harvest_sources.specs.declared.change.StageFault.TheVariants.{SourceNameInUse}
use Rattle.harvest_stages.specs.Ready.{IsNamed}
use Rattle.organization_answers.specs.Fit.{IsFitOrg}
use Rattle.organization_answers.specs.Owners.{owners_of}
use Rattle.packages.specs.declared.package.Resource.{Resource}
use Rattle.visibility.specs.TableSummary.{is_among, breaks_references}
use Rattle.portal_calls.specs.declared.call.Call.{Call}
use Rattle.visibility.specs.Visibility.{is_harvested, is_public_if_harvested, is_public}
use Rattle.portal_state.specs.Answer.{call_view_of}
use Rattle.portal_state.specs.Planned.{PlannedChange, People, Datasets, Tables, Sources, claims_of}
use Rattle.portal_state.specs.Changed.{AreUnused, changed, charged, datasets_left, is_in_use}
use Rattle.portal_state.specs.Fit.{IsFit}
use Rattle.portal_state.specs.Opened.{opened, is_opening}
use Rattle.portal_state.specs.Parts.{IsTakenBySources}
use Rattle.portal_state.specs.State.{State, quota_used_cmp, quota_used_cmp_total, accepted_bytes_of_user}
use Rattle.portal_state.proofs.Fitting.{fit_in_state}
use Rattle.portal_state.proofs.Harvested.{edited-made, harvested-among, of-source_harvested, sound-in, sound-made}
use Rattle.portal_state.proofs.Harvested.{source-named}
use Rattle.portal_state.proofs.Kept.{All-mapped, IsIn-slice_get, unique-at}
use Rattle.portal_state.proofs.SourceKeeping.{AddsOwner, HasOwner, IsSpared, named-in, owners-kept, sources-kept}
use Rattle.portal_state.proofs.SourceKeeping.{sources-stay, unfaulted-source}
use Rattle.portal_state.proofs.TableViewing.{any-among, made-address}
use Rattle.portal_state.specs.Valid.{HasHome, IsSoundAmong, IsValid}
use Rattle.portal_state.specs.View.{view_of}
use Rattle.portal_state.specs.declared.change.Claim.TheVariants.{OrgName, DatasetName, DatasetId, SourceName}
use Rattle.portal_state.specs.declared.opening.Opening.{Opening}

-- the source's organization exists
abbrev IsOwned : PeopleLists → SourceState → Type 0
IsOwned people s = HasOwner (OrgExists people) s

-- ---- what a portal is opened with

both : (a b : Bool) → (a && b) ≡ true → (a ≡ true) × (b ≡ true)
both true b is = (refl, is)
both false b is = absurd (cc)

not_empty : (text : List ℕ) → nat_lt 0 (length text) ≡ true → text ≢ []
not_empty [] long = absurd (cc)
not_empty (b ∷ bs) long = λ e. absurd (cc)

All-ascending : {X : Type 0} (P : X → Type 0) (cmp : X → X → Ordering) (xs : List X) → All P xs
    → All P (ascending cmp xs)
All-ascending P cmp xs all = All-each P (ascending cmp xs) (λ z m. All-IsIn P xs all z (ascending-IsIn cmp z xs m))

-- an organization of the list is one of the state
stands-opened : (orgs : List Org) (org : List ℕ) (people : PeopleLists) → people.orgs ≡ ascending org_cmp orgs
    → list_any (λ o. bytes_eq o.name org) orgs ≡ true → OrgExists people org
stands-opened orgs org people same any =
    is_some-find_any (λ o. bytes_eq o.name org) people.orgs
    ∙ ap (list_any (λ (o : Org). bytes_eq o.name org)) same
    ∙ list_any-ascending org_cmp (λ o. bytes_eq o.name org) orgs ∙ any

pub opened_valid : (opening : Opening) → is_opening opening ≡ true → IsValid (opened opening)
opened_valid opening fit =
    let homes = both _ _ fit in
    let named = both _ _ homes.0 in
    let pairs = both _ _ named.0 in
    let names = both _ _ pairs.0 in
    record {
      people = AreSorted-ascending opening.users _ opening.orgs _ opening.roles _ names.0 names.1 pairs.1 refl refl
          refl;
      orgs = All-ascending (λ (o : Org). o.name ≢ []) org_cmp opening.orgs
          (All-weaker (λ (o : Org). nat_lt 0 (length o.name) ≡ true) (λ (o : Org). o.name ≢ [])
          (λ o long. not_empty o.name long) opening.orgs
          (AllPass-from_list_all (λ (o : Org). nat_lt 0 (length o.name)) opening.orgs named.1));
      roles = All-ascending (λ (r : Membership). OrgExists (opened opening).people r.org) membership_cmp opening.roles
          (All-weaker (λ (r : Membership). list_any (λ (o : Org). bytes_eq o.name r.org) opening.orgs ≡ true)
          (λ (r : Membership). OrgExists (opened opening).people r.org)
          (λ r any. stands-opened opening.orgs r.org (opened opening).people refl any) opening.roles
          (AllPass-from_list_all (λ (r : Membership). list_any (λ (o : Org). bytes_eq o.name r.org) opening.orgs)
          opening.roles homes.1));
      datasets = tt;
      names = λ d e in_d in_e same. absurd (IsIn-Contains d [] in_d);
      sound = All-nil (IsSoundAmong (opened opening).people []);
      tables = each-kept [] tt (λ t m. absurd m);
      homes = All-nil (HasHome []);
      sources = record {
        ascending = tt;
        named = All-nil (λ (s : SourceState). s.source.name ≢ []);
        jobs = All-nil HasItsJobs;
      };
      owners = All-nil (IsOwned (opened opening).people);
      quota_used = tt;
    }

-- ---- what is in use

pub first_unused : {X : Type 0} (test : X → Bool) (x : X) (xs : List X) → find test (x ∷ xs) ≡ None
    → (test x ≡ false) × (find test xs ≡ None)
first_unused {X} test x xs none = by (test x) none
  where
    by : (b : Bool) → cond b (Some x) (find test xs) ≡ None → (b ≡ false) × (find test xs ≡ None)
    by true is = absurd (cc)
    by false is = (refl, is)

none_of : {X : Type 0} (o : Option X) → is_some o ≡ false → is_none o ≡ true
none_of None is = refl
none_of (Some x) is = absurd (cc)

-- ---- people that change

stands_and : (there : Option Org) (rest : Option OrgFault) → is_some there ≡ true → is_none rest ≡ true
    → is_none (if is_none there then Some UnknownOrg else rest) ≡ true
stands_and None rest stands none = absurd (cc)
stands_and (Some org) rest stands none = none

known_and : (known : Bool) (rest : Option OrgFault) → known ≡ true → is_none rest ≡ true
    → is_none (if not known then Some UnknownUser else rest) ≡ true
known_and true rest is none = none
known_and false rest is none = absurd (cc)

has_role : (role : Option Role) → is_some role ≡ true → is_none (if is_none role then Some NoRole else None) ≡ true
has_role None is = absurd (cc)
has_role (Some role) is = refl

free_name : (there : Option Org) → is_some there ≡ false
    → is_none (if is_some there then Some OrgNameInUse else None) ≡ true
free_name None is = refl
free_name (Some org) is = absurd (cc)

-- a change that is fit, and claims nothing that is in use, is refused for nothing
pub unfaulted : (change : OrgChange) (call : Call) (state : State)
    → IsFitOrg (call_view_of call state) (owners_of state.sources) change → AreUnused state (claims_of (People change)) → is_none (org_fault change state.people) ≡ true
unfaulted (Create org) call state fit unused =
    free_name (org_in state.people org.name) (first_unused (is_in_use state) (OrgName org.name) [] unused).0
unfaulted (Patch org) call state fit unused = stands_and (org_in state.people org.name) None fit.exists refl
unfaulted (Remove name) call state fit unused = stands_and (org_in state.people name) None fit.own.exists refl
unfaulted (SetRole org user role) call state fit unused =
    stands_and (org_in state.people org) _ fit.own.exists
    (known_and (is_user_in state.people user) None fit.user_exists refl)
unfaulted (DropRole org user) call state fit unused =
    stands_and (org_in state.people org) _ fit.fit.own.exists
    (known_and (is_user_in state.people user) _ fit.fit.user_exists
    (has_role (role_in state.people org user) fit.has_role))

-- what is found passes the test and is in the list
found-is : {X : Type 0} (test : X → Bool) (xs : List X) → is_some (find test xs) ≡ true
    → (x : X) × IsIn x xs × (test x ≡ true)
found-is test [] some = absurd (cc)
found-is {X} test (x ∷ xs) some = by (test x) refl some (found-is test xs)
  where
    by : (b : Bool) → test x ≡ b → is_some (cond b (Some x) (find test xs)) ≡ true
        → (is_some (find test xs) ≡ true → (z : X) × IsIn z xs × (test z ≡ true))
        → (z : X) × IsIn z (x ∷ xs) × (test z ≡ true)
    by true is there rest = (x, inl refl, is)
    by false is there rest = let z = rest there in (z.0, inr z.1, z.2)

-- an organization of the state has a name
named-present : (people : PeopleLists) (name : List ℕ) → All (λ o. o.name ≢ []) people.orgs → OrgExists people name
    → name ≢ []
named-present people name named stands =
    let o = found-is (λ (o : Org). bytes_eq o.name name) people.orgs stands in
    subst (λ (n : List ℕ). n ≢ []) ((bytes_eq-Decides o.0.name name).0 o.2)
    (All-IsIn (λ (o : Org). o.name ≢ []) people.orgs named o.0 o.1)

-- the name of every organization that is set isn't empty
orgs-named : (change : OrgChange) (call : Call) (state : State) → All (λ o. o.name ≢ []) state.people.orgs
    → IsFitOrg (call_view_of call state) (owners_of state.sources) change → All (λ o. o.name ≢ []) (changed_people change state.people).orgs
orgs-named (Create org) call state named fit =
    All-upserted (λ (o : Org). o.name ≢ []) org_cmp org state.people.orgs fit.named named
orgs-named (Patch org) call state named fit =
    All-upserted (λ (o : Org). o.name ≢ []) org_cmp org state.people.orgs
    (named-present state.people org.name named fit.exists) named
orgs-named (Remove name) call state named fit =
    All-dropped (λ (o : Org). o.name ≢ []) (org_at name) state.people.orgs named
orgs-named (SetRole org user role) call state named fit = named
orgs-named (DropRole org user) call state named fit = named

-- what none of the items passes no item passes
none_passes : {X : Type 0} (test : X → Bool) (z : X) (xs : List X) → list_any test xs ≡ false → IsIn z xs
    → test z ≡ false
none_passes test z [] none m = absurd m
none_passes test z (x ∷ xs) none (inl e) = ap test e ∙ (both_false (test x) (list_any test xs) none).0
none_passes test z (x ∷ xs) none (inr m) = none_passes test z xs (both_false (test x) (list_any test xs) none).1 m

-- the change doesn't remove that organization
abbrev Spares : OrgChange → List ℕ → Type 0
Spares (Create org) owner = Unit {0}
Spares (Patch org) owner = Unit {0}
Spares (Remove name) owner = bytes_eq owner name ≡ false
Spares (SetRole org user role) owner = Unit {0}
Spares (DropRole org user) owner = Unit {0}

-- an organization that isn't removed exists after the change
owner-left : (change : OrgChange) (people : PeopleLists) (owner : List ℕ) → Spares change owner
    → OrgExists people owner → OrgExists (changed_people change people) owner
owner-left (Create org) people owner spared stands = org_exists-with_org org people owner stands
owner-left (Patch org) people owner spared stands = org_exists-with_org org people owner stands
owner-left (Remove name) people owner spared stands =
    ap (λ (o : Option Org). is_some o)
    (org_in-without_org_other people name owner
    (λ is. let own : bytes_eq owner name ≡ true = (bytes_eq-Decides owner name).1 is in cc))
    ∙ stands
owner-left (SetRole org user role) people owner spared stands = stands
owner-left (DropRole org user) people owner spared stands = stands

-- the organizations of datasets aren't removed,
home-spared : (change : OrgChange) (call : Call) (state : State) (d : Package) → IsIn d state.datasets
    → IsFitOrg (call_view_of call state) (owners_of state.sources) change → Spares change d.owner_org
home-spared (Create org) call state d within fit = tt
home-spared (Patch org) call state d within fit = tt
home-spared (Remove name) call state d within fit =
    none_passes (λ (e : Package). bytes_eq e.owner_org name) d state.datasets fit.empty within
home-spared (SetRole org user role) call state d within fit = tt
home-spared (DropRole org user) call state d within fit = tt

-- nor are those of sources
owner-spared : (change : OrgChange) (call : Call) (state : State) (s : SourceState) → IsIn s state.sources
    → IsFitOrg (call_view_of call state) (owners_of state.sources) change → Spares change s.source.owner_org
owner-spared (Create org) call state s within fit = tt
owner-spared (Patch org) call state s within fit = tt
owner-spared (Remove name) call state s within fit =
    none_passes (λ (owner : List ℕ). bytes_eq owner name) s.source.owner_org (owners_of state.sources) fit.unharvested
    (IsIn-map (λ (t : SourceState). t.source.owner_org) s state.sources within)
owner-spared (SetRole org user role) call state s within fit = tt
owner-spared (DropRole org user) call state s within fit = tt

at-home : (people : PeopleLists) (d : Package) (was : PeopleLists) → IsSound was d → OrgExists people d.owner_org
    → IsSound people d
at-home people d was is stands = record {
  not_harvested = is.not_harvested;
  id = is.id;
  name = is.name;
  org = stands;
  resources = is.resources;
  tags = is.tags;
}

people-valid : (change : OrgChange) (call : Call) (state : State) → IsValid state
    → IsFitOrg (call_view_of call state) (owners_of state.sources) change → AreUnused state (claims_of (People change))
    → IsValid (changed (People change) state)
people-valid change call state valid fit unused = record {
  people = AreSorted-changed change state.people valid.people;
  orgs = orgs-named change call state valid.orgs fit;
  roles = RolesHaveOrgs-changed change state.people (unfaulted change call state fit unused) valid.roles;
  datasets = valid.datasets;
  names = valid.names;
  sound = All-each (IsSoundAmong (changed_people change state.people) state.sources) state.datasets
      (λ d within. sound-left d within (sound-in state d valid within));
  tables = valid.tables;
  homes = valid.homes;
  sources = valid.sources;
  owners = All-each (IsOwned (changed_people change state.people)) state.sources
      (λ s within. owner-left change state.people s.source.owner_org (owner-spared change call state s within fit)
      (All-IsIn (IsOwned state.people) state.sources valid.owners s within));
  quota_used = valid.quota_used;
}
  where
    sound-left : (d : Package) → IsIn d state.datasets → IsSoundAmong state.people state.sources d
        → IsSoundAmong (changed_people change state.people) state.sources d
    sound-left d within (inl was) =
        inl (at-home (changed_people change state.people) d state.people was
        (owner-left change state.people d.owner_org (home-spared change call state d within fit) was.org))
    sound-left d within (inr from) = inr from

-- ---- datasets that change

-- two texts that are one are equal
same_text : (a b : List ℕ) → a ≡ b → bytes_eq a b ≡ true
same_text a b e = (bytes_eq-Decides a b).1 e

-- where what was like the new dataset had its name, and no other has it, names stay distinct
names-placed : (d : Package) (datasets : List Package)
    → ((e f : Package) → Contains datasets e → Contains datasets f → e.name ≡ f.name → e ≡ f)
    → ((e : Package) → Contains datasets e → e.name ≡ d.name → is_eq (dataset_cmp e d) ≡ true)
    → (e f : Package) → Contains (upserted dataset_cmp d datasets) e → Contains (upserted dataset_cmp d datasets) f
    → e.name ≡ f.name → e ≡ f
names-placed d datasets distinct free e f in_e in_f same =
    by (Contains-upserted dataset_cmp d e datasets in_e) (Contains-upserted dataset_cmp d f datasets in_f)
  where
    by : (e ≡ d) ⊎ (Contains datasets e × (is_eq (dataset_cmp e d) ≡ false))
        → (f ≡ d) ⊎ (Contains datasets f × (is_eq (dataset_cmp f d) ≡ false)) → e ≡ f
    by (inl is_e) (inl is_f) = is_e ∙ sym is_f
    by (inl is_e) (inr was_f) =
        let like : is_eq (dataset_cmp f d) ≡ true =
        free f was_f.0 (sym same ∙ ap (λ (x : Package). x.name) is_e) in
        let other : is_eq (dataset_cmp f d) ≡ false = was_f.1 in
        absurd (cc)
    by (inr was_e) (inl is_f) =
        let like : is_eq (dataset_cmp e d) ≡ true =
        free e was_e.0 (same ∙ ap (λ (x : Package). x.name) is_f) in
        let other : is_eq (dataset_cmp e d) ≡ false = was_e.1 in
        absurd (cc)
    by (inr was_e) (inr was_f) = distinct e f was_e.0 was_f.0 same

-- Where a dataset is put that may exist, that has its name alone, and whose tables have their homes, the state is valid.
pub placed-valid : (d : Package) (tables : List ResourceTable) (state : State) → IsValid state
    → IsSoundAmong state.people state.sources d
    → ((e : Package) → Contains state.datasets e → e.name ≡ d.name → is_eq (dataset_cmp e d) ≡ true)
    → AreConsistent tables → All (HasHome (upserted dataset_cmp d state.datasets)) tables
    → IsValid (record state { datasets = upserted dataset_cmp d state.datasets; tables = tables })
placed-valid d tables state valid sound free kept homes = record {
  people = valid.people;
  orgs = valid.orgs;
  roles = valid.roles;
  datasets = IsAscending-upserted dataset_cmp dataset_cmp_total d state.datasets valid.datasets;
  names = names-placed d state.datasets valid.names free;
  sound = All-upserted (IsSoundAmong state.people state.sources) dataset_cmp d state.datasets sound valid.sound;
  tables = kept;
  homes = homes;
  sources = valid.sources;
  owners = valid.owners;
  quota_used = valid.quota_used;
}

-- ---- the tables of datasets

-- no table is of a dataset whose id isn't in use
pub no-tables : (d : Package) (state : State) → IsValid state → AreUnused state (claims_of (Datasets (dataset.Create d)))
    → (t : ResourceTable) → IsIn t state.tables → bytes_eq t.address.dataset d.id ≡ false
no-tables d state valid unused t within =
    let unnamed = first_unused (is_in_use state) (DatasetName d.name) (DatasetId d.id ∷ []) unused in
    let unknown : has_id d.id state.datasets ≡ false =
    (first_unused (is_in_use state) (DatasetId d.id) [] unnamed.1).0 in
    let home = All-IsIn (HasHome state.datasets) state.tables valid.homes t within in
    ap (λ (id : List ℕ). bytes_eq id d.id) (sym home.id)
    ∙ none_passes (λ (e : Package). bytes_eq e.id d.id) home.dataset state.datasets unknown
    (IsIn-Contains home.dataset state.datasets home.is_present)

-- A table of another dataset keeps its home where a dataset is inserted, and a table of that dataset has its home there, if
-- the dataset wasn't harvested.
pub home-placed : (d : Package) (datasets : List Package) (t : ResourceTable) → HasHome datasets t
    → (bytes_eq t.address.dataset d.id ≡ false)
    ⊎ ((is_among d.resources t.address.number ≡ true) × (is_harvested d ≡ false))
    → HasHome (upserted dataset_cmp d datasets) t
home-placed d datasets t home known = by (bytes_eq t.address.dataset d.id) refl known
  where
    other : bytes_eq t.address.dataset d.id ≡ false → HasHome (upserted dataset_cmp d datasets) t
    other is = record {
      dataset = home.dataset;
      is_present = upserted-Contains_other dataset_cmp d home.dataset datasets home.is_present
          (is_eq-slice_cmp home.dataset.id d.id ∙ ap (λ (id : List ℕ). bytes_eq id d.id) home.id ∙ is);
      id = home.id;
      made = home.made;
      resource = home.resource;
    }

    by : (b : Bool) → bytes_eq t.address.dataset d.id ≡ b
        → (bytes_eq t.address.dataset d.id ≡ false)
        ⊎ ((is_among d.resources t.address.number ≡ true) × (is_harvested d ≡ false))
        → HasHome (upserted dataset_cmp d datasets) t
    by b is (inl apart) = other apart
    by false is (inr among) = other is
    by true is (inr among) = record {
      dataset = d;
      is_present = upserted-Contains dataset_cmp d datasets;
      id = sym ((bytes_eq-Decides t.address.dataset d.id).0 is);
      made = among.1;
      resource = among.0;
    }

-- two datasets of one id are one
same-dataset : (datasets : List Package) → IsAscending dataset_cmp datasets → (d e : Package) → Contains datasets d
    → Contains datasets e → d.id ≡ e.id → d ≡ e
same-dataset datasets up d e in_d in_e same =
    unique-at dataset_cmp dataset_cmp_total datasets up d e (IsIn-Contains d datasets in_d)
    (IsIn-Contains e datasets in_e) (is_eq-slice_cmp d.id e.id ∙ same_text d.id e.id same)

-- where no resource goes all tables stay
all-stay : (old d : Package) (state : State) → IsValid state → Contains state.datasets old → old.id ≡ d.id
    → KeepsResources old d → tables_kept d.id d.resources state.tables ≡ state.tables
all-stay old d state valid stood is keeps =
    filter-all (λ t. not (bytes_eq t.address.dataset d.id) || is_among d.resources t.address.number) state.tables
    (λ t within. by t (All-IsIn (HasHome state.datasets) state.tables valid.homes t within)
    (bytes_eq t.address.dataset d.id) refl)
  where
    by : (t : ResourceTable) → HasHome state.datasets t → (b : Bool) → bytes_eq t.address.dataset d.id ≡ b
        → (not (bytes_eq t.address.dataset d.id) || is_among d.resources t.address.number) ≡ true
    by t home false other = ap (λ b. not b || is_among d.resources t.address.number) other
    by t home true own =
        let here : home.dataset ≡ old = same-dataset state.datasets valid.datasets home.dataset old home.is_present
        stood
        (home.id ∙ (bytes_eq-Decides t.address.dataset d.id).0 own ∙ sym is) in
        ap (λ b. not b || is_among d.resources t.address.number) own
        ∙ keeps t.address.number
        (subst (λ (e : Package). is_among e.resources t.address.number ≡ true) here home.resource)

-- the tables that stay where a dataset replaces another are kept
replaced-kept : (d : Package) (call : Call) (state : State) → IsValid state
    → IsFitDataset (call_view_of call state) (summaries_of state.tables) (dataset.Replace d)
    → AreConsistent (tables_kept d.id d.resources state.tables)
replaced-kept d call state valid fit = by fit.keeps_references
  where
    by : KeepsResources fit.old d ⊎ (breaks_references (summaries_of state.tables) d.id d.resources ≡ false)
        → AreConsistent (tables_kept d.id d.resources state.tables)
    by (inl keeps) = subst AreConsistent (sym (all-stay fit.old d state valid fit.is_present fit.id keeps)) valid.tables
    by (inr none) = drops-kept state.tables d.id d.resources valid.tables none

-- each of those has its home
replaced-homes : (d : Package) (state : State) → IsValid state → is_harvested d ≡ false
    → All (HasHome (upserted dataset_cmp d state.datasets)) (tables_kept d.id d.resources state.tables)
replaced-homes d state valid made =
    All-each (HasHome (upserted dataset_cmp d state.datasets)) (tables_kept d.id d.resources state.tables)
    (λ t m. let was = IsIn-filter
    (λ t. not (bytes_eq t.address.dataset d.id) || is_among d.resources t.address.number) t state.tables m in
    home-placed d state.datasets t (All-IsIn (HasHome state.datasets) state.tables valid.homes t was.0)
    (either (bytes_eq t.address.dataset d.id) (is_among d.resources t.address.number) was.1))
  where
    either : (a b : Bool) → (not a || b) ≡ true → (a ≡ false) ⊎ ((b ≡ true) × (is_harvested d ≡ false))
    either true b is = inr (is, made)
    either false b is = inl refl

-- where a dataset goes the tables of others keep their homes
left-homes : (id : List ℕ) (state : State) → IsValid state
    → All (HasHome (dropped (dataset_at_id id) state.datasets)) (tables_kept id [] state.tables)
left-homes id state valid =
    All-each (HasHome (dropped (dataset_at_id id) state.datasets)) (tables_kept id [] state.tables)
    (λ t m. let was = IsIn-filter (λ t. not (bytes_eq t.address.dataset id) || is_among [] t.address.number) t
    state.tables m in
    let home = All-IsIn (HasHome state.datasets) state.tables valid.homes t was.0 in record {
      dataset = home.dataset;
      is_present = dropped-Contains (dataset_at_id id) home.dataset state.datasets home.is_present
          (is_eq-slice_cmp home.dataset.id id ∙ ap (λ (i : List ℕ). bytes_eq i id) home.id
          ∙ apart (bytes_eq t.address.dataset id) was.1);
      id = home.id;
      made = home.made;
      resource = home.resource;
    })
  where
    apart : (a : Bool) → (not a || false) ≡ true → a ≡ false
    apart true is = absurd (cc)
    apart false is = refl

datasets-valid : (change : DatasetChange) (call : Call) (state : State) → IsValid state
    → IsFitDataset (call_view_of call state) (summaries_of state.tables) change → AreUnused state (claims_of (Datasets change))
    → IsValid (changed (Datasets change) state)
datasets-valid (dataset.Create d) call state valid fit unused =
    let unnamed : has_name d.name state.datasets ≡ false =
    (first_unused (is_in_use state) (DatasetName d.name) (DatasetId d.id ∷ []) unused).0 in
    placed-valid d state.tables state valid (inl fit.sound)
    (λ e within named. let taken : bytes_eq e.name d.name ≡ true = same_text e.name d.name named in
    let free : bytes_eq e.name d.name ≡ false =
    none_passes (λ (x : Package). bytes_eq x.name d.name) e state.datasets unnamed
    (IsIn-Contains e state.datasets within) in
    absurd (cc))
    valid.tables
    (All-each (HasHome (upserted dataset_cmp d state.datasets)) state.tables
    (λ t within. home-placed d state.datasets t
    (All-IsIn (HasHome state.datasets) state.tables valid.homes t within)
    (inl (no-tables d state valid unused t within))))
datasets-valid (dataset.Replace d) call state valid fit unused =
    let was : IsSound state.people fit.old =
    sound-made state.people state.sources fit.old valid.sources
    (sound-in state fit.old valid (IsIn-Contains fit.old state.datasets fit.is_present))
    (edited-made state.people call.caller fit.old fit.own) in
    let sound : IsSound state.people d = fit.sound was in
    placed-valid d (tables_kept d.id d.resources state.tables) state valid (inl sound)
    (λ e within named. let is : e ≡ fit.old = valid.names e fit.old within fit.is_present (named ∙ sym fit.name) in
    is_eq-slice_cmp e.id d.id ∙ same_text e.id d.id (ap (λ (x : Package). x.id) is ∙ fit.id))
    (replaced-kept d call state valid fit) (replaced-homes d state valid sound.not_harvested)
datasets-valid (dataset.Remove id) call state valid fit unused = record {
  people = valid.people;
  orgs = valid.orgs;
  roles = valid.roles;
  datasets = IsAscending-dropped dataset_cmp (dataset_at_id id) state.datasets valid.datasets;
  names = λ e f in_e in_f same. valid.names e f (Contains-dropped (dataset_at_id id) e state.datasets in_e).0
      (Contains-dropped (dataset_at_id id) f state.datasets in_f).0 same;
  sound = All-dropped (IsSoundAmong state.people state.sources) (dataset_at_id id) state.datasets valid.sound;
  tables = drops-kept state.tables id [] valid.tables (none-breaks_reference state.tables id);
  homes = left-homes id state valid;
  sources = valid.sources;
  owners = valid.owners;
  quota_used = valid.quota_used;
}

-- ---- tables that change

-- a resource that is at a position is among them
among-at : (resources : List Resource) (place : ℕ) (r : Resource) → slice_get resources place ≡ Some r
    → is_among resources r.number ≡ true
among-at resources place r there =
    any-among (λ (s : Resource). s.number == r.number) r resources (IsIn-slice_get resources place r there)
    (number_itself r.number)

-- what is made over keeps its home with its address
home-made : (datasets : List Package) (a : Address) (make : ResourceTable → ResourceTable)
    → ((t : ResourceTable) → (make t).address ≡ t.address) → (tables : List ResourceTable)
    → All (HasHome datasets) tables → All (HasHome datasets) (with_table_at a make tables)
home-made datasets a make same tables homes =
    All-mapped (HasHome datasets) (λ t. if is_at a t then make t else t) tables
    (λ t home. let there = made-address a make same t in record {
      dataset = home.dataset;
      is_present = home.is_present;
      id = home.id ∙ sym (ap (λ (b : Address). b.dataset) there);
      made = home.made;
      resource = subst (λ (b : Address). is_among home.dataset.resources b.number ≡ true) (sym there) home.resource;
    }) homes

tables-homes : (change : TableChange) (call : Call) (state : State) → IsValid state
    → IsFitTable (call_view_of call state) state.tables change
    → All (HasHome state.datasets) (changed_tables change state.tables)
tables-homes (table.Create t) call state valid fit =
    All-upserted (HasHome state.datasets) table_cmp t state.tables
    (record {
      dataset = fit.own.placed.dataset;
      is_present = fit.own.is_present;
      id = sym (ap (λ (a : Address). a.dataset) fit.own.here);
      made = edited-made state.people call.caller fit.own.placed.dataset fit.own.own;
      resource = subst (λ (a : Address). is_among fit.own.placed.dataset.resources a.number ≡ true)
          (sym fit.own.here)
          (among-at fit.own.placed.dataset.resources fit.own.placed.position fit.own.placed.resource fit.own.named);
    })
    valid.homes
tables-homes (table.Remove a) call state valid fit =
    All-dropped (HasHome state.datasets) (at_address a) state.tables valid.homes
tables-homes (table.Put a how records) call state valid fit =
    home-made state.datasets a (put_into how records) (put_into-address how records) state.tables valid.homes
tables-homes (table.DeleteRows a ids) call state valid fit =
    home-made state.datasets a (without_rows ids) (λ t. refl) state.tables valid.homes

tables-valid : (change : TableChange) (call : Call) (state : State) → IsValid state
    → IsFitTable (call_view_of call state) state.tables change → IsValid (changed (Tables change) state)
tables-valid change call state valid fit = record {
  people = valid.people;
  orgs = valid.orgs;
  roles = valid.roles;
  datasets = valid.datasets;
  names = valid.names;
  sound = valid.sound;
  tables = fit-kept (call_view_of call state) state.tables change valid.tables fit;
  homes = tables-homes change call state valid fit;
  sources = valid.sources;
  owners = valid.owners;
  quota_used = valid.quota_used;
}

-- ---- sources that change

-- a new source has a name
new-named : (change : SourceChange) (call : Call) (state : State)
    → IsFitSource (call_view_of call state) state.sources change → IsNamed change
new-named (source.Create new) call state fit = fit.named
new-named (source.Update name title url) call state fit = tt
new-named (source.Remove name) call state fit = tt
new-named (source.AddJob name created) call state fit = tt

-- and its organization exists
new-owned : (change : SourceChange) (call : Call) (state : State)
    → IsFitSource (call_view_of call state) state.sources change → AddsOwner (OrgExists state.people) change
new-owned (source.Create new) call state fit = fit.owned
new-owned (source.Update name title url) call state fit = tt
new-owned (source.Remove name) call state fit = tt
new-owned (source.AddJob name created) call state fit = tt

-- A change that is fit, and claims nothing that is in use, has no fault.
source-unfaulted : (change : SourceChange) (call : Call) (state : State)
    → IsFitSource (call_view_of call state) state.sources change → AreUnused state (claims_of (Sources change))
    → source_fault change state.sources ≡ None
source-unfaulted (source.Create new) call state fit unused =
    ap (λ (b : Bool). cond {A = Option StageFault} b (Some SourceNameInUse) None)
    (first_unused (is_in_use state) (SourceName new.name) [] unused).0
source-unfaulted (source.Update name title url) call state fit unused = fit.possible
source-unfaulted (source.Remove name) call state fit unused = fit.possible
source-unfaulted (source.AddJob name created) call state fit unused = fit.possible

-- So the sources can take it.
pub source-taken : (change : SourceChange) (call : Call) (state : State)
    → IsFitSource (call_view_of call state) state.sources change → AreUnused state (claims_of (Sources change))
    → IsTakenBySources change state.sources
source-taken change call state fit unused = record {
  named = new-named change call state fit;
  allowed = ap is_none (source-unfaulted change call state fit unused);
}

-- ---- datasets that go with a source

-- Where only harvested datasets go, the state is valid: none of them has a table.
pub kept-valid : (keep : Package → Bool) (state : State) → IsValid state
    → ((d : Package) → IsIn d state.datasets → keep d ≡ false → is_harvested d ≡ true)
    → IsValid (record state { datasets = filter keep state.datasets })
kept-valid keep state valid goes = record {
  people = valid.people;
  orgs = valid.orgs;
  roles = valid.roles;
  datasets = IsAscending-filter dataset_cmp keep state.datasets valid.datasets;
  names = λ d e in_d in_e same. valid.names d e (was-there d in_d) (was-there e in_e) same;
  sound = All-filter keep (IsSoundAmong state.people state.sources) state.datasets valid.sound;
  tables = valid.tables;
  homes = All-each (HasHome (filter keep state.datasets)) state.tables
      (λ t m. home-kept t (All-IsIn (HasHome state.datasets) state.tables valid.homes t m));
  sources = valid.sources;
  owners = valid.owners;
  quota_used = valid.quota_used;
}
  where
    was-there : (d : Package) → Contains (filter keep state.datasets) d → Contains state.datasets d
    was-there d m =
        Contains-IsIn d state.datasets
        (IsIn-filter keep d state.datasets (IsIn-Contains d (filter keep state.datasets) m)).0

    stays : (d : Package) → IsIn d state.datasets → is_harvested d ≡ false → (b : Bool) → keep d ≡ b → keep d ≡ true
    stays d m made true is = is
    stays d m made false is = absurd (true≢false (sym (goes d m is) ∙ made))

    home-kept : (t : ResourceTable) → HasHome state.datasets t → HasHome (filter keep state.datasets) t
    home-kept t home =
        let m : IsIn home.dataset state.datasets = IsIn-Contains home.dataset state.datasets home.is_present in
        record {
          dataset = home.dataset;
          is_present = Contains-IsIn home.dataset (filter keep state.datasets)
              (filter-IsIn keep home.dataset state.datasets m
              (stays home.dataset m home.made (keep home.dataset) refl));
          id = home.id;
          made = home.made;
          resource = home.resource;
        }

turned : (b : Bool) → not b ≡ false → b ≡ true
turned true is = refl
turned false is = absurd (cc)

-- So it is where the datasets of a source go.
left-valid : (change : SourceChange) (state : State) → IsValid state → source_fault change state.sources ≡ None
    → IsValid (record state { datasets = datasets_left change state.datasets })
left-valid (source.Create new) state valid none = valid
left-valid (source.Update name title url) state valid none = valid
left-valid (source.Remove name) state valid none =
    let there = unfaulted-source state.sources name none in
    let s = named-in state.sources name there.0 there.1 in
    kept-valid (λ d. not (is_of_source name d)) state valid
    (λ d m gone. of-source_harvested d name
    (subst (λ (n : List ℕ). n ≢ []) s.1 (source-named state.sources there.0 valid.sources s.0))
    ((bytes_eq-Decides d.source name).0 (turned (is_of_source name d) gone)))
left-valid (source.AddJob name created) state valid none = valid

-- The sources of the datasets that are left aren't removed.
left-spared : (change : SourceChange) (d : Package) (datasets : List Package) (other : List ℕ)
    → IsIn d (datasets_left change datasets) → d.source ≡ other → IsSpared change other
left-spared (source.Create new) d datasets other m is = tt
left-spared (source.Update name title url) d datasets other m is = tt
left-spared (source.Remove name) d datasets other m is =
    ap (λ (n : List ℕ). bytes_eq n name) (sym is)
    ∙ unnot (bytes_eq d.source name) (IsIn-filter (λ e. not (is_of_source name e)) d datasets m).1
  where
    unnot : (b : Bool) → not b ≡ true → b ≡ false
    unnot true is = absurd (cc)
    unnot false is = refl
left-spared (source.AddJob name created) d datasets other m is = tt

sources-valid : (change : SourceChange) (call : Call) (state : State) → IsValid state
    → IsFitSource (call_view_of call state) state.sources change → AreUnused state (claims_of (Sources change))
    → IsValid (changed (Sources change) state)
sources-valid change call state valid fit unused =
    let none : source_fault change state.sources ≡ None = source-unfaulted change call state fit unused in
    let left = left-valid change state valid none in
    record {
      people = valid.people;
      orgs = valid.orgs;
      roles = valid.roles;
      datasets = left.datasets;
      names = left.names;
      sound = All-each (IsSoundAmong state.people (changed_sources change state.sources))
          (datasets_left change state.datasets)
          (λ d m. sound-after none d m (All-IsIn (IsSoundAmong state.people state.sources)
          (datasets_left change state.datasets) left.sound d m));
      tables = valid.tables;
      homes = left.homes;
      sources = sources-kept change state.sources valid.sources (new-named change call state fit) none;
      owners = owners-kept (OrgExists state.people) change state.sources (new-owned change call state fit)
          valid.owners;
      quota_used = valid.quota_used;
    }
  where
    sound-after : source_fault change state.sources ≡ None → (d : Package)
        → IsIn d (datasets_left change state.datasets) → IsSoundAmong state.people state.sources d
        → IsSoundAmong state.people (changed_sources change state.sources) d
    sound-after none d m (inl sound) = inl sound
    sound-after none d m (inr from) =
        inr (harvested-among state.sources (changed_sources change state.sources) d
        (λ s n is. sources-stay change state.sources valid.sources none s n
        (left-spared change d state.datasets s.source.name m is)) from)

-- ---- a change, and what is charged for it

pub changed_valid : (change : PlannedChange) (call : Call) (state : State) → IsValid state
    → IsFit call state change → AreUnused state (claims_of change) → IsValid (changed change state)
changed_valid (People change) call state valid fit unused = people-valid change call state valid fit unused
changed_valid (Datasets change) call state valid fit unused = datasets-valid change call state valid fit unused
changed_valid (Tables change) call state valid fit unused = tables-valid change call state valid fit
changed_valid (Sources change) call state valid fit unused = sources-valid change call state valid fit unused

pub charged_valid : (caller : Caller) (size : ℕ) (state : State) → IsValid state → IsValid (charged caller size state)
charged_valid Anonymous size state valid = valid
charged_valid (Named user) size state valid = record {
  people = valid.people;
  orgs = valid.orgs;
  roles = valid.roles;
  datasets = valid.datasets;
  names = valid.names;
  sound = valid.sound;
  tables = valid.tables;
  homes = valid.homes;
  sources = valid.sources;
  owners = valid.owners;
  quota_used = IsAscending-upserted quota_used_cmp quota_used_cmp_total
      (record { user = user; bytes = accepted_bytes_of_user user state.quota_used + size }) state.quota_used
      valid.quota_used;
}

-- ---- what is harvested

made-here_open : (d : Package) → is_harvested d ≡ false → is_public_if_harvested d ≡ true
made-here_open d here = ap (λ b. not b || is_public d) here

or_so : (a : Bool) → (a || true) ≡ true
or_so true = refl
or_so false = refl

sound-open : (people : PeopleLists) (sources : List SourceState) (d : Package) → IsSoundAmong people sources d
    → is_public_if_harvested d ≡ true
sound-open people sources d (inl sound) = made-here_open d sound.not_harvested
sound-open people sources d (inr from) =
    ap (λ b. not (is_harvested d) || b) from.seen ∙ or_so (not (is_harvested d))

-- in a valid state nothing is harvested that isn't open
pub harvested_open : (state : State) → IsValid state → list_all is_public_if_harvested state.datasets ≡ true
harvested_open state valid =
    IsIn-list_all is_public_if_harvested state.datasets
    (λ d within. sound-open state.people state.sources d (sound-in state d valid within))

-- In a valid state what is fit on the caller's view is fit to be made.
pub fit_in_valid : (change : PlannedChange) (call : Call) (state : State) → IsValid state
    → IsFit call (view_of call.caller state) change → IsFit call state change
fit_in_valid change call state valid fit =
    fit_in_state change call state (harvested_open state valid) valid.sources.ascending fit

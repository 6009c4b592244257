-- Everybody sees the public datasets. Whoever administers an organization sees all its datasets.
use Rattle.std.proofs.Common.{◌≡◌, ℕ, Bool, true, false, not, ◌&&◌, ◌||◌, cond, List, [], ◌∷◌, Option, Some, None}
use Rattle.std.proofs.Common.{refl, sym, ap, ◌∙◌, length, map}
use Rattle.std.specs.Prelude.{filter, IsTrue}
use Rattle.std.specs.List.{list_any, list_all}
use Rattle.std.specs.Str.{bytes_eq}
use Rattle.std.proofs.lemmas.Slice.Eq.{bytes_eq-Decides}
use Rattle.portal_base.specs.declared.caller.Caller.{Caller}
use Rattle.org_roles.specs.PeopleLists.{PeopleLists, is_sysadmin_in}
use Rattle.org_roles.specs.Rights.{rights_for}
use Rattle.org_roles.specs.declared.role.Role.{Role}
use Rattle.org_roles.specs.declared.role.Role.TheVariants.{Member, Editor, Admin}
use Rattle.packages.specs.Tags.{text_set}
use Rattle.packages.specs.declared.package.Package.{Package}
use Rattle.packages.specs.declared.package.State.{State}
use Rattle.packages.specs.declared.package.State.TheVariants.{Draft, Active, Deleted}
use Rattle.visibility.specs.Visibility.{caller_role, is_harvested, is_creator, is_public, is_active}
use Rattle.visibility.specs.Visibility.{is_public_if_harvested, may_edit_in, sees_in, sees_state_in, sees_private_in}
use Rattle.visibility.specs.View.{administers, people_seen, datasets_seen, public_count, has_datasets, public_names}
use Rattle.visibility.proofs.ViewLemmas.{filter-kept, administers_seen}

or_true : (a b : Bool) → b ≡ true → (a || b) ≡ true
or_true true b is = refl
or_true false b is = is

-- everybody sees a public dataset
public_state : (state : State) (people : PeopleLists) (caller : Caller) (dataset : Package)
    → (is_active state && not dataset.private) ≡ true → sees_state_in state people caller dataset ≡ true
public_state Draft people caller dataset is = absurd (cc)
public_state Active people caller dataset is = ap (λ b. b || sees_private_in people caller dataset) is
public_state Deleted people caller dataset is = absurd (cc)

pub public_is_seen : (people : PeopleLists) (caller : Caller) (dataset : Package)
    → is_public dataset ≡ true → sees_in people caller dataset ≡ true
public_is_seen people caller dataset is =
    or_true (is_sysadmin_in people caller) (sees_state_in dataset.state people caller dataset)
    (public_state dataset.state people caller dataset is)

public_kept : (own free seen : Bool) → (free ≡ true → seen ≡ true) → ((own && free) && seen) ≡ (own && free)
public_kept false free seen sees = refl
public_kept true false seen sees = refl
public_kept true true seen sees = sees refl

pub public_count_seen : (caller : Caller) (people : PeopleLists) (org : List ℕ) (datasets : List Package)
    → public_count org (datasets_seen caller people datasets) ≡ public_count org datasets
public_count_seen caller people org datasets =
    ap length
    (filter-kept (λ (d : Package). bytes_eq d.owner_org org && is_public d) (sees_in people caller)
    (λ d. public_kept (bytes_eq d.owner_org org) (is_public d) (sees_in people caller d)
    (public_is_seen people caller d))
    datasets)

pub public_names_seen : (caller : Caller) (people : PeopleLists) (datasets : List Package)
    → public_names (datasets_seen caller people datasets) ≡ public_names datasets
public_names_seen caller people datasets =
    ap (λ (free : List Package). text_set (map (λ (d : Package). d.name) free))
    (filter-kept is_public (sees_in people caller)
    (λ d. public_kept true (is_public d) (sees_in people caller d) (public_is_seen people caller d)) datasets)

-- ---- admins of an organization

-- an admin has the right to edit and to see private datasets
admin_edits : (role : Option Role) → (rights_for role).administer ≡ true
    → ((rights_for role).edit ≡ true) × ((rights_for role).see_private ≡ true)
admin_edits None is = absurd (cc)
admin_edits (Some Member) is = absurd (cc)
admin_edits (Some Editor) is = absurd (cc)
admin_edits (Some Admin) is = (refl, refl)

-- an admin of its organization sees a dataset of any state
admin_state : (state : State) (people : PeopleLists) (caller : Caller) (dataset : Package)
    → (rights_for (caller_role people caller dataset.owner_org)).administer ≡ true
    → (not (is_harvested dataset) || (is_active state && not dataset.private)) ≡ true
    → sees_state_in state people caller dataset ≡ true
admin_state Draft people caller dataset own free =
    or_true (is_creator caller dataset) (may_edit_in people caller dataset) (edits (is_harvested dataset) refl free)
  where
    edits : (h : Bool) → is_harvested dataset ≡ h → (not h || false) ≡ true → may_edit_in people caller dataset ≡ true
    edits true is o = absurd (cc)
    edits false is o =
        ap (λ b. not b
        && (is_sysadmin_in people caller || (rights_for (caller_role people caller dataset.owner_org)).edit)) is
        ∙ or_true (is_sysadmin_in people caller) _ (admin_edits (caller_role people caller dataset.owner_org) own).0
admin_state Active people caller dataset own free =
    or_true (not dataset.private) (sees_private_in people caller dataset)
    (admin_edits (caller_role people caller dataset.owner_org) own).1
admin_state Deleted people caller dataset own free = edits (is_harvested dataset) refl free
  where
    edits : (h : Bool) → is_harvested dataset ≡ h → (not h || false) ≡ true → may_edit_in people caller dataset ≡ true
    edits true is o = absurd (cc)
    edits false is o =
        ap (λ b. not b
        && (is_sysadmin_in people caller || (rights_for (caller_role people caller dataset.owner_org)).edit)) is
        ∙ or_true (is_sysadmin_in people caller) _ (admin_edits (caller_role people caller dataset.owner_org) own).0

pub admin_sees : (people : PeopleLists) (caller : Caller) (dataset : Package)
    → administers people caller dataset.owner_org ≡ true → is_public_if_harvested dataset ≡ true
    → sees_in people caller dataset ≡ true
admin_sees people caller dataset own free =
    by (is_sysadmin_in people caller) own
  where
    by : (s : Bool) → (s || (rights_for (caller_role people caller dataset.owner_org)).administer) ≡ true
        → (s || sees_state_in dataset.state people caller dataset) ≡ true
    by true o = refl
    by false o = admin_state dataset.state people caller dataset o free

both : (a b : Bool) → (a && b) ≡ true → (a ≡ true) × (b ≡ true)
both true b is = (refl, is)
both false b is = absurd (cc)

-- If a filter keeps every item that passes a test, some item passes the test just if one of the kept items does.
any_kept : {X : Type 0} (p q r : X → Bool) → ((x : X) → r x ≡ true → p x ≡ true → q x ≡ true) → (xs : List X)
    → list_all r xs ≡ true → list_any p (filter q xs) ≡ list_any p xs
any_kept p q r kept [] all = refl
any_kept {X} p q r kept (x ∷ xs) all =
    by (p x) refl (q x) refl (any_kept p q r kept xs (both (r x) (list_all r xs) all).1)
  where
    by : (a : Bool) → p x ≡ a → (b : Bool) → q x ≡ b → list_any p (filter q xs) ≡ list_any p xs
        → list_any p (cond b (x ∷ filter q xs) (filter q xs)) ≡ (a || list_any p xs)
    by a is true keeps rest = ap (λ c. c || list_any p (filter q xs)) is ∙ ap (λ c. a || c) rest
    by true is false keeps rest =
        let seen : q x ≡ true = kept x (both (r x) (list_all r xs) all).0 is in absurd (cc)
    by false is false keeps rest = rest

-- whoever administers an organization sees whether it has a dataset
pub has_datasets_administered : (caller : Caller) (people : PeopleLists) (org : List ℕ) (datasets : List Package)
    → administers people caller org ≡ true → list_all is_public_if_harvested datasets ≡ true
    → has_datasets org (datasets_seen caller people datasets) ≡ has_datasets org datasets
has_datasets_administered caller people org datasets own free =
    any_kept (λ (d : Package). bytes_eq d.owner_org org) (sees_in people caller) is_public_if_harvested
    (λ d harvested is. admin_sees people caller d
    (ap (administers people caller) ((bytes_eq-Decides d.owner_org org).0 is) ∙ own) harvested)
    datasets free

pub has_datasets_seen : (caller : Caller) (people : PeopleLists) (org : List ℕ) (datasets : List Package)
    → IsTrue (administers (people_seen caller people) caller org) → IsTrue (list_all is_public_if_harvested datasets)
    → has_datasets org (datasets_seen caller people datasets) ≡ has_datasets org datasets
has_datasets_seen caller people org datasets own free =
    has_datasets_administered caller people org datasets (sym (administers_seen caller people org) ∙ own) free

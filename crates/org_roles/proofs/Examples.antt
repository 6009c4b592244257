-- Worked examples: five users, one organization, and three roles in it.
use Rattle.std.proofs.Common.{◌≡◌, ℕ, Bool, true, false, List, [], ◌∷◌, Option, Some, None, refl}
use Rattle.std.specs.Prelude.{codes}
use Rattle.portal_base.specs.declared.moment.Moment.{Moment}
use Rattle.portal_base.specs.declared.caller.Caller.TheVariants.{Anonymous, Named}
use Rattle.org_roles.specs.declared.entry.User.{User}
use Rattle.org_roles.specs.declared.entry.Org.{Org}
use Rattle.org_roles.specs.declared.entry.Membership.{Membership}
use Rattle.org_roles.specs.declared.role.Role.{Role}
use Rattle.org_roles.specs.declared.role.Role.TheVariants.{Member, Editor, Admin}
use Rattle.org_roles.specs.declared.change.OrgChange.{OrgChange}
use Rattle.org_roles.specs.declared.change.OrgChange.TheVariants.{Create, Patch, Remove, SetRole, DropRole}
use Rattle.org_roles.specs.declared.change.OrgFault.TheVariants.{OrgNameInUse, UnknownOrg, UnknownUser, NoRole}
use Rattle.portal_base.specs.Ordered.{ascending}
use Rattle.org_roles.specs.Changed.{changed_people, org_fault, has_room}
use Rattle.org_roles.specs.Restored.{is_restorable, memberships_of}
use Rattle.org_roles.specs.Distinct.{have_distinct_names, have_distinct_org_names, have_distinct_pairs}
use Rattle.org_roles.specs.Order.{users_ascending, membership_cmp}
use Rattle.org_roles.specs.PeopleLists.{PeopleLists, role_in, is_sysadmin_in, is_user_in}

abbrev user : List ℕ → Bool → User
user name sysadmin = record { name = name; sysadmin = sysadmin }

abbrev org : List ℕ → List ℕ → Moment → Org
org name title created = record { name = name; title = title; description = []; created = created }

abbrev in_city : List ℕ → Role → Membership
in_city name role = record { org = codes "city"; user = name; role = role }

abbrev worked_users : List User
worked_users = user (codes "root") true ∷ user (codes "ann") false ∷ user (codes "bob") false ∷ user
    (codes "cyn") false ∷ user (codes "dan") false ∷ []

abbrev worked_roles : List Membership
worked_roles = in_city (codes "cyn") Admin ∷ in_city (codes "ann") Editor ∷ in_city (codes "bob") Member ∷ []

abbrev worked : PeopleLists
worked = record { users = users_ascending worked_users; orgs = []; roles = ascending membership_cmp worked_roles }

distinct : have_distinct_names worked_users ≡ true
distinct = refl

distinct_pairs : have_distinct_pairs worked_roles ≡ true
distinct_pairs = refl

-- A second role of a user in one organization repeats the pair, whatever the role.
pair_twice : have_distinct_pairs (in_city (codes "ann") Member ∷ worked_roles) ≡ false
pair_twice = refl

-- Two organizations with the same name repeat it, whatever their titles.
org_name_twice : (t : Moment)
    → have_distinct_org_names
    (org (codes "city") (codes "City") t ∷ org (codes "lake") [] t ∷ org (codes "city") [] t ∷ []) ≡ false
org_name_twice t = refl

-- The users by name: root comes last.
by_name : users_ascending worked_users
    ≡ user (codes "ann") false ∷ user (codes "bob") false ∷ user (codes "cyn") false ∷ user (codes "dan") false ∷ user
    (codes "root") true ∷ []
by_name = refl

ann_edits : role_in worked (codes "city") (codes "ann") ≡ Some Editor
ann_edits = refl

dan_has_no_role : role_in worked (codes "city") (codes "dan") ≡ None
dan_has_no_role = refl

root_is_sysadmin : is_sysadmin_in worked (Named (codes "root")) ≡ true
root_is_sysadmin = refl

ann_is_not : is_sysadmin_in worked (Named (codes "ann")) ≡ false
ann_is_not = refl

nobody_is_not : is_sysadmin_in worked Anonymous ≡ false
nobody_is_not = refl

eve_is_no_user : is_user_in worked (codes "eve") ≡ false
eve_is_no_user = refl

-- ---- changes

-- the same with the organization, which was made at that moment
abbrev worked_city : Moment → PeopleLists
worked_city t = record worked { orgs = org (codes "city") (codes "City") t ∷ [] }

-- the role of the user in `city` once the change is made
abbrev role_after : Moment → OrgChange → List ℕ → Option Role
role_after t change name = role_in (changed_people change (worked_city t)) (codes "city") name

-- A new organization is at its position by name, and a second one of the same name is refused.
lake_created : (t : Moment)
    → (changed_people (Create (org (codes "lake") [] t)) (worked_city t)).orgs
    ≡ org (codes "city") (codes "City") t ∷ org (codes "lake") [] t ∷ []
lake_created t = refl

city_not_created : (t : Moment) → org_fault (Create (org (codes "city") [] t)) (worked_city t) ≡ Some OrgNameInUse
city_not_created t = refl

-- The patched organization replaces the old one, and the roles in it stay.
city_patched : (t : Moment)
    → changed_people (Patch (org (codes "city") (codes "Town") t)) (worked_city t)
    ≡ record (worked_city t) { orgs = org (codes "city") (codes "Town") t ∷ [] }
city_patched t = refl

lake_not_patched : (t : Moment) → org_fault (Patch (org (codes "lake") [] t)) (worked_city t) ≡ Some UnknownOrg
lake_not_patched t = refl

-- The removal of an organization removes its roles, and the users stay.
city_removed : (t : Moment)
    → changed_people (Remove (codes "city")) (worked_city t) ≡ record worked { orgs = []; roles = [] }
city_removed t = refl

lake_not_removed : (t : Moment) → org_fault (Remove (codes "lake")) (worked_city t) ≡ Some UnknownOrg
lake_not_removed t = refl

-- A role that is set replaces the one before, and another user keeps hers.
ann_administers : (t : Moment) → role_after t (SetRole (codes "city") (codes "ann") Admin) (codes "ann") ≡ Some Admin
ann_administers t = refl

cyn_still_does : (t : Moment) → role_after t (SetRole (codes "city") (codes "ann") Admin) (codes "cyn") ≡ Some Admin
cyn_still_does t = refl

dan_joins_in_order : (t : Moment)
    → (changed_people (SetRole (codes "city") (codes "dan") Member) (worked_city t)).roles
    ≡ in_city (codes "ann") Editor ∷ in_city (codes "bob") Member ∷ in_city (codes "cyn") Admin
    ∷ in_city (codes "dan") Member ∷ []
dan_joins_in_order t = refl

-- If neither the organization nor the user exists, the fault is the organization's.
both_unknown : (t : Moment)
    → org_fault (SetRole (codes "lake") (codes "eve") Member) (worked_city t) ≡ Some UnknownOrg
both_unknown t = refl

eve_unknown : (t : Moment) → org_fault (SetRole (codes "city") (codes "eve") Member) (worked_city t) ≡ Some UnknownUser
eve_unknown t = refl

bob_leaves : (t : Moment)
    → (changed_people (DropRole (codes "city") (codes "bob")) (worked_city t)).roles
    ≡ in_city (codes "ann") Editor ∷ in_city (codes "cyn") Admin ∷ []
bob_leaves t = refl

dan_has_none_to_drop : (t : Moment)
    → org_fault (DropRole (codes "city") (codes "dan")) (worked_city t) ≡ Some NoRole
dan_has_none_to_drop t = refl

-- The fault of an unknown user comes first, even if a role names her.
eve_keeps_hers : (t : Moment)
    → org_fault (DropRole (codes "city") (codes "eve"))
    (record (worked_city t) { roles = in_city (codes "eve") Member ∷ [] }) ≡ Some UnknownUser
eve_keeps_hers t = refl

bob_may_leave : (t : Moment) → org_fault (DropRole (codes "city") (codes "bob")) (worked_city t) ≡ None
bob_may_leave t = refl

-- A change needs room only if it can add an entry.
no_room_for_a_role :
    has_room (SetRole (codes "city") (codes "ann") Admin) (record { org = true; role = false }) ≡ false
no_room_for_a_role = refl

no_room_needed : has_room (Remove (codes "city")) (record { org = false; role = false }) ≡ true
no_room_needed = refl

-- ---- lists from which people can be restored

-- The user of a role needn't exist.
restored : (t : Moment)
    → is_restorable (org (codes "city") [] t ∷ []) (memberships_of ((codes "city", codes "eve", Member) ∷ [])) ≡ true
restored t = refl

city_twice : (t : Moment)
    → is_restorable (org (codes "city") [] t ∷ org (codes "city") (codes "City") t ∷ []) [] ≡ false
city_twice t = refl

role_in_no_organization : (t : Moment) → is_restorable (org (codes "lake") [] t ∷ []) worked_roles ≡ false
role_in_no_organization t = refl

two_roles_of_a_pair : (t : Moment)
    → is_restorable (org (codes "city") [] t ∷ []) (in_city (codes "ann") Member ∷ worked_roles) ≡ false
two_roles_of_a_pair t = refl

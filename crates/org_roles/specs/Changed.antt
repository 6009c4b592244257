-- The changes of people, as entries that are set or dropped by their key, and why a change is refused.
use Rattle.std.specs.Prelude.{ℕ, Bool, true, not, if◌then◌else◌, IsTrue, List, [], ◌∷◌, Option, Some, None}
use Rattle.std.specs.Prelude.{is_some, is_none}
use Rattle.portal_base.specs.Ordered.{upserted, dropped}
use Rattle.org_roles.specs.declared.change.OrgChange.{OrgChange}
use Rattle.org_roles.specs.declared.change.OrgChange.TheVariants.{Create, Patch, Remove, SetRole, DropRole}
use Rattle.org_roles.specs.declared.change.OrgFault.{OrgFault}
use Rattle.org_roles.specs.declared.change.OrgFault.TheVariants.{OrgNameInUse, UnknownOrg, UnknownUser, NoRole}
use Rattle.org_roles.specs.declared.entry.Org.{Org}
use Rattle.org_roles.specs.declared.entry.Membership.{Membership}
use Rattle.org_roles.specs.Order.{org_cmp, membership_cmp, org_at, membership_in_org_at, pair_at}
use Rattle.org_roles.specs.PeopleLists.{PeopleLists, Room, PeopleWithRoom, is_user_in, org_in, role_in}

-- ---- entries

-- the people with this organization, which replaces the one of its name, if there is one
abbrev pub with_org : Org → PeopleLists → PeopleLists
with_org org people = record people { orgs = upserted org_cmp org people.orgs }

-- the people without the organization of that name, and without the roles in it
abbrev pub without_org : List ℕ → PeopleLists → PeopleLists
without_org name people = record people {
  orgs = dropped (org_at name) people.orgs;
  roles = dropped (membership_in_org_at name) people.roles;
}

-- the people with this role, which replaces the one of its organization and user, if there is one
abbrev pub with_role : Membership → PeopleLists → PeopleLists
with_role membership people = record people { roles = upserted membership_cmp membership people.roles }

-- the people without the role of that user in that organization
abbrev pub without_role : List ℕ → List ℕ → PeopleLists → PeopleLists
without_role org user people = record people { roles = dropped (pair_at org user) people.roles }

-- ---- changes

-- the people after the change
abbrev pub changed_people : OrgChange → PeopleLists → PeopleLists
changed_people (Create org) people = with_org org people
changed_people (Patch org) people = with_org org people
changed_people (Remove name) people = without_org name people
changed_people (SetRole org user role) people = with_role (record { org = org; user = user; role = role }) people
changed_people (DropRole org user) people = without_role org user people

-- the people after these changes, one after the other
abbrev pub people_after : List OrgChange → PeopleLists → PeopleLists
people_after [] people = people
people_after (change ∷ changes) people = people_after changes (changed_people change people)

-- the fault of naming an organization that doesn't exist, and else this fault
abbrev pub fault_in_org : List ℕ → Option OrgFault → PeopleLists → Option OrgFault
fault_in_org name fault people = if is_none (org_in people name) then Some UnknownOrg else fault

-- the fault of naming an organization that doesn't exist, or else a user who doesn't, and else this fault
abbrev pub fault_of_member : List ℕ → List ℕ → Option OrgFault → PeopleLists → Option OrgFault
fault_of_member org user fault people =
    fault_in_org org (if not (is_user_in people user) then Some UnknownUser else fault) people

-- The first fault of the change. No organization may have a new organization's name. An organization that is patched or
-- removed has to exist. A role needs an organization and a user that exist, and one that is dropped has to exist.
abbrev pub org_fault : OrgChange → PeopleLists → Option OrgFault
org_fault (Create org) people = if is_some (org_in people org.name) then Some OrgNameInUse else None
org_fault (Patch org) people = fault_in_org org.name None people
org_fault (Remove name) people = fault_in_org name None people
org_fault (SetRole org user role) people = fault_of_member org user None people
org_fault (DropRole org user) people =
    fault_of_member org user (if is_none (role_in people org user) then Some NoRole else None) people

-- each of the changes has no fault, on the people after the changes before it
abbrev pub AreAllowed : List OrgChange → PeopleLists → Type 0
AreAllowed [] people = Unit {0}
AreAllowed (change ∷ changes) people =
    IsTrue (is_none (org_fault change people)) × AreAllowed changes (changed_people change people)

-- ---- prepared changes

-- whether there is room for what the change adds
abbrev pub has_room : OrgChange → Room → Bool
has_room (Create org) room = room.org
has_room (Patch org) room = true
has_room (Remove name) room = true
has_room (SetRole org user role) room = room.role
has_room (DropRole org user) room = true

-- A change that can be made: it has no fault, and there is room for it.
pub record IsReady (change : OrgChange) (on : PeopleWithRoom) : Type 0 where
  pub allowed : IsTrue (is_none (org_fault change on.people))
  pub room : IsTrue (has_room change on.room)

-- Who sees a dataset, who may edit it, and the class of a dataset.
use Rattle.std.specs.Prelude.{ℕ, Bool, true, false, not, ◌&&◌, ◌||◌, List, [], ◌∷◌, Option, None}
use Rattle.std.specs.Str.{bytes_eq}
use Rattle.portal_base.specs.declared.caller.Caller.{Caller}
use Rattle.portal_base.specs.declared.caller.Caller.TheVariants.{Anonymous, Named}
use Rattle.org_roles.specs.PeopleLists.{PeopleLists, role_in, is_sysadmin_in}
use Rattle.org_roles.specs.Rights.{rights_for}
use Rattle.org_roles.specs.declared.role.Role.{Role}
use Rattle.packages.specs.declared.package.Package.{Package}
use Rattle.packages.specs.declared.package.State.{State}
use Rattle.packages.specs.declared.package.State.TheVariants.{Draft, Active, Deleted}
use Rattle.visibility.specs.declared.class.Class.{Class}
use Rattle.visibility.specs.declared.class.Class.TheVariants.{Public, Inside, Editing}

-- the caller's role in the organization
abbrev pub caller_role : PeopleLists → Caller → List ℕ → Option Role
caller_role people Anonymous org = None
caller_role people (Named user) org = role_in people org user

-- the name of a dataset's source isn't empty
abbrev pub is_source : List ℕ → Bool
is_source [] = false
is_source (b ∷ bs) = true

-- whether the dataset was harvested from a source
abbrev pub is_harvested : Package → Bool
is_harvested dataset = is_source dataset.source

-- whether the caller created the dataset
abbrev pub is_creator : Caller → Package → Bool
is_creator Anonymous dataset = false
is_creator (Named user) dataset = bytes_eq user dataset.creator

-- Nobody may edit a harvested dataset. Sysadmins, and editors and admins of its organization, may edit any other.
abbrev pub may_edit_in : PeopleLists → Caller → Package → Bool
may_edit_in people caller dataset =
    not (is_harvested dataset)
    && (is_sysadmin_in people caller || (rights_for (caller_role people caller dataset.owner_org)).edit)

-- whether the caller's role in the dataset's organization lets it see private datasets
abbrev pub sees_private_in : PeopleLists → Caller → Package → Bool
sees_private_in people caller dataset = (rights_for (caller_role people caller dataset.owner_org)).see_private

-- Who sees a dataset in a state, apart from sysadmins. Its creator and whoever may edit it see a draft. Everybody sees
-- an active dataset that isn't private; whoever has a role in its organization sees one that is. Whoever may edit it
-- sees a deleted dataset.
abbrev pub sees_state_in : State → PeopleLists → Caller → Package → Bool
sees_state_in Draft people caller dataset = is_creator caller dataset || may_edit_in people caller dataset
sees_state_in Active people caller dataset = not dataset.private || sees_private_in people caller dataset
sees_state_in Deleted people caller dataset = may_edit_in people caller dataset

-- A sysadmin sees every dataset. Its state decides who else sees it.
abbrev pub sees_in : PeopleLists → Caller → Package → Bool
sees_in people caller dataset = is_sysadmin_in people caller || sees_state_in dataset.state people caller dataset

-- the class of an active dataset, by whether it is private
abbrev pub class_of_active : Bool → List ℕ → Class
class_of_active false org = Public
class_of_active true org = Inside org

-- the class of a dataset in a state
abbrev pub class_of_state : State → Package → Class
class_of_state Draft dataset = Editing dataset.owner_org
class_of_state Active dataset = class_of_active dataset.private dataset.owner_org
class_of_state Deleted dataset = Editing dataset.owner_org

-- An active dataset is for everybody or for those with a role in its organization. Any other is for those who edit
-- there.
abbrev pub class_for : Package → Class
class_for dataset = class_of_state dataset.state dataset

abbrev pub is_active : State → Bool
is_active Draft = false
is_active Active = true
is_active Deleted = false

-- active and not private, so that everybody sees it
abbrev pub is_public : Package → Bool
is_public dataset = is_active dataset.state && not dataset.private

-- a harvested dataset is public
abbrev pub is_public_if_harvested : Package → Bool
is_public_if_harvested dataset = not (is_harvested dataset) || is_public dataset
